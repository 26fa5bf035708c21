-- `abtm_check::count_ahead` meets its contract. Assumes nothing.
use Rattle.std.proofs.Common.{arith}
use Rattle.abtm_values.specs.Values.{solid}
use Rattle.lent.proofs.ListLaws.{length-only}
use Rattle.word.proofs.PassLaws.{part_apart}
use Rattle.abtm_check.proofs.count_ahead.Goals as goal

pub overflow_add-result : goal.overflow_add-result
overflow_add-result c = let l = c.args.values.now in
    let from = c.args.done.upto in
    let to = c.min-to.result in
    let e = c.min-to.ensures in
    let part = part_apart l solid from to (omega (arith, c.requires)) in
    omega (arith, length-only solid l, part, c.requires, c.count_solid.ensures)

pub returns : goal.returns
returns c = let l = c.args.values.now in
    let from = c.args.done.upto in
    let to = c.min-to.result in
    let e = c.min-to.ensures in
    let part = part_apart l solid from to (omega (arith, c.requires)) in
    (omega (arith, c.requires), omega (arith, part, c.requires, c.count_solid.ensures))
