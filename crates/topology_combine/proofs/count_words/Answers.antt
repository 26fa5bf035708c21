-- `topology_combine::count_words` meets its contract. Assumes nothing.
use Prim.Native.Nat.{◌+◌}
use mathlib.Core.Path.{refl}
use native.Mathlib.Omega.{arith}
use Rattle.lent.specs.Lists.{joined}
use Rattle.topology_pair.proofs.PairLaws.{pair_of}
use Rattle.topology_combine.proofs.RowsLaws.{lent_rule, lent_other, counted_few, counting_more, counting_done}
use borrow.Author.Rules.{rules}
use Rattle.topology_combine.proofs.count_words.Goals as goal

pub invariant_of-left : goal.invariant_of-left
invariant_of-left c = record { framed = (pair_of _ _ c.requires).one.lists }

pub invariant_of-right : goal.invariant_of-right
invariant_of-right c = record { framed = (pair_of _ _ c.requires).two.lists }

pub loop-row-init : goal.loop-row-init
unfolding joined
loop-row-init c = (search rules, refl)

pub invariant_of-rows : goal.invariant_of-rows
invariant_of-rows c = let p = pair_of _ _ c.requires in
    let one = c.row.ensures in
    let two = c.row-in-loop-row.ensures in
    record { rule = lent_rule _ _ _ _ _ _ _ one.words one.masks two.words two.masks p c.loop-row-test.true; other_rule = lent_other _ _ _ _ _ _ _ one.words one.masks two.words two.masks p c.loop-row-test.true }

pub overflow_add-count : goal.overflow_add-count
overflow_add-count c = let one = c.row.ensures in
    let two = c.row-in-loop-row.ensures in
    let e = counting_more _ _ _ _ _ _ _ one.words one.masks two.words two.masks c.args.operation _ _ c.loop-row.invariant.1 c.count_row-count.ensures in
    omega (arith, e, counted_few c.args.operation _ _ (pair_of _ _ c.requires) (c.loop-row.row + 1) (search rules))

pub loop-row-preserved : goal.loop-row-preserved
loop-row-preserved c = let one = c.row.ensures in
    let two = c.row-in-loop-row.ensures in
    (search rules, counting_more _ _ _ _ _ _ _ one.words one.masks two.words two.masks c.args.operation _ _ c.loop-row.invariant.1 c.count_row-count.ensures)

pub returns : goal.returns
returns c = counting_done c.args.operation _ _ c.loop-row.count c.loop-row.row (omega arith) c.loop-row.invariant.1
