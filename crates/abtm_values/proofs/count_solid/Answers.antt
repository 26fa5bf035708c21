-- `abtm_values::count_solid` meets its contract. Assumes nothing.
use Prim.Native.Nat.{◌/◌}
use native.Mathlib.Omega.{arith}
use lib.ListN.{length}
use Rattle.abtm_values.specs.Values.{solid}
use Rattle.lent.proofs.ListLaws.{length-only}
use Rattle.word.proofs.PassLaws.{quarters}
use Rattle.abtm_values.proofs.count_solid.Goals as goal

pub overflow_add-result : goal.overflow_add-result
overflow_add-result c = let l = c.args.values.now in
    omega (arith, length-only solid l, quarters l solid (length l / 4) (omega arith), c.count_each.ensures, c.count_four-most.ensures)

pub returns : goal.returns
returns c = let l = c.args.values.now in
    omega (arith, quarters l solid (length l / 4) (omega arith), c.count_each.ensures, c.count_four-most.ensures)
