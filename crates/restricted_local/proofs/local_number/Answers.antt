-- `restricted_local::local_number` meets its contract. Assumes nothing.
use mathlib.Core.Path.{refl}
use native.Mathlib.Omega.{arith}
use Rattle.restricted_local.proofs.RegionLaws.{number_small, number-told}
use Rattle.restricted_local.proofs.local_number.Goals as goal

pub overflow_add-before : goal.overflow_add-before
overflow_add-before c = omega (arith, number_small _ _ _ c.args.numbering.numbered c.requires _ _ refl c.ones_below.ensures)

pub returns : goal.returns
returns c = number-told _ _ _ c.args.numbering.numbered c.requires _ _ refl c.ones_below.ensures _ c.narrow.ensures
