-- `csr32::all_finite` meets its contract. Assumes nothing.
use mathlib.Core.Bool.{Bool, ◌&&◌}
use mathlib.Core.Path.{ap₂, ◌∙◌}
use Prim.Native.Nat.{◌/◌}
use native.Mathlib.Omega.{arith}
use lib.ListN.{length}
use Rattle.hybit_core.specs.Floats.{finite}
use Rattle.csr32.proofs.ScanLaws.{quarters_pass}
use Rattle.csr32.proofs.all_finite.Goals as goal

pub returns : goal.returns
returns c = let l = c.args.values.now in
    ap₂ (λ (s t : Bool). s && t) c.four_finite-most.ensures c.each_finite.ensures ∙ quarters_pass finite l (length l / 4) (omega arith)
