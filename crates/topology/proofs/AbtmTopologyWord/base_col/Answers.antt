-- `topology::AbtmTopologyWord::base_col` meets its contract. Assumes nothing.
use mathlib.Core.Path.{refl}
use Rattle.std.proofs.Common.{ℕ, ◌*◌, ap}
use Rattle.topology.proofs.AbtmTopologyWord.base_col.Goals as goal

pub returns : goal.returns
returns c = ap (λ (n : ℕ). 64 * n) refl
