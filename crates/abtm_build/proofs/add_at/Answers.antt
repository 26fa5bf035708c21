-- `abtm_build::add_at` meets its contract. Assumes nothing.
use mathlib.Core.Path.{refl}
use native.Mathlib.Omega.{arith}
use Rattle.abtm_build.proofs.WindowLaws.{marked-set}
use Rattle.abtm_build.proofs.add_at.Goals as goal

pub returns : goal.returns
returns c = record { sums = refl; words = marked-set 64 _ _ _ _ (omega arith) c.requires.fact_3; blocks = marked-set 4096 _ _ _ _ (omega arith) c.requires.fact_4 }
