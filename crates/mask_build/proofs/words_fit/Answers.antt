-- `mask_build::words_fit` meets its contract. Assumes nothing.
use mathlib.Core.Path.{◌≡◌, ap}
use native.Mathlib.Omega.{arith}
use Prim.Native.Nat.{ℕ}
use lib.Dec.{leb}
use Rattle.word.specs.Bits.{ceil64}
use Rattle.mask_build.proofs.words_fit.Goals as goal

pub returns : goal.returns
returns c = let e : c.div_ceil.result ≡ ceil64 c.args.len = omega arith in ap (λ (n : ℕ). leb n c.args.room) e
