-- `mask::rules_hold` meets its contract. Assumes nothing.
use Prim.Native.Nat.{◌/◌}
use native.Mathlib.Omega.{arith}
use Rattle.mask.proofs.MaskLaws.{rules_wrong, rules_whole, rules_last}
use Rattle.mask.proofs.rules_hold.Goals as goal

pub returns-then-mask-div_ceil : goal.returns-then-mask-div_ceil
returns-then-mask-div_ceil c = rules_wrong c.args.mask.len c.args.mask.words.now (λ e. omega arith)

pub returns-then-valid-eq0 : goal.returns-then-valid-eq0
returns-then-valid-eq0 c = rules_whole c.args.mask.len c.args.mask.words.now (omega arith) c.if-valid-eq0.true

pub returns : goal.returns
returns c = rules_last c.args.mask.len c.args.mask.words.now (omega arith) c.if-valid-eq0.false (c.shared_slice_known-1.given (c.args.mask.len / 64)).fits
