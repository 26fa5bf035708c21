-- `mask::DofMask::is_member` meets its contract. Assumes nothing.
use borrow.Author.Rules.{rules}
use native.Mathlib.Omega.{arith}
use Rattle.mask.proofs.MaskLaws.{past-length, past_words, in_words}
use Rattle.mask.proofs.dof.DofMask.is_member.Goals as goal

pub returns-then-index-self : goal.returns-then-index-self
returns-then-index-self c = past-length c.args.self.len _ c.args.index (omega arith)

pub returns-then-at-self : goal.returns-then-at-self
returns-then-at-self c = past_words _ _ _ c.if-at-self.true

pub returns : goal.returns
returns c = in_words _ _ _ _ (search rules) c.contains_offset.ensures
