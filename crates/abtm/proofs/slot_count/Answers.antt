-- `abtm::slot_count` meets its contract. Assumes nothing.
use Rattle.std.proofs.Common.{sym, refl, ◌∙◌, eqb-true}
use borrow.Author.Tests.{eqb-false}
use Rattle.abtm.proofs.KindLaws.{dense_count, compact_count}
use Rattle.abtm.proofs.slot_count.Goals as goal

pub returns-then-is_dense : goal.returns-then-is_dense
returns-then-is_dense c = dense_count _ c.args.mask c.args.meta refl (eqb-true _ _ (sym c.is_dense.ensures ∙ c.if-is_dense.true))

pub returns-else-is_dense : goal.returns-else-is_dense
returns-else-is_dense c = compact_count _ _ c.args.meta _ refl (eqb-false _ _ (sym c.is_dense.ensures ∙ c.if-is_dense.false)) c.popcount.ensures
