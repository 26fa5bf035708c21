-- `metadata_first::refused_store` meets its contract. Assumes nothing.
use mathlib.Core.Path.{refl, ◌∙◌, sym}
use Rattle.hybit_core.proofs.AnswerLaws.{test_fails, test_passes}
use Rattle.hybit_core.proofs.BoolLaws.{is_equal, is_unequal}
use Rattle.metadata_first.proofs.refused_store.Goals as goal

pub returns-then-structural_nnz-count_bits : goal.returns-then-structural_nnz-count_bits
returns-then-structural_nnz-count_bits c = test_fails _ _ _ (is_unequal _ _ (λ e. c.if-structural_nnz-count_bits.true (e ∙ sym c.count_bits.ensures)))

pub returns : goal.returns
returns c = test_passes _ _ _ _ (is_equal _ _ (c.if-structural_nnz-count_bits.false ∙ c.count_bits.ensures)) refl
