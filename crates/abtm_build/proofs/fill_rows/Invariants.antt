use mathlib.Core.Path.{◌≡◌}
use lib.ListN.{length, replicate}
use Rattle.hybit_core.specs.Floats.{zero64}
use Rattle.abtm_build.proofs.RowsLaws.{Filling}
use Rattle.csr32.specs.Matrix.{lent_csr}
use Rattle.abtm_build.proofs.fill_rows.Given as goal

abbrev pub invariant-loop-row : goal.invariant-loop-row
invariant-loop-row l = (length l.sums ≡ length l.initial.sums) × (length l.words ≡ length l.initial.words) × (length l.blocks ≡ length l.initial.blocks) × (l.sums ≡ replicate (length l.sums) zero64) × Filling (lent_csr l.csr.matrix) l.config l.initial.row_tile_ptr l.initial.masks l.initial.value_offsets l.initial.metas l.initial.values l.row l.at l.row_tile_ptr l.masks l.value_offsets l.metas l.values
