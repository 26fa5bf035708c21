-- `metadata_first_merge::rows_hold` meets its contract. Assumes nothing.
use mathlib.Core.Path.{refl, sym, ◌∙◌, ap}
use native.Mathlib.Omega.{arith}
use Rattle.csr32.proofs.WindowLaws.{zeros_as}
use Rattle.metadata_first_merge.proofs.MergeLaws.{rows_none, rows_more, rows_fails, rows_done}
use mathlib.Core.Bool.{not}
use Rattle.csr32.specs.Matrix.{lent_csr}
use Rattle.metadata_first_merge.proofs.rows_hold.Goals as goal

pub loop-row-init : goal.loop-row-init
loop-row-init c = (omega arith, refl, c.requires.window, rows_none _)

pub row_holds-requires : goal.row_holds-requires
row_holds-requires c = record { sizes = (omega (arith, c.requires.sizes), omega (arith, c.requires.sizes)); window = zeros_as c.loop-row.sums _ _ c.loop-row.invariant.2 (sym c.loop-row.invariant.1) }

pub returns-then-not-row_holds : goal.returns-then-not-row_holds
returns-then-not-row_holds c = rows_fails (lent_csr c.args.csr.matrix) c.loop-row.row _ _ _ c.row.ensures.ncols c.row.ensures.cols c.row.ensures.vals _ c.row_holds.ensures.answer (omega arith) (ap not c.if-not-row_holds.true)

pub loop-row-preserved : goal.loop-row-preserved
loop-row-preserved c = (omega arith, c.row_holds.auto.sums ∙ c.loop-row.invariant.1, zeros_as _ _ _ c.row_holds.ensures.window c.loop-row.invariant.1, rows_more (lent_csr c.args.csr.matrix) c.loop-row.row _ _ _ c.row.ensures.ncols c.row.ensures.cols c.row.ensures.vals _ c.row_holds.ensures.answer c.loop-row.invariant.3 (ap not c.if-not-row_holds.false))

pub returns : goal.returns
returns c = rows_done _ c.loop-row.row c.loop-row.invariant.3 c.loop-row.invariant.0 (omega arith)
