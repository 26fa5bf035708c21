-- `restricted_abtm::count_kept` meets its contract. Assumes nothing.
use native.Mathlib.Omega.{arith}
use Rattle.restricted_abtm.proofs.ReadyLaws.{ready_words}
use Rattle.restricted_abtm.proofs.KeptLaws.{counted_none, counted_word, counted-few, counted_more, counted_done}
use Rattle.restricted_abtm.proofs.count_kept.Goals as goal

pub loop-k-init : goal.loop-k-init
loop-k-init c = counted_none _ _ _

pub bounds-listed-word : goal.bounds-listed-word
bounds-listed-word c = counted_word _ _ _ c.args.listed.tiles.metas_paired _ _ c.loop-k.invariant (omega arith) _ (c.word_in-word.ensures) (ready_words _ _ _ _ _ c.args.listed.tiles.offsets_paired c.args.listed.tiles.metas_paired c.args.listed.ready)

pub overflow_add-kept : goal.overflow_add-kept
overflow_add-kept c = omega (arith, c.loop-k.invariant.few, counted-few c.args.listed.tiles.masks.now c.args.listed.tiles.metas.now c.args.listed.mask.now c.args.listed.tiles.metas_paired _ _ c.loop-k.invariant (omega arith) _ (c.word_in-word.ensures) _ _ c.intersection.ensures c.popcount-kept.ensures)

pub loop-k-preserved : goal.loop-k-preserved
loop-k-preserved c = counted_more _ _ _ c.args.listed.tiles.metas_paired _ _ c.loop-k.invariant (omega arith) _ (c.word_in-word.ensures) _ _ c.intersection.ensures c.popcount-kept.ensures

pub returns : goal.returns
returns c = counted_done _ _ _ c.args.listed.tiles.metas_paired _ _ c.loop-k.invariant (omega arith)
