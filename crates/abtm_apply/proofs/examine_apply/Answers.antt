-- `abtm_apply::examine_apply` meets its contract. Assumes nothing.
use Rattle.std.proofs.Common.{rules}
use native.Mathlib.Omega.{arith}
use lib.ListN.{length}
use Rattle.hybit_core.proofs.AnswerLaws.{told_refused, call_refused, call_accepted, length_wrong, length_right, last_length_wrong, last_length_right}
use Rattle.abtm_apply.specs.Product.{apply_tiles_answer}
use Rattle.abtm_apply.proofs.examine_apply.Goals as goal

pub returns-in_err-check : goal.returns-in_err-check
unfolding apply_tiles_answer
returns-in_err-check c = told_refused _ _ _ (search rules) (call_refused _ _ _ _ c.check.ensures c.in_err-check.was)

pub returns-then-x-tiles : goal.returns-then-x-tiles
unfolding apply_tiles_answer
returns-then-x-tiles c = call_accepted _ _ _ _ c.check.ensures c.in_ok-check.was (length_wrong c.args.tiles.ncols (length c.args.x.now) _ c.if-x-tiles.true)

pub returns-then-places-tiles : goal.returns-then-places-tiles
unfolding apply_tiles_answer
returns-then-places-tiles c = call_accepted _ _ _ _ c.check.ensures c.in_ok-check.was (length_right c.args.tiles.ncols (length c.args.x.now) _ _ (omega arith) (last_length_wrong c.args.tiles.nrows c.args.places c.if-places-tiles.true))

pub returns : goal.returns
unfolding apply_tiles_answer
returns c = call_accepted _ _ _ _ c.check.ensures c.in_ok-check.was (length_right c.args.tiles.ncols (length c.args.x.now) _ _ (omega arith) (last_length_right c.args.tiles.nrows c.args.places (omega arith)))
