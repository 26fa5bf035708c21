use Rattle.std.proofs.Common.{rules}
use native.Mathlib.Omega.{arith}
use Rattle.hybit_core.proofs.AnswerLaws.{given_refused_by}
use Rattle.hybit_core.proofs.BoolLaws.{is_within, is_above}
use Rattle.topology.specs.Calls.{rank_answer}
use Rattle.topology.proofs.CallLaws.{row_ok, rank_is}
use Rattle.hybit_core.proofs.HandedLaws.{found_refused, found_accepted, found_is, found_then_gives, found_then_fails}
use Rattle.topology_rows.proofs.row_rank.Goals as goal

pub returns-in_err-found : goal.returns-in_err-found
unfolding rank_answer
returns-in_err-found c = given_refused_by _ _ _ (search rules) (found_refused _ _ _ _ _ c.in_err-found.ensures.words)

pub returns-then-col-topology : goal.returns-then-col-topology
unfolding rank_answer
returns-then-col-topology c = found_then_fails _ _ _ c.in_ok-found.ensures.words _ 7 _ (is_above _ _ c.if-col-topology.true)

pub rank_in-requires : goal.rank_in-requires
rank_in-requires c = omega (arith, found_is _ _ _ c.in_ok-found.ensures.ncols, c.if-col-topology.false)

pub returns : goal.returns
unfolding rank_answer
returns c = let e = c.in_ok-found.ensures.words in
    found_then_gives _ _ _ e _ 7 _ _ (is_within _ _ c.if-col-topology.false) (rank_is _ _ (row_ok _ _ (found_accepted _ _ _ e)) _ _ (found_is _ _ _ e) (found_is _ _ _ c.in_ok-found.ensures.masks) _ _ c.rank_in.ensures)
