-- `topology_pair::examine_pair` meets its contract. Assumes nothing.
use native.Mathlib.Omega.{arith}
use Rattle.hybit_core.proofs.BoolLaws.{tests, flag_on, and_first, and-next, is_equal, is_unequal}
use Rattle.hybit_core.proofs.AnswerLaws.{told_refused, checks}
use Rattle.topology_pair.specs.Pair.{pair_answer}
use Rattle.topology_pair.proofs.PairLaws.{pair_first, pair_second, pair_frames, pair_passes}
use borrow.Author.Rules.{rules}
use mathlib.Core.Path.{ap}
use mathlib.Core.Bool.{not}
use Rattle.topology.specs.Matrix.{lent_topology}
use Rattle.topology_pair.proofs.examine_pair.Goals as goal

pub returns-in_err-check-2 : goal.returns-in_err-check-2
returns-in_err-check-2 c = told_refused _ c.in_err-check-2.field-0.0 _ (search rules) (search (pair_second, flag_on, rules))

pub returns-in_err-check : goal.returns-in_err-check
returns-in_err-check c = told_refused _ c.in_err-check.field-0.0 _ (search rules) (search (pair_first, flag_on, rules))

pub returns-then-not-sizes_fit : goal.returns-then-not-sizes_fit
unfolding pair_answer
returns-then-not-sizes_fit c = search (checks, tests, rules)

pub returns-then-not-sizes_fit-2 : goal.returns-then-not-sizes_fit-2
unfolding pair_answer
returns-then-not-sizes_fit-2 c = search (checks, tests, rules)

pub returns-then-topology-other : goal.returns-then-topology-other
returns-then-topology-other c = let s = flag_on _ _ c.sizes_fit.ensures (ap not c.if-not-sizes_fit.false) in
    let t = flag_on _ _ c.sizes_fit-2.ensures (ap not c.if-not-sizes_fit-2.false) in
    pair_frames (lent_topology c.args.topology) (lent_topology c.args.other) _ s t c.check.ensures _ c.in_ok-check.was c.check-2.ensures c.in_ok-check-2.was (and_first _ _ (is_unequal c.args.topology.nrows c.args.other.nrows (λ h. omega arith)))

pub returns-then-topology-other-2 : goal.returns-then-topology-other-2
returns-then-topology-other-2 c = let s = flag_on _ _ c.sizes_fit.ensures (ap not c.if-not-sizes_fit.false) in
    let t = flag_on _ _ c.sizes_fit-2.ensures (ap not c.if-not-sizes_fit-2.false) in
    pair_frames (lent_topology c.args.topology) (lent_topology c.args.other) _ s t c.check.ensures _ c.in_ok-check.was c.check-2.ensures c.in_ok-check-2.was (and-next _ _ _ (is_equal c.args.topology.nrows c.args.other.nrows (omega arith)) (is_unequal c.args.topology.ncols c.args.other.ncols (λ h. omega arith)))

pub returns : goal.returns
returns c = let s = flag_on _ _ c.sizes_fit.ensures (ap not c.if-not-sizes_fit.false) in
    let t = flag_on _ _ c.sizes_fit-2.ensures (ap not c.if-not-sizes_fit-2.false) in
    pair_passes (lent_topology c.args.topology) (lent_topology c.args.other) _ s t c.check.ensures _ c.in_ok-check.was c.check-2.ensures c.in_ok-check-2.was (and-next _ _ _ (is_equal c.args.topology.nrows c.args.other.nrows (omega arith)) (is_equal c.args.topology.ncols c.args.other.ncols (omega arith)))
