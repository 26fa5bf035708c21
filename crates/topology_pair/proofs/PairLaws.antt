-- The checks of two records at each return of the code that runs them, and what two accepted records have. Assumes nothing.
use Rattle.std.specs.Prelude.{Result, Ok, Err}
use mathlib.Core.Bool.{Bool, true, false, ◌&&◌}
use mathlib.Core.Path.{◌≡◌, sym, ap, ap₂, ◌∙◌}
use lib.Dec.{eqb}
use lib.ListN.{length}
use borrow.Author.Tests.{eqb-true}
use Rattle.hybit_core.specs.Answer.{Answer, accepted, refused, plain, demand, ◌and_then◌}
use Rattle.hybit_core.specs.Table.{paper, told}
use Rattle.hybit_core.specs.declared.HybitError.{HybitError}
use Rattle.hybit_core.proofs.BoolLaws.{and_left, and_right, and-next}
use Rattle.hybit_core.proofs.AnswerLaws.{demand_accepted, then_first, then_second, test_passes, last_fails, last_passes, call_refused, call_accepted}
use Rattle.csr32.specs.Csr.{framed_lists}
use Rattle.topology.specs.Words.{Words, row_rules, set_bits, word_sizes, word_rules, word_answer}
use Rattle.topology.proofs.TopologyLaws.{Accepted, accepted_facts}
use Rattle.topology_pair.specs.Pair.{pair_answer}

-- ---- two records: each return of `examine_pair`

module _ (a b : Words) (v : Result Unit HybitError) (sa : true ≡ word_sizes a) (sb : true ≡ word_sizes b) (hv : told v ≡ word_answer a) where
  rules_told : (t : Words) (u : Result Unit HybitError) → true ≡ word_sizes t → told u ≡ word_answer t → told u ≡ demand (word_rules t) 11
  unfolding word_answer
  rules_told t u e h = h ∙ ap (λ (s : Bool). demand s 1 and_then demand (word_rules t) 11) (sym e)

  sized : (x : Answer) → x ≡ demand (word_rules a) 11 and_then demand (word_rules b) 11 and_then demand (eqb a.rows b.rows && eqb a.cols b.cols) 8 → x ≡ pair_answer a b
  unfolding pair_answer
  sized x h =
      test_passes (word_sizes a && word_sizes b) 1 x (demand (word_rules a) 11 and_then demand (word_rules b) 11 and_then demand (eqb a.rows b.rows && eqb a.cols b.cols) 8)
      (and-next (word_sizes a) (word_sizes b) true sa sb) h

  pub pair_first : (e : HybitError) → v ≡ Err e → refused (paper e) ≡ pair_answer a b
  pair_first e k =
      sized (refused (paper e))
      (call_refused (demand (word_rules a) 11) (demand (word_rules b) 11 and_then demand (eqb a.rows b.rows && eqb a.cols b.cols) 8) v e (rules_told a v sa hv) k)

  module _ (w : Result Unit HybitError) (k : v ≡ Ok tt) (hw : told w ≡ word_answer b) where
    first_passes : (x : Answer) → x ≡ demand (word_rules b) 11 and_then demand (eqb a.rows b.rows && eqb a.cols b.cols) 8 → x ≡ pair_answer a b
    first_passes x h =
        sized x (call_accepted (demand (word_rules a) 11) (demand (word_rules b) 11 and_then demand (eqb a.rows b.rows && eqb a.cols b.cols) 8) x v (rules_told a v sa hv) k h)

    pub pair_second : (e : HybitError) → w ≡ Err e → refused (paper e) ≡ pair_answer a b
    pair_second e l = first_passes (refused (paper e)) (call_refused (demand (word_rules b) 11) (demand (eqb a.rows b.rows && eqb a.cols b.cols) 8) w e (rules_told b w sb hw) l)

    module _ (l : w ≡ Ok tt) where
      both_pass : (x : Answer) → x ≡ demand (eqb a.rows b.rows && eqb a.cols b.cols) 8 → x ≡ pair_answer a b
      both_pass x h = first_passes x (call_accepted (demand (word_rules b) 11) (demand (eqb a.rows b.rows && eqb a.cols b.cols) 8) x w (rules_told b w sb hw) l h)

      pub pair_frames : false ≡ (eqb a.rows b.rows && eqb a.cols b.cols) → refused (plain 8) ≡ pair_answer a b
      pair_frames h = both_pass (refused (plain 8)) (last_fails (eqb a.rows b.rows && eqb a.cols b.cols) 8 h)

      pub pair_passes : true ≡ (eqb a.rows b.rows && eqb a.cols b.cols) → accepted ≡ pair_answer a b
      pair_passes h = both_pass accepted (last_passes (eqb a.rows b.rows && eqb a.cols b.cols) 8 h)

-- ---- two accepted records

pub record Pair (a b : Words) : Type 0 where
  pub one : Accepted a
  pub two : Accepted b
  pub same_rows : a.rows ≡ b.rows
  pub same_cols : a.cols ≡ b.cols
  pub one_rules : row_rules a ≡ true
  pub two_rules : row_rules b ≡ true

rules_of : (t : Words) → word_rules t ≡ true → row_rules t ≡ true
unfolding word_rules
rules_of t e =
    and_right (framed_lists t.rows t.ptr (length t.word) (length t.mask)) (row_rules t)
    (and_left (framed_lists t.rows t.ptr (length t.word) (length t.mask) && row_rules t) (eqb t.total (set_bits t.mask)) e)

answer_of : (t : Words) → word_sizes t ≡ true → word_rules t ≡ true → word_answer t ≡ accepted
unfolding word_answer
answer_of t s r = ap₂ (λ (x y : Bool). demand x 1 and_then demand y 11) s r

pub pair_of : (a b : Words) → pair_answer a b ≡ accepted → Pair a b
unfolding pair_answer
pair_of a b e =
    let f : Bool = eqb a.rows b.rows && eqb a.cols b.cols in
    let s : (word_sizes a && word_sizes b) ≡ true = demand_accepted (word_sizes a && word_sizes b) 1 (then_first (demand (word_sizes a && word_sizes b) 1) (demand (word_rules a) 11 and_then demand (word_rules b) 11 and_then demand f 8) e) in
    let x : demand (word_rules a) 11 and_then demand (word_rules b) 11 and_then demand f 8 ≡ accepted = then_second (demand (word_sizes a && word_sizes b) 1) (demand (word_rules a) 11 and_then demand (word_rules b) 11 and_then demand f 8) e in
    let y : demand (word_rules b) 11 and_then demand f 8 ≡ accepted = then_second (demand (word_rules a) 11) (demand (word_rules b) 11 and_then demand f 8) x in
    let ra : word_rules a ≡ true = demand_accepted (word_rules a) 11 (then_first (demand (word_rules a) 11) (demand (word_rules b) 11 and_then demand f 8) x) in
    let rb : word_rules b ≡ true = demand_accepted (word_rules b) 11 (then_first (demand (word_rules b) 11) (demand f 8) y) in
    let z : f ≡ true = demand_accepted f 8 (then_second (demand (word_rules b) 11) (demand f 8) y) in
    record {
      one = accepted_facts a (answer_of a (and_left (word_sizes a) (word_sizes b) s) ra);
      two = accepted_facts b (answer_of b (and_right (word_sizes a) (word_sizes b) s) rb);
      same_rows = eqb-true a.rows b.rows (and_left (eqb a.rows b.rows) (eqb a.cols b.cols) z);
      same_cols = eqb-true a.cols b.cols (and_right (eqb a.rows b.rows) (eqb a.cols b.cols) z);
      one_rules = rules_of a ra;
      two_rules = rules_of b rb;
    }
