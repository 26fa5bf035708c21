-- Members that are handed in: the scan of their rules, what an accepted gather says, and the numbers read. Assumes nothing.
use mathlib.Core.Bool.{Bool, true, false, ◌&&◌}
use mathlib.Core.List.{List, map}
use mathlib.Core.Path.{◌≡◌, refl, sym, ◌∙◌}
use Prim.Native.Nat.{ℕ, suc, ◌+◌, ◌≤◌, ◌<◌}
use native.Mathlib.Numerals.{add-one}
use lib.Dec.{leb, ltb}
use lib.ListN.{length, get_or, drop, length-map, drop_of_length-le}
use lib.Seq.{drop-cons}
use lib.Ieee.{Float, nan}
use borrow.Author.Tests.{le-leb, lt-leb, lt-ltb, le-ltb}
use Rattle.hybit_core.specs.Answer.{accepted, demand, length_is, ◌and_then◌}
use Rattle.hybit_core.proofs.BoolLaws.{and_right}
use Rattle.hybit_core.proofs.AnswerLaws.{demand_accepted, then_first, then_second, length_accepted}
use Rattle.lent.specs.Lists.{each, every, climbs}
use Rattle.lent.proofs.ListLaws.{each_is, get_or-map-lt}
use Rattle.csr32.specs.Csr.{at}
use Rattle.hybit_core.specs.Domain.{few}
use Rattle.restricted.specs.Local.{member_rules, members_answer, gather_answer, gathered}

-- ---- the scan: least is what the next member may be at least

pub record Climbing (n : ℕ) (ms : List ℕ) (least i : ℕ) : Type 0 where
  pub is : member_rules n ms ≡ (climbs least (drop i ms) && every (λ g. ltb g n) (drop i ms))

and-false : (s : Bool) → (s && false) ≡ false
and-false true = refl
and-false false = refl

module _ (n : ℕ) (ms : List ℕ) where
  pub climbing_none : Climbing n ms 0 0
  unfolding member_rules
  climbing_none = record { is = refl }

  module _ (least i : ℕ) (inv : Climbing n ms least i) where
    module _ (g : ℕ) (h : i < length ms) (here : g ≡ get_or ms i 0) where
      step : member_rules n ms ≡ ((leb least g && climbs (suc g) (drop (i + 1) ms)) && (ltb g n && every (λ g. ltb g n) (drop (i + 1) ms)))
      unfolding climbs every
      step = inv.is ∙ rw (here, add-one, drop-cons ms i 0)

      pub climbing_more : least ≤ g → g < n → Climbing n ms (g + 1) (i + 1)
      climbing_more a b = record { is = step ∙ rw (add-one g, le-leb least g a, lt-ltb g n b) }

      pub climbing_falls : g < least → false ≡ member_rules n ms
      climbing_falls a = sym (step ∙ rw (lt-leb least g a))

      pub climbing_past : n ≤ g → false ≡ member_rules n ms
      climbing_past a = sym (step ∙ rw (le-ltb g n a) (and-false (leb least g && climbs (suc g) (drop (i + 1) ms))))

    pub climbing_done : length ms ≤ i → true ≡ member_rules n ms
    unfolding climbs every
    climbing_done h = sym (inv.is ∙ rw drop_of_length-le)

-- ---- a gather

-- an accepted one: its members lie in the global vector, and there is a place for each
module _ (n : ℕ) (ms : List ℕ) (x : List Float) (nl : ℕ) (ok : gather_answer n ms x nl ≡ accepted) where
  rest : length_is n (length x) and_then length_is (length ms) nl ≡ accepted
  unfolding gather_answer
  rest = then_second (members_answer n ms) (length_is n (length x) and_then length_is (length ms) nl) ok

  pub gather_long : nl ≡ length ms
  gather_long = length_accepted (length ms) nl (then_second (length_is n (length x)) (length_is (length ms) nl) rest)

  pub gather_inside : every (λ g. ltb g (length x)) ms ≡ true
  unfolding gather_answer members_answer member_rules
  gather_inside =
      let long : length x ≡ n = length_accepted n (length x) (then_first (length_is n (length x)) (length_is (length ms) nl) rest) in
      let checked : members_answer n ms ≡ accepted = then_first (members_answer n ms) (length_is n (length x) and_then length_is (length ms) nl) ok in
      let rules : member_rules n ms ≡ true = demand_accepted (member_rules n ms) 12 (then_second (demand (few n) 1) (demand (member_rules n ms) 12) checked) in
      rw long (and_right (climbs 0 ms) (every (λ g. ltb g n) ms) rules)

pub gathered_is : (ms : List ℕ) (x : List Float) → each (λ k. at x (get_or ms k 0)) (length ms) ≡ gathered ms x
unfolding gathered
gathered_is ms x = sym (each_is nan (λ k. at x (get_or ms k 0)) (length ms) (map (at x) ms) (length-map ms (at x)) (λ k h. get_or-map-lt (at x) ms k 0 nan h))
