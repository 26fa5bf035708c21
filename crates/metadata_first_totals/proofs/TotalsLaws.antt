-- The totals of a list with one report more: sums only grow, so a refusal stays. Assumes nothing.
use Rattle.std.specs.Prelude.{Result, Ok, Err}
use mathlib.Core.Bool.{Bool, true, false, false≢true}
use mathlib.Core.List.{List, [], ◌∷◌, ◌++◌, append-nil, append_assoc, foldl-append}
use mathlib.Core.Path.{◌≡◌, refl, sym, ap, ap₂, ◌∙◌}
use Prim.Native.Nat.{ℕ, ◌+◌, ◌≤◌, ◌<◌, ◌^◌}
use native.Mathlib.Numerals.{add-one}
use native.Mathlib.Omega.{arith}
use lib.Ieee.{nan}
use lib.ListN.{length, get_or, take, drop, take-append-drop}
use lib.Seq.{take-suc, take_all}
use borrow.Author.Tests.{lt-ltb}
use Rattle.hybit_core.specs.Answer.{gives, refuses, demand, answers}
use Rattle.hybit_core.specs.Table.{paper, given}
use Rattle.hybit_core.specs.declared.HybitError.{HybitError}
use Rattle.hybit_core.proofs.BoolLaws.{and_both, and-four}
use Rattle.metadata_first.specs.declared.AbtmRowDot.{AbtmRowDot}
use Rattle.metadata_first.specs.declared.AbtmProductPruningStats.{AbtmProductPruningStats}
use Rattle.metadata_first.specs.Dot.{counts_of, accumulated, totals_fit, accumulate_answer}
use Rattle.metadata_first.proofs.SumLaws.{fitting}
use Rattle.metadata_first_totals.specs.Totals.{none, sums_of, totals_over}

-- sums that fit with a count more fitted before
less_fits : (t c : AbtmProductPruningStats) → totals_fit (accumulated t c) ≡ true → totals_fit t ≡ true
unfolding totals_fit
less_fits t c e =
    let k = fitting (accumulated t c) e in
    and_both _ _
    (and-four _ _ _ _
    (lt-ltb t.candidate_products (2 ^ 64) (omega (arith, k.candidate)))
    (lt-ltb t.executed_products (2 ^ 64) (omega (arith, k.executed)))
    (lt-ltb t.skipped_products (2 ^ 64) (omega (arith, k.skipped)))
    (lt-ltb t.topology_words (2 ^ 64) (omega (arith, k.words))))
    (lt-ltb t.active_words (2 ^ 64) (omega (arith, k.active)))

pub totals_none : gives none ≡ totals_over []
unfolding totals_over sums_of totals_fit
totals_none = refl

sums_more : (ds : List AbtmRowDot) (d : AbtmRowDot) → sums_of (ds ++ (d ∷ [])) ≡ accumulated (sums_of ds) (counts_of d)
unfolding sums_of
sums_more ds d = foldl-append (λ (t : AbtmProductPruningStats) (e : AbtmRowDot). accumulated t (counts_of e)) none ds (d ∷ [])

over_more : (ds : List AbtmRowDot) (d : AbtmRowDot)
    → totals_over (ds ++ (d ∷ [])) ≡ answers (demand (totals_fit (accumulated (sums_of ds) (counts_of d))) 1) (accumulated (sums_of ds) (counts_of d))
unfolding totals_over
over_more ds d = ap (λ (s : AbtmProductPruningStats). answers (demand (totals_fit s) 1) s) (sums_more ds d)

-- sums that fit with more reports fitted before
front_fits : (es ds : List AbtmRowDot) → totals_fit (sums_of (ds ++ es)) ≡ true → totals_fit (sums_of ds) ≡ true
front_fits [] ds e = ap (λ (l : List AbtmRowDot). totals_fit (sums_of l)) (sym (append-nil ds)) ∙ e
front_fits (d ∷ es) ds e =
    less_fits (sums_of ds) (counts_of d)
    (ap totals_fit (sym (sums_more ds d)) ∙ front_fits es (ds ++ (d ∷ [])) (ap (λ (l : List AbtmRowDot). totals_fit (sums_of l)) (append_assoc ds (d ∷ []) es) ∙ e))

-- a refusal stays, whatever reports follow
refusal_stays : (ds es : List AbtmRowDot) (e : HybitError) → refuses (paper e) ≡ totals_over ds → refuses (paper e) ≡ totals_over (ds ++ es)
unfolding totals_over
refusal_stays ds es e h = go (totals_fit (sums_of ds)) (totals_fit (sums_of (ds ++ es))) (front_fits es ds) h
  where
    go : (b c : Bool) → (c ≡ true → b ≡ true) → refuses (paper e) ≡ answers (demand b 1) (sums_of ds)
        → refuses (paper e) ≡ answers (demand c 1) (sums_of (ds ++ es))
    go true c f g = cc
    go false true f g = absurd (false≢true (f refl))
    go false false f g = g

-- ---- the loop over a list

-- what is never read: it stands for a report past the end
abbrev pub blank : AbtmRowDot
blank = record { sum = nan; candidate_products = 0; executed_products = 0; skipped_products = 0; topology_words = 0; active_words = 0 }

module _ (ds : List AbtmRowDot) where
  -- t tells the totals of the first i reports, or their refusal
  abbrev pub Told : ℕ → Result AbtmProductPruningStats HybitError → Type 0
  Told i t = given t ≡ totals_over (take i ds)

  pub told_more : (i : ℕ) (t r : Result AbtmProductPruningStats HybitError) → Told i t → i < length ds
      → ((es : List AbtmRowDot) → given t ≡ totals_over es → given r ≡ totals_over (es ++ (get_or ds i blank ∷ []))) → Told (i + 1) r
  told_more i t r k l f = f (take i ds) k ∙ ap totals_over (sym (ap (λ (j : ℕ). take j ds) (add-one i) ∙ take-suc ds i blank l))

  pub told_all : (i : ℕ) (t : Result AbtmProductPruningStats HybitError) → Told i t → length ds ≤ i → given t ≡ totals_over ds
  told_all i t k h = k ∙ ap totals_over (take_all i ds h)

  -- t is the totals of the first i reports
  abbrev pub Taken : ℕ → AbtmProductPruningStats → Type 0
  Taken i t = gives t ≡ totals_over (take i ds)

  -- the next report, and what `accumulate` answers at it
  module _ (i : ℕ) (t c : AbtmProductPruningStats) (r : Result AbtmProductPruningStats HybitError) (k : Taken i t) (l : i < length ds) (p : c ≡ counts_of (get_or ds i blank))
      (q : given r ≡ answers (accumulate_answer t c) (accumulated t c)) where
    next : given r ≡ totals_over (take (i + 1) ds)
    unfolding totals_over accumulate_answer
    next =
        told_more i (Ok t) r k l
        (λ es h.
        q
        ∙ ap₂ (λ (s k : AbtmProductPruningStats). answers (demand (totals_fit (accumulated s k)) 1) (accumulated s k)) (go es (totals_fit (sums_of es)) h) p
        ∙ sym (over_more es (get_or ds i blank)))
      where
        go : (es : List AbtmRowDot) (b : Bool) → gives t ≡ answers (demand b 1) (sums_of es) → t ≡ sums_of es
        go es true g = cc
        go es false g = cc

    pub taken_more : (u : AbtmProductPruningStats) → r ≡ Ok u → Taken (i + 1) u
    taken_more u e = sym (ap given e) ∙ next

    pub taken_fails : (e : HybitError) → r ≡ Err e → refuses (paper e) ≡ totals_over ds
    taken_fails x e = refusal_stays (take (i + 1) ds) (drop (i + 1) ds) x (sym (ap given e) ∙ next) ∙ ap totals_over (take-append-drop (i + 1) ds)

  pub taken_all : (i : ℕ) (t : AbtmProductPruningStats) → Taken i t → length ds ≤ i → gives t ≡ totals_over ds
  taken_all i t k l = told_all i (Ok t) k l
