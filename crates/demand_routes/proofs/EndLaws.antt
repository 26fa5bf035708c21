-- What each end of a route's call leaves: zeros where it is refused, at whatever step, and the results where it is accepted.
-- Assumes nothing.
use Rattle.std.specs.Prelude.{Result, Ok}
use Rattle.hybit_core.specs.declared.HybitError.{HybitError}
use mathlib.Core.Bool.{Bool, true, ◌&&◌}
use mathlib.Core.List.{List, []}
use mathlib.Core.Path.{◌≡◌, sym, ap, ◌∙◌, subst}
use Prim.Native.Nat.{ℕ}
use lib.Dec.{leb}
use lib.Ieee.{Float}
use Rattle.hybit_core.specs.Answer.{Told, Answer, accepted, refused, Given, gives, refuses, demand, answers, ◌and_then◌}
use Rattle.hybit_core.specs.Floats.{zero64}
use Rattle.hybit_core.specs.Table.{told}
use Rattle.hybit_core.proofs.BoolLaws.{and_left, and_right}
use Rattle.hybit_core.proofs.AnswerLaws.{demand_accepted, then_first, then_second, accepted_by}
use Rattle.lent.specs.Lent.{padded, built}
use Rattle.word.specs.Bits.{ceil64}
use Rattle.mask.specs.Mask.{Mask}
use Rattle.csr32.specs.Csr.{Csr}
use Rattle.csr32.specs.Made.{csr_of, CsrRoom, fits_csr}
use Rattle.metadata_first.specs.declared.AbtmRowDot.{AbtmRowDot}
use Rattle.metadata_first.specs.Store.{Store}
use Rattle.metadata_first_build.specs.Pack.{StoreRoom, store_of, fits_store, pack_answer}
use Rattle.restricted.specs.Restricted.{restricted, restrict_answer, restricted_left}
use Rattle.restricted_csr32.proofs.LeftLaws.{left_list}
use Rattle.demand_routes.specs.Routes.{packed_dot, all_answer, restricted_dot, StoreLists}
use Rattle.demand_examine.specs.Steps.{PlotLists}
use Rattle.demand_examine.specs.Calls.{records_answer, question_answer, pruned_answer, row_dot, restricted_fits, restricted_answer, restricted_row_dot}
use Rattle.demand_examine.proofs.StepLaws.{gave, refused_as, Asked, asked}
use Rattle.demand_routes.proofs.ExactLaws.{pack_says, kept_packs, pruned_exact, restrict_says, restricted_exact}
use Rattle.demand_examine.proofs.CheckLaws.{checks_accepted}

-- ---- zeros

pub store_zeros : (t : Answer) (e : Told) (s : Store) (room : StoreRoom) (p w b vp : List ℕ) (vs : List Float) → t ≡ refused e
    → p ≡ padded 0 room.words.ptr [] → w ≡ padded 0 room.words.word [] → b ≡ padded 0 room.words.mask [] → vp ≡ padded 0 room.vptr [] → vs ≡ padded zero64 room.vals []
    → StoreLists t s room p w b vp vs
store_zeros t e s room p w b vp vs k ep ew eb ev ex =
    subst (λ (u : Answer). StoreLists u s room p w b vp vs) (sym k) (record { pointers = ep; numbers = ew; bits = eb; starts = ev; values = ex })

-- ---- packing and the dot

module _ (m : Csr) (a : Mask) (x : List Float) (r : ℕ) (room : StoreRoom) (v : Result Unit HybitError) (h : told v ≡ records_answer m a and_then question_answer m a x r) (k : v ≡ Ok tt) where
  ready : Asked m a x r
  ready =
      let q : records_answer m a and_then question_answer m a x r ≡ accepted = accepted_by (records_answer m a and_then question_answer m a x r) v h k in
      asked m a x r (then_first (records_answer m a) (question_answer m a x r) q) (then_second (records_answer m a) (question_answer m a x r) q)

  pruned_says : pruned_answer m a x r room ≡ demand (fits_store (store_of m) room) 13
  unfolding pruned_answer
  pruned_says = checks_accepted (records_answer m a) (question_answer m a x r) (demand (fits_store (store_of m) room) 13) v h k

  pub pruned_told : (g : Given AbtmRowDot) → g ≡ packed_dot m room a x r → g ≡ answers (pruned_answer m a x r room) (row_dot m a x r)
  pruned_told g e = e ∙ pruned_exact m a x r ready room ∙ ap (λ (t : Answer). answers t (row_dot m a x r)) (sym pruned_says)

  pub pruned_lists : (p w b vp : List ℕ) (vs : List Float) → StoreLists (pack_answer m room) (store_of m) room p w b vp vs → StoreLists (pruned_answer m a x r room) (store_of m) room p w b vp vs
  pruned_lists p w b vp vs l = subst (λ (t : Answer). StoreLists t (store_of m) room p w b vp vs) (pack_says m ready.packs room ∙ sym pruned_says) l

-- ---- restricting, packing, and the dot with every plot active

module _ (m : Csr) (a : Mask) (x : List Float) (r : ℕ) (rc : CsrRoom) (n : ℕ) (rp : StoreRoom) (v : Result Unit HybitError) (h : told v ≡ records_answer m a and_then question_answer m a x r) (k : v ≡ Ok tt) where
  ask : Asked m a x r
  ask = ready m a x r rp v h k

  restricted_says : restricted_answer m a x r rc n rp ≡ restricted_fits m a rc n rp
  unfolding restricted_answer
  restricted_says = checks_accepted (records_answer m a) (question_answer m a x r) (restricted_fits m a rc n rp) v h k

  pub restricted-told : (g : Given AbtmRowDot) → g ≡ restricted_dot m a x r rc n rp → g ≡ answers (restricted_answer m a x r rc n rp) (restricted_row_dot m a x r)
  restricted-told g e = e ∙ restricted_exact m a x r ask rc n rp ∙ ap (λ (t : Answer). answers t (restricted_row_dot m a x r)) (sym restricted_says)

  -- it said 13
  pub restricted_short : (t : Told) → refuses t ≡ restricted_dot m a x r rc n rp → restricted_answer m a x r rc n rp ≡ refused t
  restricted_short t e = refused_as (restricted_answer m a x r rc n rp) (restricted_row_dot m a x r) t (restricted-told (refuses t) e)

  -- it gave a report
  module _ (d : AbtmRowDot) (e : gives d ≡ restricted_dot m a x r rc n rp) where
    good : restricted_answer m a x r rc n rp ≡ accepted
    good = (gave (restricted_answer m a x r rc n rp) (restricted_row_dot m a x r) d (restricted-told (gives d) e)).0

    fits : (fits_csr (restricted m a) rc && leb (ceil64 m.cols) n && fits_store (store_of (restricted m a)) rp) ≡ true
    unfolding restricted_fits
    fits = demand_accepted _ 13 (sym restricted_says ∙ good)

    first : restrict_answer m a rc ≡ accepted
    first =
        let f : Bool = fits_csr (restricted m a) rc in
        let w : Bool = leb (ceil64 m.cols) n in
        restrict_says m a x r ask rc ∙ ap (λ (b : Bool). demand b 13) (and_left f w (and_left (f && w) (fits_store (store_of (restricted m a)) rp) fits))

    left : restricted_left m a rc ≡ restricted m a
    left = left_list m a rc first

    second : all_answer (restricted m a) n ≡ accepted
    unfolding all_answer restricted csr_of
    second =
        let f : Bool = fits_csr (restricted m a) rc in
        let w : Bool = leb (ceil64 m.cols) n in
        ap (λ (b : Bool). demand b 13) (and_right f w (and_left (f && w) (fits_store (store_of (restricted m a)) rp) fits))

    third : pack_answer (restricted m a) rp ≡ accepted
    third =
        pack_says (restricted m a) (kept_packs m a x r ask) rp
        ∙ ap (λ (b : Bool). demand b 13) (and_right (fits_csr (restricted m a) rc && leb (ceil64 m.cols) n) (fits_store (store_of (restricted m a)) rp) fits)

    pub restricted-plots : (p c : List ℕ) (vs : List Float) → PlotLists (restrict_answer m a rc) (restricted m a) rc p c vs → PlotLists (restricted_answer m a x r rc n rp) (restricted m a) rc p c vs
    restricted-plots p c vs l = subst (λ (t : Answer). PlotLists t (restricted m a) rc p c vs) (first ∙ sym good) l

    pub restricted-all : (l out : List ℕ) → out ≡ built 0 n (restrict_answer m a rc and_then all_answer (restricted_left m a rc) n) l → out ≡ built 0 n (restricted_answer m a x r rc n rp) l
    restricted-all l out q =
        q ∙ ap (λ (t : Answer). built 0 n (t and_then all_answer (restricted_left m a rc) n) l) first
        ∙ ap (λ (c : Csr). built 0 n (all_answer c n) l) left ∙ ap (λ (t : Answer). built 0 n t l) (second ∙ sym good)

    pub restricted_store : (p w b vp : List ℕ) (vs : List Float)
        → StoreLists (restrict_answer m a rc and_then all_answer (restricted_left m a rc) n and_then pack_answer (restricted_left m a rc) rp) (store_of (restricted_left m a rc)) rp p w b vp vs
        → StoreLists (restricted_answer m a x r rc n rp) (store_of (restricted m a)) rp p w b vp vs
    restricted_store p w b vp vs l =
        let one = subst (λ (t : Answer). StoreLists (t and_then all_answer (restricted_left m a rc) n and_then pack_answer (restricted_left m a rc) rp) (store_of (restricted_left m a rc)) rp p w b vp vs) first l in
        let two = subst (λ (c : Csr). StoreLists (all_answer c n and_then pack_answer c rp) (store_of c) rp p w b vp vs) left one in
        let three = subst (λ (t : Answer). StoreLists (t and_then pack_answer (restricted m a) rp) (store_of (restricted m a)) rp p w b vp vs) second two in
        subst (λ (t : Answer). StoreLists t (store_of (restricted m a)) rp p w b vp vs) (third ∙ sym good) three
