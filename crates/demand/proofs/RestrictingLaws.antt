-- Restricting a packable plot list to the active columns, packing the rest, and the dot with every column active: no call is refused,
-- and the dot has the three of the source. Assumes nothing.
use mathlib.Core.Bool.{true, ◌&&◌}
use mathlib.Core.List.{List}
use mathlib.Core.Path.{◌≡◌, sym, ap, ◌∙◌}
use Prim.Native.Nat.{ℕ, ◌^◌, ◌≤◌, ◌<◌}
use native.Mathlib.Omega.{arith}
use lib.Dec.{ltb, eqb}
use lib.ListN.{length}
use lib.Ieee.{Float}
use borrow.Author.Tests.{le-leb, eq-eqb}
use Rattle.hybit_core.specs.Answer.{accepted, gives}
use Rattle.hybit_core.specs.Domain.{few}
use Rattle.hybit_core.specs.Floats.{finite}
use Rattle.hybit_core.proofs.BoolLaws.{and_left, and_right, and_both}
use Rattle.lent.specs.Lists.{joined, every}
use Rattle.lent.proofs.ListLaws.{joined-le, length-only, every-only, every-joined, every_map}
use Rattle.word.specs.Bits.{below}
use Rattle.word.proofs.BitLaws.{every-below}
use Rattle.mask.specs.Mask.{Mask, active, mask_rules}
use Rattle.csr32.specs.Csr.{Csr, Entry, csr_sizes, csr_answer, entries, present, merged, at}
use Rattle.csr32.specs.Made.{entries_in, csr_of, CsrRoom, fits_csr}
use Rattle.csr32.proofs.MadeLaws.{entries_of, made_accepted, left_is}
use Rattle.metadata_first.specs.Dot.{demanded}
use Rattle.metadata_first.proofs.ActiveLaws.{present_in, merged_in, demanded_in}
use Rattle.metadata_first_merge.specs.Merge.{row_values, merged_finite, merge_answer}
use Rattle.metadata_first_build.specs.Pack.{StoreRoom, store_of, fits_store, pack_answer, pruned_dot, wanted}
use Rattle.metadata_first_build.proofs.DemandLaws.{pruned_dot_lem}
use Rattle.restricted.specs.Restricted.{restricted, restrict_answer, restricted_left}
use Rattle.demand.specs.Demand.{EveryActive, Restricting}
use Rattle.metadata_first_merge.proofs.MergeLaws.{Packable}
use Rattle.demand.proofs.PackedLaws.{sizes_in, rules_in, is_valid, entries-good, entries-few, merged-at}

module _ (m : Csr) (k : Packable m) (a : Mask) where
  -- a row of the restricted list
  abbrev cut : ℕ → List Entry
  cut r = entries_in (active a) (entries m r)

  cut-few : length (joined cut m.rows) ≤ 2 ^ 24
  cut-few = omega (arith, entries-few m k, joined-le cut (entries m) m.rows (λ r l. length-only (λ (e : Entry). active a e.0) (entries m r)))

  pub restricted_list : csr_answer (restricted m a) ≡ accepted
  unfolding restricted
  restricted_list =
      made_accepted m.rows m.cols cut (λ r l. every-only (λ (e : Entry). ltb e.0 m.cols && finite e.1) (λ (e : Entry). active a e.0) (entries m r) (entries-good m k r))
      (is_valid m k).rows_in (is_valid m k).cols_in cut-few

  -- its merged values are merged values of the source
  cut-finite : (r : ℕ) → r < m.rows → every finite (row_values m.cols (cut r)) ≡ true
  unfolding row_values
  cut-finite r h =
      every_map finite (merged (cut r)) (below (present (cut r)) m.cols)
      ∙ every-below (λ c. finite (merged (cut r) c)) (present (cut r)) m.cols
      (λ c l e.
      let b : (present (entries m r) c && active a c) ≡ true = sym (present_in (active a) (entries m r) c) ∙ e in
      ap finite (merged_in (active a) (entries m r) c (and_right (present (entries m r) c) (active a c) b)) ∙ merged-at m k r c h l (and_left (present (entries m r) c) (active a c) b))

  pub restricted-finite : merged_finite (restricted m a) ≡ true
  unfolding merged_finite restricted csr_of
  restricted-finite =
      every-joined finite (λ r. row_values m.cols (entries (restricted m a) r)) m.rows
      (λ r h. ap (λ (es : List Entry). every finite (row_values m.cols es)) (entries_of m.rows m.cols cut r h) ∙ cut-finite r h)

  pub repacked : (rp : StoreRoom) → fits_store (store_of (restricted m a)) rp ≡ true → pack_answer (restricted m a) rp ≡ accepted
  unfolding pack_answer merge_answer
  repacked rp f = rw (restricted_list, restricted-finite, f)

  module _ (va : mask_rules a ≡ true) (la : a.size ≡ m.cols) where
    pub mask-few : few a.size ≡ true
    mask-few = le-leb a.size (2 ^ 20) (omega (arith, (is_valid m k).cols_in))

    restrict_is : (rc : CsrRoom) → fits_csr (restricted m a) rc ≡ true → restrict_answer m a rc ≡ accepted
    unfolding restrict_answer
    restrict_is rc f =
        let one : (few a.size && csr_sizes m) ≡ true = and_both (few a.size) (csr_sizes m) mask-few (sizes_in m k) in
        let six : eqb a.size m.cols ≡ true = eq-eqb a.size m.cols la in
        rw (one, rules_in m k, va, six, f)

    restricted_is : (rc : CsrRoom) → fits_csr (restricted m a) rc ≡ true → restricted_left m a rc ≡ restricted m a
    unfolding restricted
    restricted_is rc f = left_is m.rows m.cols cut (restrict_answer m a rc) rc (restrict_is rc f)

    module _ (x : List Float) (r : ℕ) (lx : length x ≡ m.cols) (h : r < m.rows) (all : Mask) (every_one : EveryActive m.cols all) where
      pub wanted_again : wanted (restricted m a) all x r ≡ wanted m a x r
      unfolding restricted csr_of
      wanted_again =
          ap (λ (es : List Entry). demanded m.cols es (active all) (at x)) (entries_of m.rows m.cols cut r h)
          ∙ demanded_in m.cols (entries m r) (active a) (active all) (at x) every_one.everywhere

      dot_again : (rp : StoreRoom) → pack_answer (restricted m a) rp ≡ accepted → pruned_dot (restricted m a) rp all x r ≡ gives (wanted (restricted m a) all x r)
      unfolding restricted csr_of
      dot_again rp e = pruned_dot_lem (restricted m a) rp e all x r every_one.valid every_one.as_long lx h

      pub restricting : (rc : CsrRoom) (rp : StoreRoom) → fits_csr (restricted m a) rc ≡ true → fits_store (store_of (restricted_left m a rc)) rp ≡ true → Restricting m a all x r rc rp
      restricting rc rp f g =
          let l : restricted_left m a rc ≡ restricted m a = restricted_is rc f in
          let e : pack_answer (restricted m a) rp ≡ accepted = repacked rp (sym (ap (λ (n : Csr). fits_store (store_of n) rp) l) ∙ g) in
          record {
            restrict_accepted = restrict_is rc f;
            pack_accepted = ap (λ (n : Csr). pack_answer n rp) l ∙ e;
            three = ap (λ (n : Csr). pruned_dot n rp all x r) l ∙ dot_again rp e ∙ ap gives wanted_again;
          }
