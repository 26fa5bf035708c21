-- The routes where the checks before them accept: only 13 can be said on the way, and what a route answers is what the matrix itself
-- has. Assumes nothing.
use mathlib.Core.Bool.{Bool, true, false, ◌&&◌}
use mathlib.Core.List.{List}
use mathlib.Core.Path.{◌≡◌, refl, ap, ◌∙◌}
use Prim.Native.Nat.{ℕ}
use lib.Dec.{leb, eqb}
use lib.Ieee.{Float}
use borrow.Author.Tests.{eq-eqb}
use Rattle.hybit_core.specs.Answer.{Answer, accepted, demand, answers, ◌and_then◌}
use Rattle.hybit_core.specs.Domain.{few}
use Rattle.hybit_core.proofs.BoolLaws.{and_both}
use Rattle.word.specs.Bits.{ceil64}
use Rattle.mask.specs.Mask.{Mask, all_active}
use Rattle.mask.proofs.MaskLaws.{all_valid}
use Rattle.csr32.specs.Csr.{Csr, csr_sizes}
use Rattle.csr32.specs.Made.{csr_of, CsrRoom, fits_csr}
use Rattle.metadata_first.specs.Dot.{sparse_dot_row}
use Rattle.metadata_first_merge.specs.Merge.{merge_answer}
use Rattle.metadata_first_build.specs.Pack.{StoreRoom, store_of, fits_store, pack_answer, packed}
use Rattle.metadata_first_build.proofs.DemandLaws.{built_dot}
use Rattle.restricted.specs.Restricted.{restricted, restrict_answer, restricted_left}
use Rattle.restricted_csr32.proofs.LeftLaws.{left_list}
use Rattle.metadata_first_merge.proofs.MergeLaws.{Packable}
use Rattle.demand.proofs.PackedLaws.{sizes_in, rules_in}
use Rattle.demand.proofs.RestrictingLaws.{restricted_list, restricted-finite, mask-few}
use Rattle.demand_examine.specs.Steps.{after}
use Rattle.demand_routes.specs.Routes.{packed_dot, all_answer, all_dot, restricted_dot}
use Rattle.demand_examine.specs.Calls.{row_dot, restricted_fits, restricted_row_dot}
use Rattle.demand_examine.proofs.StepLaws.{Asked, three_thirteens, after_13}

-- ---- packing and the dot

module _ (m : Csr) (k : Packable m) where
  pub pack_says : (room : StoreRoom) → pack_answer m room ≡ demand (fits_store (store_of m) room) 13
  unfolding pack_answer merge_answer
  pack_says room = rw (k.list, k.finites)

module _ (m : Csr) (a : Mask) (x : List Float) (r : ℕ) (k : Asked m a x r) where
  pub pruned_exact : (room : StoreRoom) → packed_dot m room a x r ≡ answers (demand (fits_store (store_of m) room) 13) (row_dot m a x r)
  unfolding packed_dot row_dot
  pruned_exact room = go (fits_store (store_of m) room) refl
    where
      go : (b : Bool) → fits_store (store_of m) room ≡ b → after (pack_answer m room) (sparse_dot_row (packed m room) a x r) ≡ answers (demand b 13) (row_dot m a x r)
      go true e =
          let p : pack_answer m room ≡ accepted = pack_says m k.packs room ∙ ap (λ (t : Bool). demand t 13) e in
          ap (λ (t : Answer). after t (sparse_dot_row (packed m room) a x r)) p ∙ built_dot m room p a x r k.valid_mask k.mask_long k.vector_long k.here
      go false e = ap (λ (t : Answer). after t (sparse_dot_row (packed m room) a x r)) (pack_says m k.packs room ∙ ap (λ (t : Bool). demand t 13) e)

module _ (m : Csr) (a : Mask) (x : List Float) (r : ℕ) (k : Asked m a x r) where
  -- ---- restricting, packing, and the dot with every plot active

  abbrev kept : Csr
  kept = restricted m a

  pub kept_packs : Packable kept
  kept_packs = record { list = restricted_list m k.packs a; finites = restricted-finite m k.packs a }

  kept_asked : Asked kept (all_active m.cols) x r
  unfolding restricted csr_of
  kept_asked = record { packs = kept_packs; valid_mask = all_valid m.cols; mask_long = refl; vector_long = k.vector_long; here = k.here }

  pub restrict_says : (rc : CsrRoom) → restrict_answer m a rc ≡ demand (fits_csr kept rc) 13
  unfolding restrict_answer
  restrict_says rc =
      let one : (few a.size && csr_sizes m) ≡ true = and_both (few a.size) (csr_sizes m) (mask-few m k.packs a k.valid_mask k.mask_long) (sizes_in m k.packs) in
      let six : eqb a.size m.cols ≡ true = eq-eqb a.size m.cols k.mask_long in
      rw (one, rules_in m k.packs, k.valid_mask, six)

  all_exact : (n : ℕ) (rp : StoreRoom) → all_dot kept x r n rp ≡ answers (demand (leb (ceil64 m.cols) n) 13 and_then demand (fits_store (store_of kept) rp) 13) (restricted_row_dot m a x r)
  unfolding all_dot all_answer restricted_row_dot restricted csr_of
  all_exact n rp =
      after_13 (leb (ceil64 m.cols) n) (demand (fits_store (store_of kept) rp) 13) (packed_dot kept rp (all_active m.cols) x r) (row_dot kept (all_active m.cols) x r)
      (λ e. pruned_exact kept (all_active m.cols) x r kept_asked rp)

  pub restricted_exact : (rc : CsrRoom) (n : ℕ) (rp : StoreRoom) → restricted_dot m a x r rc n rp ≡ answers (restricted_fits m a rc n rp) (restricted_row_dot m a x r)
  unfolding restricted_dot restricted_fits
  restricted_exact rc n rp =
      let w : Bool = leb (ceil64 m.cols) n in
      let s : Bool = fits_store (store_of kept) rp in
      ap (λ (t : Answer). after t (all_dot (restricted_left m a rc) x r n rp)) (restrict_says rc)
      ∙ after_13 (fits_csr kept rc) (demand w 13 and_then demand s 13) (all_dot (restricted_left m a rc) x r n rp) (restricted_row_dot m a x r)
      (λ e. ap (λ (c : Csr). all_dot c x r n rp) (left_list m a rc (restrict_says rc ∙ ap (λ (b : Bool). demand b 13) e)) ∙ all_exact n rp)
      ∙ ap (λ (t : Answer). answers t (restricted_row_dot m a x r)) (three_thirteens (fits_csr kept rc) w s)
