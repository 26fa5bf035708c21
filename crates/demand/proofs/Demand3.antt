-- Demand 3: whatever two matrices hold in masked plots, the pruned dots of every row give the same three, which are demand 2's; and so
-- do both other routes. Assumes nothing.
use mathlib.Core.Path.{◌≡◌, refl, sym, ap, ◌∙◌}
use mathlib.Core.Bool.{true}
use mathlib.Core.List.{List}
use Prim.Native.Nat.{ℕ, ◌<◌}
use native.Mathlib.Omega.{arith}
use lib.ListN.{length}
use lib.Ieee.{Float}
use Rattle.hybit_core.specs.Answer.{accepted, gives}
use Rattle.mask.specs.Mask.{Mask, active, mask_rules, all_active}
use Rattle.mask.proofs.MaskLaws.{all_valid, all-active}
use Rattle.csr32.specs.Csr.{Csr, entries, at}
use Rattle.metadata_first.specs.Dot.{demanded}
use Rattle.metadata_first.proofs.ActiveLaws.{demanded_same}
use Rattle.metadata_first_build.specs.Pack.{StoreRoom, pack_answer, wanted}
use Rattle.metadata_first_build.proofs.DemandLaws.{pruned_dot_lem}
use Rattle.demand.specs.Demand.{Alike, EveryActive, Row, Demand3}
use Rattle.metadata_first_merge.proofs.MergeLaws.{Packable}
use Rattle.demand.proofs.PackedLaws.{packable}
use Rattle.demand.proofs.RestrictingLaws.{restricting}
use Rattle.demand.proofs.TilingLaws.{tiling}

-- one matrix: the three, and both other routes
row_is : (m : Csr) (room : StoreRoom) (a : Mask) (x : List Float) (r : ℕ) → pack_answer m room ≡ accepted → mask_rules a ≡ true → a.size ≡ m.cols → length x ≡ m.cols → r < m.rows → Row m room a x r
row_is m room a x r e va la lx h =
    let k : Packable m = packable m room e in
    record {
      three = pruned_dot_lem m room e a x r va la lx h;
      restricting = λ rc rp all f g q. restricting m k a va la x r lx h all q rc rp f g;
      tiling = λ t rt rc ht ft fc. tiling m k a t va la x r lx h rt rc ht ft fc;
    }

-- two matrices with the same entries in active plots, and two vectors that agree there
same_three : (a b : Csr) (mask : Mask) (x y : List Float) (ra rb : StoreRoom) → Alike a b mask x y ra rb → (r : ℕ) → r < a.rows → wanted a mask x r ≡ wanted b mask y r
same_three a b mask x y ra rb s r h =
    ap (λ (n : ℕ). demanded n (entries a r) (active mask) (at x)) s.same_columns
    ∙ demanded_same b.cols (entries a r) (entries b r) (active mask) (at x) (at y) (s.same_entries r h) (λ c l e. s.same_yields c e)

pub demand3 : Demand3
demand3 a b mask x y ra rb s r h =
    let hb : r < b.rows = omega (arith, s.same_rows) in
    let p : Row a ra mask x r = row_is a ra mask x r s.a_accepted s.valid_mask s.mask_as_long s.x_as_long h in
    let q : Row b rb mask y r = row_is b rb mask y r s.b_accepted s.valid_mask (s.mask_as_long ∙ s.same_columns) (s.y_as_long ∙ s.same_columns) hb in
    let w : wanted a mask x r ≡ wanted b mask y r = same_three a b mask x y ra rb s r h in
    record { a_row = p; b_row = q; same_three = w; same_dots = p.three ∙ ap gives w ∙ sym q.three }

-- there is a mask with every column active
pub every-active : (n : ℕ) → EveryActive n (all_active n)
every-active n = record { valid = all_valid n; as_long = refl; everywhere = all-active n }
