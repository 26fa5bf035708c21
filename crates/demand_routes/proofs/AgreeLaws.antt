-- Demand 3 of the routes that are run: each gives the three, or the number, that the matrix itself has in its active plots, so two
-- matrices that are alike there give the same by every route. Assumes nothing.
use mathlib.Core.List.{List}
use mathlib.Core.Path.{◌≡◌, ◌∙◌}
use Prim.Native.Nat.{ℕ, ◌<◌}
use native.Mathlib.Omega.{arith}
use lib.Ieee.{Float}
use Rattle.hybit_core.specs.Answer.{accepted, demand, ◌and_then◌}
use Rattle.hybit_core.proofs.AnswerLaws.{then_first, then_second}
use Rattle.mask.specs.Mask.{Mask, active, all_active}
use Rattle.csr32.specs.Csr.{Csr, entries, at}
use Rattle.metadata_first.specs.Dot.{three_of}
use Rattle.metadata_first.proofs.DotLaws.{demanded-three}
use Rattle.metadata_first_build.specs.Pack.{StoreRoom, store_of, fits_store, wanted}
use Rattle.abtm.specs.declared.AbtmConfig.{AbtmConfig}
use Rattle.restricted.specs.Restricted.{restricted}
use Rattle.demand.specs.Demand.{Alike}
use Rattle.demand.proofs.Demand3.{demand3, every-active}
use Rattle.demand.proofs.PackedLaws.{packable}
use Rattle.demand.proofs.RestrictingLaws.{wanted_again}
use Rattle.demand.proofs.TilingLaws.{left-number}
use Rattle.demand_examine.specs.Calls.{records_answer, question_answer, pruned_answer, row_dot, restricted_row_dot, tiled_row_product}
use Rattle.demand_routes.specs.Agree.{Agree}
use Rattle.demand_examine.proofs.StepLaws.{Asked, asked}

dot_three : (m : Csr) (a : Mask) (x : List Float) (r : ℕ) → three_of (row_dot m a x r) ≡ wanted m a x r
unfolding row_dot
dot_three m a x r = demanded-three m.cols (entries m r) (active a) (at x)

pub routes_agree : (m : Csr) (a : Mask) (h : AbtmConfig) (x : List Float) (r : ℕ) → Asked m a x r → Agree m a h x r
unfolding restricted_row_dot tiled_row_product
routes_agree m a h x r k = record {
  pruned = dot_three m a x r;
  restricting = dot_three (restricted m a) (all_active m.cols) x r ∙ wanted_again m k.packs a k.valid_mask k.mask_long x r k.vector_long k.here (all_active m.cols) (every-active m.cols);
  tiling = λ z. left-number m k.packs a h r z x k.here;
}

-- a matrix, mask, vector and row that the call of the pruned dot accepts
pub accepted_agree : (m : Csr) (a : Mask) (h : AbtmConfig) (x : List Float) (r : ℕ) (room : StoreRoom) → pruned_answer m a x r room ≡ accepted → Agree m a h x r
unfolding pruned_answer
accepted_agree m a h x r room e =
    let rest = question_answer m a x r and_then demand (fits_store (store_of m) room) 13 in
    routes_agree m a h x r (asked m a x r (then_first (records_answer m a) rest e) (then_first (question_answer m a x r) (demand (fits_store (store_of m) room) 13) (then_second (records_answer m a) rest e)))

-- two matrices, a mask and two vectors that demand 3 calls alike: all routes of both agree, and the two rows have the same three
pub alike_agree : (m n : Csr) (a : Mask) (x y : List Float) (rm rn : StoreRoom) → Alike m n a x y rm rn → (h g : AbtmConfig) (r : ℕ) → r < m.rows
    → Agree m a h x r × Agree n a g y r × (wanted m a x r ≡ wanted n a y r)
alike_agree m n a x y rm rn s h g r l = (
  routes_agree m a h x r (record { packs = packable m rm s.a_accepted; valid_mask = s.valid_mask; mask_long = s.mask_as_long; vector_long = s.x_as_long; here = l }),
  routes_agree n a g y r (record { packs = packable n rn s.b_accepted; valid_mask = s.valid_mask; mask_long = s.mask_as_long ∙ s.same_columns; vector_long = s.y_as_long ∙ s.same_columns; here = omega (arith, s.same_rows) }),
  (demand3 m n a x y rm rn s r l).same_three,
)
