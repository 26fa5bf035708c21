-- What holds of the three routes of a row: of one matrix, and of two that demand 3 calls alike.
use Rattle.std.specs.Prelude.{ℕ, List, ◌≡◌, Float}
use Rattle.mask.specs.Mask.{Mask}
use Rattle.csr32.specs.Csr.{Csr}
use Rattle.metadata_first.specs.Dot.{three_of}
use Rattle.metadata_first_build.specs.Pack.{wanted}
use Rattle.abtm.specs.declared.AbtmConfig.{AbtmConfig}
use Rattle.demand.specs.Demand.{NoZero}
use Rattle.demand_examine.specs.Calls.{row_dot, restricted_row_dot, tiled_row_product}

-- the three routes give what demand 2 wants of the row
pub record Agree (m : Csr) (a : Mask) (h : AbtmConfig) (x : List Float) (r : ℕ) : Type 0 where
  pub pruned : three_of (row_dot m a x r) ≡ wanted m a x r
  pub restricting : three_of (restricted_row_dot m a x r) ≡ wanted m a x r
  pub tiling : NoZero m a r → tiled_row_product m a h x r ≡ (wanted m a x r).number
