-- Demand 3 at work on two small matrices: its hypotheses hold, both have the three 3.5, 2, 2 and NaN, 2, 1, the other routes have them
-- too; with every plot active the numbers differ, and with an active zero the tiles' number may. Assumes nothing.
use Prim.Native.Nat.{ℕ, zero, suc, ◌<◌}
use native.Mathlib.Omega.{arith}
use mathlib.Core.Bool.{Bool, true, cond}
use mathlib.Core.List.{zip, zip_with}
use mathlib.Core.Path.{◌≡◌, refl, sym, ap, ◌∙◌}
use lib.Count.{count_trailing_zeros}
use lib.Dec.{ltb}
use lib.Ieee.{nan, of_bits, of_fields, odd, add, mul, sum, round, units, size, span, climb}
use borrow.Author.Tests.{ltb-true}
use Rattle.hybit_core.specs.Answer.{gives}
use Rattle.hybit_core.specs.Domain.{sizes_fit}
use Rattle.hybit_core.proofs.BoolLaws.{and_left}
use Rattle.lent.specs.Lists.{joined, each, starts, part, only, every, some, rises, climbs, spread}
use Rattle.lent.specs.Lent.{padded}
use Rattle.lent.proofs.ListLaws.{get_or-each, length-each}
use Rattle.word.specs.Bits.{has, from, below, between, members, number as bits_of, mask_of, words_of}
use Rattle.mask.specs.Mask.{bit_at, active, mask_rules, mask_words, all_active}
use Rattle.csr32.specs.Csr.{framed, framed_lists, csr_rules, csr_answer, entries, present, merged, at, row_product, product}
use Rattle.csr32.specs.Made.{entries_in, csr_of, fits_csr, csr_left}
use Rattle.topology.specs.Words.{topology_of, word_rule, row_rule, row_rules, set_bits, word_rules}
use Rattle.topology.specs.Calls.{fits_words}
use Rattle.metadata_first.specs.Store.{packed_of}
use Rattle.metadata_first.specs.Dot.{Three, sum_over, demanded}
use Rattle.metadata_first_merge.specs.Merge.{row_values, merged_finite, merge_answer}
use Rattle.metadata_first_build.specs.Pack.{store_of, fits_store, pack_answer, pruned_dot, wanted}
use Rattle.abtm_values.specs.Values.{merged_nonzero}
use Rattle.abtm.specs.Tiles.{places_of, stored, threshold_rules, kind_of, meta_of, tile_of, row_tiles_of, laid, tiles_of, tile_at, listed_tiles, row_tiles, tile_entries, tile_sizes, value_rule, tile_rule, gapless, slot_rules, tiles_rules}
use Rattle.abtm.specs.Calls.{threshold_answer}
use Rattle.abtm_build.specs.Build.{tiles_from, fits_tiles, tile_answer, tiled}
use Rattle.restricted.specs.Restricted.{restricted, restrict_answer, restricted_left, restricted_tiles, restrict_tiles_answer}
use Rattle.demand.specs.Demand.{Alike, Same, tiled_number}
use Rattle.demand.specs.Instance.{half, two, three, dry, one_year, other_year, yield_at, yields, other_yields, exact_room, large_room, plot_room, tile_room, limits, Computed}
use Rattle.demand.proofs.Demand3.{demand3, every-active}

pub computed : Computed
unfolding dry one_year other_year yields other_yields exact_room large_room plot_room tile_room limits sizes_fit joined each starts part only every some rises climbs spread padded
    has from below between members bits_of mask_of words_of bit_at active mask_rules mask_words framed framed_lists csr_rules csr_answer entries present merged row_product product
    csr_of fits_csr csr_left topology_of word_rule row_rule row_rules set_bits word_rules fits_words packed_of sum_over demanded row_values merged_finite merge_answer store_of fits_store pack_answer
    merged_nonzero places_of stored threshold_rules kind_of meta_of tile_of row_tiles_of laid tiles_of tile_at listed_tiles row_tiles tile_entries tile_sizes value_rule tile_rule gapless slot_rules tiles_rules
    threshold_answer tiles_from fits_tiles tile_answer tiled restricted restrict_answer restricted_tiles restrict_tiles_answer
    zip zip_with of_bits of_fields odd add mul sum round units size span climb count_trailing_zeros
computed = record {
  one_accepted = refl;
  other_accepted = refl;
  valid = refl;
  first_entries = refl;
  second_entries = refl;
  first_three = refl;
  second_three = refl;
  one_whole = refl;
  other_whole = refl;
  plots_fit = refl;
  store_fits = refl;
  tiles_fit = refl;
  cut_fits = refl;
  first_no_zero = record { stored = refl; merging = refl };
  second_tiles = refl;
}

-- ---- the hypotheses

same_entries : (r : ℕ) → r < 2 → entries_in (active dry) (entries one_year r) ≡ entries_in (active dry) (entries other_year r)
same_entries zero h = computed.first_entries
same_entries (suc zero) h = computed.second_entries
same_entries (suc (suc r)) h = absurd (omega arith)

same_yields : (c : ℕ) → active dry c ≡ true → at yields c ≡ at other_yields c
unfolding yields other_yields
same_yields c e =
    let l : c < 70 = inside e in
    get_or-each yield_at 70 c nan l ∙ sym (get_or-each (λ c. cond (active dry c) (yield_at c) (two 3)) 70 c nan l ∙ ap (λ (b : Bool). cond b (yield_at c) (two 3)) e)
  where
    inside : active dry c ≡ true → c < 70
    inside e = unfold active dry in ltb-true c 70 (and_left (ltb c 70) (bit_at dry.bits c) e)

pub alike : Alike one_year other_year dry yields other_yields exact_room large_room
unfolding dry one_year other_year yields other_yields
alike = record {
  same_rows = refl;
  same_columns = refl;
  a_accepted = computed.one_accepted;
  b_accepted = computed.other_accepted;
  valid_mask = computed.valid;
  mask_as_long = refl;
  x_as_long = length-each yield_at 70;
  y_as_long = length-each (λ c. cond (active dry c) (yield_at c) (two 3)) 70;
  same_entries = same_entries;
  same_yields = same_yields;
}

-- ---- what the theorem says of them

rows_are : (r : ℕ) → r < 2 → Same one_year other_year dry yields other_yields exact_room large_room r
unfolding one_year
rows_are r h = demand3 one_year other_year dry yields other_yields exact_room large_room alike r h

-- both matrices' dots of a row are the three that the first one's list gives
dots_are : (r : ℕ) → r < 2 → (w : Three) → wanted one_year dry yields r ≡ w → (pruned_dot one_year exact_room dry yields r ≡ gives w) × (pruned_dot other_year large_room dry other_yields r ≡ gives w)
dots_are r h w e =
    let k = rows_are r h in
    (k.a_row.three ∙ ap gives e, sym k.same_dots ∙ k.a_row.three ∙ ap gives e)

pub first_dots : (pruned_dot one_year exact_room dry yields 0 ≡ gives (three (half 7) 2 2)) × (pruned_dot other_year large_room dry other_yields 0 ≡ gives (three (half 7) 2 2))
first_dots = dots_are 0 (omega arith) (three (half 7) 2 2) computed.first_three

pub second_dots : (pruned_dot one_year exact_room dry yields 1 ≡ gives (three nan 2 1)) × (pruned_dot other_year large_room dry other_yields 1 ≡ gives (three nan 2 1))
second_dots = dots_are 1 (omega arith) (three nan 2 1) computed.second_three

-- restricted from the plot list, and from tiles
pub first-restricted : pruned_dot (restricted_left one_year dry plot_room) exact_room (all_active 70) yields 0 ≡ gives (three (half 7) 2 2)
unfolding one_year
first-restricted = ((rows_are 0 (omega arith)).a_row.restricting plot_room exact_room (all_active 70) computed.plots_fit computed.store_fits (every-active 70)).three ∙ ap gives computed.first_three

pub first_tiles : tiled_number one_year dry yields limits tile_room plot_room 0 ≡ half 7
first_tiles =
    ((rows_are 0 (omega arith)).a_row.tiling limits tile_room plot_room limits-good computed.tiles_fit computed.cut_fits).number computed.first_no_zero
    ∙ ap (λ (w : Three). w.number) computed.first_three
  where
    limits-good : threshold_rules limits ≡ true
    limits-good = unfold threshold_rules limits in refl

-- ---- what it doesn't say

-- with every plot active the two differ: masked plots do hold something else
pub whole_differ : (wanted one_year (all_active 70) yields 0).number ≡ (wanted other_year (all_active 70) other_yields 0).number → ⊥
whole_differ e =
    let z : half 15 ≡ half 55 = sym (ap (λ (w : Three). w.number) computed.one_whole) ∙ e ∙ ap (λ (w : Three). w.number) computed.other_whole in
    let n : ◌≡◌ {A = ℕ} 15 55 = cc in
    omega arith

-- the tiles' number may be another in a row with an active zero
pub zero_differs : tiled_number one_year dry yields limits tile_room plot_room 1 ≡ (wanted one_year dry yields 1).number → ⊥
zero_differs e =
    let z : two 0 ≡ nan = sym computed.second_tiles ∙ e ∙ ap (λ (w : Three). w.number) computed.second_three in
    let n : ◌≡◌ {A = ℕ} 0 1 = cc in
    omega arith
