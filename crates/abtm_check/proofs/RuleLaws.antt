-- The rules of a record of tiles at each return of the code that tests them. Assumes nothing.
use Rattle.std.proofs.Common.{◌≡◌, ℕ, ◌^◌, ◌<◌, ◌≤◌, Bool, true, false, not, Some, None, ◌&&◌, eqb, List, map, length, sym, refl, ap, ◌∙◌, ap₂, leb-true}
use Rattle.std.specs.Bool.{then_some}
use mathlib.Core.Bool.{and-true}
use mathlib.Core.List.{zip}
use lib.ListN.{length-map}
use lib.Ieee.{Float}
use borrow.Author.Tests.{not-false}
use Rattle.hybit_core.specs.Domain.{few, many, sizes_fit}
use Rattle.hybit_core.proofs.BoolLaws.{and_left, and_right, and_first, and_second, is_equal, is_unequal}
use Rattle.lent.specs.Lists.{part, every}
use Rattle.lent.proofs.ListLaws.{every-joined}
use Rattle.word.proofs.BitLaws.{every-below-at}
use Rattle.csr32.specs.Csr.{framed_lists}
use Rattle.csr32.proofs.FrameLaws.{lists_sides, lists_frame, parts_all, part_lengths}
use Rattle.topology.specs.Words.{as_words, row_rule, row_rules, set_bits, word_rules}
use Rattle.topology.proofs.LastLaws.{nonzero, row_with_empty}
use Rattle.abtm.specs.Tiles.{word_in, as_tiles, listed_tiles, slot_rules, tiles_rules}

-- a list whose size passed
pub sizes_few : (a b c d : ℕ) (r : Bool) → r ≡ sizes_fit a b c d → not r ≡ false → c ≤ 2 ^ 24
unfolding sizes_fit
sizes_few a b c d r e h =
    leb-true c (2 ^ 24)
    (and_right (few a && few b) (many c) (and_left (few a && few b && many c) (many d) (sym e ∙ not-false r h)))

-- the tests of one pass, each alone
module _ (a b c : Bool) (e : true ≡ ((a && b) && c)) where
  pub first-held : true ≡ a
  first-held = sym (and_left a b (and_left (a && b) c (sym e)))

  pub second_held : true ≡ b
  second_held = sym (and_right a b (and_left (a && b) c (sym e)))

  pub third_held : true ≡ c
  third_held = sym (and_right (a && b) c (sym e))

-- the count of a pass, where its tests hold
pub counted_held : (b : Bool) (n m : ℕ) → Some m ≡ then_some b n → (true ≡ b) × (m ≡ n)
counted_held true n m e = (refl, cc)
counted_held false n m e = cc

pub none_counted : (b : Bool) (n : ℕ) → None ≡ then_some b n → false ≡ b
none_counted true n e = cc
none_counted false n e = refl

-- ---- pointers, rows, lengths, count and values

module _ (n m : ℕ) (ps ks ms os : List ℕ) (vs : List Float) (t : ℕ) where
  abbrev rows : Bool
  rows = row_rules (as_words n m ps (map word_in ks) ms t)

  abbrev ruled : Bool
  ruled = slot_rules vs (zip ms (zip os ks))

  apart : ((((framed_lists n ps (length ks) (length ms) && rows) && eqb t (set_bits ms)) && eqb (length os) (length ks)) && ruled) ≡ tiles_rules (as_tiles n m ps ms os ks vs t)
  unfolding tiles_rules listed_tiles word_rules row_rules
  apart = ap (λ (l : ℕ). (((framed_lists n ps l (length ms) && rows) && eqb t (set_bits ms)) && eqb (length os) (length ks)) && ruled) (sym (length-map ks word_in))

  pub rules_unframed : false ≡ framed_lists n ps (length ks) (length ms) → false ≡ tiles_rules (as_tiles n m ps ms os ks vs t)
  rules_unframed e = ap (λ (f : Bool). (((f && rows) && eqb t (set_bits ms)) && eqb (length os) (length ks)) && ruled) e ∙ apart

  pub rules_unequal : (length os ≡ length ks → ⊥) → false ≡ tiles_rules (as_tiles n m ps ms os ks vs t)
  rules_unequal d =
      and_first (((framed_lists n ps (length ks) (length ms) && rows) && eqb t (set_bits ms)) && eqb (length os) (length ks)) ruled
      (and_second ((framed_lists n ps (length ks) (length ms) && rows) && eqb t (set_bits ms)) (eqb (length os) (length ks)) (is_unequal (length os) (length ks) d))
      ∙ apart

  module _ (f : true ≡ framed_lists n ps (length ks) (length ms)) where
    pub rules_rows : false ≡ row_rules (as_words n m ps (map word_in ks) ms t) → false ≡ tiles_rules (as_tiles n m ps ms os ks vs t)
    rules_rows e = ap₂ (λ (g r : Bool). (((g && r) && eqb t (set_bits ms)) && eqb (length os) (length ks)) && ruled) f e ∙ apart

    pub rules_counted : length os ≡ length ks → true ≡ row_rules (as_words n m ps (map word_in ks) ms t) → (r : Bool) → r ≡ (eqb t (set_bits ms) && slot_rules vs (zip ms (zip os ks))) → r ≡ tiles_rules (as_tiles n m ps ms os ks vs t)
    rules_counted d e r q =
        q
        ∙ ap (λ (b : Bool). b && ruled) (sym (and-true (eqb t (set_bits ms))) ∙ ap (λ (l : Bool). eqb t (set_bits ms) && l) (is_equal (length os) (length ks) d))
        ∙ ap₂ (λ (g s : Bool). (((g && s) && eqb t (set_bits ms)) && eqb (length os) (length ks)) && ruled) f e
        ∙ apart

    -- an empty mask stands in some row
    sides : length ms ≡ length (map word_in ks)
    sides = sym (length-map ks word_in ∙ lists_sides n ps (length ks) (length ms) (sym f))

    row_full : (r : ℕ) → r < n → row_rules (as_words n m ps (map word_in ks) ms t) ≡ true → every nonzero (part ps ms r) ≡ true
    unfolding row_rules
    row_full r h e = go (every nonzero (part ps ms r)) refl
      where
        go : (b : Bool) → every nonzero (part ps ms r) ≡ b → b ≡ true
        go true q = refl
        go false q =
            row_with_empty m (part ps (map word_in ks) r) (part ps ms r) (part_lengths ps ms (map word_in ks) r sides) (sym q)
            ∙ every-below-at (λ r. row_rule m (part ps (map word_in ks) r) (part ps ms r)) (λ r. true) n r e h refl

    pub rules_empty : false ≡ every nonzero ms → false ≡ tiles_rules (as_tiles n m ps ms os ks vs t)
    rules_empty e = rules_rows (go rows refl)
      where
        go : (b : Bool) → rows ≡ b → false ≡ b
        go true q =
            e ∙ sym (ap (every nonzero) (parts_all n ps ms (lists_frame n ps (length ks) (length ms) (sym f))))
            ∙ every-joined nonzero (part ps ms) n (λ r h. row_full r h q)
        go false q = refl
