-- The checks of an expansion at each return of the code, and the mask that it leaves. Assumes nothing.
use Rattle.std.specs.Prelude.{Result, Ok, Err}
use mathlib.Core.Bool.{true, false, ◌&&◌}
use mathlib.Core.List.{List}
use mathlib.Core.Path.{◌≡◌, sym, ◌∙◌}
use Prim.Native.Nat.{ℕ, ◌≤◌, ◌<◌}
use native.Mathlib.Omega.{arith}
use lib.Dec.{eqb, leb}
use lib.ListN.{length, take}
use lib.Seq.{length-take-le}
use Rattle.hybit_core.specs.Answer.{Answer, accepted, refused, plain, lengths_differ, demand, length_is, ◌and_then◌}
use Rattle.hybit_core.specs.Domain.{few}
use Rattle.hybit_core.specs.Table.{paper, told}
use Rattle.hybit_core.specs.declared.HybitError.{HybitError}
use Rattle.hybit_core.proofs.BoolLaws.{is_equal, is_unequal, is_within, is_above, and_first}
use Rattle.hybit_core.proofs.AnswerLaws.{test_fails, test_passes, last_fails, last_passes, length_wrong, length_right, call_refused, call_accepted, by_records}
use Rattle.word.specs.Bits.{ceil64}
use Rattle.mask.specs.Mask.{as_mask, mask_rules, mask_answer}
use Rattle.mask.proofs.MaskLaws.{checked}
use Rattle.abtm.specs.Tiles.{Tiles, tile_sizes, tiles_rules, tiles_answer}
use Rattle.abtm_expand.specs.Expand.{expand_answer}

-- ---- the checks, as the calls of the two records' checks give them

abbrev own_checks : Tiles → ℕ → ℕ → Answer
own_checks t n room = demand (eqb t.rows t.cols) 10 and_then length_is t.rows n and_then demand (leb (ceil64 n) room) 13

module _ (t : Tiles) (n : ℕ) (ws : List ℕ) (room : ℕ) where
  pub mask_large : false ≡ few n → refused (plain 1) ≡ expand_answer t (as_mask n ws) room
  unfolding expand_answer
  mask_large e = test_fails (few n && tile_sizes t) 1 _ (and_first (few n) (tile_sizes t) e)

  module _ (small : true ≡ few n) where
    expand_is : expand_answer t (as_mask n ws) room ≡ tiles_answer t and_then (mask_answer (as_mask n ws) and_then own_checks t n room)
    unfolding expand_answer tiles_answer mask_answer
    expand_is = by_records (few n) (tile_sizes t) (mask_rules (as_mask n ws)) (demand (tiles_rules t) 12) (own_checks t n room) small

    pub tiles_refused : (v : Result Unit HybitError) (e : HybitError) → told v ≡ tiles_answer t → v ≡ Err e → refused (paper e) ≡ expand_answer t (as_mask n ws) room
    tiles_refused v e h k = call_refused (tiles_answer t) (mask_answer (as_mask n ws) and_then own_checks t n room) v e h k ∙ sym expand_is

    module _ (v : Result Unit HybitError) (h : told v ≡ tiles_answer t) (k : v ≡ Ok tt) where
      pub mask_refused : (m : Result Unit HybitError) (e : HybitError) → told m ≡ mask_answer (as_mask n ws) → m ≡ Err e → refused (paper e) ≡ expand_answer t (as_mask n ws) room
      mask_refused m e hm km =
          call_accepted (tiles_answer t) (mask_answer (as_mask n ws) and_then own_checks t n room) (refused (paper e)) v h k
          (call_refused (mask_answer (as_mask n ws)) (own_checks t n room) m e hm km) ∙ sym expand_is

      module _ (m : Result Unit HybitError) (hm : told m ≡ mask_answer (as_mask n ws)) (km : m ≡ Ok tt) where
        by_own : (a : Answer) → a ≡ own_checks t n room → a ≡ expand_answer t (as_mask n ws) room
        by_own a e =
            call_accepted (tiles_answer t) (mask_answer (as_mask n ws) and_then own_checks t n room) a v h k
            (call_accepted (mask_answer (as_mask n ws)) (own_checks t n room) a m hm km e) ∙ sym expand_is

        pub not_square : (t.rows ≡ t.cols → ⊥) → refused (plain 10) ≡ expand_answer t (as_mask n ws) room
        not_square q = by_own _ (test_fails (eqb t.rows t.cols) 10 _ (is_unequal t.rows t.cols q))

        module _ (q : t.rows ≡ t.cols) where
          pub wrong_size : (n ≡ t.rows → ⊥) → refused (lengths_differ t.rows n) ≡ expand_answer t (as_mask n ws) room
          wrong_size l = by_own _ (test_passes (eqb t.rows t.cols) 10 _ _ (is_equal t.rows t.cols q) (length_wrong t.rows n _ l))

          module _ (l : n ≡ t.rows) where
            by_room : (a : Answer) → a ≡ demand (leb (ceil64 n) room) 13 → a ≡ expand_answer t (as_mask n ws) room
            by_room a e = by_own _ (test_passes (eqb t.rows t.cols) 10 _ _ (is_equal t.rows t.cols q) (length_right t.rows n _ _ l e))

            words_count : length ws ≡ ceil64 n
            words_count = (checked n ws m hm km).counted

            pub short_list : room < length ws → refused (plain 13) ≡ expand_answer t (as_mask n ws) room
            short_list s = by_room _ (last_fails (leb (ceil64 n) room) 13 (is_above (ceil64 n) room (omega (arith, words_count))))

            pub all-good : length ws ≤ room → accepted ≡ expand_answer t (as_mask n ws) room
            all-good s = by_room _ (last_passes (leb (ceil64 n) room) 13 (is_within (ceil64 n) room (omega (arith, words_count))))

-- ---- the list: its front that is lent has the mask's words
pub front_long : (n : ℕ) (ws out : List ℕ) → length ws ≡ ceil64 n → ceil64 n ≤ length out → length (take (length ws) out) ≡ length ws
front_long n ws out e h = length-take-le (length ws) out (omega arith)
