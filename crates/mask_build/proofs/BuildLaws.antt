-- The bits of a list of indices set one after another, and what an accepted new, from_indices or set says. Assumes nothing.
use mathlib.Core.Bool.{Bool, true, false, cond, ◌&&◌}
use mathlib.Core.List.{List, [], ◌∷◌}
use mathlib.Core.Path.{◌≡◌, refl, sym, ap, ◌∙◌}
use Prim.Native.Nat.{ℕ, ◌+◌, ◌/◌, ◌%◌, ◌≤◌, ◌<◌}
use native.Mathlib.Numerals.{add-one}
use native.Mathlib.Omega.{arith}
use borrow.Author.Tests.{ltb-true, leb-true}
use lib.Dec.{eqb, ltb, leb}
use lib.ListN.{length, get_or, take, set}
use lib.Seq.{take-suc, take_all}
use Rattle.hybit_core.specs.Answer.{accepted, demand, ◌and_then◌}
use Rattle.hybit_core.specs.Domain.{few}
use Rattle.hybit_core.proofs.AnswerLaws.{demand_accepted, then_first, then_second}
use Rattle.lent.specs.Lists.{every, some}
use Rattle.lent.specs.Lent.{padded, built}
use Rattle.lent.proofs.ListLaws.{every-get_or, some_snoc, some-none}
use Rattle.lent.proofs.LentLaws.{padded_zeros, padded-set, get_or-padded, length-padded}
use Rattle.word.specs.Bits.{has, word_of, ceil64}
use Rattle.mask.specs.Mask.{as_mask, mask_words, mask_answer}
use Rattle.mask.specs.Calls.{new_answer, from_indices_answer, listed, set_answer, changed}
use Rattle.mask.proofs.MaskLaws.{Valid, valid, length-words}
use Rattle.mask.proofs.CallLaws.{or_as_cond, words_cong, changed_is, empty-words}

-- ---- setting the bit of each index: the first k are set

pub record Setting (n : ℕ) (is : List ℕ) (old : List ℕ) (k : ℕ) (ws : List ℕ) : Type 0 where
  pub inside : k ≤ length is
  pub list : ws ≡ padded 0 (length old) (mask_words (listed (take k is)) n)

-- no index: all zeros, used or not
pub new_is : (n room : ℕ) → ceil64 n ≤ room → padded 0 room [] ≡ padded 0 room (mask_words (λ c. false) n)
new_is n room h = sym (ap (padded 0 room) (empty-words n) ∙ padded_zeros 0 room (ceil64 n) h)

listed-none : (c : ℕ) → listed [] c ≡ false
unfolding listed
listed-none c = some-none (eqb c)

listed_more : (is : List ℕ) (k c : ℕ) → k < length is → listed (take (k + 1) is) c ≡ changed (listed (take k is)) (get_or is k 0) true c
unfolding listed
listed_more is k c h =
    ap (λ (n : ℕ). some (eqb c) (take n is)) (add-one k) ∙ ap (some (eqb c)) (take-suc is k 0 h) ∙ some_snoc (eqb c) (take k is) (get_or is k 0) ∙ or_as_cond (some (eqb c) (take k is)) (eqb c (get_or is k 0))

module _ (n : ℕ) (is old : List ℕ) (room : ceil64 n ≤ length old) where
  pub setting_none : old ≡ padded 0 (length old) [] → Setting n is old 0 old
  setting_none e = record {
    inside = omega arith;
    list = e ∙ new_is n (length old) room ∙ ap (padded 0 (length old)) (words_cong (λ c. false) (listed (take 0 is)) n (λ c h. sym (listed-none c)));
  }

  module _ (k : ℕ) (ws : List ℕ) (inv : Setting n is old k ws) where
    setting_fits : length (mask_words (listed (take k is)) n) ≤ length old
    setting_fits = omega (arith, length-words (listed (take k is)) n)

    pub setting_length : length ws ≡ length old
    setting_length = ap length inv.list ∙ length-padded 0 (length old) (mask_words (listed (take k is)) n) setting_fits

    pub setting_done : length is ≤ k → ws ≡ padded 0 (length old) (mask_words (listed is) n)
    setting_done h = inv.list ∙ ap (λ (l : List ℕ). padded 0 (length old) (mask_words (listed l) n)) (take_all k is h)

    module _ (all : every (λ i. ltb i n) is ≡ true) (h : k < length is) where
      pub index_below : get_or is k 0 < n
      index_below = ltb-true (get_or is k 0) n (every-get_or (λ i. ltb i n) is k 0 all h)

      pub index_word : get_or is k 0 / 64 < length ws
      index_word = omega (arith, index_below, setting_length)

      pub setting_more : (r : ℕ) → r ≡ word_of (λ j. cond (eqb j (get_or is k 0 % 64)) true (has (get_or ws (get_or is k 0 / 64) 0) j)) → Setting n is old (k + 1) (set ws (get_or is k 0 / 64) r)
      setting_more r e =
          let i : ℕ = get_or is k 0 in
          let p : ℕ → Bool = listed (take k is) in
          let w : get_or is k 0 / 64 < length (mask_words (listed (take k is)) n) = omega (arith, length-words (listed (take k is)) n, index_below) in
          let read : get_or ws (get_or is k 0 / 64) 0 ≡ get_or (mask_words (listed (take k is)) n) (get_or is k 0 / 64) 0 = ap (λ (l : List ℕ). get_or l (get_or is k 0 / 64) 0) inv.list ∙ get_or-padded 0 (length old) (get_or is k 0 / 64) (mask_words (listed (take k is)) n) 0 w in
          record {
            inside = omega arith;
            list =
                ap (λ (l : List ℕ). set l (i / 64) r) inv.list ∙ padded-set 0 (length old) (i / 64) (mask_words p n) r w
                ∙ ap (padded 0 (length old))
                (changed_is p n i true r (mask_words p n) refl index_below (e ∙ ap (λ (m : ℕ). word_of (λ j. cond (eqb j (i % 64)) true (has m j))) read)
                ∙ words_cong (changed p i true) (listed (take (k + 1) is)) n (λ c b. sym (listed_more is k c h)));
          }

module _ (n : ℕ) (ws : List ℕ) (i : ℕ) (ok : set_answer (as_mask n ws) i ≡ accepted) where
  pub set_valid : Valid n ws
  unfolding set_answer
  set_valid = valid n ws (then_first (mask_answer (as_mask n ws)) (demand (ltb i n) 7) ok)

  pub set-inside : i < n
  unfolding set_answer
  set-inside = ltb-true i n (demand_accepted (ltb i n) 7 (then_second (mask_answer (as_mask n ws)) (demand (ltb i n) 7) ok))

  pub set_place : i / 64 < length ws
  set_place = omega (arith, set-inside, set_valid.counted)

module _ (n : ℕ) (is : List ℕ) (room : ℕ) (ok : from_indices_answer n is room ≡ accepted) where
  pub from_indices_below : every (λ i. ltb i n) is ≡ true
  unfolding from_indices_answer
  from_indices_below =
      demand_accepted (every (λ i. ltb i n) is) 7
      (then_first (demand (every (λ i. ltb i n) is) 7) (demand (leb (ceil64 n) room) 13)
      (then_second (demand (few n) 1) (demand (every (λ i. ltb i n) is) 7 and_then demand (leb (ceil64 n) room) 13) ok))

  pub from_indices_room : ceil64 n ≤ room
  unfolding from_indices_answer
  from_indices_room =
      leb-true (ceil64 n) room
      (demand_accepted (leb (ceil64 n) room) 13
      (then_second (demand (every (λ i. ltb i n) is) 7) (demand (leb (ceil64 n) room) 13)
      (then_second (demand (few n) 1) (demand (every (λ i. ltb i n) is) 7 and_then demand (leb (ceil64 n) room) 13) ok)))

-- a list that was cleared whole
module _ (room : ℕ) (out : List ℕ) (e : out ≡ padded 0 room []) where
  pub cleared_length : length out ≡ room
  cleared_length = ap length e ∙ length-padded 0 room [] (omega arith)

  pub cleared_room : (m : ℕ) → m ≤ room → m ≤ length out
  cleared_room m h = omega (arith, cleared_length)

  pub cleared_self : out ≡ padded 0 (length out) []
  cleared_self = e ∙ ap (λ (n : ℕ). padded 0 n []) (sym cleared_length)

  pub cleared_then : (last l : List ℕ) → last ≡ padded 0 (length out) l → last ≡ padded 0 room l
  cleared_then last l h = h ∙ ap (λ (n : ℕ). padded 0 n l) cleared_length

-- new leaves zeros, accepted or refused
pub new_list : (n room : ℕ) (out : List ℕ) → out ≡ padded 0 room [] → out ≡ built 0 room (new_answer n room) (mask_words (λ c. false) n)
unfolding new_answer
new_list n room out e = go (few n) (leb (ceil64 n) room) refl
  where
    go : (s t : Bool) → leb (ceil64 n) room ≡ t → out ≡ built 0 room (demand s 1 and_then demand t 13) (mask_words (λ c. false) n)
    go true true q = e ∙ new_is n room (leb-true (ceil64 n) room q)
    go true false q = e
    go false t q = e
