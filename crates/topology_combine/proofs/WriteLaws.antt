-- The combined row as it is written, word after word, by the merge. Assumes nothing.
use mathlib.Core.List.{List, [], ◌∷◌, ◌++◌, map}
use mathlib.Core.Path.{◌≡◌, refl, sym, ap, ◌∙◌}
use Prim.Native.Nat.{ℕ, ◌+◌, ◌%◌, ◌^◌, ◌≤◌, ◌<◌}
use native.Mathlib.Numerals.{add-one}
use native.Mathlib.Omega.{arith}
use lib.ListN.{length, get_or, take, set, length-set, length-map}
use lib.Seq.{take-suc, take-length}
use Rattle.lent.specs.Lent.{Appended}
use Rattle.lent.proofs.ListLaws.{get_or-map-lt}
use Rattle.lent.proofs.LentLaws.{appended_none, appended_snoc}
use Rattle.word.specs.Bits.{mask_of, words_of}
use Rattle.word.specs.declared.Operation.{Operation}
use Rattle.topology_combine.specs.Combine.{combined_row}
use Rattle.topology_combine.specs.Merge.{Stepped}
use Rattle.topology_combine.proofs.MergeLaws.{TwoRows, Merging, merging_none, merging_mask, merging_empty, merging_full, merging_room, merging_word, merging_done}

-- the first k of a list are written: one more
put : {A : Type 0} (l : List A) (d v : A) (k from to : ℕ) (old out : List A) → Appended (take k l) from to old out → k < length l → to < length out → v ≡ get_or l k d → Appended (take (k + 1) l) from (to + 1) old (set out to v)
put {A} l d v k from to old out a h r e =
    let x : take k l ++ (v ∷ []) ≡ take (k + 1) l = sym (ap (λ (n : ℕ). take n l) (add-one k) ∙ take-suc l k d h ∙ ap (λ (b : A). take k l ++ (b ∷ [])) (sym e)) in
    rw x at (appended_snoc (take k l) from to old out v a r)

module _ (op : Operation) (n : ℕ) (ws ms vs ns : List ℕ) where
  -- the combined row
  abbrev words_in : List ℕ
  words_in = words_of (combined_row op ws ms vs ns) n

  abbrev masks_in : List ℕ
  masks_in = map (mask_of (combined_row op ws ms vs ns) n) (words_of (combined_row op ws ms vs ns) n)

  -- k words of it stand before place to
  pub record Writing (from : ℕ) (words₀ masks₀ : List ℕ) (at other to : ℕ) (words masks : List ℕ) : Type 0 where
    pub k : ℕ
    pub merge : Merging op n ws ms vs ns at other k
    pub place : to ≡ from + k
    pub room : from + length words_in ≤ length words₀
    pub mask_room : from + length words_in ≤ length masks₀
    pub words_same : length words ≡ length words₀
    pub masks_same : length masks ≡ length masks₀
    pub numbers : Appended (take k words_in) from to words₀ words
    pub bits : Appended (take k masks_in) from to masks₀ masks

  module _ (from : ℕ) (words₀ masks₀ : List ℕ) where
    pub writing_none : TwoRows n ws ms vs ns → from + length words_in ≤ length words₀ → from + length words_in ≤ length masks₀ → Writing from words₀ masks₀ 0 0 from words₀ masks₀
    writing_none r a b = record {
      k = 0;
      merge = merging_none op n ws ms vs ns r;
      place = omega arith;
      room = a;
      mask_room = b;
      words_same = refl;
      masks_same = refl;
      numbers = appended_none from words₀;
      bits = appended_none from masks₀;
    }

    module _ (at other to : ℕ) (words masks : List ℕ) (inv : Writing from words₀ masks₀ at other to words masks) where
      module _ (index mask next other-next : ℕ) (s : Stepped op ws ms vs ns at other index mask next other-next) where
        pub writing_empty : mask ≡ 0 → Writing from words₀ masks₀ next other-next to words masks
        writing_empty e = record {
          k = inv.k;
          merge = merging_empty op n ws ms vs ns at other inv.k inv.merge index mask next other-next s e;
          place = inv.place;
          room = inv.room;
          mask_room = inv.mask_room;
          words_same = inv.words_same;
          masks_same = inv.masks_same;
          numbers = inv.numbers;
          bits = inv.bits;
        }

        module _ (e : mask ≡ 0 → ⊥) where
          left : inv.k < length words_in
          left = merging_room op n ws ms vs ns at other inv.k inv.merge index mask next other-next s e

          pub writing_room : (to < length words) × (to < length masks)
          writing_room = (omega (arith, left, inv.place, inv.room, inv.words_same), omega (arith, left, inv.place, inv.mask_room, inv.masks_same))

          pub writing_full : (w : ℕ) → w ≡ index % 2 ^ 32 → Writing from words₀ masks₀ next other-next (to + 1) (set words to w) (set masks to mask)
          writing_full w ew =
              let word : index ≡ get_or words_in inv.k 0 = merging_word op n ws ms vs ns at other inv.k inv.merge index mask next other-next s e in
              let bits : mask ≡ mask_of (combined_row op ws ms vs ns) n index = merging_mask op n ws ms vs ns at other inv.k inv.merge index mask next other-next s in
              let whole : w ≡ index = omega (arith, s.small) in
              let long : inv.k < length masks_in = omega (arith, left, length-map words_in (mask_of (combined_row op ws ms vs ns) n)) in
              record {
                k = inv.k + 1;
                merge = merging_full op n ws ms vs ns at other inv.k inv.merge index mask next other-next s e;
                place = omega (arith, inv.place);
                room = inv.room;
                mask_room = inv.mask_room;
                words_same = length-set words to w ∙ inv.words_same;
                masks_same = length-set masks to mask ∙ inv.masks_same;
                numbers = put words_in 0 w inv.k from to words₀ words inv.numbers left writing_room.0 (whole ∙ word);
                bits = put masks_in 0 mask inv.k from to masks₀ masks inv.bits long writing_room.1
                    (bits ∙ ap (mask_of (combined_row op ws ms vs ns) n) word ∙ sym (get_or-map-lt (mask_of (combined_row op ws ms vs ns) n) words_in inv.k 0 0 left));
              }

      module _ (a : length ws ≤ at) (b : length vs ≤ other) where
        all : inv.k ≡ length words_in
        all = merging_done op n ws ms vs ns at other inv.k inv.merge a b

        pub written_words : Appended words_in from to words₀ words
        written_words = let e : take inv.k words_in ≡ words_in = ap (λ (m : ℕ). take m words_in) all ∙ take-length words_in in rw e at inv.numbers

        pub written_masks : Appended masks_in from to masks₀ masks
        written_masks =
            let e : take inv.k masks_in ≡ masks_in = ap (λ (m : ℕ). take m masks_in) (all ∙ sym (length-map words_in (mask_of (combined_row op ws ms vs ns) n))) ∙ take-length masks_in in
            rw e at inv.bits
