-- Words copied, and words that tile masks are joined into, on the way. Assumes nothing.
use mathlib.Core.Bool.{Bool, true, false, ◌&&◌, ◌||◌, or-false}
use mathlib.Core.List.{List, [], ◌∷◌, ◌++◌, zip}
use mathlib.Core.Path.{◌≡◌, refl, sym, ap, ◌∙◌}
use Prim.Native.Nat.{ℕ, ◌+◌, ◌≤◌, ◌<◌, ◌^◌}
use native.Mathlib.Omega.{arith}
use lib.Dec.{eqb, ltb}
use lib.ListN.{length, get_or, take, set}
use lib.Seq.{take_all}
use borrow.Author.Tests.{ltb-true, eq-eqb, ne_eqb}
use Rattle.lent.specs.Lists.{each, every, some}
use Rattle.lent.proofs.ListLaws.{length-each, get_or-each, each_is, each_set, every-get_or, some-none, some_snoc}
use Rattle.lent.proofs.LentLaws.{Filled, filled_none, filled_length, filled_more, filled_done}
use Rattle.word.specs.Bits.{has, word_of}
use Rattle.word.proofs.OpLaws.{word_is_lem, has_word, word_cong}
use Rattle.abtm.specs.Tiles.{word_in}
use Rattle.lent.proofs.PartLaws.{length-zip, zip_suc}

-- ---- words copied: the first k

pub record Copied (src old : List ℕ) (k : ℕ) (new : List ℕ) : Type 0 where
  pub inside : k ≤ length src
  pub filled : Filled (λ i. get_or src i 0) old k new

module _ (src old : List ℕ) where
  pub copied_none : Copied src old 0 old
  copied_none = record { inside = omega arith; filled = filled_none (λ i. get_or src i 0) old }

  module _ (k : ℕ) (new : List ℕ) (inv : Copied src old k new) (e : length old ≡ length src) where
    pub copied_long : length new ≡ length old
    copied_long = filled_length (λ i. get_or src i 0) old k new inv.filled (omega (arith, inv.inside))

    pub copied_more : k < length src → Copied src old (k + 1) (set new k (get_or src k 0))
    copied_more h = record { inside = omega arith; filled = filled_more (λ i. get_or src i 0) old k new inv.filled (get_or src k 0) refl (omega arith) }

    pub copied_done : length src ≤ k → new ≡ src
    copied_done h = filled_done (λ i. get_or src i 0) old k new inv.filled (length src) e inv.inside h ∙ sym (each_is 0 (λ i. get_or src i 0) (length src) src refl (λ i l. refl))

-- ---- masks joined into words

-- bit i of word w is in one of the tiles, each its mask and meta
abbrev pub in_word : List (ℕ × ℕ) → ℕ → ℕ → Bool
in_word l w i = some (λ (e : ℕ × ℕ). eqb (word_in e.1) w && has e.0 i) l

-- word w of the words with these tiles joined in
abbrev pub joined_to : List ℕ → List (ℕ × ℕ) → ℕ → ℕ
joined_to ws l w = word_of (λ i. has (get_or ws w 0) i || in_word l w i)

-- the first k tiles are joined
pub record Joined (masks metas old : List ℕ) (k : ℕ) (new : List ℕ) : Type 0 where
  pub is : new ≡ each (joined_to old (take k (zip masks metas))) (length old)

module _ (masks metas old : List ℕ) where
  pub joined-none : ((w : ℕ) → get_or old w 0 < 2 ^ 64) → Joined masks metas old 0 old
  joined-none f = record {
    is = each_is 0 (joined_to old []) (length old) old refl
        (λ w h. word_is_lem (get_or old w 0) (λ i. has (get_or old w 0) i || in_word [] w i) (f w) (λ i l. sym (ap (λ (t : Bool). has (get_or old w 0) i || t) (some-none _) ∙ or-false (has (get_or old w 0) i))));
  }

  module _ (k : ℕ) (new : List ℕ) (inv : Joined masks metas old k new) where
    pub joined_long : length new ≡ length old
    joined_long = ap length inv.is ∙ length-each (joined_to old (take k (zip masks metas))) (length old)

    module _ (e : length metas ≡ length masks) where
      module _ (h : k < length masks) (index : ℕ) (ei : index ≡ word_in (get_or metas k 0)) where
        pub joined_index : every (λ m. ltb (word_in m) (length old)) metas ≡ true → index < length new
        joined_index a =
            let b : word_in (get_or metas k 0) < length old = ltb-true (word_in (get_or metas k 0)) (length old) (every-get_or (λ m. ltb (word_in m) (length old)) metas k 0 a (omega arith)) in
            omega (arith, joined_long)

        one_more : take (k + 1) (zip masks metas) ≡ take k (zip masks metas) ++ ((get_or masks k 0, get_or metas k 0) ∷ [])
        one_more = zip_suc masks metas k 0 0 h (omega arith)

        bit_more : (w i : ℕ) → in_word (take (k + 1) (zip masks metas)) w i ≡ (in_word (take k (zip masks metas)) w i || (eqb index w && has (get_or masks k 0) i))
        bit_more w i =
            ap (λ (l : List (ℕ × ℕ)). in_word l w i) one_more
            ∙ some_snoc (λ (e : ℕ × ℕ). eqb (word_in e.1) w && has e.0 i) (take k (zip masks metas)) (get_or masks k 0, get_or metas k 0)
            ∙ ap (λ (n : ℕ). in_word (take k (zip masks metas)) w i || (eqb n w && has (get_or masks k 0) i)) (sym ei)

        other_word : (w : ℕ) → (w ≡ index → ⊥) → joined_to old (take (k + 1) (zip masks metas)) w ≡ joined_to old (take k (zip masks metas)) w
        other_word w q =
            word_cong (λ i. has (get_or old w 0) i || in_word (take (k + 1) (zip masks metas)) w i) (λ i. has (get_or old w 0) i || in_word (take k (zip masks metas)) w i)
            (λ i l. ap (λ (t : Bool). has (get_or old w 0) i || t) (bit_more w i ∙ ap (λ (t : Bool). in_word (take k (zip masks metas)) w i || (t && has (get_or masks k 0) i)) (ne_eqb index w (λ x. q (sym x))) ∙ or-false (in_word (take k (zip masks metas)) w i)))

        this_word : index < length old → (u : ℕ) → u ≡ word_of (λ i. has (get_or new index 0) i || has (get_or masks k 0) i) → u ≡ joined_to old (take (k + 1) (zip masks metas)) index
        this_word b u q =
            q ∙ word_cong (λ i. has (get_or new index 0) i || has (get_or masks k 0) i) (λ i. has (get_or old index 0) i || in_word (take (k + 1) (zip masks metas)) index i)
            (λ i l.
            ap (λ (t : Bool). t || has (get_or masks k 0) i) (before i l)
            ∙ or_assoc (has (get_or old index 0) i) (in_word (take k (zip masks metas)) index i) (has (get_or masks k 0) i)
            ∙ sym (ap (λ (t : Bool). has (get_or old index 0) i || t) (bit_more index i ∙ ap (λ (t : Bool). in_word (take k (zip masks metas)) index i || (t && has (get_or masks k 0) i)) (eq-eqb index index refl))))
          where
            or_assoc : (s t v : Bool) → ((s || t) || v) ≡ (s || (t || v))
            or_assoc true t v = refl
            or_assoc false t v = refl

            before : (i : ℕ) → i < 64 → has (get_or new index 0) i ≡ (has (get_or old index 0) i || in_word (take k (zip masks metas)) index i)
            before i l =
                ap (λ (t : List ℕ). has (get_or t index 0) i) inv.is
                ∙ ap (λ (n : ℕ). has n i) (get_or-each (joined_to old (take k (zip masks metas))) (length old) index 0 b)
                ∙ has_word (λ i. has (get_or old index 0) i || in_word (take k (zip masks metas)) index i) i l

        pub joined_more : index < length new → (u : ℕ) → u ≡ word_of (λ i. has (get_or new index 0) i || has (get_or masks k 0) i) → Joined masks metas old (k + 1) (set new index u)
        joined_more b u q =
            let b' : index < length old = omega (arith, joined_long) in
            record { is = each_set 0 (joined_to old (take k (zip masks metas))) (joined_to old (take (k + 1) (zip masks metas))) (length old) index new u inv.is b' (this_word b' u q) (λ w l x. other_word w x) }

      pub joined_done : length masks ≤ k → new ≡ each (joined_to old (zip masks metas)) (length old)
      joined_done h = inv.is ∙ ap (λ (l : List (ℕ × ℕ)). each (joined_to old l) (length old)) (take_all k (zip masks metas) (omega (arith, length-zip masks metas e)))
