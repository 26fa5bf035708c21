-- What the loops and stores of the calls do to a mask. Assumes nothing.
use mathlib.Core.Bool.{Bool, true, false, not, cond, ◌&&◌, ◌||◌, or-false, and-false}
use mathlib.Core.List.{List, ◌++◌, map}
use mathlib.Core.Path.{◌≡◌, refl, sym, ap, ap₂, ◌∙◌, subst}
use Prim.Native.Nat.{ℕ, ◌+◌, ◌-◌, ◌*◌, ◌/◌, ◌%◌, ◌^◌, ◌≤◌, ◌<◌}
use native.Mathlib.Nat.{zero-add}
use native.Mathlib.Decide.{dec_lt, ℕ_discrete}
use native.Mathlib.Omega.{arith}
use borrow.Author.Tests.{eq-eqb, ne_eqb, lt-ltb, le-ltb, leb-true, le-leb, lt-leb}
use lib.Dec.{eqb, ltb, leb, lit<}
use lib.ListN.{length, get_or, take, set, replicate}
use Rattle.hybit_core.specs.Answer.{accepted, demand}
use Rattle.hybit_core.proofs.AnswerLaws.{demand_accepted, then_first, then_second}
use Rattle.lent.specs.Lists.{each}
use Rattle.lent.specs.Lent.{padded, Appended}
use Rattle.lent.proofs.ListLaws.{each_set, each_cong, each_same}
use Rattle.lent.proofs.LentLaws.{appended_join, appended_cleared}
use Rattle.word.specs.Bits.{has, below, count, within, word_of, members, mask_of, ceil64}
use Rattle.word.proofs.BelowLaws.{below-zero, below_block, length_below_mono, length-below-le, length_block}
use Rattle.word.proofs.BitLaws.{has-none, has-mask_of, count_cong, within_cong}
use Rattle.word.proofs.OpLaws.{word_is_lem, word_cong, has_word}
use Rattle.mask.specs.Mask.{as_mask, bit_at, active, mask_words, mask_answer}
use Rattle.mask.specs.Calls.{changed, indices_answer, joined_word}
use Rattle.mask.proofs.MaskLaws.{Valid, valid, bit_in, word_bit, active-within, words_are, members_are, word_of_words}

-- ---- counting: the ones of the first k words

pub record Counted (ws : List ℕ) (k n : ℕ) : Type 0 where
  pub inside : k ≤ length ws
  pub is : n ≡ count (bit_at ws) (64 * k)

module _ (ws : List ℕ) where
  block : (k : ℕ) → count (bit_at ws) (64 * (k + 1)) ≡ count (bit_at ws) (64 * k) + count (has (get_or ws k 0)) 64
  block k =
      let e : 64 * (k + 1) ≡ 64 * k + 64 = omega arith in
      ap (count (bit_at ws)) e ∙ length_block (bit_at ws) (64 * k) 64
      ∙ ap (λ (m : ℕ). count (bit_at ws) (64 * k) + m) (count_cong 64 (λ i. bit_at ws (64 * k + i)) (has (get_or ws k 0)) (λ i h. bit_in ws k i h))

  pub counted_none : Counted ws 0 0
  counted_none = record { inside = omega arith; is = sym (ap length (below-zero (bit_at ws))) }

  module _ (k n : ℕ) (inv : Counted ws k n) where
    pub counted-le : n ≤ 64 * k
    counted-le = omega (arith, inv.is, length-below-le (bit_at ws) (64 * k))

    pub counted_more : (r : ℕ) → k < length ws → r ≡ count (has (get_or ws k 0)) 64 → Counted ws (k + 1) (n + r)
    counted_more r h e = record { inside = omega arith; is = ap₂ (λ (a b : ℕ). a + b) inv.is e ∙ sym (block k) }

    pub counted_done : length ws ≤ k → n ≡ count (bit_at ws) (64 * length ws)
    counted_done h = let e : k ≡ length ws = omega (arith, inv.inside) in inv.is ∙ ap (λ (m : ℕ). count (bit_at ws) (64 * m)) e

-- of a valid mask they are its members
pub ones_are : (n : ℕ) (ws : List ℕ) (r : ℕ) → Valid n ws → r ≡ count (bit_at ws) (64 * length ws) → r ≡ count (active (as_mask n ws)) n
ones_are n ws r ok e = e ∙ sym (ap length (members_are n ws ok))

-- ---- one bit put to a value

pub or_as_cond : (s t : Bool) → (s || t) ≡ cond t true s
or_as_cond true true = refl
or_as_cond true false = refl
or_as_cond false true = refl
or_as_cond false false = refl

pub value_on : (w k r : ℕ) (v : Bool) → v ≡ true → r ≡ word_of (λ i. has w i || eqb i k) → r ≡ word_of (λ i. cond (eqb i k) v (has w i))
value_on w k r v e h = h ∙ word_cong _ _ (λ i b. or_as_cond (has w i) (eqb i k) ∙ ap (λ (t : Bool). cond (eqb i k) t (has w i)) (sym e))

pub value_off : (w k r : ℕ) (v : Bool) → v ≡ false → r ≡ word_of (λ i. has w i && not (eqb i k)) → r ≡ word_of (λ i. cond (eqb i k) v (has w i))
value_off w k r v e h = h ∙ word_cong _ _ (λ i b. drop_it (has w i) (eqb i k) ∙ ap (λ (t : Bool). cond (eqb i k) t (has w i)) (sym e))
  where
    drop_it : (s t : Bool) → (s && not t) ≡ cond t false s
    drop_it true true = refl
    drop_it true false = refl
    drop_it false true = refl
    drop_it false false = refl

pub words_cong : (p q : ℕ → Bool) (n : ℕ) → ((c : ℕ) → c < n → p c ≡ q c) → mask_words p n ≡ mask_words q n
unfolding mask_words mask_of
words_cong p q n h = ap (λ (f : ℕ → Bool). each (λ w. word_of (λ i. f (64 * w + i))) (ceil64 n)) (within_cong n p q h)

-- a word stored in the words of p, where q differs from p in that word alone
store_is : (p q : ℕ → Bool) (n k r : ℕ) (l : List ℕ) → l ≡ mask_words p n → k < ceil64 n → r ≡ word_of (λ i. within n q (64 * k + i)) → ((c : ℕ) → (c / 64 ≡ k → ⊥) → q c ≡ p c)
    → set l k r ≡ mask_words q n
unfolding mask_words mask_of
store_is p q n k r l e h is other =
    each_set 0 (mask_of p n) (mask_of q n) (ceil64 n) k l r e h is
    (λ w b d. word_cong (λ i. within n q (64 * w + i)) (λ i. within n p (64 * w + i)) (λ i s. ap (λ (t : Bool). ltb (64 * w + i) n && t) (other (64 * w + i) (λ x. d (omega arith)))))

bit_of : (p : ℕ → Bool) (n k : ℕ) (l : List ℕ) → l ≡ mask_words p n → k < ceil64 n → (i : ℕ) → i < 64 → has (get_or l k 0) i ≡ within n p (64 * k + i)
bit_of p n k l e h i b = ap (λ (m : ℕ). has m i) (ap (λ (t : List ℕ). get_or t k 0) e ∙ word_of_words p n k h) ∙ has-mask_of p n k i b

pub changed_is : (p : ℕ → Bool) (n i : ℕ) (v : Bool) (r : ℕ) (l : List ℕ) → l ≡ mask_words p n → i < n → r ≡ word_of (λ j. cond (eqb j (i % 64)) v (has (get_or l (i / 64) 0) j))
    → set l (i / 64) r ≡ mask_words (changed p i v) n
changed_is p n i v r l e h is = store_is p (changed p i v) n (i / 64) r l e (omega arith) (is ∙ word_cong _ _ bit) other
  where
    other : (c : ℕ) → (c / 64 ≡ i / 64 → ⊥) → changed p i v c ≡ p c
    other c d = ap (λ (t : Bool). cond t v (p c)) (ne_eqb c i (λ x. d (ap (λ (m : ℕ). m / 64) x)))

    bit : (j : ℕ) → j < 64 → cond (eqb j (i % 64)) v (has (get_or l (i / 64) 0) j) ≡ within n (changed p i v) (64 * (i / 64) + j)
    bit j b = go (ℕ_discrete j (i % 64))
      where
        c : ℕ
        c = 64 * (i / 64) + j

        go : Dec (j ≡ i % 64) → cond (eqb j (i % 64)) v (has (get_or l (i / 64) 0) j) ≡ (ltb c n && changed p i v c)
        go (yes q) =
            let s : 64 * (i / 64) + j ≡ i = omega arith in
            ap (λ (t : Bool). cond t v (has (get_or l (i / 64) 0) j)) (eq-eqb j (i % 64) q)
            ∙ sym (ap₂ (λ (a t : Bool). a && cond t v (p c)) (lt-ltb c n (omega arith)) (eq-eqb c i s))
        go (no q) =
            let s : 64 * (i / 64) + j ≡ i → ⊥ = λ x. q (omega arith) in
            ap (λ (t : Bool). cond t v (has (get_or l (i / 64) 0) j)) (ne_eqb j (i % 64) q) ∙ bit_of p n (i / 64) l e (omega arith) j b
            ∙ sym (ap (λ (t : Bool). ltb c n && cond t v (p c)) (ne_eqb c i s))

pub empty-words : (n : ℕ) → mask_words (λ c. false) n ≡ replicate (ceil64 n) 0
unfolding mask_words mask_of
empty-words n = each_cong (λ w. word_of (λ i. within n (λ c. false) (64 * w + i))) (λ w. 0) (ceil64 n) (λ w h. none w) ∙ each_same 0 (ceil64 n)
  where
    none : (w : ℕ) → word_of (λ i. within n (λ c. false) (64 * w + i)) ≡ 0
    none w = sym (word_is_lem 0 (λ i. within n (λ c. false) (64 * w + i)) (lit< tt) (λ i b. has-none i ∙ sym (and-false (ltb (64 * w + i) n))))

-- ---- one word joined with bits

module _ (n : ℕ) (ws : List ℕ) (ok : Valid n ws) (fits : (k : ℕ) → get_or ws k 0 < 2 ^ 64) where
  pub set_is : (i : ℕ) (v : Bool) (r : ℕ) → i < n → r ≡ word_of (λ j. cond (eqb j (i % 64)) v (has (get_or ws (i / 64) 0) j)) → set ws (i / 64) r ≡ mask_words (changed (active (as_mask n ws)) i v) n
  set_is i v r h e = changed_is (active (as_mask n ws)) n i v r ws (words_are n ws ok fits) h e

  module _ (k bits : ℕ) where
    pub or-past : length ws ≤ k → ws ≡ mask_words (joined_word (active (as_mask n ws)) k bits) n
    or-past h =
        words_are n ws ok fits
        ∙ words_cong (active (as_mask n ws)) (joined_word (active (as_mask n ws)) k bits) n
        (λ c b. sym (ap (λ (t : Bool). active (as_mask n ws) c || (t && has bits (c % 64))) (ne_eqb (c / 64) k (λ x. absurd (omega (arith, ok.counted)))) ∙ or-false (active (as_mask n ws) c)))

    pub or_is : (t r : ℕ) → k < length ws → t ≡ word_of (λ i. has bits i && ltb i (n - k * 64)) → r ≡ word_of (λ i. has (get_or ws k 0) i || has t i)
        → set ws k r ≡ mask_words (joined_word (active (as_mask n ws)) k bits) n
    or_is t r h et er = store_is (active (as_mask n ws)) (joined_word (active (as_mask n ws)) k bits) n k r ws (words_are n ws ok fits) (omega (arith, ok.counted)) (er ∙ word_cong _ _ bit) other
      where
        A : ℕ → Bool
        A = active (as_mask n ws)

        other : (c : ℕ) → (c / 64 ≡ k → ⊥) → joined_word A k bits c ≡ A c
        other c d = ap (λ (s : Bool). A c || (s && has bits (c % 64))) (ne_eqb (c / 64) k d) ∙ or-false (A c)

        gather : (a s b : Bool) → ((s && a) || (b && s)) ≡ (s && (a || (true && b)))
        gather a true true = refl
        gather true true false = refl
        gather false true false = refl
        gather a false true = refl
        gather a false false = refl

        below_length : (i : ℕ) → i < 64 → ltb i (n - k * 64) ≡ ltb (64 * k + i) n
        below_length i b = go (dec_lt (64 * k + i) n)
          where
            go : Dec (64 * k + i < n) → ltb i (n - k * 64) ≡ ltb (64 * k + i) n
            go (yes l) = lt-ltb i (n - k * 64) (omega arith) ∙ sym (lt-ltb (64 * k + i) n l)
            go (no l) = le-ltb i (n - k * 64) (omega arith) ∙ sym (le-ltb (64 * k + i) n (omega arith))

        bit : (i : ℕ) → i < 64 → (has (get_or ws k 0) i || has t i) ≡ within n (joined_word A k bits) (64 * k + i)
        bit i b =
            let p : (64 * k + i) / 64 ≡ k = omega arith in
            let q : (64 * k + i) % 64 ≡ i = omega arith in
            ap₂ (λ (x y : Bool). x || y) (word_bit n ws ok k i b ∙ sym (active-within n ws ok (64 * k + i)))
            (ap (λ (m : ℕ). has m i) et ∙ has_word (λ i. has bits i && ltb i (n - k * 64)) i b ∙ ap (λ (s : Bool). has bits i && s) (below_length i b))
            ∙ gather (A (64 * k + i)) (ltb (64 * k + i) n) (has bits i)
            ∙ sym (ap₂ (λ (x : Bool) (y : ℕ). ltb (64 * k + i) n && (A (64 * k + i) || (x && has bits y))) (eq-eqb ((64 * k + i) / 64) k p) q)

-- ---- the members written out: those of the first k words

pub record Listing (ws old : List ℕ) (k at : ℕ) (out : List ℕ) : Type 0 where
  pub inside : k ≤ length ws
  pub same : length out ≡ length old
  pub done : Appended (below (bit_at ws) (64 * k)) 0 at old out

module _ (ws old : List ℕ) where
  pub listing_none : Listing ws old 0 0 old
  listing_none = record { inside = omega arith; same = refl; done = record { next = sym (zero-add (length (below (bit_at ws) 0)) ∙ ap length (below-zero (bit_at ws))); list = sym (below-zero (bit_at ws)) } }

  module _ (k at : ℕ) (out : List ℕ) (inv : Listing ws old k at out) where
    block_list : below (bit_at ws) (64 * (k + 1)) ≡ below (bit_at ws) (64 * k) ++ map (λ (i : ℕ). k * 64 + i) (members (get_or ws k 0))
    unfolding members
    block_list =
        let e : 64 * (k + 1) ≡ k * 64 + 64 = omega arith in
        let f : k * 64 ≡ 64 * k = omega arith in
        ap (below (bit_at ws)) e ∙ below_block (bit_at ws) (has (get_or ws k 0)) (k * 64) 64 (λ i b. ap (λ (m : ℕ). bit_at ws (m + i)) f ∙ bit_in ws k i b)
        ∙ ap (λ (m : ℕ). below (bit_at ws) m ++ map (λ (i : ℕ). k * 64 + i) (below (has (get_or ws k 0)) 64)) f

    pub listing-room : k < length ws → count (bit_at ws) (64 * length ws) ≤ length old → at + length (members (get_or ws k 0)) ≤ length out
    unfolding members
    listing-room h room = omega (arith, inv.same, inv.done.next, block ws k, length_below_mono (bit_at ws) (64 * (k + 1)) (64 * length ws) (omega arith))

    pub listing_more : (to : ℕ) (last : List ℕ) → k < length ws → length last ≡ length out → Appended (map (λ (i : ℕ). k * 64 + i) (members (get_or ws k 0))) at to out last → Listing ws old (k + 1) to last
    listing_more to last h s a = record {
      inside = omega arith;
      same = s ∙ inv.same;
      done = subst (λ (l : List ℕ). Appended l 0 to old last) (sym block_list) (appended_join _ _ 0 at to old out last inv.done a);
    }

    pub listing_done : length ws ≤ k → Appended (below (bit_at ws) (64 * length ws)) 0 at old out
    listing_done h = let e : k ≡ length ws = omega (arith, inv.inside) in subst (λ (m : ℕ). Appended (below (bit_at ws) (64 * m)) 0 at old out) e inv.done

-- of a valid mask they are its members, ascending
module _ (n : ℕ) (ws old : List ℕ) (at : ℕ) (out : List ℕ) (ok : Valid n ws) (a : Appended (below (bit_at ws) (64 * length ws)) 0 at old out) where
  pub indices_count : at ≡ count (active (as_mask n ws)) n
  indices_count = a.next ∙ zero-add (length (below (bit_at ws) (64 * length ws))) ∙ sym (ap length (members_are n ws ok))

  pub indices_list : (last : List ℕ) → length out ≡ length old → last ≡ padded 0 (length out) (take at out) → last ≡ padded 0 (length old) (below (active (as_mask n ws)) n)
  indices_list last s e = appended_cleared 0 (below (bit_at ws) (64 * length ws)) at old out last a s e ∙ ap (padded 0 (length old)) (sym (members_are n ws ok))

-- ---- what the answers say where they accept

module _ (n : ℕ) (ws : List ℕ) (room : ℕ) (ok : indices_answer (as_mask n ws) room ≡ accepted) where
  pub indices_valid : Valid n ws
  unfolding indices_answer
  indices_valid = valid n ws (then_first (mask_answer (as_mask n ws)) (demand (leb (count (active (as_mask n ws)) n) room) 13) ok)

  pub indices_fit : count (bit_at ws) (64 * length ws) ≤ room
  unfolding indices_answer
  indices_fit =
      omega (
        arith,
        leb-true (count (active (as_mask n ws)) n) room (demand_accepted (leb (count (active (as_mask n ws)) n) room) 13 (then_second (mask_answer (as_mask n ws)) (demand (leb (count (active (as_mask n ws)) n) room) 13) ok)),
        ap length (members_are n ws indices_valid),
      )

-- the members fit, or not, as the code counts them
module _ (n : ℕ) (ws : List ℕ) (room r : ℕ) (ok : Valid n ws) (e : r ≡ count (bit_at ws) (64 * length ws)) where
  pub room_short : room < r → false ≡ leb (count (active (as_mask n ws)) n) room
  room_short h = sym (lt-leb (count (active (as_mask n ws)) n) room (omega (arith, ones_are n ws r ok e)))

  pub room_enough : r ≤ room → true ≡ leb (count (active (as_mask n ws)) n) room
  room_enough h = sym (le-leb (count (active (as_mask n ws)) n) room (omega (arith, ones_are n ws r ok e)))
