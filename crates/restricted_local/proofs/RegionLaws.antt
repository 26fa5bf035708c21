-- The members of a region and its numbers: members one after the other, running counts of words, the new number of a column, and how
-- many entries there are. Assumes nothing.
use mathlib.Core.Bool.{Bool, true, false}
use mathlib.Core.List.{List, [], ◌∷◌, ◌++◌, append-nil}
use mathlib.Core.Path.{◌≡◌, refl, sym, ap, ap₂, ◌∙◌}
use Prim.Native.Nat.{ℕ, ◌+◌, ◌*◌, ◌/◌, ◌%◌, ◌^◌, ◌≤◌, ◌<◌}
use native.Mathlib.Nat.{mod-eq_of_lt}
use native.Mathlib.Numerals.{add-one}
use native.Mathlib.Omega.{arith}
use lib.ListN.{length, get_or, set, length-set}
use lib.Seq.{get_or-take}
use Rattle.lent.specs.Lists.{cons_if, joined, each}
use Rattle.lent.specs.Lent.{Appended}
use Rattle.lent.proofs.ListLaws.{get_or-each}
use Rattle.lent.proofs.LentLaws.{appended_none, appended_snoc}
use Rattle.word.specs.Bits.{has, below, count}
use Rattle.word.proofs.BelowLaws.{below_snoc, below-zero, below_cong, length-below-le, length_block, rank_lt}
use Rattle.mask.specs.Mask.{Mask, as_mask, bit_at, active}
use Rattle.mask.proofs.MaskLaws.{Valid, valid, active_is, word_bit, few_words}
use Rattle.mask.proofs.CallLaws.{Counted, counted_none, counted-le, counted_more}
use Rattle.csr32.specs.Csr.{Csr}
use Rattle.restricted.specs.Local.{region_members}
use Rattle.restricted_local.specs.Region.{Region, Numbered}

-- ---- one row more: it is a member, or it is none

module _ (p : ℕ → Bool) (r : ℕ) where
  pub below_in : true ≡ p r → below p (r + 1) ≡ below p r ++ (r ∷ [])
  below_in e = ap (below p) (add-one r) ∙ below_snoc p r ∙ ap (λ (t : Bool). below p r ++ cons_if t r []) (sym e)

  pub below_out : false ≡ p r → below p (r + 1) ≡ below p r
  below_out e = ap (below p) (add-one r) ∙ below_snoc p r ∙ ap (λ (t : Bool). below p r ++ cons_if t r []) (sym e) ∙ append-nil (below p r)

-- ---- the members, written: those of the first r rows

pub record Putting (a : Mask) (old : List ℕ) (r at : ℕ) (out : List ℕ) : Type 0 where
  pub inside : r ≤ a.size
  pub same : length out ≡ length old
  pub done : Appended (below (active a) r) 0 at old out

module _ (a : Mask) (old : List ℕ) where
  pub putting_none : Putting a old 0 0 old
  putting_none = record { inside = omega arith; same = refl; done = rw (below-zero (active a)) (appended_none 0 old) }

  module _ (r at : ℕ) (out : List ℕ) (inv : Putting a old r at out) where
    pub putting_done : a.size ≤ r → Appended (region_members a) 0 at old out
    unfolding region_members
    putting_done h = let e : r ≡ a.size = omega (arith, inv.inside) in rw e at inv.done

    module _ (h : r < a.size) where
      module _ (e : true ≡ active a r) (room : length (region_members a) ≤ length old) where
        pub putting_room : at < length out
        unfolding region_members
        putting_room = omega (arith, inv.same, inv.done.next, rank_lt (active a) r a.size h (sym e))

        pub putting_more : (v : ℕ) → a.size ≤ 2 ^ 20 → v ≡ r % 2 ^ 32 → Putting a old (r + 1) (at + 1) (set out at v)
        putting_more v small q =
            let is : v ≡ r = q ∙ mod-eq_of_lt (omega arith) in
            let more : below (active a) (r + 1) ≡ below (active a) r ++ (v ∷ []) = below_in (active a) r e ∙ ap (λ (k : ℕ). below (active a) r ++ (k ∷ [])) (sym is) in
            record {
              inside = omega arith;
              same = length-set out at v ∙ inv.same;
              done = rw more (appended_snoc (below (active a) r) 0 at old out v inv.done putting_room);
            }

      pub putting_other : false ≡ active a r → Putting a old (r + 1) at out
      putting_other e = record { inside = omega arith; same = inv.same; done = rw (below_out (active a) r e) inv.done }

-- ---- running counts of words

pub record Tallying (ws old : List ℕ) (k ones : ℕ) (out : List ℕ) : Type 0 where
  pub same : length out ≡ length old
  pub counted : Counted ws k ones
  pub done : Appended (each (λ w. count (bit_at ws) (64 * w)) k) 0 k old out

module _ (ws old : List ℕ) where
  pub tallying_none : Tallying ws old 0 0 old
  unfolding each joined
  tallying_none = record { same = refl; counted = counted_none ws; done = appended_none 0 old }

  module _ (k ones : ℕ) (out : List ℕ) (inv : Tallying ws old k ones out) where
    each_more : each (λ w. count (bit_at ws) (64 * w)) (k + 1) ≡ each (λ w. count (bit_at ws) (64 * w)) k ++ (count (bit_at ws) (64 * k) ∷ [])
    unfolding each joined
    each_more = ap (each (λ w. count (bit_at ws) (64 * w))) (add-one k)

    pub tallying_more : k < length ws → length ws ≤ length old → length ws ≤ 2 ^ 14 → (v : ℕ) → v ≡ ones % 2 ^ 32 → (r : ℕ) → r ≡ count (has (get_or ws k 0)) 64 → Tallying ws old (k + 1) (ones + r) (set out k v)
    tallying_more h room few v q r e =
        let is : v ≡ count (bit_at ws) (64 * k) = q ∙ mod-eq_of_lt (omega (arith, counted-le ws k ones inv.counted)) ∙ inv.counted.is in
        record {
          same = length-set out k v ∙ inv.same;
          counted = counted_more ws k ones inv.counted r h e;
          done = rw (each_more, ← is) (appended_snoc (each (λ w. count (bit_at ws) (64 * w)) k) 0 k old out v inv.done (omega (arith, inv.same)));
        }

    pub tallying_done : length ws ≤ k → Appended (each (λ w. count (bit_at ws) (64 * w)) (length ws)) 0 (length ws) old out
    tallying_done h = let e : k ≡ length ws = omega (arith, inv.counted.inside) in rw e at inv.done

-- ---- the new number of a column

pub numbered : (n : ℕ) (ws old out : List ℕ) → Valid n ws → length ws ≤ length out → Appended (each (λ w. count (bit_at ws) (64 * w)) (length ws)) 0 (length ws) old out → Numbered (as_mask n ws) out
numbered n ws old out ok room done = record {
  small = ok.small;
  counts_room = omega (arith, ok.counted);
  words_room = omega (arith, ok.counted);
  number_is = is;
}
  where
    is : (c : ℕ) → c < n → get_or out (c / 64) 0 + count (has (get_or ws (c / 64) 0)) (c % 64) ≡ count (active (as_mask n ws)) c
    is c h =
        let w : ℕ = c / 64 in
        let inside : w < length ws = omega (arith, ok.counted) in
        let split : 64 * w + c % 64 ≡ c = omega arith in
        let first : get_or out w 0 ≡ count (bit_at ws) (64 * w) = sym (get_or-take (length ws) out w 0 inside) ∙ ap (λ (l : List ℕ). get_or l w 0) done.list ∙ get_or-each (λ w. count (bit_at ws) (64 * w)) (length ws) w 0 inside in
        let words : count (bit_at ws) (64 * w) ≡ count (active (as_mask n ws)) (64 * w) = ap length (below_cong (bit_at ws) (active (as_mask n ws)) (64 * w) (λ i l. sym (active_is n ws ok i))) in
        let last : count (has (get_or ws w 0)) (c % 64) ≡ count (λ i. active (as_mask n ws) (64 * w + i)) (c % 64) = ap length (below_cong (has (get_or ws w 0)) (λ i. active (as_mask n ws) (64 * w + i)) (c % 64) (λ i l. word_bit n ws ok w i (omega arith))) in
        ap₂ (λ (a b : ℕ). a + b) (first ∙ words) last ∙ sym (length_block (active (as_mask n ws)) (64 * w) (c % 64)) ∙ ap (count (active (as_mask n ws))) split

-- as the code reads it: b is the count of the words before, o that of the word's ones below
module _ (a : Mask) (counts : List ℕ) (c : ℕ) (num : Numbered a counts) (h : c < a.size) (b o : ℕ) (eb : b ≡ get_or counts (c / 64) 0) (eo : o ≡ count (has (get_or a.bits (c / 64) 0)) (c % 64)) where
  pub number_read : b + o ≡ count (active a) c
  number_read = ap₂ (λ (m n : ℕ). m + n) eb eo ∙ num.number_is c h

  pub number_small : b + o < 2 ^ 20
  number_small = omega (arith, number_read, length-below-le (active a) c, num.small)

  pub number-told : (r : ℕ) → r ≡ (b + o) % 2 ^ 32 → r ≡ count (active a) c
  number-told r q = q ∙ mod-eq_of_lt (omega (arith, number_small)) ∙ number_read

-- ---- a region that the checks accept

pub words-few : (m : Csr) (n : ℕ) (ws : List ℕ) → Region m (as_mask n ws) → length ws ≤ 2 ^ 14
words-few m n ws reg = few_words n ws (valid n ws reg.mask_accepted)

pub region_numbered : (m : Csr) (n : ℕ) (ws old out : List ℕ) → Region m (as_mask n ws) → 2 ^ 14 ≤ length old → length out ≡ length old
    → Appended (each (λ w. count (bit_at ws) (64 * w)) (length ws)) 0 (length ws) old out → Numbered (as_mask n ws) out
region_numbered m n ws old out reg room same done = numbered n ws old out (valid n ws reg.mask_accepted) (omega (arith, words-few m n ws reg)) done
