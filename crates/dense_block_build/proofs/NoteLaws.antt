-- The block columns of a block row, noted one after the other: a bitmap of them, and the place of each word's first. Assumes nothing.
use mathlib.Core.Bool.{Bool, true, false, not, ◌||◌, true≢false}
use mathlib.Core.List.{List}
use mathlib.Core.Path.{◌≡◌, refl, sym, ap, ap₂, ◌∙◌}
use Prim.Native.Nat.{ℕ, ◌+◌, ◌*◌, ◌/◌, ◌%◌, ◌^◌, ◌≤◌, ◌<◌, zero-le}
use native.Mathlib.Nat.{mod-eq_of_lt}
use native.Mathlib.Decide.{ℕ_discrete}
use native.Mathlib.Omega.{arith}
use lib.Dec.{eqb}
use lib.ListN.{length, get_or, take, set, length-set}
use lib.Seq.{take_all, get_or-take, get_or-set_same, get_or-set_other, length-take-le}
use borrow.Author.Tests.{eq-eqb, ne_eqb, eqb-true}
use Rattle.hybit_core.proofs.BoolLaws.{same_test}
use Rattle.lent.specs.Lists.{some}
use Rattle.lent.proofs.ListLaws.{some-get_or, some-every}
use Rattle.word.specs.Bits.{has, below, count, word_of, mask_of, hit, ceil64}
use Rattle.word.proofs.BelowLaws.{rank_lt, selects, below-at-rank, below_trim, below_cong, length_block, length-below-le}
use Rattle.word.proofs.BitLaws.{has-none, has-mask_of, within_in, every-below, some_below, count_cong}
use Rattle.word.proofs.WordLaws.{hit-member}
use Rattle.mask.specs.Mask.{bit_at, mask_words}
use Rattle.mask.specs.Calls.{listed}
use Rattle.mask.proofs.MaskLaws.{length-words, word_of_words, bit_of_words}
use Rattle.levels.specs.Ranks.{Ranks}
use Rattle.levels.proofs.LevelLaws.{mark_is, listed_more}

-- ---- the listed numbers of a list of all that pass

pub listed_below : (q : ℕ → Bool) (n c : ℕ) → c < n → listed (below q n) c ≡ q c
unfolding listed
listed_below q n c h =
    same_test (some (eqb c) (below q n)) (q c)
    (λ e. let m = some-every (eqb c) q (below q n) e (every-below q q n (λ d l t. t)) in ap q (eqb-true c m.0 m.1) ∙ m.2)
    (λ e. some_below (eqb c) q n c h e (eq-eqb c c refl))

pub below-listed : (q : ℕ → Bool) (n : ℕ) (cs : List ℕ) → cs ≡ below q n → cs ≡ below (listed cs) n
below-listed q n cs e = e ∙ sym (below_cong (listed cs) q n (λ c h. ap (λ (l : List ℕ). listed l c) e ∙ listed_below q n c h))

-- ---- the first k are noted

module _ (n : ℕ) (cs starts₀ : List ℕ) where
  pub record Noting (k : ℕ) (bits starts : List ℕ) : Type 0 where
    pub inside : k ≤ length cs
    pub bits_are : bits ≡ mask_words (listed (take k cs)) n
    pub same : length starts ≡ length starts₀
    pub starts_are : (d : ℕ) → listed (take k cs) d ≡ true → get_or starts (d / 64) 0 ≡ count (listed cs) (64 * (d / 64))

  pub noting_none : (bits : List ℕ) → bits ≡ mask_words (λ c. false) n → Noting 0 bits starts₀
  unfolding listed some
  noting_none bits e = record { inside = zero-le; bits_are = e; same = refl; starts_are = λ d h. absurd (true≢false (sym h)) }

  module _ (self : cs ≡ below (listed cs) n) (k : ℕ) (bits starts : List ℕ) (inv : Noting k bits starts) where
    pub noting_long : length bits ≡ ceil64 n
    noting_long = ap length inv.bits_are ∙ length-words (listed (take k cs)) n

    bit_before : (i : ℕ) → i < n → listed (take k cs) i ≡ true → has (get_or bits (i / 64) 0) (i % 64) ≡ true
    unfolding bit_at
    bit_before i h x = ap (λ (l : List ℕ). has (get_or l (i / 64) 0) (i % 64)) inv.bits_are ∙ bit_of_words (listed (take k cs)) n i ∙ within_in n (listed (take k cs)) i h ∙ x

    -- c is the next column
    module _ (h : k < length cs) (c : ℕ) (e : c ≡ get_or cs k 0) where
      short : k < count (listed cs) n
      short = omega (arith, ap length self)

      at_c : get_or (below (listed cs) n) k 0 ≡ c
      at_c = sym (e ∙ ap (λ (l : List ℕ). get_or l k 0) self)

      inner : c < n
      inner = omega (arith, at_c, (selects (listed cs) n k short).bound)

      ranked : count (listed cs) c ≡ k
      ranked = ap (count (listed cs)) (sym at_c) ∙ (selects (listed cs) n k short).ranked

      noting_few : k < n
      noting_few = omega (arith, short, length-below-le (listed cs) n)

      pub noting_bits : c / 64 < length bits
      noting_bits = omega (arith, inner, noting_long)

      pub noting_starts : ceil64 n ≤ length starts₀ → c / 64 < length starts
      noting_starts l = omega (arith, inner, inv.same)

      more : (d : ℕ) → listed (take (k + 1) cs) d ≡ (listed (take k cs) d || eqb d c)
      more d = listed_more cs k d h ∙ ap (λ (x : ℕ). listed (take k cs) d || eqb d x) (sym e)

      -- a lower column is noted
      before : (i : ℕ) → i < c → listed cs i ≡ true → listed (take k cs) i ≡ true
      unfolding listed
      before i b x =
          let lower : count (listed cs) i < k = omega (arith, ranked, rank_lt (listed cs) i c b x) in
          let found : get_or (take k cs) (count (listed cs) i) 0 ≡ i =
          get_or-take k cs (count (listed cs) i) 0 lower ∙ ap (λ (l : List ℕ). get_or l (count (listed cs) i) 0) self ∙ below-at-rank (listed cs) n i (omega (arith, inner)) x in
          some-get_or (eqb i) (take k cs) (count (listed cs) i) 0 (omega (arith, length-take-le k cs inv.inside)) (eq-eqb i (get_or (take k cs) (count (listed cs) i) 0) (sym found))

      module _ (r : ℕ) (er : r ≡ word_of (λ i. has (get_or bits (c / 64) 0) i || eqb i (c % 64))) where
        marked : set bits (c / 64) r ≡ mask_words (listed (take (k + 1) cs)) n
        marked = mark_is (listed (take k cs)) n c r bits inv.bits_are inner er ∙ ap (λ (q : ℕ → Bool). mask_words q n) (λ i d. sym (more d) i)

        -- its word has a column already
        pub noting_old : (get_or bits (c / 64) 0 ≡ 0 → ⊥) → Noting (k + 1) (set bits (c / 64) r) starts
        noting_old z = record { inside = omega arith; bits_are = marked; same = inv.same; starts_are = λ d t. go d (listed (take k cs) d) refl (sym (more d) ∙ t) }
          where
            here : get_or starts (c / 64) 0 ≡ count (listed cs) (64 * (c / 64))
            here =
                let x : hit (listed (take k cs)) n (c / 64) ≡ true = ap not (ne_eqb (mask_of (listed (take k cs)) n (c / 64)) 0 (λ q. z (ap (λ (l : List ℕ). get_or l (c / 64) 0) inv.bits_are ∙ word_of_words (listed (take k cs)) n (c / 64) (omega (arith, inner)) ∙ q))) in
                let m = hit-member (listed (take k cs)) n (c / 64) x in
                ap (λ (w : ℕ). get_or starts w 0) (sym m.3) ∙ inv.starts_are m.0 m.2 ∙ ap (λ (w : ℕ). count (listed cs) (64 * w)) m.3

            go : (d : ℕ) (t : Bool) → listed (take k cs) d ≡ t → (t || eqb d c) ≡ true → get_or starts (d / 64) 0 ≡ count (listed cs) (64 * (d / 64))
            go d true x y = inv.starts_are d x
            go d false x y = let q : d ≡ c = eqb-true d c y in ap (λ (w : ℕ). get_or starts (w / 64) 0) q ∙ here ∙ ap (λ (w : ℕ). count (listed cs) (64 * (w / 64))) (sym q)

        -- it is the first of its word
        pub noting_new : (s : ℕ) → n ≤ 349526 → ceil64 n ≤ length starts₀ → get_or bits (c / 64) 0 ≡ 0 → s ≡ k % 2 ^ 32 → Noting (k + 1) (set bits (c / 64) r) (set starts (c / 64) s)
        noting_new s few room z es = record { inside = omega arith; bits_are = marked; same = length-set starts (c / 64) s ∙ inv.same; starts_are = λ d t. go d (ℕ_discrete (d / 64) (c / 64)) (listed (take k cs) d) refl (sym (more d) ∙ t) }
          where
            empty : (i : ℕ) → 64 * (c / 64) ≤ i → i < c → listed cs i ≡ false
            empty i a b = off (listed cs i) refl
              where
                off : (t : Bool) → listed cs i ≡ t → t ≡ false
                off false x = refl
                off true x =
                    let word : i / 64 ≡ c / 64 = omega arith in
                    sym (bit_before i (omega (arith, inner)) (before i b x)) ∙ ap (λ (w : ℕ). has (get_or bits w 0) (i % 64)) word ∙ ap (λ (m : ℕ). has m (i % 64)) z ∙ has-none (i % 64)

            here : s ≡ count (listed cs) (64 * (c / 64))
            here = es ∙ mod-eq_of_lt (omega (arith, noting_few)) ∙ sym ranked ∙ ap length (below_trim (listed cs) (64 * (c / 64)) c (omega arith) empty)

            go : (d : ℕ) → Dec (d / 64 ≡ c / 64) → (t : Bool) → listed (take k cs) d ≡ t → (t || eqb d c) ≡ true → get_or (set starts (c / 64) s) (d / 64) 0 ≡ count (listed cs) (64 * (d / 64))
            go d (yes q) t x y = ap (λ (w : ℕ). get_or (set starts (c / 64) s) w 0) q ∙ get_or-set_same starts (c / 64) s 0 (noting_starts room) ∙ here ∙ ap (λ (w : ℕ). count (listed cs) (64 * w)) (sym q)
            go d (no q) true x y = get_or-set_other starts (c / 64) (d / 64) s 0 q ∙ inv.starts_are d x
            go d (no q) false x y = absurd (q (ap (λ (w : ℕ). w / 64) (eqb-true d c y)))

    -- all are noted

    module _ (end : length cs ≤ k) where
      all_of : take k cs ≡ cs
      all_of = take_all k cs end

      pub noted_bits : bits ≡ mask_words (listed cs) n
      noted_bits = inv.bits_are ∙ ap (λ (l : List ℕ). mask_words (listed l) n) all_of

      pub noted_ranks : ceil64 n ≤ length starts₀ → Ranks (listed cs) n bits starts
      noted_ranks room = record { bits_room = omega (arith, noting_long); starts_room = omega (arith, inv.same); rank_is = ranks }
        where
          ranks : (c : ℕ) → c < n → listed cs c ≡ true → get_or starts (c / 64) 0 + count (has (get_or bits (c / 64) 0)) (c % 64) ≡ count (listed cs) c
          ranks c h x =
              let split : 64 * (c / 64) + c % 64 ≡ c = omega arith in
              let word : get_or bits (c / 64) 0 ≡ mask_of (listed cs) n (c / 64) = ap (λ (l : List ℕ). get_or l (c / 64) 0) noted_bits ∙ word_of_words (listed cs) n (c / 64) (omega arith) in
              ap₂ (λ (a m : ℕ). a + count (has m) (c % 64)) (inv.starts_are c (ap (λ (l : List ℕ). listed l c) all_of ∙ x)) word
              ∙ ap (λ (m : ℕ). count (listed cs) (64 * (c / 64)) + m)
              (count_cong (c % 64) (has (mask_of (listed cs) n (c / 64))) (λ i. listed cs (64 * (c / 64) + i))
              (λ i l. has-mask_of (listed cs) n (c / 64) i (omega arith) ∙ within_in n (listed cs) (64 * (c / 64) + i) (omega arith)))
              ∙ sym (length_block (listed cs) (64 * (c / 64)) (c % 64)) ∙ ap (count (listed cs)) split
