-- The pass over tiles none of which is Dense; the count and the values of gapless tiles of any kinds. Assumes nothing.
use Rattle.std.proofs.Common.{◌≡◌, ℕ, zero, suc, ◌+◌, ◌-◌, ◌%◌, ◌^◌, ◌<◌, ◌≤◌, Bool, true, false, ◌&&◌, eqb, leb, List, [], ◌∷◌, map, length, get_or, take, sym, refl, ap, ◌∙◌, ap₂, add-one, arith, eqb-true, le-leb, leb-true}
use mathlib.Core.Bool.{and-true}
use mathlib.Core.List.{zip, zip_with}
use lib.Ieee.{Float}
use Rattle.hybit_core.proofs.BoolLaws.{and_left, and_right, and_first, and_second, and-next, is_equal, is_unequal}
use Rattle.lent.specs.Lists.{only, every}
use Rattle.lent.proofs.ListLaws.{every_by, every-get_or}
use Rattle.word.specs.Bits.{has, count, members}
use Rattle.csr32.proofs.ScanLaws.{Passed, passed_none, passed_more, passed_done}
use Rattle.word.proofs.OpLaws.{members-count}
use Rattle.csr32.specs.Csr.{framed_lists}
use Rattle.topology.specs.Words.{as_words, row_rules, set_bits}
use Rattle.topology.proofs.ScanLaws.{bits_append, bits_one, bits_none, bits_more, bits_done}
use Rattle.topology.proofs.CallLaws.{bits_whole}
use Rattle.topology.proofs.LastLaws.{nonzero}
use Rattle.abtm_values.specs.Values.{solid}
use Rattle.abtm.specs.Tiles.{word_in, kind_in, places, as_tiles, gapless, slot_rules, tiles_rules}
use Rattle.abtm.proofs.KindLaws.{compact_places, compact_count}
use Rattle.abtm_check.proofs.OffsetLaws.{Following, follow_empty, follow_none, follow_more, follow_done}
use Rattle.abtm_check.proofs.RuleLaws.{first-held, second_held, third_held, rules_rows, rules_counted, rules_empty}
use Rattle.abtm_check.proofs.RunLaws.{Tested, tested_none, tested_compact, tested_done, values_of, kind_holds, slots_apart, slots_kind, slots_values}

-- Sparse or Bitmap
abbrev pub compact_kind : ℕ → Bool
compact_kind m = leb (kind_in m) 1

not_dense : (m : ℕ) → compact_kind m ≡ true → kind_in m ≡ 2 → ⊥
not_dense m e d = omega (arith, leb-true (kind_in m) 1 e, d)

-- ---- the pass: the flag joins three tests of the tiles before place i - 1, p of their metas, and that of offset i - 1

pub record Scanning (p : ℕ → Bool) (ms os ks : List ℕ) (n : ℕ) (holds : Bool) (i : ℕ) : Type 0 where
  pub full : Bool
  pub kinds : Bool
  pub follows : Bool
  pub is : holds ≡ ((full && kinds) && follows)
  pub masks : Passed nonzero ms (i - 1) full
  pub metas : Passed p ks (i - 1) kinds
  pub offsets : Following ms os ks n follows i

-- one tile more
regroup : (a b c s k e : Bool) → (((a && b) && c) && ((s && k) && e)) ≡ (((a && s) && (b && k)) && (c && e))
regroup false b c s k e = refl
regroup true false c true k e = refl
regroup true false c false k e = refl
regroup true true false true true e = refl
regroup true true false true false e = refl
regroup true true false false k e = refl
regroup true true true false k e = refl
regroup true true true true false e = refl
regroup true true true true true e = refl

none_left : (p : ℕ → Bool) (l : List ℕ) → length l ≡ 0 → true ≡ every p l
unfolding every
none_left p [] e = refl
none_left p (x ∷ l) e = absurd (omega arith)

-- what the code tests of one tile; where it is not Dense, it ends where its bits do
by_size : (h k d e : Bool) → (k ≡ true → d ≡ e) → ((h && k) && d) ≡ ((h && k) && e)
by_size h true d e f = ap (λ (t : Bool). (h && true) && t) (f refl)
by_size true false d e f = refl
by_size false false d e f = refl

pub compact_is : (m x o p next : ℕ) → p ≡ count (has m) 64 → ((nonzero m && compact_kind x) && eqb (o + p) next) ≡ ((nonzero m && compact_kind x) && eqb (o + length (places m x)) next)
compact_is m x o p next ep =
    by_size (nonzero m) (compact_kind x) (eqb (o + p) next) (eqb (o + length (places m x)) next)
    (λ c. ap (λ (l : ℕ). eqb (o + l) next) (compact_count (kind_in x) m x p refl (not_dense x c) ep))

module _ (p : ℕ → Bool) (ms os ks : List ℕ) (n : ℕ) where
  pub scanning_empty : length ks ≡ length ms → length ms ≡ 0 → eqb n 0 ≡ ((every nonzero ms && every p ks) && gapless 0 n (zip ms (zip os ks)))
  scanning_empty sk e = follow_empty ms os ks n e ∙ ap₂ (λ (a b : Bool). (a && b) && gapless 0 n (zip ms (zip os ks))) (none_left nonzero ms e) (none_left p ks (sk ∙ e))

  pub scanning_none : length os ≡ length ms → length ks ≡ length ms → (length ms ≡ 0 → ⊥) → Scanning p ms os ks n (eqb (get_or os 0 0) 0) 1
  scanning_none so sk h = record { full = true; kinds = true; follows = eqb (get_or os 0 0) 0; is = refl; masks = passed_none nonzero ms; metas = passed_none p ks; offsets = follow_none ms os ks n so sk h }

  abbrev size : ℕ → ℕ
  size j = length (places (get_or ms j 0) (get_or ks j 0))

  -- what the code tests at place j, and what the flag becomes
  abbrev tile_test : ℕ → ℕ → Bool
  tile_test j next = (nonzero (get_or ms j 0) && p (get_or ks j 0)) && eqb (get_or os j 0 + size j) next

  tested_tile : (holds a b c : Bool) (j next : ℕ) (t r : Bool) → holds ≡ ((a && b) && c) → t ≡ tile_test j next → r ≡ (holds && t)
      → r ≡ (((a && nonzero (get_or ms j 0)) && (b && p (get_or ks j 0))) && (c && eqb (get_or os j 0 + size j) next))
  tested_tile holds a b c j next t r e f g = g ∙ ap₂ (λ (h t : Bool). h && t) e f ∙ regroup a b c (nonzero (get_or ms j 0)) (p (get_or ks j 0)) (eqb (get_or os j 0 + size j) next)

  module _ (holds : Bool) (i : ℕ) (inv : Scanning p ms os ks n holds i) where
    pub scanning_more : i < length ms → (next : ℕ) (t r : Bool) → next ≡ get_or os i 0 → t ≡ tile_test (i - 1) next → r ≡ (holds && t) → Scanning p ms os ks n r (i + 1)
    scanning_more h next t r en et er =
        let up : i + 1 - 1 ≡ i - 1 + 1 = omega (arith, inv.offsets.after) in
        record {
          full = inv.full && nonzero (get_or ms (i - 1) 0);
          kinds = inv.kinds && p (get_or ks (i - 1) 0);
          follows = inv.follows && eqb (get_or os (i - 1) 0 + size (i - 1)) next;
          is = tested_tile holds inv.full inv.kinds inv.follows (i - 1) next t r inv.is et er;
          masks = rw up (passed_more nonzero ms (i - 1) inv.full inv.masks 0 (nonzero (get_or ms (i - 1) 0)) (inv.full && nonzero (get_or ms (i - 1) 0)) (omega (arith, h)) refl refl);
          metas = rw up (passed_more p ks (i - 1) inv.kinds inv.metas 0 (p (get_or ks (i - 1) 0)) (inv.kinds && p (get_or ks (i - 1) 0)) (omega (arith, h, inv.offsets.metas_long)) refl refl);
          offsets = follow_more ms os ks n inv.follows i inv.offsets h (size (i - 1)) next (inv.follows && eqb (get_or os (i - 1) 0 + size (i - 1)) next) refl en refl;
        }

    pub scanning_done : length ms ≤ i → (t r : Bool) → t ≡ tile_test (length ms - 1) n → r ≡ (holds && t) → r ≡ ((every nonzero ms && every p ks) && gapless 0 n (zip ms (zip os ks)))
    scanning_done h t r et er =
        let at : length ms ≡ i = omega (arith, h, inv.offsets.inside) in
        let a : Bool = inv.full && nonzero (get_or ms (length ms - 1) 0) in
        let b : Bool = inv.kinds && p (get_or ks (length ms - 1) 0) in
        let c : Bool = inv.follows && eqb (get_or os (length ms - 1) 0 + size (length ms - 1)) n in
        let pm : Passed nonzero ms (length ms - 1) inv.full = rw at inv.masks in
        let pk : Passed p ks (length ms - 1) inv.kinds = rw at inv.metas in
        let em : a ≡ every nonzero ms =
        passed_done nonzero ms (length ms - 1 + 1) a (passed_more nonzero ms (length ms - 1) inv.full pm 0 (nonzero (get_or ms (length ms - 1) 0)) a (omega (arith, at, inv.offsets.after)) refl refl) (omega arith) in
        let ek : b ≡ every p ks =
        passed_done p ks (length ms - 1 + 1) b (passed_more p ks (length ms - 1) inv.kinds pk 0 (p (get_or ks (length ms - 1) 0)) b (omega (arith, at, inv.offsets.after, inv.offsets.metas_long)) refl refl) (omega (arith, inv.offsets.metas_long)) in
        tested_tile holds inv.full inv.kinds inv.follows (length ms - 1) n t r inv.is et er
        ∙ ap₂ (λ (s k : Bool). (s && k) && c) em ek
        ∙ ap (λ (g : Bool). (every nonzero ms && every p ks) && g) (follow_done ms os ks n inv.follows i inv.offsets h (size (length ms - 1)) c refl refl)

-- the set bits of the tiles before place i - 1, and of all
module _ (ms : List ℕ) where
  pub none-set : length ms ≡ 0 → 0 ≡ set_bits ms % 2 ^ 64
  none-set e = bits_done ms 0 0 (omega arith) (bits_none ms)

  pub more_set : (i ones k r : ℕ) → 1 ≤ i → i < length ms → ones ≡ set_bits (take (i - 1) ms) % 2 ^ 64 → k ≡ count (has (get_or ms (i - 1) 0)) 64 → r ≡ (ones + k) % 2 ^ 64 → r ≡ set_bits (take (i + 1 - 1) ms) % 2 ^ 64
  more_set i ones k r h l e f g = let up : i + 1 - 1 ≡ i - 1 + 1 = omega (arith, h) in rw up (bits_more ms (i - 1) ones k r (omega (arith, l)) e f g)

  pub all_set : (i ones k r : ℕ) → 1 ≤ i → i ≤ length ms → length ms ≤ i → ones ≡ set_bits (take (i - 1) ms) % 2 ^ 64 → k ≡ count (has (get_or ms (length ms - 1) 0)) 64 → r ≡ (ones + k) % 2 ^ 64 → r ≡ set_bits ms % 2 ^ 64
  all_set i ones k r h m l e f g =
      let at : i - 1 ≡ length ms - 1 = omega (arith, m, l) in
      bits_done ms (length ms - 1 + 1) r (omega arith) (bits_more ms (length ms - 1) ones k r (omega (arith, h, m)) (e ∙ ap (λ (j : ℕ). set_bits (take j ms) % 2 ^ 64) at) f g)

-- the three tests of an accepted pass
module _ (p : ℕ → Bool) (ms os ks : List ℕ) (n : ℕ) (e : true ≡ ((every nonzero ms && every p ks) && gapless 0 n (zip ms (zip os ks)))) where
  pub pass_full : every nonzero ms ≡ true
  pass_full = sym (first-held (every nonzero ms) (every p ks) (gapless 0 n (zip ms (zip os ks))) e)

  pub pass_kinds : true ≡ every p ks
  pass_kinds = second_held (every nonzero ms) (every p ks) (gapless 0 n (zip ms (zip os ks))) e

  pub pass_gapless : true ≡ gapless 0 n (zip ms (zip os ks))
  pass_gapless = third_held (every nonzero ms) (every p ks) (gapless 0 n (zip ms (zip os ks))) e

module _ (ms os ks : List ℕ) (n : ℕ) where
  -- those of a pass over tiles whose total t is the number of values
  module _ (t : ℕ) (e : true ≡ (eqb t n && ((every nonzero ms && every compact_kind ks) && gapless 0 n (zip ms (zip os ks))))) where
    abbrev three : Bool
    three = (every nonzero ms && every compact_kind ks) && gapless 0 n (zip ms (zip os ks))

    pub total_is : t ≡ n
    total_is = eqb-true t n (and_left (eqb t n) three (sym e))

    pub total_compact : true ≡ every compact_kind ks
    total_compact = pass_kinds compact_kind ms os ks n (sym (and_right (eqb t n) three (sym e)))

    pub total_gapless : true ≡ gapless 0 n (zip ms (zip os ks))
    total_gapless = pass_gapless compact_kind ms os ks n (sym (and_right (eqb t n) three (sym e)))

  -- the ends of that test: r is what the pass finds
  pub total_wrong : (t : ℕ) → (t ≡ n → ⊥) → false ≡ (eqb t n && ((every nonzero ms && every compact_kind ks) && gapless 0 n (zip ms (zip os ks))))
  total_wrong t d = and_first (eqb t n) ((every nonzero ms && every compact_kind ks) && gapless 0 n (zip ms (zip os ks))) (is_unequal t n d)

  pub total_right : (t : ℕ) (r : Bool) → t ≡ n → r ≡ ((every nonzero ms && every compact_kind ks) && gapless 0 n (zip ms (zip os ks)))
      → r ≡ (eqb t n && ((every nonzero ms && every compact_kind ks) && gapless 0 n (zip ms (zip os ks))))
  total_right t r d e = and-next (eqb t n) ((every nonzero ms && every compact_kind ks) && gapless 0 n (zip ms (zip os ks))) r (is_equal t n d) e

-- ---- without a Dense tile there are as many values as set bits

values_bits : (k n : ℕ) (ms os ks : List ℕ) → length os ≡ length ms → length ks ≡ length ms → gapless k n (zip ms (zip os ks)) ≡ true → every compact_kind ks ≡ true → n ≡ k + set_bits ms
unfolding gapless every zip zip_with set_bits Rattle.lent.specs.Lists.spread
values_bits k n [] os ks so sk g e = sym (eqb-true k n g) ∙ omega arith
values_bits k n (m ∷ ms) [] ks so sk g e = absurd (omega arith)
values_bits k n (m ∷ ms) (o ∷ os) [] so sk g e = absurd (omega arith)
values_bits k n (m ∷ ms) (o ∷ os) (x ∷ ks) so sk g e =
    let c : length (places m x) ≡ length (members m) = ap length (compact_places (kind_in x) m (not_dense x (and_left (compact_kind x) (every compact_kind ks) e))) in
    let rest : n ≡ k + length (places m x) + set_bits ms =
    values_bits (k + length (places m x)) n ms os ks (omega arith) (omega arith) (and_right (eqb o k) (gapless (k + length (places m x)) n (zip ms (zip os ks))) g) (and_right (compact_kind x) (every compact_kind ks) e) in
    omega (arith, c, rest, bits_append (m ∷ []) ms, bits_one m, members-count m)

-- ---- the rules of the values, and the count

module _ (ms os ks : List ℕ) (so : length os ≡ length ms) (sk : length ks ≡ length ms) (vals : List Float) (t : ℕ) where
  abbrev ruled : Bool
  ruled = slot_rules vals (zip ms (zip os ks))

  pub count_gap : false ≡ gapless 0 (length vals) (zip ms (zip os ks)) → false ≡ (eqb t (set_bits ms) && slot_rules vals (zip ms (zip os ks)))
  count_gap f = and_second (eqb t (set_bits ms)) ruled (slots_apart ms os ks so sk vals f)

  module _ (g : true ≡ gapless 0 (length vals) (zip ms (zip os ks))) where
    -- any kinds: the bits are counted
    pub count_kind : false ≡ every kind_holds ks → false ≡ (eqb t (set_bits ms) && slot_rules vals (zip ms (zip os ks)))
    count_kind f = and_second (eqb t (set_bits ms)) ruled (slots_kind ms os ks so sk vals g f)

    module _ (few : length ms ≤ 2 ^ 24) (k : ℕ) (q : k ≡ set_bits ms % 2 ^ 64) where
      pub count_wrong : (t ≡ k → ⊥) → false ≡ (eqb t (set_bits ms) && slot_rules vals (zip ms (zip os ks)))
      count_wrong d = and_first (eqb t (set_bits ms)) ruled (is_unequal t (set_bits ms) (λ e. d (e ∙ sym (bits_whole ms k few q))))

      pub count_right : t ≡ k → true ≡ every kind_holds ks → (r : Bool) → r ≡ every (values_of vals) (zip ms (zip os ks)) → r ≡ (eqb t (set_bits ms) && slot_rules vals (zip ms (zip os ks)))
      count_right d h r e = and-next (eqb t (set_bits ms)) ruled r (is_equal t (set_bits ms) (d ∙ bits_whole ms k few q)) (slots_values ms os ks so sk vals g h r e)

    -- no Dense tile
    module _ (c : true ≡ every compact_kind ks) where
      same_count : length vals ≡ set_bits ms
      same_count = omega (arith, values_bits 0 (length vals) ms os ks so sk (sym g) (sym c))

      kinds : every kind_holds ks ≡ true
      kinds = every_by compact_kind compact_kind kind_holds ks (λ m e f. le-leb (kind_in m) 2 (omega (arith, leb-true (kind_in m) 1 e))) (sym c) (sym c)

      tested : (i : ℕ) → i ≤ length ms → Tested ms os ks vals i
      tested zero h = tested_none ms os ks vals so sk (sym g)
      tested (suc i) h =
          rw (sym (add-one i))
          (tested_compact ms os ks vals i (tested i (omega (arith, h))) (omega (arith, h)) (kind_in (get_or ks i 0)) refl (not_dense (get_or ks i 0) (every-get_or compact_kind ks i 0 (sym c) (omega (arith, sk, h)))))

      pub compact_right : t ≡ length vals → (n : ℕ) → n ≡ length (only solid vals) → eqb n t ≡ (eqb t (set_bits ms) && slot_rules vals (zip ms (zip os ks)))
      compact_right d n e =
          and-next (eqb t (set_bits ms)) ruled (eqb n t) (is_equal t (set_bits ms) (d ∙ same_count))
          (slots_values ms os ks so sk vals g (sym kinds) (eqb n t) (tested_done ms os ks vals (length ms) (tested (length ms) (omega arith)) (omega arith) n t e (d ∙ same_count)))

-- ---- the rules where a pass over tiles of any kinds fails

module _ (n m : ℕ) (ps ks ms os : List ℕ) (vs : List Float) (t : ℕ) (f : true ≡ framed_lists n ps (length ks) (length ms)) (so : length os ≡ length ms) (sk : length ks ≡ length ms) where
  pub counted_fails : false ≡ (eqb t (set_bits ms) && slot_rules vs (zip ms (zip os ks))) → false ≡ tiles_rules (as_tiles n m ps ms os ks vs t)
  counted_fails e = go (row_rules (as_words n m ps (map word_in ks) ms t)) refl
    where
      go : (b : Bool) → row_rules (as_words n m ps (map word_in ks) ms t) ≡ b → false ≡ tiles_rules (as_tiles n m ps ms os ks vs t)
      go true q = rules_counted n m ps ks ms os vs t f (so ∙ sym sk) (sym q) false e
      go false q = rules_rows n m ps ks ms os vs t f (sym q)

  pub mixed_fails : false ≡ ((every nonzero ms && every kind_holds ks) && gapless 0 (length vs) (zip ms (zip os ks))) → false ≡ tiles_rules (as_tiles n m ps ms os ks vs t)
  mixed_fails e = go (gapless 0 (length vs) (zip ms (zip os ks))) refl (every kind_holds ks) refl
    where
      go : (a : Bool) → gapless 0 (length vs) (zip ms (zip os ks)) ≡ a → (b : Bool) → every kind_holds ks ≡ b → false ≡ tiles_rules (as_tiles n m ps ms os ks vs t)
      go false p b q = counted_fails (count_gap ms os ks so sk vs t (sym p))
      go true p false q = counted_fails (count_kind ms os ks so sk vs t (sym p) (sym q))
      go true p true q =
          rules_empty n m ps ks ms os vs t f
          (e ∙ ap₂ (λ (x y : Bool). (every nonzero ms && x) && y) q p ∙ and-true (every nonzero ms && true) ∙ and-true (every nonzero ms))
