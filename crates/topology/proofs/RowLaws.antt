-- A row of words that keeps its rule is the row of its own membership. Assumes nothing but masks of 64 bits.
use Rattle.std.proofs.Common.{◌≡◌, ℕ, zero, suc, ◌+◌, ◌*◌, ◌/◌, ◌%◌, ◌^◌, ◌<◌, ◌≤◌, Bool, true, false, cond, not, ◌&&◌, ◌||◌, eqb, ltb, leb, List, [], ◌∷◌, map, length, get_or, sym, refl, ap, ◌∙◌, ap₂, arith, pow_pos, ltb-true, lt-ltb, eq-eqb, ne_eqb, eqb-true, le-leb, leb-true}
use mathlib.Core.Bool.{false≢true}
use mathlib.Core.List.{zip, zip_with}
use mathlib.Core.Path.{fun_ext}
use native.Mathlib.Decide.{dec_lt}
use borrow.Author.Tests.{eqb-false}
use Rattle.hybit_core.proofs.BoolLaws.{and_left, and_right, and_both, same_test}
use Rattle.lent.specs.Lists.{cons_if, every, some, first, climbs}
use Rattle.word.specs.Bits.{has, from, below, within, members, mask_of, hit, ceil64, words_of}
use Rattle.word.proofs.BelowLaws.{below_cong, from_cong, from-none, rank_lt, selects}
use Rattle.word.proofs.HasLaws.{has_ext, has-past}
use Rattle.word.proofs.BitLaws.{number_lt, has-mask_of, has-none, every-below-at}
use Rattle.topology.specs.Words.{mask_in, row_member, word_rule, row_rule}

-- ---- a climbing list is the list of its elements

listed : List ℕ → ℕ → Bool
listed ws w = some (λ v. eqb v w) ws

lower : (a v : ℕ) (l : List ℕ) → a ≤ v → climbs (suc v) l ≡ true → climbs a l ≡ true
unfolding climbs
lower a v [] h e = refl
lower a v (c ∷ l) h e =
    and_both (leb a c) (climbs (suc c) l) (le-leb a c (omega (arith, leb-true (suc v) c (and_left (leb (suc v) c) (climbs (suc c) l) e)))) (and_right (leb (suc v) c) (climbs (suc c) l) e)

none_below : (b : ℕ) (ws : List ℕ) → climbs (suc b) ws ≡ true → listed ws b ≡ false
unfolding climbs some listed
none_below b [] e = refl
none_below b (v ∷ ws) e =
    let h : suc b ≤ v = leb-true (suc b) v (and_left (leb (suc b) v) (climbs (suc v) ws) e) in
    ap₂ (λ (s t : Bool). s || t) (ne_eqb v b (λ q. omega arith)) (none_below b ws (lower (suc b) v ws h (and_right (leb (suc b) v) (climbs (suc v) ws) e)))

climb-from : (d b : ℕ) (ws : List ℕ) → climbs b ws ≡ true → every (λ w. ltb w (b + d)) ws ≡ true → ws ≡ from (listed ws) b d
unfolding from climbs every some listed
climb-from zero b [] e k = refl
climb-from zero b (v ∷ ws) e k =
    absurd (omega (arith, leb-true b v (and_left (leb b v) (climbs (suc v) ws) e), ltb-true v (b + 0) (and_left (ltb v (b + 0)) (every (λ w. ltb w (b + 0)) ws) k)))
climb-from (suc d) b [] e k = sym (from-none (λ w. false) b (suc d) (λ i l u. refl))
climb-from (suc d) b (v ∷ ws) e k = go (eqb v b) refl (climb-from d (suc b) ws) (climb-from d (suc b) (v ∷ ws))
  where
    ends : b + suc d ≡ suc b + d
    ends = omega arith

    go : (t : Bool) → eqb v b ≡ t → (climbs (suc b) ws ≡ true → every (λ w. ltb w (suc b + d)) ws ≡ true → ws ≡ from (listed ws) (suc b) d)
        → (climbs (suc b) (v ∷ ws) ≡ true → every (λ w. ltb w (suc b + d)) (v ∷ ws) ≡ true → (v ∷ ws) ≡ from (listed (v ∷ ws)) (suc b) d)
        → (v ∷ ws) ≡ cons_if (t || listed ws b) b (from (listed (v ∷ ws)) (suc b) d)
    go true x f g =
        let q : v ≡ b = eqb-true v b x in
        ap₂ (λ (w : ℕ) (l : List ℕ). w ∷ l) q
        (f (ap (λ (w : ℕ). climbs (suc w) ws) (sym q) ∙ and_right (leb b v) (climbs (suc v) ws) e)
        (ap (λ (n : ℕ). every (λ w. ltb w n) ws) (sym ends) ∙ and_right (ltb v (b + suc d)) (every (λ w. ltb w (b + suc d)) ws) k)
        ∙ from_cong (listed ws) (listed (v ∷ ws)) (suc b) d (λ i l u. sym (ap (λ (s : Bool). s || listed ws i) (ne_eqb v i (λ r. omega arith)))))
    go false x f g =
        let h : b ≤ v = leb-true b v (and_left (leb b v) (climbs (suc v) ws) e) in
        let n : suc b ≤ v = above (eqb-false v b x) h in
        let c : climbs (suc b) (v ∷ ws) ≡ true = and_both (leb (suc b) v) (climbs (suc v) ws) (le-leb (suc b) v n) (and_right (leb b v) (climbs (suc v) ws) e) in
        g c (ap (λ (n : ℕ). every (λ w. ltb w n) (v ∷ ws)) (sym ends) ∙ k)
        ∙ ap (λ (t : Bool). cons_if t b (from (listed (v ∷ ws)) (suc b) d)) (sym (none_tail n))
      where
        above : (v ≡ b → ⊥) → b ≤ v → suc b ≤ v
        above f h = omega arith

        none_tail : suc b ≤ v → listed ws b ≡ false
        none_tail n = none_below b ws (lower (suc b) v ws n (and_right (leb b v) (climbs (suc v) ws) e))

-- ---- the mask of a word in two lists side by side

pub mask_in_none : (ms : List ℕ) (w : ℕ) → mask_in [] ms w ≡ 0
unfolding mask_in first zip zip_with
mask_in_none ms w = refl

pub mask_in_short : (v : ℕ) (ws : List ℕ) (w : ℕ) → mask_in (v ∷ ws) [] w ≡ 0
unfolding mask_in first zip zip_with
mask_in_short v ws w = refl

pub mask_in_cons : (v m : ℕ) (ws ms : List ℕ) (w : ℕ) → mask_in (v ∷ ws) (m ∷ ms) w ≡ cond (eqb v w) m (mask_in ws ms w)
unfolding mask_in first zip zip_with
mask_in_cons v m ws ms w = go (eqb v w)
  where
    go : (t : Bool) → (cond {A = ℕ × ℕ} t (v, m) (first (0, 0) (λ (e : ℕ × ℕ). eqb e.0 w) (zip ws ms))).1 ≡ cond t m (first (0, 0) (λ (e : ℕ × ℕ). eqb e.0 w) (zip ws ms)).1
    go true = refl
    go false = refl

-- every mask is of 64 bits
abbrev pub small : List ℕ → Bool
small ms = every (λ m. ltb m (2 ^ 64)) ms

pub small_is : (ms : List ℕ) → ((k : ℕ) → get_or ms k 0 < 2 ^ 64) → small ms ≡ true
unfolding every
small_is [] h = refl
small_is (m ∷ ms) h = and_both (ltb m (2 ^ 64)) (small ms) (lt-ltb m (2 ^ 64) (h 0)) (small_is ms (λ k. h (suc k)))

module _ (cols : ℕ) where
  mask-small : (ws ms : List ℕ) (w : ℕ) → small ms ≡ true → mask_in ws ms w < 2 ^ 64
  unfolding every
  mask-small [] ms w e = let z : mask_in [] ms w ≡ 0 = mask_in_none ms w in omega (arith, pow_pos 64)
  mask-small (v ∷ ws) [] w e = let z : mask_in (v ∷ ws) [] w ≡ 0 = mask_in_short v ws w in omega (arith, pow_pos 64)
  mask-small (v ∷ ws) (m ∷ ms) w e = rw mask_in_cons (go (eqb v w) (mask-small ws ms w (and_right (ltb m (2 ^ 64)) (small ms) e)))
    where
      go : (t : Bool) → mask_in ws ms w < 2 ^ 64 → cond t m (mask_in ws ms w) < 2 ^ 64
      go true h = ltb-true m (2 ^ 64) (and_left (ltb m (2 ^ 64)) (small ms) e)
      go false h = h

  mask-inside : (ws ms : List ℕ) (w i : ℕ) → every (word_rule cols) (zip ws ms) ≡ true → i < 64 → has (mask_in ws ms w) i ≡ true → ltb (64 * w + i) cols ≡ true
  unfolding every zip zip_with word_rule members
  mask-inside [] ms w i e l b = absurd (false≢true (sym (ap (λ (m : ℕ). has m i) (mask_in_none ms w) ∙ has-none i) ∙ b))
  mask-inside (v ∷ ws) [] w i e l b = absurd (false≢true (sym (ap (λ (m : ℕ). has m i) (mask_in_short v ws w) ∙ has-none i) ∙ b))
  mask-inside (v ∷ ws) (m ∷ ms) w i e l b =
      go (eqb v w) refl (ap (λ (m : ℕ). has m i) (sym (mask_in_cons v m ws ms w)) ∙ b) (mask-inside ws ms w i (and_right (word_rule cols (v, m)) (every (word_rule cols) (zip ws ms)) e) l)
    where
      go : (t : Bool) → eqb v w ≡ t → has (cond t m (mask_in ws ms w)) i ≡ true → (has (mask_in ws ms w) i ≡ true → ltb (64 * w + i) cols ≡ true) → ltb (64 * w + i) cols ≡ true
      go true x b f =
          ap (λ (n : ℕ). ltb (64 * n + i) cols) (sym (eqb-true v w x))
          ∙ every-below-at (λ i. ltb (64 * v + i) cols) (has m) 64 i (and_right (not (eqb m 0)) (every (λ i. ltb (64 * v + i) cols) (below (has m) 64)) (and_left (word_rule cols (v, m)) (every (word_rule cols) (zip ws ms)) e)) l b
      go false x b f = f b

  -- a word is listed exactly if its mask is not 0
  mask-listed : (ws ms : List ℕ) (w : ℕ) → length ws ≡ length ms → every (word_rule cols) (zip ws ms) ≡ true → not (eqb (mask_in ws ms w) 0) ≡ listed ws w
  unfolding every zip zip_with word_rule listed some
  mask-listed [] ms w n e = ap (λ (m : ℕ). not (eqb m 0)) (mask_in_none ms w)
  mask-listed (v ∷ ws) [] w n e = absurd (omega arith)
  mask-listed (v ∷ ws) (m ∷ ms) w n e =
      ap (λ (m : ℕ). not (eqb m 0)) (mask_in_cons v m ws ms w) ∙ go (eqb v w) (mask-listed ws ms w (omega arith) (and_right (word_rule cols (v, m)) (every (word_rule cols) (zip ws ms)) e))
    where
      go : (t : Bool) → not (eqb (mask_in ws ms w) 0) ≡ listed ws w → not (eqb (cond t m (mask_in ws ms w)) 0) ≡ (t || listed ws w)
      go true h = and_left (not (eqb m 0)) (every (λ i. ltb (64 * v + i) cols) (members m)) (and_left (word_rule cols (v, m)) (every (word_rule cols) (zip ws ms)) e)
      go false h = h

  pub some_bit : (m : ℕ) → m < 2 ^ 64 → not (eqb m 0) ≡ true → 0 < length (members m)
  unfolding below members
  some_bit m l e = go (dec_lt 0 (length (below (has m) 64)))
    where
      go : Dec (0 < length (below (has m) 64)) → 0 < length (below (has m) 64)
      go (yes h) = h
      go (no h) = absurd (false≢true (sym (ap not (eq-eqb m 0 (has_ext 64 m 0 l (pow_pos 64) (λ i. clear i (dec_lt i 64))))) ∙ e))
        where
          bit : (i : ℕ) (t : Bool) → i < 64 → has m i ≡ t → t ≡ false
          bit i true d x = absurd (omega (arith, rank_lt (has m) i 64 d x))
          bit i false d x = refl

          clear : (i : ℕ) → Dec (i < 64) → has m i ≡ has 0 i
          clear i (yes d) = bit i (has m i) d refl ∙ sym (has-none i)
          clear i (no d) = has-past 64 m i l (omega arith) ∙ sym (has-none i)

  -- a word that keeps its rule lies in the frame
  pub word_inside_lem : (v m : ℕ) → m < 2 ^ 64 → word_rule cols (v, m) ≡ true → v < ceil64 cols
  unfolding word_rule members
  word_inside_lem v m s g =
      let b : 0 < length (members m) = some_bit m s (and_left (not (eqb m 0)) (every (λ i. ltb (64 * v + i) cols) (members m)) g) in
      let z = selects (has m) 64 0 b in
      let i : ℕ = get_or (below (has m) 64) 0 0 in
      let c : 64 * v + i < cols = ltb-true (64 * v + i) cols (every-below-at (λ i. ltb (64 * v + i) cols) (has m) 64 i (and_right (not (eqb m 0)) (every (λ i. ltb (64 * v + i) cols) (members m)) g) z.bound z.member) in
      omega arith

  words_inside : (ws ms : List ℕ) → length ws ≡ length ms → every (word_rule cols) (zip ws ms) ≡ true → small ms ≡ true → every (λ w. ltb w (0 + ceil64 cols)) ws ≡ true
  unfolding every zip zip_with
  words_inside [] ms n e s = refl
  words_inside (v ∷ ws) [] n e s = absurd (omega arith)
  words_inside (v ∷ ws) (m ∷ ms) n e s =
      let g : word_rule cols (v, m) ≡ true = and_left (word_rule cols (v, m)) (every (word_rule cols) (zip ws ms)) e in
      let i : v < ceil64 cols = word_inside_lem v m (ltb-true m (2 ^ 64) (and_left (ltb m (2 ^ 64)) (small ms) s)) g in
      and_both (ltb v (0 + ceil64 cols)) (every (λ w. ltb w (0 + ceil64 cols)) ws) (lt-ltb v (0 + ceil64 cols) (omega arith))
      (words_inside ws ms (omega arith) (and_right (word_rule cols (v, m)) (every (word_rule cols) (zip ws ms)) e) (and_right (ltb m (2 ^ 64)) (small ms) s))

-- the masks are those that the words find
masks_found : (ws ms : List ℕ) (a : ℕ) → climbs a ws ≡ true → length ws ≡ length ms → ms ≡ map (mask_in ws ms) ws
unfolding climbs
masks_found [] [] a e n = refl
masks_found [] (m ∷ ms) a e n = absurd (omega arith)
masks_found (v ∷ ws) [] a e n = absurd (omega arith)
masks_found (v ∷ ws) (m ∷ ms) a e n =
    ap₂ (λ (k : ℕ) (l : List ℕ). k ∷ l) (sym (mask_in_cons v m ws ms v ∙ ap (λ (t : Bool). cond t m (mask_in ws ms v)) (eq-eqb v v refl)))
    (masks_found ws ms (suc v) (and_right (leb a v) (climbs (suc v) ws) e) (omega arith) ∙ sym (past ws (and_right (leb a v) (climbs (suc v) ws) e)))
  where
    past : (l : List ℕ) → climbs (suc v) l ≡ true → map (mask_in (v ∷ ws) (m ∷ ms)) l ≡ map (mask_in ws ms) l
    past [] e = refl
    past (w ∷ l) e =
        let h : suc v ≤ w = leb-true (suc v) w (and_left (leb (suc v) w) (climbs (suc w) l) e) in
        ap₂ (λ (k : ℕ) (l : List ℕ). k ∷ l) (mask_in_cons v m ws ms w ∙ ap (λ (t : Bool). cond t m (mask_in ws ms w)) (ne_eqb v w (λ q. omega arith)))
        (past l (lower (suc v) w l h (and_right (leb (suc v) w) (climbs (suc w) l) e)))

-- ---- a row that 11 accepts

-- ws and ms are the words of the test p over n columns, and their masks
pub record Row (p : ℕ → Bool) (n : ℕ) (ws ms : List ℕ) : Type 0 where
  pub words : ws ≡ words_of p n
  pub masks : ms ≡ map (mask_of p n) (words_of p n)

module _ (cols : ℕ) (ws ms : List ℕ) (rule : row_rule cols ws ms ≡ true) (same : length ws ≡ length ms) (tiny : small ms ≡ true) where
  climbing : climbs 0 ws ≡ true
  unfolding row_rule
  climbing = and_left (climbs 0 ws) (every (word_rule cols) (zip ws ms)) rule

  pairs : every (word_rule cols) (zip ws ms) ≡ true
  unfolding row_rule
  pairs = and_right (climbs 0 ws) (every (word_rule cols) (zip ws ms)) rule

  -- the row holds no column at or past the column count
  pub row_inside : (c : ℕ) → row_member ws ms c ≡ true → ltb c cols ≡ true
  unfolding row_member
  row_inside c e = let d : 64 * (c / 64) + c % 64 ≡ c = omega arith in let l : c % 64 < 64 = omega arith in ap (λ (c : ℕ). ltb c cols) (sym d) ∙ mask-inside cols ws ms (c / 64) (c % 64) pairs l e

  pub mask_is : (w : ℕ) → mask_of (row_member ws ms) cols w ≡ mask_in ws ms w
  unfolding mask_of row_member
  mask_is w = has_ext 64 (mask_of (row_member ws ms) cols w) (mask_in ws ms w) (number_lt (λ i. within cols (row_member ws ms) (64 * w + i)) 64) (mask-small cols ws ms w tiny) (λ i. bit i (dec_lt i 64))
    where
      bit : (i : ℕ) → Dec (i < 64) → has (mask_of (row_member ws ms) cols w) i ≡ has (mask_in ws ms w) i
      bit i (yes l) =
          let a : (64 * w + i) / 64 ≡ w = omega arith in
          let b : (64 * w + i) % 64 ≡ i = omega arith in
          has-mask_of (row_member ws ms) cols w i l
          ∙ ap (λ (b : Bool). ltb (64 * w + i) cols && b) (ap₂ (λ (v j : ℕ). has (mask_in ws ms v) j) a b)
          ∙ same_test (ltb (64 * w + i) cols && has (mask_in ws ms w) i) (has (mask_in ws ms w) i) (and_right (ltb (64 * w + i) cols) (has (mask_in ws ms w) i))
          (λ e. and_both (ltb (64 * w + i) cols) (has (mask_in ws ms w) i) (mask-inside cols ws ms w i pairs l e) e)
      bit i (no l) =
          has-past 64 (mask_of (row_member ws ms) cols w) i (number_lt (λ i. within cols (row_member ws ms) (64 * w + i)) 64) (omega arith)
          ∙ sym (has-past 64 (mask_in ws ms w) i (mask-small cols ws ms w tiny) (omega arith))

  words_is : ws ≡ words_of (row_member ws ms) cols
  unfolding words_of below
  words_is =
      climb-from (ceil64 cols) 0 ws climbing (words_inside cols ws ms same pairs tiny)
      ∙ below_cong (listed ws) (hit (row_member ws ms) cols) (ceil64 cols) (λ w l. sym (ap (λ (m : ℕ). not (eqb m 0)) (mask_is w) ∙ mask-listed cols ws ms w same pairs))

  masks_is : ms ≡ map (mask_of (row_member ws ms) cols) (words_of (row_member ws ms) cols)
  masks_is =
      masks_found ws ms 0 climbing same ∙ ap (λ (f : ℕ → ℕ). map f ws) (fun_ext (λ w. sym (mask_is w))) ∙ ap (map (mask_of (row_member ws ms) cols)) words_is

  pub row_is : Row (row_member ws ms) cols ws ms
  row_is = record { words = words_is; masks = masks_is }
