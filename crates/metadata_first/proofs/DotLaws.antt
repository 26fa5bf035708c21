-- The dot depends on the present and active columns, and on the values and the vector there. Assumes nothing.
use mathlib.Core.Bool.{Bool, true, not, ◌&&◌}
use mathlib.Core.List.{List}
use mathlib.Core.Path.{◌≡◌, refl, ap, ap₂, ◌∙◌}
use Prim.Native.Nat.{ℕ, ◌+◌, ◌<◌}
use lib.ListN.{length}
use lib.Ieee.{Float, binary64, add, mul}
use Rattle.hybit_core.specs.Floats.{zero64}
use Rattle.word.specs.Bits.{below, both, words_of}
use Rattle.word.proofs.BelowLaws.{below_cong, length-below-parts, fold_below}
use Rattle.word.proofs.BitLaws.{words_of_cong}
use Rattle.csr32.specs.Csr.{Entry, present, merged}
use Rattle.metadata_first.specs.Dot.{sum_over, dot_of, three_of, demanded}

pub sum_cong : (n : ℕ) (p : ℕ → Bool) (v w x y : ℕ → Float) → ((c : ℕ) → c < n → p c ≡ true → v c ≡ w c) → ((c : ℕ) → c < n → p c ≡ true → x c ≡ y c)
    → sum_over (below p n) v x ≡ sum_over (below p n) w y
unfolding sum_over
sum_cong n p v w x y hv hx =
    fold_below (λ (s : Float) (c : ℕ). add binary64 s (mul binary64 (v c) (x c))) (λ (s : Float) (c : ℕ). add binary64 s (mul binary64 (w c) (y c))) p n zero64
    (λ s c l e. ap₂ (λ (f g : Float). add binary64 s (mul binary64 f g)) (hv c l e) (hx c l e))

-- what demand 3 speaks of depends on the columns that are both present and active
module _ (n : ℕ) (p q a b : ℕ → Bool) (v w x y : ℕ → Float) where
  pub three_cong : ((c : ℕ) → c < n → both p a c ≡ both q b c) → ((c : ℕ) → c < n → both p a c ≡ true → v c ≡ w c) → ((c : ℕ) → c < n → both p a c ≡ true → x c ≡ y c)
      → three_of (dot_of n p v a x) ≡ three_of (dot_of n q w b y)
  unfolding three_of dot_of
  three_cong hp hv hx =
      let l : below (both p a) n ≡ below (both q b) n = below_cong (both p a) (both q b) n hp in
      let s : sum_over (below (both p a) n) v x ≡ sum_over (below (both q b) n) w y = sum_cong n (both p a) v w x y hv hx ∙ ap (λ (t : List ℕ). sum_over t w y) l in
      let g : words_of (both p a) n ≡ words_of (both q b) n = words_of_cong n (both p a) (both q b) hp in
      λ k. record { number = s k; executed = length (l k); active_words = length (g k) }

  -- the whole report
  pub dot_cong : ((c : ℕ) → c < n → p c ≡ q c) → ((c : ℕ) → c < n → a c ≡ b c)
      → ((c : ℕ) → c < n → both p a c ≡ true → v c ≡ w c) → ((c : ℕ) → c < n → both p a c ≡ true → x c ≡ y c)
      → dot_of n p v a x ≡ dot_of n q w b y
  unfolding dot_of
  dot_cong hp ha hv hx =
      let hb : (c : ℕ) → c < n → both p a c ≡ both q b c = λ c l. ap₂ (λ (s t : Bool). s && t) (hp c l) (ha c l) in
      let m : below p n ≡ below q n = below_cong p q n hp in
      let l : below (both p a) n ≡ below (both q b) n = below_cong (both p a) (both q b) n hb in
      let o : below (λ c. p c && not (a c)) n ≡ below (λ c. q c && not (b c)) n = below_cong (λ c. p c && not (a c)) (λ c. q c && not (b c)) n (λ c l. ap₂ (λ (s t : Bool). s && not t) (hp c l) (ha c l)) in
      let s : sum_over (below (both p a) n) v x ≡ sum_over (below (both q b) n) w y = sum_cong n (both p a) v w x y hv hx ∙ ap (λ (t : List ℕ). sum_over t w y) l in
      let f : words_of p n ≡ words_of q n = words_of_cong n p q hp in
      let g : words_of (both p a) n ≡ words_of (both q b) n = words_of_cong n (both p a) (both q b) hb in
      λ k. record {
        sum = s k;
        candidate_products = length (m k);
        executed_products = length (l k);
        skipped_products = length (o k);
        topology_words = length (f k);
        active_words = length (g k);
      }

-- candidate = executed + skipped
pub candidates : (n : ℕ) (p : ℕ → Bool) (v : ℕ → Float) (a : ℕ → Bool) (x : ℕ → Float) → (dot_of n p v a x).candidate_products ≡ (dot_of n p v a x).executed_products + (dot_of n p v a x).skipped_products
unfolding dot_of
candidates n p v a x = length-below-parts p a n

-- the dot of a matrix row's merged values is what demand 3 speaks of
pub demanded-three : (n : ℕ) (es : List Entry) (a : ℕ → Bool) (x : ℕ → Float) → three_of (dot_of n (present es) (merged es) a x) ≡ demanded n es a x
unfolding three_of dot_of demanded
demanded-three n es a x = refl
