-- Parts of lists that are mapped or stand side by side. Assumes nothing.
use mathlib.Core.List.{List, [], ◌∷◌, ◌++◌, map, zip, zip_with}
use mathlib.Core.Path.{◌≡◌, refl, sym, ap, ◌∙◌}
use Prim.Native.Nat.{ℕ, zero, suc, ◌+◌, ◌<◌}
use native.Mathlib.Nat.{not-suc-le-zero}
use native.Mathlib.Numerals.{add-one}
use native.Mathlib.Omega.{arith}
use lib.ListN.{length, get_or, take, drop}
use Rattle.lent.specs.Lists.{part}

module _ {A B : Type 0} where
  pub take-map : (f : A → B) (n : ℕ) (l : List A) → take n (map f l) ≡ map f (take n l)
  take-map f zero l = refl
  take-map f (suc n) [] = refl
  take-map f (suc n) (a ∷ l) = ap (λ (t : List B). f a ∷ t) (take-map f n l)

  pub drop-map : (f : A → B) (n : ℕ) (l : List A) → drop n (map f l) ≡ map f (drop n l)
  drop-map f zero l = refl
  drop-map f (suc n) [] = refl
  drop-map f (suc n) (a ∷ l) = drop-map f n l

  -- row r of a mapped list
  pub part-map : (ptr : List ℕ) (f : A → B) (l : List A) (r : ℕ) → part ptr (map f l) r ≡ map f (part ptr l r)
  unfolding part
  part-map ptr f l r = ap (drop (get_or ptr r 0)) (take-map f (get_or ptr (r + 1) 0) l) ∙ drop-map f (get_or ptr r 0) (take (get_or ptr (r + 1) 0) l)

  pub take-zip : (n : ℕ) (l : List A) (m : List B) → take n (zip l m) ≡ zip (take n l) (take n m)
  unfolding zip zip_with
  take-zip zero l m = refl
  take-zip (suc n) [] m = refl
  take-zip (suc n) (a ∷ l) [] = refl
  take-zip (suc n) (a ∷ l) (b ∷ m) = ap (λ (t : List (A × B)). (a, b) ∷ t) (take-zip n l m)

  zip-none : (l : List A) → ◌≡◌ {A = List (A × B)} (zip l []) []
  unfolding zip zip_with
  zip-none [] = refl
  zip-none (a ∷ l) = refl

  pub drop-zip : (n : ℕ) (l : List A) (m : List B) → drop n (zip l m) ≡ zip (drop n l) (drop n m)
  unfolding zip zip_with
  drop-zip zero l m = refl
  drop-zip (suc n) [] m = refl
  drop-zip (suc n) (a ∷ l) [] = sym (zip-none (drop n l))
  drop-zip (suc n) (a ∷ l) (b ∷ m) = drop-zip n l m

  -- row r of two lists side by side
  pub part-zip : (ptr : List ℕ) (l : List A) (m : List B) (r : ℕ) → part ptr (zip l m) r ≡ zip (part ptr l r) (part ptr m r)
  unfolding part
  part-zip ptr l m r =
      ap (drop (get_or ptr r 0)) (take-zip (get_or ptr (r + 1) 0) l m)
      ∙ drop-zip (get_or ptr r 0) (take (get_or ptr (r + 1) 0) l) (take (get_or ptr (r + 1) 0) m)

  pub get_d_zip : (l : List A) (m : List B) (k : ℕ) (a : A) (b : B) → k < length l → k < length m → get_or (zip l m) k (a, b) ≡ (get_or l k a, get_or m k b)
  unfolding zip zip_with
  get_d_zip [] m k a b h g = absurd (not-suc-le-zero h)
  get_d_zip (x ∷ l) [] k a b h g = absurd (not-suc-le-zero g)
  get_d_zip (x ∷ l) (y ∷ m) zero a b h g = refl
  get_d_zip (x ∷ l) (y ∷ m) (suc k) a b h g = get_d_zip l m k a b (omega arith) (omega arith)

  -- one place more
  pub zip_suc : (l : List A) (m : List B) (k : ℕ) (a : A) (b : B) → k < length l → k < length m → take (k + 1) (zip l m) ≡ take k (zip l m) ++ ((get_or l k a, get_or m k b) ∷ [])
  unfolding zip zip_with
  zip_suc l m k a b h g = ap (λ (n : ℕ). take n (zip l m)) (add-one k) ∙ go l m k h g
    where
      go : (l : List A) (m : List B) (k : ℕ) → k < length l → k < length m → take (suc k) (zip l m) ≡ take k (zip l m) ++ ((get_or l k a, get_or m k b) ∷ [])
      go [] m k h g = absurd (not-suc-le-zero h)
      go (x ∷ l) [] k h g = absurd (not-suc-le-zero g)
      go (x ∷ l) (y ∷ m) zero h g = refl
      go (x ∷ l) (y ∷ m) (suc k) h g = ap (λ (t : List (A × B)). (x, y) ∷ t) (go l m k (omega arith) (omega arith))

  pub length-zip : (l : List A) (m : List B) → length m ≡ length l → length (zip l m) ≡ length l
  unfolding zip zip_with
  length-zip [] m e = refl
  length-zip (x ∷ l) [] e = absurd (omega arith)
  length-zip (x ∷ l) (y ∷ m) e = ap suc (length-zip l m (omega arith))
