-- Lists made part after part, their parts, and tests over lists.
use Rattle.std.specs.Prelude.{ℕ, zero, suc, ◌+◌, Bool, true, false, cond, ◌&&◌, ◌||◌, List, [], ◌∷◌, ◌++◌, leb, length, get_or}
use Rattle.std.proofs.Math.Seq.{slice}

-- f 0, then f 1, .., then f (n - 1), as one list
unfoldable pub joined : {A : Type 0} → (ℕ → List A) → ℕ → List A
joined f zero = []
joined f (suc n) = joined f n ++ f n

-- f 0, f 1, .., f (n - 1)
unfoldable pub each : {A : Type 0} → (ℕ → A) → ℕ → List A
each f n = joined (λ k. f k ∷ []) n

-- row pointers: where each of n parts starts, and where the last one ends
unfoldable pub starts : {A : Type 0} → (ℕ → List A) → ℕ → List ℕ
starts f n = each (λ r. length (joined f r)) (suc n)

-- row r of a list, by its pointers
unfoldable pub part : {A : Type 0} → List ℕ → List A → ℕ → List A
part ptr l r = slice (get_or ptr r 0) (get_or ptr (r + 1) 0) l

abbrev pub cons_if : {A : Type 0} → Bool → A → List A → List A
cons_if true a l = a ∷ l
cons_if false a l = l

-- the elements that pass, in order
unfoldable pub only : {A : Type 0} → (A → Bool) → List A → List A
only p [] = []
only p (a ∷ l) = cons_if (p a) a (only p l)

-- every element passes; some element passes
unfoldable pub every : {A : Type 0} → (A → Bool) → List A → Bool
every p [] = true
every p (a ∷ l) = p a && every p l

unfoldable pub some : {A : Type 0} → (A → Bool) → List A → Bool
some p [] = false
some p (a ∷ l) = p a || some p l

-- the first element that passes, or d
unfoldable pub first : {A : Type 0} → A → (A → Bool) → List A → A
first d p [] = d
first d p (a ∷ l) = cond (p a) a (first d p l)

-- no element is below the one before it, and the first is not below a
unfoldable pub rises : ℕ → List ℕ → Bool
rises a [] = true
rises a (b ∷ l) = leb a b && rises b l

-- each element is above the one before it, and the first is at least a
unfoldable pub climbs : ℕ → List ℕ → Bool
climbs a [] = true
climbs a (b ∷ l) = leb a b && climbs (suc b) l

-- f over the elements of a list, as one list
unfoldable pub spread : {A B : Type 0} → (A → List B) → List A → List B
spread f [] = []
spread f (a ∷ l) = f a ++ spread f l
