-- Tests on numbers, and the ascending list of the numbers that pass: the words of a row, its columns and the members of one
-- word are such lists. A word is 64 bits, bit 0 the lowest.
use Rattle.std.specs.Prelude.{Option, slice_get, Bool, not, ◌&&◌, List, [], ℕ, zero, suc, ◌+◌, ◌-◌, ◌*◌, ◌/◌, ◌%◌, ◌^◌, eqb, ltb, length}
use mir.Val.{bool_byte}
use Rattle.lent.specs.Lists.{cons_if}

-- bit i of w is set
unfoldable pub has : ℕ → ℕ → Bool
has w i = eqb (w / 2 ^ i % 2) 1

-- of the d numbers from b on, those at which p holds, ascending
unfoldable pub from : (ℕ → Bool) → ℕ → ℕ → List ℕ
from p b zero = []
from p b (suc d) = cons_if (p b) b (from p (suc b) d)

-- the numbers below n at which p holds, ascending
unfoldable pub below : (ℕ → Bool) → ℕ → List ℕ
below p n = from p 0 n

-- the numbers from b up to e, without e, at which p holds, ascending
unfoldable pub between : (ℕ → Bool) → ℕ → ℕ → List ℕ
between p b e = from p b (e - b)

-- how many numbers below n pass; document 01's rank at n
abbrev pub count : (ℕ → Bool) → ℕ → ℕ
count p n = length (below p n)

-- document 01's select: of the numbers below n that pass, the one with k of them below it, or nothing
unfoldable pub selected : (ℕ → Bool) → ℕ → ℕ → Option ℕ
selected p n k = slice_get (below p n) k

-- both tests hold
abbrev pub both : (ℕ → Bool) → (ℕ → Bool) → ℕ → Bool
both p q c = p c && q c

-- the test, inside the frame of n columns
abbrev pub within : ℕ → (ℕ → Bool) → ℕ → Bool
within n p c = ltb c n && p c

-- the number whose bit i is f i, for the k lowest bits
unfoldable pub number : (ℕ → Bool) → ℕ → ℕ
number f zero = 0
number f (suc k) = bool_byte (f 0) + 2 * number (λ i. f (suc i)) k

-- the word whose members are those of the test
abbrev pub word_of : (ℕ → Bool) → ℕ
word_of f = number f 64

-- the members of a word, ascending
unfoldable pub members : ℕ → List ℕ
members w = below (has w) 64

-- word w of a test over n columns: bit i is column 64 · w + i
unfoldable pub mask_of : (ℕ → Bool) → ℕ → ℕ → ℕ
mask_of p n w = word_of (λ i. within n p (64 * w + i))

-- how many words n columns take
abbrev pub ceil64 : ℕ → ℕ
ceil64 n = (n + 63) / 64

-- word w holds a column of the test
abbrev pub hit : (ℕ → Bool) → ℕ → ℕ → Bool
hit p n w = not (eqb (mask_of p n w) 0)

-- the word numbers that hold a column of the test, ascending
unfoldable pub words_of : (ℕ → Bool) → ℕ → List ℕ
words_of p n = below (hit p n) (ceil64 n)
