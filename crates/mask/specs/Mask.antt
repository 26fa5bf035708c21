-- A mask: a length and its words (document 01, "Mask"). Its membership, the words of a membership, and its rules.
use Rattle.std.specs.Prelude.{ℕ, ◌*◌, ◌/◌, ◌%◌, Bool, true, ◌&&◌, List, eqb, ltb, length, get_or}
use Rattle.hybit_core.specs.Answer.{Answer, demand, ◌and_then◌}
use Rattle.hybit_core.specs.Domain.{few}
use Rattle.lent.specs.Lists.{each}
use Rattle.word.specs.Bits.{has, between, mask_of, ceil64}

pub record Mask : Type 0 where
  pub size : ℕ
  pub bits : List ℕ

-- a length and a lent list of words, as a mask
abbrev pub as_mask : ℕ → List ℕ → Mask
as_mask n ws = record { size = n; bits = ws }

-- bit c of a list of words
unfoldable pub bit_at : List ℕ → ℕ → Bool
bit_at ws c = has (get_or ws (c / 64) 0) (c % 64)

-- c is a member, an active plot of document 01; false past the length
unfoldable pub active : Mask → ℕ → Bool
active a c = ltb c a.size && bit_at a.bits c

-- the words of a membership over n columns
unfoldable pub mask_words : (ℕ → Bool) → ℕ → List ℕ
mask_words p n = each (mask_of p n) (ceil64 n)

-- every one of n columns active
abbrev pub all_active : ℕ → Mask
all_active n = as_mask n (mask_words (λ c. true) n)

-- 5 finds nothing: ceil(length / 64) words, and no bit set at or past the length
unfoldable pub mask_rules : Mask → Bool
mask_rules a = eqb (length a.bits) (ceil64 a.size) && eqb (length (between (bit_at a.bits) a.size (64 * length a.bits))) 0

-- the checks of a mask: 1, 5
unfoldable pub mask_answer : Mask → Answer
mask_answer a = demand (few a.size) 1 and_then demand (mask_rules a) 5
