-- Where the members of each word of a bitmap start, so that a member's rank is read and not counted.
use Rattle.std.specs.Prelude.{ℕ, ◌+◌, ◌/◌, ◌%◌, ◌≤◌, ◌<◌, Bool, true, List, ◌≡◌, length, get_or}
use Rattle.word.specs.Bits.{has, count, ceil64}

-- the rank of each column of the test over n columns can be read: the place of its word's first value, and the ones of its
-- word's mask below it
pub record Ranks (p : ℕ → Bool) (n : ℕ) (bits starts : List ℕ) : Type 0 where
  pub bits_room : ceil64 n ≤ length bits
  pub starts_room : ceil64 n ≤ length starts
  pub rank_is : (c : ℕ) → c < n → p c ≡ true → get_or starts (c / 64) 0 + count (has (get_or bits (c / 64) 0)) (c % 64) ≡ count p c
