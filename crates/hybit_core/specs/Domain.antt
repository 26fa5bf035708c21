-- The limits of document 01's domain.
use Rattle.std.specs.Prelude.{ℕ, ◌-◌, ◌^◌, min, Bool, ◌&&◌, nat_le}

-- rows, columns and mask lengths: up to 1,048,576
abbrev pub max_dimension : ℕ
max_dimension = 2 ^ 20

-- stored entries, words, tiles and blocks: up to 16,777,216
abbrev pub max_entries : ℕ
max_entries = 2 ^ 24

abbrev pub few : ℕ → Bool
few n = nat_le n max_dimension

abbrev pub many : ℕ → Bool
many n = nat_le n max_entries

-- 1 finds nothing in a record of so many rows and columns with two lists side by side of a and b places
unfoldable pub sizes_fit : ℕ → ℕ → ℕ → ℕ → Bool
sizes_fit rows cols a b = few rows && few cols && many a && many b

-- a sum or product of counts as 64 bits hold it: at most 2^64 − 1
abbrev pub saturated : ℕ → ℕ
saturated n = min n (2 ^ 64 - 1)
