-- The rank of a word at each return of the code that asks for it. Assumes nothing.
use mathlib.Core.Path.{◌≡◌, ap}
use Prim.Native.Nat.{ℕ, ◌≤◌, ◌<◌}
use borrow.Author.Tests.{le-leb, lt-leb}
use Rattle.hybit_core.specs.Answer.{plain, gives, refuses}
use Rattle.word.specs.Bits.{has, count}
use Rattle.word.specs.Word.{rank_answer}

pub rank_refused : (w i : ℕ) → 64 < i → refuses (plain 7) ≡ rank_answer w i
unfolding rank_answer
rank_refused w i h = rw (lt-leb i 64 h)

pub rank-counted : (w i r : ℕ) → i ≤ 64 → r ≡ count (has w) i → gives r ≡ rank_answer w i
unfolding rank_answer
rank-counted w i r h e = rw (le-leb i 64 h) (ap gives e)
