-- What a lent list holds after a call ("Refusals and their carrier": builds, products, gathers and mask changes).
use Rattle.std.specs.Prelude.{ℕ, ◌+◌, ◌-◌, List, [], ◌++◌, ◌≡◌, length, take, replicate}
use Rattle.hybit_core.specs.Answer.{Answer, accepted, refused}

-- a result in a lent list of n places, and z (a zero) past it
unfoldable pub padded : {A : Type 0} → A → ℕ → List A → List A
padded z n l = l ++ replicate (n - length l) z

-- a build, in a lent list of n places: the result and zeros past it, or, where it is refused, zeros alone
abbrev pub built : {A : Type 0} → A → ℕ → Answer → List A → List A
built z n accepted l = padded z n l
built z n (refused t) l = padded z n []

-- a product, gather or mask change: the new contents, or, where it is refused, the list as it was
abbrev pub kept : {A : Type 0} → Answer → List A → List A → List A
kept accepted new old = new
kept (refused t) new old = old

-- the used part of what a build left in a lent list of n places: what a later call is handed
abbrev pub handed : {A : Type 0} → A → ℕ → Answer → ℕ → List A → List A
handed z n a used l = take used (built z n a l)

-- new is written from place `from` on: the next place, and what then stands before it
pub record Appended {A : Type 0} (new : List A) (from to : ℕ) (old out : List A) : Type 0 where
  pub next : to ≡ from + length new
  pub list : take to out ≡ take from old ++ new
