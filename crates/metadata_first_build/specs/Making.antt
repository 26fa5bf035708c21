-- A row in the making: where the values of its words start, and what the private functions require and ensure.
use Rattle.std.specs.Prelude.{ℕ, ◌≤◌, ◌<◌, Bool, true, false, List, ◌≡◌, length, Float}
use Rattle.hybit_core.specs.Answer.{Answer, Told, accepted, refused, plain}
use Rattle.hybit_core.specs.Floats.{zero64}
use Rattle.lent.specs.Lent.{padded}
use Rattle.csr32.specs.Csr.{Csr}
use Rattle.metadata_first_merge.specs.Merge.{merged_finite}
use Rattle.metadata_first_build.specs.Pack.{store_of}

-- the values of a plot list in two lists of nv and nx places, as r says: the lists hold them, and all are finite; then they are
-- written there, with zeros past them
pub record Valued (m : Csr) (nv nx : ℕ) (r : Bool) (vptr : List ℕ) (vals : List Float) : Type 0 where
  pub held : r ≡ true → (m.rows < nv) × (length (store_of m).vals ≤ nx) × (merged_finite m ≡ true)
  pub written : r ≡ true → (vptr ≡ padded 0 nv (store_of m).vptr) × (vals ≡ padded zero64 nx (store_of m).vals)
  pub not_held : r ≡ false → m.rows < nv → length (store_of m).vals ≤ nx → merged_finite m ≡ true → ⊥

-- the refusal of a build that is refused: that of the checks, or else 13
abbrev pub last_refusal : Answer → Told
last_refusal accepted = plain 13
last_refusal (refused t) = t
