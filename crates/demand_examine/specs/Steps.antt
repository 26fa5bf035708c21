-- Of a route that makes one call after another: an answer after others, and the lists that a build leaves.
use Rattle.std.specs.Prelude.{ℕ, List, ◌≡◌, Float}
use Rattle.hybit_core.specs.Answer.{Answer, accepted, refused, Given, refuses}
use Rattle.hybit_core.specs.Floats.{zero64}
use Rattle.lent.specs.Lent.{built}
use Rattle.csr32.specs.Csr.{Csr}
use Rattle.csr32.specs.Made.{CsrRoom}

-- a call that is made where the calls before it accept
abbrev pub after : {A : Type 0} → Answer → Given A → Given A
after accepted g = g
after (refused t) g = refuses t

-- the three lists of a plot list after a build that answered t
pub record PlotLists (t : Answer) (m : Csr) (room : CsrRoom) (p c : List ℕ) (v : List Float) : Type 0 where
  pub pointers : p ≡ built 0 room.ptr t m.ptr
  pub columns : c ≡ built 0 room.col t m.col
  pub values : v ≡ built zero64 room.val t m.val
