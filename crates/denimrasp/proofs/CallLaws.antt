-- Laws of a call with a result whose checks have been run. Assumes nothing.
use mathlib.Core.Path.{◌≡◌}
use Rattle.hybit_core.specs.Answer.{Told, Answer, accepted, refused, gives, refuses, answers}

pub refuses_by : {A : Type 0} (a : Answer) (t : Told) (y : A) → refused t ≡ a → refuses t ≡ answers a y
refuses_by a t y h = rw (← h)

pub gives_by : {A : Type 0} (a : Answer) (y : A) → accepted ≡ a → gives y ≡ answers a y
gives_by a y h = rw (← h)
