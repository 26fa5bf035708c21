-- `restricted_abtm::place_in` meets its contract. Assumes nothing.
use mathlib.Core.Path.{sym, ◌∙◌}
use Rattle.restricted_abtm.proofs.BitsLaws.{place_dense, place_packed}
use Rattle.restricted_abtm.proofs.place_in.Goals as goal

pub returns-then-is_dense : goal.returns-then-is_dense
returns-then-is_dense c = place_dense _ _ _ (sym c.is_dense.ensures ∙ c.if-is_dense.true)

pub returns : goal.returns
returns c = place_packed _ _ _ _ (sym c.is_dense.ensures ∙ c.if-is_dense.false) c.ones_below.ensures
