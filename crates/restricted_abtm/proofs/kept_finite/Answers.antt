-- `restricted_abtm::kept_finite` meets its contract. Assumes nothing.
use mathlib.Core.Path.{sym, ◌∙◌}
use Rattle.restricted_abtm.proofs.ReadyLaws.{all-finite}
use Rattle.restricted_abtm.proofs.kept_finite.Goals as goal

pub returns-then-all_finite : goal.returns-then-all_finite
returns-then-all_finite c = sym (all-finite _ _ _ _ (sym c.all_finite.ensures ∙ c.if-all_finite.true) c.args.listed.ready)
