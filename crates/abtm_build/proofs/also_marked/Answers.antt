-- `abtm_build::also_marked` meets its contract. Assumes nothing.
use mathlib.Core.Path.{sym, ◌∙◌}
use Rattle.abtm_build.proofs.WordLaws.{marks_bit}
use Rattle.abtm_build.proofs.also_marked.Goals as goal

pub returns : goal.returns
returns c = marks_bit c.args.v c.args.mask _ _ (sym c.is_zero.ensures ∙ c.if-is_zero.false) c.with_bit.ensures
