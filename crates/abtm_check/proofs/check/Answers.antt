-- `abtm_check::check` meets its contract. Assumes nothing.
use Rattle.hybit_core.proofs.AnswerLaws.{checks}
use Rattle.hybit_core.proofs.BoolLaws.{tests}
use Rattle.abtm.specs.Tiles.{tile_sizes, tiles_answer}
use Rattle.abtm_check.proofs.RuleLaws.{sizes_few}
use Rattle.std.proofs.Common.{rules}
use mathlib.Core.Path.{ap}
use mathlib.Core.Bool.{not}
use Rattle.abtm_check.proofs.check.Goals as goal

pub returns-then-not-sizes_fit : goal.returns-then-not-sizes_fit
unfolding tiles_answer tile_sizes
returns-then-not-sizes_fit c = search (checks, tests, rules)

pub returns-then-not-entries_fit : goal.returns-then-not-entries_fit
unfolding tiles_answer tile_sizes
returns-then-not-entries_fit c = search (checks, tests, rules)

pub rules_hold-requires : goal.rules_hold-requires
rules_hold-requires c = sizes_few _ _ _ _ _ c.sizes_fit.ensures (ap not c.if-not-sizes_fit.false)

pub returns-then-not-rules_hold : goal.returns-then-not-rules_hold
unfolding tiles_answer tile_sizes
returns-then-not-rules_hold c = search (checks, tests, rules)

pub returns : goal.returns
unfolding tiles_answer tile_sizes
returns c = search (checks, tests, rules)
