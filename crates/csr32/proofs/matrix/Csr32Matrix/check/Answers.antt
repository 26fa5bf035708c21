-- `csr32::check` meets its contract. Assumes nothing.
use borrow.Author.Rules.{rules}
use Rattle.hybit_core.proofs.AnswerLaws.{checks}
use Rattle.hybit_core.proofs.BoolLaws.{tests}
use Rattle.csr32.specs.Csr.{csr_rules, csr_answer}
use Rattle.csr32.proofs.ScanLaws.{columns_few}
use mathlib.Core.Path.{ap}
use mathlib.Core.Bool.{not}
use Rattle.csr32.proofs.matrix.Csr32Matrix.check.Goals as goal

pub returns-then-not-sizes_fit : goal.returns-then-not-sizes_fit
unfolding csr_answer csr_rules
returns-then-not-sizes_fit c = search (checks, tests, rules)

pub returns-then-not-lists_hold : goal.returns-then-not-lists_hold
unfolding csr_answer csr_rules
returns-then-not-lists_hold c = search (checks, tests, rules)

pub columns_inside-requires : goal.columns_inside-requires
columns_inside-requires c = columns_few _ _ _ _ _ c.sizes_fit.ensures (ap not c.if-not-sizes_fit.false)

pub returns-then-not-columns_inside : goal.returns-then-not-columns_inside
unfolding csr_answer csr_rules
returns-then-not-columns_inside c = search (checks, tests, rules)

pub returns-then-not-all_finite : goal.returns-then-not-all_finite
unfolding csr_answer csr_rules
returns-then-not-all_finite c = search (checks, tests, rules)

pub returns : goal.returns
unfolding csr_answer csr_rules
returns c = search (checks, tests, rules)
