-- `topology_rows::contains_in` meets its contract. Assumes nothing.
use mathlib.Core.Path.{refl}
use Rattle.topology.proofs.ScanLaws.{member-found, member_more, member-none}
use borrow.Author.Rules.{rules}
use Rattle.topology_rows.proofs.contains_in.Goals as goal

pub returns-then-words-i : goal.returns-then-words-i
returns-then-words-i c = member-found _ _ _ _ c.loop-i.invariant c.args.row.paired (search rules) _ refl c.if-words-i.true _ c.contains_offset.ensures

pub loop-i-preserved : goal.loop-i-preserved
loop-i-preserved c = member_more _ _ _ _ c.loop-i.invariant c.args.row.paired (search rules) _ refl c.if-words-i.false

pub returns : goal.returns
returns c = search (member-none, rules)
