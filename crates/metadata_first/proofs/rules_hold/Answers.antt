-- `metadata_first::rules_hold` meets its contract. Assumes nothing.
use mathlib.Core.Path.{sym, ap}
use Rattle.hybit_core.proofs.BoolLaws.{flag_on, flag_off, and_first, and-next}
use Rattle.metadata_first.specs.Store.{store_rules}
use mathlib.Core.Bool.{not}
use Rattle.metadata_first.proofs.rules_hold.Goals as goal

pub returns-then-not-pointers_hold : goal.returns-then-not-pointers_hold
unfolding store_rules
returns-then-not-pointers_hold c = and_first _ _ (and_first _ _ (flag_off _ _ c.pointers_hold.ensures (ap not c.if-not-pointers_hold.true)))

pub counts_hold-requires : goal.counts_hold-requires
counts_hold-requires c = record { words = c.requires; pointers = sym (flag_on _ _ c.pointers_hold.ensures (ap not c.if-not-pointers_hold.false)) }

pub returns-then-not-counts_hold : goal.returns-then-not-counts_hold
unfolding store_rules
returns-then-not-counts_hold c = and_first _ _ (and-next _ _ _ (flag_on _ _ c.pointers_hold.ensures (ap not c.if-not-pointers_hold.false)) (flag_off _ _ c.counts_hold.ensures (ap not c.if-not-counts_hold.true)))

pub returns : goal.returns
unfolding store_rules
returns c = and-next _ _ _ (and-next _ _ _ (flag_on _ _ c.pointers_hold.ensures (ap not c.if-not-pointers_hold.false)) (flag_on _ _ c.counts_hold.ensures (ap not c.if-not-counts_hold.false))) c.all_finite.ensures
