-- `metadata_first_build::pack_row` meets its contract. Assumes nothing.
use Rattle.metadata_first_build.proofs.PlaceLaws.{row_rule_lem, row_ranks}
use Rattle.metadata_first_build.proofs.pack_row.Goals as goal

pub invariant_of-checked : goal.invariant_of-checked
invariant_of-checked c = record { few = c.args.entries.few; rule = row_rule_lem _ _ _ _ c.requires.words c.args.entries.few }

pub add_entries-requires : goal.add_entries-requires
add_entries-requires c = record { ranks = row_ranks _ _ _ _ c.requires.words c.args.entries.few _ _ c.place_words.ensures; zeros = c.requires.zeros }
