use Rattle.restricted_abtm.proofs.KeptLaws.{Appending}
use Rattle.restricted_abtm.proofs.keep_row.Given as goal

abbrev pub invariant-loop-k : goal.invariant-loop-k
invariant-loop-k l = Appending l.listed.tiles.masks.now l.listed.tiles.value_offsets.now l.listed.tiles.metas.now l.listed.values.now l.listed.mask.now l.from l.room l.initial.out_col_idx l.initial.out_values l.k l.at l.out_col_idx l.out_values
