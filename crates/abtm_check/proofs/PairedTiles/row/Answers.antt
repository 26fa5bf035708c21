-- `abtm_check::PairedTiles::row` meets its contract. Assumes nothing.
use Rattle.std.proofs.Common.{refl, arith, rules}
use Rattle.lent.proofs.ListLaws.{part_lent}
use Rattle.csr32.proofs.FrameLaws.{framed_facts, row_in}
use Rattle.abtm_check.proofs.PairedTiles.row.Goals as goal

pub offset_bounds-self-row : goal.offset_bounds-self-row
offset_bounds-self-row c = let h = (row_in _ _ _ _ (framed_facts _ _ _ c.args.self.rows_framed) c.requires).here in search rules

pub bounds-self-row : goal.bounds-self-row
bounds-self-row c = (row_in _ _ _ _ (framed_facts _ _ _ c.args.self.rows_framed) c.requires).here

pub offset_bounds-self-row-2 : goal.offset_bounds-self-row-2
offset_bounds-self-row-2 c = let h = (row_in _ _ _ _ (framed_facts _ _ _ c.args.self.rows_framed) c.requires).next in search rules

pub bounds-self-row-2 : goal.bounds-self-row-2
bounds-self-row-2 c = (row_in _ _ _ _ (framed_facts _ _ _ c.args.self.rows_framed) c.requires).next

pub slice_bounds-masks-count : goal.slice_bounds-masks-count
slice_bounds-masks-count c = (row_in _ _ _ _ (framed_facts _ _ _ c.args.self.rows_framed) c.requires).order

pub slice_bounds-masks-start : goal.slice_bounds-masks-start
slice_bounds-masks-start c = (row_in _ _ _ _ (framed_facts _ _ _ c.args.self.rows_framed) c.requires).order

pub slice_bounds-masks-end : goal.slice_bounds-masks-end
slice_bounds-masks-end c = (row_in _ _ _ _ (framed_facts _ _ _ c.args.self.rows_framed) c.requires).inside

pub slice_bounds-value_offsets-count : goal.slice_bounds-value_offsets-count
slice_bounds-value_offsets-count c = (row_in _ _ _ _ (framed_facts _ _ _ c.args.self.rows_framed) c.requires).order

pub slice_bounds-value_offsets-start : goal.slice_bounds-value_offsets-start
slice_bounds-value_offsets-start c = (row_in _ _ _ _ (framed_facts _ _ _ c.args.self.rows_framed) c.requires).order

pub slice_bounds-value_offsets-end : goal.slice_bounds-value_offsets-end
slice_bounds-value_offsets-end c = omega (arith, (row_in _ _ _ _ (framed_facts _ _ _ c.args.self.rows_framed) c.requires).inside, c.args.self.offsets_paired)

pub slice_bounds-metas-count : goal.slice_bounds-metas-count
slice_bounds-metas-count c = (row_in _ _ _ _ (framed_facts _ _ _ c.args.self.rows_framed) c.requires).order

pub slice_bounds-metas-start : goal.slice_bounds-metas-start
slice_bounds-metas-start c = (row_in _ _ _ _ (framed_facts _ _ _ c.args.self.rows_framed) c.requires).order

pub slice_bounds-metas-end : goal.slice_bounds-metas-end
slice_bounds-metas-end c = omega (arith, (row_in _ _ _ _ (framed_facts _ _ _ c.args.self.rows_framed) c.requires).inside, c.args.self.metas_paired)

pub returns-clause-masks : goal.returns-clause-masks
returns-clause-masks c = part_lent _ _ _ _ _ refl refl

pub returns-clause-metas : goal.returns-clause-metas
returns-clause-metas c = part_lent _ _ _ _ _ refl refl
