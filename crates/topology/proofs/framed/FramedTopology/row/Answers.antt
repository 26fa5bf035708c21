-- `topology::FramedTopology::row` meets its contract. Assumes nothing.
use Rattle.std.proofs.Common.{List, ℕ, length, ap, ◌∙◌, rules}
use Rattle.lent.specs.Lists.{part}
use mathlib.Core.Path.{refl}
use native.Mathlib.Omega.{arith}
use Rattle.lent.proofs.ListLaws.{part_lent}
use Rattle.csr32.proofs.FrameLaws.{lists_frame, row_left, row_right, part_after}
use Rattle.topology.proofs.framed.FramedTopology.row.Goals as goal

pub returns-then-row-topology-clause-words : goal.returns-then-row-topology-clause-words
returns-then-row-topology-clause-words c = part_after _ _ _ _ _ (lists_frame _ _ _ _ c.args.self.framed) c.if-row-topology.true

pub returns-then-row-topology-clause-masks : goal.returns-then-row-topology-clause-masks
returns-then-row-topology-clause-masks c = part_after _ _ _ _ _ (lists_frame _ _ _ _ c.args.self.framed) c.if-row-topology.true

pub offset_bounds-topology-row : goal.offset_bounds-topology-row
offset_bounds-topology-row c = let h = (row_left _ _ _ _ c.args.self.framed _ c.if-row-topology.false).here in search rules

pub bounds-topology-row : goal.bounds-topology-row
bounds-topology-row c = (row_left _ _ _ _ c.args.self.framed _ c.if-row-topology.false).here

pub offset_bounds-topology-row-2 : goal.offset_bounds-topology-row-2
offset_bounds-topology-row-2 c = let h = (row_left _ _ _ _ c.args.self.framed _ c.if-row-topology.false).next in search rules

pub bounds-topology-row-2 : goal.bounds-topology-row-2
bounds-topology-row-2 c = (row_left _ _ _ _ c.args.self.framed _ c.if-row-topology.false).next

pub slice_bounds-words-count : goal.slice_bounds-words-count
slice_bounds-words-count c = (row_left _ _ _ _ c.args.self.framed _ c.if-row-topology.false).order

pub slice_bounds-words-start : goal.slice_bounds-words-start
slice_bounds-words-start c = (row_left _ _ _ _ c.args.self.framed _ c.if-row-topology.false).order

pub slice_bounds-words-end : goal.slice_bounds-words-end
slice_bounds-words-end c = (row_left _ _ _ _ c.args.self.framed _ c.if-row-topology.false).inside

pub slice_bounds-masks-count : goal.slice_bounds-masks-count
slice_bounds-masks-count c = (row_right _ _ _ _ c.args.self.framed _ c.if-row-topology.false).order

pub slice_bounds-masks-start : goal.slice_bounds-masks-start
slice_bounds-masks-start c = (row_right _ _ _ _ c.args.self.framed _ c.if-row-topology.false).order

pub slice_bounds-masks-end : goal.slice_bounds-masks-end
slice_bounds-masks-end c = omega (arith, (row_right _ _ _ _ c.args.self.framed _ c.if-row-topology.false).inside, ap length c.masks_of-all.ensures)

pub returns-clause-words : goal.returns-clause-words
returns-clause-words c = part_lent _ _ _ _ _ refl refl

pub returns-clause-masks : goal.returns-clause-masks
returns-clause-masks c =
    part_lent _ _ _ _ _ refl refl
    ∙ ap (λ (l : List ℕ). part c.args.self.topology.row_word_ptr.now l c.args.row) c.masks_of-all.ensures
