-- `topology_combine::next_word` meets its contract. Assumes nothing.
use native.Mathlib.Omega.{arith}
use Rattle.topology_combine.proofs.MergeLaws.{left_stands, right_stands, both_stand, step_left, step_right, step_both}
use borrow.Author.Rules.{rules}
use Rattle.topology_combine.proofs.next_word.Goals as goal

pub bounds-row-at : goal.bounds-row-at
bounds-row-at c = let h = left_stands c.args.rows.row.words.now c.args.rows.other.words.now c.args.at c.args.other_at c.head-left.result c.head-right.result c.head-left.ensures.number c.head-right.ensures.number c.head-left.ensures.below c.head-right.ensures.below (omega arith) in
    search rules

pub returns-then-left-right : goal.returns-then-left-right
returns-then-left-right c = step_left c.args.rows.row.words.now c.args.rows.other.words.now c.args.at c.args.other_at c.head-left.result c.head-right.result c.head-left.ensures.number c.head-right.ensures.number c.head-left.ensures.below c.head-right.ensures.below c.args.rows.operation c.args.rows.row.masks.now c.args.rows.other.masks.now c.combine.result (omega arith) c.combine.ensures

pub bounds-other-other_at : goal.bounds-other-other_at
bounds-other-other_at c = let h = right_stands c.args.rows.row.words.now c.args.rows.other.words.now c.args.at c.args.other_at c.head-left.result c.head-right.result c.head-left.ensures.number c.head-right.ensures.number c.head-left.ensures.below c.head-right.ensures.below (omega arith) in
    search rules

pub returns-then-right-left : goal.returns-then-right-left
returns-then-right-left c = step_right c.args.rows.row.words.now c.args.rows.other.words.now c.args.at c.args.other_at c.head-left.result c.head-right.result c.head-left.ensures.number c.head-right.ensures.number c.head-left.ensures.below c.head-right.ensures.below c.args.rows.operation c.args.rows.row.masks.now c.args.rows.other.masks.now c.combine-then-right-left.result (omega arith) c.combine-then-right-left.ensures

pub bounds-row-at-2 : goal.bounds-row-at-2
bounds-row-at-2 c = let h = both_stand c.args.rows.row.words.now c.args.rows.other.words.now c.args.at c.args.other_at c.head-left.result c.head-right.result c.head-left.ensures.number c.head-right.ensures.number c.head-left.ensures.below c.head-right.ensures.below (λ x. omega arith) (λ x. omega arith) (omega arith) in
    search rules

pub bounds-other-other_at-2 : goal.bounds-other-other_at-2
bounds-other-other_at-2 c = let h = both_stand c.args.rows.row.words.now c.args.rows.other.words.now c.args.at c.args.other_at c.head-left.result c.head-right.result c.head-left.ensures.number c.head-right.ensures.number c.head-left.ensures.below c.head-right.ensures.below (λ x. omega arith) (λ x. omega arith) (omega arith) in
    search rules

pub returns : goal.returns
returns c = step_both c.args.rows.row.words.now c.args.rows.other.words.now c.args.at c.args.other_at c.head-left.result c.head-right.result c.head-left.ensures.number c.head-right.ensures.number c.head-left.ensures.below c.head-right.ensures.below c.args.rows.operation c.args.rows.row.masks.now c.args.rows.other.masks.now c.combine-2.result (λ x. omega arith) (λ x. omega arith) (omega arith) c.combine-2.ensures
