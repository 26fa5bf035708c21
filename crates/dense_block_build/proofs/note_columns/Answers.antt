-- `dense_block_build::note_columns` meets its contract. Assumes nothing.
use mathlib.Core.Path.{refl}
use Rattle.dense_block_build.proofs.NoteLaws.{noting_none, noting_bits, noting_starts, noting_old, noting_new, noted_bits, noted_ranks}
use borrow.Author.Rules.{rules}
use Rattle.dense_block_build.proofs.note_columns.Goals as goal
use Rattle.dense_block_build.proofs.note_columns.Goals.{then-seen-eq0, else-seen-eq0}

pub loop-k-init : goal.loop-k-init
loop-k-init c = noting_none _ _ _ _ c.requires.empty

pub bounds-bits-at : goal.bounds-bits-at
bounds-bits-at c = noting_bits _ _ _ c.requires.rising _ _ _ c.loop-k.invariant c.loop-k-test.true _ refl

pub bounds-bits-at-in-loop-k : goal.bounds-bits-at-in-loop-k
bounds-bits-at-in-loop-k c = noting_bits _ _ _ c.requires.rising _ _ _ c.loop-k.invariant c.loop-k-test.true _ refl

pub bounds-starts-at : goal.bounds-starts-at
bounds-starts-at c = noting_starts _ _ _ c.requires.rising _ _ _ c.loop-k.invariant c.loop-k-test.true _ refl c.requires.room

pub loop-k-preserved : goal.loop-k-preserved
loop-k-preserved c =
    elim c.if-seen-eq0.branch [
      | then-seen-eq0 w ↦ rw w.starts-is (noting_new _ _ _ c.requires.rising _ _ _ c.loop-k.invariant c.loop-k-test.true _ refl _ c.with_bit.ensures _ c.requires.few c.requires.room w.if-seen-eq0.true w.narrow.ensures)
      | else-seen-eq0 w ↦ rw w.starts-is (noting_old _ _ _ c.requires.rising _ _ _ c.loop-k.invariant c.loop-k-test.true _ refl _ c.with_bit.ensures w.if-seen-eq0.false)
    ]

pub returns : goal.returns
returns c = record { bits = noted_bits _ _ _ c.requires.rising _ _ _ c.loop-k.invariant (search rules); ranks = noted_ranks _ _ _ c.requires.rising _ _ _ c.loop-k.invariant (search rules) c.requires.room }
