-- `metadata_first_build::place_words` meets its contract. Assumes nothing.
use mathlib.Core.Path.{refl}
use native.Mathlib.Omega.{arith}
use Rattle.metadata_first_build.proofs.PlaceLaws.{placing_none, placing_word, placing_fits, placing_more, placing_done, word_read, words_read}
use borrow.Author.Rules.{rules}
use Rattle.metadata_first_build.proofs.place_words.Goals as goal

pub loop-i-init : goal.loop-i-init
loop-i-init c = placing_none _ _ _ _

pub offset_bounds-bits-index : goal.offset_bounds-bits-index
offset_bounds-bits-index c = let x = word_read _ _ _ c.args.checked.row.paired c.args.checked.rule c.args.checked.row.masks_fit c.loop-i.i _ (omega arith) refl in
    let h = placing_word _ _ _ _ _ _ _ _ c.loop-i.invariant _ _ x _ c.requires.0 in
    search rules

pub bounds-bits-index : goal.bounds-bits-index
bounds-bits-index c = let x = word_read _ _ _ c.args.checked.row.paired c.args.checked.rule c.args.checked.row.masks_fit c.loop-i.i _ (omega arith) refl in
    omega (arith, placing_word _ _ _ _ _ _ _ _ c.loop-i.invariant _ _ x _ c.requires.0, c.loop-i.invariant.same_bits)

pub offset_bounds-starts-index : goal.offset_bounds-starts-index
offset_bounds-starts-index c = let x = word_read _ _ _ c.args.checked.row.paired c.args.checked.rule c.args.checked.row.masks_fit c.loop-i.i _ (omega arith) refl in
    let h = placing_word _ _ _ _ _ _ _ _ c.loop-i.invariant _ _ x _ c.requires.1 in
    search rules

pub bounds-starts-index : goal.bounds-starts-index
bounds-starts-index c = let x = word_read _ _ _ c.args.checked.row.paired c.args.checked.rule c.args.checked.row.masks_fit c.loop-i.i _ (omega arith) refl in
    omega (arith, placing_word _ _ _ _ _ _ _ _ c.loop-i.invariant _ _ x _ c.requires.1, c.loop-i.invariant.same_starts)

pub overflow_add-place : goal.overflow_add-place
overflow_add-place c = let x = word_read _ _ _ c.args.checked.row.paired c.args.checked.rule c.args.checked.row.masks_fit c.loop-i.i _ (omega arith) refl in
    omega (arith, placing_fits _ _ _ _ _ _ _ _ c.loop-i.invariant _ _ x, c.popcount-place.ensures, c.args.checked.few)

pub loop-i-preserved : goal.loop-i-preserved
loop-i-preserved c = let x = word_read _ _ _ c.args.checked.row.paired c.args.checked.rule c.args.checked.row.masks_fit c.loop-i.i _ (omega arith) refl in
    rw c.popcount-place.ensures (placing_more _ _ _ _ _ _ _ _ c.loop-i.invariant _ _ x _ c.args.checked.few c.narrow.ensures c.requires.0 c.requires.1)

pub shape_of-bits : goal.shape_of-bits
shape_of-bits c = c.loop-i.invariant.same_bits

pub shape_of-starts : goal.shape_of-starts
shape_of-starts c = c.loop-i.invariant.same_starts

pub returns : goal.returns
returns c = placing_done _ _ _ _ _ _ _ _ c.loop-i.invariant (words_read _ _ _ c.args.checked.row.paired c.args.checked.rule c.args.checked.row.masks_fit _ (search rules)) c.requires.0 c.requires.1
