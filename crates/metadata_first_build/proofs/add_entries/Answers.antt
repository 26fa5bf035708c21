-- `metadata_first_build::add_entries` meets its contract. Assumes nothing.
use mathlib.Core.Path.{refl}
use native.Mathlib.Omega.{arith}
use Rattle.metadata_first_build.proofs.AddLaws.{adding_none, adding_same, adding_done, adding_bits, adding_starts, adding_fits, adding_place, adding_more}
use borrow.Author.Rules.{rules}
use Rattle.metadata_first_build.proofs.add_entries.Goals as goal

pub loop-k-init : goal.loop-k-init
loop-k-init c = adding_none _ _ _ _ c.requires.zeros

pub offset_bounds-starts-index : goal.offset_bounds-starts-index
offset_bounds-starts-index c = let h = adding_starts _ _ _ _ _ c.loop-k.invariant _ _ c.requires.ranks c.args.entries.paired c.args.entries.inside (omega arith) _ refl in
    search rules

pub bounds-starts-index : goal.bounds-starts-index
bounds-starts-index c = adding_starts _ _ _ _ _ c.loop-k.invariant _ _ c.requires.ranks c.args.entries.paired c.args.entries.inside (omega arith) _ refl

pub offset_bounds-bits-index : goal.offset_bounds-bits-index
offset_bounds-bits-index c = let h = adding_bits _ _ _ _ _ c.loop-k.invariant _ _ c.requires.ranks c.args.entries.paired c.args.entries.inside (omega arith) _ refl in
    search rules

pub bounds-bits-index : goal.bounds-bits-index
bounds-bits-index c = adding_bits _ _ _ _ _ c.loop-k.invariant _ _ c.requires.ranks c.args.entries.paired c.args.entries.inside (omega arith) _ refl

pub overflow_add-place : goal.overflow_add-place
overflow_add-place c = omega (arith, adding_fits _ _ _ _ _ c.loop-k.invariant _ _ c.requires.ranks c.args.entries.paired c.args.entries.inside (omega arith) _ refl _ _ refl c.ones_below.ensures, c.args.entries.few)

pub offset_bounds-out-place : goal.offset_bounds-out-place
offset_bounds-out-place c = let h = adding_fits _ _ _ _ _ c.loop-k.invariant _ _ c.requires.ranks c.args.entries.paired c.args.entries.inside (omega arith) _ refl _ _ refl c.ones_below.ensures in
    let k = c.args.entries.few in
    search rules

pub bounds-out-place : goal.bounds-out-place
bounds-out-place c = adding_place _ _ _ _ _ c.loop-k.invariant _ _ c.requires.ranks c.args.entries.paired c.args.entries.inside (omega arith) _ refl _ _ refl c.ones_below.ensures

pub offset_bounds-out-place-in-loop-k : goal.offset_bounds-out-place-in-loop-k
offset_bounds-out-place-in-loop-k c = let h = adding_fits _ _ _ _ _ c.loop-k.invariant _ _ c.requires.ranks c.args.entries.paired c.args.entries.inside (omega arith) _ refl _ _ refl c.ones_below.ensures in
    let k = c.args.entries.few in
    search rules

pub bounds-out-place-in-loop-k : goal.bounds-out-place-in-loop-k
bounds-out-place-in-loop-k c = adding_place _ _ _ _ _ c.loop-k.invariant _ _ c.requires.ranks c.args.entries.paired c.args.entries.inside (omega arith) _ refl _ _ refl c.ones_below.ensures

pub loop-k-preserved : goal.loop-k-preserved
loop-k-preserved c = adding_more _ _ _ _ _ c.loop-k.invariant _ _ c.requires.ranks c.args.entries.paired c.args.entries.inside (omega arith) _ refl _ _ refl c.ones_below.ensures

pub shape_of-out : goal.shape_of-out
shape_of-out c = adding_same _ _ _ _ _ c.loop-k.invariant _ c.requires.zeros

pub returns : goal.returns
returns c = adding_done _ _ _ _ _ c.loop-k.invariant (search rules) c.args.entries.paired
