-- `metadata_first_build::pack` meets its contract. Assumes nothing.
use native.Mathlib.Omega.{arith}
use Rattle.levels.proofs.LevelLaws.{zeros_long}
use Rattle.metadata_first_build.proofs.RowsLaws.{places_in}
use Rattle.metadata_first_build.proofs.pack.Goals as goal

pub slice_bounds-pack_rows-end : goal.slice_bounds-pack_rows-end
slice_bounds-pack_rows-end c = zeros_long 16384 16384 (omega arith)

pub slice_bounds-pack_rows-end-2 : goal.slice_bounds-pack_rows-end-2
slice_bounds-pack_rows-end-2 c = zeros_long 16384 16384 (omega arith)

pub pack_rows-requires : goal.pack_rows-requires
pack_rows-requires c = let h = places_in _ c.args.source.csr.valid in record { room = (h, h); pointers = c.requires.pointers; zeros = c.requires.zeros }
