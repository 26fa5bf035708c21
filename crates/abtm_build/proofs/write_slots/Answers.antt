-- `abtm_build::write_slots` meets its contract. Assumes nothing.
use mathlib.Core.Path.{ap}
use Rattle.abtm.specs.Calls.{kind_number}
use native.Mathlib.Omega.{arith}
use Rattle.abtm_build.proofs.WordLaws.{compact_kind, dense_length, compact_length, slots_dense, slots_compact}
use Rattle.abtm_build.proofs.write_slots.Goals as goal

pub write_dense-requires : goal.write_dense-requires
write_dense-requires c = omega (arith, dense_length _ c.args.mask (ap kind_number c.in-Dense.is), c.requires.room)

pub write_present-requires : goal.write_present-requires
write_present-requires c = omega (arith, compact_length (kind_number c.args.kind) c.args.mask (compact_kind _ c.in-Sparse.is), c.requires.room)

pub returns-in-Dense : goal.returns-in-Dense
returns-in-Dense c = slots_dense _ _ c.args.sums.list.now _ _ _ (ap kind_number c.in-Dense.is) c.requires.mask c.write_dense.ensures

pub returns-in-Sparse : goal.returns-in-Sparse
returns-in-Sparse c = slots_compact _ _ c.args.sums.list.now _ _ _ (compact_kind _ c.in-Sparse.is) c.write_present.ensures
