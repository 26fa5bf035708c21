-- `abtm_build::build` meets its contract. Assumes nothing.
use native.Mathlib.Omega.{arith}
use Rattle.abtm_build.proofs.FillLaws.{start_sized, start_zeros}
use Rattle.abtm_build.proofs.build.Goals as goal

pub fill_rows-requires : goal.fill_rows-requires
fill_rows-requires c = record { sized = start_sized 32768 512 8 (omega arith) (omega arith) (omega arith) (omega arith); zeros = start_zeros 32768; pointers = c.requires.pointers; lists = c.requires.lists }
