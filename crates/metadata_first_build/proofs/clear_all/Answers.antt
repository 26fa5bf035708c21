-- `metadata_first_build::clear_all` meets its contract. Assumes nothing.
use Rattle.metadata_first_build.proofs.clear_all.Goals as goal

pub returns : goal.returns
returns c = record { pointers = c.clear_past.ensures.pointers; numbers = c.clear_past.ensures.numbers; bits = c.clear_past.ensures.bits; starts = c.clear_from.ensures; values = c.clear_from-2.ensures }
