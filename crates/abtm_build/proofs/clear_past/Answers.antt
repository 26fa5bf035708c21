-- `abtm_build::clear_past` meets its contract. Assumes nothing.
use Rattle.abtm_build.proofs.clear_past.Goals as goal

pub returns : goal.returns
returns c = record { pointers = c.clear_from.ensures; bits = c.clear_from-2.ensures; offsets = c.clear_from-3.ensures; metas = c.clear_from-4.ensures; values = c.clear_from-5.ensures }
