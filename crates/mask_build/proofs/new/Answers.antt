-- `mask_build::new` meets its contract. Assumes nothing.
use Rattle.mask_build.proofs.BuildLaws.{new_list}
use Rattle.mask_build.proofs.new.Goals as goal

pub returns : goal.returns
returns c = record { answer = c.examine_new-v.ensures; list = new_list _ _ _ c.clear_from.ensures }
