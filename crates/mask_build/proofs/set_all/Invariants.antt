use Rattle.mask_build.proofs.BuildLaws.{Setting}
use Rattle.mask_build.proofs.set_all.Given as goal

abbrev pub invariant-loop-index : goal.invariant-loop-index
invariant-loop-index l = Setting l.len l.indices l.initial.words l.index-index l.words
