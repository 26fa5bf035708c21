-- A lent mask.
use Rattle.mask.specs.declared.dof.DofMask.{DofMask}
use Rattle.mask.specs.Mask.{Mask, as_mask}

abbrev pub lent_mask : DofMask → Mask
lent_mask a = as_mask a.len a.words.now
