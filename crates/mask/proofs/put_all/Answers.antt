-- `mask::put_all` meets its contract. Assumes nothing.
use native.Mathlib.Omega.{arith}
use Rattle.mask.proofs.CallLaws.{listing_none, listing-room, listing_more, listing_done}
use Rattle.mask.proofs.put_all.Goals as goal

pub loop-k-init : goal.loop-k-init
loop-k-init c = listing_none _ _

pub put_members-at-requires : goal.put_members-at-requires
put_members-at-requires c = (omega arith, listing-room _ _ _ _ _ c.loop-k.invariant (omega arith) c.requires.1)

pub loop-k-preserved : goal.loop-k-preserved
loop-k-preserved c = listing_more _ _ _ _ _ c.loop-k.invariant _ _ (omega arith) c.put_members-at.auto.out c.put_members-at.ensures

pub returns : goal.returns
returns c = listing_done _ _ _ _ _ c.loop-k.invariant (omega arith)
