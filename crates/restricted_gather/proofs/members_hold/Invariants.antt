use Rattle.restricted_gather.proofs.MemberLaws.{Climbing}
use Rattle.restricted_gather.proofs.members_hold.Given as goal

abbrev pub invariant-loop-member : goal.invariant-loop-member
invariant-loop-member l = Climbing l.region.global_size l.region.members.now l.least l.member-index
