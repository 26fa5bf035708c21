-- `restricted_gather::RegionMembers::gather_input` meets its contract. Assumes nothing.
use Rattle.hybit_core.proofs.AnswerLaws.{accepted_by}
use Rattle.restricted_gather.proofs.MemberLaws.{gather_inside, gather_long}
use Rattle.restricted_gather.proofs.RegionMembers.gather_input.Goals as goal

pub gather-requires : goal.gather-requires
gather-requires c = let ok = accepted_by _ _ c.examine_gather.ensures c.in_ok-examine_gather.was in
    (gather_inside _ _ _ _ ok, gather_long _ _ _ _ ok)
