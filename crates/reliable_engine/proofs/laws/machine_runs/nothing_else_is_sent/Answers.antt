use Rattle.std.proofs.Common.{subst, List, ◌≤◌, arith}
use Rattle.std.specs.List.{AllByRecursion}
use Rattle.world_model.specs.Hub.{Hub, new_hub}
use Rattle.reliable_engine.specs.MachineRuns.{offers_in, traffic_of}
use Rattle.reliable_engine.specs.ToldFates.{StandsIn}
use Rattle.reliable_engine.specs.Traffic.{IfSent, Passed, SpellPacket, quiet_receives, status_requests_in}
use Rattle.reliable_engine.proofs.FirstSends.{AreSends, all_sends, all_spelled, requests_few}
use Rattle.reliable_engine.proofs.MachineRuns.{begins_at_work, sent_are_offered}
use Rattle.reliable_engine.proofs.laws.machine_runs.nothing_else_is_sent.Goals as goal

pub returns-clause-each : goal.returns-clause-each
returns-clause-each c = λ first window rounds events traffic end fates fresh is.
    subst (λ (xs : List Passed). AreSends first end.sent xs) is.traffic_is
    (subst (λ (x : Hub). AreSends first x.sent (traffic_of (new_hub first window rounds) events)) is.end_is
    (all_sends (new_hub first window rounds) events (begins_at_work first window rounds events fresh) fresh.sendable))

pub returns-clause-packets : goal.returns-clause-packets
returns-clause-packets c = λ first window rounds events traffic end fates fresh is.
    subst (λ (xs : List Passed). AllByRecursion (IfSent SpellPacket) xs) is.traffic_is
    (all_spelled c.packets_are_read_back.ensures (new_hub first window rounds) events
    (begins_at_work first window rounds events fresh) fresh.sendable)

pub returns-clause-offered : goal.returns-clause-offered
returns-clause-offered c = λ first window rounds events traffic end fates is.
    subst (λ (x : Hub). StandsIn x.sent (offers_in events)) is.end_is (sent_are_offered first window rounds events)

pub returns-clause-requests : goal.returns-clause-requests
returns-clause-requests c = λ first window rounds events traffic end fates fresh is.
    subst (λ (xs : List Passed). status_requests_in xs ≤ quiet_receives xs) is.traffic_is
    (omega (
      arith,
      requests_few c.packets_are_read_back.ensures (new_hub first window rounds) events
          (begins_at_work first window rounds events fresh) fresh.sendable,
    ))
