use Rattle.std.proofs.Common.{ap, ◌∙◌, ℕ, List, length}
use Rattle.world_model.specs.Places.{at_place}
use Rattle.reliable_engine.proofs.FirstSends.{first_sends_of_run, packets_at, packets_count}
use Rattle.reliable_engine.proofs.laws.machine_runs.first_sends_are_the_packets_of_places.Goals as goal

pub returns-clause-packets : goal.returns-clause-packets
returns-clause-packets c = λ first window rounds events traffic end fates fresh is.
    first_sends_of_run c.packets_are_read_back.ensures first window rounds events traffic end fates fresh is

pub returns-clause-each : goal.returns-clause-each
returns-clause-each c = λ first window rounds events traffic end fates place offered fresh is there.
    ap (λ (xs : List (List ℕ)). at_place xs place)
    (first_sends_of_run c.packets_are_read_back.ensures first window rounds events traffic end fates fresh is)
    ∙ packets_at first end.sent place offered there

pub returns-clause-count : goal.returns-clause-count
returns-clause-count c = λ first window rounds events traffic end fates fresh is.
    ap (λ (xs : List (List ℕ)). length xs)
    (first_sends_of_run c.packets_are_read_back.ensures first window rounds events traffic end fates fresh is)
    ∙ packets_count first 1 end.sent
