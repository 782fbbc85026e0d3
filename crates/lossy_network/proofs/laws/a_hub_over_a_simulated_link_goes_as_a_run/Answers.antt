use Rattle.std.proofs.Common.{[]}
use Rattle.world_model.specs.World.{start}
use Rattle.lossy_network.specs.Network.{new_network}
use Rattle.lossy_network.specs.HubSteps.{new_hub_and_link}
use Rattle.lossy_network.proofs.Reached.{steps_there}
use Rattle.lossy_network.proofs.laws.a_hub_over_a_simulated_link_goes_as_a_run.Goals as goal

pub returns : goal.returns
returns c = λ window rounds board fates fail steps after begins are done.
    let begin = start window rounds board [] in
    let events = c.each_event_leads_to_a_state_of_a_run.ensures in
    steps_there begin (record {
      offered = events.offered begin;
      one_sent = events.sent begin;
      some_heard = events.heard begin;
      handed = events.handed begin;
      quiet = events.quiet begin;
      out = events.handed_out begin;
    }) steps (new_hub_and_link window rounds (new_network board fates fail)) after are
    (events.begins window rounds board [] begins) done
