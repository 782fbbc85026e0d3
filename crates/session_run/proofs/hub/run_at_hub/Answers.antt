use denote.Param.Send.{sendable}
use Rattle.std.proofs.Common.{◌≡◌, ◌+◌, ℕ, Vec, arith, inl, inr, length, map, subst, sym}
use Rattle.std.proofs.lemmas.Grind.{common_steps}
use Rattle.std.specs.List.{AllByRecursion}
use Rattle.std.proofs.lemmas.Result.{IfOk-weaker}
use Rattle.turn_pass.specs.Pass.{first_knowledge}
use Rattle.hub_multiplexer.specs.Ends.{HasTakenIn}
use Rattle.hub_multiplexer.specs.Lanes.{shown_record}
use Rattle.hub_multiplexer.proofs.Shares.{lane_send}
use Rattle.client_threads.specs.Clients.{AreOfClientsFrom, AreResultsFor, AwaitClients, HaveRun, IsPlanFor}
use Rattle.client_threads.specs.declared.result.ClientResult.{ClientResult}
use Rattle.session_run.specs.Hubs.{RanAtHub}
use Rattle.session_run.specs.Parts.{HasLanes}
use Rattle.session_run.proofs.HubRuns.{all_await, each_awaits, results_lanes, results_long}
use Rattle.session_run.proofs.hub.run_at_hub.Goals as goal

pub finish-requires-clause-joined : goal.finish-requires-clause-joined
finish-requires-clause-joined g c κs within =
    let none = c.in-Ok.ensures.no_seats in
    c.run_clients-results.ensures.all_joined
    (subst (λ (n : ℕ). HasTakenIn (n + 1) c.in-Ok.master) (sym none.0) none.1)

pub run_clients-results-requires-clause-clients : goal.run_clients-results-requires-clause-clients
run_clients-results-requires-clause-clients g c κs within =
    subst (λ (n : ℕ). AreOfClientsFrom (n + 1) c.args.clients.now) (sym c.in-Ok.ensures.no_seats.0) c.requires.clients

pub run_clients-results-requires-clause-few : goal.run_clients-results-requires-clause-few
run_clients-results-requires-clause-few g c κs within =
    let none = c.in-Ok.ensures.no_seats.0 in let few = c.requires.few in omega (arith, none, few)

pub run_clients-results-requires-clause-plans : goal.run_clients-results-requires-clause-plans
run_clients-results-requires-clause-plans g c κs within =
    subst (λ (n : ℕ). AllByRecursion (IsPlanFor n) c.args.clients.now) (sym c.in-Ok.ensures.boards) c.requires.for_hub

pub run_clients-results-requires-clause-awaited : goal.run_clients-results-requires-clause-awaited
run_clients-results-requires-clause-awaited g c κs within =
    let lanes = c.args.lanes.items in
    let clients = c.args.clients.now in
    subst (AwaitClients clients) (sym c.in-Ok.ensures.master)
    (all_await clients (map first_knowledge (map (shown_record g.L.Link.telling) lanes))
    (each_awaits c.sealed_plans_await_their_clients.ensures g.L.Link.telling clients 0 lanes c.requires.clients
    c.requires.planned))

pub returns-in-Ok-clause-all : goal.returns-in-Ok-clause-all
returns-in-Ok-clause-all g c =
    let clients = c.args.clients.now in
    let lanes = length c.in-Ok.hub.turns in
    IfOk-weaker c.run_clients-results.result (λ (r : Vec ClientResult _). AreResultsFor lanes clients r.items)
    (λ (r : Vec ClientResult _). length r.items ≡ length clients)
    (λ r are. results_long lanes clients r.items are) c.run_clients-results.ensures.results

pub returns-in-Ok-clause-lanes : goal.returns-in-Ok-clause-lanes
returns-in-Ok-clause-lanes g c =
    let clients = c.args.clients.now in
    let lanes = length c.in-Ok.hub.turns in
    IfOk-weaker c.run_clients-results.result (λ (r : Vec ClientResult _). AreResultsFor lanes clients r.items)
    (λ (r : Vec ClientResult _). AllByRecursion (HasLanes (length c.args.lanes.items)) r.items)
    (λ r are. subst (λ (n : ℕ). AllByRecursion (HasLanes n) r.items) c.in-Ok.ensures.boards
    (results_lanes lanes clients r.items are)) c.run_clients-results.ensures.results

pub returns-in-Ok-clause-back : goal.returns-in-Ok-clause-back
returns-in-Ok-clause-back g c = inr (record {
  hub = record {
    before = c.in-Ok.master;
    after = c.run_clients-results.new.master;
    opened = c.in-Ok.ensures.master;
    ended = c.finish.ensures;
  };
  taken_in = c.run_clients-results.ensures.taken_in;
})

pub returns-in-Ok-clause-ran : goal.returns-in-Ok-clause-ran
returns-in-Ok-clause-ran g c =
    let clients = c.args.clients.now in
    let after = c.run_clients-results.new.master in
    IfOk-weaker c.run_clients-results.result
    (λ (r : Vec ClientResult _). HaveRun clients r.items c.in-Ok.master after)
    (λ (r : Vec ClientResult _). RanAtHub g.L.Link.telling clients r.items c.args.lanes.items c.finish.result.items)
    (λ r ran. record {
      hub = record {
        before = c.in-Ok.master;
        after = after;
        opened = c.in-Ok.ensures.master;
        ended = c.finish.ensures;
      };
      ran = ran;
    }) c.run_clients-results.ensures.ran

pub returns-in-Err-clause-back : goal.returns-in-Err-clause-back
returns-in-Err-clause-back g c = inl c.in-Err.ensures.returned

pub run_clients-results-requires-clause-hub : goal.run_clients-results-requires-clause-hub
run_clients-results-requires-clause-hub g c = grind (arith, common_steps)

pub finish-requires-clause-hub : goal.finish-requires-clause-hub
finish-requires-clause-hub g c = grind (arith, common_steps)

pub returns-in-Err-clause-all : goal.returns-in-Err-clause-all
returns-in-Err-clause-all g c = grind (arith, common_steps)

pub returns-in-Err-clause-lanes : goal.returns-in-Err-clause-lanes
returns-in-Err-clause-lanes g c = grind (arith, common_steps)

pub returns-in-Err-clause-ran : goal.returns-in-Err-clause-ran
returns-in-Err-clause-ran g c = grind (arith, common_steps)

pub new-requires-send-V : goal.new-requires-send-V
new-requires-send-V g c κs within = search (lane_send, sendable)

pub finish-requires-send-V : goal.finish-requires-send-V
finish-requires-send-V g c κs within = search (lane_send, sendable)
