use Rattle.std.proofs.Common.{IfOk, OnErr, subst}
use Rattle.turn_pass.specs.Record.{Record}
use Rattle.hub_multiplexer.specs.Calls.{IsNone}
use Rattle.hub_multiplexer.specs.Lanes.{Means, shown_record}
use Rattle.hub_multiplexer.specs.Waiting.{FindMeans}
use Rattle.hub_multiplexer.proofs.own.look_on.Goals as goal

pub returns-clause-found : goal.returns-clause-found
returns-clause-found g c = subst (λ (r : Record). IfOk c.found_on.result (λ found. Means c.args.client r
    (λ k. FindMeans k found) (shown_record g.L.Link.telling c.found_on.new.lane))) c.send_on.ensures
    c.found_on.ensures.found

pub returns-clause-looked : goal.returns-clause-looked
returns-clause-looked g c = subst (λ (r : Record). OnErr c.found_on.result (Means c.args.client r
    (λ _. IsNone) (shown_record g.L.Link.telling c.found_on.new.lane))) c.send_on.ensures
    c.found_on.ensures.looked
