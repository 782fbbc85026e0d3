use Rattle.std.proofs.Common.{IfOk, OnErr, subst}
use Rattle.turn_pass.specs.Record.{Record}
use Rattle.hub_multiplexer.specs.AnyCalls.{FindMeansAs, IsNone, MeansAs}
use Rattle.board_berth.specs.Berths.{berth_record}
use Rattle.board_berth.specs.Manner.{berth_manner}
use Rattle.board_berth.proofs.for_client.look_for.Goals as goal

pub returns-clause-found : goal.returns-clause-found
returns-clause-found g c = subst (λ (r : Record). IfOk c.found_for.result (λ found. MeansAs berth_manner c.args.client r
    (λ k. FindMeansAs berth_manner k found) (berth_record g.L.Link.telling c.found_for.new.berth)))
    c.send_for_all.ensures c.found_for.ensures.found

pub returns-clause-looked : goal.returns-clause-looked
returns-clause-looked g c = subst (λ (r : Record). OnErr c.found_for.result (MeansAs berth_manner c.args.client r
    (λ _. IsNone) (berth_record g.L.Link.telling c.found_for.new.berth))) c.send_for_all.ensures
    c.found_for.ensures.looked
