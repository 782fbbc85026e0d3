use Rattle.std.proofs.Common.{subst}
use Rattle.hub_multiplexer.specs.AnyCalls.{MeansAs, StepMeansAs}
use Rattle.board_berth.specs.Berths.{berth_record}
use Rattle.board_berth.specs.Manner.{berth_manner}
use Rattle.board_berth.proofs.for_client.step_found.Goals as goal

pub returns-in-Ready-clause-found : goal.returns-in-Ready-clause-found
returns-in-Ready-clause-found g c = subst (λ answer. MeansAs berth_manner c.args.client
    (berth_record g.L.Link.telling c.args.berth.now) (λ k. StepMeansAs berth_manner k answer)
    (berth_record g.L.Link.telling c.step_for.new.berth)) c.in-Ready.is c.in_ok-outcome.ensures.stepped

pub returns-in-Nothing-clause-found : goal.returns-in-Nothing-clause-found
returns-in-Nothing-clause-found g c = subst (λ answer. MeansAs berth_manner c.args.client
    (berth_record g.L.Link.telling c.args.berth.now) (λ k. StepMeansAs berth_manner k answer)
    (berth_record g.L.Link.telling c.step_for.new.berth)) c.in-Nothing.is c.in_ok-outcome.ensures.stepped
