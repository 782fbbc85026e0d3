use Rattle.std.proofs.Common.{subst}
use Rattle.hub_lane.specs.Step.{LooksAs}
use Rattle.hub_lane.specs.declared.step.Looked.TheVariants as looks
use Rattle.lane_tables.proofs.Results.{on_err_holds}
use Rattle.hub_multiplexer.proofs.Grows.{looks_mean, same_means}
use Rattle.hub_multiplexer.proofs.own.found_on.Goals as goal

pub returns-in_err-outcome-clause-looked : goal.returns-in_err-outcome-clause-looked
returns-in_err-outcome-clause-looked g c =
    on_err_holds c.from_residual.result (same_means g.L.Link.telling c.args.lane.now c.look-looked.new.self
    c.args.client c.tells_its_own.ensures.own c.tells_its_own-2.ensures.legal c.in_err-outcome.ensures.unchanged)

pub returns-in-Ready-clause-found : goal.returns-in-Ready-clause-found
returns-in-Ready-clause-found g c =
    looks_mean g.L.Link.telling c.args.lane.now c.look-looked.new.self c.args.client (looks.Ready c.in-Ready.outcome)
    c.tells_its_own.ensures.own c.tells_its_own-2.ensures.legal
    (subst (LooksAs c.args.lane.now c.args.client c.look-looked.new.self) c.in-Ready.is
    c.in_ok-outcome.ensures.looked)

pub returns-in-NotYet-clause-found : goal.returns-in-NotYet-clause-found
returns-in-NotYet-clause-found g c =
    looks_mean g.L.Link.telling c.args.lane.now c.look-looked.new.self c.args.client looks.NotYet
    c.tells_its_own.ensures.own c.tells_its_own-2.ensures.legal
    (subst (LooksAs c.args.lane.now c.args.client c.look-looked.new.self) c.in-NotYet.is
    c.in_ok-outcome.ensures.looked)

pub returns-in-Nothing-clause-found : goal.returns-in-Nothing-clause-found
returns-in-Nothing-clause-found g c =
    looks_mean g.L.Link.telling c.args.lane.now c.look-looked.new.self c.args.client looks.Nothing
    c.tells_its_own.ensures.own c.tells_its_own-2.ensures.legal
    (subst (LooksAs c.args.lane.now c.args.client c.look-looked.new.self) c.in-Nothing.is
    c.in_ok-outcome.ensures.looked)
