use Rattle.std.proofs.Common.{subst, ◌≡◌}
use Rattle.hub_lane.specs.Step.{LooksAs}
use Rattle.hub_lane.specs.declared.step.Looked.TheVariants as looks
use Rattle.lane_tables.proofs.Results.{on_err_holds}
use Rattle.board_berth.specs.Calls.{Calls}
use Rattle.board_berth.proofs.Means.{looks_mean, same_means}
use Rattle.board_berth.proofs.for_client.found_for.Goals as goal

pub returns-in_err-outcome-clause-looked : goal.returns-in_err-outcome-clause-looked
returns-in_err-outcome-clause-looked g c = on_err_holds c.from_residual.result (same_means g.L.Link c.args.client
    c.args.berth.now c.look-looked.new.self c.is_sound.ensures c.is_sound-2.ensures c.in_err-outcome.ensures.unchanged)

pub returns-in-Ready-clause-found : goal.returns-in-Ready-clause-found
returns-in-Ready-clause-found g c = looks_mean g.L.Link c.args.client c.args.berth.now c.look-looked.new.self
    c.is_sound.ensures c.is_sound-2.ensures (looks.Ready c.in-Ready.outcome) c.look-looked.ensures.on_lane
    (subst (λ answer. Calls (λ lane after. LooksAs lane c.args.client after answer) (answer ≡ looks.Nothing)
    c.args.berth.now c.look-looked.new.self) c.in-Ready.is c.in_ok-outcome.ensures.looked)

pub returns-in-NotYet-clause-found : goal.returns-in-NotYet-clause-found
returns-in-NotYet-clause-found g c = looks_mean g.L.Link c.args.client c.args.berth.now c.look-looked.new.self
    c.is_sound.ensures c.is_sound-2.ensures looks.NotYet c.look-looked.ensures.on_lane
    (subst (λ answer. Calls (λ lane after. LooksAs lane c.args.client after answer) (answer ≡ looks.Nothing)
    c.args.berth.now c.look-looked.new.self) c.in-NotYet.is c.in_ok-outcome.ensures.looked)

pub returns-in-Nothing-clause-found : goal.returns-in-Nothing-clause-found
returns-in-Nothing-clause-found g c = looks_mean g.L.Link c.args.client c.args.berth.now c.look-looked.new.self
    c.is_sound.ensures c.is_sound-2.ensures looks.Nothing c.look-looked.ensures.on_lane
    (subst (λ answer. Calls (λ lane after. LooksAs lane c.args.client after answer) (answer ≡ looks.Nothing)
    c.args.berth.now c.look-looked.new.self) c.in-Nothing.is c.in_ok-outcome.ensures.looked)
