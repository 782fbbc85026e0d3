use Rattle.std.proofs.Common.{◌∙◌, arith}
use Rattle.std.proofs.lemmas.Result.{IfOk-from_err}
use Rattle.hub_lane.proofs.GreetingRounds.{asked_after, asked_in_vain, asked_so_far, asking_first, asking_on}
use Rattle.hub_lane.proofs.GreetingRounds.{begins_so_far, faults_after, few_gots_so_far, few_quiets_so_far}
use Rattle.hub_lane.proofs.GreetingRounds.{found_heard, fresh_after, greeting_found, waited_long, within_after}
use Rattle.hub_lane.proofs.GreetingRounds.{within_so_far}
use Rattle.hub_lane.proofs.Listening.{on_err}
use Rattle.hub_lane.proofs.GreetingPasses.{greeted_so, greeting_cut_off, vain_all}
use Rattle.hub_lane.proofs.greeting.ask_for_status.Goals as goal

pub loop-round-init : goal.loop-round-init
loop-round-init g c =
    asking_first c.requires.unused c.requires.begins

pub ask_once-requires-clause-few_quiets : goal.ask_once-requires-clause-few_quiets
ask_once-requires-clause-few_quiets g c =
    few_quiets_so_far c.loop-round.invariant
    (omega (arith, c.rounds-round-end.type_inv, c.loop-round-test.true))

pub ask_once-requires-clause-few_gots : goal.ask_once-requires-clause-few_gots
ask_once-requires-clause-few_gots g c =
    few_gots_so_far c.loop-round.invariant
    (omega (arith, c.rounds-round-end.type_inv, c.loop-round-test.true))

pub ask_once-requires-clause-untold : goal.ask_once-requires-clause-untold
ask_once-requires-clause-untold g c =
    c.loop-round.invariant.untold

pub ask_once-requires-clause-begins : goal.ask_once-requires-clause-begins
ask_once-requires-clause-begins g c =
    begins_so_far c.loop-round.invariant

pub loop-round-preserved : goal.loop-round-preserved
loop-round-preserved g c =
    asking_on c.loop-round.invariant c.ask_once.ensures.counts
    (omega (arith, c.rounds-round-end.type_inv, c.loop-round-test.true))
    c.in_default.is c.ask_once.ensures.fresh c.ask_once.ensures.asked c.in_ok-status.ensures.told
    c.in_ok-status.ensures.ended c.in_ok-status.ensures.passed

pub returns-in_err-status-clause-fresh : goal.returns-in_err-status-clause-fresh
returns-in_err-status-clause-fresh g c =
    fresh_after c.loop-round.invariant c.ask_once.new.link c.ask_once.ensures.fresh

pub returns-in_err-status-clause-asked : goal.returns-in_err-status-clause-asked
returns-in_err-status-clause-asked g c =
    asked_after c.loop-round.invariant c.ask_once.ensures.counts c.ask_once.ensures.asked

pub returns-in_err-status-clause-most : goal.returns-in_err-status-clause-most
returns-in_err-status-clause-most g c =
    within_after c.loop-round.invariant c.ask_once.ensures.counts c.rounds-round-end.ensures.value
    c.loop-round-test.true

pub returns-in_err-status-clause-faults : goal.returns-in_err-status-clause-faults
returns-in_err-status-clause-faults g c =
    faults_after c.loop-round.invariant c.ask_once.ensures.counts

pub returns-in-Some-clause-fresh : goal.returns-in-Some-clause-fresh
returns-in-Some-clause-fresh g c =
    fresh_after c.loop-round.invariant c.ask_once.new.link c.ask_once.ensures.fresh

pub returns-in-Some-clause-asked : goal.returns-in-Some-clause-asked
returns-in-Some-clause-asked g c =
    asked_after c.loop-round.invariant c.ask_once.ensures.counts c.ask_once.ensures.asked

pub returns-in-Some-clause-most : goal.returns-in-Some-clause-most
returns-in-Some-clause-most g c =
    within_after c.loop-round.invariant c.ask_once.ensures.counts c.rounds-round-end.ensures.value
    c.loop-round-test.true

pub returns-in-Some-clause-faults : goal.returns-in-Some-clause-faults
returns-in-Some-clause-faults g c =
    faults_after c.loop-round.invariant c.ask_once.ensures.counts

pub returns-in_err-status-clause-told : goal.returns-in_err-status-clause-told
returns-in_err-status-clause-told g c =
    IfOk-from_err c.from_residual.result _ c.from_residual.ensures.0

pub returns-in_err-status-clause-silent : goal.returns-in_err-status-clause-silent
returns-in_err-status-clause-silent g c =
    IfOk-from_err c.from_residual.result _ c.from_residual.ensures.0

pub returns-in_err-status-clause-handed : goal.returns-in_err-status-clause-handed
returns-in_err-status-clause-handed g c =
    IfOk-from_err c.from_residual.result _ c.from_residual.ensures.0

pub returns-in_err-status-clause-heard : goal.returns-in_err-status-clause-heard
returns-in_err-status-clause-heard g c =
    IfOk-from_err c.from_residual.result _ c.from_residual.ensures.0

pub returns-in_err-status-clause-receives : goal.returns-in_err-status-clause-receives
returns-in_err-status-clause-receives g c =
    IfOk-from_err c.from_residual.result _ c.from_residual.ensures.0

pub returns-in_err-status-clause-none_told : goal.returns-in_err-status-clause-none_told
returns-in_err-status-clause-none_told g c =
    on_err c.from_residual.result _ c.in_err-status.ensures.none_told

pub returns-in-Some-clause-told : goal.returns-in-Some-clause-told
returns-in-Some-clause-told g c =
    greeting_found g.L.Link c.args.settings c.loop-round.link c.ask_once.new.link c.in-Some.is
    c.in_ok-status.ensures.told

pub returns-in-Some-clause-heard : goal.returns-in-Some-clause-heard
returns-in-Some-clause-heard g c =
    (found_heard c.in-Some.is c.in_ok-status.ensures.ended).0

pub returns-in-Some-clause-receives : goal.returns-in-Some-clause-receives
returns-in-Some-clause-receives g c =
    (found_heard c.in-Some.is c.in_ok-status.ensures.ended).1

pub returns-clause-fresh : goal.returns-clause-fresh
returns-clause-fresh g c =
    c.loop-round.invariant.fresh

pub returns-clause-told : goal.returns-clause-told
returns-clause-told g c =
    asked_in_vain c.loop-round.invariant c.rounds-round-end.ensures.value c.loop-round-test.false

pub returns-clause-silent : goal.returns-clause-silent
returns-clause-silent g c =
    waited_long c.loop-round.invariant c.rounds-round-end.ensures.value c.loop-round-test.false

pub returns-clause-handed : goal.returns-clause-handed
returns-clause-handed g c =
    c.loop-round.invariant.handed

pub returns-clause-receives : goal.returns-clause-receives
returns-clause-receives g c =
    c.loop-round.invariant.untold

pub returns-clause-asked : goal.returns-clause-asked
returns-clause-asked g c =
    asked_so_far c.loop-round.invariant

pub returns-clause-most : goal.returns-clause-most
returns-clause-most g c =
    within_so_far c.loop-round.invariant c.rounds-round-end.ensures.value c.loop-round.auto.round-end

pub returns-clause-faults : goal.returns-clause-faults
returns-clause-faults g c =
    c.loop-round.invariant.fault

pub returns-in_err-status-clause-passed : goal.returns-in_err-status-clause-passed
returns-in_err-status-clause-passed g c =
    IfOk-from_err c.from_residual.result _ c.from_residual.ensures.0

pub returns-in-Some-clause-passed : goal.returns-in-Some-clause-passed
returns-in-Some-clause-passed g c =
    greeted_so c.in-Some.is
    (let below = c.loop-round-test.true in let end = c.rounds-round-end.ensures.value in omega (arith, below, end))
    c.loop-round.invariant.passed c.in_ok-status.ensures.passed

pub returns-in_err-status-clause-number : goal.returns-in_err-status-clause-number
returns-in_err-status-clause-number g c = c.ask_once.ensures.counts.number ∙ c.loop-round.invariant.number

pub returns-in-Some-clause-number : goal.returns-in-Some-clause-number
returns-in-Some-clause-number g c = c.ask_once.ensures.counts.number ∙ c.loop-round.invariant.number

pub returns-clause-number : goal.returns-clause-number
returns-clause-number g c = c.loop-round.invariant.number

pub returns-in_err-status-clause-in_vain : goal.returns-in_err-status-clause-in_vain
returns-in_err-status-clause-in_vain g c =
    IfOk-from_err c.from_residual.result _ c.from_residual.ensures.0

pub returns-in_err-status-clause-cut_off : goal.returns-in_err-status-clause-cut_off
returns-in_err-status-clause-cut_off g c =
    on_err c.from_residual.result _ (greeting_cut_off
    (let below = c.loop-round-test.true in let end = c.rounds-round-end.ensures.value in omega (arith, below, end))
    c.loop-round.invariant.passed c.in_err-status.ensures.cut_off)

pub returns-clause-in_vain : goal.returns-clause-in_vain
returns-clause-in_vain g c =
    vain_all (g.L.Link.traffic c.loop-round.link) c.loop-round.invariant.passed c.rounds-round-end.ensures.value
    c.loop-round-test.false c.loop-round.auto.round-end
