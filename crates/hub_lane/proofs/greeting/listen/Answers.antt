use Rattle.std.proofs.lemmas.Result.{IfOk-from_err}
use Rattle.hub_lane.specs.Greeting.{HasAskedNothing, StaysFresh}
use Rattle.hub_lane.proofs.Listening.{begins_so_far, counts_heard, counts_others, counts_unheard, ends_others}
use Rattle.hub_lane.proofs.Listening.{ends_quiet, ends_told, fresh_so_far, listening_first, none_asked, on_err}
use Rattle.hub_lane.proofs.Listening.{others_came, round_nothing, round_others, round_told, same_later}
use Rattle.hub_lane.proofs.GreetingPasses.{heard_none, heard_none_yet, heard_others, heard_status}
use Rattle.hub_lane.proofs.greeting.listen.Goals as goal

pub loop-other-init : goal.loop-other-init
loop-other-init g c =
    listening_first c.requires.untold

pub hear_once-requires-clause-begins : goal.hear_once-requires-clause-begins
hear_once-requires-clause-begins g c =
    begins_so_far c.loop-other.invariant c.args.settings c.requires.begins

pub hear_once-requires-clause-untold : goal.hear_once-requires-clause-untold
hear_once-requires-clause-untold g c =
    c.loop-other.invariant.untold

pub loop-other-preserved : goal.loop-other-preserved
loop-other-preserved g c =
    others_came c.loop-other.invariant c.args.settings c.in-Other.is c.requires.few_gots c.loop-other-test.true
    c.in_ok-status.ensures.receives c.in_ok-status.ensures.told c.in_ok-status.ensures.counted
    c.hear_once.ensures.faults c.hear_once.ensures.held c.in_ok-status.ensures.passed

pub returns-in_err-status-clause-fresh : goal.returns-in_err-status-clause-fresh
returns-in_err-status-clause-fresh g c =
    same_later c.loop-other.invariant (StaysFresh c.args.settings) c.hear_once.new.link c.hear_once.ensures.fresh

pub returns-in_err-status-clause-asked : goal.returns-in_err-status-clause-asked
returns-in_err-status-clause-asked g c =
    same_later c.loop-other.invariant HasAskedNothing c.hear_once.new.link c.hear_once.ensures.asked

pub returns-in-Told-clause-fresh : goal.returns-in-Told-clause-fresh
returns-in-Told-clause-fresh g c =
    same_later c.loop-other.invariant (StaysFresh c.args.settings) c.hear_once.new.link c.hear_once.ensures.fresh

pub returns-in-Told-clause-asked : goal.returns-in-Told-clause-asked
returns-in-Told-clause-asked g c =
    same_later c.loop-other.invariant HasAskedNothing c.hear_once.new.link c.hear_once.ensures.asked

pub returns-in-Nothing-clause-fresh : goal.returns-in-Nothing-clause-fresh
returns-in-Nothing-clause-fresh g c =
    same_later c.loop-other.invariant (StaysFresh c.args.settings) c.hear_once.new.link c.hear_once.ensures.fresh

pub returns-in-Nothing-clause-asked : goal.returns-in-Nothing-clause-asked
returns-in-Nothing-clause-asked g c =
    same_later c.loop-other.invariant HasAskedNothing c.hear_once.new.link c.hear_once.ensures.asked

pub returns-in_err-status-clause-none_told : goal.returns-in_err-status-clause-none_told
returns-in_err-status-clause-none_told g c =
    on_err c.from_residual.result _ c.in_err-status.ensures.none_told

pub returns-in_err-status-clause-counts : goal.returns-in_err-status-clause-counts
returns-in_err-status-clause-counts g c =
    counts_unheard c.loop-other.invariant c.loop-other-test.true c.in_err-status.ensures.uncounted
    c.hear_once.ensures.faults c.hear_once.ensures.held

pub returns-in_err-status-clause-told : goal.returns-in_err-status-clause-told
returns-in_err-status-clause-told g c = IfOk-from_err c.from_residual.result _ c.from_residual.ensures.0

pub returns-in_err-status-clause-ended : goal.returns-in_err-status-clause-ended
returns-in_err-status-clause-ended g c = IfOk-from_err c.from_residual.result _ c.from_residual.ensures.0

pub returns-in-Told-clause-counts : goal.returns-in-Told-clause-counts
returns-in-Told-clause-counts g c =
    counts_heard c.loop-other.invariant c.requires.few_quiets c.requires.few_gots c.loop-other-test.true
    c.in_ok-status.ensures.counted c.hear_once.ensures.faults c.hear_once.ensures.held

pub returns-in-Nothing-clause-counts : goal.returns-in-Nothing-clause-counts
returns-in-Nothing-clause-counts g c =
    counts_heard c.loop-other.invariant c.requires.few_quiets c.requires.few_gots c.loop-other-test.true
    c.in_ok-status.ensures.counted c.hear_once.ensures.faults c.hear_once.ensures.held

pub returns-in-Told-clause-told : goal.returns-in-Told-clause-told
returns-in-Told-clause-told g c =
    round_told c.loop-other.invariant c.args.settings c.hear_once.new.link c.in-Told.is
    c.in_ok-status.ensures.told

pub returns-in-Told-clause-ended : goal.returns-in-Told-clause-ended
returns-in-Told-clause-ended g c =
    ends_told c.loop-other.invariant c.in-Told.is c.requires.few_gots c.loop-other-test.true
    c.in_ok-status.ensures.receives c.in_ok-status.ensures.counted

pub returns-in-Nothing-clause-told : goal.returns-in-Nothing-clause-told
returns-in-Nothing-clause-told g c =
    round_nothing c.loop-other.invariant c.args.settings c.in-Nothing.is c.requires.few_quiets
    c.in_ok-status.ensures.counted c.in_ok-status.ensures.told

pub returns-in-Nothing-clause-ended : goal.returns-in-Nothing-clause-ended
returns-in-Nothing-clause-ended g c =
    ends_quiet c.loop-other.invariant c.in-Nothing.is c.requires.few_quiets c.in_ok-status.ensures.receives
    c.in_ok-status.ensures.counted c.in_ok-status.ensures.handed

pub returns-clause-fresh : goal.returns-clause-fresh
returns-clause-fresh g c =
    fresh_so_far c.loop-other.invariant c.args.settings c.requires.begins

pub returns-clause-asked : goal.returns-clause-asked
returns-clause-asked g c =
    none_asked c.loop-other.invariant

pub returns-clause-told : goal.returns-clause-told
returns-clause-told g c =
    round_others c.loop-other.invariant c.args.settings c.loop-other-test.false

pub returns-clause-ended : goal.returns-clause-ended
returns-clause-ended g c =
    ends_others c.loop-other.invariant c.loop-other-test.false

pub returns-clause-counts : goal.returns-clause-counts
returns-clause-counts g c =
    counts_others c.loop-other.invariant c.loop-other.auto.other-end

pub returns-in_err-status-clause-passed : goal.returns-in_err-status-clause-passed
returns-in_err-status-clause-passed g c = IfOk-from_err c.from_residual.result _ c.from_residual.ensures.0

pub returns-in-Told-clause-passed : goal.returns-in-Told-clause-passed
returns-in-Told-clause-passed g c =
    heard_status c.loop-other.invariant.passed c.loop-other-test.true c.in-Told.is c.in_ok-status.ensures.passed

pub returns-in-Nothing-clause-passed : goal.returns-in-Nothing-clause-passed
returns-in-Nothing-clause-passed g c =
    heard_none c.loop-other.invariant.passed c.loop-other-test.true c.in-Nothing.is c.in_ok-status.ensures.passed

pub returns-clause-passed : goal.returns-clause-passed
returns-clause-passed g c =
    heard_others c.loop-other.invariant.passed c.loop-other-test.false c.loop-other.auto.other-end

pub returns-in_err-status-clause-cut_off : goal.returns-in_err-status-clause-cut_off
returns-in_err-status-clause-cut_off g c =
    on_err c.from_residual.result _
    (heard_none_yet c.loop-other.invariant.passed c.loop-other-test.true c.in_err-status.ensures.cut_off)
