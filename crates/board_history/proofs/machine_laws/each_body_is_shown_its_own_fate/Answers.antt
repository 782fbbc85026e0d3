use Rattle.std.proofs.Common.{min}
use Rattle.world_model.specs.declared.offered.Fate.TheVariants as fate
use Rattle.reliable_engine.specs.MachineRuns.{IsBrought}
use Rattle.lane_record.specs.declared.outcome.Outcome.TheVariants.{Replied, TimedOut, Unsent}
use Rattle.board_history.specs.Machine.{hub_greeted}
use Rattle.board_history.proofs.MachineLaws.{shown_at, shown_exactly}
use Rattle.board_history.proofs.machine_laws.each_body_is_shown_its_own_fate.Goals as goal

pub returns-clause-replied : goal.returns-clause-replied
returns-clause-replied c = λ settings payload run link is number one place words at.
    let started = hub_greeted settings is.status in
    shown_exactly (IsBrought started is.events (number, fate.Replied place words)) is.end is.asked number one (fate.Replied place words) is.fates at
    (λ same. is.fates.each_outcome number (Replied place words) (shown_at is.end is.asked number one (Replied place words) at same))
    (c.each_reply_is_that_of_its_own_body.ensures.exactly is.status.next (min settings.window is.status.buffers)
    settings.rounds is.events is.traffic is.end is.end.fates number (fate.Replied place words) is.fresh is.machine)

pub returns-clause-timed_out : goal.returns-clause-timed_out
returns-clause-timed_out c = λ settings payload run link is number one place rounds at.
    let started = hub_greeted settings is.status in
    shown_exactly (IsBrought started is.events (number, fate.TimedOut place rounds)) is.end is.asked number one (fate.TimedOut place rounds) is.fates at
    (λ same. is.fates.each_outcome number (TimedOut place rounds) (shown_at is.end is.asked number one (TimedOut place rounds) at same))
    (c.each_reply_is_that_of_its_own_body.ensures.exactly is.status.next (min settings.window is.status.buffers)
    settings.rounds is.events is.traffic is.end is.end.fates number (fate.TimedOut place rounds) is.fresh is.machine)

pub returns-clause-unsent : goal.returns-clause-unsent
returns-clause-unsent c = λ settings payload run link is number one at.
    let started = hub_greeted settings is.status in
    shown_exactly (IsBrought started is.events (number, fate.Unsent)) is.end is.asked number one (fate.Unsent) is.fates at
    (λ same. is.fates.each_outcome number (Unsent) (shown_at is.end is.asked number one (Unsent) at same))
    (c.each_reply_is_that_of_its_own_body.ensures.exactly is.status.next (min settings.window is.status.buffers)
    settings.rounds is.events is.traffic is.end is.end.fates number (fate.Unsent) is.fresh is.machine)
