use Rattle.hub_lane.proofs.RoundsPaid.{paid_begins, paid_gave_up, paid_give_ups, paid_got, paid_heard, paid_offered}
use Rattle.hub_lane.proofs.RoundsPaid.{paid_quiet, paid_sent}
use Rattle.hub_lane.proofs.laws.recovery.give_ups_are_paid_by_datagrams_held.Goals as goal

pub returns-clause-begins : goal.returns-clause-begins
returns-clause-begins c = paid_begins

pub returns-clause-offered : goal.returns-clause-offered
returns-clause-offered c = paid_offered

pub returns-clause-sent : goal.returns-clause-sent
returns-clause-sent c = paid_sent c.laws_of_recovery.ensures

pub returns-clause-heard : goal.returns-clause-heard
returns-clause-heard c = paid_heard c.laws_of_recovery.ensures

pub returns-clause-got : goal.returns-clause-got
returns-clause-got c = paid_got c.laws_of_recovery.ensures

pub returns-clause-quiet : goal.returns-clause-quiet
returns-clause-quiet c = paid_quiet c.laws_of_recovery.ensures

pub returns-clause-gave_up : goal.returns-clause-gave_up
returns-clause-gave_up c = paid_gave_up c.laws_of_recovery.ensures

pub returns-clause-give_ups : goal.returns-clause-give_ups
returns-clause-give_ups c = paid_give_ups
