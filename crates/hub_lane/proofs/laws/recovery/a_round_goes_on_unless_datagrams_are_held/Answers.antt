use Rattle.hub_lane.proofs.RoundsPaid.{way_got, way_quiet}
use Rattle.hub_lane.proofs.RoundSends.{sends_on}
use Rattle.hub_lane.proofs.laws.recovery.a_round_goes_on_unless_datagrams_are_held.Goals as goal

pub returns-clause-sent : goal.returns-clause-sent
returns-clause-sent c = λ hub next before now old new can e is way.
    sends_on c.laws_of_recovery.ensures hub next before now old new can e way is

pub returns-clause-got : goal.returns-clause-got
returns-clause-got c = way_got c.laws_of_recovery.ensures

pub returns-clause-quiet : goal.returns-clause-quiet
returns-clause-quiet c = way_quiet c.laws_of_recovery.ensures
