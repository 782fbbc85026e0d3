use Rattle.hub_lane.specs.declared.answers.Asked.TheVariants as asks
use Rattle.hub_multiplexer.specs.declared.answers.AskTry.TheVariants as ask_tries
use Rattle.hub_multiplexer.specs.AnyCalls.{AskMeansAs, AskTriedAs, BegunAs, HasSubmittedAs, MadeInTimeAs, PerformMeansAs}
use Rattle.hub_multiplexer.proofs.AskedAll.{asked_at, performed_still, still_asked_at, submitted_at_once}
use Rattle.board_berth.specs.Manner.{berth_manner}
use Rattle.board_berth.proofs.AskedAll.{begun_still, nothing_left_there}
use Rattle.board_berth.proofs.laws.a_seat_that_asked_all_may_submit.Goals as goal

pub returns-clause-tried : goal.returns-clause-tried
returns-clause-tried c board old new changes =
    asked_at board old new (λ k. AskTriedAs berth_manner k ask_tries.Nothing) changes
    (λ k after made. nothing_left_there c.an_entry_is_spelled_by_numbers.ensures.read k made.lane made.added after
    made.adds made.meaning)

pub returns-clause-asked : goal.returns-clause-asked
returns-clause-asked c board old new changes =
    asked_at board old new (λ k. MadeInTimeAs berth_manner k (AskMeansAs berth_manner k asks.Nothing)) changes
    (λ k after made. nothing_left_there c.an_entry_is_spelled_by_numbers.ensures.read k made.lane made.added after
    made.adds made.meaning)

pub returns-clause-submitted : goal.returns-clause-submitted
returns-clause-submitted c board old new body seq was changes =
    still_asked_at board old new (λ k. MadeInTimeAs berth_manner k (HasSubmittedAs berth_manner k body seq)) was changes
    (submitted_at_once berth_manner c.an_entry_is_spelled_by_numbers.ensures.read body seq)

pub returns-clause-performed : goal.returns-clause-performed
returns-clause-performed c board old new performed was changes =
    still_asked_at board old new (λ k. MadeInTimeAs berth_manner k (PerformMeansAs berth_manner k performed)) was changes
    (performed_still berth_manner c.an_entry_is_spelled_by_numbers.ensures.read performed)

pub returns-clause-begun : goal.returns-clause-begun
returns-clause-begun c board old new was changes =
    still_asked_at board old new (BegunAs berth_manner) was changes begun_still
