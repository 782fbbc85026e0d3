use Rattle.hub_lane.specs.declared.answers.Asked.TheVariants as asks
use Rattle.hub_multiplexer.specs.declared.answers.AskTry.TheVariants as ask_tries
use Rattle.hub_multiplexer.specs.Calls.{AskMeans, AskTried, HasSubmitted, MadeInTime, PerformMeans, lane_manner}
use Rattle.hub_multiplexer.proofs.AskedAll.{asked_at, nothing_left, performed_still}
use Rattle.hub_multiplexer.proofs.AskedAll.{still_asked_at, submitted_at_once}
use Rattle.hub_multiplexer.proofs.laws.a_seat_that_asked_all_may_submit.Goals as goal

pub returns-clause-tried : goal.returns-clause-tried
returns-clause-tried c board old new changes =
    asked_at board old new (λ k. AskTried k ask_tries.Nothing) changes
    (λ k after made. nothing_left lane_manner c.an_entry_is_spelled_by_numbers.ensures.read
    k made.lane made.added after made.adds made.meaning)

pub returns-clause-asked : goal.returns-clause-asked
returns-clause-asked c board old new changes =
    asked_at board old new (λ k. MadeInTime k (AskMeans k asks.Nothing)) changes
    (λ k after made. nothing_left lane_manner c.an_entry_is_spelled_by_numbers.ensures.read
    k made.lane made.added after made.adds made.meaning)

pub returns-clause-submitted : goal.returns-clause-submitted
returns-clause-submitted c board old new body seq was changes =
    still_asked_at board old new (λ k. MadeInTime k (HasSubmitted k body seq)) was changes
    (submitted_at_once lane_manner c.an_entry_is_spelled_by_numbers.ensures.read body seq)

pub returns-clause-performed : goal.returns-clause-performed
returns-clause-performed c board old new performed was changes =
    still_asked_at board old new (λ k. MadeInTime k (PerformMeans k performed)) was changes
    (performed_still lane_manner c.an_entry_is_spelled_by_numbers.ensures.read performed)
