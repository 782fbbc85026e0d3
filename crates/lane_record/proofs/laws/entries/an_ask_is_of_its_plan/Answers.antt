use Rattle.lane_record.specs.Items.{plan_in}
use Rattle.lane_record.proofs.Asks.{one_ask}
use Rattle.lane_record.proofs.Finished.{asked_as_planned, asked_few}
use Rattle.lane_record.proofs.Lookups.{found_below, found_within}
use Rattle.lane_record.proofs.laws.entries.an_ask_is_of_its_plan.Goals as goal

pub returns-clause-body : goal.returns-clause-body
returns-clause-body c = asked_as_planned

pub returns-clause-once : goal.returns-clause-once
returns-clause-once c = λ items outcomes j k client seq one other is. one_ask items j k client seq one other
    is.asks_follow_plans.count

pub returns-clause-planned : goal.returns-clause-planned
returns-clause-planned c = λ items outcomes client seq body is. found_within plan_in client seq items body
    is.plans_count.count

pub returns-clause-there : goal.returns-clause-there
returns-clause-there c = λ items outcomes client seq is. found_below plan_in client seq items is.plans_count.count

pub returns-clause-asked : goal.returns-clause-asked
returns-clause-asked c = asked_few
