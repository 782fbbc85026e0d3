use Rattle.std.proofs.Common.{arith, refl}
use Rattle.lane_record.proofs.Worked.{not_at_once, not_by_another}
use Rattle.lane_record.proofs.examples.wrong_records_are_not_legal.Goals as goal

pub returns-clause-planned_twice : goal.returns-clause-planned_twice
returns-clause-planned_twice c = λ outcomes is. let counts = is.plans_count.count 1 in
    let second = counts.1.0 in omega (arith, second)

pub returns-clause-behind_seal : goal.returns-clause-behind_seal
returns-clause-behind_seal c = λ outcomes is. let unsealed = is.plans_count.unsealed.1.0 in absurd (cc)

pub returns-clause-before_planned : goal.returns-clause-before_planned
returns-clause-before_planned c = λ outcomes is. let planned = is.asks_follow_plans.planned.0.1 in absurd (cc)

pub returns-clause-by_another : goal.returns-clause-by_another
returns-clause-by_another c = not_by_another

pub returns-clause-by_arrival : goal.returns-clause-by_arrival
returns-clause-by_arrival c = λ is. let place = is.places_count.places.0 refl in absurd (cc)

pub returns-clause-at_once : goal.returns-clause-at_once
returns-clause-at_once c = not_at_once
