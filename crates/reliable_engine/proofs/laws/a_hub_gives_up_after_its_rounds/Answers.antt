use Rattle.std.proofs.Common.{arith}
use Rattle.reliable_engine.proofs.Runs.{same_rounds}
use Rattle.reliable_engine.proofs.Rests.{quiet_begins, quiet_ends, rounds_begun, rounds_counted}
use Rattle.reliable_engine.proofs.laws.a_hub_gives_up_after_its_rounds.Goals as goal

pub returns-clause-counted : goal.returns-clause-counted
returns-clause-counted c = rounds_counted

pub returns-clause-no_earlier : goal.returns-clause-no_earlier
returns-clause-no_earlier c = λ hub events none out.
    omega (arith, rounds_counted hub events, same_rounds hub events)

pub returns-clause-one_each : goal.returns-clause-one_each
returns-clause-one_each c = rounds_begun

pub returns-clause-in_time : goal.returns-clause-in_time
returns-clause-in_time c = λ hub events none settle enough.
    omega (arith, rounds_begun hub events settle (omega arith), same_rounds hub events)

pub returns-clause-gives_up : goal.returns-clause-gives_up
returns-clause-gives_up c = quiet_ends

pub returns-clause-goes_on : goal.returns-clause-goes_on
returns-clause-goes_on c = quiet_begins
