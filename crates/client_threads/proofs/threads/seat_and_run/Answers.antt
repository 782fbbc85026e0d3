use Rattle.std.proofs.Common.{arith}
use Rattle.std.proofs.lemmas.Grind.{common_steps}
use Rattle.client_threads.proofs.Jobs.{ended_idle_all}
use Rattle.client_threads.proofs.threads.seat_and_run.Goals as goal

pub returns-in_err-seat_all-clause-ended : goal.returns-in_err-seat_all-clause-ended
returns-in_err-seat_all-clause-ended g c = ended_idle_all c.args.context.now.hub.now.turns c.seat_all.new.jobs.items
    c.seat_all.ensures.seated

pub returns-clause-few : goal.returns-clause-few
returns-clause-few g c = grind (arith, common_steps)

pub returns-clause-all : goal.returns-clause-all
returns-clause-all g c = grind (arith, common_steps)

pub returns-clause-plans : goal.returns-clause-plans
returns-clause-plans g c = grind (arith, common_steps)

pub returns-clause-ended : goal.returns-clause-ended
returns-clause-ended g c = grind (arith, common_steps)

pub returns-clause-master : goal.returns-clause-master
returns-clause-master g c = grind (arith, common_steps)

pub returns-clause-taken_in : goal.returns-clause-taken_in
returns-clause-taken_in g c = grind (arith, common_steps)
