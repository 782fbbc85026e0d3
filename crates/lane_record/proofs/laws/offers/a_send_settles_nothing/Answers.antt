use Rattle.std.proofs.Common.{subst}
use Rattle.lane_record.proofs.Sends.{AfterSend, after_send}
use Rattle.lane_record.proofs.laws.offers.a_send_settles_nothing.Goals as goal

pub returns-clause-agrees : goal.returns-clause-agrees
returns-clause-agrees c = λ hub claims outcomes next window is e.
    (subst (AfterSend hub claims outcomes) e (after_send hub claims outcomes window is)).agrees

pub returns-clause-waits : goal.returns-clause-waits
returns-clause-waits c = λ hub claims outcomes next window is e.
    (subst (AfterSend hub claims outcomes) e (after_send hub claims outcomes window is)).waits
