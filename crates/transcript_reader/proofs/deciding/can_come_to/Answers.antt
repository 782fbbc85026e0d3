use Rattle.transcript_reader.proofs.deciding.can_come_to.Goals as goal

pub returns-in-Error : goal.returns-in-Error
returns-in-Error c = rw c.in-Error.is c.can_fail.ensures

pub returns-in-Late : goal.returns-in-Late
returns-in-Late c = rw c.in-Late.is c.can_be_late.ensures
