use Rattle.transcript.proofs.Covering.{each_numbered}
use Rattle.transcript.proofs.laws.every_operation_has_its_line.Goals as goal

pub returns : goal.returns
returns c = each_numbered
