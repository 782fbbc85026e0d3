use Rattle.audit_command.proofs.Lengths.{one_parts}
use Rattle.audit_command.proofs.laws.an_input_has_one_document.Goals as goal

pub returns : goal.returns
returns c = one_parts
