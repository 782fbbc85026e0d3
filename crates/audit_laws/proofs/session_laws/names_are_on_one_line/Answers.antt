use Rattle.audit_laws.proofs.Sessions.{have_names}
use Rattle.audit_laws.proofs.session_laws.names_are_on_one_line.Goals as goal

pub returns : goal.returns
returns c = have_names
