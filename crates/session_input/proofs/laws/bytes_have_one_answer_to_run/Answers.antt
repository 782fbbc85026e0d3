use Rattle.session_input.proofs.OneText.{run_once, run_refused_once, run_not_both}
use Rattle.session_input.proofs.laws.bytes_have_one_answer_to_run.Goals as goal

pub returns-clause-session : goal.returns-clause-session
returns-clause-session c = run_once c.document_laws.ensures c.table_laws.ensures

pub returns-clause-refusal : goal.returns-clause-refusal
returns-clause-refusal c = run_refused_once c.document_laws.ensures c.table_laws.ensures

pub returns-clause-not_both : goal.returns-clause-not_both
returns-clause-not_both c = run_not_both c.document_laws.ensures c.table_laws.ensures
