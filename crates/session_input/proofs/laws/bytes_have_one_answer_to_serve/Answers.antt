use Rattle.session_input.proofs.OneText.{serve_once, serve_refused_once, serve_not_both}
use Rattle.session_input.proofs.laws.bytes_have_one_answer_to_serve.Goals as goal

pub returns-clause-session : goal.returns-clause-session
returns-clause-session c = serve_once c.document_laws.ensures c.table_laws.ensures

pub returns-clause-refusal : goal.returns-clause-refusal
returns-clause-refusal c = serve_refused_once c.document_laws.ensures c.table_laws.ensures

pub returns-clause-not_both : goal.returns-clause-not_both
returns-clause-not_both c = serve_not_both c.document_laws.ensures c.table_laws.ensures
