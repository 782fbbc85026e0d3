use Rattle.session_input.proofs.OneText.{list_once, list_refused_once, list_not_both}
use Rattle.session_input.proofs.laws.bytes_have_one_answer_to_check.Goals as goal

pub returns-clause-index : goal.returns-clause-index
returns-clause-index c = list_once c.document_laws.ensures c.table_laws.ensures

pub returns-clause-refusal : goal.returns-clause-refusal
returns-clause-refusal c = list_refused_once c.document_laws.ensures c.table_laws.ensures

pub returns-clause-not_both : goal.returns-clause-not_both
returns-clause-not_both c = list_not_both c.document_laws.ensures c.table_laws.ensures
