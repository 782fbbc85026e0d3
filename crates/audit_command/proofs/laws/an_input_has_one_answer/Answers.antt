use Rattle.audit_command.proofs.OneAnswer.{not_both, one_input, one_refusal}
use Rattle.audit_command.proofs.laws.an_input_has_one_answer.Goals as goal

pub returns-clause-input : goal.returns-clause-input
returns-clause-input c = one_input c.table_laws.ensures c.document_laws.ensures

pub returns-clause-refusal : goal.returns-clause-refusal
returns-clause-refusal c = one_refusal c.table_laws.ensures c.document_laws.ensures

pub returns-clause-not_both : goal.returns-clause-not_both
returns-clause-not_both c = not_both c.table_laws.ensures c.document_laws.ensures
