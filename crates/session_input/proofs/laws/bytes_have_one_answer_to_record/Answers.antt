use Rattle.session_input.proofs.OneText.{run_once}
use Rattle.session_input.proofs.Recorded.{record_not_both, record_refused_once}
use Rattle.session_input.proofs.laws.bytes_have_one_answer_to_record.Goals as goal

pub returns-clause-session : goal.returns-clause-session
returns-clause-session c = λ bytes s t steps more one other.
    run_once c.document_laws.ensures c.table_laws.ensures bytes s t steps more one.runnable other.runnable

pub returns-clause-refusal : goal.returns-clause-refusal
returns-clause-refusal c = record_refused_once c.table_laws.ensures c.document_laws.ensures

pub returns-clause-not_both : goal.returns-clause-not_both
returns-clause-not_both c = record_not_both c.table_laws.ensures c.document_laws.ensures
