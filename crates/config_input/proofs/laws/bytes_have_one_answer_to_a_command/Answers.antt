use Rattle.config_input.proofs.OneAnswer.{not_both, read_once, refused_once}
use Rattle.config_input.proofs.laws.bytes_have_one_answer_to_a_command.Goals as goal

pub returns-clause-session : goal.returns-clause-session
returns-clause-session c command bytes =
    read_once c.document_laws.ensures c.table_laws.ensures command bytes

pub returns-clause-refusal : goal.returns-clause-refusal
returns-clause-refusal c command bytes =
    refused_once c.document_laws.ensures c.table_laws.ensures command bytes

pub returns-clause-not_both : goal.returns-clause-not_both
returns-clause-not_both c command bytes =
    not_both c.document_laws.ensures c.table_laws.ensures command bytes
