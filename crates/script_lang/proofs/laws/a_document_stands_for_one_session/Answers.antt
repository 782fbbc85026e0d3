use Rattle.script_lang.proofs.Answered.{one_document, one_session}
use Rattle.script_lang.proofs.OneAnswer.{stands_once}
use Rattle.script_lang.proofs.laws.a_document_stands_for_one_session.Goals as goal

pub returns-clause-document : goal.returns-clause-document
returns-clause-document c = one_session

pub returns-clause-bytes : goal.returns-clause-bytes
returns-clause-bytes c = stands_once

pub returns-clause-text : goal.returns-clause-text
returns-clause-text c = one_document
