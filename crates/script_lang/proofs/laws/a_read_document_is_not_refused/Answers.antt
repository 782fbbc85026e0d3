use Rattle.script_lang.proofs.OneAnswer.{not_both}
use Rattle.script_lang.proofs.laws.a_read_document_is_not_refused.Goals as goal

pub returns : goal.returns
returns c = not_both
