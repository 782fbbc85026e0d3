use Rattle.config_laws.proofs.TextRead.{read_back}
use Rattle.config_laws.proofs.reading_back.a_text_of_values_is_read_back.Goals as goal

pub returns : goal.returns
returns c = read_back
