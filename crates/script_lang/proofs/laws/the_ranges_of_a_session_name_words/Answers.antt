use Rattle.script_lang.proofs.SmallNumbers.{opens_on_words}
use Rattle.script_lang.proofs.laws.the_ranges_of_a_session_name_words.Goals as goal

pub returns : goal.returns
returns c = opens_on_words
