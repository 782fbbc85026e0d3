use Rattle.script_lang.proofs.OwnNames.{own_names}
use Rattle.script_lang.proofs.laws.the_boards_of_a_session_have_their_own_names.Goals as goal

pub returns : goal.returns
returns c = own_names
