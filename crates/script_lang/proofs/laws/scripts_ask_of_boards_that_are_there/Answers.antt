use Rattle.script_lang.proofs.OnBoards.{scripts_on}
use Rattle.script_lang.proofs.laws.scripts_ask_of_boards_that_are_there.Goals as goal

pub returns : goal.returns
returns c = scripts_on
