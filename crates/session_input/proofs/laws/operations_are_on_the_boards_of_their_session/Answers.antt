use Rattle.script_lang.specs.Scripts.{steps_of}
use Rattle.session_input.proofs.OnBoards.{on_boards}
use Rattle.session_input.proofs.laws.operations_are_on_the_boards_of_their_session.Goals as goal

pub returns : goal.returns
returns c = λ bytes session steps is.
    on_boards session is.policy (steps_of session.boards is.runs.registers session.scripts) steps
    (c.scripts_ask_of_boards_that_are_there.ensures session.boards is.runs.registers session.scripts) is.runs.meant
