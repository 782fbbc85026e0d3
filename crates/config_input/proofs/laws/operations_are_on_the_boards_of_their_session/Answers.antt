use Rattle.std.proofs.Common.{[], ◌∷◌}
use Rattle.script_lang.specs.Scripts.{steps_of}
use Rattle.session_input.proofs.OnBoards.{on_boards}
use Rattle.config_store.specs.Kept.{indexed_boards}
use Rattle.config_input.proofs.laws.operations_are_on_the_boards_of_their_session.Goals as goal

pub returns : goal.returns
returns c = λ command bytes session steps is.
    let asks = is.holds.asks in
    let lines = (command.work is.document).script (indexed_boards session.boards asks.registers) in
    on_boards session is.holds.policy (steps_of session.boards asks.registers (lines ∷ [])) steps
    (c.scripts_ask_of_boards_that_are_there.ensures session.boards asks.registers (lines ∷ [])) asks.meant
