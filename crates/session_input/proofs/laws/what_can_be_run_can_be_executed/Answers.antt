use Rattle.access_policy.specs.Decisions.{names_of}
use Rattle.script_steps.specs.Executable.{AreExecutable}
use Rattle.script_lang.specs.Scripts.{steps_of}
use Rattle.session_input.specs.Deserved.{session_part}
use Rattle.session_input.proofs.Ruled.{all_still}
use Rattle.session_input.proofs.laws.what_can_be_run_can_be_executed.Goals as goal

pub returns : goal.returns
returns c bytes session steps is =
    let scripts = is.runs in
    let compiled = scripts.boards.compiled in
    all_still AreExecutable c.what_is_denied_asks_for_less.ensures.executable is.policy (names_of session.boards)
    (steps_of session.boards scripts.registers session.scripts) steps scripts.meant
    (c.scripts_ask_what_can_be_executed.ensures (session_part is.stands.document) session scripts.registers
    is.stands.is_session compiled.compile compiled.each_index)
