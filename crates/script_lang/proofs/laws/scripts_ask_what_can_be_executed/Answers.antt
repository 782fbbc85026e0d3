use Rattle.script_lang.proofs.Executable.{session_executable}
use Rattle.script_lang.proofs.laws.scripts_ask_what_can_be_executed.Goals as goal

pub returns : goal.returns
returns c = session_executable
