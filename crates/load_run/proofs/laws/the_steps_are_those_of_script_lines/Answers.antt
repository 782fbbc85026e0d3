use Rattle.load_run.proofs.Compiled.{compiled}
use Rattle.load_run.proofs.laws.the_steps_are_those_of_script_lines.Goals as goal

pub returns : goal.returns
returns c = compiled
