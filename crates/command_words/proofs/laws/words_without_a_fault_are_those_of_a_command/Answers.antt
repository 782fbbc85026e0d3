use Rattle.command_words.proofs.Strays as strays
use Rattle.command_words.proofs.laws.words_without_a_fault_are_those_of_a_command.Goals as goal

pub returns : goal.returns
returns c = strays.says
