use Rattle.command_words.proofs.Walks as walks
use Rattle.command_words.proofs.laws.the_words_of_a_command_are_taken.Goals as goal

pub returns : goal.returns
returns c = walks.taken
