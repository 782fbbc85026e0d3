use Rattle.std.proofs.Common.{length}
use Rattle.command_words.proofs.line.+with_alone.Given as goal

abbrev pub decreases-with_alone : goal.decreases-with_alone
decreases-with_alone l = length l.names.now
