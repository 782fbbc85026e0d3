use Rattle.std.proofs.Common.{rules}
use Rattle.clap.proofs.WalkLemmas.{first_value-rows}
use Rattle.command_words.proofs.line.word.Goals as goal

pub returns : goal.returns
returns c = λ t e. search (rules, first_value-rows, e)
