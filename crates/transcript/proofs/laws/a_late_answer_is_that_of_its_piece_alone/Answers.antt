use Rattle.std.proofs.Common.{ap}
use Rattle.reply_join.specs.ByWords.{answers}
use Rattle.transcript.specs.declared.line.OpResult.TheVariants.{Late}
use Rattle.transcript.proofs.LatePieces.{piece_alone, shown_alone}
use Rattle.transcript.proofs.laws.a_late_answer_is_that_of_its_piece_alone.Goals as goal

pub returns-clause-answer : goal.returns-clause-answer
returns-clause-answer c verb mask place rounds index body words =
    ap (Late rounds) (piece_alone verb mask index (answers body words))

pub returns-clause-alone : goal.returns-clause-alone
returns-clause-alone c = shown_alone
