-- A body that its board answered. Profile.
use Rattle.std.specs.Prelude.{◌≡◌, ℕ, List, Some}
use Rattle.std.specs.List.{AllByRecursion}
use Rattle.board_bus.specs.Cells.{HoldsWords}
use Rattle.board_specs.specs.declared.spec.BoardSpec.{BoardSpec}
use Rattle.reply_join.specs.declared.answer.Answer.{Answer}
use Rattle.transcript.specs.declared.body_end.Told.TheVariants.{Answered}
use Rattle.transcript.specs.declared.body_end.BodyEnd.{BodyEnd}
use Rattle.script_plans.specs.declared.board_run.ClientPart.{ClientPart}
use Rattle.script_plans.specs.declared.board_run.BoardRun.{BoardRun}
use Rattle.transcript.specs.Ends.{ends_of}
use Rattle.script_plans.specs.Plan.{AreSpelled}
use Rattle.board_history.specs.Runs.{opens_with}

-- The body has a place, and its board told the answer to each of its transactions: it is not garbled, timed out, unsent
-- or lost.
pub record IsAnswered (end : BodyEnd) : Type 0 where
  pub place' : ℕ
  pub placed : end.place ≡ Some place'
  pub answers : List Answer
  pub answered : end.told ≡ Answered answers

-- each body of a client on a board was answered
abbrev pub AreAnswered : ClientPart → Type 0
AreAnswered part = AllByRecursion IsAnswered (ends_of part)

-- the bodies that a client asked for are the words of requests alone, as those of every plan are
abbrev pub AsksRequests : ClientPart → Type 0
AsksRequests part = AreSpelled part.planned.bodies

abbrev pub AskRequests : BoardRun → Type 0
AskRequests run = AllByRecursion AsksRequests run.parts

-- the bus that the board opens with holds words of 32 bits, as every bus of ranges does
abbrev pub OpensWithWords : BoardSpec → Type 0
OpensWithWords spec = HoldsWords (opens_with spec.link)
