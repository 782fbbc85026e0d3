-- What a client does on a lane that submits one body after the other. Profile.
use Rattle.std.specs.Prelude.{ℕ, ◌+◌, List, [], ◌∷◌}
use Rattle.lane_record.specs.declared.outcome.Outcome.{Outcome}
use Rattle.lane_record.specs.Dispatches.{NumberedAction, Planned, Asked, Taken}

-- a body that a client submitted, and what became of it
pub record Submission : Type 0 where
  pub body : List ℕ
  pub outcome : Outcome

-- Each of these bodies is planned, is asked, and what became of it is taken, before the next one is planned. Their
-- numbers among the client's bodies count on from a number.
abbrev pub submissions_from : ℕ → List Submission → List NumberedAction
submissions_from seq [] = []
submissions_from seq (one ∷ later) =
    record { seq = seq; action = Planned one.body } ∷ record { seq = seq; action = Asked }
    ∷ record { seq = seq; action = Taken one.outcome } ∷ submissions_from (seq + 1) later
