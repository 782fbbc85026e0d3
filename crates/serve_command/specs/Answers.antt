-- The answers of connections to the frames for one board, by their codes. Profile.
use Rattle.std.specs.Prelude.{◌≡◌, ◌≢◌, ℕ, ◌+◌, ◌==◌, ◌&&◌, Bool, List, [], ◌∷◌, count_by}
use Rattle.hub_lane.specs.declared.answers.BoardState.{BoardState}
use Rattle.transcript.specs.declared.line.BoardLine.{BoardLine}
use Rattle.transcript.specs.declared.line.BoardLine.TheVariants.{Live, Silent, Down}
use Rattle.hub_session.specs.declared.served.Served.{Served}
use Rattle.hub_session.specs.declared.served.SessionEnd.TheVariants.{WriteFault}
use Rattle.hub_session.specs.Answers.{reply_to}
use Rattle.hub_session.specs.Codes.{replied_code, timed_out_code}
use Rattle.hub_session.specs.Exchanges.{Exchange}
use Rattle.session_serve.specs.Connections.{Conversation}

-- the frame is for the board at this position, and its reply frame has this code
abbrev pub has_code_at : ℕ → ℕ → List BoardState → Exchange → Bool
has_code_at code position boards e = (e.frame.board == position) && ((reply_to boards e.frame e.got).code == code)

-- how many frames of all connections were answered whole by this code
abbrev pub answers_by : ℕ → ℕ → List BoardState → List Conversation → ℕ
answers_by code position boards [] = 0
answers_by code position boards (c ∷ conversations) =
    count_by (has_code_at code position boards) c.answered + answers_by code position boards conversations

-- the line of the board at this position tells so many bodies replied to, and so many timed out
abbrev pub TellsAnswers : List BoardState → List Conversation → ℕ → BoardLine → Type 0
TellsAnswers boards conversations position (Live name sent replied timed_out lost) =
    (replied ≡ answers_by replied_code position boards conversations)
    × (timed_out ≡ answers_by timed_out_code position boards conversations)
TellsAnswers boards conversations position (Silent name) = Unit {0}
TellsAnswers boards conversations position (Down name) = Unit {0}

-- so of each line, the first of which is of the board at this position
abbrev pub AllTellAnswers : List BoardState → List Conversation → ℕ → List BoardLine → Type 0
AllTellAnswers boards conversations position [] = Unit {0}
AllTellAnswers boards conversations position (line ∷ lines) =
    TellsAnswers boards conversations position line × AllTellAnswers boards conversations (position + 1) lines

-- a connection that did not end with a fault of writing
abbrev pub HasWrittenAll : Served → Type 0
HasWrittenAll served = served.end ≢ WriteFault

-- the reply frame has this code
abbrev pub HasCode : ℕ → List BoardState → Exchange → Type 0
HasCode code boards e = (reply_to boards e.frame e.got).code ≡ code
