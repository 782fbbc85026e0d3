-- The bytes that a server prints once all of its connections have ended. Every line ends with a line feed. Profile.
use Rattle.std.specs.Prelude.{ℕ, ◌+◌, Bool, true, false, ◌&&◌, if◌then◌else◌, List, [], ◌∷◌, ◌++◌, codes}
use Rattle.std.specs.Fmt.{decimal}
use Rattle.hub_session.specs.declared.served.Served.{Served}
use Rattle.hub_session.specs.declared.served.SessionEnd.{SessionEnd}
use Rattle.hub_session.specs.declared.served.SessionEnd.TheVariants.{Closed, ReadFault, WriteFault, BadFrame, CutFrame}
use Rattle.hub_session.specs.declared.served.SessionEnd.TheVariants.{NoMemory}
use Rattle.transcript.specs.declared.line.BoardLine.{BoardLine}
use Rattle.transcript.specs.Text.{boards_text}

-- how a connection ended; where memory ran out nothing is printed
abbrev pub end_text : SessionEnd → List ℕ
end_text Closed = codes "closed"
end_text ReadFault = codes "read fault"
end_text WriteFault = codes "write fault"
end_text BadFrame = codes "bad frame"
end_text CutFrame = codes "cut frame"
end_text NoMemory = codes "no memory"

-- the line of a connection: its number, the frames that were answered, and how it ended
abbrev pub connection_text : ℕ → Served → List ℕ
connection_text number served =
    codes "connection " ++ (decimal number ++ (codes " frames " ++ (decimal served.frames ++ (codes " "
    ++ (end_text served.end ++ codes "\n")))))

-- the connections from a number on
abbrev pub connections_text : ℕ → List Served → List ℕ
connections_text number [] = []
connections_text number (served ∷ later) = connection_text number served ++ connections_text (number + 1) later

-- the connections, counted from 1, and then the boards
abbrev pub serve_text : List Served → List BoardLine → List ℕ
serve_text connections boards = connections_text 1 connections ++ boards_text boards

-- ---- the status

abbrev pub is_closed : SessionEnd → Bool
is_closed Closed = true
is_closed ReadFault = false
is_closed WriteFault = false
is_closed BadFrame = false
is_closed CutFrame = false
is_closed NoMemory = false

abbrev pub all_closed : List Served → Bool
all_closed [] = true
all_closed (served ∷ later) = is_closed served.end && all_closed later

-- 0 where every connection ended between two frames, with no fault
abbrev pub serve_status : List Served → ℕ
serve_status connections = if all_closed connections then 0 else 1
