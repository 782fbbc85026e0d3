-- What a receive of a socket came to, and what a link makes of it. Profile.
use Rattle.std.specs.Prelude.{◌≡◌, ◌≢◌, ◌⊎◌, ℕ, ◌+◌, ◌<◌, ◌≤◌, Bool, true, false, List, [], ◌∷◌, ◌++◌, length, map, take}
use Rattle.std.specs.Prelude.{Option, Result, Ok, Err}
use Rattle.std.specs.List.{AllByRecursion}
use Rattle.std.specs.declared.io.Error.{Error}
use Rattle.std.specs.declared.io.ErrorKind.{ErrorKind}
use Rattle.std.specs.declared.io.ErrorKind.TheVariants.{Interrupted, TimedOut, WouldBlock}
use Rattle.std.specs.IoError.{error_kind, raw_os_error}
use Rattle.ipb_base.specs.Faults.{one_more}
use Rattle.links.specs.declared.link.LinkFault.{LinkFault}
use Rattle.links.specs.declared.link.LinkFault.TheVariants.{Failed, NoMemory}
use Rattle.links.specs.declared.link.Received.{Received}
use Rattle.links.specs.declared.link.Received.TheVariants.{Got, Quiet}
use Rattle.links.specs.declared.waiter.TheConstants.{MOST_FROM_ELSEWHERE}
use Rattle.links.specs.Sockets.{AreCalls, Came, From, Place, Receive, Refused, Socket}
use Rattle.std_edges.specs.Errors.{is_passing, number_in}
use Rattle.std_edges.specs.States.{SocketState, UdpState, socket_after}
use Rattle.std_edges.specs.declared.heard.Heard.{Heard}
use Rattle.std_edges.specs.declared.heard.Heard.TheVariants.{Board, Elsewhere, Nothing, Fault}

-- By the kind of an error: std has two for a time that is over; a signal says nothing of the board, so that the wait
-- begins again; every other error is a fault.
abbrev pub heard_by_kind : ErrorKind → Error → Heard
heard_by_kind WouldBlock error = Nothing
heard_by_kind TimedOut error = Nothing
heard_by_kind Interrupted error = Elsewhere
heard_by_kind _ error = Fault error

abbrev pub heard_by : Error → Heard
heard_by error = heard_by_kind (error_kind error) error

-- what a receive of the link answers
abbrev pub told_of : Heard → Result Received LinkFault
told_of (Board count) = Ok Got
told_of Elsewhere = Ok Quiet
told_of Nothing = Ok Quiet
told_of (Fault error) = Err Failed

-- the link when what was heard is counted
abbrev pub with_heard_counted : Heard → UdpState → UdpState
with_heard_counted (Board count) link = record link { gots = one_more link.gots }
with_heard_counted Elsewhere link = record link { quiets = one_more link.quiets }
with_heard_counted Nothing link = record link { quiets = one_more link.quiets }
with_heard_counted (Fault error) link = record link { faults = one_more link.faults }

-- the datagram of the board, where one was heard: the front of the buffer
abbrev pub datagram_in : Heard → List ℕ → List ℕ
datagram_in (Board count) buffer = take count buffer
datagram_in _ buffer = []

-- what an error is to a link
abbrev pub IsUnheardAs : Error → Heard → Type 0
IsUnheardAs error (Board count) = ⊥
IsUnheardAs error Elsewhere = heard_by error ≡ Elsewhere
IsUnheardAs error Nothing = heard_by error ≡ Nothing
IsUnheardAs error (Fault other) = (other ≡ error) × (heard_by error ≡ Fault error)

-- what came of a receive of a socket is this to a link to a board, by the buffer that the bytes stand in
abbrev pub IsHeardAs : Place → Came → Heard → List ℕ → Type 0
IsHeardAs board (From place bytes) (Board count) buffer = (place ≡ board) × (bytes ≡ take count buffer)
IsHeardAs board (From place bytes) Elsewhere buffer = place ≢ board
IsHeardAs board (From place bytes) Nothing buffer = ⊥
IsHeardAs board (From place bytes) (Fault error) buffer = ⊥
IsHeardAs board (Refused error) heard buffer = IsUnheardAs error heard

-- an error that passes says nothing of the socket and the address
abbrev pub passes : Error → Bool
passes error = is_passing (number_in (raw_os_error error))

-- The receive is done again behind it.
abbrev pub IsPassedOver : Heard → Type 0
IsPassedOver (Board count) = ⊥
IsPassedOver Elsewhere = Unit {0}
IsPassedOver Nothing = ⊥
IsPassedOver (Fault error) = passes error ≡ true

-- It ends the receive of the link.
abbrev pub IsLast : Heard → Type 0
IsLast (Board count) = Unit {0}
IsLast Elsewhere = ⊥
IsLast Nothing = Unit {0}
IsLast (Fault error) = passes error ≡ false

-- A link to a board goes past it: a datagram from elsewhere, a signal, and an error that passes.
abbrev pub IsPast : Place → Came → Type 0
IsPast board (From place bytes) = place ≢ board
IsPast board (Refused error) = IsPassedOver (heard_by error)

-- What is heard behind so many that were gone past: by the receive behind them, or nothing where these are 64.
abbrev pub IsHeardBehind : Place → ℕ → List Came → Heard → List ℕ → Type 0
IsHeardBehind board past [] heard buffer = (heard ≡ Elsewhere) × (past ≡ MOST_FROM_ELSEWHERE)
IsHeardBehind board past (last ∷ more) heard buffer =
    (more ≡ []) × IsHeardAs board last heard buffer × IsLast heard × (past < MOST_FROM_ELSEWHERE)

-- This was heard of a board: the receives of the socket, those that were gone past and the last one, if there was one.
pub record Hears (board : Place) (old new : SocketState) (heard : Heard) (buffer : List ℕ) : Type 0 where
  pub past : List Came
  pub last : List Came
  pub called : new ≡ socket_after (map Receive (past ++ last)) old
  pub gone_past : AllByRecursion (IsPast board) past
  pub behind : IsHeardBehind board (length past) last heard buffer

-- a link answers at once that nothing came, where what waits beside it found so, or behind 64 that were gone past, or
-- where the socket waited its time
abbrev pub IsQuietBehind : Bool → ℕ → List Came → Type 0
IsQuietBehind is_watched past [] = ((is_watched ≡ true) × (past ≡ 0)) ⊎ (past ≡ MOST_FROM_ELSEWHERE)
IsQuietBehind is_watched past (From place bytes ∷ more) = ⊥
IsQuietBehind is_watched past (Refused error ∷ more) =
    (more ≡ []) × (heard_by error ≡ Nothing) × (past < MOST_FROM_ELSEWHERE)

-- a link fails where the socket answered an error that does not pass
abbrev pub IsFailedBehind : ℕ → List Came → Type 0
IsFailedBehind past [] = ⊥
IsFailedBehind past (From place bytes ∷ more) = ⊥
IsFailedBehind past (Refused error ∷ more) =
    (more ≡ []) × (heard_by error ≡ Fault error) × (passes error ≡ false) × (past < MOST_FROM_ELSEWHERE)

-- What a receive of a link answers, and leaves in its buffer, behind so many that were gone past. The bytes are those
-- that the socket received from the board's place.
abbrev pub IsAnswerBehind : Place → Bool → ℕ → List Came → Result Received LinkFault → List ℕ → Type 0
IsAnswerBehind board is_watched past last (Ok Got) bytes =
    (last ≡ From board bytes ∷ []) × (past < MOST_FROM_ELSEWHERE)
IsAnswerBehind board is_watched past last (Ok Quiet) bytes = IsQuietBehind is_watched past last
IsAnswerBehind board is_watched past last (Err Failed) bytes = IsFailedBehind past last
IsAnswerBehind board is_watched past last (Err NoMemory) bytes = past + length last ≤ MOST_FROM_ELSEWHERE

-- A receive of a link to a board: the receives of its socket, those that were gone past and the last one, if there was
-- one, and what it answers by them.
pub record ReceivesOver (board : Place) (is_watched : Bool) (old new : Option Socket)
    (result : Result Received LinkFault) (bytes : List ℕ) : Type 0 where
  pub past : List Came
  pub last : List Came
  pub called : AreCalls (map Receive (past ++ last)) old new
  pub gone_past : AllByRecursion (IsPast board) past
  pub behind : IsAnswerBehind board is_watched (length past) last result bytes
