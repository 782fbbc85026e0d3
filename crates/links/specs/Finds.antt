-- What a waiter does at its socket until it has found something of the next datagram of its board. Profile.
use Rattle.std.specs.Prelude.{◌≡◌, ◌≢◌, ◌⊎◌, ℕ, ◌<◌, List, [], ◌∷◌, ◌++◌, length, map, Option, Result, Ok, Err}
use Rattle.std.specs.List.{AllByRecursion, flat_map}
use Rattle.std.specs.IoError.{error_kind}
use Rattle.std.specs.declared.io.Error.{Error}
use Rattle.std.specs.declared.io.ErrorKind.{ErrorKind}
use Rattle.std.specs.declared.io.ErrorKind.TheVariants.{Interrupted, TimedOut, WouldBlock}
use Rattle.links.specs.declared.found.Found.{Found}
use Rattle.links.specs.declared.found.Found.TheVariants.{Nothing, Arrival, Silence}
use Rattle.links.specs.declared.finding.Sight.{Sight}
use Rattle.links.specs.declared.finding.Sight.TheVariants as sight
use Rattle.links.specs.declared.waiter.TheConstants.{MOST_FROM_ELSEWHERE}
use Rattle.links.specs.Sockets.{AreCalls, Came, From, Look, Place, Receive, Refused, Socket, SocketCall}

-- By the kind of an error: std has two for a time that is over, and a signal says nothing of the board. Any other error
-- is met by the next receive of the link too.
abbrev pub sight_by_kind : ErrorKind → Sight
sight_by_kind WouldBlock = sight.Nothing
sight_by_kind TimedOut = sight.Nothing
sight_by_kind Interrupted = sight.Signal
sight_by_kind _ = sight.Arrival

-- what came of a look is this to the waiter of a board
abbrev pub IsSeenAs : Place → Came → Sight → Type 0
IsSeenAs board (From place bytes) sight.Arrival = place ≡ board
IsSeenAs board (From place bytes) sight.Elsewhere = place ≢ board
IsSeenAs board (From place bytes) sight.Signal = ⊥
IsSeenAs board (From place bytes) sight.Nothing = ⊥
IsSeenAs board (Refused error) seen = seen ≡ sight_by_kind (error_kind error)

-- what a waiter goes past: a datagram from elsewhere, which it drops by a receive, and a look that a signal ended
pub data Past : Type 0 where
  Dropped : (seen : Came) (came : Came) → Past
  Ended : (seen : Came) → Past

abbrev pub IsPast : Place → Past → Type 0
IsPast board (Dropped seen came) = IsSeenAs board seen sight.Elsewhere
IsPast board (Ended seen) = IsSeenAs board seen sight.Signal

abbrev pub calls_past : Past → List SocketCall
calls_past (Dropped seen came) = Look seen ∷ Receive came ∷ []
calls_past (Ended seen) = Look seen ∷ []

-- What is found behind so many that were gone past, by the last look, if there was one: an arrival by what it saw, and a
-- silence where it saw none in its time or 64 were gone past. A silence began when the link had sent so many datagrams.
abbrev pub IsFoundBehind : Place → ℕ → ℕ → List Came → Found → Type 0
IsFoundBehind board sends past (last ∷ []) Arrival = IsSeenAs board last sight.Arrival × (past < MOST_FROM_ELSEWHERE)
IsFoundBehind board sends past (last ∷ []) (Silence before) =
    IsSeenAs board last sight.Nothing × (before ≡ sends) × (past < MOST_FROM_ELSEWHERE)
IsFoundBehind board sends past [] (Silence before) = (before ≡ sends) × (past ≡ MOST_FROM_ELSEWHERE)
IsFoundBehind board sends past _ _ = ⊥

-- A waiter for this board found this: the calls of its socket, what they went past, and what says what was found.
pub record Finds (board : Place) (sends : ℕ) (old new : Option Socket) (found : Found) : Type 0 where
  pub past : List Past
  pub last : List Came
  pub called : AreCalls (flat_map calls_past past ++ map Look last) old new
  pub gone_past : AllByRecursion (IsPast board) past
  pub behind : IsFoundBehind board sends (length past) last found
