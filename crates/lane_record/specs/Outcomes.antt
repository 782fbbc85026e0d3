-- What an outcome tells of its body. Profile.
use Rattle.std.specs.Prelude.{◌≡◌, ◌≢◌, ℕ, ◌≤◌, Bool, true, false, List, length, Option, Some, None, IfSome, is_some}
use Rattle.std.specs.List.{AllByRecursion, slice_get}
use Rattle.packet_codec.specs.declared.packet.TheConstants.{MAX_BODY_WORDS}
use Rattle.lane_record.specs.declared.outcome.Outcome.{Outcome}
use Rattle.lane_record.specs.declared.outcome.Outcome.TheVariants.{Replied, TimedOut, Unsent, LinkLost}

-- the place of a body that has one
abbrev pub place_of : Outcome → Option ℕ
place_of (Replied place words) = Some place
place_of (TimedOut place rounds) = Some place
place_of Unsent = None
place_of (LinkLost place) = place

abbrev pub is_replied : Outcome → Bool
is_replied (Replied place words) = true
is_replied (TimedOut place rounds) = false
is_replied Unsent = false
is_replied (LinkLost place) = false

-- only a give-up of the hub ends a body so
abbrev pub is_given_up : Outcome → Bool
is_given_up (Replied place words) = false
is_given_up (TimedOut place rounds) = true
is_given_up Unsent = true
is_given_up (LinkLost place) = false

abbrev pub is_timed_out : Outcome → Bool
is_timed_out (Replied place words) = false
is_timed_out (TimedOut place rounds) = true
is_timed_out Unsent = false
is_timed_out (LinkLost place) = false

abbrev pub is_lost : Outcome → Bool
is_lost (Replied place words) = false
is_lost (TimedOut place rounds) = false
is_lost Unsent = false
is_lost (LinkLost place) = true

-- A body that was timed out tells so many rounds: those after each of which nothing had come of it.
abbrev pub TellsRounds : ℕ → Outcome → Type 0
TellsRounds rounds (Replied place words) = Unit {0}
TellsRounds rounds (TimedOut place told) = told ≡ rounds
TellsRounds rounds Unsent = Unit {0}
TellsRounds rounds (LinkLost place) = Unit {0}

-- The words of a reply are no more than a packet has behind its header.
abbrev pub IsShort : Outcome → Type 0
IsShort (Replied place words) = length words ≤ MAX_BODY_WORDS
IsShort (TimedOut place rounds) = Unit {0}
IsShort Unsent = Unit {0}
IsShort (LinkLost place) = Unit {0}

-- the same of all that became of some bodies
abbrev pub AreShort : List (Option Outcome) → Type 0
AreShort outcomes = AllByRecursion (λ (o : Option Outcome). IfSome o IsShort) outcomes

-- something became of each Ask
abbrev pub AreSettled : List (Option Outcome) → Type 0
AreSettled outcomes = (k : ℕ) → slice_get outcomes k ≢ Some None

-- whether the body was sent
abbrev pub is_sent : Outcome → Bool
is_sent outcome = is_some (place_of outcome)
