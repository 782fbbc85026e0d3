-- What follows for the bodies of connections and for the line of a board. Profile.
use Rattle.std.specs.Prelude.{◌≡◌, ◌≢◌, ℕ, ◌+◌, ◌*◌, ◌≤◌, List, count_by, Some, IfSome}
use Rattle.std.specs.List.{AllByRecursion, filter_map, flat_map}
use Rattle.board_bus.specs.Cells.{CellMap}
use Rattle.board_bus.specs.Bodies.{replay}
use Rattle.world_model.specs.Places.{at_place}
use Rattle.world_model.specs.Settings.{Limits}
use Rattle.lane_record.specs.declared.outcome.Outcome.{Outcome}
use Rattle.lane_record.specs.declared.outcome.Outcome.TheVariants.{Replied, TimedOut, Unsent, LinkLost}
use Rattle.lane_record.specs.Outcomes.{is_given_up, place_of}
use Rattle.lane_record.specs.Submissions.{Submission}
use Rattle.script_plans.specs.Claims.{Rises}
use Rattle.transcript.specs.declared.line.BoardLine.{BoardLine}
use Rattle.transcript.specs.declared.line.BoardLine.TheVariants.{Live, Silent, Down}
use Rattle.board_history.specs.Order.{RisesFrom}
use Rattle.board_history.specs.GiveUps.{IsExact}
use Rattle.board_history.specs.Links.{HasFailed, IsLostOnlyIfFailed, LinkReport}
use Rattle.board_history.specs.Receives.{IsReplyBrought, quiets_since_status}

-- so of each body of each connection
abbrev pub OfEach : (Submission → Type 0) → List (List Submission) → Type 0
OfEach holds connections = AllByRecursion (AllByRecursion holds) connections

-- ---- places

-- the places of a connection's bodies that have one, in the order of the bodies
abbrev pub places_in : List Submission → List ℕ
places_in submissions = filter_map (λ (s : Submission). place_of s.outcome) submissions

-- the places of each connection's bodies rise
abbrev pub PlacesRise : List (List Submission) → Type 0
PlacesRise connections = AllByRecursion (λ (s : List Submission). RisesFrom 1 (places_in s)) connections

-- no two bodies have one place
abbrev pub PlacesDiffer : List (List Submission) → Type 0
PlacesDiffer connections = Rises (λ (one other : ℕ). one ≢ other) (flat_map places_in connections)

-- ---- replies

-- A body that was replied to was executed at its place, and the words are those that a bus with a single thread gives
-- there, which opens like this and executes what the board executed.
pub record IsReplyAt (opening : CellMap) (done : List (List ℕ)) (body : List ℕ) (place : ℕ) (words : List ℕ) : Type 0
  where
    pub body' : at_place done place ≡ Some body
    pub words' : at_place (replay opening done).replies place ≡ Some words

abbrev pub IsRight : CellMap → List (List ℕ) → List ℕ → Outcome → Type 0
IsRight opening done body (Replied place words) = IsReplyAt opening done body place words
IsRight opening done body (TimedOut place rounds) = Unit {0}
IsRight opening done body Unsent = Unit {0}
IsRight opening done body (LinkLost place) = Unit {0}

abbrev pub IsRightlyReplied : CellMap → List (List ℕ) → Submission → Type 0
IsRightlyReplied opening done s = IsRight opening done s.body s.outcome

-- Whether the link tells or not, it brought the words of a body that was replied to in a control packet with the
-- identifier of its place.
abbrev pub IsReplyCarried : LinkReport → Submission → Type 0
IsReplyCarried link s = IsReplyBrought link s.outcome

-- ---- the line of a board

-- the bodies that the line tells lost with the link; a board that is not live has none
abbrev pub lost_told : BoardLine → ℕ
lost_told (Live name sent replied timed_out lost) = lost
lost_told (Silent name) = 0
lost_told (Down name) = 0

-- each body that was sent was replied to, timed out or lost
abbrev pub IsAddedUp : BoardLine → Type 0
IsAddedUp (Live name sent replied timed_out lost) = sent ≡ replied + timed_out + lost
IsAddedUp (Silent name) = Unit {0}
IsAddedUp (Down name) = Unit {0}

-- the link failed where the line tells a body lost with it
abbrev pub HasLostOnlyIfFailed : BoardLine → LinkReport → Type 0
HasLostOnlyIfFailed line link = 1 ≤ lost_told line → HasFailed link

-- and where a body was lost with it, sent before or not
abbrev pub IsNotLostUnlessFailed : LinkReport → Submission → Type 0
IsNotLostUnlessFailed link s = IsLostOnlyIfFailed link s.outcome

-- ---- give-ups

-- how many bodies of a connection were timed out or never sent, the link not having failed
abbrev pub given_up : List Submission → ℕ
given_up submissions = count_by (λ (s : Submission). is_given_up s.outcome) submissions

-- Each such body of a connection took the rounds of the settings and one more, each with a quiet receive, which came
-- behind the greeting, and where the link tells a datagram was held in each of the rounds. A count that stands at its
-- end tells nothing.
pub record GaveUpOnlyAfterRounds (settings : Limits) (link : LinkReport) (connections : List (List Submission)) : Type 0
  where
    pub quiets' : IsExact link.quiets
        → AllByRecursion (λ (s : List Submission). (settings.rounds + 1) * given_up s ≤ link.quiets) connections
    pub since : AllByRecursion (λ (s : List Submission). (settings.rounds + 1) * given_up s ≤ quiets_since_status link)
        connections
    pub held' : IfSome link.telling (λ _. IsExact link.held
        → AllByRecursion (λ (s : List Submission). settings.rounds * given_up s ≤ link.held) connections)
