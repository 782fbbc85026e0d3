-- What the lane of a board keeps at every exit of its calls: of its record, of what became of the Asks so far, and of
-- its link. Profile.
use Rattle.std.specs.Prelude.{◌≡◌, ℕ, ◌+◌, ◌*◌, ◌≤◌, Bool, true, if◌then◌else◌, List, [], map, slice_get, count_by}
use Rattle.std.specs.Prelude.{Option, Some, IfSome}
use Rattle.ipb_base.specs.Lists.{IsPrefix}
use Rattle.ipb_base.specs.Numbers.{payload_of}
use Rattle.board_bus.specs.Cells.{CellMap}
use Rattle.board_bus.specs.Bodies.{replay}
use Rattle.links.specs.Receives.{first_status, receives_in}
use Rattle.links.specs.Telling.{Telling}
use Rattle.world_model.specs.declared.offered.Offered.{Offered}
use Rattle.world_model.specs.Board.{Board, bodies_executed}
use Rattle.world_model.specs.Hub.{Hub}
use Rattle.world_model.specs.Places.{at_place}
use Rattle.world_model.specs.Settings.{Limits}
use Rattle.reliable_engine.specs.MachineRuns.{RunEvent}
use Rattle.lane_record.specs.declared.outcome.Outcome.{Outcome}
use Rattle.lane_record.specs.declared.outcome.Outcome.TheVariants.{Replied, TimedOut}
use Rattle.lane_record.specs.declared.item.Item.{Item}
use Rattle.lane_record.specs.Claims.{Claim, claims}
use Rattle.lane_record.specs.Lates.{WasTimedOut, late_in}
use Rattle.lane_record.specs.Offers.{Agrees, offers_from}
use Rattle.lane_record.specs.Bounds.{IsKept, AreLostOnlyIf, HasReached, TellRounds}
use Rattle.lane_record.specs.Outcomes.{AreSettled, is_replied}
use Rattle.hub_lane.specs.Heard.{told_by}
use Rattle.hub_lane.specs.Lanes.{BoardStatus}
use Rattle.hub_lane.specs.Run.{HasRun}
use Rattle.board_history.specs.Parts.{IsReplyOf}
use Rattle.board_history.specs.Lates.{IsLateExactly}
use Rattle.board_history.specs.Links.{LinkReport, HasFailed, board_there}
use Rattle.board_history.specs.Receives.{HasBroughtReply, HasToldPayload, quiets_since_status}
use Rattle.board_history.specs.Records.{has_become}

-- the bodies of the Asks that were sent or may still be, in the order of the Asks
abbrev pub bodies_offered : List Claim → List (Option Outcome) → List (List ℕ)
bodies_offered claims outcomes = map (λ (o : Offered). o.body) (offers_from 0 claims outcomes)

-- What the board executed is a front of the bodies offered, and each reply is the one that a bus with a single thread
-- gives at its place when it executes this front. So is what came late at a place.
pub record IsTrueOf (opening : CellMap) (claims : List Claim) (outcomes : List (Option Outcome))
    (lates : List (Option (List ℕ))) (done : List (List ℕ)) : Type 0 where
  pub front : IsPrefix done (bodies_offered claims outcomes)
  pub replies : (k : ℕ) (outcome : Outcome) → slice_get outcomes k ≡ Some (Some outcome)
      → IsReplyOf (replay opening done).replies outcome
  pub late : (place : ℕ) (words : List ℕ) → late_in lates place ≡ Some words
      → at_place (replay opening done).replies place ≡ Some words

-- over a link that tells, what came late for each body that was timed out is what the link handed out for it
abbrev pub IsLateAsHanded : List (Option Outcome) → List (Option (List ℕ)) → Telling → Type 0
IsLateAsHanded outcomes lates t = (k place rounds : ℕ) → slice_get outcomes k ≡ Some (Some (TimedOut place rounds))
    → IsLateExactly t place (late_in lates place)

-- What passed over the link of a lane: the greeting, and then the machine's run whose offers are the bodies of the Asks
-- in order. The board told its packets by this status, and the hub waits for the bodies without an outcome, unless the
-- link failed.
pub record RanOver (settings : Limits) (payload : ℕ) (link : LinkReport) (items : List Item)
    (outcomes : List (Option Outcome)) (lates : List (Option (List ℕ))) : Type 0 where
  pub status : BoardStatus
  pub packets : payload ≡ payload_of status.mtu
  pub told : first_status (receives_in link.traffic) ≡ Some (told_by status)
  pub hub : Hub
  pub run : List RunEvent
  pub down : Bool
  pub spent : Bool
  pub failed : down ≡ true → HasFailed link
  pub agrees : Agrees hub.sent (if down then [] else hub.queue) (if down then [] else hub.open_places)
      (claims items) outcomes
  pub has_run : HasRun settings status hub items outcomes lates down spent run link.traffic

-- A lane that gave up so many times, whose board opened with this bus and told that it takes packets of this payload.
pub record IsSoundLane (settings : Limits) (opening : CellMap) (payload : ℕ) (link : LinkReport) (items : List Item)
    (outcomes : List (Option Outcome)) (lates : List (Option (List ℕ))) (given_up : ℕ) : Type 0 where
  -- the greeting ended with the status that the board told
  pub greeted : HasToldPayload link payload
  -- its record is legal, its numbers of give-ups are at most these, and each ended at most `window` bodies
  pub kept : IsKept items outcomes settings.window given_up
  -- each give-up cost `rounds + 1` quiet receives, of those since the link was made
  pub waited : HasReached ((settings.rounds + 1) * given_up) link.quiets
  -- and of those behind the greeting
  pub waited_since : (settings.rounds + 1) * given_up ≤ quiets_since_status link
  -- each reply came in a datagram of its own, behind the one that answered the greeting
  pub heard : HasReached (count_by (has_become is_replied) outcomes + 1) link.gots
  -- its words are those that the link brought for its place
  pub words : (k place : ℕ) (words : List ℕ) → slice_get outcomes k ≡ Some (Some (Replied place words))
      → HasBroughtReply link place words
  -- so are those of what came late
  pub late_words : (place : ℕ) (words : List ℕ) → late_in lates place ≡ Some words → HasBroughtReply link place words
  -- bodies are lost with the link only where the link failed
  pub lost : AreLostOnlyIf (HasFailed link) outcomes
  -- a body that was timed out tells the rounds of the settings
  pub tells : TellRounds settings.rounds outcomes
  -- what came late at a place is of a body that was timed out
  pub late : (place : ℕ) (words : List ℕ) → late_in lates place ≡ Some words → WasTimedOut outcomes place
  -- over a link that tells
  pub told : IfSome (board_there link.telling)
      (λ (board : Board). IsTrueOf opening (claims items) outcomes lates (bodies_executed board))
  -- and once something became of each Ask
  pub exactly : AreSettled outcomes → IfSome link.telling (IsLateAsHanded outcomes lates)
  pub held : IfSome link.telling (λ _. HasReached (settings.rounds * given_up) link.held)
  -- over any link, what passed
  pub ran : RanOver settings payload link items outcomes lates
