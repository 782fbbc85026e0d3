-- What a lane over a link that tells is worth, and what any lane is worth once each asked body was taken. Profile.
use Rattle.std.specs.Prelude.{◌≡◌, ℕ, ◌+◌, ◌*◌, ◌≤◌, List, Option, Some, IfSome}
use Rattle.std.specs.List.{slice_get}
use Rattle.ipb_base.specs.Lists.{IsPrefix}
use Rattle.world_model.specs.declared.offered.Offered.{Offered}
use Rattle.world_model.specs.Places.{at_place}
use Rattle.world_model.specs.Board.{bodies_executed, replies}
use Rattle.world_model.specs.Facts.{bodies_of}
use Rattle.links.specs.Receives.{first_status, quiets_in, since_status}
use Rattle.links.specs.Telling.{Telling}
use Rattle.lane_record.specs.declared.outcome.Outcome.{Outcome}
use Rattle.lane_record.specs.declared.outcome.Outcome.TheVariants.{Replied, TimedOut}
use Rattle.lane_record.specs.declared.item.Item.{Item}
use Rattle.lane_record.specs.Lists.{CountsFrom}
use Rattle.lane_record.specs.Lates.{late_in}
use Rattle.lane_record.specs.Claims.{taken_outcomes}
use Rattle.lane_record.specs.Legal.{IsLegal}
use Rattle.lane_record.specs.FirstSends.{bodies_sent, first_sends, places_of}
use Rattle.lane_record.specs.Bounds.{AreLostOnlyIf, AreWithin, HasReached, TellRounds, timeouts}
use Rattle.hub_lane.specs.Heard.{AreHeard, told_by}
use Rattle.hub_lane.specs.Lanes.{BoardStatus}
use Rattle.hub_lane.specs.Standing.{WasHanded}

-- These outcomes have, for each body that was replied, the words that the board gives at its place: those of a bus with
-- a single thread, when the bodies that the board executed are replayed by place over the bus that it opened with. The
-- link handed such a reply out.
pub record AreRightReplies (t : Telling) (outcomes : List (Option Outcome)) : Type 0 where
  pub right : (k place : ℕ) (words : List ℕ) → slice_get outcomes k ≡ Some (Some (Replied place words))
      → at_place (replies t.told.board) place ≡ Some words
  pub handed : (k place : ℕ) (words : List ℕ) → slice_get outcomes k ≡ Some (Some (Replied place words))
      → WasHanded t place words

-- What came late at a place is the words that the board gives there, as with a reply in time, and the link handed such
-- a reply out.
pub record AreRightLates (t : Telling) (lates : List (Option (List ℕ))) : Type 0 where
  pub right : (place : ℕ) (words : List ℕ) → late_in lates place ≡ Some words
      → at_place (replies t.told.board) place ≡ Some words
  pub handed : (place : ℕ) (words : List ℕ) → late_in lates place ≡ Some words → WasHanded t place words

-- The board executed a front of the bodies that were sent first, in order, and the replies and the late answers are
-- right.
pub record IsTrueTo (t : Telling) (bodies : List (List ℕ)) (outcomes : List (Option Outcome))
    (lates : List (Option (List ℕ))) : Type 0 where
  pub in_order : IsPrefix (bodies_executed t.told.board) bodies
  pub replied : AreRightReplies t outcomes
  pub late : AreRightLates t lates

-- Where a body was timed out and the link handed a reply of its place out, that came late. With `AreRightLates` and
-- `AreLateAnswers`: it has a late answer exactly there.
abbrev pub HasEachLate : Telling → List (Option Outcome) → List (Option (List ℕ)) → Type 0
HasEachLate t outcomes lates = (k place rounds : ℕ) (words : List ℕ)
    → slice_get outcomes k ≡ Some (Some (TimedOut place rounds)) → WasHanded t place words
    → late_in lates place ≡ Some words

-- What a lane's record says where each Ask has its Took: it is legal; its first sends have the places 1, 2, 3, .. and
-- are the bodies that the hub sent; what was timed out, and the quiet receives that each give-up took, are within the
-- bounds; a body is lost only where the link failed, and one that was timed out tells the rounds of the hub; and over a
-- link that tells the record is true, and so is what came late, which is all that was handed out so. Over any link the
-- greeting ended with the first datagram that told a status, which is this one, and behind it stand the replies with
-- the words that were taken or came late, and the quiet receives that the give-ups took.
pub record IsWhole (items : List Item) (lates : List (Option (List ℕ))) (sent : List Offered)
    (window rounds give_ups faults quiets : ℕ) (status : BoardStatus) (receives : List (Option (List ℕ)))
    (telling : Option Telling) : Type 0 where
  pub legal : IsLegal items (taken_outcomes items)
  pub places : CountsFrom 1 (places_of (first_sends items))
  pub bodies : bodies_of sent ≡ bodies_sent (first_sends items)
  pub within : AreWithin give_ups items
  pub few : timeouts (taken_outcomes items) ≤ window * give_ups
  pub waited : HasReached ((rounds + 1) * give_ups) quiets
  pub greeting : first_status receives ≡ Some (told_by status)
  pub heard : AreHeard status.next (taken_outcomes items) lates (since_status receives)
  pub waited_since : (rounds + 1) * give_ups ≤ quiets_in (since_status receives)
  pub lost : AreLostOnlyIf (1 ≤ faults) (taken_outcomes items)
  pub tells : TellRounds rounds (taken_outcomes items)
  pub truth : IfSome telling (λ t. IsTrueTo t (bodies_sent (first_sends items)) (taken_outcomes items) lates)
  pub each_late : IfSome telling (λ t. HasEachLate t (taken_outcomes items) lates)
