-- What the laws say of a lane's hub in a pump, for the proofs here: no public clause speaks of it.
use Rattle.std.specs.Prelude.{◌≡◌, ℕ, ◌+◌, ◌≤◌, List, [], Option, Some, length}
use Rattle.world_model.specs.declared.offered.Offered.{Offered}
use Rattle.world_model.specs.declared.offered.OpenPlace.{OpenPlace}
use Rattle.world_model.specs.Messages.{ToHub}
use Rattle.world_model.specs.Hub.{Hub, hear_quiet, places, take_message}
use Rattle.world_model.specs.Sends.{Next, next_send}
use Rattle.world_model.specs.Facts.{HasBodies, IsWindow}
use Rattle.lane_record.specs.declared.outcome.Outcome.{Outcome}
use Rattle.lane_record.specs.declared.item.Item.{Item}
use Rattle.lane_record.specs.Claims.{Claim, claims}
use Rattle.lane_record.specs.FirstSends.{PlacesCount}
use Rattle.lane_record.specs.Bounds.{IsKept, timeouts}
use Rattle.lane_record.specs.Outcomes.{is_given_up, is_lost, is_replied}
use Rattle.lane_record.specs.Offers.{AddsOnly, Agrees, AgreesWith, KeepsOutcomes, Settles, all_lost}
use Rattle.hub_lane.specs.Below.{LateLaws}

-- a send leaves what the hub tells, how many bodies it has, and how it agrees with the Asks
pub record SendLeaves : Type 0 where
  pub fates : (hub : Hub) (next : Next) → next_send hub ≡ Some next → next.hub.fates ≡ hub.fates
  pub lates : (hub : Hub) (next : Next) → next_send hub ≡ Some next → next.hub.lates ≡ hub.lates

abbrev pub SendKeepsBodies : Type 0
SendKeepsBodies = (most : ℕ) (hub : Hub) (next : Next) → next_send hub ≡ Some next → HasBodies most hub
    → HasBodies most next.hub

abbrev pub SendAgrees : Type 0
SendAgrees = (hub : Hub) (cs : List Claim) (os : List (Option Outcome)) (next : Next)
    → IsWindow hub.window (length hub.sent) (places hub.open_places) → AgreesWith hub cs os
    → next_send hub ≡ Some next → AgreesWith next.hub cs os

-- what is heard settles Asks
abbrev pub MessageSettles : Type 0
MessageSettles = (hub : Hub) (message : Option ToHub) (cs : List Claim) (os : List (Option Outcome))
    → IsWindow hub.window (length hub.sent) (places hub.open_places) → hub.fates ≡ [] → AgreesWith hub cs os
    → Settles (take_message hub message) cs os is_replied 0

abbrev pub QuietSettles : Type 0
QuietSettles = (hub : Hub) (cs : List Claim) (os : List (Option Outcome))
    → IsWindow hub.window (length hub.sent) (places hub.open_places) → hub.fates ≡ [] → AgreesWith hub cs os
    → Settles (hear_quiet hub) cs os is_given_up hub.window

-- outcomes that come keep a record what it is
abbrev pub RepliedLaw : Type 0
RepliedLaw = (items : List Item) (old new : List (Option Outcome)) (window now : ℕ) → IsKept items old window now
    → KeepsOutcomes old new → AddsOnly is_replied old new → PlacesCount (claims items) new → IsKept items new window now

abbrev pub GaveUpLaw : Type 0
GaveUpLaw = (items : List Item) (old new : List (Option Outcome)) (window now : ℕ) → IsKept items old window now
    → KeepsOutcomes old new → timeouts new ≤ timeouts old + window → PlacesCount (claims items) new
    → IsKept items new window (now + 1)

abbrev pub LostLaw : Type 0
LostLaw = (items : List Item) (old new : List (Option Outcome)) (window now : ℕ) → IsKept items old window now
    → KeepsOutcomes old new → AddsOnly is_lost old new → PlacesCount (claims items) new → IsKept items new window now

-- all of it
pub record PumpLaws : Type 0 where
  pub fates : SendLeaves
  pub bodies : SendKeepsBodies
  pub agrees : SendAgrees
  pub late : LateLaws
  pub message_bodies : (most : ℕ) (h : Hub) (message : Option ToHub) → HasBodies most h
      → HasBodies most (take_message h message)
  pub quiet_bodies : (most : ℕ) (h : Hub) → HasBodies most h → HasBodies most (hear_quiet h)
  pub message : MessageSettles
  pub quiet : QuietSettles
  pub replied : RepliedLaw
  pub gave_up : GaveUpLaw
  pub lost : LostLaw
  pub lost_agrees : (sent queue : List Offered) (os : List OpenPlace) (cs : List Claim) (outs : List (Option Outcome))
      → Agrees sent queue os cs outs → Agrees sent [] [] cs (all_lost (length sent) outs)
  pub lost_keeps : (sent : ℕ) (outs : List (Option Outcome)) → KeepsOutcomes outs (all_lost sent outs)
  pub lost_adds : (sent : ℕ) (outs : List (Option Outcome)) → AddsOnly is_lost outs (all_lost sent outs)
