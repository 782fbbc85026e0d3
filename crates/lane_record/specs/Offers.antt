-- What ties a record to the hub that sends its bodies: an Ask is an offer under the number of the Ask. Profile.
use Rattle.std.specs.Prelude.{◌≡◌, ◌⊎◌, ℕ, Bool, true, zero, suc, ◌+◌, ◌≤◌, if◌then◌else◌, nat_lt}
use Rattle.std.specs.Prelude.{List, [], ◌∷◌, ◌++◌, map, Option, Some, None}
use Rattle.std.specs.List.{AllByRecursion, slice_get}
use Rattle.world_model.specs.declared.offered.Offered.{Offered}
use Rattle.world_model.specs.declared.offered.OpenPlace.{OpenPlace}
use Rattle.world_model.specs.declared.offered.Fate.{Fate}
use Rattle.world_model.specs.declared.offered.Fate.TheVariants as fate
use Rattle.world_model.specs.Places.{at_place}
use Rattle.world_model.specs.Hub.{Hub, tag_of}
use Rattle.lane_record.specs.declared.outcome.Outcome.{Outcome}
use Rattle.lane_record.specs.declared.outcome.Outcome.TheVariants.{Replied, TimedOut, Unsent, LinkLost}
use Rattle.lane_record.specs.Outcomes.{is_sent}
use Rattle.lane_record.specs.Claims.{Claim}
use Rattle.lane_record.specs.FirstSends.{may_have_place, PlacesCount}
use Rattle.lane_record.specs.Bounds.{timeouts}

-- The bodies of the Asks from number n on that were sent or may still be, each under the number of its Ask: what the
-- hub has sent, and then what it has queued.
abbrev pub offers_from : ℕ → List Claim → List (Option Outcome) → List Offered
offers_from n cs [] = []
offers_from n [] (o ∷ os) = []
offers_from n (c ∷ cs) (o ∷ os) =
    if may_have_place o
    then record { tag = n; body = c.body } ∷ offers_from (n + 1) cs os
    else offers_from (n + 1) cs os

-- the numbers of the Asks, from n on, that nothing became of so far
abbrev pub unsettled_from : ℕ → List (Option Outcome) → List ℕ
unsettled_from n [] = []
unsettled_from n (None ∷ os) = n ∷ unsettled_from (n + 1) os
unsettled_from n (Some outcome ∷ os) = unsettled_from (n + 1) os

-- the tags of the bodies that the hub waits for: those at open places that are waited for, and those in its queue
abbrev pub tag_at : List Offered → ℕ → ℕ
tag_at sent place = tag_of (at_place sent place)

abbrev pub awaited_tags : List Offered → List OpenPlace → List ℕ
awaited_tags sent [] = []
awaited_tags sent (o ∷ os) = if o.waited then tag_at sent o.place ∷ awaited_tags sent os else awaited_tags sent os

abbrev pub tag_in : Offered → ℕ
tag_in offered = offered.tag

abbrev pub tags : List Offered → List ℕ
tags offers = map tag_in offers

-- The hub was offered the bodies of the Asks in order, and waits for those that nothing became of so far.
pub record Agrees (sent queue : List Offered) (open_places : List OpenPlace) (claims : List Claim)
    (outcomes : List (Option Outcome)) : Type 0 where
  pub counts : PlacesCount claims outcomes
  pub offered : sent ++ queue ≡ offers_from 0 claims outcomes
  pub waits : awaited_tags sent open_places ++ tags queue ≡ unsettled_from 0 outcomes

abbrev pub AgreesWith : Hub → List Claim → List (Option Outcome) → Type 0
AgreesWith hub claims outcomes = Agrees hub.sent hub.queue hub.open_places claims outcomes

-- an Ask as it is offered: its number is its tag
abbrev pub offer_of : ℕ → Claim → Offered
offer_of number claim = record { tag = number; body = claim.body }

-- ---- what becomes of an Ask

abbrev pub put : ℕ → Outcome → List (Option Outcome) → List (Option Outcome)
put k outcome [] = []
put zero outcome (o ∷ os) = Some outcome ∷ os
put (suc k) outcome (o ∷ os) = o ∷ put k outcome os

abbrev pub outcome_of : Fate → Outcome
outcome_of (fate.Replied place words) = Replied place words
outcome_of (fate.TimedOut place rounds) = TimedOut place rounds
outcome_of fate.Unsent = Unsent

-- the fates that a hub hands out
abbrev pub put_all : List (ℕ × Fate) → List (Option Outcome) → List (Option Outcome)
put_all [] outcomes = outcomes
put_all (f ∷ fs) outcomes = put_all fs (put f.0 (outcome_of f.1) outcomes)

-- The link failed after so many first sends: what nothing became of so far is lost, with its place where it was sent.
abbrev pub lost_after : ℕ → ℕ → List (Option Outcome) → List (Option Outcome)
lost_after others sent [] = []
lost_after others sent (Some outcome ∷ os) =
    Some outcome ∷ lost_after (if is_sent outcome then others + 1 else others) sent os
lost_after others sent (None ∷ os) =
    if nat_lt others sent
    then Some (LinkLost (Some (others + 1))) ∷ lost_after (others + 1) sent os
    else Some (LinkLost None) ∷ lost_after others sent os

abbrev pub all_lost : ℕ → List (Option Outcome) → List (Option Outcome)
all_lost sent outcomes = lost_after 0 sent outcomes

-- what became of the Ask of this number is a fate that was handed out for it, unless it was lost with the link
pub record WasHandedOut (fates : List (ℕ × Fate)) (k : ℕ) (fate : Fate) : Type 0 where
  pub number : ℕ
  pub there : slice_get fates number ≡ Some (k, fate)

abbrev pub IsToldBy : List (ℕ × Fate) → ℕ → Outcome → Type 0
IsToldBy fates k (Replied place words) = WasHandedOut fates k (fate.Replied place words)
IsToldBy fates k (TimedOut place rounds) = WasHandedOut fates k (fate.TimedOut place rounds)
IsToldBy fates k Unsent = WasHandedOut fates k fate.Unsent
IsToldBy fates k (LinkLost place) = Unit {0}

abbrev pub AreToldBy : List (ℕ × Fate) → List (Option Outcome) → Type 0
AreToldBy fates outcomes = (k : ℕ) (o : Outcome) → slice_get outcomes k ≡ Some (Some o) → IsToldBy fates k o

-- each of these fates is what became of the Ask of its tag
abbrev pub AreOutcomes : List (ℕ × Fate) → List (Option Outcome) → Type 0
AreOutcomes fates outcomes =
    AllByRecursion (λ (f : ℕ × Fate). slice_get outcomes f.0 ≡ Some (Some (outcome_of f.1))) fates

-- what became of an Ask stays
abbrev pub KeepsOutcomes : List (Option Outcome) → List (Option Outcome) → Type 0
KeepsOutcomes old new =
    (k : ℕ) (outcome : Outcome) → slice_get old k ≡ Some (Some outcome) → slice_get new k ≡ Some (Some outcome)

-- the new outcomes are all of one kind
abbrev pub AddsOnly : (Outcome → Bool) → List (Option Outcome) → List (Option Outcome) → Type 0
AddsOnly kind old new = (k : ℕ) (outcome : Outcome) → slice_get new k ≡ Some (Some outcome)
    → (slice_get old k ≡ Some (Some outcome)) ⊎ (kind outcome ≡ true)

-- A hub whose fates are still to be handed out: with them the outcomes agree with it, and each of them is the outcome
-- of its Ask. What became of an Ask stays, what is new is of one kind, and at most so many bodies more are timed out.
pub record Settles (hub : Hub) (claims : List Claim) (old : List (Option Outcome)) (kind : Outcome → Bool) (most : ℕ)
    : Type 0 where
  pub agrees : Agrees hub.sent hub.queue hub.open_places claims (put_all hub.fates old)
  pub told : AreOutcomes hub.fates (put_all hub.fates old)
  pub keeps : KeepsOutcomes old (put_all hub.fates old)
  pub adds : AddsOnly kind old (put_all hub.fates old)
  pub few : timeouts (put_all hub.fates old) ≤ timeouts old + most
