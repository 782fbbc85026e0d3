-- All fates that a list of events brings about: which are handed out, which wait, and whose they are. Profile.
use Rattle.std.specs.Prelude.{◌≡◌, ◌⊎◌, ℕ, ◌+◌, ◌≤◌, if◌then◌else◌, List, [], ◌∷◌, ◌++◌, take, length, map}
use Rattle.world_model.specs.declared.offered.Offered.{Offered}
use Rattle.world_model.specs.declared.offered.OpenPlace.{OpenPlace}
use Rattle.world_model.specs.declared.offered.Fate.{Fate}
use Rattle.world_model.specs.declared.offered.Fate.TheVariants.{Replied, TimedOut, Unsent}
use Rattle.world_model.specs.Hub.{Hub}
use Rattle.world_model.specs.Facts.{IsTagged}
use Rattle.world_model.specs.History.{placed_tags, tag_of_fate, tag_of_offered, times, waited_tags}
use Rattle.reliable_engine.specs.Events.{HubEvent, Offer, Status, Reply, Quiet, Send, HandOut, HandOutLate}
use Rattle.reliable_engine.specs.Events.{after_event, after_events}

-- the fate that an event hands out
abbrev pub fates_handed_out : Hub → HubEvent → List (ℕ × Fate)
fates_handed_out hub (Offer offered) = []
fates_handed_out hub (Status next) = []
fates_handed_out hub (Reply id words) = []
fates_handed_out hub Quiet = []
fates_handed_out hub Send = []
fates_handed_out hub HandOut = take 1 hub.fates
fates_handed_out hub HandOutLate = []

-- those that all the events hand out, in order
abbrev pub handed_out : Hub → List HubEvent → List (ℕ × Fate)
handed_out hub [] = []
handed_out hub (event ∷ events) = fates_handed_out hub event ++ handed_out (after_event hub event) events

-- all fates after the events: those that were handed out, and then those that wait
abbrev pub all_fates : Hub → List HubEvent → List (ℕ × Fate)
all_fates hub events = handed_out hub events ++ (after_events hub events).fates

-- the items of one list stand in another, in their order
abbrev pub StandsIn : {T : Type 0} → List T → List T → Type 0
StandsIn [] ys = Unit {0}
StandsIn (x ∷ xs) [] = ⊥
StandsIn (x ∷ xs) (y ∷ ys) = ((x ≡ y) × StandsIn xs ys) ⊎ StandsIn (x ∷ xs) ys

-- the places of fates
abbrev pub fate_places : List (ℕ × Fate) → List ℕ
fate_places [] = []
fate_places ((tag, Replied place words) ∷ fates) = place ∷ fate_places fates
fate_places ((tag, TimedOut place rounds) ∷ fates) = place ∷ fate_places fates
fate_places ((tag, Unsent) ∷ fates) = fate_places fates

-- bodies that were never sent
abbrev pub AreUnsent : List (ℕ × Fate) → Type 0
AreUnsent [] = Unit {0}
AreUnsent ((tag, Replied place words) ∷ fates) = ⊥
AreUnsent ((tag, TimedOut place rounds) ∷ fates) = ⊥
AreUnsent ((tag, Unsent) ∷ fates) = AreUnsent fates

-- fates of places from this one on, none behind that of a higher place, and then those of bodies that were never sent
abbrev pub AreByPlace : ℕ → List (ℕ × Fate) → Type 0
AreByPlace from [] = Unit {0}
AreByPlace from ((tag, Replied place words) ∷ fates) = (from ≤ place) × AreByPlace place fates
AreByPlace from ((tag, TimedOut place rounds) ∷ fates) = (from ≤ place) × AreByPlace place fates
AreByPlace from ((tag, Unsent) ∷ fates) = AreUnsent fates

-- a fate with a place has the tag of the body that was sent there
abbrev pub IsOfItsBody : List Offered → ℕ × Fate → Type 0
IsOfItsBody sent (tag, Replied place words) = IsTagged sent tag place
IsOfItsBody sent (tag, TimedOut place rounds) = IsTagged sent tag place
IsOfItsBody sent (tag, Unsent) = Unit {0}

-- the places that are waited for
abbrev pub waited_places : List OpenPlace → List ℕ
waited_places [] = []
waited_places (o ∷ os) = if o.waited then o.place ∷ waited_places os else waited_places os

-- how often a place stands among the fates and the places that are waited for
abbrev pub tellings : Hub → List (ℕ × Fate) → ℕ → ℕ
tellings hub fates place = times place (fate_places fates) + times place (waited_places hub.open_places)

-- a place that was sent
pub record IsSentPlace (hub : Hub) (place : ℕ) : Type 0 where
  pub from_one : 1 ≤ place
  pub up_to_last : place ≤ length hub.sent

-- the tags of the bodies that the events offer
abbrev pub offered_tags : List HubEvent → List ℕ
offered_tags [] = []
offered_tags (Offer offered ∷ events) = offered.tag ∷ offered_tags events
offered_tags (Status next ∷ events) = offered_tags events
offered_tags (Reply id words ∷ events) = offered_tags events
offered_tags (Quiet ∷ events) = offered_tags events
offered_tags (Send ∷ events) = offered_tags events
offered_tags (HandOut ∷ events) = offered_tags events
offered_tags (HandOutLate ∷ events) = offered_tags events

-- Every offered body stands once among the fates, the bodies that are waited for and those that are queued; and every
-- body that was sent stands once among the fates with a place and the bodies that are waited for.
pub record IsAccounted (hub : Hub) (fates : List (ℕ × Fate)) (offers : List ℕ) (tag : ℕ) : Type 0 where
  pub offered : times tag offers ≡
      times tag (map tag_of_fate fates) + times tag (waited_tags hub.sent hub.open_places)
      + times tag (map tag_of_offered hub.queue)
  pub sent : times tag (map tag_of_offered hub.sent) ≡
      times tag (placed_tags fates) + times tag (waited_tags hub.sent hub.open_places)
