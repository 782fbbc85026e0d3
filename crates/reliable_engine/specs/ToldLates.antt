-- All late answers that a list of events brings about: which are handed out, and which wait. Profile.
use Rattle.std.specs.Prelude.{ℕ, ◌≤◌, List, [], ◌∷◌, ◌++◌, take}
use Rattle.world_model.specs.Hub.{Hub, HandedOut}
use Rattle.reliable_engine.specs.Events.{HubEvent, Offer, Status, Reply, Quiet, Send, HandOut, HandOutLate}
use Rattle.reliable_engine.specs.Events.{after_event, after_events}
use Rattle.reliable_engine.specs.ToldFates.{handed_out}

-- the late answer that an event hands out
abbrev pub late_handed : Hub → HubEvent → List (ℕ × List ℕ)
late_handed hub (Offer offered) = []
late_handed hub (Status next) = []
late_handed hub (Reply id words) = []
late_handed hub Quiet = []
late_handed hub Send = []
late_handed hub HandOut = []
late_handed hub HandOutLate = take 1 hub.lates

-- those that all the events hand out, in order
abbrev pub lates_handed_out : Hub → List HubEvent → List (ℕ × List ℕ)
lates_handed_out hub [] = []
lates_handed_out hub (event ∷ events) = late_handed hub event ++ lates_handed_out (after_event hub event) events

-- all late answers after the events: those that were handed out, and then those that wait
abbrev pub all_lates : Hub → List HubEvent → List (ℕ × List ℕ)
all_lates hub events = lates_handed_out hub events ++ (after_events hub events).lates

-- what the events hand out
abbrev pub handed_out_by : Hub → List HubEvent → HandedOut
handed_out_by hub events = record { fates = handed_out hub events; lates = lates_handed_out hub events }

-- late answers of places from this one on, none behind that of a higher place
abbrev pub AreLatesByPlace : ℕ → List (ℕ × List ℕ) → Type 0
AreLatesByPlace from [] = Unit {0}
AreLatesByPlace from (late ∷ lates) = (from ≤ late.0) × AreLatesByPlace late.0 lates
