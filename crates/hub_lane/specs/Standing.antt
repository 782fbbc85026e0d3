-- How a hub stands to a link that tells: they are a state of a run of the world, whatever the link did to the
-- datagrams. Profile.
use Rattle.std.specs.Prelude.{◌≡◌, ◌⊎◌, ℕ, ◌<◌, Bool, true, false, List, length, Option, IfSome}
use Rattle.std.specs.List.{AllByRecursion, Contains}
use Rattle.world_model.specs.declared.datagram.Datagram.{Datagram}
use Rattle.world_model.specs.declared.offered.Fate.{Fate}
use Rattle.world_model.specs.declared.offered.Fate.TheVariants.{Replied, TimedOut, Unsent}
use Rattle.world_model.specs.Board.{Board}
use Rattle.world_model.specs.Hub.{HandedOut, Hub, hands_out, is_waiting}
use Rattle.world_model.specs.Sends.{next_send}
use Rattle.world_model.specs.World.{start}
use Rattle.world_model.specs.Facts.{IsStart}
use Rattle.reliable_engine.specs.Answers.{IsOpen, hub_next}
use Rattle.world_model.specs.Settings.{Limits}
pub use Rattle.links.specs.Handed.{WasHanded}
use Rattle.links.specs.States.{IsReached}
use Rattle.links.specs.Telling.{Telling}
use Rattle.lane_record.specs.declared.outcome.Outcome.{Outcome}
use Rattle.lane_record.specs.Lates.{AreLatesToldBy}
use Rattle.lane_record.specs.Offers.{AreToldBy}

abbrev pub IsHandedFate : Telling → ℕ × Fate → Type 0
IsHandedFate t (tag, Replied place words) = WasHanded t place words
IsHandedFate t (tag, TimedOut place rounds) = Unit {0}
IsHandedFate t (tag, Unsent) = Unit {0}

abbrev pub IsHandedLate : Telling → ℕ × List ℕ → Type 0
IsHandedLate t late = WasHanded t late.0 late.1

-- the link handed out each reply among them
pub record AreHanded (t : Telling) (out : HandedOut) : Type 0 where
  pub fates : AllByRecursion (IsHandedFate t) out.fates
  pub lates : AllByRecursion (IsHandedLate t) out.lates

-- what was handed out stands in the air
abbrev pub AreInAir : Telling → Type 0
AreInAir t = (number : ℕ) → Contains t.handed number → number < length t.told.air

-- No reply of a place that is still open was handed out: the hub heard each datagram that was.
pub record NoneOpenHanded (hub : Hub) (t : Telling) : Type 0 where
  pub in_air : AreInAir t
  pub none : (place : ℕ) (words : List ℕ) → IsOpen hub place → ¬ WasHanded t place words

-- The hub, the board and the air are a state of a run from where a greeting ended, but that sends may still wait. The
-- outcomes and what came late were handed out in that run, and the link handed out each reply among what was.
pub record IsRunning (limits : Limits) (hub : Hub) (outcomes : List (Option Outcome)) (lates : List (Option (List ℕ)))
    (t : Telling) : Type 0 where
  pub board : Board
  pub air : List Datagram
  pub begins : IsStart limits.window board air
  pub out : HandedOut
  pub reached : IsReached (start limits.window limits.rounds board air) out hub t.told
  pub told : AreToldBy out.fates outcomes
  pub late : AreLatesToldBy out.lates lates
  pub handed : AreHanded t (hands_out out hub)

-- The same of a hub from which no more is sent: its last send may have been taken from it and refused by the link.
pub record IsStopped (limits : Limits) (hub : Hub) (outcomes : List (Option Outcome)) (lates : List (Option (List ℕ)))
    (t : Telling) : Type 0 where
  pub before : Hub
  pub running : IsRunning limits before outcomes lates t
  pub refused : (hub ≡ before) ⊎ (hub ≡ hub_next before (next_send before))

abbrev pub IsStanding : Bool → Limits → Hub → List (Option Outcome) → List (Option (List ℕ)) → Telling → Type 0
IsStanding false limits hub outcomes lates t = IsRunning limits hub outcomes lates t
IsStanding true limits hub outcomes lates t = IsStopped limits hub outcomes lates t

-- where a hub and what its link tells were a state of a run, they are one after a call, or one that has stopped
abbrev pub GoesOn : Option Telling → Hub → Option Telling → Hub → Type 0
GoesOn old_telling old new_telling new = (limits : Limits) (outcomes : List (Option Outcome))
    (lates : List (Option (List ℕ))) → IfSome old_telling (IsRunning limits old outcomes lates)
    → IfSome new_telling (IsRunning limits new outcomes lates)

abbrev pub Stops : Option Telling → Hub → Option Telling → Hub → Type 0
Stops old_telling old new_telling new = (limits : Limits) (outcomes : List (Option Outcome))
    (lates : List (Option (List ℕ))) → IfSome old_telling (IsRunning limits old outcomes lates)
    → IfSome new_telling (IsStopped limits new outcomes lates)

-- where no reply of an open place was handed out before a call, none was after it
abbrev pub StaysUnanswered : Option Telling → Hub → Option Telling → Hub → Type 0
StaysUnanswered old_telling old new_telling new = (limits : Limits) (outcomes : List (Option Outcome))
    (lates : List (Option (List ℕ))) → IfSome old_telling (IsRunning limits old outcomes lates)
    → IfSome old_telling (NoneOpenHanded old) → IfSome new_telling (NoneOpenHanded new)

-- A hub for which memory ran out in a receive, while a body waited, hears no more: so the body waits for good.
pub record WaitsInVain (hub : Hub) (down spent : Bool) : Type 0 where
  pub ran_out : spent ≡ true
  pub link_up : down ≡ false
  pub waits : is_waiting hub ≡ true

-- No reply of an open place was handed out, unless memory ran out in hearing one.
abbrev pub IsUnanswered : Hub → Bool → Bool → Telling → Type 0
IsUnanswered hub down spent t = NoneOpenHanded hub t ⊎ WaitsInVain hub down spent
