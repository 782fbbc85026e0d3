-- What a hub makes of a receive. IPbus 2.0, reliability mechanism.
use Rattle.std.specs.Prelude.{◌≡◌, ℕ, ◌+◌, if◌then◌else◌, List, [], ◌∷◌, ◌++◌, Option, Some, None}
use Rattle.world_model.specs.Messages.{ToHub, StatusReply, Reply as ReplyTo, to_hub}
use Rattle.world_model.specs.Hub.{Hub, hear_quiet, is_waiting, take_message}
use Rattle.packet_ids.specs.Identifier.{identifier_at}
use Rattle.reliable_engine.specs.Answers.{IsOpen, TellsPlace}
use Rattle.ipb_base.specs.Faults.{one_more}
use Rattle.world_model.specs.Links.{IsHanded}
use Rattle.links.specs.Telling.{Telling}
use Rattle.hub_lane.specs.declared.answers.Pumped.{Pumped}
use Rattle.hub_lane.specs.declared.answers.Pumped.TheVariants.{Reply, Status, Stray, Quiet, Idle, LinkDown}

-- a datagram is the reply to the packet of an open place
pub record SettlesPlace (hub : Hub) (message : Option ToHub) (place : ℕ) : Type 0 where
  pub id : ℕ
  pub words : List ℕ
  pub reply : message ≡ Some (ReplyTo id words)
  pub open_there : IsOpen hub place
  pub identifier : identifier_at hub.first place ≡ id

-- a datagram is a status reply that a round waits for, which goes on behind it: only a settled place or a quiet receive
-- ends the round
pub record EndsRound (hub : Hub) (message : Option ToHub) : Type 0 where
  pub mtu : ℕ
  pub buffers : ℕ
  pub next : ℕ
  pub status : message ≡ Some (StatusReply mtu buffers next)
  pub told : TellsPlace hub next

-- a datagram is neither
pub record IsStray (hub : Hub) (message : Option ToHub) : Type 0 where
  pub no_reply : (place : ℕ) → ¬ SettlesPlace hub message place
  pub no_status : ¬ EndsRound hub message

-- what a datagram is to the hub
abbrev pub IsHeardAs : Hub → Option ToHub → Pumped → Type 0
IsHeardAs hub message (Reply place) = SettlesPlace hub message place
IsHeardAs hub message Status = EndsRound hub message
IsHeardAs hub message Stray = IsStray hub message
IsHeardAs hub message Quiet = ⊥
IsHeardAs hub message Idle = ⊥
IsHeardAs hub message LinkDown = ⊥

-- what a receive that ends so does to the hub
abbrev pub hub_after : Pumped → List ℕ → Hub → Hub
hub_after (Reply place) bytes hub = take_message hub (to_hub bytes)
hub_after Status bytes hub = take_message hub (to_hub bytes)
hub_after Stray bytes hub = take_message hub (to_hub bytes)
hub_after Quiet bytes hub = hear_quiet hub
hub_after Idle bytes hub = hub
hub_after LinkDown bytes hub = hub

-- a datagram of these bytes, or a quiet receive
abbrev pub IsEventAs : Hub → List ℕ → Pumped → Type 0
IsEventAs hub bytes (Reply place) = IsHeardAs hub (to_hub bytes) (Reply place)
IsEventAs hub bytes Status = IsHeardAs hub (to_hub bytes) Status
IsEventAs hub bytes Stray = IsHeardAs hub (to_hub bytes) Stray
IsEventAs hub bytes Quiet = Unit {0}
IsEventAs hub bytes Idle = ⊥
IsEventAs hub bytes LinkDown = ⊥

-- what a link that tells did in that receive: it handed the datagram out, or nothing is still to be heard
abbrev pub WasReceived : Pumped → List ℕ → Telling → Type 0
WasReceived (Reply place) bytes t = IsHanded t.told bytes
WasReceived Status bytes t = IsHanded t.told bytes
WasReceived Stray bytes t = IsHanded t.told bytes
WasReceived Quiet bytes t = t.due ≡ []
WasReceived Idle bytes t = Unit {0}
WasReceived LinkDown bytes t = Unit {0}

-- the counts of receives that were quiet, and of those that got a datagram, after a pump that came to this
abbrev pub quiets_of : Pumped → ℕ → ℕ
quiets_of (Reply place) count = count
quiets_of Status count = count
quiets_of Stray count = count
quiets_of Quiet count = one_more count
quiets_of Idle count = count
quiets_of LinkDown count = count

abbrev pub gots_of : Pumped → ℕ → ℕ
gots_of (Reply place) count = one_more count
gots_of Status count = one_more count
gots_of Stray count = one_more count
gots_of Quiet count = count
gots_of Idle count = count
gots_of LinkDown count = count

-- what the receives came to, after a pump that came to this and left these bytes in its buffer
abbrev pub receives_of : Pumped → List ℕ → List (Option (List ℕ)) → List (Option (List ℕ))
receives_of (Reply place) bytes before = before ++ Some bytes ∷ []
receives_of Status bytes before = before ++ Some bytes ∷ []
receives_of Stray bytes before = before ++ Some bytes ∷ []
receives_of Quiet bytes before = before ++ None ∷ []
receives_of Idle bytes before = before
receives_of LinkDown bytes before = before

-- how often the hub gave up, after a quiet receive that left it so
abbrev pub give_ups_after : Hub → ℕ → ℕ
give_ups_after hub count = if is_waiting hub then count else count + 1

abbrev pub give_ups_of : Pumped → Hub → ℕ → ℕ
give_ups_of (Reply place) hub count = count
give_ups_of Status hub count = count
give_ups_of Stray hub count = count
give_ups_of Quiet hub count = give_ups_after hub count
give_ups_of Idle hub count = count
give_ups_of LinkDown hub count = count
