-- What a pump does to a link that tells. Profile.
use Rattle.std.specs.Prelude.{◌≡◌, ℕ, suc, zero, List, [], ◌∷◌, ◌++◌, Option, Some, None}
use Rattle.world_model.specs.Hub.{Hub, after_handing_out}
use Rattle.world_model.specs.Links.{IsHandedAt, IsHeard, Told, sent_on}
use Rattle.world_model.specs.Sends.{Next, bytes_to_send, next_send}
use Rattle.links.specs.Telling.{Telling}
use Rattle.hub_lane.specs.declared.answers.Pumped.{Pumped}
use Rattle.hub_lane.specs.declared.answers.Pumped.TheVariants.{Reply, Status, Stray, Quiet, Idle, LinkDown}
use Rattle.hub_lane.specs.Sends.{after_sends, all_sent}
use Rattle.hub_lane.specs.Hearing.{IsEventAs, hub_after}

-- the packet of the next send, where there is one
abbrev pub packet_of : Option Next → List (List ℕ)
packet_of None = []
packet_of (Some next) = bytes_to_send next.hub next.send ∷ []

-- the packets of so many sends, or of all, where there are no more
abbrev pub packets : ℕ → Hub → List (List ℕ)
packets zero hub = []
packets (suc count) hub = packets count hub ++ packet_of (next_send (after_sends count hub))

-- these went into the air for the board, in this order
abbrev pub put_on : Told → List (List ℕ) → Told
put_on told [] = told
put_on told (bytes ∷ later) = put_on (sent_on told bytes) later

-- sends were taken from a hub, and their packets went into the air
pub record HasPut (old new : Hub) (before after : Telling) : Type 0 where
  pub count : ℕ
  pub sends : new ≡ after_sends count old
  pub air : after.told ≡ put_on before.told (packets count old)
  pub handed : after.handed ≡ before.handed

-- the board heard some datagrams, and then a datagram of these bytes was handed out
pub record HandsOut (bytes : List ℕ) (before after : Telling) : Type 0 where
  pub heard : IsHeard before.told after.told
  pub place : ℕ
  pub there : IsHandedAt after.told bytes place
  pub handed : after.handed ≡ before.handed ++ place ∷ []

-- the board heard some datagrams, none was handed out, and none is still to be heard
pub record HandsOutNothing (before after : Telling) : Type 0 where
  pub heard : IsHeard before.told after.told
  pub handed : after.handed ≡ before.handed
  pub none_due : after.due ≡ []

abbrev pub Brings : Pumped → List ℕ → Telling → Telling → Type 0
Brings (Reply place) bytes before after = HandsOut bytes before after
Brings Status bytes before after = HandsOut bytes before after
Brings Stray bytes before after = HandsOut bytes before after
Brings Quiet bytes before after = HandsOutNothing before after
Brings Idle bytes before after = Unit {0}
Brings LinkDown bytes before after = Unit {0}

-- all that a hub wants went into the air, and then a receive brought this
pub record Carries (pumped : Pumped) (bytes : List ℕ) (hub : Hub) (before after : Telling) : Type 0 where
  pub between : Telling
  pub put : HasPut hub (all_sent hub) before between
  pub brings : Brings pumped bytes between after

-- ... and the hub heard that
pub record HasCarried (pumped : Pumped) (old new : Hub) (before after : Telling) : Type 0 where
  pub bytes : List ℕ
  pub carries : Carries pumped bytes old before after
  pub event : IsEventAs (all_sent old) bytes pumped
  pub heard : new ≡ after_handing_out (hub_after pumped bytes (all_sent old))

-- where nobody waits nothing is done; of a link that fails nothing more is said here
abbrev pub Pumping : Pumped → Hub → Hub → Telling → Telling → Type 0
Pumping (Reply place) old new before after = HasCarried (Reply place) old new before after
Pumping Status old new before after = HasCarried Status old new before after
Pumping Stray old new before after = HasCarried Stray old new before after
Pumping Quiet old new before after = HasCarried Quiet old new before after
Pumping Idle old new before after = after ≡ before
Pumping LinkDown old new before after = Unit {0}
