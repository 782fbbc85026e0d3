-- Sends of a hub, one after another. Profile.
use Rattle.std.specs.Prelude.{◌≡◌, ℕ, [], replicate}
use Rattle.world_model.specs.Hub.{Hub}
use Rattle.world_model.specs.Sends.{pending}
use Rattle.reliable_engine.specs.Events.{Send, after_events}

-- the hub after so many sends, or after all, where there are no more
abbrev pub after_sends : ℕ → Hub → Hub
after_sends count hub = after_events hub (replicate count Send)

-- the hub once all that it wants is sent
abbrev pub all_sent : Hub → Hub
all_sent hub = after_sends (pending hub) hub

-- some sends were taken from a hub
pub record HasSent (old new : Hub) : Type 0 where
  pub count : ℕ
  pub sends : new ≡ after_sends count old

-- the hub whose fates were all handed out, and the one whose late answers were
abbrev pub without_fates : Hub → Hub
without_fates hub = record hub { fates = [] }

abbrev pub without_lates : Hub → Hub
without_lates hub = record hub { lates = [] }
