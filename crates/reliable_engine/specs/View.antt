-- What an engine keeps, and the hub that it is. No public contract speaks of it.
use Rattle.std.specs.Prelude.{ℕ, ◌+◌, ◌-◌, ◌≤◌, ◌^◌, List, length, take, drop}
use Rattle.packet_ids.specs.Identifier.{IsIdentifier}
use Rattle.world_model.specs.declared.offered.OpenPlace.{OpenPlace}
use Rattle.world_model.specs.Hub.{Hub, places}
use Rattle.world_model.specs.Facts.{IsWindow}
use Rattle.reliable_engine.specs.declared.engine.Engine.TheInside.{Inside}
use Rattle.reliable_engine.specs.Steps.{waits}

abbrev pub hub_of : Inside → Hub
hub_of e = record {
  first = e.first;
  window = e.window;
  rounds = e.rounds;
  sent = take e.sent e.bodies.items;
  queue = drop e.sent e.bodies.items;
  open_places = e.open_places;
  status_requests = e.status_requests;
  status_wanted = e.status_wanted;
  gave_up = e.gave_up;
  fates = e.fates.items;
  lates = e.lates.items;
}

-- The bodies that were offered are `count` in all, without those that were never sent; the first `sent` of them have a
-- place. There is room for the fates of all.
pub record Keeps (first window sent count : ℕ) (os : List OpenPlace) (fates fate_room lates late_room : ℕ) : Type 0
  where
    pub identifier : IsIdentifier first
    pub within : sent ≤ count
    pub few : count ≤ 2 ^ 62
    pub in_window : IsWindow window sent (places os)
    pub fates_fit : fates + waits os + (count - sent) ≤ fate_room
    pub lates_fit : lates + length os + (count - sent) ≤ late_room

abbrev pub IsKept : Inside → Type 0
IsKept e = Keeps e.first e.window e.sent (length e.bodies.items) e.open_places e.fates.len e.fates.cap
    e.lates.len e.lates.cap
