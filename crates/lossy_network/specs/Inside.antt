-- How the code keeps a simulated link and a rack. The private functions speak of it and no public clause does.
use Rattle.std.specs.Prelude.{◌≡◌, ℕ, ◌+◌, ◌<◌, ◌≤◌, Bool, true, false, length}
use Rattle.std.specs.List.{AllByRecursion}
use Rattle.std.specs.VecDeque.{deque_len, deque_capacity}
use Rattle.std.specs.Vec.{vec_len, vec_capacity}
use Rattle.rand_pcg.specs.Lcg.{Lcg, advance}
use Rattle.rand_pcg.specs.Pcg.{multiplier_64}
use Rattle.board_specs.specs.declared.spec.Fates.{Fates}
use Rattle.board_specs.specs.declared.spec.Fates.TheVariants.{Text, Noise}
use Rattle.world_model.specs.declared.datagram.Datagram.{Datagram}
use Rattle.world_model.specs.declared.datagram.Direction.{Direction}
use Rattle.world_model.specs.declared.datagram.Direction.TheVariants.{ToBoard, ToHub}
use Rattle.links.specs.declared.link.TheConstants.{MAX_DATAGRAM}
use Rattle.lossy_network.specs.declared.under_way.UnderWay.{UnderWay}
use Rattle.lossy_network.specs.declared.link.SimLink.TheInside.{Inside}
use Rattle.lossy_network.specs.declared.sim_rack.SimRack.TheInside.{Inside as RackInside}
use Rattle.lossy_network.specs.Fates.{generator_of}
use Rattle.lossy_network.specs.Traffic.{Traffic}
use Rattle.lossy_network.specs.Network.{Front, Nothing, ForHub, Taken, Network, Taking, front}
use Rattle.lossy_network.specs.Racks.{RackState}

-- ---- fates

-- the generator of a noise after it has drawn so many words; a text needs none
abbrev pub IsDrawn : Fates → ℕ → Lcg → Type 0
IsDrawn (Text text) count generator = Unit {0}
IsDrawn (Noise noise) count generator = generator ≡ advance 64 multiplier_64 count (generator_of noise)

-- ---- datagrams under way

abbrev pub traffic_of : UnderWay → Traffic
traffic_of u = record { queue = u.queue.items; delayed = u.delayed.items; held = u.held }

-- room for those that are released and for two copies of one more, and for one more that is delayed
pub record HasRoom (u : UnderWay) : Type 0 where
  pub queue : deque_len u.queue + vec_len u.delayed + 2 ≤ deque_capacity u.queue
  pub delayed : vec_len u.delayed < vec_capacity u.delayed

-- ---- the link

abbrev pub network_of : Inside → Network
network_of l = record {
  told = l.air;
  traffic = traffic_of l.under_way;
  handed = l.handed.items;
  fates = l.fates;
  fail = l.fail.items;
  calls = l.calls;
  faults = l.faults;
  quiets = l.quiets;
  gots = l.gots;
  passed = l.passed;
  number = l.number;
}

-- a datagram for the hub is not too long
abbrev pub IsShortTo : Direction → ℕ → Type 0
IsShortTo ToBoard size = Unit {0}
IsShortTo ToHub size = size ≤ MAX_DATAGRAM

abbrev pub IsShort : Datagram → Type 0
IsShort datagram = IsShortTo datagram.direction (length datagram.bytes)

-- The generator has drawn a word for each datagram, and no answer of the board was too long.
pub record IsLink (l : Inside) : Type 0 where
  pub drawn : IsDrawn l.fates (length l.air.air) l.noise
  pub short : AllByRecursion IsShort l.air.air

-- a datagram was taken from the front; or there is none to take, and nothing changed
abbrev pub stands : Front → Bool
stands Nothing = true
stands (ForHub place bytes) = true
stands (Taken taking after) = false

abbrev pub IsTaken : Bool → Network → Network → Type 0
IsTaken true old new = (taking : Taking) × (front old ≡ Taken taking new)
IsTaken false old new = (stands (front old) ≡ true) × (new ≡ old)

-- ---- the rack

abbrev pub rack_of : RackInside → RackState
rack_of r = record {
  fail_makes = r.fail_makes.items;
  fail_calls = r.fail_calls.items;
  makes = r.makes;
  made = r.made;
  faults = r.faults;
  kept = r.kept.items;
}

-- no more links are kept than were made, and there is room for all that were made
pub record IsRack (r : RackInside) : Type 0 where
  pub within : length r.kept.items ≤ length r.made
  pub places : length r.made ≤ vec_capacity r.kept
