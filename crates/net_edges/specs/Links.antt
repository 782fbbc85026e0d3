-- A link that is simulated, which tells, or goes over UDP, which does not. Profile.
use Rattle.std.specs.Prelude.{ℕ, List, [], ◌∷◌, ◌++◌, Option, Some, None, Result, Ok, Err}
use Rattle.ipb_base.specs.Faults.{one_more}
use Rattle.board_specs.specs.declared.spec.LinkSpec.{LinkSpec}
use Rattle.board_specs.specs.declared.spec.LinkSpec.TheVariants.{Sim as SimBoard, Udp as UdpBoard}
use Rattle.reliable_engine.specs.Traffic.{Passed}
use Rattle.links.specs.Telling.{Telling}
use Rattle.lossy_network.specs.Network.{new_network, telling_of as network_telling, with_number as numbered}
use Rattle.links.specs.Racks.{fresh_board}
use Rattle.links.specs.declared.rack.RackFault.{RackFault}
use Rattle.links.specs.declared.rack.RackFault.TheVariants.{Failed, NoMemory}
use Rattle.std_edges.specs.States.{new_udp, with_number as udp_numbered}
use Rattle.net_edges.specs.declared.any_link.AnyLink.{AnyLink}
use Rattle.net_edges.specs.declared.any_link.AnyLink.TheVariants.{Sim, Udp}

abbrev pub telling_of_real : AnyLink → Option Telling
telling_of_real (Sim link) = Some (network_telling link)
telling_of_real (Udp link) = None

abbrev pub faults_of : AnyLink → ℕ
faults_of (Sim link) = link.faults
faults_of (Udp link) = link.faults

abbrev pub quiets_of : AnyLink → ℕ
quiets_of (Sim link) = link.quiets
quiets_of (Udp link) = link.quiets

abbrev pub gots_of : AnyLink → ℕ
gots_of (Sim link) = link.gots
gots_of (Udp link) = link.gots

-- what a link over UDP lost is not known
abbrev pub held_of : AnyLink → ℕ
held_of (Sim link) = link.traffic.held
held_of (Udp link) = 0

-- what passed in the calls that did not fail
abbrev pub traffic_of : AnyLink → List Passed
traffic_of (Sim link) = link.passed
traffic_of (Udp link) = link.traffic

-- its number among the links of its rack
abbrev pub number_of : AnyLink → ℕ
number_of (Sim link) = link.number
number_of (Udp link) = link.number

abbrev pub with_number : ℕ → AnyLink → AnyLink
with_number number (Sim link) = Sim (numbered number link)
with_number number (Udp link) = Udp (udp_numbered number link)

-- The link that is made for a board: no call of a simulated one fails. One over UDP goes to the address and the port of
-- the board, waits as long as its document says, and starts with counts of 0 and no traffic.
abbrev pub new_link : LinkSpec → AnyLink
new_link (SimBoard mtu buffers first ranges fates) =
    Sim (new_network (fresh_board mtu buffers first ranges) fates [])
new_link (UdpBoard address port wait) = Udp (new_udp address port wait)

abbrev pub IsOnNetwork : LinkSpec → Type 0
IsOnNetwork (SimBoard mtu buffers first ranges fates) = ⊥
IsOnNetwork (UdpBoard address port wait) = Unit {0}

-- a rack of such links: those that were given back, in order, the specs that it made links of, in order, and how often
-- it could make none
pub record RealRackState : Type 0 where
  pub kept : List AnyLink
  pub made : List LinkSpec
  pub faults : ℕ

-- a make puts down the spec that a link was made of, or counts that none could be made
abbrev pub after_make : Result AnyLink RackFault → LinkSpec → RealRackState → RealRackState
after_make (Ok link) spec rack = record rack { made = rack.made ++ spec ∷ [] }
after_make (Err Failed) spec rack = record rack { faults = one_more rack.faults }
after_make (Err NoMemory) spec rack = rack
