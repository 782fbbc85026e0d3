-- Lists of calls of a simulated link, and what was taken from the queue meanwhile. Profile.
use Rattle.std.specs.Prelude.{ℕ, zero, suc, ◌+◌, if◌then◌else◌, List, []}
use Rattle.std.specs.Prelude.{◌∷◌, ◌++◌, map}
use Rattle.world_model.specs.History.{times}
use Rattle.board_specs.specs.declared.spec.Fates.{Fates}
use Rattle.lossy_network.specs.declared.fates.DatagramFate.{DatagramFate}
use Rattle.lossy_network.specs.declared.fates.DatagramFate.TheVariants.{Delivered, Lost, Repeated, Delayed}
use Rattle.lossy_network.specs.Fates.{fate_at}
use Rattle.lossy_network.specs.Traffic.{place_of}
use Rattle.lossy_network.specs.Network.{Network, Taking, ByBoard, Dropped, ByHub, Front, Nothing, ForHub, Taken}
use Rattle.lossy_network.specs.Network.{all_taken, with_call_counted, with_fault, fails, front, most_takings, network_receipt}
use Rattle.lossy_network.specs.Network.{network_with_send, takes}

-- A call: a send of these bytes, a receive, and those for which memory ran out: a send, and a receive that had taken so
-- many datagrams.
pub data Call : Type 0 where
  Send : List ℕ → Call
  Receive : Call
  RefusedSend : Call
  RefusedReceive : ℕ → Call

abbrev pub network_after : Network → Call → Network
network_after net (Send bytes) = network_with_send net bytes
network_after net Receive = (network_receipt net).after
network_after net RefusedSend = with_call_counted net
network_after net (RefusedReceive taken) = takes taken (with_call_counted net)

abbrev pub after_call : Network → Call → Network
after_call net call = if fails net then with_fault net else network_after net call

abbrev pub after_calls : Network → List Call → Network
after_calls net [] = net
after_calls net (call ∷ calls) = after_calls (after_call net call) calls

-- how many of the calls fail
abbrev pub failures : Network → List Call → ℕ
failures net [] = 0
failures net (call ∷ calls) = (if fails net then 1 else 0) + failures (after_call net call) calls

-- ---- what was taken from the queue, in order

abbrev pub takings_on : (Network → List Taking) → Front → List Taking
takings_on more Nothing = []
takings_on more (ForHub place bytes) = []
takings_on more (Taken taking after) = taking ∷ more after

abbrev pub takings : ℕ → Network → List Taking
takings zero net = []
takings (suc most) net = takings_on (takings most) (front net)

abbrev pub handing_out : Front → List Taking
handing_out Nothing = []
handing_out (ForHub place bytes) = ByHub place ∷ []
handing_out (Taken taking after) = []

abbrev pub taken_by : Network → Call → List Taking
taken_by net (Send bytes) = []
taken_by net Receive = takings (most_takings (with_call_counted net)) (with_call_counted net) ++ handing_out (front (all_taken (with_call_counted net)))
taken_by net RefusedSend = []
taken_by net (RefusedReceive taken) = takings taken (with_call_counted net)

abbrev pub taken_in : Network → Call → List Taking
taken_in net call = if fails net then [] else taken_by net call

abbrev pub all_takings : Network → List Call → List Taking
all_takings net [] = []
all_takings net (call ∷ calls) = taken_in net call ++ all_takings (after_call net call) calls

abbrev pub place_taken : Taking → ℕ
place_taken (ByBoard place) = place
place_taken (Dropped place) = place
place_taken (ByHub place) = place

abbrev pub drops : List Taking → ℕ
drops [] = 0
drops (ByBoard place ∷ takings) = drops takings
drops (Dropped place ∷ takings) = drops takings + 1
drops (ByHub place ∷ takings) = drops takings

-- how often a datagram with this fate is ready to be heard, and how often its fate counts as held
abbrev pub copies : DatagramFate → ℕ
copies Delivered = 1
copies Lost = 0
copies Repeated = 2
copies (Delayed by) = 1

abbrev pub holds : DatagramFate → ℕ
holds Delivered = 0
holds Lost = 1
holds Repeated = 0
holds (Delayed by) = 1

-- how many of the first datagrams, this many, were lost or delayed
abbrev pub held_of : Fates → ℕ → ℕ
held_of fates zero = 0
held_of fates (suc count) = held_of fates count + holds (fate_at fates count)

-- how often a datagram was taken, waits in the queue or is delayed
abbrev pub times_of : Network → List Taking → ℕ → ℕ
times_of net takings place =
    times place (map place_taken takings) + times place net.traffic.queue
    + times place (map place_of net.traffic.delayed)
