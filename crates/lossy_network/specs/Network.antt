-- A simulated link between a hub and a board: what it is, and what a send and a receive do to it. Profile throughout.
use Rattle.std.specs.Prelude.{ℕ, zero, suc, ◌+◌, ◌==◌, Bool, if◌then◌else◌, List, [], ◌∷◌, ◌++◌, length}
use Rattle.std.specs.Prelude.{map, nat_lt, Option, Some, None}
use Rattle.std.specs.List.{list_any, slice_get}
use Rattle.ipb_base.specs.Faults.{one_more}
use Rattle.board_specs.specs.declared.spec.Fates.{Fates}
use Rattle.world_model.specs.declared.datagram.Datagram.{Datagram}
use Rattle.world_model.specs.declared.datagram.Direction.TheVariants.{ToBoard, ToHub}
use Rattle.world_model.specs.Air.{goes_to, is_alive}
use Rattle.world_model.specs.Board.{Board}
use Rattle.world_model.specs.Links.{Told, first_sends, heard_by, sent_on}
use Rattle.reliable_engine.specs.Traffic.{Passed}
use Rattle.reliable_engine.specs.Traffic as passes
use Rattle.links.specs.declared.link.Received.{Received}
use Rattle.links.specs.declared.link.Received.TheVariants.{Got, Quiet}
use Rattle.links.specs.Telling.{Telling}
use Rattle.lossy_network.specs.Fates.{fate_at}
use Rattle.lossy_network.specs.Traffic.{Traffic, put_on, place_of}

-- The board and all datagrams ever sent; those under way; the places of those that were handed out, in order; the fates
-- of datagrams; and the numbers, from 1, of the calls that fail. It counts its calls, its faults, and the receives that
-- were quiet and that got a datagram. A count stands still at 2^64 - 1. It knows what passed over it, in the order of the
-- calls that did not fail, and its number among the links of its rack.
pub record Network : Type 0 where
  pub told : Told
  pub traffic : Traffic
  pub handed : List ℕ
  pub fates : Fates
  pub fail : List ℕ
  pub calls : ℕ
  pub faults : ℕ
  pub quiets : ℕ
  pub gots : ℕ
  pub passed : List Passed
  pub number : ℕ

-- a link to this board, before its first call, and the first of its rack unless the rack says otherwise
abbrev pub new_network : Board → Fates → List ℕ → Network
new_network board fates fail = record {
  told = record { board = board; air = [] };
  traffic = record { queue = []; delayed = []; held = 0 };
  handed = [];
  fates = fates;
  fail = fail;
  calls = 0;
  faults = 0;
  quiets = 0;
  gots = 0;
  passed = [];
  number = 0;
}

-- the link with this number among those of its rack
abbrev pub with_number : ℕ → Network → Network
with_number number net = record net { number = number }

-- what it tells: what is in the queue is still to be heard before the next quiet receive
abbrev pub telling_of : Network → Telling
telling_of net = record { told = net.told; due = net.traffic.queue; handed = net.handed }

-- The datagram at this place of the air was sent, by the hub or by the board: its fate is that of its place.
abbrev pub put_at : ℕ → Network → Network
put_at place net = record net { traffic = put_on (fate_at net.fates place) place net.traffic }

-- ---- calls

-- each call is counted, and those whose numbers are named fail
abbrev pub with_call_counted : Network → Network
with_call_counted net = record net { calls = one_more net.calls }

abbrev pub fails : Network → Bool
fails net = list_any (λ number. number == one_more net.calls) net.fail

abbrev pub with_fault : Network → Network
with_fault net = record (with_call_counted net) { faults = one_more net.faults }

-- the datagram joins the air
abbrev pub with_sent : Network → List ℕ → Network
with_sent net bytes =
    record net { told = sent_on net.told bytes; passed = net.passed ++ passes.Sent bytes ∷ [] }

-- a send: the datagram joins the air, and meets its fate
abbrev pub network_with_send : Network → List ℕ → Network
network_with_send net bytes = put_at (length net.told.air) (with_sent (with_call_counted net) bytes)

-- ---- the front of the queue

-- a datagram taken from the front of the queue: the board heard the one at this place, or it was dropped for age, or it
-- was handed out
pub data Taking : Type 0 where
  ByBoard : ℕ → Taking
  Dropped : ℕ → Taking
  ByHub : ℕ → Taking

-- What a receive finds there: nothing; a datagram that the hub may hear, at its place; or one that is taken, and what
-- the link is then.
pub data Front : Type 0 where
  Nothing : Front
  ForHub : ℕ → List ℕ → Front
  Taken : Taking → Network → Front

abbrev pub with_queue : Network → List ℕ → Network
with_queue net queue = record net { traffic = record net.traffic { queue = queue } }

-- one that is too old is dropped
abbrev pub without_too_old : Network → Network
without_too_old net = record net { traffic = record net.traffic { held = one_more net.traffic.held } }

-- the board heard one, and this is the link's board and air after it: an answer, if there is one, is sent at once
abbrev pub after_hearing : Network → Told → Network
after_hearing net told =
    if nat_lt (length net.told.air) (length told.air)
    then put_at (length net.told.air) (record net { told = told })
    else record net { told = told }

-- the bytes of a datagram, if it goes to the hub and is not too old
abbrev pub hub_bytes : Told → Option Datagram → Option (List ℕ)
hub_bytes told None = None
hub_bytes told (Some datagram) =
    if goes_to ToHub datagram.direction
    then (if is_alive (first_sends told) datagram then Some datagram.bytes else None)
    else None

abbrev pub front_with : Network → ℕ → Option (List ℕ) → Option Told → Front
front_with rest place (Some bytes) told = ForHub place bytes
front_with rest place None (Some told) = Taken (ByBoard place) (after_hearing rest told)
front_with rest place None None = Taken (Dropped place) (without_too_old rest)

abbrev pub front_of : Network → List ℕ → Front
front_of net [] = Nothing
front_of net (place ∷ queue) =
    let datagram = slice_get net.told.air place in
    front_with (with_queue net queue) place (hub_bytes net.told datagram) (heard_by net.told datagram)

abbrev pub front : Network → Front
front net = front_of net net.traffic.queue

-- ---- receives

-- The first datagrams of the queue are taken, this many, or as many as stand before one that the hub may hear or before
-- the end. Answers and released ones go to the back meanwhile.
abbrev pub take_on : (Network → Network) → Network → Front → Network
take_on more net Nothing = net
take_on more net (ForHub place bytes) = net
take_on more net (Taken taking after) = more after

abbrev pub takes : ℕ → Network → Network
takes zero net = net
takes (suc most) net = take_on (takes most) net (front net)

-- More than a receive takes from the front. One for the board may come with an answer that is there twice.
abbrev pub weight_of : Option Datagram → ℕ
weight_of None = 1
weight_of (Some datagram) = if goes_to ToBoard datagram.direction then 3 else 1

abbrev pub weight : List Datagram → List ℕ → ℕ
weight air [] = 0
weight air (place ∷ places) = weight_of (slice_get air place) + weight air places

abbrev pub most_takings : Network → ℕ
most_takings net =
    weight net.told.air net.traffic.queue + weight net.told.air (map place_of net.traffic.delayed)

-- what a receive answers, what it leaves in its buffer, and the link after it
pub record Receipt : Type 0 where
  pub answer : Received
  pub bytes : List ℕ
  pub after : Network

abbrev pub quiet_receipt : Network → Receipt
quiet_receipt net = record {
  answer = Quiet;
  bytes = [];
  after = record net { quiets = one_more net.quiets; passed = net.passed ++ passes.Quiet ∷ [] };
}

-- the datagram at this place, of these bytes, is handed out
abbrev pub handed_out : Network → ℕ → List ℕ → Network
handed_out net place bytes = record net {
  handed = net.handed ++ place ∷ [];
  gots = one_more net.gots;
  passed = net.passed ++ passes.Got bytes ∷ [];
}

abbrev pub without_front : List ℕ → List ℕ
without_front [] = []
without_front (place ∷ queue) = queue

abbrev pub receipt_at : Network → Front → Receipt
receipt_at net Nothing = quiet_receipt net
receipt_at net (ForHub place bytes) = record {
  answer = Got;
  bytes = bytes;
  after = handed_out (with_queue net (without_front net.traffic.queue)) place bytes;
}
receipt_at net (Taken taking after) = quiet_receipt net

-- A receive takes datagrams from the front until there is one for the hub, which it hands out, or none.
abbrev pub all_taken : Network → Network
all_taken net = takes (most_takings net) net

unfoldable pub network_receipt : Network → Receipt
network_receipt net = receipt_at (all_taken (with_call_counted net)) (front (all_taken (with_call_counted net)))
