-- Airs: what counts as a first send, what may be heard, and what an answer adds.
use Rattle.std.proofs.Common.{◌≡◌, ℕ, ◌+◌, ◌≤◌, Bool, true, false, cond, List, [], ◌∷◌, ◌++◌, length, Option}
use Rattle.std.proofs.Common.{Some, None, Result, Ok, Err, refl, sym, ap, ◌∙◌, arith, subst, if◌then◌else◌}
use Rattle.std.proofs.Common.{◌==◌, ◌&&◌}
use Rattle.std.specs.List.{slice_get}
use Rattle.packet_codec.specs.declared.packet.BadPacket.{BadPacket}
use Rattle.packet_codec.specs.declared.packet.Head.{Head}
use Rattle.packet_codec.specs.declared.packet.Packet.{Packet}
use Rattle.packet_codec.specs.declared.packet.Order.{Order}
use Rattle.packet_codec.specs.declared.packet.PacketKind.{PacketKind}
use Rattle.packet_codec.specs.declared.packet.PacketKind.TheVariants as kinds
use Rattle.packet_codec.specs.Packet.{head_of}
use Rattle.packet_codec.specs.Reading.{head_read, packet_of}
use Rattle.packet_ids.specs.Identifier.{identifier_at}
use Rattle.world_model.specs.declared.datagram.Datagram.{Datagram}
use Rattle.world_model.specs.declared.datagram.Direction.{Direction}
use Rattle.world_model.specs.declared.datagram.Direction.TheVariants.{ToBoard, ToHub}
use Rattle.world_model.specs.Messages.{ToBoard as MessageToBoard, StatusRequest, ResendRequest, packet_to_board}
use Rattle.world_model.specs.Messages.{said_to_board, to_board}
use Rattle.world_model.specs.Air.{goes_to, is_alive}
use Rattle.world_model.specs.Links.{IsHandedAt, Told, first_sends, first_sends_from, heard_by, heard_on}
use Rattle.world_model.specs.Links.{is_first_message, is_first_send}
use Rattle.world_model.proofs.Lists.{either}
use Rattle.links.specs.Births.{birth_after}
use Rattle.links.proofs.Births.{count_more}
use Rattle.lossy_network.specs.Airs.{may_hear}

-- ---- directions

pub goes_self : (hearer : Direction) → goes_to hearer hearer ≡ true
goes_self ToBoard = refl
goes_self ToHub = refl

pub same_way : (hearer direction : Direction) → goes_to hearer direction ≡ true → direction ≡ hearer
same_way ToBoard ToBoard way = refl
same_way ToBoard ToHub way = absurd cc
same_way ToHub ToBoard way = absurd cc
same_way ToHub ToHub way = refl

-- ---- first sends

one_at_most : (b : Bool) (count : ℕ) → (if b then count + 1 else count) ≤ count + 1
one_at_most true count = omega arith
one_at_most false count = omega arith

few_from : (first count : ℕ) (air : List Datagram) → first_sends_from first count air ≤ count + length air
few_from first count [] = omega arith
few_from first count (d ∷ air) =
    let b = is_first_send first count d.direction d.bytes in
    omega (arith, few_from first (if b then count + 1 else count) air, one_at_most b count)

-- no more datagrams are first sends than there are datagrams
pub few_sends : (told : Told) → first_sends told ≤ length told.air
few_sends told = omega (arith, few_from told.board.first 0 told.air)

no_first_kind : (first count : ℕ) (kind : PacketKind) (order : Order) (id : ℕ) (body : List ℕ)
    → (kind ≡ kinds.Control → ⊥) → is_first_message first count (said_to_board kind order id body) ≡ false
no_first_kind first count kinds.Control order id body other = absurd (other refl)
no_first_kind first count kinds.Status order id body other =
    either (λ (m : Option MessageToBoard). is_first_message first count m ≡ false) ((id == 0) && (length body == 15))
    (Some StatusRequest) None (λ _. refl) (λ _. refl)
no_first_kind first count kinds.Resend order id body other =
    either (λ (m : Option MessageToBoard). is_first_message first count m ≡ false) (length body == 0)
    (Some (ResendRequest id)) None (λ _. refl) (λ _. refl)

-- what is no control packet is no first send
no_first_send : (first count : ℕ) (packet : Packet) → (packet.kind ≡ kinds.Control → ⊥)
    → is_first_message first count (packet_to_board (Ok packet)) ≡ false
no_first_send first count packet other = no_first_kind first count packet.kind packet.order packet.id packet.body other

abbrev is_sent : ℕ → ℕ → Result Packet BadPacket → Bool
is_sent first count read = is_first_message first count (packet_to_board read)

of_control : (first count : ℕ) (packet : Packet) → packet.kind ≡ kinds.Control
    → (packet.id == identifier_at first (count + 1)) ≡ is_sent first count (Ok packet)
of_control first count packet control =
    sym (ap (λ (kind : PacketKind). is_first_message first count
    (said_to_board kind packet.order packet.id packet.body)) control)

control_by : (first count : ℕ) (head : Head) (read : Result Packet BadPacket) → head_read read ≡ Ok head
    → head.kind ≡ kinds.Control → (head.id == identifier_at first (count + 1)) ≡ is_sent first count read
control_by first count head (Err fault) e control = absurd cc
control_by first count head (Ok packet) e control =
    let same : head_of packet ≡ head = cc in
    subst (λ (h : Head). h.kind ≡ kinds.Control
    → (h.id == identifier_at first (count + 1)) ≡ is_sent first count (Ok packet)) same (of_control first count packet)
    control

other_by : (first count : ℕ) (head : Head) (read : Result Packet BadPacket) → head_read read ≡ Ok head
    → (head.kind ≡ kinds.Control → ⊥) → false ≡ is_sent first count read
other_by first count head (Err fault) e other = absurd cc
other_by first count head (Ok packet) e other =
    let same : head_of packet ≡ head = cc in
    subst (λ (h : Head). (h.kind ≡ kinds.Control → ⊥) → false ≡ is_sent first count (Ok packet)) same
    (λ not. sym (no_first_send first count packet not)) other

fault_by : (first count : ℕ) (fault : BadPacket) (read : Result Packet BadPacket) → head_read read ≡ Err fault
    → false ≡ is_sent first count read
fault_by first count fault (Ok packet) e = absurd cc
fault_by first count fault (Err other) e = refl

-- a control packet is a first send where it has the next identifier
pub control_by_head : (first count : ℕ) (bytes : List ℕ) (head : Head) → head_read (packet_of bytes) ≡ Ok head
    → head.kind ≡ kinds.Control
    → (head.id == identifier_at first (count + 1)) ≡ is_first_send first count ToBoard bytes
unfolding to_board
control_by_head first count bytes head = control_by first count head (packet_of bytes)

-- another packet is none
pub other_by_head : (first count : ℕ) (bytes : List ℕ) (head : Head) → head_read (packet_of bytes) ≡ Ok head
    → (head.kind ≡ kinds.Control → ⊥) → false ≡ is_first_send first count ToBoard bytes
unfolding to_board
other_by_head first count bytes head = other_by first count head (packet_of bytes)

-- bytes that spell no packet are none
pub none_by_head : (first count : ℕ) (bytes : List ℕ) (fault : BadPacket) → head_read (packet_of bytes) ≡ Err fault
    → false ≡ is_first_send first count ToBoard bytes
unfolding to_board
none_by_head first count bytes fault = fault_by first count fault (packet_of bytes)

-- the count after a send is that of the air
pub sent_count : (told : Told) (first count sent : ℕ) (bytes : List ℕ) (air : List Datagram) → first ≡ told.board.first
    → count ≡ first_sends told → sent ≡ birth_after first count bytes
    → air ≡ told.air ++ record { direction = ToBoard; bytes = bytes; birth = birth_after first count bytes } ∷ []
    → sent ≡ first_sends (record { board = told.board; air = air })
sent_count told first count sent bytes air same counted after put =
    let datagram : Datagram =
    record { direction = ToBoard; bytes = bytes; birth = birth_after first count bytes } in
    after ∙ (ap (λ (f : ℕ). birth_after f count bytes) same
    ∙ (ap (λ (c : ℕ). birth_after told.board.first c bytes) counted
    ∙ (sym (count_more told.board.first 0 told.air datagram)
    ∙ ap (first_sends_from told.board.first 0) (sym put))))

-- ---- what may be heard

both : (a b : Bool) → (if a then b else false) ≡ true → (a ≡ true) × (b ≡ true)
both true b e = (refl, e)
both false b e = absurd cc

record MayHear (hearer : Direction) (sent : ℕ) (r : Option Datagram) : Type 0 where
  datagram : Datagram
  there : r ≡ Some datagram
  way : goes_to hearer datagram.direction ≡ true
  alive : is_alive sent datagram ≡ true

heard_there : (hearer : Direction) (sent : ℕ) (r : Option Datagram) → may_hear hearer sent r ≡ true
    → MayHear hearer sent r
heard_there hearer sent None may = absurd cc
heard_there hearer sent (Some d) may =
    let is = both (goes_to hearer d.direction) (is_alive sent d) may in
    record { datagram = d; there = refl; way = is.0; alive = is.1 }

-- a datagram that the hub may hear
pub handed_at : (told : Told) (place sent : ℕ) (datagram : Datagram) → sent ≡ first_sends told
    → slice_get told.air place ≡ Some datagram → may_hear ToHub sent (slice_get told.air place) ≡ true
    → IsHandedAt told datagram.bytes place
handed_at told place sent datagram counted there may =
    let is = heard_there ToHub sent (slice_get told.air place) may in
    let same : is.datagram ≡ datagram = (let other = is.there in cc) in
    let way : datagram.direction ≡ ToHub = same_way ToHub datagram.direction
    (ap (λ (d : Datagram). goes_to ToHub d.direction) (sym same) ∙ is.way) in
    let alive : is_alive (first_sends told) datagram ≡ true =
    ap (λ (n : ℕ). is_alive n datagram) (sym counted)
    ∙ (ap (is_alive sent) (sym same) ∙ is.alive) in
    record {
      birth = datagram.birth;
      there = there
          ∙ ap (λ (w : Direction). Some (record { direction = w; bytes = datagram.bytes; birth = datagram.birth })) way;
      alive = alive;
    }

-- a datagram that the board may hear
pub board_hears : (told : Told) (place sent : ℕ) (datagram : Datagram) → sent ≡ first_sends told
    → slice_get told.air place ≡ Some datagram → may_hear ToBoard sent (slice_get told.air place) ≡ true
    → heard_by told (slice_get told.air place) ≡ Some (heard_on told datagram.bytes)
board_hears told place sent datagram counted there may =
    let is = heard_there ToBoard sent (slice_get told.air place) may in
    let same : is.datagram ≡ datagram = (let other = is.there in cc) in
    let way : goes_to ToBoard datagram.direction ≡ true =
    ap (λ (d : Datagram). goes_to ToBoard d.direction) (sym same) ∙ is.way in
    let alive : is_alive (first_sends told) datagram ≡ true =
    ap (λ (n : ℕ). is_alive n datagram) (sym counted) ∙ (ap (is_alive sent) (sym same) ∙ is.alive) in
    ap (heard_by told) there
    ∙ (ap (λ (b : Bool). cond b (cond (is_alive (first_sends told) datagram) (Some (heard_on told datagram.bytes)) None)
    None) way
    ∙ ap (λ (b : Bool). cond b (Some (heard_on told datagram.bytes)) None) alive)
