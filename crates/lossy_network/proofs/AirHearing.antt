-- What a datagram of an air does that a board hears.
use Rattle.std.proofs.Common.{◌≡◌, ℕ, Bool, cond, List, [], ◌∷◌, Option, Some, None}
use Rattle.std.proofs.Common.{refl, sym, ap, ◌∙◌, subst}
use Rattle.packet_codec.specs.Packet.{packet_bytes}
use Rattle.packet_codec.specs.declared.packet.Order.TheVariants.{Big, Little}
use Rattle.packet_codec.specs.declared.packet.Packet.{Packet}
use Rattle.std.specs.List.{slice_get}
use Rattle.std.proofs.Common.{true, false, ◌++◌, ◌==◌, append-nil}
use Rattle.packet_codec.specs.Packet.{in_order, packet_words}
use Rattle.status_packet.specs.Packets.{status_reply}
use Rattle.board_bus.specs.Bodies.{run_body}
use Rattle.board_node.specs.Answers.{answer_bytes}
use Rattle.world_model.specs.declared.datagram.Datagram.{Datagram}
use Rattle.world_model.specs.declared.datagram.Direction.TheVariants.{ToBoard as to_the_board, ToHub as to_the_hub}
use Rattle.world_model.specs.Messages.{control_packet}
use Rattle.world_model.specs.Messages.{ToBoard, StatusRequest, ResendRequest, ControlPacket, to_board}
use Rattle.world_model.specs.Board.{Board, Hearing, expected_identifier, hear, hear_message, held_replies, is_too_long, send_again}
use Rattle.world_model.specs.Board.{present_bus, with_id}
use Rattle.world_model.specs.World.{air_after_answer}
use Rattle.world_model.specs.Links.{IsHeard, Told, then_told}
use Rattle.world_model.specs.Links.{first_sends, first_sends_from, heard_by, heard_on}
use Rattle.lossy_network.specs.Airs.{IsHeardAt, answers_of, may_hear}
use Rattle.links.proofs.Births.{count_more}
use Rattle.lossy_network.proofs.Airs.{board_hears}

-- ---- answers of a board

-- an answer has some bytes
abbrev pub HasBytes : Option (List ℕ) → Type 0
HasBytes None = Unit {0}
HasBytes (Some []) = ⊥
HasBytes (Some (byte ∷ bytes)) = Unit {0}

packet_has_bytes : (packet : Packet) → HasBytes (Some (packet_bytes packet))
packet_has_bytes packet = elim packet.order as (λ o. HasBytes (Some (in_order o (packet_words packet)))) [
  | Big ↦ tt
  | Little ↦ tt
]

if_has_bytes : (b : Bool) (x y : Hearing) → HasBytes x.answer → HasBytes y.answer → HasBytes (cond b x y).answer
if_has_bytes true x y one other = one
if_has_bytes false x y one other = other

again_has_bytes : (board : Board) (r : Option Packet) → HasBytes (send_again board r).answer
again_has_bytes board None = tt
again_has_bytes board (Some packet) = packet_has_bytes packet

message_has_bytes : (board : Board) (m : Option ToBoard) → HasBytes (hear_message board m).answer
message_has_bytes board None = tt
message_has_bytes board (Some StatusRequest) =
    packet_has_bytes (status_reply board.mtu board.buffers (expected_identifier board))
message_has_bytes board (Some (ResendRequest id)) = again_has_bytes board (with_id id (held_replies board))
message_has_bytes board (Some (ControlPacket order id body)) =
    let reply = control_packet order id (run_body (present_bus board) body).reply in
    if_has_bytes (is_too_long board body) _ _ tt
    (if_has_bytes (id == 0) _ _ (packet_has_bytes reply)
    (if_has_bytes (id == expected_identifier board) _ _ (packet_has_bytes reply) tt))

pub answer_has_bytes : (board : Board) (bytes : List ℕ) → HasBytes (hear board bytes).answer
answer_has_bytes board bytes = message_has_bytes board (to_board bytes)

-- ---- a board hears a datagram of an air

pub answered_of : (birth : ℕ) (answer : Option (List ℕ)) → HasBytes answer
    → answers_of birth (answer_bytes answer) ≡ air_after_answer birth answer
answered_of birth None has = refl
answered_of birth (Some []) has = absurd has
answered_of birth (Some (byte ∷ bytes)) has = refl

-- the air after a datagram was heard
heard_air : (told : Told) (place : ℕ) (board : Board) (air : List Datagram)
    → (is : IsHeardAt (first_sends told) place told.board told.air board air)
    → record { board = board; air = air } ≡ heard_on told is.datagram.bytes
heard_air told place board air is =
    let hearing = hear told.board is.datagram.bytes in
    let same : air ≡ told.air ++ air_after_answer (first_sends told) hearing.answer = is.answer
    ∙ ap (λ (more : List Datagram). told.air ++ more)
    (answered_of (first_sends told) hearing.answer (answer_has_bytes told.board is.datagram.bytes)) in
    let one : Told = record { board = board; air = air } in
    let two : Told = record { board = hearing.board; air = air } in
    let now : one ≡ two = ap (λ (b : Board). record { board = b; air = air }) is.board in
    now ∙ ap (λ (a : List Datagram). record { board = hearing.board; air = a }) same

pub heard_now : (told : Told) (place sent : ℕ) (board : Board) (air : List Datagram) → sent ≡ first_sends told
    → may_hear to_the_board sent (slice_get told.air place) ≡ true
    → IsHeardAt sent place told.board told.air board air
    → heard_by told (slice_get told.air place) ≡ Some (record { board = board; air = air })
heard_now told place sent board air counted may heard =
    let is = subst (λ (n : ℕ). IsHeardAt n place told.board told.air board air) counted heard in
    board_hears told place sent is.datagram counted is.there may
    ∙ ap (λ (t : Told). Some t) (sym (heard_air told place board air is))

uncounted : (first count birth : ℕ) (air : List Datagram) (out : List ℕ)
    → first_sends_from first count (air ++ answers_of birth out) ≡ first_sends_from first count air
uncounted first count birth air [] = ap (first_sends_from first count) (append-nil air)
uncounted first count birth air (byte ∷ bytes) =
    count_more first count air (record { direction = to_the_hub; bytes = byte ∷ bytes; birth = birth })

-- an answer is no first send
pub heard_count : (told : Told) (birth place : ℕ) (board : Board) (air : List Datagram) → board.first ≡ told.board.first
    → IsHeardAt birth place told.board told.air board air
    → first_sends told ≡ first_sends (record { board = board; air = air })
heard_count told birth place board air same is = sym (ap (first_sends_from board.first 0) is.answer
    ∙ (uncounted board.first 0 birth told.air (answer_bytes (hear told.board is.datagram.bytes).answer)
    ∙ ap (λ (f : ℕ). first_sends_from f 0 told.air) same))

-- a board expects the same first identifier as before
pub same_first : (told new : Told) (place : ℕ)
    → ((old after : Told) → IsHeard old after → record after.board { log = old.board.log } ≡ old.board)
    → heard_by told (slice_get told.air place) ≡ Some new → new.board.first ≡ told.board.first
same_first told new place law heard = ap (λ (b : Board). b.first) (law told new (record {
  places = place ∷ [];
  heard = ap (λ (r : Option Told). then_told r (λ after. Some after)) heard;
}))
