-- What a hub reads, and what a datagram does that is heard.
use Rattle.std.proofs.Common.{◌≡◌, inl, inr, ℕ, Bool, cond, List, [], ◌∷◌, Option, Some, None}
use Rattle.std.proofs.Common.{refl, sym, ap, ◌∙◌, subst, arith}
use Rattle.packet_codec.specs.Packet.{packet_bytes}
use Rattle.packet_ids.specs.Identifier.{identifier_at}
use Rattle.status_packet.specs.StatusBytes.{IsStatusReply}
use Rattle.std.specs.List.{slice_get}
use Rattle.std.proofs.Common.{length, ◌++◌}
use Rattle.packet_codec.specs.Reading.{packet_of, start_of}
use Rattle.world_model.proofs.Lists.{differ}
use Rattle.status_packet.specs.Packets.{status_reply, status_request}
use Rattle.board_node.specs.Answers.{answer_bytes}
use Rattle.world_model.specs.declared.datagram.Datagram.{Datagram}
use Rattle.world_model.specs.declared.offered.OpenPlace.{OpenPlace}
use Rattle.world_model.specs.Messages.{ToHub, to_hub}
use Rattle.world_model.specs.Messages.{StatusRequest, to_board}
use Rattle.world_model.specs.Board.{Board, Hearing, expected_identifier, hear, hear_message}
use Rattle.world_model.specs.Board.{tell_status}
use Rattle.world_model.specs.Hub.{Hub, open_with, settle, take_message}
use Rattle.world_model.specs.World.{World, air_after_answer, with_hub}
use Rattle.lossy_network.specs.Airs.{IsHeardAt, answers_of}
use Rattle.lossy_network.proofs.AirHearing.{answer_has_bytes, answered_of}
use Rattle.world_core.specs.Steps.{board_told, hub_told}
use Rattle.links.specs.declared.message.Message.TheVariants.{Other}
use Rattle.links.specs.Messages.{IsRead, IsTold}

-- ---- the hub hears

zero_of_none : (first : ℕ) (os : List OpenPlace) → open_with first 0 os ≡ None
zero_of_none first [] = refl
zero_of_none first (o ∷ os) =
    ap (λ (b : Bool). cond b (Some o) (open_with first 0 os))
    (differ (identifier_at first o.place) 0 (λ e. absurd (omega (arith, e))))
    ∙ zero_of_none first os

other_heard : (hub : Hub) (told : Option ToHub) → IsTold told Other → take_message hub told ≡ hub
other_heard hub told (inl none) = ap (take_message hub) none
other_heard hub told (inr zero) = ap (take_message hub) zero.1
    ∙ ap (settle hub zero.0) (zero_of_none hub.first hub.open_places)

-- what a message makes of the hub
pub message_told : (w : World) (datagram : Datagram) (told : ToHub) (hub : Hub) (r : Option Datagram) → r ≡ Some datagram
    → to_hub datagram.bytes ≡ Some told → hub ≡ take_message w.hub (Some told) → with_hub w hub ≡ hub_told w r
message_told w datagram told hub r is read taken =
    ap (with_hub w) (taken ∙ ap (take_message w.hub) (sym read)) ∙ sym (ap (hub_told w) is)

-- what is no message changes nothing
pub other_told : (w : World) (datagram : Datagram) (r : Option Datagram) → r ≡ Some datagram
    → IsRead datagram.bytes Other → w ≡ hub_told w r
other_told w datagram r is read =
    ap (with_hub w) (sym (other_heard w.hub (to_hub datagram.bytes) read)) ∙ sym (ap (hub_told w) is)

-- ---- a board hears a datagram of a run

pub board_heard : (w : World) (sent place : ℕ) (board : Board) (air : List Datagram) → sent ≡ length w.hub.sent
    → IsHeardAt sent place w.board w.air board air
    → record w { board = board; air = air } ≡ board_told w (slice_get w.air place)
board_heard w sent place board air counted is =
    let hearing = hear w.board is.datagram.bytes in
    let same : air ≡ w.air ++ air_after_answer (length w.hub.sent) hearing.answer = is.answer
    ∙ (ap (λ (birth : ℕ). w.air ++ answers_of birth (answer_bytes hearing.answer)) counted
    ∙ ap (λ (more : List Datagram). w.air ++ more)
    (answered_of (length w.hub.sent) hearing.answer (answer_has_bytes w.board is.datagram.bytes))) in
    ap (λ (b : Board). record w { board = b; air = air }) is.board
    ∙ (ap (λ (a : List Datagram). record w { board = hearing.board; air = a }) same
    ∙ sym (ap (board_told w) is.there))

-- ---- a board is asked for its status

pub asked_for_status : to_board (packet_bytes status_request) ≡ Some StatusRequest
unfolding to_board packet_of start_of
asked_for_status = refl

pub status_told : (board : Board) (bytes : List ℕ) → bytes ≡ packet_bytes status_request
    → hear board bytes ≡ tell_status board
status_told board bytes is = ap (hear board) is ∙ ap (hear_message board) asked_for_status

pub status_answered : (board : Board) (bytes out : List ℕ) → bytes ≡ packet_bytes status_request
    → out ≡ answer_bytes (hear board bytes).answer
    → IsStatusReply (packet_bytes (status_reply board.mtu board.buffers (expected_identifier board))) board.mtu board.buffers
    (expected_identifier board) → IsStatusReply out board.mtu board.buffers (expected_identifier board)
status_answered board bytes out is told known =
    subst (λ (b : List ℕ). IsStatusReply b board.mtu board.buffers (expected_identifier board))
    (sym (told ∙ ap (λ (h : Hearing). answer_bytes h.answer) (status_told board bytes is))) known
