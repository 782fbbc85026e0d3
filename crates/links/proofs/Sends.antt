-- Sends one by one, and the bodies that a hub can write.
use Rattle.std.proofs.Common.{◌≡◌, ℕ, zero, suc, ◌<◌, ◌≤◌, List, [], ◌∷◌, length, Option, Some, None}
use Rattle.std.proofs.Common.{refl, sym, ap, ◌∙◌, arith}
use Rattle.std.proofs.Common.{◌*◌, length-append}
use Rattle.packet_codec.specs.declared.packet.Order.{Order}
use Rattle.packet_codec.specs.declared.packet.Order.TheVariants.{Big, Little}
use Rattle.packet_codec.specs.Packet.{in_order, packet_bytes, packet_words, word_in_order}
use Rattle.packet_codec.specs.declared.packet.Packet.{Packet}
use Rattle.links.specs.declared.link.TheConstants.{MAX_DATAGRAM}
use Rattle.std.specs.List.{slice_get}
use Rattle.packet_codec.specs.declared.packet.TheConstants.{MAX_BODY_WORDS}
use Rattle.reliable_engine.specs.Answers.{IsSendOf, hub_next, sent_next}
use Rattle.world_model.specs.declared.offered.Offered.{Offered}
use Rattle.world_model.specs.declared.sending.Sending.{Sending}
use Rattle.world_model.specs.declared.sending.Sending.TheVariants as sends
use Rattle.world_model.specs.Places.{at_place}
use Rattle.world_model.specs.Hub.{Hub, words_of}
use Rattle.status_packet.specs.Packets.{status_request, resend_request}
use Rattle.world_model.specs.Messages.{control_packet}
use Rattle.world_model.specs.Sends.{Next, bytes_to_send, next_send, pending}
use Rattle.world_model.specs.World.{World, flush, sent_into}
use Rattle.world_model.specs.Facts.{AreSendable}
use Rattle.links.specs.Messages.{IsWritable}

-- what the laws of world_model say of sends
abbrev pub OneByOne : Type 0
OneByOne = (w : World) (next : Next) → next_send w.hub ≡ Some next
    → flush (pending w.hub) w ≡ flush (pending next.hub) (sent_into w next)

abbrev pub EndsThere : Type 0
EndsThere = (w : World) → next_send w.hub ≡ None → flush (pending w.hub) w ≡ w

abbrev pub Fewer : Type 0
Fewer = (hub : Hub) (next : Next) → next_send hub ≡ Some next → pending next.hub < pending hub

-- a send that was taken, and the hub after it
record Taken (r : Option Next) (send : Sending) (hub : Hub) : Type 0 where
  is : r ≡ Some (record { send = send; hub = hub })

taken_by : (old new : Hub) (r : Option Next) (send : Sending) → Some send ≡ sent_next r → new ≡ hub_next old r
    → Taken r send new
taken_by old new None send told after = absurd cc
taken_by old new (Some next) send told after = record {
  is = ap (λ (h : Hub). Some (record { send = next.send; hub = h })) (sym after)
      ∙ ap (λ (s : Sending). Some (record { send = s; hub = new })) cc;
}

pub next_is : (old new : Hub) (send : Sending) → Some send ≡ sent_next (next_send old)
    → new ≡ hub_next old (next_send old) → next_send old ≡ Some (record { send = send; hub = new })
next_is old new send told after = (taken_by old new (next_send old) send told after).is

pub none_by : (r : Option Next) → None ≡ sent_next r → r ≡ None
none_by None told = refl
none_by (Some next) told = absurd cc

-- ---- bodies that can be written

short_at : (sent : List Offered) (i : ℕ) → AreSendable sent → length (words_of (slice_get sent i)) ≤ MAX_BODY_WORDS
short_at [] i are = omega arith
short_at (o ∷ os) zero are = are.0.short
short_at (o ∷ os) (suc i) are = short_at os i are.1

short_there : (sent : List Offered) (place : ℕ) → AreSendable sent
    → length (words_of (at_place sent place)) ≤ MAX_BODY_WORDS
short_there sent zero are = omega arith
short_there sent (suc k) are = short_at sent k are

pub writable : (hub : Hub) (send : Sending) → IsSendOf hub send → AreSendable hub.sent → IsWritable hub send
writable hub sends.Status is spelled = tt
writable hub (sends.Resend id) is spelled = tt
writable hub (sends.Control place id) is spelled = (is, short_there hub.sent place spelled)

-- ---- how long a send is

four_bytes : (order : Order) (word : ℕ) → length (word_in_order order word) ≡ 4
four_bytes Big word = refl
four_bytes Little word = refl

bytes_of_words : (order : Order) (words : List ℕ) → length (in_order order words) ≡ 4 * length words
bytes_of_words order [] = refl
bytes_of_words order (word ∷ words) =
    let total = length-append (word_in_order order word) (in_order order words) in
    omega (arith, total, four_bytes order word, bytes_of_words order words)

short_packet : (packet : Packet) → length packet.body ≤ MAX_BODY_WORDS
    → length (packet_bytes packet) ≤ MAX_DATAGRAM
short_packet packet few = omega (arith, few, bytes_of_words packet.order (packet_words packet))

pub short_send : (hub : Hub) (send : Sending) → IsWritable hub send → length (bytes_to_send hub send) ≤ MAX_DATAGRAM
short_send hub sends.Status is = short_packet status_request (omega arith)
short_send hub (sends.Resend id) is = short_packet (resend_request id) (omega arith)
short_send hub (sends.Control place id) is =
    short_packet (control_packet Big id (words_of (at_place hub.sent place))) is.1
