-- Which row a packet is of, and which packets no row is of.
use Rattle.std.proofs.Common.{◌≡◌, ◌≢◌, ℕ, ◌+◌, ◌<◌, ◌≤◌, ◌^◌, List, [], ◌∷◌, ◌++◌, length, drop, get_or, Result, Ok, Err}
use Rattle.std.proofs.Common.{refl, sym, ap, ◌∙◌, inl, inr, arith, subst, Bool, true, false, append_assoc, append-nil}
use Rattle.std.specs.Prelude.{OnOk}
use Rattle.std.proofs.lemmas.List.{at_drop_more, at_drop_all}
use Rattle.transaction_codec.specs.declared.request.Request.{Request}
use Rattle.transaction_codec.specs.declared.reply.Reply.{Reply}
use Rattle.transaction_codec.specs.Request.{AreRequests, requests_words}
use Rattle.transaction_codec.specs.Reply.{AreReplies, replies_words}
use Rattle.packet_ids.specs.Identifier.{IsIdentifier}
use Rattle.packet_codec.specs.declared.packet.PacketKind.{PacketKind}
use Rattle.packet_codec.specs.declared.packet.PacketKind.TheVariants as kinds
use Rattle.packet_codec.specs.declared.packet.Packet.{Packet}
use Rattle.packet_codec.specs.Packet.{IsPacket, packet_bytes, head_of}
use Rattle.packet_codec.specs.declared.packet.BadPacket.{BadPacket}
use Rattle.packet_codec.specs.Reading.{packet_of, head_read}
use Rattle.packet_codec.proofs.PacketLemmas.{one_packet, packet_again}
use Rattle.status_packet.specs.Range.{IsMtu, IsBufferCount}
use Rattle.status_packet.specs.Packets.{status_request, status_reply, resend_request}
use Rattle.capture_reader.specs.declared.capture.Caught.{Caught}
use Rattle.capture_reader.specs.Rows.{Row, StatusRequest, Status, Resend, Requests, Replies, row_packet, row_text}
use Rattle.capture_reader.specs.Rows.{control_packet, IsOfRow, raw_text}
use Rattle.capture_reader.specs.Description.{AreTextsOf}
use Rattle.capture_reader.specs.Describing.{Appends, AppendsAll, IsOfPacket}

-- a row was appended, or the bytes
pub on_row : {X Y : Type 0} (r : Result X Y) (item : Caught) (row : Row) (old new : List ℕ) → IsOfRow item row
    → OnOk r (new ≡ old ++ row_text row) → OnOk r (Appends item old new)
on_row (Ok x) item row old new is e = (row_text row, inl (row, is, refl), e)
on_row (Err y) item row old new is e = tt

pub on_raw : {X Y : Type 0} (r : Result X Y) (item : Caught) (old new : List ℕ)
    → ((row : Row) → IsOfRow item row → ⊥) → OnOk r (new ≡ old ++ raw_text item) → OnOk r (Appends item old new)
on_raw (Ok x) item old new none e = (raw_text item, inr (none, refl), e)
on_raw (Err y) item old new none e = tt

-- bytes that are read as no packet are of no row
pub of_no_row : (item : Caught) (bytes : List ℕ) (fault : BadPacket) → bytes ≡ item.bytes
    → Err fault ≡ head_read (packet_of bytes) → (row : Row) → IsOfRow item row → ⊥
of_no_row item bytes fault same read row is =
    let e : packet_of bytes ≡ Ok (row_packet row) = ap packet_of (same ∙ is.spelled)
    ∙ packet_again (row_packet row) is.packet in
    let clash : Err fault ≡ Ok (head_of (row_packet row)) = read ∙ ap head_read e in
    absurd cc

-- the packet of a row is the one that the bytes spell
row_is : (item : Caught) (packet : Packet) (row : Row) → IsOfPacket item packet → IsOfRow item row
    → row_packet row ≡ packet
row_is item packet row of is = one_packet (row_packet row) packet is.packet of.range (sym is.spelled ∙ of.spelled)

kind_is : (item : Caught) (packet : Packet) (row : Row) (kind : PacketKind) → IsOfPacket item packet → IsOfRow item row
    → packet.kind ≡ kind → (row_packet row).kind ≡ kind
kind_is item packet row kind of is e = ap (λ (p : Packet). p.kind) (row_is item packet row of is) ∙ e

abbrev with_kind : Packet → PacketKind → Packet
with_kind packet kind = record { order = packet.order; id = packet.id; kind = kind; body = packet.body }

with_parts : (packet : Packet) (body : List ℕ) → packet.kind ≡ kinds.Control → packet.body ≡ body
    → packet ≡ control_packet packet.order packet.id body
with_parts packet body kind is =
    ap (λ (k : PacketKind). with_kind packet k) kind
    ∙ ap (λ (b : List ℕ). control_packet packet.order packet.id b) is

pub requests_row : (item : Caught) (packet : Packet) (requests : List Request) → IsOfPacket item packet
    → packet.kind ≡ kinds.Control → item.sent ≡ true → AreRequests requests → packet.body ≡ requests_words requests
    → IsOfRow item (Requests packet.order packet.id requests)
requests_row item packet requests of kind sent are is =
    let same = with_parts packet (requests_words requests) kind is in
    record { direction = sent; range = are; packet = subst IsPacket same of.range; spelled = of.spelled ∙ ap packet_bytes same }

pub replies_row : (item : Caught) (packet : Packet) (replies : List Reply) → IsOfPacket item packet
    → packet.kind ≡ kinds.Control → item.sent ≡ false → AreReplies replies → packet.body ≡ replies_words replies
    → IsOfRow item (Replies packet.order packet.id replies)
replies_row item packet replies of kind received are is =
    let same = with_parts packet (replies_words replies) kind is in
    record { direction = received; range = are; packet = subst IsPacket same of.range; spelled = of.spelled ∙ ap packet_bytes same }

apart : (sent : Bool) → sent ≡ true → sent ≡ false → ⊥
apart sent t f = let e = sym t ∙ f in cc

pub no_requests : (item : Caught) (packet : Packet) → IsOfPacket item packet → packet.kind ≡ kinds.Control
    → item.sent ≡ true → ((requests : List Request) → AreRequests requests → packet.body ≡ requests_words requests → ⊥)
    → (row : Row) → IsOfRow item row → ⊥
no_requests item packet of kind sent none StatusRequest is =
    let e = kind_is item packet StatusRequest kinds.Control of is kind in cc
no_requests item packet of kind sent none (Status mtu buffers next) is = apart item.sent sent is.direction
no_requests item packet of kind sent none (Resend id) is =
    let e = kind_is item packet (Resend id) kinds.Control of is kind in cc
no_requests item packet of kind sent none (Requests order id requests) is =
    none requests is.range (sym (ap (λ (p : Packet). p.body) (row_is item packet (Requests order id requests) of is)))
no_requests item packet of kind sent none (Replies order id replies) is = apart item.sent sent is.direction

pub no_replies : (item : Caught) (packet : Packet) → IsOfPacket item packet → packet.kind ≡ kinds.Control
    → item.sent ≡ false → ((replies : List Reply) → AreReplies replies → packet.body ≡ replies_words replies → ⊥)
    → (row : Row) → IsOfRow item row → ⊥
no_replies item packet of kind received none StatusRequest is = apart item.sent is.direction received
no_replies item packet of kind received none (Status mtu buffers next) is =
    let e = kind_is item packet (Status mtu buffers next) kinds.Control of is kind in cc
no_replies item packet of kind received none (Resend id) is = apart item.sent is.direction received
no_replies item packet of kind received none (Requests order id requests) is = apart item.sent is.direction received
no_replies item packet of kind received none (Replies order id replies) is =
    none replies is.range (sym (ap (λ (p : Packet). p.body) (row_is item packet (Replies order id replies) of is)))

pub status_request_row : (item : Caught) → IsPacket status_request → item.sent ≡ true
    → item.bytes ≡ packet_bytes status_request → IsOfRow item StatusRequest
status_request_row item whole sent e = record { direction = sent; range = tt; packet = whole; spelled = e }

pub no_status_request : (item : Caught) (packet : Packet) → IsOfPacket item packet → packet.kind ≡ kinds.Status
    → item.sent ≡ true → item.bytes ≢ packet_bytes status_request → (row : Row) → IsOfRow item row → ⊥
no_status_request item packet of kind sent none StatusRequest is = none is.spelled
no_status_request item packet of kind sent none (Status mtu buffers next) is = apart item.sent sent is.direction
no_status_request item packet of kind sent none (Resend id) is =
    let e = kind_is item packet (Resend id) kinds.Status of is kind in cc
no_status_request item packet of kind sent none (Requests order id requests) is =
    let e = kind_is item packet (Requests order id requests) kinds.Status of is kind in cc
no_status_request item packet of kind sent none (Replies order id replies) is = apart item.sent sent is.direction

pub status_row : (item : Caught) (mtu buffers next : ℕ)
    → ((m b n : ℕ) → IsMtu m → IsBufferCount b → IsIdentifier n → IsPacket (status_reply m b n)) → item.sent ≡ false
    → IsMtu mtu → IsBufferCount buffers → IsIdentifier next → item.bytes ≡ packet_bytes (status_reply mtu buffers next)
    → IsOfRow item (Status mtu buffers next)
status_row item mtu buffers next whole received m b n e =
    record { direction = received; range = (m, b, n); packet = whole mtu buffers next m b n; spelled = e }

pub no_status : (item : Caught) (packet : Packet) → IsOfPacket item packet → packet.kind ≡ kinds.Status
    → item.sent ≡ false
    → ((mtu buffers next : ℕ) → IsMtu mtu → IsBufferCount buffers → IsIdentifier next
    → item.bytes ≡ packet_bytes (status_reply mtu buffers next) → ⊥)
    → (row : Row) → IsOfRow item row → ⊥
no_status item packet of kind received none StatusRequest is = apart item.sent is.direction received
no_status item packet of kind received none (Status mtu buffers next) is =
    none mtu buffers next is.range.0 is.range.1 is.range.2 is.spelled
no_status item packet of kind received none (Resend id) is = apart item.sent is.direction received
no_status item packet of kind received none (Requests order id requests) is = apart item.sent is.direction received
no_status item packet of kind received none (Replies order id replies) is =
    let e = kind_is item packet (Replies order id replies) kinds.Status of is kind in cc

pub resend_row : (item : Caught) (id : ℕ) → id < 2 ^ 16 → item.sent ≡ true → item.bytes ≡ packet_bytes (resend_request id)
    → IsOfRow item (Resend id)
resend_row item id fits sent e = record {
  direction = sent;
  range = tt;
  packet = record { id = fits; body = tt; length = omega arith; order = λ little. absurd (cc) };
  spelled = e;
}

pub no_resend : (item : Caught) (packet : Packet) → IsOfPacket item packet → packet.kind ≡ kinds.Resend
    → ((id : ℕ) → item.sent ≡ true → id < 2 ^ 16 → item.bytes ≡ packet_bytes (resend_request id) → ⊥)
    → (row : Row) → IsOfRow item row → ⊥
no_resend item packet of kind none StatusRequest is =
    let e = kind_is item packet StatusRequest kinds.Resend of is kind in cc
no_resend item packet of kind none (Status mtu buffers next) is =
    let e = kind_is item packet (Status mtu buffers next) kinds.Resend of is kind in cc
no_resend item packet of kind none (Resend id) is = none id is.direction is.packet.id is.spelled
no_resend item packet of kind none (Requests order id requests) is =
    let e = kind_is item packet (Requests order id requests) kinds.Resend of is kind in cc
no_resend item packet of kind none (Replies order id replies) is =
    let e = kind_is item packet (Replies order id replies) kinds.Resend of is kind in cc

-- ---- the texts of datagrams, one by one

pub one_text_more : (items : List Caught) (item : Caught) (i : ℕ) (old out new : List ℕ) → i < length items
    → item ≡ get_or items i item
    → ((rest : List ℕ) → AreTextsOf (drop i items) rest → AppendsAll items old (out ++ rest))
    → Appends item out new
    → (rest : List ℕ) → AreTextsOf (drop (i + 1) items) rest → AppendsAll items old (new ++ rest)
one_text_more items item i old out new within at before (text, is, e) rest are =
    let here : drop i items ≡ item ∷ drop (i + 1) items =
    at_drop_more (λ (xs : List Caught). xs) items i item within ∙ ap (λ (x : Caught). x ∷ drop (i + 1) items) (sym at) in
    let more = before (text ++ rest)
    (subst (λ (xs : List Caught). AreTextsOf xs (text ++ rest)) (sym here) (text, rest, is, are, refl)) in (
      more.0,
      more.1,
      ap (λ (xs : List ℕ). xs ++ rest) e ∙ (append_assoc out text rest ∙ more.2),
    )

pub all_texts : (items : List Caught) (i : ℕ) (old out : List ℕ) → length items ≤ i
    → ((rest : List ℕ) → AreTextsOf (drop i items) rest → AppendsAll items old (out ++ rest))
    → AppendsAll items old out
all_texts items i old out done before =
    let none : drop i items ≡ [] = at_drop_all (λ (xs : List Caught). xs) items i done in
    let all = before [] (subst (λ (xs : List Caught). AreTextsOf xs []) (sym none) refl) in
    (all.0, all.1, sym (append-nil out) ∙ all.2)
