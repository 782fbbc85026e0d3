-- The texts of datagrams are read again.
use Rattle.std.proofs.Common.{◌≡◌, ℕ, ◌<◌, ◌^◌, List, [], ◌∷◌, ◌++◌, length, Some, None, refl, sym, ap}
use Rattle.std.proofs.Common.{◌∙◌, inl, inr, arith, append_assoc, codes, Bool, true, false, length-append}
use Rattle.std.proofs.Common.{map}
use Rattle.std.specs.List.{flat_map}
use Rattle.std.specs.Fmt.{decimal}
use Rattle.transaction_codec.specs.Request.{request_words, requests_words}
use Rattle.transaction_codec.specs.Reply.{reply_words, replies_words}
use Rattle.packet_codec.specs.declared.packet.TheConstants.{MAX_BODY_WORDS}
use Rattle.packet_codec.specs.declared.packet.Order.{Order}
use Rattle.packet_codec.specs.declared.packet.Order.TheVariants.{Big, Little}
use Rattle.packet_codec.specs.Packet.{IsPacket, packet_bytes}
use Rattle.status_packet.specs.Packets.{status_request, status_reply, resend_request}
use Rattle.capture_reader.specs.declared.capture.Caught.{Caught}
use Rattle.capture_reader.specs.CaptureText.{bytes_text, direction_text, IsItem, AreItems}
use Rattle.capture_reader.specs.Rows.{Row, StatusRequest, Status, Resend, Requests, Replies, row_sent, row_packet, row_text}
use Rattle.capture_reader.specs.Rows.{said_text, control_text, control_packet, order_text, request_text, reply_text, IsOfRow}
use Rattle.capture_reader.specs.Rows.{raw_text, IsTextOf}
use Rattle.capture_reader.specs.Description.{AreTextsOf, proved_text}
use Rattle.ipb_base.specs.Fronts.{behind, all_of, in_front}
use Rattle.capture_reader.specs.Fronts.{shorter}
use Rattle.capture_reader.specs.Reading.{direction_at}
use Rattle.capture_reader.specs.Parsing.{line_at, body_of, order_at, id_at, control_at, resend_at, status_at}
use Rattle.capture_reader.specs.Parsing.{count_at, status_request_at, first_of, said_at, caught_with, datagram_of, datagram_at}
use Rattle.capture_reader.proofs.Lines.{bytes_again, direction_again}
use Rattle.capture_reader.proofs.LineLaws.{shorter_is, shorter_again}
use Rattle.ipb_base.proofs.Fronts.{Shortens, all_step, all_stop}
use Rattle.capture_reader.proofs.Numbers.{number_again}
use Rattle.capture_reader.proofs.RowReading.{is_less, is_at_most, requests_again, replies_again, body_is}

pub datagrams_shorten : Shortens datagram_at
datagrams_shorten text rest a e = shorter_is text rest (datagram_of text) a e

id_again : (id byte : ℕ) (rest : List ℕ) → id < 2 ^ 16 → byte < 48 → id_at (decimal id ++ byte ∷ rest) ≡ Some (id, byte ∷ rest)
id_again id byte rest fits low = rw (number_again id byte rest (omega arith) low) (rw (is_less id (2 ^ 16) fits) refl)

order_again : (order : Order) (rest : List ℕ) → order_at (32 ∷ (order_text order ++ 10 ∷ rest)) ≡ Some (order, rest)
unfolding order_at
order_again Big rest = refl
order_again Little rest = refl

control_is : (order : Order) (id : ℕ) (lines rest : List ℕ) → (control_text order id ++ lines) ++ rest
    ≡ codes "control " ++ (decimal id ++ 32 ∷ (order_text order ++ 10 ∷ (lines ++ rest)))
control_is order id lines rest =
    append_assoc (control_text order id) lines rest
    ∙ ap (λ (t : List ℕ). codes "control " ++ t)
    (append_assoc (decimal id) (codes " " ++ (order_text order ++ codes "\n")) (lines ++ rest)
    ∙ ap (λ (t : List ℕ). decimal id ++ 32 ∷ t) (append_assoc (order_text order) (codes "\n") (lines ++ rest)))

control_again : (sent : Bool) (order : Order) (id : ℕ) (lines rest body : List ℕ) (read : List (List ℕ))
    → all_of (line_at sent) (lines ++ rest) ≡ (read, rest) → body_of read ≡ body → IsPacket (control_packet order id body)
    → control_at sent (decimal id ++ 32 ∷ (order_text order ++ 10 ∷ (lines ++ rest)))
    ≡ Some (packet_bytes (control_packet order id body), rest)
unfolding control_at
control_again sent order id lines rest body read e is packet =
    let more = order_text order ++ 10 ∷ (lines ++ rest) in
    rw (
      id_again id 32 more packet.id (omega arith),
      order_again order (lines ++ rest),
      e,
      is,
      is_at_most (length body) MAX_BODY_WORDS packet.length,
    ) refl

-- ---- what a row says

status_is : (mtu buffers next rest : List ℕ)
    → (codes "status " ++ (mtu ++ (codes " " ++ (buffers ++ (codes " " ++ (next ++ codes "\n")))))) ++ rest
    ≡ codes "status " ++ (mtu ++ 32 ∷ (buffers ++ 32 ∷ (next ++ 10 ∷ rest)))
status_is mtu buffers next rest =
    ap (λ (t : List ℕ). codes "status " ++ t)
    (append_assoc mtu (codes " " ++ (buffers ++ (codes " " ++ (next ++ codes "\n")))) rest
    ∙ ap (λ (t : List ℕ). mtu ++ 32 ∷ t) (append_assoc buffers (codes " " ++ (next ++ codes "\n")) rest
    ∙ ap (λ (t : List ℕ). buffers ++ 32 ∷ t) (append_assoc next (codes "\n") rest)))

numbers_again : (mtu buffers next : ℕ) (rest : List ℕ) → mtu < 2 ^ 32 → buffers < 2 ^ 32 → next < 2 ^ 16
    → status_at (decimal mtu ++ 32 ∷ (decimal buffers ++ 32 ∷ (decimal next ++ 10 ∷ rest)))
    ≡ Some (packet_bytes (status_reply mtu buffers next), rest)
unfolding status_at count_at
numbers_again mtu buffers next rest m b n =
    let last = decimal next ++ 10 ∷ rest in
    rw (
      number_again mtu 32 (decimal buffers ++ 32 ∷ last) m (omega arith),
      number_again buffers 32 last b (omega arith),
      number_again next 10 rest (omega arith) (omega arith),
      is_less next (2 ^ 16) n,
    ) refl

resend_again : (id : ℕ) (rest : List ℕ) → id < 2 ^ 16
    → resend_at (decimal id ++ 10 ∷ rest) ≡ Some (packet_bytes (resend_request id), rest)
unfolding resend_at
resend_again id rest fits = rw (id_again id 10 rest fits (omega arith)) refl

status_request_again : (rest : List ℕ)
    → first_of (status_at (codes "request\n" ++ rest)) (status_request_at (codes "request\n" ++ rest))
    ≡ Some (packet_bytes status_request, rest)
unfolding status_at status_request_at count_at
status_request_again rest = refl

said_again : (item : Caught) (row : Row) (rest : List ℕ) → IsOfRow item row → behind (codes "  ") rest ≡ None
    → said_at (row_sent row) (said_text row ++ rest) ≡ Some (packet_bytes (row_packet row), rest)
unfolding said_at
said_again item StatusRequest rest is none = status_request_again rest
said_again item (Status mtu buffers next) rest is none =
    ap (said_at false) (status_is (decimal mtu) (decimal buffers) (decimal next) rest)
    ∙ rw (numbers_again mtu buffers next rest (omega (arith, is.range.0.1)) (omega (arith, is.range.1.1))
    (omega (arith, is.range.2.up_to_end))) refl
said_again item (Resend id) rest is none =
    ap (λ (t : List ℕ). said_at true (codes "resend " ++ t)) (append_assoc (decimal id) (codes "\n") rest)
    ∙ resend_again id rest is.packet.id
said_again item (Requests order id requests) rest is none =
    ap (said_at true) (control_is order id (flat_map request_text requests) rest)
    ∙ control_again true order id (flat_map request_text requests) rest (requests_words requests)
    (map request_words requests) (requests_again requests rest is.range none) (body_is request_words requests) is.packet
said_again item (Replies order id replies) rest is none =
    ap (said_at false) (control_is order id (flat_map reply_text replies) rest)
    ∙ control_again false order id (flat_map reply_text replies) rest (replies_words replies)
    (map reply_words replies) (replies_again replies rest is.range none) (body_is reply_words replies) is.packet

-- ---- a datagram

caught_again : (item : Caught) (sent : Bool) (bytes rest : List ℕ) → IsItem item → item.sent ≡ sent → item.bytes ≡ bytes
    → caught_with sent bytes rest ≡ Some (item, rest)
caught_again item sent bytes rest is s b =
    let few = is_at_most (length item.bytes) _ is.length in rw (sym s, sym b) (rw few refl)

row_again : (item : Caught) (row : Row) (rest : List ℕ) → IsItem item → IsOfRow item row → behind (codes "  ") rest ≡ None
    → datagram_of (row_text row ++ rest) ≡ Some (item, rest)
unfolding datagram_of
row_again item row rest is of none =
    ap datagram_of (append_assoc (direction_text (row_sent row)) (said_text row) rest)
    ∙ rw (direction_again (row_sent row) (said_text row ++ rest)) (rw (said_again item row rest of none)
    (caught_again item (row_sent row) (packet_bytes (row_packet row)) rest is of.direction of.spelled))

raw_is : (item : Caught) (rest : List ℕ)
    → raw_text item ++ rest ≡ direction_text item.sent ++ (codes "raw " ++ (bytes_text item.bytes ++ 10 ∷ rest))
raw_is item rest =
    append_assoc (direction_text item.sent) (codes "raw " ++ (bytes_text item.bytes ++ codes "\n")) rest
    ∙ ap (λ (t : List ℕ). direction_text item.sent ++ (codes "raw " ++ t))
    (append_assoc (bytes_text item.bytes) (codes "\n") rest)

raw_again : (item : Caught) (rest : List ℕ) → IsItem item → datagram_of (raw_text item ++ rest) ≡ Some (item, rest)
unfolding datagram_of said_at
raw_again item rest is =
    ap datagram_of (raw_is item rest)
    ∙ rw (direction_again item.sent (codes "raw " ++ (bytes_text item.bytes ++ 10 ∷ rest)))
    (rw (bytes_again item.bytes rest is.bytes) (caught_again item item.sent item.bytes rest is refl refl))

directed : (sent : Bool) (text rest : List ℕ) → length rest < length ((direction_text sent ++ text) ++ rest)
directed true text rest = omega (arith, length-append text rest)
directed false text rest = omega (arith, length-append text rest)

text_again : (item : Caught) (text rest : List ℕ) → IsItem item → IsTextOf item text → behind (codes "  ") rest ≡ None
    → datagram_at (text ++ rest) ≡ Some (item, rest)
text_again item text rest is (inl (row, of, e)) none =
    ap (λ (t : List ℕ). datagram_at (t ++ rest)) e
    ∙ (ap (shorter (row_text row ++ rest)) (row_again item row rest is of none)
    ∙ shorter_again (row_text row ++ rest) rest item (directed (row_sent row) (said_text row) rest))
text_again item text rest is (inr (raw, e)) none =
    ap (λ (t : List ℕ). datagram_at (t ++ rest)) e
    ∙ (ap (shorter (raw_text item ++ rest)) (raw_again item rest is)
    ∙ shorter_again (raw_text item ++ rest) rest item
    (directed item.sent (codes "raw " ++ (bytes_text item.bytes ++ codes "\n")) rest))

-- ---- all datagrams

direction_stops : (sent : Bool) (text : List ℕ) → behind (codes "  ") (direction_text sent ++ text) ≡ None
direction_stops true text = refl
direction_stops false text = refl

text_stops : (item : Caught) (text rest : List ℕ) → IsTextOf item text → behind (codes "  ") (text ++ rest) ≡ None
text_stops item text rest (inl (row, of, e)) =
    ap (λ (t : List ℕ). behind (codes "  ") (t ++ rest)) e
    ∙ (ap (behind (codes "  ")) (append_assoc (direction_text (row_sent row)) (said_text row) rest)
    ∙ direction_stops (row_sent row) (said_text row ++ rest))
text_stops item text rest (inr (raw, e)) =
    ap (λ (t : List ℕ). behind (codes "  ") (t ++ rest)) e
    ∙ (ap (behind (codes "  ")) (raw_is item rest) ∙ direction_stops item.sent _)

texts_stop : (items : List Caught) (text rest : List ℕ) → AreTextsOf items text → behind (codes "  ") rest ≡ None
    → behind (codes "  ") (text ++ rest) ≡ None
texts_stop [] text rest e none = ap (λ (t : List ℕ). behind (codes "  ") (t ++ rest)) e ∙ none
texts_stop (item ∷ items) text rest (front, more, is, are, e) none =
    ap (λ (t : List ℕ). behind (codes "  ") (t ++ rest)) e
    ∙ (ap (behind (codes "  ")) (append_assoc front more rest) ∙ text_stops item front (more ++ rest) is)

texts_again : (items : List Caught) (text rest : List ℕ) → AreItems items → AreTextsOf items text
    → behind (codes "  ") rest ≡ None → datagram_at rest ≡ None → all_of datagram_at (text ++ rest) ≡ (items, rest)
texts_again [] text rest are e none stop =
    ap (λ (t : List ℕ). all_of datagram_at (t ++ rest)) e ∙ all_stop datagram_at datagrams_shorten rest stop
texts_again (item ∷ items) text rest are (front, more, is, texts, e) none stop =
    let tail = more ++ rest in
    let one = text_again item front tail are.0 is (texts_stop items more rest texts none) in
    ap (λ (t : List ℕ). all_of datagram_at (t ++ rest)) e
    ∙ (ap (all_of datagram_at) (append_assoc front more rest)
    ∙ (all_step datagram_at datagrams_shorten (front ++ tail) tail item one
    ∙ ap (in_front item) (texts_again items more rest are.1 texts none stop)))

proved_stops : (place : ℕ) → datagram_at (proved_text place) ≡ None
unfolding datagram_of direction_at
proved_stops place = refl

-- the datagrams of a description are read again
pub described_again : (items : List Caught) (text : List ℕ) (place : ℕ) → AreItems items → AreTextsOf items text
    → (all_of datagram_at (text ++ proved_text place)).0 ≡ items
described_again items text place are texts =
    ap (λ (read : List Caught × List ℕ). read.0)
    (texts_again items text (proved_text place) are texts refl (proved_stops place))
