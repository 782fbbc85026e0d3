-- What the datagrams of a capture say, row by row: which packet each row is of, and its text. Profile, over the packets
-- of IPbus 2.0.
use Rattle.std.specs.Prelude.{◌≡◌, ◌⊎◌, ℕ, zero, suc, Bool, true, false, List, [], ◌++◌, codes}
use Rattle.std.specs.List.{flat_map}
use Rattle.std.specs.Fmt.{decimal}
use Rattle.ipb_base.specs.Word.{word_bytes}
use Rattle.transaction_codec.specs.declared.request.Op.{Op}
use Rattle.transaction_codec.specs.declared.request.Op.TheVariants.{Read, ReadPort, Write, WritePort, RmwBits, RmwSum}
use Rattle.transaction_codec.specs.declared.request.Request.{Request}
use Rattle.transaction_codec.specs.declared.reply.Reply.{Reply}
use Rattle.transaction_codec.specs.Request.{op_kind, op_words, AreRequests, requests_words}
use Rattle.transaction_codec.specs.Reply.{AreReplies, replies_words}
use Rattle.packet_ids.specs.Identifier.{IsIdentifier}
use Rattle.packet_codec.specs.declared.packet.Order.{Order}
use Rattle.packet_codec.specs.declared.packet.Order.TheVariants.{Big, Little}
use Rattle.packet_codec.specs.declared.packet.PacketKind.TheVariants.{Control}
use Rattle.packet_codec.specs.declared.packet.Packet.{Packet}
use Rattle.packet_codec.specs.Packet.{IsPacket, packet_bytes}
use Rattle.status_packet.specs.Range.{IsMtu, IsBufferCount}
use Rattle.status_packet.specs.Packets.{status_request, status_reply, resend_request}
use Rattle.capture_reader.specs.declared.capture.Caught.{Caught}
use Rattle.capture_reader.specs.CaptureText.{hex_text, bytes_text, direction_text}

-- what a hub sends and receives: requests for the status and for a reply, control packets of requests, the status of a
-- board, and control packets of replies
pub data Row : Type 0 where
  StatusRequest : Row
  Status : ℕ → ℕ → ℕ → Row
  Resend : ℕ → Row
  Requests : Order → ℕ → List Request → Row
  Replies : Order → ℕ → List Reply → Row

-- what a hub sends, and what it receives
abbrev pub row_sent : Row → Bool
row_sent StatusRequest = true
row_sent (Status mtu buffers next) = false
row_sent (Resend id) = true
row_sent (Requests order id requests) = true
row_sent (Replies order id replies) = false

abbrev pub control_packet : Order → ℕ → List ℕ → Packet
control_packet order id body = record { order = order; id = id; kind = Control; body = body }

-- the packet of a row
abbrev pub row_packet : Row → Packet
row_packet StatusRequest = status_request
row_packet (Status mtu buffers next) = status_reply mtu buffers next
row_packet (Resend id) = resend_request id
row_packet (Requests order id requests) = control_packet order id (requests_words requests)
row_packet (Replies order id replies) = control_packet order id (replies_words replies)

-- what a row can say
abbrev pub IsInRange : Row → Type 0
IsInRange StatusRequest = Unit {0}
IsInRange (Status mtu buffers next) = IsMtu mtu × IsBufferCount buffers × IsIdentifier next
IsInRange (Resend id) = Unit {0}
IsInRange (Requests order id requests) = AreRequests requests
IsInRange (Replies order id replies) = AreReplies replies

-- the datagram goes in the row's direction, and its bytes are exactly the spelling of the row's packet
pub record IsOfRow (item : Caught) (row : Row) : Type 0 where
  pub direction : item.sent ≡ row_sent row
  pub range : IsInRange row
  pub packet : IsPacket (row_packet row)
  pub spelled : item.bytes ≡ packet_bytes (row_packet row)

-- `0x` and the eight digits of a word
abbrev pub word_text : ℕ → List ℕ
word_text word = codes "0x" ++ hex_text (word_bytes word)

-- a space before each word
abbrev pub words_text : List ℕ → List ℕ
words_text words = flat_map (λ word. codes " " ++ word_text word) words

-- the name of a type of transaction; types above 5 have none
abbrev pub verb_text : ℕ → List ℕ
verb_text zero = codes "read"
verb_text (suc zero) = codes "write"
verb_text (suc (suc zero)) = codes "readport"
verb_text (suc (suc (suc zero))) = codes "writeport"
verb_text (suc (suc (suc (suc zero)))) = codes "rmwbits"
verb_text (suc (suc (suc (suc (suc kind))))) = codes "rmwsum"

-- two spaces, the transaction identifier and the verb
abbrev pub line_start : ℕ → ℕ → List ℕ
line_start tid kind = codes "  " ++ (decimal tid ++ (codes " " ++ verb_text kind))

-- how many words a read asks for
abbrev pub asked_text : Op → List ℕ
asked_text (Read base count) = codes " " ++ decimal count
asked_text (ReadPort base count) = codes " " ++ decimal count
asked_text (Write base words) = []
asked_text (WritePort base words) = []
asked_text (RmwBits base and_term or_term) = []
asked_text (RmwSum base addend) = []

-- the line of a request: its address and the words after it, of a read the count
abbrev pub request_text : Request → List ℕ
request_text request =
    line_start request.tid (op_kind request.op)
    ++ (words_text (op_words request.op) ++ (asked_text request.op ++ codes "\n"))

-- the line of a reply: its info code, the words that were done, and those that were read
abbrev pub reply_text : Reply → List ℕ
reply_text reply =
    line_start reply.tid reply.kind
    ++ (codes " " ++ (decimal reply.code ++ (codes " " ++ (decimal reply.count ++ (words_text reply.values
    ++ codes "\n")))))

abbrev pub order_text : Order → List ℕ
order_text Big = codes "big"
order_text Little = codes "little"

-- the line of a control packet
abbrev pub control_text : Order → ℕ → List ℕ
control_text order id = codes "control " ++ (decimal id ++ (codes " " ++ (order_text order ++ codes "\n")))

-- what a datagram says, behind its direction
abbrev pub said_text : Row → List ℕ
said_text StatusRequest = codes "status request\n"
said_text (Status mtu buffers next) =
    codes "status " ++ (decimal mtu ++ (codes " " ++ (decimal buffers ++ (codes " " ++ (decimal next ++ codes "\n")))))
said_text (Resend id) = codes "resend " ++ (decimal id ++ codes "\n")
said_text (Requests order id requests) = control_text order id ++ flat_map request_text requests
said_text (Replies order id replies) = control_text order id ++ flat_map reply_text replies

abbrev pub row_text : Row → List ℕ
row_text row = direction_text (row_sent row) ++ said_text row

-- a datagram that no row is of, by its bytes
abbrev pub raw_text : Caught → List ℕ
raw_text item = direction_text item.sent ++ (codes "raw " ++ (bytes_text item.bytes ++ codes "\n"))

-- the text of a datagram: that of its row, or of its bytes
abbrev pub IsTextOf : Caught → List ℕ → Type 0
IsTextOf item text =
    ((row : Row) × IsOfRow item row × (text ≡ row_text row))
    ⊎ (((row : Row) → IsOfRow item row → ⊥) × (text ≡ raw_text item))
