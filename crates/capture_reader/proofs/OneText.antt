-- A capture has one description, and a description is of one capture.
use Rattle.std.proofs.Common.{◌≡◌, ◌⊎◌, ℕ, ◌≤◌, List, [], ◌∷◌, ◌++◌, Some, None, refl, sym, ap}
use Rattle.std.proofs.Common.{◌∙◌, inl, inr, arith, Bool, true, false, get_or}
use Rattle.transaction_codec.specs.Request.{request_words, IsRequest, BreaksRequest, request_at}
use Rattle.transaction_codec.specs.Reply.{reply_words, IsReply, BreaksReply, reply_at}
use Rattle.transaction_codec.proofs.Lists.{one_list}
use Rattle.transaction_codec.proofs.Formats.{requests_format, replies_format}
use Rattle.packet_codec.specs.declared.packet.PacketKind.{PacketKind}
use Rattle.packet_codec.specs.declared.packet.PacketKind.TheVariants as kinds
use Rattle.packet_codec.specs.declared.packet.Packet.{Packet}
use Rattle.packet_codec.proofs.PacketLemmas.{one_packet}
use Rattle.capture_reader.specs.declared.capture.Caught.{Caught}
use Rattle.capture_reader.specs.declared.capture.Capture.{Capture}
use Rattle.capture_reader.specs.CaptureText.{first_text, IsCapture}
use Rattle.capture_reader.specs.Proved.{IsProved, HasProof}
use Rattle.capture_reader.specs.Rows.{Row, StatusRequest, Status, Resend, Requests, Replies, row_sent, row_packet, row_text}
use Rattle.capture_reader.specs.Rows.{IsOfRow, IsTextOf}
use Rattle.capture_reader.specs.Description.{AreTextsOf, IsDescription, proved_text}
use Rattle.ipb_base.specs.Fronts.{all_of}
use Rattle.capture_reader.specs.Reading.{first_at}
use Rattle.capture_reader.specs.Parsing.{datagram_at}
use Rattle.capture_reader.proofs.Datagrams.{described_again}
use Rattle.capture_reader.proofs.FirstLine.{first_again}
use Rattle.ipb_base.proofs.Fronts.{parts_of}

abbrev capture_of : ℕ → List Caught → Capture
capture_of first items = record { first = first; items = items }

-- which row it is
row_number : Row → ℕ
row_number StatusRequest = 0
row_number (Status mtu buffers next) = 1
row_number (Resend id) = 2
row_number (Requests order id requests) = 3
row_number (Replies order id replies) = 4

-- the row of packets of this type in this direction
number_of : Bool → PacketKind → ℕ
number_of true kinds.Status = 0
number_of false kinds.Status = 1
number_of true kinds.Resend = 2
number_of true kinds.Control = 3
number_of false kinds.Control = 4
number_of false kinds.Resend = 5

numbered : (row : Row) → row_number row ≡ number_of (row_sent row) (row_packet row).kind
unfolding row_number number_of
numbered StatusRequest = refl
numbered (Status mtu buffers next) = refl
numbered (Resend id) = refl
numbered (Requests order id requests) = refl
numbered (Replies order id replies) = refl

one_number : (row other : Row) → row_sent row ≡ row_sent other → row_packet row ≡ row_packet other
    → row_number row ≡ row_number other
one_number row other sent packet =
    numbered row ∙ (ap (λ (s : Bool). number_of s (row_packet row).kind) sent
    ∙ (ap (λ (p : Packet). number_of (row_sent other) p.kind) packet ∙ sym (numbered other)))

one_row : (item : Caught) (row other : Row) → IsOfRow item row → IsOfRow item other
    → row_packet row ≡ row_packet other → row_number row ≡ row_number other → row ≡ other
unfolding row_number
one_row item StatusRequest StatusRequest is of e n = refl
one_row item (Status mtu buffers next) (Status mtu' buffers' next') is of e n =
    let m : mtu ≡ mtu' = ap (λ (p : Packet). get_or p.body 0 0) e in
    let b : buffers ≡ buffers' = ap (λ (p : Packet). get_or p.body 1 0) e in
    let header = ap (λ (p : Packet). get_or p.body 2 0) e in
    let x : next ≡ next' = omega (arith, header) in
    rw (m, b, x) refl
one_row item (Resend id) (Resend id') is of e n = ap Resend (ap (λ (p : Packet). p.id) e)
one_row item (Requests order id requests) (Requests order' id' requests') is of e n =
    let list = one_list request_words IsRequest BreaksRequest request_at requests_format requests requests' is.range
    of.range (ap (λ (p : Packet). p.body) e) in
    let o : order ≡ order' = ap (λ (p : Packet). p.order) e in
    let i : id ≡ id' = ap (λ (p : Packet). p.id) e in
    rw (o, i, list) refl
one_row item (Replies order id replies) (Replies order' id' replies') is of e n =
    let list = one_list reply_words IsReply BreaksReply reply_at replies_format replies replies' is.range
    of.range (ap (λ (p : Packet). p.body) e) in
    let o : order ≡ order' = ap (λ (p : Packet). p.order) e in
    let i : id ≡ id' = ap (λ (p : Packet). p.id) e in
    rw (o, i, list) refl
one_row item row other is of e n = absurd (omega (arith, n))

pub same_row : (item : Caught) (row other : Row) → IsOfRow item row → IsOfRow item other → row ≡ other
same_row item row other is of =
    let e = one_packet (row_packet row) (row_packet other) is.packet of.packet (sym is.spelled ∙ of.spelled) in
    one_row item row other is of e (one_number row other (sym is.direction ∙ of.direction) e)

one_text : (item : Caught) (left right : List ℕ) → IsTextOf item left → IsTextOf item right → left ≡ right
one_text item left right (inl (row, is, e)) (inl (other, of, f)) =
    e ∙ (ap row_text (same_row item row other is of) ∙ sym f)
one_text item left right (inl (row, is, e)) (inr (none, f)) = absurd (none row is)
one_text item left right (inr (none, e)) (inl (other, of, f)) = absurd (none other of)
one_text item left right (inr (none, e)) (inr (no_row, f)) = e ∙ sym f

one_list_of_texts : (items : List Caught) (left right : List ℕ) → AreTextsOf items left → AreTextsOf items right
    → left ≡ right
one_list_of_texts [] left right e f = e ∙ sym f
one_list_of_texts (item ∷ items) left right (front, rest, is, are, e) (start, more, of, fit, f) =
    e ∙ (ap (λ (t : List ℕ). t ++ rest) (one_text item front start is of)
    ∙ (ap (λ (t : List ℕ). start ++ t) (one_list_of_texts items rest more are fit) ∙ sym f))

below : (capture : Capture) (place other : ℕ) → IsProved capture other
    → (place ≡ 0) ⊎ HasProof capture.first 0 capture.items place → place ≤ other
below capture place other is (inl none) = omega arith
below capture place other is (inr shown) = is.greatest place shown

pub one_place : (capture : Capture) (place other : ℕ) → IsProved capture place → IsProved capture other → place ≡ other
one_place capture place other is of =
    omega (arith, below capture place other of is.shown, below capture other place is of.shown)

pub one_description : (capture : Capture) (left right : List ℕ) → IsDescription capture left
    → IsDescription capture right → left ≡ right
one_description capture left right is of =
    is.whole
    ∙ (ap (λ (t : List ℕ). first_text capture.first ++ (t ++ proved_text is.place))
    (one_list_of_texts capture.items is.datagrams of.datagrams is.said of.said)
    ∙ (ap (λ (n : ℕ). first_text capture.first ++ (of.datagrams ++ proved_text n))
    (one_place capture is.place of.place is.proved of.proved)
    ∙ sym of.whole))

-- ---- a description is of one capture

first_of_description : (text : List ℕ) (capture : Capture) → IsCapture capture → (is : IsDescription capture text)
    → first_at text ≡ Some (capture.first, is.datagrams ++ proved_text is.place)
first_of_description text capture good is =
    ap first_at is.whole ∙ first_again capture.first (is.datagrams ++ proved_text is.place) good.first

pub no_description : (text : List ℕ) → first_at text ≡ None → (capture : Capture) → IsCapture capture
    → IsDescription capture text → ⊥
no_description text none capture good is = let e = sym none ∙ first_of_description text capture good is in cc

pub read_again : (text rest : List ℕ) (first : ℕ) (items : List Caught) → first_at text ≡ Some (first, rest)
    → items ≡ (all_of datagram_at rest).0 → (capture : Capture) → IsCapture capture → IsDescription capture text
    → ◌≡◌ {A = Capture} (record { first = first; items = items }) capture
read_again text rest first items e read capture good is =
    let parts = parts_of capture.first first (is.datagrams ++ proved_text is.place) rest
    (sym (first_of_description text capture good is) ∙ e) in
    let list : items ≡ capture.items =
    read ∙ (ap (λ (t : List ℕ). (all_of datagram_at t).0) (sym parts.1)
    ∙ described_again capture.items is.datagrams is.place good.items is.said) in
    ap (λ (f : ℕ). capture_of f items) (sym parts.0) ∙ ap (λ (xs : List Caught). capture_of capture.first xs) list

pub one_capture : (text : List ℕ) (one other : Capture) → IsCapture one → IsCapture other → IsDescription one text
    → IsDescription other text → one ≡ other
one_capture text one other good fine is of =
    sym (read_again text (is.datagrams ++ proved_text is.place) one.first (all_of datagram_at (is.datagrams ++ proved_text is.place)).0
    (first_of_description text one good is) refl one good is)
    ∙ read_again text (is.datagrams ++ proved_text is.place) one.first (all_of datagram_at (is.datagrams ++ proved_text is.place)).0
    (first_of_description text one good is) refl other fine of
