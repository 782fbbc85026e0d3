-- Packets, written and read.
use Rattle.std.specs.Prelude.{is_ok, IfOk, IsOk, MatchResult, ◌↔◌}
use Rattle.std.proofs.Common.{◌≡◌, ◌^◌, ◌≢◌, ℕ, ◌*◌, ◌%◌, ◌<◌, ◌≤◌, false, List, [], ◌∷◌, ◌++◌, length, get_or, take}
use Rattle.std.proofs.Common.{drop, Result, Ok, Err, refl, sym, ap, subst, ◌∙◌, inl, inr, arith, take-append-drop, Fits}
use Rattle.std.proofs.Common.{w8}
use Rattle.std.proofs.lemmas.Bool.{cases_lt}
use Rattle.std.proofs.lemmas.Bool.Decides.{nat_tests}
use Rattle.std.proofs.lemmas.List.{take_at, drop_at, length-take, length-drop}
use Rattle.packet_codec.specs.declared.packet.TheConstants.{MAX_PACKET_WORDS}
use Rattle.packet_codec.specs.declared.packet.Order.{Order}
use Rattle.packet_codec.specs.declared.packet.Order.TheVariants.{Big, Little}
use Rattle.packet_codec.specs.declared.packet.PacketKind.{PacketKind}
use Rattle.packet_codec.specs.declared.packet.Packet.{Packet}
use Rattle.packet_codec.specs.declared.packet.BadPacket.{BadPacket}
use Rattle.packet_codec.specs.declared.packet.BadPacket.TheVariants as faults
use Rattle.packet_codec.specs.declared.packet.Head.{Head}
use Rattle.packet_codec.specs.Header.{kind_code, packet_header}
use Rattle.packet_codec.specs.Packet.{in_order, word_in_order, packet_with, packet_words, packet_bytes, IsPacket}
use Rattle.packet_codec.specs.Faults.{HasPacketLength, IsTooLong, HasAllowedHeader, HasUnknownKind, IsSpelling}
use Rattle.packet_codec.specs.Reading.{words_of, start_of, length_rule, ◌>>=◌, packet_of, head_read, Gives}
use Rattle.packet_codec.proofs.WordLemmas.{IsBytes, IsBytes-take, IsBytes-drop, length-word, length-in_order}
use Rattle.packet_codec.proofs.WordLemmas.{words_again, words_back, words_fit, length-words_of}
use Rattle.packet_codec.proofs.StartLemmas.{IsStart, start_bytes, start_again, StartVerdict, start_verdict}
use Rattle.packet_codec.proofs.StartLemmas.{kind_code-below, unknown_start}

-- ---- the rules on the length

length_whole : (n : ℕ) → 0 < n → n % 4 ≡ 0 → n ≤ 4 * MAX_PACKET_WORDS → length_rule n ≡ Ok tt
length_whole n some whole short = grind (arith, nat_tests)

length_ragged : (n : ℕ) → n % 4 ≢ 0 → length_rule n ≡ Err faults.Ragged
length_ragged n ragged = grind (arith, nat_tests)

length_long : (n : ℕ) → n % 4 ≡ 0 → 4 * MAX_PACKET_WORDS < n → length_rule n ≡ Err faults.Long
length_long n whole long = grind (arith, nat_tests)

-- ---- a packet by its first word and the bytes after it

abbrev made : Head → List ℕ → Packet
made start rest = packet_with start (words_of start.order rest)

packet_by : (bytes : List ℕ) → HasPacketLength bytes → packet_of bytes
    ≡ (start_of (take 4 bytes) >>= λ start. Ok (made start (drop 4 bytes)))
unfolding packet_of
packet_by bytes is =
    ap (λ (rule : Result (Unit {0}) BadPacket). rule >>= λ _. start_of (take 4 bytes) >>= λ start. Ok
    (made start (drop 4 bytes))) (length_whole (length bytes) is.some is.whole is.short)

packet_by_length : (bytes : List ℕ) (fault : BadPacket) → length_rule (length bytes) ≡ Err fault → packet_of bytes
    ≡ Err fault
unfolding packet_of
packet_by_length bytes fault e =
    ap (λ (rule : Result (Unit {0}) BadPacket). rule >>= λ _. start_of (take 4 bytes) >>= λ start. Ok
    (made start (drop 4 bytes))) e

-- ---- a head that was read, and the body after it

allowed_length : (n : ℕ) → length_rule n ≡ Ok tt → 4 ≤ n
allowed_length n e = grind (arith, nat_tests)

-- the length was allowed, and the first word is this head
head_by : (rule : Result (Unit {0}) BadPacket) (start : Result Head BadPacket) (rest : List ℕ) (head : Head)
    → head_read (rule >>= λ _. start >>= λ s. Ok (made s rest)) ≡ Ok head → (rule ≡ Ok tt) × (start ≡ Ok head)
head_by (Err fault) start rest head e = absurd cc
head_by (Ok tt) (Err fault) rest head e = absurd cc
head_by (Ok tt) (Ok start) rest head e = (refl, e)

pub head_has_bytes : (bytes : List ℕ) (head : Head) → head_read (packet_of bytes) ≡ Ok head → 4 ≤ length bytes
unfolding packet_of
head_has_bytes bytes head e =
    allowed_length (length bytes) (head_by (length_rule (length bytes)) (start_of (take 4 bytes)) (drop 4 bytes) head
    e).0

pub head_with_body : (bytes : List ℕ) (head : Head) → head_read (packet_of bytes) ≡ Ok head
    → packet_of bytes ≡ Ok (made head (drop 4 bytes))
unfolding packet_of
head_with_body bytes head e =
    let by = head_by (length_rule (length bytes)) (start_of (take 4 bytes)) (drop 4 bytes) head e in
    ap (λ (rule : Result (Unit {0}) BadPacket). rule >>= λ _. start_of (take 4 bytes) >>= λ start. Ok
    (made start (drop 4 bytes))) by.0
    ∙ ap (λ (r : Result Head BadPacket). r >>= λ start. Ok (made start (drop 4 bytes))) by.1

-- ---- what is written is read

pub written_whole : (packet : Packet) → IsPacket packet → HasPacketLength (packet_bytes packet)
written_whole packet is =
    let count = length-in_order packet.order (packet_words packet) in
    let short = is.length in
    record { some = omega arith; whole = omega arith; short = omega arith }

pub packet_again : (packet : Packet) → IsPacket packet → packet_of (packet_bytes packet) ≡ Ok packet
packet_again packet is =
    let header = packet_header packet.id (kind_code packet.kind) in
    let start : Head = record { order = packet.order; id = packet.id; kind = packet.kind } in
    let front : take 4 (packet_bytes packet) ≡ start_bytes start =
    take_at (word_in_order packet.order header) (in_order packet.order packet.body) 4
    (length-word packet.order header) in
    let back : drop 4 (packet_bytes packet) ≡ in_order packet.order packet.body =
    drop_at (word_in_order packet.order header) (in_order packet.order packet.body) 4
    (length-word packet.order header) in
    let read : start_of (take 4 (packet_bytes packet)) ≡ Ok start =
    ap start_of front ∙ start_again start (record { id = is.id; order = is.order }) in
    let body : words_of packet.order (drop 4 (packet_bytes packet)) ≡ packet.body = ap (words_of packet.order) back
    ∙ words_again packet.order packet.body is.body in
    packet_by (packet_bytes packet) (written_whole packet is)
    ∙ ap (λ (r : Result Head BadPacket). r >>= λ s. Ok (made s (drop 4 (packet_bytes packet)))) read
    ∙ ap (λ (words : List ℕ). Ok (record packet { body = words })) body

-- ---- the first byte

first_big : (id code : ℕ) (body : List ℕ) → id < 2 ^ 16 → code < 2 ^ 4
    → get_or (in_order Big (packet_header id code ∷ body)) 0 0 ≡ 0x20
first_big id code body id_fits code_fits = omega arith

first_little : (id : ℕ) (body : List ℕ) → get_or (in_order Little (packet_header id 0 ∷ body)) 0 0 ≡ 0xf0
first_little id body = omega arith

pub first_byte_big : (packet : Packet) → IsPacket packet → packet.order ≡ Big → get_or (packet_bytes packet) 0 0 ≡ 0x20
first_byte_big packet is order-is =
    ap (λ (order : Order). get_or (in_order order (packet_words packet)) 0 0) order-is
    ∙ first_big packet.id (kind_code packet.kind) packet.body is.id (kind_code-below packet.kind)

pub first_byte_little : (packet : Packet) → IsPacket packet → packet.order ≡ Little → get_or (packet_bytes packet) 0 0
    ≡ 0xf0
first_byte_little packet is order-is =
    ap (λ (order : Order). get_or (in_order order (packet_words packet)) 0 0) order-is
    ∙ ap (λ (kind : PacketKind). get_or (in_order Little (packet_header packet.id (kind_code kind) ∷ packet.body)) 0
    0) (is.order order-is)
    ∙ first_little packet.id packet.body

-- a little-endian header of a status packet is allowed in no order
first_of : (order : Order) (id kind : ℕ) (rest : List ℕ) → 0xf1 ∷ 1 ∷ 0 ∷ 0x20 ∷ [] ≡ word_in_order order
    (packet_header id kind) ++ rest
    → get_or (word_in_order order (packet_header id kind)) 0 0 ≡ 0xf1
first_of Big id kind rest e = sym (ap (λ (bytes : List ℕ). get_or bytes 0 0) e)
first_of Little id kind rest e = sym (ap (λ (bytes : List ℕ). get_or bytes 0 0) e)

pub no_little_status : ¬ HasAllowedHeader (0xf1 ∷ 1 ∷ 0 ∷ 0x20 ∷ [])
no_little_status (inl (kind, kind_fits, header)) =
    let first = first_of Big header.id kind header.begins.0 header.begins.1 in
    let id_fits = header.id_fits in absurd (omega (arith, first, first_big header.id kind [] id_fits kind_fits))
no_little_status (inr header) =
    let first = first_of Little header.id 0 header.begins.0 header.begins.1 in
    absurd (omega (arith, first, first_little header.id []))

-- ---- what reading says of the bytes

abbrev pub Verdict : Result Packet BadPacket → List ℕ → Type 0
Verdict (Ok packet) bytes = IsPacket packet × (bytes ≡ packet_bytes packet)
Verdict (Err faults.Empty) bytes = bytes ≡ []
Verdict (Err faults.Ragged) bytes = length bytes % 4 ≢ 0
Verdict (Err faults.Long) bytes = IsTooLong bytes
Verdict (Err faults.Header) bytes = HasPacketLength bytes × ¬ HasAllowedHeader bytes
Verdict (Err faults.Kind) bytes = HasPacketLength bytes × HasUnknownKind bytes
Verdict (Err faults.NoMemory) bytes = ⊥

-- the first word of bytes that begin with it
front_is : (order : Order) (word : ℕ) (bytes rest : List ℕ) → bytes ≡ word_in_order order word ++ rest → take 4 bytes
    ≡ word_in_order order word
front_is order word bytes rest e = ap (λ (b : List ℕ). take 4 b) e ∙ take_at (word_in_order order word) rest 4
    (length-word order word)

begins_with : (order : Order) (word : ℕ) (bytes : List ℕ) → take 4 bytes ≡ word_in_order order word → bytes
    ≡ word_in_order order word ++ drop 4 bytes
begins_with order word bytes e = sym (take-append-drop 4 bytes) ∙ ap (λ (b : List ℕ). b ++ drop 4 bytes) e

verdict_ok : (bytes : List ℕ) (start : Head) → HasPacketLength bytes → IsBytes bytes → IsStart start → take 4 bytes
    ≡ start_bytes start
    → IsPacket (made start (drop 4 bytes)) × (bytes ≡ packet_bytes (made start (drop 4 bytes)))
verdict_ok bytes start whole fits is front =
    let rest_fits = IsBytes-drop 4 bytes fits in
    let rest_len = length-drop 4 bytes in
    let count = length-words_of start.order (drop 4 bytes) in
    let some = whole.some in let quarter = whole.whole in let short = whole.short in (
      record {
        id = is.id;
        body = words_fit start.order (drop 4 bytes) rest_fits;
        length = omega arith;
        order =
            is.order;
      },
      sym (take-append-drop 4 bytes) ∙ ap (λ (b : List ℕ). b ++ drop 4 bytes) front
          ∙ ap (λ (b : List ℕ). start_bytes start ++ b)
          (sym (words_back start.order (drop 4 bytes) (omega arith) rest_fits)),
    )

verdict_by : (bytes : List ℕ) (read : Result Head BadPacket) → HasPacketLength bytes → IsBytes bytes
    → StartVerdict read (take 4 bytes)
    → Verdict (read >>= λ start. Ok (made start (drop 4 bytes))) bytes
verdict_by bytes (Ok start) whole fits verdict = verdict_ok bytes start whole fits verdict.0 verdict.1
verdict_by bytes (Err faults.Kind) whole fits verdict = (
  whole,
  (
    verdict.kind,
    verdict.above,
    verdict.kind_fits,
    record {
      id = verdict.id;
      id_fits = verdict.id_fits;
      begins =
          (drop 4 bytes, begins_with Big (packet_header verdict.id verdict.kind) bytes verdict.spelled);
    },
  ),
)
verdict_by bytes (Err faults.Header) whole fits verdict = (
  whole,
  λ allowed.
      elim allowed [
        | inl big ↦ verdict.big big.2.id big.0 big.2.id_fits big.1 (front_is Big (packet_header big.2.id big.0) bytes
            big.2.begins.0 big.2.begins.1)
        | inr little ↦ verdict.little little.id little.id_fits (front_is Little (packet_header little.id 0) bytes
            little.begins.0 little.begins.1)
      ],
)
verdict_by bytes (Err faults.Empty) whole fits verdict = absurd verdict
verdict_by bytes (Err faults.Ragged) whole fits verdict = absurd verdict
verdict_by bytes (Err faults.Long) whole fits verdict = absurd verdict
verdict_by bytes (Err faults.NoMemory) whole fits verdict = absurd verdict

verdict_whole : (bytes : List ℕ) → HasPacketLength bytes → IsBytes bytes → Verdict (packet_of bytes) bytes
verdict_whole bytes whole fits =
    let four : length (take 4 bytes) ≡ 4 = let some = whole.some in let quarter = whole.whole in
    omega (arith, length-take 4 bytes) in
    subst (λ (r : Result Packet BadPacket). Verdict r bytes) (sym (packet_by bytes whole))
    (verdict_by bytes (start_of (take 4 bytes)) whole fits (start_verdict (take 4 bytes) four
    (IsBytes-take 4 bytes fits)))

refused_by_length : (bytes : List ℕ) (fault : BadPacket) → length_rule (length bytes) ≡ Err fault
    → Verdict (Err fault) bytes → Verdict (packet_of bytes) bytes
refused_by_length bytes fault e verdict = subst (λ (r : Result Packet BadPacket). Verdict r bytes)
    (sym (packet_by_length bytes fault e)) verdict

verdict_some : (bytes : List ℕ) → IsBytes bytes → 0 < length bytes → Verdict (packet_of bytes) bytes
verdict_some bytes fits some =
    elim (cases_lt 0 (length bytes % 4)) [
      | inl ragged ↦ let is : length bytes % 4 ≢ 0 = omega arith in
          refused_by_length bytes faults.Ragged (length_ragged (length bytes) is) is
      | inr whole ↦
          elim (cases_lt (4 * MAX_PACKET_WORDS) (length bytes)) [
            | inl long ↦
                let is : IsTooLong bytes = record { whole = omega arith; long = long } in
                refused_by_length bytes faults.Long (length_long (length bytes) is.whole is.long) is
            | inr short ↦ verdict_whole bytes (record { some = some; whole = omega arith; short = short }) fits
          ]
    ]

pub verdict : (bytes : List ℕ) → IsBytes bytes → Verdict (packet_of bytes) bytes
verdict [] fits = refused_by_length [] faults.Empty refl refl
verdict (byte ∷ bytes) fits = verdict_some (byte ∷ bytes) fits (omega arith)

-- what is read is spelled so
pub packet_back : (bytes : List ℕ) (packet : Packet) → IsBytes bytes → packet_of bytes ≡ Ok packet → IsPacket packet
    × (bytes ≡ packet_bytes packet)
packet_back bytes packet fits e = subst (λ (r : Result Packet BadPacket). Verdict r bytes) e (verdict bytes fits)

abbrev answered : Packet → Result Packet BadPacket
answered packet = Ok packet

-- no two packets have one spelling
pub one_packet : (one other : Packet) → IsPacket one → IsPacket other → packet_bytes one ≡ packet_bytes other → one
    ≡ other
one_packet one other is other-is e =
    let both : packet_of (packet_bytes one) ≡ Ok other = ap packet_of e ∙ packet_again other other-is in
    let mine = packet_again one is in
    let same : answered one ≡ answered other = sym mine ∙ both in cc

-- ---- each fault is refused by its rule

empty_refused : (bytes : List ℕ) → bytes ≡ [] → packet_of bytes ≡ Err faults.Empty
empty_refused bytes e = packet_by_length bytes faults.Empty (ap (λ (b : List ℕ). length_rule (length b)) e)

ragged_refused : (bytes : List ℕ) → length bytes % 4 ≢ 0 → packet_of bytes ≡ Err faults.Ragged
ragged_refused bytes ragged = packet_by_length bytes faults.Ragged (length_ragged (length bytes) ragged)

long_refused : (bytes : List ℕ) → IsTooLong bytes → packet_of bytes ≡ Err faults.Long
long_refused bytes is = packet_by_length bytes faults.Long (length_long (length bytes) is.whole is.long)

start_refused : (bytes : List ℕ) (fault : BadPacket) → HasPacketLength bytes → start_of (take 4 bytes) ≡ Err fault
    → packet_of bytes ≡ Err fault
start_refused bytes fault whole e = packet_by bytes whole ∙ ap (λ (r : Result Head BadPacket). r >>= λ start. Ok
    (made start (drop 4 bytes))) e

kind_refused : (bytes : List ℕ) → HasPacketLength bytes → HasUnknownKind bytes → packet_of bytes ≡ Err faults.Kind
kind_refused bytes whole unknown =
    let kind = unknown.0 in
    let header = unknown.3 in
    let front = front_is Big (packet_header header.id kind) bytes header.begins.0 header.begins.1 in
    start_refused bytes faults.Kind whole (unknown_start (take 4 bytes) header.id kind header.id_fits unknown.2
    unknown.1 front)

-- the spelling of a packet begins with a header that its type allows
allowed_by : (order : Order) (packet : Packet) (bytes : List ℕ) → IsPacket packet → packet.order ≡ order → bytes
    ≡ in_order order (packet_words packet) → HasAllowedHeader bytes
allowed_by Big packet bytes is order-is e =
    inl (
      kind_code packet.kind,
      kind_code-below packet.kind,
      record { id = packet.id; id_fits = is.id; begins = (in_order Big packet.body, e) },
    )
allowed_by Little packet bytes is order-is e =
    let control : packet_header packet.id (kind_code packet.kind) ≡ packet_header packet.id 0 =
    ap (λ (k : PacketKind). packet_header packet.id (kind_code k)) (is.order order-is) in
    inr (record {
      id = packet.id;
      id_fits = is.id;
      begins = (
        in_order Little packet.body,
        e ∙ ap (λ (header : ℕ). in_order Little (header ∷ packet.body)) control,
      );
    })

begins_allowed : (bytes : List ℕ) (packet : Packet) → IsPacket packet → bytes ≡ packet_bytes packet → HasAllowedHeader
    bytes
begins_allowed bytes packet is e = allowed_by packet.order packet bytes is refl e

-- bytes that are whole words and begin with no header are refused by that rule, since every other answer says otherwise
header_by : (bytes : List ℕ) (read : Result Packet BadPacket) → HasPacketLength bytes → ¬ HasAllowedHeader bytes
    → Verdict read bytes → read ≡ Err faults.Header
header_by bytes (Ok packet) whole none verdict = absurd (none (begins_allowed bytes packet verdict.0 verdict.1))
header_by bytes (Err faults.Empty) whole none verdict = let some = whole.some in let nil : bytes ≡ [] = verdict in
    let zero-len = ap length nil in absurd (omega arith)
header_by bytes (Err faults.Ragged) whole none verdict = absurd (verdict whole.whole)
header_by bytes (Err faults.Long) whole none verdict = let short = whole.short in let long = verdict.long in
    absurd (omega arith)
header_by bytes (Err faults.Header) whole none verdict = refl
header_by bytes (Err faults.Kind) whole none verdict = absurd (none (inl (verdict.1.0, verdict.1.2, verdict.1.3)))
header_by bytes (Err faults.NoMemory) whole none verdict = absurd verdict

header_refused : (bytes : List ℕ) → IsBytes bytes → HasPacketLength bytes → ¬ HasAllowedHeader bytes → packet_of bytes
    ≡ Err faults.Header
header_refused bytes fits whole none = header_by bytes (packet_of bytes) whole none (verdict bytes fits)

-- ---- a reader that gives what reading gives

-- a refusal other than want of memory is what reading gives
same_refusal : (result read : Result Packet BadPacket) (fault : BadPacket) → fault ≢ faults.NoMemory
    → Gives result read → (result ≡ Err fault) ↔ (read ≡ Err fault)
same_refusal (Ok packet) read fault other same = (λ e. absurd cc, λ e. absurd cc)
same_refusal (Err error) read fault other (inl same) = (λ e. same ∙ e, λ e. sym same ∙ e)
same_refusal (Err error) read fault other (inr (nothing, ok)) = (
  λ e. let both : fault ≡ faults.NoMemory = cc in absurd (other both),
  λ e. let refused : is_ok read ≡ false = ap (λ (r : Result Packet BadPacket). is_ok r) e in cc,
)

told : (bytes : List ℕ) (fault : BadPacket) → IsBytes bytes → packet_of bytes ≡ Err fault → Verdict (Err fault) bytes
told bytes fault fits e = subst (λ (r : Result Packet BadPacket). Verdict r bytes) e (verdict bytes fits)

spelled_by : (bytes : List ℕ) (read : Result Packet BadPacket) → IsOk read → Verdict read bytes → IsSpelling bytes
spelled_by bytes (Ok packet) ok verdict = (packet, verdict.0, verdict.1)
spelled_by bytes (Err fault) ok verdict = absurd cc

found_by : (bytes : List ℕ) (result : Result Packet BadPacket) → IsBytes bytes → Gives result (packet_of bytes)
    → IfOk result (λ packet. IsPacket packet × (bytes ≡ packet_bytes packet))
found_by bytes (Ok packet) fits same = packet_back bytes packet fits same
found_by bytes (Err fault) fits gives = tt

only_by : (result : Result Packet BadPacket) (packet : Packet) → Gives result (Ok packet) → MatchResult result
    (λ read. read ≡ packet) (λ error. error ≡ faults.NoMemory)
only_by (Ok read) packet same = cc
only_by (Err error) packet (inl same) = absurd cc
only_by (Err error) packet (inr (nothing, ok)) = nothing

no_memory_by : (bytes : List ℕ) (result read : Result Packet BadPacket) → Gives result read → Verdict read bytes
    → result ≡ Err faults.NoMemory → IsSpelling bytes
no_memory_by bytes (Ok packet) read gives verdict e = absurd cc
no_memory_by bytes (Err error) read (inl same) verdict e =
    let bad : read ≡ Err faults.NoMemory = same ∙ e in
    absurd (subst (λ (r : Result Packet BadPacket). Verdict r bytes) bad verdict)
no_memory_by bytes (Err error) read (inr (nothing, ok)) verdict e = spelled_by bytes read ok verdict

-- The clauses of a reader of these bytes that gives what reading gives.
module _ (bytes : List ℕ) (each_fits : (i : ℕ) → Fits w8 (get_or bytes i 0)) (result : Result Packet BadPacket)
    (gives : Gives result (packet_of bytes)) where
  fits : IsBytes bytes
  fits i = omega (arith, each_fits i)

  pub found : IfOk result (λ packet. IsPacket packet × (bytes ≡ packet_bytes packet))
  found = found_by bytes result fits gives

  pub only : (packet : Packet) → IsPacket packet → bytes ≡ packet_bytes packet → MatchResult result (λ read. read
      ≡ packet) (λ error. error ≡ faults.NoMemory)
  only packet is e = only_by result packet (subst (λ (r : Result Packet BadPacket). Gives result r) (ap packet_of e
      ∙ packet_again packet is) gives)

  refusal : (fault : BadPacket) → fault ≢ faults.NoMemory → (Verdict (Err fault) bytes → packet_of bytes ≡ Err fault)
      → (result ≡ Err fault) ↔ Verdict (Err fault) bytes
  refusal fault other back =
      let same = same_refusal result (packet_of bytes) fault other gives in
      (λ e. told bytes fault fits (same.0 e), λ is. same.1 (back is))

  pub empty : (result ≡ Err faults.Empty) ↔ (bytes ≡ [])
  empty = refusal faults.Empty (λ e. cc) (empty_refused bytes)

  pub ragged : (result ≡ Err faults.Ragged) ↔ (length bytes % 4 ≢ 0)
  ragged = refusal faults.Ragged (λ e. cc) (ragged_refused bytes)

  pub long : (result ≡ Err faults.Long) ↔ IsTooLong bytes
  long = refusal faults.Long (λ e. cc) (long_refused bytes)

  pub header : (result ≡ Err faults.Header) ↔ (HasPacketLength bytes × ¬ HasAllowedHeader bytes)
  header = refusal faults.Header (λ e. cc) (λ is. header_refused bytes fits is.0 is.1)

  pub kind : (result ≡ Err faults.Kind) ↔ (HasPacketLength bytes × HasUnknownKind bytes)
  kind = refusal faults.Kind (λ e. cc) (λ is. kind_refused bytes is.0 is.1)

  pub no_memory : result ≡ Err faults.NoMemory → IsSpelling bytes
  no_memory = no_memory_by bytes result (packet_of bytes) gives (verdict bytes fits)
