-- The first word of a packet, written and read.
use Rattle.std.specs.Prelude.{◌==◌, if◌then◌else◌}
use Rattle.std.proofs.Common.{◌≡◌, ℕ, zero, suc, ◌/◌, ◌%◌, ◌<◌, ◌^◌, Bool, true, false, List, length, Option, Some}
use Rattle.std.proofs.Common.{◌≢◌, None, Result, Ok, Err, refl, sym, ap, subst, ◌∙◌, arith, lit<}
use Rattle.std.proofs.lemmas.Bool.{eqb-true}
use Rattle.packet_codec.specs.declared.header.Header.{Header}
use Rattle.packet_codec.specs.declared.packet.Order.{Order}
use Rattle.packet_codec.specs.declared.packet.Order.TheVariants.{Big, Little}
use Rattle.packet_codec.specs.declared.packet.PacketKind.{PacketKind}
use Rattle.packet_codec.specs.declared.packet.PacketKind.TheVariants.{Control, Status, Resend}
use Rattle.packet_codec.specs.declared.packet.BadPacket.{BadPacket}
use Rattle.packet_codec.specs.declared.packet.BadPacket.TheVariants as faults
use Rattle.packet_codec.specs.declared.packet.Head.{Head}
use Rattle.packet_codec.specs.Header.{kind_code, packet_header}
use Rattle.packet_codec.specs.Reading.{header_of}
use Rattle.packet_codec.specs.Packet.{word_in_order}
use Rattle.packet_codec.specs.Reading.{word_from, known_kind, big_start, little_start, start_by, start_of}
use Rattle.packet_codec.proofs.HeaderLemmas.{header_again, header_back}
use Rattle.packet_codec.proofs.WordLemmas.{IsBytes, word_again, word_back}

-- ---- types

pub kind_code-below : (kind : PacketKind) → kind_code kind < 2 ^ 4
kind_code-below Control = lit< tt
kind_code-below Status = lit< tt
kind_code-below Resend = lit< tt

pub kind_again : (kind : PacketKind) → known_kind (kind_code kind) ≡ Some kind
kind_again Control = refl
kind_again Status = refl
kind_again Resend = refl

pub kind_back : (code : ℕ) (kind : PacketKind) → known_kind code ≡ Some kind → code ≡ kind_code kind
kind_back zero kind e = let same : Control ≡ kind = cc in ap kind_code same
kind_back (suc zero) kind e = let same : Status ≡ kind = cc in ap kind_code same
kind_back (suc (suc zero)) kind e = let same : Resend ≡ kind = cc in ap kind_code same
kind_back (suc (suc (suc code))) kind e = absurd cc

pub kind_unknown : (code : ℕ) → 2 < code → known_kind code ≡ None
kind_unknown zero above = absurd (omega arith)
kind_unknown (suc zero) above = absurd (omega arith)
kind_unknown (suc (suc zero)) above = absurd (omega arith)
kind_unknown (suc (suc (suc code))) above = refl

-- ---- the first word

-- What has a spelling as a first word.
pub record IsStart (start : Head) : Type 0 where
  pub id : start.id < 2 ^ 16
  pub order : start.order ≡ Little → start.kind ≡ Control

abbrev pub start_bytes : Head → List ℕ
start_bytes start = word_in_order start.order (packet_header start.id (kind_code start.kind))

pub header_fits : (id kind : ℕ) → id < 2 ^ 16 → kind < 2 ^ 4 → packet_header id kind < 2 ^ 32
header_fits id kind id_fits kind_fits = omega arith

-- the header that the bytes of a header are, in the same order
pub written_header : (order : Order) (id kind : ℕ) → id < 2 ^ 16 → kind < 2 ^ 4
    → header_of (word_from order (word_in_order order (packet_header id kind))) ≡ Some (record { id = id; kind = kind })
written_header order id kind id_fits kind_fits =
    rw (word_again order (packet_header id kind) (header_fits id kind id_fits kind_fits))
    (header_again id kind id_fits kind_fits)

pub begun_header : (order : Order) (first : List ℕ) (id kind : ℕ) → id < 2 ^ 16 → kind < 2 ^ 4 → first
    ≡ word_in_order order (packet_header id kind)
    → header_of (word_from order first) ≡ Some (record { id = id; kind = kind })
begun_header order first id kind id_fits kind_fits e =
    ap (λ (bytes : List ℕ). header_of (word_from order bytes)) e ∙ written_header order id kind id_fits kind_fits

other_version : (word : ℕ) → word / 2 ^ 24 ≡ 0xf0 → header_of word ≡ None
other_version word e = rw e refl

-- the first byte of a little-endian header of a control packet is 0xf0, and that of a big-endian header 0x20
pub little_is_not_big : (id : ℕ) → id < 2 ^ 16 → header_of (word_from Big (word_in_order Little (packet_header id 0)))
    ≡ None
little_is_not_big id id_fits =
    let low : packet_header id 0 % 256 ≡ 0xf0 = omega arith in
    other_version (word_from Big (word_in_order Little (packet_header id 0))) (omega arith)

again_big : (id : ℕ) (kind : PacketKind) → id < 2 ^ 16
    → start_of (word_in_order Big (packet_header id (kind_code kind))) ≡ Ok (record {
      order = Big;
      id = id;
      kind =
          kind;
    })
unfolding start_of
again_big id kind id_fits =
    let first = word_in_order Big (packet_header id (kind_code kind)) in
    ap (λ (header : Option Header). start_by header (header_of (word_from Little first)))
    (written_header Big id (kind_code kind) id_fits (kind_code-below kind))
    ∙ ap (λ (known : Option PacketKind). big_start id known) (kind_again kind)

again_little : (id : ℕ) → id < 2 ^ 16 → start_of (word_in_order Little (packet_header id 0))
    ≡ Ok (record { order = Little; id = id; kind = Control })
unfolding start_of
again_little id id_fits =
    let first = word_in_order Little (packet_header id 0) in
    ap (λ (header : Option Header). start_by header (header_of (word_from Little first))) (little_is_not_big id id_fits)
    ∙ ap (λ (header : Option Header). little_start header) (written_header Little id 0 id_fits (lit< tt))

again_by : (order : Order) (id : ℕ) (kind : PacketKind) → id < 2 ^ 16 → (order ≡ Little → kind ≡ Control)
    → start_of (word_in_order order (packet_header id (kind_code kind))) ≡ Ok (record {
      order = order;
      id = id;
      kind =
          kind;
    })
again_by Big id kind id_fits allowed = again_big id kind id_fits
again_by Little id kind id_fits allowed =
    let P : PacketKind → Type 0 = λ k. start_of (word_in_order Little (packet_header id (kind_code k)))
    ≡ Ok (record { order = Little; id = id; kind = k }) in
    subst P (sym (allowed refl)) (again_little id id_fits)

-- a first word that was written is read
pub start_again : (start : Head) → IsStart start → start_of (start_bytes start) ≡ Ok start
start_again start is = again_by start.order start.id start.kind is.id is.order

-- ---- what reading the first word says of it

-- a big-endian header of an unknown type
pub record IsUnknown (first : List ℕ) : Type 0 where
  pub id : ℕ
  pub kind : ℕ
  pub id_fits : id < 2 ^ 16
  pub kind_fits : kind < 2 ^ 4
  pub above : 2 < kind
  pub spelled : first ≡ word_in_order Big (packet_header id kind)

-- no header in an order that its type allows
pub record IsNoHeader (first : List ℕ) : Type 0 where
  pub big : (id kind : ℕ) → id < 2 ^ 16 → kind < 2 ^ 4 → first ≡ word_in_order Big (packet_header id kind) → ⊥
  pub little : (id : ℕ) → id < 2 ^ 16 → first ≡ word_in_order Little (packet_header id 0) → ⊥

-- what is so where the first word is read as this
abbrev pub StartVerdict : Result Head BadPacket → List ℕ → Type 0
StartVerdict (Ok start) first = IsStart start × (first ≡ start_bytes start)
StartVerdict (Err faults.Kind) first = IsUnknown first
StartVerdict (Err faults.Header) first = IsNoHeader first
StartVerdict (Err faults.Empty) first = ⊥
StartVerdict (Err faults.Ragged) first = ⊥
StartVerdict (Err faults.Long) first = ⊥
StartVerdict (Err faults.NoMemory) first = ⊥

kind_above : (code : ℕ) → known_kind code ≡ None → 2 < code
kind_above zero e = absurd cc
kind_above (suc zero) e = absurd cc
kind_above (suc (suc zero)) e = absurd cc
kind_above (suc (suc (suc code))) e = omega arith

header_bytes : (order : Order) (first : List ℕ) (header : Header) → length first ≡ 4 → IsBytes first
    → header_of (word_from order first) ≡ Some header
    → first ≡ word_in_order order (packet_header header.id header.kind)
header_bytes order first header four fits e =
    sym (word_back order first four fits) ∙ ap (λ (word : ℕ). word_in_order order word)
    (header_back (word_from order first) header e).spelled

verdict_big : (first : List ℕ) (header : Header) (known : Option PacketKind) → length first ≡ 4 → IsBytes first
    → header_of (word_from Big first) ≡ Some header
    → known_kind header.kind ≡ known → StartVerdict (big_start header.id known) first
verdict_big first header None four fits e known =
    let is = header_back (word_from Big first) header e in
    record {
      id = header.id;
      kind = header.kind;
      id_fits = is.id;
      kind_fits = is.kind;
      above =
          kind_above header.kind known;
      spelled = header_bytes Big first header four fits e;
    }
verdict_big first header (Some kind) four fits e known =
    let is = header_back (word_from Big first) header e in (
      record { id = is.id; order = λ little. absurd cc },
      header_bytes Big first header four fits e ∙ ap (λ (code : ℕ). word_in_order Big (packet_header header.id code))
          (kind_back header.kind kind known),
    )

no_big : (first : List ℕ) → header_of (word_from Big first) ≡ None → (id kind : ℕ) → id < 2 ^ 16 → kind < 2 ^ 4
    → first ≡ word_in_order Big (packet_header id kind) → ⊥
no_big first e id kind id_fits kind_fits spelled = let read = begun_header Big first id kind id_fits kind_fits
    spelled in cc

verdict_zero : (first : List ℕ) (header : Header) (control : Bool) → length first ≡ 4 → IsBytes first
    → header_of (word_from Big first) ≡ None
    → header_of (word_from Little first) ≡ Some header → (header.kind == 0) ≡ control
    → StartVerdict (if control then Ok (record { order = Little; id = header.id; kind = Control }) else Err
    faults.Header) first
verdict_zero first header true four fits none e zero-is =
    let is = header_back (word_from Little first) header e in (
      record { id = is.id; order = λ little. refl },
      header_bytes Little first header four fits e
          ∙ ap (λ (code : ℕ). word_in_order Little (packet_header header.id code)) (eqb-true _ _ zero-is),
    )
verdict_zero first header false four fits none e other =
    record {
      big = no_big first none;
      little = λ id id_fits spelled.
          let read = begun_header Little first id 0 id_fits (lit< tt) spelled in
          let same : Some header ≡ Some (record { id = id; kind = 0 }) = sym e ∙ read in
          let kind-is : header.kind ≡ 0 = cc in
          let true-is : (header.kind == 0) ≡ true = rw kind-is refl in
          cc;
    }

verdict_little : (first : List ℕ) (little : Option Header) → length first ≡ 4 → IsBytes first
    → header_of (word_from Big first) ≡ None
    → header_of (word_from Little first) ≡ little → StartVerdict (little_start little) first
verdict_little first None four fits none e =
    record {
      big = no_big first none;
      little = λ id id_fits spelled. let read = begun_header Little first id 0 id_fits (lit< tt) spelled in cc;
    }
verdict_little first (Some header) four fits none e = verdict_zero first header (header.kind == 0) four fits none e refl

verdict_by : (first : List ℕ) (big little : Option Header) → length first ≡ 4 → IsBytes first
    → header_of (word_from Big first) ≡ big
    → header_of (word_from Little first) ≡ little → StartVerdict (start_by big little) first
verdict_by first (Some header) little four fits e f = verdict_big first header (known_kind header.kind) four fits e refl
verdict_by first None little four fits e f = verdict_little first little four fits e f

pub start_verdict : (first : List ℕ) → length first ≡ 4 → IsBytes first → StartVerdict (start_of first) first
unfolding start_of
start_verdict first four fits = verdict_by first (header_of (word_from Big first))
    (header_of (word_from Little first)) four fits refl refl

-- a big-endian header of an unknown type is refused
pub unknown_start : (first : List ℕ) (id kind : ℕ) → id < 2 ^ 16 → kind < 2 ^ 4 → 2 < kind → first ≡ word_in_order Big
    (packet_header id kind) → start_of first ≡ Err faults.Kind
unfolding start_of
unknown_start first id kind id_fits kind_fits above spelled =
    ap (λ (header : Option Header). start_by header (header_of (word_from Little first)))
    (begun_header Big first id kind id_fits kind_fits spelled)
    ∙ ap (λ (known : Option PacketKind). big_start id known) (kind_unknown kind above)

-- ---- reading the first word takes no memory

abbrev of_head : Bool → Head → Result Head BadPacket
of_head control head = if control then Ok head else Err faults.Header

of_head_known : (control : Bool) (head : Head) → of_head control head ≢ Err faults.NoMemory
of_head_known true head e = cc
of_head_known false head e = cc

big_known : (id : ℕ) (known : Option PacketKind) → big_start id known ≢ Err faults.NoMemory
big_known id None e = cc
big_known id (Some kind) e = cc

start_known : (big little : Option Header) → start_by big little ≢ Err faults.NoMemory
start_known (Some header) little e = big_known header.id (known_kind header.kind) e
start_known None None e = cc
start_known None (Some header) e =
    of_head_known (header.kind == 0) (record { order = Little; id = header.id; kind = Control }) e

pub start_without_memory : (first : List ℕ) → start_of first ≢ Err faults.NoMemory
unfolding start_of
start_without_memory first e = start_known (header_of (word_from Big first)) (header_of (word_from Little first)) e
