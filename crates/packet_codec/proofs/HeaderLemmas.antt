-- The header word, packed and unpacked.
use Rattle.std.specs.Prelude.{◌&&◌, ◌==◌, if◌then◌else◌}
use Rattle.std.proofs.Common.{◌≡◌, ℕ, ◌+◌, ◌*◌, ◌/◌, ◌%◌, ◌<◌, ◌^◌, bit_or, Bool, true, false, Some, None, refl, ap}
use Rattle.std.proofs.Common.{subst, ◌∙◌, arith}
use Rattle.std.proofs.lemmas.Bool.{eqb-true}
use Rattle.std.proofs.lemmas.Nat.{or_shifted}
use Rattle.packet_codec.specs.declared.header.Header.{Header}
use Rattle.packet_codec.specs.Header.{packet_header}
use Rattle.packet_codec.specs.Reading.{header_of}

-- the fields share no bit, so joining them is adding them
pub fields_joined : (id kind : ℕ) → id < 2 ^ 16 → kind < 2 ^ 4
    → bit_or (bit_or (bit_or 0x20000000 (id * 2 ^ 8 % 2 ^ 32)) 0xf0) kind ≡ packet_header id kind
fields_joined id kind id_fits kind_fits =
    let whole : id * 2 ^ 8 % 2 ^ 32 ≡ id * 2 ^ 8 = omega arith in
    let one : bit_or (2 * 2 ^ 28) (id * 2 ^ 8) ≡ 2 * 2 ^ 28 + id * 2 ^ 8 = or_shifted 2 28 (id * 2 ^ 8) (omega arith) in
    let two_form : 2 * 2 ^ 28 + id * 2 ^ 8 ≡ (2 * 2 ^ 20 + id) * 2 ^ 8 = omega arith in
    let two : bit_or ((2 * 2 ^ 20 + id) * 2 ^ 8) 0xf0 ≡ (2 * 2 ^ 20 + id) * 2 ^ 8 + 0xf0 =
    or_shifted (2 * 2 ^ 20 + id) 8 0xf0 (omega arith) in
    let three_form : (2 * 2 ^ 20 + id) * 2 ^ 8 + 0xf0 ≡ (2 * 2 ^ 24 + id * 2 ^ 4 + 0xf) * 2 ^ 4 = omega arith in
    let three : bit_or ((2 * 2 ^ 24 + id * 2 ^ 4 + 0xf) * 2 ^ 4) kind ≡ (2 * 2 ^ 24 + id * 2 ^ 4 + 0xf) * 2 ^ 4 +
    kind = or_shifted (2 * 2 ^ 24 + id * 2 ^ 4 + 0xf) 4 kind kind_fits in
    ap (λ (n : ℕ). bit_or (bit_or (bit_or 0x20000000 n) 0xf0) kind) whole
    ∙ ap (λ (n : ℕ). bit_or (bit_or n 0xf0) kind) (one ∙ two_form)
    ∙ ap (λ (n : ℕ). bit_or n kind) (two ∙ three_form) ∙ three ∙ omega arith

-- a header that was written is read
pub header_again : (id kind : ℕ) → id < 2 ^ 16 → kind < 2 ^ 4 → header_of (packet_header id kind)
    ≡ Some (record { id = id; kind = kind })
header_again id kind id_fits kind_fits =
    let version : packet_header id kind / 2 ^ 24 ≡ 0x20 = omega arith in
    let qualifier : packet_header id kind / 2 ^ 4 % 2 ^ 4 ≡ 0xf = omega arith in
    let id-is : packet_header id kind / 2 ^ 8 % 2 ^ 16 ≡ id = omega arith in
    let kind-is : packet_header id kind % 2 ^ 4 ≡ kind = omega arith in
    rw (version, qualifier, id-is, kind-is) refl

-- What a header that was read says of its word.
pub record IsHeader (word : ℕ) (header : Header) : Type 0 where
  pub id : header.id < 2 ^ 16
  pub kind : header.kind < 2 ^ 4
  pub spelled : word ≡ packet_header header.id header.kind

chosen : (version qualifier : Bool) (made header : Header) → (if version && qualifier then Some made else None)
    ≡ Some header
    → (version ≡ true) × (qualifier ≡ true) × (made ≡ header)
chosen true true made header e = (refl, refl, cc)
chosen true false made header e = absurd cc
chosen false qualifier made header e = absurd cc

-- a header that is read was written
pub header_back : (word : ℕ) (header : Header) → header_of word ≡ Some header → IsHeader word header
header_back word header e =
    let made : Header = record { id = word / 2 ^ 8 % 2 ^ 16; kind = word % 2 ^ 4 } in
    let tests = chosen (word / 2 ^ 24 == 0x20) (word / 2 ^ 4 % 2 ^ 4 == 0xf) made header e in
    let version : word / 2 ^ 24 ≡ 0x20 = eqb-true _ _ tests.0 in
    let qualifier : word / 2 ^ 4 % 2 ^ 4 ≡ 0xf = eqb-true _ _ tests.1 in
    let is : IsHeader word made = record { id = omega arith; kind = omega arith; spelled = omega arith } in
    subst (λ (h : Header). IsHeader word h) tests.2 is
