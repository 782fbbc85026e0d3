-- What a hub hears.
use Rattle.std.proofs.Common.{◌≡◌, ℕ, ◌+◌, ◌<◌, ◌≤◌, List, [], ◌∷◌, length, ◌⊎◌, inl, inr}
use Rattle.std.proofs.Common.{Option, Some, None, refl, sym, ap, ◌∙◌, arith}
use Rattle.world_model.specs.declared.offered.OpenPlace.{OpenPlace}
use Rattle.world_model.specs.Messages.{ToHub, Reply}
use Rattle.world_model.specs.Hub.{Hub, least, open_with, places, settle, take_message}
use Rattle.std.proofs.Common.{◌==◌, ◌*◌, ◌-◌, ◌&&◌, Bool, true, false, cond, Result, Ok, Err, subst}
use Rattle.std.proofs.Common.{take, drop, ◌/◌}
use Rattle.std.proofs.lemmas.Bool.{eqb-true}
use Rattle.std.proofs.lemmas.Bool.Decides.{nat_tests}
use Rattle.std.proofs.lemmas.List.{length-drop}
use Rattle.packet_codec.specs.declared.packet.TheConstants.{MAX_BODY_WORDS, MAX_PACKET_WORDS}
use Rattle.packet_codec.specs.declared.packet.BadPacket.{BadPacket}
use Rattle.packet_codec.specs.declared.packet.Packet.{Packet}
use Rattle.packet_codec.specs.declared.packet.PacketKind.{PacketKind}
use Rattle.packet_codec.specs.declared.packet.PacketKind.TheVariants as kinds
use Rattle.packet_codec.specs.declared.header.Header.{Header}
use Rattle.packet_codec.specs.Header.{kind_code}
use Rattle.packet_codec.specs.Reading.{◌>>=◌, header_of, length_rule, packet_of, start_of, words_of}
use Rattle.packet_codec.proofs.WordLemmas.{length-words_of}
use Rattle.world_model.specs.Messages.{StatusReply, can_be_told, packet_to_hub, said_to_hub, status_told, status_with}
use Rattle.world_model.specs.Messages.{to_hub}
use Rattle.packet_ids.specs.Identifier.{identifier_at}
use Rattle.world_model.proofs.Lists.{either}
use Rattle.world_model.proofs.Places.{has_below, has_from}
use Rattle.reliable_engine.specs.Answers.{IsOpen}
use Rattle.hub_lane.proofs.Windows.{IsWindowed}

-- an open place is one of the last 16
pub record IsNear (place sent : ℕ) : Type 0 where
  pub from_one : 1 ≤ place
  pub up_to_last : place ≤ sent
  pub near : sent < place + 16

pub open_near : (hub : Hub) (place : ℕ) → IsWindowed hub → IsOpen hub place → IsNear place (length hub.sent)
open_near hub place is there =
    let sent = length hub.sent in
    let ps = places hub.open_places in
    let from = has_from place (least ps (sent + 1)) (sent + 1) ps is.rising there in
    let under = has_below place (least ps (sent + 1)) (sent + 1) ps is.rising there in
    let one = is.from_one in
    let within = is.within in
    let few = is.few in
    record {
      from_one = omega (arith, from, one);
      up_to_last = omega (arith, under);
      near = omega (arith, from, within, few);
    }

none_with_zero : (first : ℕ) (os : List OpenPlace) → open_with first 0 os ≡ None
none_with_zero first [] = refl
none_with_zero first (o ∷ os) = either (λ (r : Option OpenPlace). r ≡ None) (identifier_at first o.place == 0) (Some o)
    (open_with first 0 os) (λ e. let zero = eqb-true _ _ e in absurd (omega arith)) (λ _. none_with_zero first os)

-- what says nothing to a hub, and the reply to a packet with identifier 0, change nothing
pub other_same : (hub : Hub) (told : Option ToHub)
    → (told ≡ None) ⊎ ((words : List ℕ) × (told ≡ Some (Reply 0 words))) → hub ≡ take_message hub told
other_same hub told is = elim is [
  | inl none ↦ ap (take_message hub) (sym none)
  | inr zero ↦ sym (ap (take_message hub) zero.1
      ∙ ap (λ (r : Option OpenPlace). settle hub zero.0 r) (none_with_zero hub.first hub.open_places))
]

-- ---- the words of a reply fit a packet

rule_short : (n : ℕ) → length_rule n ≡ Ok tt → n ≤ 4 * MAX_PACKET_WORDS
rule_short n e = grind (arith, nat_tests)

-- a packet is made of its start, where the length is allowed
read_short : {S : Type 0} (n : ℕ) (rule : Result (Unit {0}) BadPacket) (start : Result S BadPacket) (make : S → Packet)
    (p : Packet) → (rule ≡ Ok tt → n ≤ 4 * MAX_PACKET_WORDS) → ((s : S) → length (make s).body ≡ (n - 4) / 4)
    → (rule >>= λ _. start >>= λ s. Ok (make s)) ≡ Ok p → length p.body ≤ MAX_BODY_WORDS
read_short n (Err fault) start make p short count e = absurd cc
read_short n (Ok tt) (Err fault) make p short count e = absurd cc
read_short n (Ok tt) (Ok s) make p short count e =
    let is : make s ≡ p = cc in
    subst (λ (q : Packet). length q.body ≤ MAX_BODY_WORDS) is (omega (arith, count s, short refl))

packet_short : (bytes : List ℕ) (p : Packet) → packet_of bytes ≡ Ok p → length p.body ≤ MAX_BODY_WORDS
unfolding packet_of
packet_short bytes p e =
    let rest = drop 4 bytes in
    read_short (length bytes) (length_rule (length bytes)) (start_of (take 4 bytes))
    (λ s. record { order = s.order; id = s.id; kind = s.kind; body = words_of s.order rest }) p
    (rule_short (length bytes)) (λ s. length-words_of s.order rest ∙ ap (λ (n : ℕ). n / 4) (length-drop 4 bytes)) e

no_told : (mtu buffers : ℕ) (h : Option Header) (id : ℕ) (words : List ℕ)
    → status_with mtu buffers h ≡ Some (Reply id words) → ⊥
no_told mtu buffers None id words e = cc
no_told mtu buffers (Some h) id words e = unless ((h.kind == kind_code kinds.Control) && can_be_told mtu buffers h.id) e
  where
    unless : (b : Bool) → cond b (Some (StatusReply mtu buffers h.id)) None ≡ Some (Reply id words) → ⊥
    unless true told = cc
    unless false told = cc

no_status : (body : List ℕ) (id : ℕ) (words : List ℕ) → status_told body ≡ Some (Reply id words) → ⊥
no_status [] id words e = cc
no_status (a ∷ []) id words e = cc
no_status (a ∷ b ∷ []) id words e = cc
no_status (a ∷ b ∷ c ∷ rest) id words e = unless (length rest == 12) e
  where
    unless : (t : Bool) → cond t (status_with a b (header_of c)) None ≡ Some (Reply id words) → ⊥
    unless true told = no_told a b (header_of c) id words told
    unless false told = cc

said_short : (kind : PacketKind) (field : ℕ) (body : List ℕ) (id : ℕ) (words : List ℕ) → length body ≤ MAX_BODY_WORDS
    → said_to_hub kind field body ≡ Some (Reply id words) → length words ≤ MAX_BODY_WORDS
said_short kinds.Control field body id words short e =
    let is : body ≡ words = cc in subst (λ (l : List ℕ). length l ≤ MAX_BODY_WORDS) is short
said_short kinds.Status field body id words short e = unless (field == 0) e
  where
    unless : (zero_id : Bool) → cond zero_id (status_told body) None ≡ Some (Reply id words)
        → length words ≤ MAX_BODY_WORDS
    unless true told = absurd (no_status body id words told)
    unless false told = absurd cc
said_short kinds.Resend field body id words short e = absurd cc

told_short : (r : Result Packet BadPacket) (id : ℕ) (words : List ℕ)
    → ((p : Packet) → r ≡ Ok p → length p.body ≤ MAX_BODY_WORDS) → packet_to_hub r ≡ Some (Reply id words)
    → length words ≤ MAX_BODY_WORDS
told_short (Err fault) id words short e = absurd cc
told_short (Ok p) id words short e = said_short p.kind p.id p.body id words (short p refl) e

pub reply_short : (bytes : List ℕ) (id : ℕ) (words : List ℕ) → to_hub bytes ≡ Some (Reply id words)
    → length words ≤ MAX_BODY_WORDS
unfolding to_hub
reply_short bytes id words e = told_short (packet_of bytes) id words (packet_short bytes) e
