-- A datagram that the hub may still hear shows no place that was not executed.
use Rattle.std.proofs.Common.{◌≡◌, ◌∙◌, ◌⊎◌, ℕ, ◌+◌, ◌-◌, ◌<◌, ◌≤◌, List, length, Some, Result, Ok, Err, refl, ap}
use Rattle.std.proofs.Common.{subst, inl, inr, arith}
use Rattle.std.proofs.lemmas.Bool.{cases_lt}
use Rattle.packet_ids.specs.Identifier.{IsIdentifier, identifier_at}
use Rattle.packet_codec.specs.declared.packet.Head.{Head}
use Rattle.packet_codec.specs.declared.packet.Packet.{Packet}
use Rattle.packet_codec.specs.declared.packet.PacketKind.{PacketKind}
use Rattle.packet_codec.specs.declared.packet.PacketKind.TheVariants.{Control}
use Rattle.packet_codec.specs.declared.packet.BadPacket.{BadPacket}
use Rattle.packet_codec.specs.Packet.{AreBytes, head_of}
use Rattle.packet_codec.specs.Reading.{packet_of, head_read}
use Rattle.world_model.specs.Messages.{Reply, control_packet, packet_to_hub, said_to_hub, to_hub}
use Rattle.world_model.specs.Air.{LIFETIME}
use Rattle.world_model.specs.Facts.{IsReplyOf, IsSaidToHub, IsToldOf}
use Rattle.world_model.proofs.Lists.{at_from_one, at_within}
use Rattle.world_model.proofs.Places.{one_place}
use Rattle.capture_reader.specs.declared.capture.Caught.{Caught}
use Rattle.capture_reader.specs.Proved.{ProvesByReply, ProvesByStatus}
use Rattle.record_command.proofs.Joint.{Laws}

-- ---- what a control packet says to a hub

pub record SaysReply (bytes : List ℕ) (id : ℕ) : Type 0 where
  pub words : List ℕ
  pub says : to_hub bytes ≡ Some (Reply id words)

-- what the packet that was read says
reply_by : (r : Result Packet BadPacket) (head : Head) → head_read r ≡ Ok head → head.kind ≡ Control
    → (words : List ℕ) × (packet_to_hub r ≡ Some (Reply head.id words))
reply_by (Err fault) head e control = absurd (cc)
reply_by (Ok packet) head e control =
    let same : head_of packet ≡ head = cc in
    let kind : packet.kind ≡ Control = ap (λ (h : Head). h.kind) same ∙ control in
    let id : packet.id ≡ head.id = ap (λ (h : Head). h.id) same in (
      packet.body,
      ap (λ (k : PacketKind). said_to_hub k packet.id packet.body) kind
          ∙ ap (λ (i : ℕ). Some (Reply i packet.body)) id,
    )

pub says_reply : (bytes : List ℕ) (head : Head) → head_read (packet_of bytes) ≡ Ok head → head.kind ≡ Control
    → SaysReply bytes head.id
unfolding to_hub
says_reply bytes head e control =
    let r = reply_by (packet_of bytes) head e control in record { words = r.0; says = r.1 }

-- ---- places

-- of two places with one identifier, the later one is not sent yet
pub not_later : (first sent birth place other near : ℕ) → IsIdentifier first → 1 ≤ place → 1 ≤ other
    → place ≤ sent + 1 → sent - birth ≤ LIFETIME → birth < other + near → near ≤ 80
    → identifier_at first place ≡ identifier_at first other → place ≤ other
not_later first sent birth place other near is one from within alive recent few same =
    elim (cases_lt other place) [
      | inl later ↦
          let e = one_place first place other is one from (omega arith) (omega arith) same in absurd (omega arith)
      | inr fine ↦ omega arith
    ]

module _ (laws : Laws) where
  -- a reply with this identifier is that of a place
  by_reply : (first sent birth place : ℕ) (answers : List (List ℕ)) (bytes : List ℕ) → IsIdentifier first
      → sent - birth ≤ LIFETIME → IsSaidToHub first answers birth (to_hub bytes)
      → ProvesByReply first sent bytes place → place ≤ length answers
  by_reply first sent birth place answers bytes is alive said p =
      let reply = says_reply bytes p.head p.spelled p.control in
      let of_place : IsReplyOf first answers birth p.head.id reply.words =
      subst (IsSaidToHub first answers birth) reply.says said in
      let within = at_within answers of_place.place reply.words of_place.at in
      let one = at_from_one answers of_place.place reply.words of_place.at in
      let under = not_later first sent birth place of_place.place 80 is p.from_one one (omega (arith, p.was_sent)) alive
      (omega (arith, of_place.recent)) (omega arith) (p.identifier ∙ of_place.identifier) in
      omega arith

  -- a status reply tells the place behind those that were executed, or an earlier one
  by_status : (first sent birth place : ℕ) (answers : List (List ℕ)) (bytes : List ℕ) → IsIdentifier first
      → AreBytes bytes → sent - birth ≤ LIFETIME → IsSaidToHub first answers birth (to_hub bytes)
      → ProvesByStatus first sent bytes place → place ≤ length answers
  by_status first sent birth place answers bytes is fits alive said p =
      let says = (laws.says_status bytes p.mtu p.buffers p.next fits).1
      (p.mtu_range, p.buffer_range, p.identifier_range, p.told) in
      let of_place : IsToldOf first (length answers) birth p.next =
      subst (IsSaidToHub first answers birth) says said in
      let under = not_later first sent birth (place + 1) of_place.place 16 is (omega arith) of_place.from_one
      (omega (arith, p.was_sent)) alive (omega (arith, of_place.recent)) (omega arith)
      (p.identifier ∙ of_place.identifier) in
      omega (arith, of_place.up_to_next)

  pub shows_executed : (first sent birth place : ℕ) (answers : List (List ℕ)) (item : Caught) → IsIdentifier first
      → AreBytes item.bytes → sent - birth ≤ LIFETIME → IsSaidToHub first answers birth (to_hub item.bytes)
      → ProvesByReply first sent item.bytes place ⊎ ProvesByStatus first sent item.bytes place
      → place ≤ length answers
  shows_executed first sent birth place answers item is fits alive said (inl p) =
      by_reply first sent birth place answers item.bytes is alive said p
  shows_executed first sent birth place answers item is fits alive said (inr p) =
      by_status first sent birth place answers item.bytes is fits alive said p

  -- ---- a reply that the hub takes proves its place

  pub proves_its_place : (first sent place id : ℕ) (words bytes : List ℕ) → AreBytes bytes
      → to_hub bytes ≡ Some (Reply id words) → 1 ≤ place → place ≤ sent → identifier_at first place ≡ id
      → ProvesByReply first sent bytes place
  proves_its_place first sent place id words bytes fits says one within named =
      let found = (laws.says_reply bytes id words fits).0 says in
      let packet = control_packet found.0 id words in
      record {
        head = head_of packet;
        spelled = ap (λ (b : List ℕ). head_read (packet_of b)) found.2
            ∙ ap head_read (laws.below.packets.back.packet packet found.1);
        control = refl;
        from_one = one;
        was_sent = within;
        identifier = named;
      }
