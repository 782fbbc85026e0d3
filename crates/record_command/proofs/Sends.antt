-- What a hub sends, as a capture shows it: a packet that is big-endian, and new exactly where a body gets its place.
use Rattle.std.proofs.Common.{◌≡◌, ◌∙◌, ◌⊎◌, ℕ, ◌+◌, ◌<◌, ◌^◌, Bool, true, false, ◌==◌, ◌&&◌, List, [], ◌∷◌, ◌++◌}
use Rattle.std.proofs.Common.{length, Option, Some, None, refl, ap, sym, subst, inl, inr, arith, rules, if◌then◌else◌}
use Rattle.std.specs.Prelude.{nat_le}
use Rattle.std.proofs.lemmas.Bool.{eq-eqb}
use Rattle.std.proofs.lemmas.Bool.Decides.{eqb_tells}
use Rattle.packet_ids.specs.Identifier.{identifier_at}
use Rattle.packet_codec.specs.declared.packet.Order.{Order}
use Rattle.packet_codec.specs.declared.packet.Order.TheVariants.{Big}
use Rattle.packet_codec.specs.declared.packet.Packet.{Packet}
use Rattle.packet_codec.specs.Packet.{IsPacket, packet_bytes}
use Rattle.packet_codec.specs.Reading.{packet_of, head_read}
use Rattle.world_model.specs.declared.offered.Offered.{Offered}
use Rattle.world_model.specs.declared.offered.OpenPlace.{OpenPlace}
use Rattle.world_model.specs.declared.sending.Sending.{Sending}
use Rattle.world_model.specs.declared.sending.Sending.TheVariants as sends
use Rattle.world_model.specs.Places.{at_place}
use Rattle.world_model.specs.Messages.{control_packet}
use Rattle.world_model.specs.Hub.{Hub, least, low, places, words_of}
use Rattle.world_model.specs.Sends.{Next, Wanted, first_send, next_send, packet_to_send, first_wanted, wanted_or_first}
use Rattle.world_model.specs.Links.{Told, together}
use Rattle.world_model.specs.Facts.{AreSendable, IsSendable, IsSound, has}
use Rattle.world_model.specs.Below.{Below}
use Rattle.world_model.proofs.Hubs.{IsWantedOr, IsWish, named_fits, sendable_at, wanted_is}
use Rattle.world_model.proofs.Lists.{at_exists, at_seam, either}
use Rattle.world_model.proofs.Places.{has_below, has_from, id_fits, one_place}
use Rattle.capture_reader.specs.Proved.{is_big, is_big_control, is_control, sent_after}
use Rattle.record_command.specs.Passing.{sent_item}
use Rattle.record_command.specs.Captures.{body_in, new_body}

-- a packet is the next one that is sent for the first time
abbrev pub is_next : ℕ → ℕ → Packet → Bool
is_next first sent packet =
    is_big packet.order && is_control packet.kind && (packet.id == identifier_at first (sent + 1))

-- what a capture makes of a packet that is sent
pub record AddsNothing (first sent : ℕ) (bytes : List ℕ) : Type 0 where
  pub count : sent_after first sent (sent_item bytes) ≡ sent
  pub body : new_body first sent (sent_item bytes) ≡ []

pub record Adds (first sent : ℕ) (bytes body : List ℕ) : Type 0 where
  pub count : sent_after first sent (sent_item bytes) ≡ sent + 1
  pub body' : new_body first sent (sent_item bytes) ≡ body ∷ []

module _ (below : Below) where
  pub adds_nothing : (first sent : ℕ) (packet : Packet) → IsPacket packet → is_next first sent packet ≡ false
      → AddsNothing first sent (packet_bytes packet)
  adds_nothing first sent packet is other =
      let again = below.packets.back.packet packet is in
      let flag : is_big_control (identifier_at first (sent + 1)) (head_read (packet_of (packet_bytes packet))) ≡ false =
      ap (λ r. is_big_control (identifier_at first (sent + 1)) (head_read r)) again ∙ other in
      record {
        count = ap (λ (b : Bool). if b then sent + 1 else sent) flag;
        body = ap (λ (b : Bool). if b then body_in (packet_of (packet_bytes packet)) else []) flag;
      }

  pub adds_one : (first sent : ℕ) (packet : Packet) → IsPacket packet → is_next first sent packet ≡ true
      → Adds first sent (packet_bytes packet) packet.body
  adds_one first sent packet is next =
      let again = below.packets.back.packet packet is in
      let flag : is_big_control (identifier_at first (sent + 1)) (head_read (packet_of (packet_bytes packet))) ≡ true =
      ap (λ r. is_big_control (identifier_at first (sent + 1)) (head_read r)) again ∙ next in
      record {
        count = ap (λ (b : Bool). if b then sent + 1 else sent) flag;
        body' = ap (λ (b : Bool). if b then body_in (packet_of (packet_bytes packet)) else []) flag ∙ ap body_in again;
      }

  -- ---- a send of a hub

  -- a body got its place, and this is its packet
  pub record IsNew (h : Hub) (n : Next) : Type 0 where
    pub offered : Offered
    pub flag : is_next h.first (length h.sent) (packet_to_send n.hub n.send) ≡ true
    pub sent : n.hub.sent ≡ h.sent ++ offered ∷ []
    pub body : (packet_to_send n.hub n.send).body ≡ offered.body

  -- none did
  pub record IsOld (h : Hub) (n : Next) : Type 0 where
    pub flag : is_next h.first (length h.sent) (packet_to_send n.hub n.send) ≡ false
    pub sent : n.hub.sent ≡ h.sent

  pub record IsSend (h : Hub) (n : Next) : Type 0 where
    pub packet : IsPacket (packet_to_send n.hub n.send)
    pub big : (packet_to_send n.hub n.send).order ≡ Big
    pub kept : n.hub.fates ≡ h.fates
    pub first : n.hub.first ≡ h.first
    pub effect : IsOld h n ⊎ IsNew h n

  abbrev pub IsSendOr : Hub → Option Next → Type 0
  IsSendOr h None = Unit {0}
  IsSendOr h (Some n) = IsSend h n

  is_control_packet : (order : Order) (id : ℕ) (body : List ℕ) → id < 2 ^ 16 → IsSendable body
      → IsPacket (control_packet order id body)
  is_control_packet order id body fits is = record { id = fits; body = is.words; length = is.short; order = λ _. refl }

  -- a control packet that is sent again is not the next one: its place is near and is not that
  not_next : (h : Hub) (told : Told) (place : ℕ) → IsSound (together h told) → has place (places h.open_places) ≡ true
      → (identifier_at h.first place == identifier_at h.first (length h.sent + 1)) ≡ false
  not_next h told place is there =
      let ps = places h.open_places in
      let sent = length h.sent in
      let from = has_from place (least ps (sent + 1)) (sent + 1) ps is.hub.rising there in
      let under = has_below place (least ps (sent + 1)) (sent + 1) ps is.hub.rising there in
      elim (eqb_tells (identifier_at h.first place) (identifier_at h.first (sent + 1))) [
        | inl same ↦ absurd (let e = one_place h.first place (sent + 1) is.node.identifier
            (omega (arith, is.hub.from_one)) (omega arith) (omega arith)
            (omega (arith, is.hub.within, is.hub.few)) same.1 in omega arith)
        | inr other ↦ other.0
      ]

  wish_is : (h : Hub) (told : Told) (os : List OpenPlace) (s : Sending) → IsSound (together h told)
      → IsWish h.first (places h.open_places) s
      → IsSend h (record { send = s; hub = record h { open_places = os } })
  wish_is h told os sends.Status is wish = record {
    packet = record { id = omega arith; body = search rules; length = omega arith; order = λ e. absurd (cc) };
    big = refl;
    kept = refl;
    first = refl;
    effect = inl (record { flag = refl; sent = refl });
  }
  wish_is h told os (sends.Resend id) is wish = record {
    packet = record {
      id = named_fits h.first (places h.open_places) id wish;
      body = tt;
      length = omega arith;
      order = λ e. absurd (cc);
    };
    big = refl;
    kept = refl;
    first = refl;
    effect = inl (record { flag = refl; sent = refl });
  }
  wish_is h told os (sends.Control place id) is wish =
      let ps = places h.open_places in
      let sent = length h.sent in
      let from = has_from place (least ps (sent + 1)) (sent + 1) ps is.hub.rising wish.0 in
      let under = has_below place (least ps (sent + 1)) (sent + 1) ps is.hub.rising wish.0 in
      let x = at_exists h.sent place (omega (arith, is.hub.from_one)) (omega arith) in
      let can : IsSendable (words_of (at_place h.sent place)) =
      subst IsSendable (sym (ap words_of x.1)) (sendable_at below h.sent place x.0 is.sent_bodies x.1) in
      record {
        packet = is_control_packet Big id (words_of (at_place h.sent place))
            (omega (arith, wish.1, id_fits h.first place)) can;
        big = refl;
        kept = refl;
        first = refl;
        effect = inl (record {
          flag = ap (λ (k : ℕ). k == identifier_at h.first (sent + 1)) wish.1 ∙ not_next h told place is wish.0;
          sent = refl;
        });
      }

  first_is : (h : Hub) (queue : List Offered) → AreSendable queue → IsSendOr h (first_send h queue)
  first_is h [] all = tt
  first_is h (o ∷ later) all = either (IsSendOr h)
      (nat_le (length h.sent + 1 + 1) (h.window + low h)) _ _
      (λ _.
      let sent = length h.sent in
      let id = identifier_at h.first (sent + 1) in
      let here : words_of (at_place (h.sent ++ o ∷ []) (sent + 1)) ≡ o.body =
      ap words_of (at_seam h.sent [] o) in
      let can : IsSendable (words_of (at_place (h.sent ++ o ∷ []) (sent + 1))) =
      subst IsSendable (sym here) all.0 in
      record {
        packet = is_control_packet Big id (words_of (at_place (h.sent ++ o ∷ []) (sent + 1)))
            (id_fits h.first (sent + 1)) can;
        big = refl;
        kept = refl;
        first = refl;
        effect = inr (record { offered = o; flag = eq-eqb id id refl; sent = refl; body = here });
      })
      (λ _. tt)

  wanted_sends : (h : Hub) (told : Told) (r : Option Wanted) → IsSound (together h told) → IsWantedOr h.first h.open_places r
      → IsSendOr h (wanted_or_first h r)
  wanted_sends h told None is want = first_is h h.queue is.queued_bodies
  wanted_sends h told (Some x) is want = wish_is h told x.open_places x.send is want.wish

  pub send_is : (h : Hub) (told : Told) → IsSound (together h told) → IsSendOr h (next_send h)
  send_is h told is = either (IsSendOr h) h.status_wanted _ _
      (λ _. record {
        packet = (wish_is h told h.open_places sends.Status is tt).packet;
        big = refl;
        kept = refl;
        first = refl;
        effect = inl (record { flag = refl; sent = refl });
      })
      (λ _. wanted_sends h told (first_wanted h.first h.open_places) is (wanted_is h.first h.open_places))
