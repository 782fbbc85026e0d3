-- Sends in a round: what the hub wants to send is then under way.
use Rattle.std.proofs.Common.{◌≡◌, ℕ, zero, suc, ◌+◌, ◌≤◌, true, false, ◌==◌, ◌||◌, List, [], ◌∷◌}
use Rattle.std.proofs.Common.{◌++◌, length, Option, Some, None}
use Rattle.std.proofs.Common.{refl, sym, ap, ◌∙◌, subst, arith, inl, inr, ◌⊎◌, if◌then◌else◌}
use Rattle.std.proofs.lemmas.List.{map-append}
use Rattle.std.specs.Prelude.{IfSome}
use Rattle.std.specs.List.{slice_get}
use Rattle.ipb_base.specs.Faults.{Rose}
use Rattle.packet_codec.specs.declared.packet.Order.TheVariants.{Big}
use Rattle.packet_codec.specs.Packet.{packet_bytes}
use Rattle.packet_ids.specs.Identifier.{identifier_at}
use Rattle.status_packet.specs.Packets.{resend_request, status_request}
use Rattle.world_model.specs.declared.datagram.Direction.{Direction}
use Rattle.world_model.specs.declared.datagram.Direction.TheVariants as goes
use Rattle.world_model.specs.declared.offered.Offered.{Offered}
use Rattle.world_model.specs.declared.offered.OpenPlace.{OpenPlace}
use Rattle.world_model.specs.declared.sending.Sending.{Sending}
use Rattle.world_model.specs.declared.sending.Sending.TheVariants as sends
use Rattle.world_model.specs.Places.{at_place}
use Rattle.world_model.specs.Messages.{ControlPacket, Reply, ResendRequest, StatusReply, StatusRequest, ToBoard}
use Rattle.world_model.specs.Messages.{ToHub, control_packet, to_board, to_hub}
use Rattle.world_model.specs.Board.{Board, is_too_long}
use Rattle.world_model.specs.Hub.{Hub, place_of, places, words_of}
use Rattle.world_model.specs.Sends.{Next, Wanted, after_open, bytes_to_send, next_send, opened_place, first_wanted}
use Rattle.world_model.specs.Facts.{IsSendable, has}
use Rattle.world_model.specs.Links.{Told, birth_of}
use Rattle.world_model.proofs.Flushing.{send_cases}
use Rattle.world_model.proofs.Hubs.{IsWantedOr, has_first, has_later, wanted_is}
use Rattle.world_model.proofs.Lists.{all_get, at_exists, either, get_front, get_seam}
use Rattle.world_model.proofs.Places.{has_below, id_fits}
use Rattle.links.specs.Telling.{IsSent, Telling}
use Rattle.hub_lane.specs.RecoveryBelow.{RecoveryLaws}
use Rattle.hub_lane.specs.UnderWay.{AsksBoard, CanRecover, CanTake, IsDue, IsUnderWay, IsUseful}
use Rattle.hub_lane.specs.UnderWay.{TellsHub, WantsMore, count_executed}
use Rattle.world_model.proofs.Readings.{control_read, request_read, resend_read}

-- ---- more open places

abbrev pub HasAll : List ℕ → List ℕ → Type 0
HasAll ps qs = (place : ℕ) → has place ps ≡ true → has place qs ≡ true

asks_more : (first : ℕ) (ps qs : List ℕ) (board : Board) (m : Option ToBoard) → HasAll ps qs
    → AsksBoard first ps board m → AsksBoard first qs board m
asks_more first ps qs board None more is = is
asks_more first ps qs board (Some StatusRequest) more is = is
asks_more first ps qs board (Some (ResendRequest id)) more is = (is.0, more is.0 is.1, is.2, is.3, is.4)
asks_more first ps qs board (Some (ControlPacket order id body)) more is = (more (count_executed board + 1) is.0, is.1, is.2)

tells_more : (first : ℕ) (ps qs : List ℕ) (board : Board) (m : Option ToHub) → HasAll ps qs
    → TellsHub first ps board m → TellsHub first qs board m
tells_more first ps qs board None more is = is
tells_more first ps qs board (Some (StatusReply mtu buffers next)) more is = is
tells_more first ps qs board (Some (Reply id words)) more is = (is.0, more is.0 is.1, is.2)

useful_more : (first : ℕ) (ps qs : List ℕ) (board : Board) (way : Direction) (bytes : List ℕ) → HasAll ps qs
    → IsUseful first ps board way bytes → IsUseful first qs board way bytes
useful_more first ps qs board goes.ToBoard bytes more is = asks_more first ps qs board (to_board bytes) more is
useful_more first ps qs board goes.ToHub bytes more is = tells_more first ps qs board (to_hub bytes) more is

pub due_more : (first : ℕ) (ps qs : List ℕ) (t : Telling) → HasAll ps qs → IsDue first ps t → IsDue first qs t
due_more first ps qs t more is = record {
  place = is.place;
  due = is.due;
  at = record {
    d = is.at.d;
    there = is.at.there;
    useful = useful_more first ps qs t.told.board is.at.d.direction
        is.at.d.bytes more is.at.useful;
  };
}

has_front_by : (place p : ℕ) (ps more : List ℕ) → has place (p ∷ ps) ≡ true → has place ((p ∷ ps) ++ more) ≡ true
has_front_by place p [] more is = elim (p == place) as (λ b. (b || false) ≡ true
    → (b || has place more) ≡ true) [ true ↦ λ e. refl | false ↦ λ e. absurd (cc) ] is
has_front_by place p (q ∷ ps) more is = elim (p == place) as (λ b. (b || has place (q ∷ ps)) ≡ true
    → (b || has place ((q ∷ ps) ++ more)) ≡ true) [
      | true ↦ λ e. refl
      | false ↦ λ e. has_front_by place q ps more e
    ] is

pub has_front : (ps more : List ℕ) → HasAll ps (ps ++ more)
has_front [] more place is = absurd (cc)
has_front (p ∷ ps) more place is = has_front_by place p ps more is

-- ---- what is wanted

abbrev pub SendsFor : ℕ → ℕ → List ℕ → Sending → Type 0
SendsFor first executed ps sends.Status = ⊥
SendsFor first executed ps (sends.Resend id) = (place : ℕ) × (has place ps ≡ true) × (1 ≤ place) × (place ≤ executed)
    × (id ≡ identifier_at first place)
SendsFor first executed ps (sends.Control place id) = (place ≡ executed + 1) × (has place ps ≡ true) × (id ≡
    identifier_at first place)

sends_later : (first executed p : ℕ) (ps : List ℕ) (s : Sending) → SendsFor first executed ps s
    → SendsFor first executed (p ∷ ps) s
sends_later first executed p ps sends.Status is = is
sends_later first executed p ps (sends.Resend id) is = (is.0, has_later is.0 p ps is.1, is.2, is.3, is.4)
sends_later first executed p ps (sends.Control place id) is = (is.0, has_later place p ps is.1, is.2)

abbrev pub WantsOr : ℕ → ℕ → List OpenPlace → Option Wanted → Type 0
WantsOr first executed os None = ⊥
WantsOr first executed os (Some w) = WantsMore executed w.open_places ⊎ SendsFor first executed (places os) w.send

wants_later : (first executed : ℕ) (o : OpenPlace) (os : List OpenPlace) (r : Option Wanted)
    → WantsOr first executed os r → WantsOr first executed (o ∷ os) (after_open o r)
wants_later first executed o os None is = is
wants_later first executed o os (Some w) is = elim is [
  | inl more ↦ inl (inr (inr more))
  | inr sent ↦ inr (sends_later first executed o.place (places os) w.send sent)
]

pub wants_sent : (first executed : ℕ) (os : List OpenPlace) → WantsMore executed os
    → WantsOr first executed os (first_wanted first os)
wants_sent first executed [] is = absurd is
wants_sent first executed (o ∷ os) is =
    let control : Option Wanted = Some (record {
      send = sends.Control o.place (identifier_at first o.place);
      open_places = record o { control = false } ∷ os;
    }) in
    let later = after_open o (first_wanted first os) in
    either (WantsOr first executed (o ∷ os)) o.resend
    (Some (record {
      send = sends.Resend (identifier_at first o.place);
      open_places = record o { resend = false } ∷ os;
    }))
    (if o.control then control else later)
    (λ resend. elim is [
      | inl here ↦ inr (o.place, has_first o.place (places os), here.1, here.2, refl)
      | inr rest ↦ elim rest [ inl next ↦ inl (inr (inl next)) | inr more ↦ inl (inr (inr more)) ]
    ])
    (λ no_resend. either (WantsOr first executed (o ∷ os)) o.control control later
    (λ wants. elim is [
      | inl here ↦ let resend = here.0 in absurd (cc)
      | inr rest ↦ elim rest [
        | inl next ↦ inr (next.1, has_first o.place (places os), refl)
        | inr more ↦ inl (inr (inr more))
      ]
    ])
    (λ no_control. elim is [
      | inl here ↦ let resend = here.0 in absurd (cc)
      | inr rest ↦ elim rest [
        | inl next ↦ let wants = next.0 in absurd (cc)
        | inr more ↦ wants_later first executed o os (first_wanted first os) (wants_sent first executed os more)
      ]
    ]))

wants_front : (executed : ℕ) (os more : List OpenPlace) → WantsMore executed os → WantsMore executed (os ++ more)
wants_front executed [] more is = absurd is
wants_front executed (o ∷ os) more is = elim is [
  | inl here ↦ inl here
  | inr rest ↦ elim rest [ inl next ↦ inr (inl next) | inr later ↦ inr (inr (wants_front executed os more later)) ]
]

-- ---- a datagram is sent

new_place : (bytes : List ℕ) (before now : ℕ) (old new : Telling) → IsSent bytes before now old new
    → slice_get new.told.air (length old.told.air) ≡ Some (record {
      direction = goes.ToBoard;
      bytes = bytes;
      birth =
          birth_of old.told bytes;
    })
new_place bytes before now old new is = ap (λ (t : Told). slice_get t.air (length old.told.air)) is.told ∙ get_seam
    old.told.air [] (record { direction = goes.ToBoard; bytes = bytes; birth = birth_of old.told bytes })

sent_new : (first : ℕ) (ps : List ℕ) (bytes : List ℕ) (before now : ℕ) (old new : Telling)
    → IsSent bytes before now old new → AsksBoard first ps old.told.board (to_board bytes)
    → IsDue first ps new ⊎ Rose before now
sent_new first ps bytes before now old new is asks = elim is.joins [
  | inl due ↦ inl (record {
    place = length old.told.air;
    due = due;
    at = record {
      d = record { direction = goes.ToBoard; bytes = bytes; birth = birth_of old.told bytes };
      there = new_place bytes before now old new is;
      useful = subst (λ (b : Board). AsksBoard first ps b (to_board bytes)) (sym (ap (λ (t : Told). t.board) is.told))
          asks;
    };
  })
  | inr rose ↦ inr rose
]

sent_due : (first : ℕ) (ps qs : List ℕ) (bytes : List ℕ) (before now : ℕ) (old new : Telling) → HasAll ps qs
    → IsSent bytes before now old new → IsDue first ps old → IsDue first qs new ⊎ Rose before now
sent_due first ps qs bytes before now old new more is due = elim (is.stays due.place due.due) [
  | inl still ↦ inl (due_more first ps qs new more (record {
    place = due.place;
    due = still;
    at = record {
      d = due.at.d;
      there = ap (λ (t : Told). slice_get t.air due.place) is.told ∙ get_front old.told.air _ due.place due.at.d
          due.at.there;
      useful = subst (λ (b : Board). IsUseful first ps b due.at.d.direction due.at.d.bytes) (sym (ap (λ (t : Told).
          t.board) is.told)) due.at.useful;
    };
  }))
  | inr rose ↦ inr rose
]

sent_wants : (executed : ℕ) (os : List OpenPlace) (bytes : List ℕ) (before now : ℕ) (old new : Telling)
    → IsSent bytes before now old new → WantsMore (count_executed old.told.board) os → WantsMore (count_executed new.told.board) os
sent_wants executed os bytes before now old new is wants = subst (λ (b : Board). WantsMore (count_executed b) os) (sym (ap (λ (t
    : Told). t.board) is.told)) wants

abbrev pub OnAfter : Hub → ℕ → ℕ → Telling → Type 0
OnAfter hub before now new = IsUnderWay hub new ⊎ Rose before now

by_due : (hub : Hub) (before now : ℕ) (new : Telling)
    → IsDue hub.first (places hub.open_places) new ⊎ Rose before now → OnAfter hub before now new
by_due hub before now new is = elim is [ inl due ↦ inl (inr (inr due)) | inr rose ↦ inr rose ]

module _ (below : RecoveryLaws) where
  -- the status request
  status_sent : (hub : Hub) (before now : ℕ) (old new : Telling)
      → IsSent (packet_bytes status_request) before now old new
      → OnAfter (record hub { status_wanted = false }) before now new
  status_sent hub before now old new is =
      by_due (record hub { status_wanted = false }) before now new
      (sent_new hub.first (places hub.open_places) (packet_bytes status_request) before now old new is
      (subst (AsksBoard hub.first (places hub.open_places) old.told.board) (sym (request_read below.back)) tt))

  resend_asks : (first : ℕ) (ps : List ℕ) (board : Board) (id place : ℕ) → has place ps ≡ true → 1 ≤ place
      → place ≤ count_executed board → id ≡ identifier_at first place
      → AsksBoard first ps board (to_board (packet_bytes (resend_request id)))
  resend_asks first ps board id place there one le named =
      let fits = id_fits first place in
      subst (AsksBoard first ps board) (sym (resend_read below.back id (omega (arith, named, fits)))) (
        place,
        there,
        one,
        le,
        named,
      )

  control_asks : (first : ℕ) (ps : List ℕ) (board : Board) (id : ℕ) (body : List ℕ) → has (count_executed board + 1) ps ≡ true
      → id ≡ identifier_at first (count_executed board + 1) → IsSendable body
      → is_too_long board body ≡ false → AsksBoard first ps board (to_board (packet_bytes (control_packet Big id body)))
  control_asks first ps board id body there named can fits =
      let small = id_fits first (count_executed board + 1) in
      subst (AsksBoard first ps board) (sym (control_read below.back Big id body (omega (arith, named, small)) can))
      (there, named, fits)

  -- the body at an open place can be sent, and fits the board
  open_fits : (hub : Hub) (t : Telling) (place : ℕ) (r : Option Offered) → CanRecover hub t
      → place ≤ length hub.sent → 1 ≤ place → at_place hub.sent place ≡ r
      → IsSendable (words_of r) × (is_too_long t.told.board (words_of r) ≡ false)
  open_fits hub t place None can le one e = let x = at_exists hub.sent place one le in absurd (let y = x.1 in cc)
  open_fits hub t zero (Some o) can le one e = absurd (omega (arith, one))
  open_fits hub t (suc k) (Some o) can le one e = (
    all_get (λ (x : Offered). IsSendable x.body) hub.sent k o can.joined.sound.sent_bodies e,
    all_get (CanTake
        t.told.board) hub.sent k o can.fits e,
  )

  -- what was wanted is sent
  wanted_asks : (hub : Hub) (t : Telling) (s : Sending) → CanRecover hub t
      → SendsFor hub.first (count_executed t.told.board) (places hub.open_places) s
      → AsksBoard hub.first (places hub.open_places) t.told.board (to_board (bytes_to_send hub s))
  wanted_asks hub t sends.Status can is = absurd is
  wanted_asks hub t (sends.Resend id) can is = resend_asks hub.first (places hub.open_places) t.told.board id is.0
      is.1 is.2 is.3 is.4
  wanted_asks hub t (sends.Control place id) can is =
      let within = has_below place _ _ (places hub.open_places) can.joined.sound.hub.rising is.1 in
      let next = is.0 in
      let fits = open_fits hub t place (at_place hub.sent place) can (omega (arith, within)) (omega (arith, next))
      refl in
      control_asks hub.first (places hub.open_places) t.told.board id (words_of (at_place hub.sent place))
      (subst (λ (p : ℕ). has p (places hub.open_places) ≡ true) next is.1) (is.2 ∙ ap (identifier_at hub.first) next)
      fits.0 fits.1

  wanted_sent : (hub : Hub) (w : Wanted) (before now : ℕ) (old new : Telling) → CanRecover hub old
      → first_wanted hub.first hub.open_places ≡ Some w → places w.open_places ≡ places hub.open_places
      → IsUnderWay hub old → IsSent (bytes_to_send (record hub { open_places = w.open_places }) w.send) before now old
      new → OnAfter (record hub { open_places = w.open_places }) before now new
  wanted_sent hub w before now old new can e same way is =
      let after = record hub { open_places = w.open_places } in
      let all : HasAll (places hub.open_places) (places w.open_places) = λ place there. subst (λ (ps : List ℕ). has
      place ps ≡ true) (sym same) there in
      elim way [
        | inl status ↦ inl (inl status)
        | inr rest ↦ elim rest [
          | inl wants ↦ elim (subst (WantsOr hub.first (count_executed old.told.board) hub.open_places) e (wants_sent hub.first
              (count_executed old.told.board) hub.open_places wants)) [
                | inl more ↦ inl (inr (inl (sent_wants 0 w.open_places (bytes_to_send after w.send) before now old new
                    is more)))
                | inr sent ↦ by_due after before now new (sent_new hub.first (places w.open_places) (bytes_to_send after
                    w.send) before now old new is
                    (asks_more hub.first (places hub.open_places) (places w.open_places) old.told.board (to_board
                    (bytes_to_send after w.send)) all (wanted_asks hub old w.send can sent)))
              ]
          | inr due ↦ by_due after before now new (sent_due hub.first (places hub.open_places) (places w.open_places)
              (bytes_to_send after w.send) before now old new all is due)
        ]
      ]

  -- a first send
  first_sent : (hub : Hub) (o : Offered) (later : List Offered) (bytes : List ℕ) (before now : ℕ) (old new : Telling)
      → IsUnderWay hub old → IsSent bytes before now old new
      → OnAfter (record hub {
        sent = hub.sent ++ o ∷ [];
        queue = later;
        open_places = hub.open_places ++ opened_place
            (length hub.sent + 1) ∷ [];
      }) before now new
  first_sent hub o later bytes before now old new way is =
      let after = record hub {
        sent = hub.sent ++ o ∷ [];
        queue = later;
        open_places = hub.open_places ++ opened_place
            (length hub.sent + 1) ∷ [];
      } in
      let longer : places after.open_places ≡ places hub.open_places ++ (length hub.sent + 1) ∷ [] = map-append
      place_of hub.open_places (opened_place (length hub.sent + 1) ∷ []) in
      let all : HasAll (places hub.open_places) (places after.open_places) = λ place there.
      subst (λ (ps : List ℕ). has place ps ≡ true) (sym longer) (has_front (places hub.open_places) ((length hub.sent
      + 1) ∷ []) place there) in
      elim way [
        | inl status ↦ inl (inl status)
        | inr rest ↦ elim rest [
          | inl wants ↦ inl (inr (inl (sent_wants 0 after.open_places bytes before now old new is (wants_front (count_executed
              old.told.board) hub.open_places (opened_place (length hub.sent + 1) ∷ []) wants))))
          | inr due ↦ by_due after before now new (sent_due hub.first (places hub.open_places) (places
              after.open_places) bytes before now old new all is due)
        ]
      ]

  abbrev pub SentOn : Hub → ℕ → ℕ → Telling → Telling → Next → Type 0
  SentOn hub before now old new next = IsSent (bytes_to_send next.hub next.send) before now old new
      → OnAfter next.hub before now new

  pub sends_on : (hub : Hub) (next : Next) (before now : ℕ) (old new : Telling) → CanRecover hub old
      → next_send hub ≡ Some next → IsUnderWay hub old → SentOn hub before now old new next
  sends_on hub next before now old new can e way =
      subst (λ (r : Option Next). IfSome r (SentOn hub before now old new)) e
      (send_cases (SentOn hub before now old new) hub
      (λ is. status_sent hub before now old new is)
      (λ w wants is. wanted_sent hub w before now old new can wants (subst (IsWantedOr hub.first hub.open_places)
      wants (wanted_is hub.first hub.open_places)).same way is)
      (λ o later queue room is. first_sent hub o later _ before now old new way is))
