-- A greeting goes on over a link, and what a link heard stays.
use Rattle.std.proofs.Common.{◌≡◌, ℕ, zero, suc, ◌+◌, ◌*◌, ◌≤◌, Bool, ◌==◌, List}
use Rattle.std.proofs.Common.{[], ◌∷◌, ◌++◌, length, map, Option, Some, None, refl, sym, ap, ◌∙◌, subst, arith}
use Rattle.std.proofs.Common.{if◌then◌else◌}
use Rattle.std.specs.Prelude.{IfSome}
use Rattle.std.proofs.lemmas.List.{map-append}
use Rattle.std.specs.List.{slice_get}
use Rattle.ipb_base.specs.Lists.{IsPrefix}
use Rattle.ipb_base.proofs.AllLemmas.{AllByRecursion-append, front_of_all}
use Rattle.packet_codec.specs.declared.packet.TheConstants.{MAX_PACKET_WORDS, MAX_BODY_WORDS}
use Rattle.packet_codec.specs.Header.{packet_header}
use Rattle.packet_codec.specs.Packet.{packet_bytes}
use Rattle.packet_ids.specs.Identifier.{IsIdentifier}
use Rattle.status_packet.specs.Packets.{status_request, status_reply}
use Rattle.board_bus.specs.Bodies.{replay}
use Rattle.world_model.specs.declared.datagram.Datagram.{Datagram}
use Rattle.world_model.specs.declared.datagram.Direction.{Direction}
use Rattle.world_model.specs.declared.datagram.Direction.TheVariants as goes
use Rattle.world_model.specs.declared.heard.LogEntry.{LogEntry}
use Rattle.world_model.specs.declared.offered.Offered.{Offered}
use Rattle.world_model.specs.declared.sending.Sending.{Sending}
use Rattle.world_model.specs.declared.sending.Sending.TheVariants as sends
use Rattle.world_model.specs.Places.{at_place}
use Rattle.world_model.specs.Messages.{ToBoard, ToHub, StatusRequest, ResendRequest, ControlPacket, StatusReply}
use Rattle.world_model.specs.Messages.{to_board, to_hub}
use Rattle.world_model.specs.Board.{Board, Hearing, body_of, bodies_executed, replies, expected_identifier, held_replies, with_id, is_too_long}
use Rattle.world_model.specs.Board.{tell_status, send_again, hear_message, hear}
use Rattle.world_model.specs.Hub.{Hub, words_of}
use Rattle.world_model.specs.Sends.{Next, next_send, bytes_to_send}
use Rattle.world_model.specs.Air.{is_alive, goes_to}
use Rattle.world_model.specs.World.{air_after_answer, sent_into}
use Rattle.world_model.specs.Facts.{IsStart, IsGreeting, IsGreetingOf, IsSound, IsSendable, AreSendable, IsDatagram}
use Rattle.world_model.specs.Facts.{bodies_of}
use Rattle.world_model.specs.Links.{Told, IsHeard, IsHanded, is_first_message}
use Rattle.world_model.specs.Links.{first_sends, birth_of, sent_on, heard_on, heard_by, then_told}
use Rattle.world_model.specs.Links.{hears_all, together, IsJoined}
use Rattle.world_model.specs.Below.{Below}
use Rattle.world_model.proofs.Lists.{either, all_get}
use Rattle.world_model.proofs.Kept.{prefix_same, prefix_then, message_logs}
use Rattle.world_model.proofs.Readings.{request_read, status_read}
use Rattle.world_model.proofs.Hubs.{send_holds, IsSendSound}
use Rattle.world_model.proofs.Worlds.{same_way}
use Rattle.world_model.proofs.Links.{greetings_count}
use Rattle.world_model.proofs.Grammar.{in_order_length}

-- ---- what a board heard changes nothing that was

-- a board that only grew
pub record BoardGrew (old new : Board) : Type 0 where
  pub log : IsPrefix {T = LogEntry} old.log new.log
  pub rest : record new { log = old.log } ≡ old

grew_same : (b : Board) → BoardGrew b b
grew_same b = record { log = prefix_same b.log b.log refl; rest = refl }

grew_then : (a b c : Board) → BoardGrew a b → BoardGrew b c → BoardGrew a c
grew_then a b c one two = record {
  log = prefix_then a.log b.log c.log one.log two.log;
  rest = ap (λ (x : Board). record x { log = a.log }) two.rest ∙ one.rest;
}

abbrev HearGrew : Board → Hearing → Type 0
HearGrew b h = record h.board { log = b.log } ≡ b

message_rest : (b : Board) (m : Option ToBoard) → HearGrew b (hear_message b m)
message_rest b None = refl
message_rest b (Some StatusRequest) = refl
message_rest b (Some (ResendRequest id)) = elim (with_id id (held_replies b)) as (λ r. HearGrew b (send_again b r))
    [ None ↦ refl | Some packet ↦ refl ]
message_rest b (Some (ControlPacket order id body)) =
    either (HearGrew b) (is_too_long b body) _ _ (λ _. refl)
    (λ _. either (HearGrew b) (id == 0) _ _ (λ _. refl)
    (λ _. either (HearGrew b) (id == expected_identifier b) _ _ (λ _. refl) (λ _. refl)))

hear_grew : (b : Board) (bytes : List ℕ) → BoardGrew b (hear b bytes).board
hear_grew b bytes = record { log = message_logs b (to_board bytes); rest = message_rest b (to_board bytes) }

pub record LinkGrew (old new : Told) : Type 0 where
  pub board : BoardGrew old.board new.board
  pub air : IsPrefix {T = Datagram} old.air new.air

link_same : (t : Told) → LinkGrew t t
link_same t = record { board = grew_same t.board; air = prefix_same t.air t.air refl }

link_then : (a b c : Told) → LinkGrew a b → LinkGrew b c → LinkGrew a c
link_then a b c one two = record {
  board = grew_then a.board b.board c.board one.board two.board;
  air = prefix_then a.air b.air c.air one.air two.air;
}

one_grew : (t : Told) (r : Option Datagram) → IfSome (heard_by t r) (LinkGrew t)
one_grew t None = tt
one_grew t (Some d) = either (λ (x : Option Told). IfSome x (LinkGrew t)) (goes_to goes.ToBoard d.direction) _ _
    (λ _. either (λ (x : Option Told). IfSome x (LinkGrew t)) (is_alive (first_sends t) d) _ _
    (λ _. record {
      board = hear_grew t.board d.bytes;
      air =
          (air_after_answer (first_sends t) (hear t.board d.bytes).answer, refl);
    })
    (λ _. tt))
    (λ _. tt)

more_grew : (a b : Told) (r : Option Told) → LinkGrew a b → IfSome r (LinkGrew b) → IfSome r (LinkGrew a)
more_grew a b None one two = tt
more_grew a b (Some c) one two = link_then a b c one two

then_grew : (t : Told) (r : Option Told) (later : Told → Option Told) → IfSome r (LinkGrew t)
    → ((v : Told) → IfSome (later v) (LinkGrew v)) → IfSome (then_told r later) (LinkGrew t)
then_grew t None later g f = tt
then_grew t (Some v) later g f = more_grew t v (later v) g (f v)

all_grew : (t : Told) (ks : List ℕ) → IfSome (hears_all t ks) (LinkGrew t)
all_grew t [] = link_same t
all_grew t (k ∷ ks) = then_grew t (heard_by t (slice_get t.air k))
    (λ after. hears_all after ks) (one_grew t (slice_get t.air k)) (λ v. all_grew v ks)

pub heard_grew : (old new : Told) → IsHeard old new → LinkGrew old new
heard_grew old new h = subst (λ (r : Option Told). IfSome r (LinkGrew old)) h.heard (all_grew old h.places)

module _ (below : Below) where
  grown_replies : (opening : _) (log more : List LogEntry) → (replay opening (map body_of (log ++ more))).replies
      ≡ (replay opening (map body_of log)).replies ++ (replay (replay opening (map body_of log)).cells
      (map body_of more)).replies
  grown_replies opening log more = ap (λ (bodies : List (List ℕ)). (replay opening bodies).replies)
      (map-append body_of log more) ∙ below.bodies.more opening (map body_of log) (map body_of more)

  pub replies_grew : (old new : Board) → BoardGrew old new → IsPrefix {T = List ℕ} (replies old) (replies new)
  replies_grew old new g =
      let same : new.opening ≡ old.opening = ap (λ (b : Board). b.opening) g.rest in
      let more = g.log.0 in (
        (replay (replay old.opening (bodies_executed old)).cells (map body_of more)).replies,
        ap (λ (cells : _). (replay cells (bodies_executed new)).replies) same
            ∙ (ap (λ (log : List LogEntry). (replay old.opening (map body_of log)).replies) g.log.1
            ∙ grown_replies old.opening old.log more),
      )

  -- ---- a greeting

  counted_none : (window : ℕ) (t : Told) → IsStart window t.board t.air → first_sends t ≡ 0
  counted_none window t is = greetings_count below t.board 0 t.air is.greetings

  started : (window : ℕ) (board : Board) (air : List Datagram) (d : Datagram) → IsStart window board air
      → IsGreeting board d → IsStart window board (air ++ d ∷ [])
  started window board air d is g = record {
    few = is.few;
    mtu = is.mtu;
    buffers = is.buffers;
    first = is.first;
    opening = is.opening;
    fresh = is.fresh;
    greetings = AllByRecursion-append (IsGreeting board) air (d ∷ []) is.greetings (g, tt);
  }

  pub request_starts : (window : ℕ) (t : Told) → IsStart window t.board t.air
      → IsStart window t.board (sent_on t (packet_bytes status_request)).air
  request_starts window t is =
      let bytes = packet_bytes status_request in
      let birth : birth_of t bytes ≡ 0 =
      ap (λ (b : Bool). if b then first_sends t + 1 else first_sends t)
      (ap (is_first_message t.board.first (first_sends t)) (request_read below.packets.back)) ∙ counted_none window t is in
      started window t.board t.air _ is (record { birth = birth; bytes = request_read below.packets.back })

  -- a fresh board expects its first packet
  expects_first : (b : Board) → IsIdentifier b.first → b.log ≡ [] → expected_identifier b ≡ b.first
  expects_first b is fresh = rw fresh (omega (arith, is.from_one, is.up_to_end))

  abbrev pub GoesOn : ℕ → Told → Told → Type 0
  GoesOn window old new = IsStart window new.board new.air × (new.board ≡ old.board)

  status_starts : (window : ℕ) (t : Told) → IsStart window t.board t.air
      → GoesOn window t (record {
        board = t.board;
        air = t.air ++ air_after_answer (first_sends t)
            (tell_status t.board).answer;
      })
  status_starts window t is = (
    started window t.board t.air _ is (record {
      birth = counted_none window t is;
      bytes = ap (λ (n : ℕ). packet_bytes (status_reply t.board.mtu t.board.buffers n))
          (expects_first t.board is.first is.fresh);
    }),
    refl,
  )

  greeting_heard : (window : ℕ) (t : Told) (bytes : List ℕ) → IsStart window t.board t.air
      → to_board bytes ≡ Some StatusRequest → GoesOn window t (heard_on t bytes)
  greeting_heard window t bytes is e =
      subst (λ (m : Option ToBoard). GoesOn window t (record {
        board = (hear_message t.board m).board;
        air = t.air ++ air_after_answer (first_sends t)
            (hear_message t.board m).answer;
      })) (sym e) (status_starts window t is)

  one_starts : (window : ℕ) (t : Told) (k : ℕ) (r : Option Datagram) → IsStart window t.board t.air
      → slice_get t.air k ≡ r → IfSome (heard_by t r) (GoesOn window t)
  one_starts window t k None is e = tt
  one_starts window t k (Some d) is e = either (λ (x : Option Told). IfSome x (GoesOn window t))
      (goes_to goes.ToBoard d.direction) _ _
      (λ way. either (λ (x : Option Told). IfSome x (GoesOn window t)) (is_alive (first_sends t) d) _ _
      (λ _.
      let g = all_get (IsGreeting t.board) t.air k d is.greetings e in
      greeting_heard window t d.bytes is (subst (λ (w : Direction). IsGreetingOf t.board w d.bytes)
      (same_way below goes.ToBoard d.direction way) g.bytes))
      (λ _. tt))
      (λ _. tt)

  more_starts : (window : ℕ) (a b : Told) (r : Option Told) → b.board ≡ a.board → IfSome r (GoesOn window b)
      → IfSome r (GoesOn window a)
  more_starts window a b None same g = tt
  more_starts window a b (Some c) same g = (g.0, g.1 ∙ same)

  then_starts : (window : ℕ) (t : Told) (r : Option Told) (later : Told → Option Told) → IfSome r (GoesOn window t)
      → ((v : Told) → IsStart window v.board v.air → IfSome (later v) (GoesOn window v))
      → IfSome (then_told r later) (GoesOn window t)
  then_starts window t None later g f = tt
  then_starts window t (Some v) later g f = more_starts window t v (later v) g.1 (f v g.0)

  all_start : (window : ℕ) (t : Told) (ks : List ℕ) → IsStart window t.board t.air
      → IfSome (hears_all t ks) (GoesOn window t)
  all_start window t [] is = (is, refl)
  all_start window t (k ∷ ks) is = then_starts window t (heard_by t (slice_get t.air k))
      (λ after. hears_all after ks) (one_starts window t k (slice_get t.air k) is refl) (λ v s. all_start window v ks s)

  pub heard_starts : (window : ℕ) (old new : Told) → IsStart window old.board old.air → IsHeard old new
      → GoesOn window old new
  heard_starts window old new is h = subst (λ (r : Option Told). IfSome r (GoesOn window old)) h.heard
      (all_start window old h.places is)

  pub handed_status : (window : ℕ) (t : Told) (bytes : List ℕ) (mtu buffers next : ℕ) → IsStart window t.board t.air
      → IsHanded t bytes → to_hub bytes ≡ Some (StatusReply mtu buffers next)
      → (mtu ≡ t.board.mtu) × (buffers ≡ t.board.buffers) × (next ≡ t.board.first)
  handed_status window t bytes mtu buffers next is h reads =
      let g = all_get (IsGreeting t.board) t.air h.place (record
      { direction = goes.ToHub; bytes = bytes; birth = h.at.birth }) is.greetings h.at.there in
      let mine : to_hub bytes ≡ Some (StatusReply t.board.mtu t.board.buffers t.board.first) = ap to_hub g.bytes
      ∙ status_read below.packets.back t.board.mtu t.board.buffers t.board.first is.mtu is.buffers is.first in
      let same : Some (StatusReply mtu buffers next) ≡ Some (StatusReply t.board.mtu t.board.buffers t.board.first) =
      sym reads ∙ mine in
      (cc, cc, cc)

  -- ---- a send that was refused

  pub refused_sound : (hub : Hub) (t : Told) (n : Next) → IsJoined hub t → next_send hub ≡ Some n
      → IsSound (together n.hub t)
  refused_sound hub t n is e =
      let s : IsSound (sent_into (together hub t) n) = subst (IsSendSound below (together hub t)) e
      (send_holds below (together hub t) is.sound) in
      record {
        hub = s.hub;
        sent_bodies = s.sent_bodies;
        queued_bodies = s.queued_bodies;
        log = s.log;
        node = s.node;
        said = front_of_all (IsDatagram n.hub.first (bodies_of n.hub.sent) (replies t.board)) t.air _ s.said;
        waiting_fates = s.waiting_fates;
        told_fates = s.told_fates;
        waiting_lates = s.waiting_lates;
        told_lates = s.told_lates;
      }

  -- ---- the length of a send

  short_words : (sent : List Offered) (place : ℕ) (r : Option Offered) → AreSendable sent → at_place sent place ≡ r
      → length (words_of r) ≤ MAX_BODY_WORDS
  short_words sent place None all e = omega arith
  short_words sent zero (Some o) all e = absurd cc
  short_words sent (suc k) (Some o) all e = (all_get (λ (x : Offered). IsSendable x.body) sent k o all e).short

  short_send : (hub : Hub) (s : Sending) → AreSendable hub.sent → length (bytes_to_send hub s) ≤ 4 * MAX_PACKET_WORDS
  short_send hub sends.Status all = omega arith
  short_send hub (sends.Resend id) all = omega arith
  short_send hub (sends.Control place id) all =
      let words = words_of (at_place hub.sent place) in
      omega (
        arith,
        in_order_length below (packet_header id 0 ∷ words),
        short_words hub.sent place (at_place hub.sent place) all refl,
      )

  pub send_short : (hub : Hub) (t : Told) (n : Next) → IsJoined hub t → next_send hub ≡ Some n
      → length (bytes_to_send n.hub n.send) ≤ 4 * MAX_PACKET_WORDS
  send_short hub t n is e = let s = refused_sound hub t n is e in short_send n.hub n.send s.sent_bodies
