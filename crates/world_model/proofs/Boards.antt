-- What a board hears keeps the facts, and what it answers is right.
use Rattle.std.proofs.Common.{◌≡◌, ℕ, zero, suc, ◌+◌, ◌-◌, ◌<◌, ◌≤◌, ◌^◌, Bool, true, false, cond, ◌==◌, ◌||◌, List, []}
use Rattle.std.proofs.Common.{◌∷◌, ◌++◌, length, Option, Some, None, refl, sym, ap, ◌∙◌, subst, arith}
use Rattle.std.proofs.Common.{length-append, add-one}
use Rattle.std.specs.Prelude.{nat_lt}
use Rattle.std.proofs.lemmas.Bool.{eqb-true}
use Rattle.std.proofs.lemmas.Bool.Decides.{nat_tests}
use Rattle.std.proofs.lemmas.List.{length-map, map-append, append-nil}
use Rattle.std.specs.List.{AllByRecursion, slice_get}
use Rattle.ipb_base.specs.Numbers.{payload_of}
use Rattle.ipb_base.proofs.AllLemmas.{AllByRecursion-append, all-map}
use Rattle.packet_ids.specs.Identifier.{identifier_at}
use Rattle.packet_codec.specs.declared.packet.Order.{Order}
use Rattle.packet_codec.specs.declared.packet.Packet.{Packet}
use Rattle.packet_codec.specs.Packet.{packet_bytes}
use Rattle.transaction_codec.specs.Answer.{reply_room}
use Rattle.board_bus.specs.Bodies.{replay, run_body}
use Rattle.world_model.specs.declared.heard.LogEntry.{LogEntry}
use Rattle.world_model.specs.declared.heard.DropCause.{DropCause}
use Rattle.world_model.specs.declared.heard.DropCause.TheVariants as causes
use Rattle.world_model.specs.declared.datagram.Datagram.{Datagram}
use Rattle.world_model.specs.declared.datagram.Direction.{Direction}
use Rattle.world_model.specs.declared.datagram.Direction.TheVariants as goes
use Rattle.world_model.specs.declared.offered.Offered.{Offered}
use Rattle.world_model.specs.declared.offered.Fate.{Fate}
use Rattle.world_model.specs.declared.offered.Fate.TheVariants.{Replied, TimedOut, Unsent}
use Rattle.world_model.specs.Places.{at_place}
use Rattle.world_model.specs.Messages.{ToBoard, ToHub, StatusRequest, ResendRequest, ControlPacket, StatusReply, Reply}
use Rattle.world_model.specs.Messages.{control_packet, to_board, to_hub}
use Rattle.world_model.specs.Board.{Board, Hearing, body_of, bodies_executed, replies, present_bus, numbered_count, expected_identifier}
use Rattle.world_model.specs.Board.{numbered_replies, held_replies, with_id, is_too_long, hearing_dropped, tell_status}
use Rattle.world_model.specs.Board.{send_again, execute, hear_control, hear_message, hear}
use Rattle.world_model.specs.Air.{LIFETIME}
use Rattle.world_model.specs.Facts.{IsWindow, IsExecuted, IsBoard, IsLogged, IsDatagram, IsSaid, IsSaidToBoard}
use Rattle.world_model.specs.Facts.{IsSaidToHub, IsControlOf, IsReplyOf, IsToldOf, IsSendable, IsTagged, IsRightFate}
use Rattle.world_model.specs.Facts.{AreLateReplies, AreRight, MOST_OPEN}
use Rattle.world_model.proofs.Lists.{at_front, at_seam, at_from_one, at_within, get_drop, front_grows, front_length}
use Rattle.world_model.proofs.Lists.{either, all_get}
use Rattle.world_model.proofs.Places.{sent_near, executed_next, one_place, not_zero, id_fits, is_identifier}
use Rattle.world_model.proofs.Readings.{reply_read, status_read}
use Rattle.world_model.proofs.Replies.{replies_sendable, present_holds, reply_sendable}
use Rattle.world_model.specs.Below.{Below}

module _ (below : Below) where
  pub replies_length : (b : Board) → length (replies b) ≡ length (bodies_executed b)
  replies_length b = below.bodies.one_each b.opening (bodies_executed b)

  pub executed_length : (b : Board) → length (bodies_executed b) ≡ length b.log
  executed_length b = length-map b.log body_of

  pub numbered_all : (mtu : ℕ) (log : List LogEntry) → AllByRecursion (IsLogged mtu) log → numbered_count log ≡ length log
  numbered_all mtu [] all = refl
  numbered_all mtu (e ∷ es) all = rw all.0.numbered (let h = numbered_all mtu es all.1 in omega arith)

  -- ---- the replies that are held

  pub record IsReplyPacket (first place past : ℕ) (rs : List (List ℕ)) (packet : Packet) : Type 0 where
    pub order : Order
    pub words : List ℕ
    pub at : slice_get rs past ≡ Some words
    pub is : packet ≡ control_packet order (identifier_at first (place + past)) words

  reply_later : (first place past : ℕ) (r : List ℕ) (rs : List (List ℕ)) (packet : Packet)
      → IsReplyPacket first (place + 1) past rs packet → IsReplyPacket first place (suc past) (r ∷ rs) packet
  reply_later first place past r rs packet f =
      let same : place + 1 + past ≡ place + suc past = omega arith in
      record {
        order = f.order;
        words = f.words;
        at = f.at;
        is = f.is
            ∙ ap (λ (k : ℕ). control_packet f.order (identifier_at first k) f.words) same;
      }

  reply_of : (mtu first place past : ℕ) (x : LogEntry) (log : List LogEntry) (r : List ℕ) (rs : List (List ℕ))
      (packet : Packet)
      → ((k : ℕ) → slice_get (numbered_replies first (place + 1) log rs) k ≡ Some packet
      → IsReplyPacket first (place + 1) k rs packet)
      → slice_get (control_packet x.order (identifier_at first place) r ∷ numbered_replies first (place + 1) log rs)
      past ≡ Some packet → IsReplyPacket first place past (r ∷ rs) packet
  reply_of mtu first place zero x log r rs packet later e =
      let here : place + 0 ≡ place = omega arith in
      let same : packet ≡ control_packet x.order (identifier_at first place) r = cc in
      record {
        order = x.order;
        words = r;
        at = refl;
        is = same
            ∙ ap (λ (k : ℕ). control_packet x.order (identifier_at first k) r) (sym here);
      }
  reply_of mtu first place (suc past) x log r rs packet later e =
      reply_later first place past r rs packet (later past e)

  pub reply_at : (mtu first place past : ℕ) (log : List LogEntry) (rs : List (List ℕ)) (packet : Packet)
      → AllByRecursion (IsLogged mtu) log
      → slice_get (numbered_replies first place log rs) past ≡ Some packet → IsReplyPacket first place past rs packet
  reply_at mtu first place past [] rs packet all e = absurd (cc)
  reply_at mtu first place past (x ∷ log) [] packet all e = absurd (cc)
  reply_at mtu first place past (x ∷ log) (r ∷ rs) packet all e =
      reply_of mtu first place past x log r rs packet (λ k. reply_at mtu first (place + 1) k log rs packet all.1)
      (rw all.0.numbered at e)

  pub replies_count : (mtu first place : ℕ) (log : List LogEntry) (rs : List (List ℕ))
      → AllByRecursion (IsLogged mtu) log → length rs ≡ length log
      → length (numbered_replies first place log rs) ≡ length log
  replies_count mtu first place [] rs all same = refl
  replies_count mtu first place (x ∷ log) [] all same = absurd (omega arith)
  replies_count mtu first place (x ∷ log) (r ∷ rs) all same =
      rw all.0.numbered (let h = replies_count mtu first (place + 1) log rs all.1 (omega arith) in omega arith)

  pub record IsWithId (id : ℕ) (packets : List Packet) (packet : Packet) : Type 0 where
    pub past : ℕ
    pub there : slice_get packets past ≡ Some packet
    pub named : packet.id ≡ id

  with_id_later : (id : ℕ) (p : Packet) (ps : List Packet) (packet : Packet) → IsWithId id ps packet
      → IsWithId id (p ∷ ps) packet
  with_id_later id p ps packet f = record { past = suc f.past; there = f.there; named = f.named }

  pub with_id_found : (id : ℕ) (packets : List Packet) (packet : Packet) → with_id id packets ≡ Some packet
      → IsWithId id packets packet
  with_id_found id [] packet e = absurd (cc)
  with_id_found id (p ∷ ps) packet e =
      elim (p.id == id) as (λ b. (p.id == id) ≡ b → cond b (Some p) (with_id id ps) ≡ Some packet
      → IsWithId id (p ∷ ps) packet) [
        | true ↦ λ is found.
            let same : p ≡ packet = cc in
            record { past = 0; there = ap Some same; named = ap (λ (q : Packet). q.id) (sym same) ∙ eqb-true _ _ is }
        | false ↦ λ _ found. with_id_later id p ps packet (with_id_found id ps packet found)
      ] refl e

  -- ---- what was said stays true

  to_board_grows : (first birth : ℕ) (all more : List (List ℕ)) (m : Option ToBoard) → IsSaidToBoard first all birth m
      → IsSaidToBoard first (all ++ more) birth m
  to_board_grows first birth all more None s = tt
  to_board_grows first birth all more (Some StatusRequest) s = tt
  to_board_grows first birth all more (Some (ResendRequest id)) s = tt
  to_board_grows first birth all more (Some (ControlPacket order id body)) s =
      record {
        place = s.place;
        at = at_front all more s.place body s.at;
        identifier = s.identifier;
        sent = s.sent;
        recent = s.recent;
      }

  to_hub_grows : (first birth : ℕ) (answers later : List (List ℕ)) (m : Option ToHub)
      → IsSaidToHub first answers birth m → IsSaidToHub first (answers ++ later) birth m
  to_hub_grows first birth answers later None s = tt
  to_hub_grows first birth answers later (Some (StatusReply mtu buffers next)) s =
      record {
        place = s.place;
        from_one = s.from_one;
        up_to_next =
            omega (arith, s.up_to_next, length-append answers later);
        identifier = s.identifier;
        recent = s.recent;
      }
  to_hub_grows first birth answers later (Some (Reply id words)) s =
      record {
        place = s.place;
        at = at_front answers later s.place words s.at;
        identifier = s.identifier;
        sent = s.sent;
        recent = s.recent;
      }

  said_grows : (first birth : ℕ) (all more answers later : List (List ℕ)) (d : Direction) (bytes : List ℕ)
      → IsSaid first all answers birth d bytes → IsSaid first (all ++ more) (answers ++ later) birth d bytes
  said_grows first birth all more answers later goes.ToBoard bytes s =
      to_board_grows first birth all more (to_board bytes) s
  said_grows first birth all more answers later goes.ToHub bytes s =
      to_hub_grows first birth answers later (to_hub bytes) s

  pub datagram_grows : (first : ℕ) (all more answers later : List (List ℕ)) (d : Datagram)
      → IsDatagram first all answers d → IsDatagram first (all ++ more) (answers ++ later) d
  datagram_grows first all more answers later d is = record {
    born = omega (arith, is.born, length-append all more);
    said = said_grows first d.birth all more answers later d.direction d.bytes is.said;
  }

  pub air_grows : (first : ℕ) (all more answers later : List (List ℕ)) (air : List Datagram)
      → AllByRecursion (IsDatagram first all answers) air → AllByRecursion
      (IsDatagram first (all ++ more) (answers ++ later)) air
  air_grows first all more answers later air is = all-map _ _ air (datagram_grows first all more answers later) is

  pub tagged_grows : (sent more : List Offered) (tag place : ℕ) → IsTagged sent tag place
      → IsTagged (sent ++ more) tag place
  tagged_grows sent more tag place is = record {
    offered = is.offered;
    at = at_front sent more place is.offered is.at;
    tag_is = is.tag_is;
  }

  fate_grows : (sent more : List Offered) (answers later : List (List ℕ)) (f : ℕ × Fate) → IsRightFate sent answers f
      → IsRightFate (sent ++ more) (answers ++ later) f
  fate_grows sent more answers later (tag, Replied place words) is =
      (tagged_grows sent more tag place is.0, at_front answers later place words is.1)
  fate_grows sent more answers later (tag, TimedOut place rounds) is = tagged_grows sent more tag place is
  fate_grows sent more answers later (tag, Unsent) is = tt

  pub fates_grow : (sent more : List Offered) (answers later : List (List ℕ)) (fates : List (ℕ × Fate))
      → AreRight sent answers fates → AreRight (sent ++ more) (answers ++ later) fates
  fates_grow sent more answers later fates is = all-map _ _ fates (fate_grows sent more answers later) is

  pub lates_grow : (answers more : List (List ℕ)) (lates : List (ℕ × List ℕ)) → AreLateReplies answers lates
      → AreLateReplies (answers ++ more) lates
  lates_grow answers more lates is = all-map _ _ lates (λ l e. at_front answers more l.0 l.1 e) is

  -- ---- what the board answers

  -- what a board's answer is, where there are s first sends
  abbrev pub IsAnswered : ℕ → List (List ℕ) → Board → Option (List ℕ) → Type 0
  IsAnswered first all b None = Unit {0}
  IsAnswered first all b (Some bytes) = IsDatagram first all (replies b)
      (record { direction = goes.ToHub; bytes = bytes; birth = length all })

  -- a board that heard: it grew, and its answer holds
  pub record HasHeard (first : ℕ) (all : List (List ℕ)) (ps : List ℕ) (old : Board) (h : Hearing) : Type 0 where
    pub log : IsExecuted all (bodies_executed h.board) ps
    pub node : IsBoard first h.board
    pub later : List (List ℕ)
    pub grew : replies h.board ≡ replies old ++ later
    pub answer : IsAnswered first all h.board h.answer

  pub record IsHere (first window : ℕ) (all : List (List ℕ)) (ps : List ℕ) (b : Board) : Type 0 where
    pub hub : IsWindow window (length all) ps
    pub sendable : AllByRecursion IsSendable all
    pub log : IsExecuted all (bodies_executed b) ps
    pub node : IsBoard first b

  near : (first window : ℕ) (all : List (List ℕ)) (ps : List ℕ) (b : Board) → IsHere first window all ps b
      → length all ≤ length (bodies_executed b) + MOST_OPEN
  near first window all ps b is = sent_near window all (bodies_executed b) ps is.hub is.log

  numbered_is : (first window : ℕ) (all : List (List ℕ)) (ps : List ℕ) (b : Board) → IsHere first window all ps b
      → numbered_count b.log ≡ length (bodies_executed b)
  numbered_is first window all ps b is = numbered_all b.mtu b.log is.node.log ∙ sym (executed_length b)

  dropped_heard : (first window : ℕ) (all : List (List ℕ)) (ps : List ℕ) (b : Board) (cause : DropCause)
      → IsHere first window all ps b → HasHeard first all ps b (hearing_dropped b cause)
  dropped_heard first window all ps b cause is = record {
    log = is.log;
    node = is.node;
    later = [];
    grew = sym (append-nil (replies b));
    answer = tt;
  }

  status_heard : (first window : ℕ) (all : List (List ℕ)) (ps : List ℕ) (b : Board) → IsHere first window all ps b
      → HasHeard first all ps b (tell_status b)
  status_heard first window all ps b is =
      let n = near first window all ps b is in
      let count = numbered_is first window all ps b is in
      let same = replies_length b in
      let said : IsToldOf first (length (replies b)) (length all) (expected_identifier b) = record {
        place = length (bodies_executed b) + 1;
        from_one = omega arith;
        up_to_next = omega arith;
        identifier = ap (λ k. identifier_at b.first (k + 1)) count
            ∙ ap (λ f. identifier_at f (length (bodies_executed b) + 1)) (sym is.node.same_first);
        recent = omega arith;
      } in
      record {
        log = is.log;
        node = is.node;
        later = [];
        grew = sym (append-nil (replies b));
        answer = record {
          born = omega arith;
          said = subst (IsSaidToHub first (replies b) (length all))
              (sym (status_read below.packets.back b.mtu b.buffers (expected_identifier b) is.node.mtu is.node.buffers
              (is_identifier b.first (numbered_count b.log + 1)))) said;
        };
      }

  -- a reply as a datagram
  reply_said : (first : ℕ) (answers : List (List ℕ)) (birth : ℕ) (order : Order) (id : ℕ) (words : List ℕ) → id < 2 ^ 16
      → IsSendable words → IsReplyOf first answers birth id words
      → IsSaidToHub first answers birth (to_hub (packet_bytes (control_packet order id words)))
  reply_said first answers birth order id words fits is said =
      subst (IsSaidToHub first answers birth) (sym (reply_read below.packets.back order id words fits is)) said

  resent : (first window : ℕ) (all : List (List ℕ)) (ps : List ℕ) (b : Board) (id : ℕ) (packet : Packet)
      → IsHere first window all ps b → with_id id (held_replies b) ≡ Some packet
      → HasHeard first all ps b (send_again b (Some packet))
  resent first window all ps b id packet is found =
      let n = near first window all ps b is in
      let same = replies_length b in
      let packets = numbered_replies b.first 1 b.log (replies b) in
      let count = replies_count b.mtu b.first 1 b.log (replies b) is.node.log (same ∙ executed_length b) in
      let skipped = length packets - b.buffers in
      let f = with_id_found id (held_replies b) packet found in
      let at = get_drop skipped packets f.past packet f.there in
      let r = reply_at b.mtu b.first 1 (skipped + f.past) b.log (replies b) packet is.node.log at in
      let next : 1 + (skipped + f.past) ≡ skipped + f.past + 1 = omega arith in
      let here : at_place (replies b) (1 + (skipped + f.past)) ≡ Some r.words = rw (next, add-one) r.at in
      let within = at_within (replies b) (1 + (skipped + f.past)) r.words here in
      let long = executed_length b in
      let reply : IsReplyOf first (replies b) (length all) (identifier_at b.first (1 + (skipped + f.past))) r.words =
      record {
        place = 1 + (skipped + f.past);
        at = here;
        identifier = ap (λ (k : ℕ). identifier_at k (1 + (skipped + f.past))) (sym is.node.same_first);
        sent = omega (arith, within, same, front_length (bodies_executed b) all is.log.front);
        recent = omega (arith, is.node.buffers.1);
      } in
      record {
        log = is.log;
        node = is.node;
        later = [];
        grew = sym (append-nil (replies b));
        answer = record {
          born = omega arith;
          said = subst (λ (p : Packet). IsSaidToHub first (replies b) (length all) (to_hub (packet_bytes p))) (sym r.is)
              (reply_said first (replies b) (length all) r.order _ r.words (id_fits b.first (1 + (skipped + f.past)))
              (all_get IsSendable (replies b) (skipped + f.past) r.words (replies_sendable below first b is.node) r.at)
              reply);
        };
      }

  resend_heard : (first window : ℕ) (all : List (List ℕ)) (ps : List ℕ) (b : Board) (id : ℕ) (r : Option Packet)
      → IsHere first window all ps b → with_id id (held_replies b) ≡ r → HasHeard first all ps b (send_again b r)
  resend_heard first window all ps b id None is e = dropped_heard first window all ps b causes.NotHeld is
  resend_heard first window all ps b id (Some packet) is e = resent first window all ps b id packet is e

  abbrev pub with_entry : Board → LogEntry → Board
  with_entry b e = record b { log = b.log ++ e ∷ [] }

  pub executed_entry : (b : Board) (e : LogEntry) → bodies_executed (with_entry b e) ≡ bodies_executed b ++ e.body ∷ []
  executed_entry b e = map-append body_of b.log (e ∷ [])

  pub replies_entry : (b : Board) (e : LogEntry) → replies (with_entry b e) ≡ replies b ++
      (run_body (present_bus b) e.body).reply ∷ []
  replies_entry b e = ap (λ (bs : List (List ℕ)). (replay b.opening bs).replies) (executed_entry b e)
      ∙ below.bodies.more b.opening (bodies_executed b) (e.body ∷ [])

  execute_heard : (first window : ℕ) (all : List (List ℕ)) (ps : List ℕ) (b : Board) (order : Order) (id : ℕ)
      (body : List ℕ) → IsHere first window all ps b
      → at_place all (length (bodies_executed b) + 1) ≡ Some body → id ≡ identifier_at first (length (bodies_executed b) + 1)
      → IsSendable body → reply_room body + 1 ≤ payload_of b.mtu
      → HasHeard first all ps b (execute b id (record { numbered = true; order = order; body = body }))
  execute_heard first window all ps b order id body is at named sendable room =
      let e : LogEntry = record { numbered = true; order = order; body = body } in
      let reply = (run_body (present_bus b) body).reply in
      let n = near first window all ps b is in
      let same = replies_length b in
      let said : IsReplyOf first (replies (with_entry b e)) (length all) id reply = record {
        place = length (replies b) + 1;
        at = subst (λ (rs : List (List ℕ)). at_place rs (length (replies b) + 1) ≡ Some reply) (sym (replies_entry b e))
            (at_seam (replies b) [] reply);
        identifier = named ∙ ap (λ (k : ℕ). identifier_at first (k + 1)) (sym same);
        sent = omega (arith, same, at_within all (length (bodies_executed b) + 1) body at);
        recent = omega arith;
      } in
      let can = reply_sendable below b.mtu (present_bus b) body is.node.mtu
      (present_holds below first b is.node) sendable.words room in
      record {
        log = subst (λ (bs : List (List ℕ)). IsExecuted all bs ps) (sym (executed_entry b e))
            (executed_next all (bodies_executed b) ps body is.log (front_grows (bodies_executed b) all body is.log.front at));
        node = record {
          identifier = is.node.identifier;
          same_first = is.node.same_first;
          mtu = is.node.mtu;
          buffers = is.node.buffers;
          opening = is.node.opening;
          log = AllByRecursion-append (IsLogged b.mtu) b.log (e ∷ []) is.node.log
              (record { numbered = refl; words = sendable.words; room = room }, tt);
        };
        later = reply ∷ [];
        grew = replies_entry b e;
        answer = record {
          born = omega arith;
          said = reply_said first (replies (with_entry b e)) (length all) order id reply
              (omega (arith, named, id_fits first (length (bodies_executed b) + 1))) can said;
        };
      }

  fits_by : (long : Bool) (most room : ℕ) → (long || nat_lt most room) ≡ false → room ≤ most
  fits_by true most room e = absurd (cc)
  fits_by false most room e = grind (arith, nat_tests)

  room_fits : (b : Board) (body : List ℕ) → is_too_long b body ≡ false → reply_room body + 1 ≤ payload_of b.mtu
  room_fits b body e = fits_by (nat_lt (payload_of b.mtu) (length body + 1)) (payload_of b.mtu) (reply_room body + 1) e

  control_heard : (first window birth : ℕ) (all : List (List ℕ)) (ps : List ℕ) (b : Board) (order : Order) (id : ℕ)
      (body : List ℕ) → IsHere first window all ps b
      → birth ≤ length all → length all - birth ≤ LIFETIME → IsControlOf first all birth id body
      → HasHeard first all ps b (hear_control b order id body)
  control_heard first window birth all ps b order id body is born alive said =
      let n = near first window all ps b is in
      let count = numbered_is first window all ps b is in
      let fl = front_length (bodies_executed b) all is.log.front in
      let one = at_from_one all said.place body said.at in
      either (HasHeard first all ps b) (is_too_long b body) _ _
      (λ _. dropped_heard first window all ps b causes.TooLong is)
      (λ short. either (HasHeard first all ps b) (id == 0) _ _
      (λ zero_id. absurd (let z = eqb-true id 0 zero_id in
      omega (arith, said.identifier, not_zero first said.place)))
      (λ _. either (HasHeard first all ps b) (id == expected_identifier b) _ _
      (λ expects.
      let e = eqb-true id (expected_identifier b) expects in
      let next : expected_identifier b ≡ identifier_at first (length (bodies_executed b) + 1) =
      ap (λ (k : ℕ). identifier_at b.first (k + 1)) count
      ∙ ap (λ (f : ℕ). identifier_at f (length (bodies_executed b) + 1)) (sym is.node.same_first) in
      let same : said.place ≡ length (bodies_executed b) + 1 =
      one_place first said.place (length (bodies_executed b) + 1) is.node.identifier one (omega arith)
      (omega (arith, said.sent)) (omega (arith, said.recent)) (sym said.identifier ∙ (e ∙ next)) in
      let at = subst (λ (k : ℕ). at_place all k ≡ Some body) same said.at in
      let got : slice_get all (length (bodies_executed b)) ≡ Some body = rw add-one at at in
      execute_heard first window all ps b order id body is at (e ∙ next)
      (all_get IsSendable all (length (bodies_executed b)) body is.sendable got) (room_fits b body short))
      (λ _. dropped_heard first window all ps b causes.OtherId is)))

  message_heard : (first window birth : ℕ) (all : List (List ℕ)) (ps : List ℕ) (b : Board) (m : Option ToBoard)
      → IsHere first window all ps b
      → birth ≤ length all → length all - birth ≤ LIFETIME → IsSaidToBoard first all birth m
      → HasHeard first all ps b (hear_message b m)
  message_heard first window birth all ps b None is born alive said =
      dropped_heard first window all ps b causes.NotPacket is
  message_heard first window birth all ps b (Some StatusRequest) is born alive said =
      status_heard first window all ps b is
  message_heard first window birth all ps b (Some (ResendRequest id)) is born alive said =
      resend_heard first window all ps b id (with_id id (held_replies b)) is refl
  message_heard first window birth all ps b (Some (ControlPacket order id body)) is born alive said =
      control_heard first window birth all ps b order id body is born alive said

  -- a board that hears what was sent to it
  pub board_heard : (first window birth : ℕ) (all : List (List ℕ)) (ps : List ℕ) (b : Board) (bytes : List ℕ)
      → IsHere first window all ps b
      → birth ≤ length all → length all - birth ≤ LIFETIME → IsSaidToBoard first all birth (to_board bytes)
      → HasHeard first all ps b (hear b bytes)
  board_heard first window birth all ps b bytes is born alive said =
      message_heard first window birth all ps b (to_board bytes) is born alive said
