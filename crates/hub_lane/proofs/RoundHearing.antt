-- What a board answers in a round: it executes the next packet, and then its reply is that of an open place, or it
-- stays as it was and answers what it is asked.
use Rattle.std.proofs.Common.{◌≡◌, ℕ, ◌+◌, ◌≤◌, true, false, ◌==◌, List, [], ◌∷◌, ◌++◌}
use Rattle.std.proofs.Common.{length}
use Rattle.std.proofs.Common.{Option, Some, None, refl, sym, ap, ◌∙◌, subst, arith, inl, inr, ◌⊎◌, length-append}
use Rattle.std.proofs.Common.{if◌then◌else◌}
use Rattle.std.proofs.lemmas.List.{length-map}
use Rattle.std.proofs.lemmas.Bool.{eqb-true, eqb-false}
use Rattle.ipb_base.proofs.AllLemmas.{back_of_all}
use Rattle.packet_codec.specs.declared.packet.Order.{Order}
use Rattle.packet_codec.specs.declared.packet.Packet.{Packet}
use Rattle.packet_codec.specs.Packet.{packet_bytes}
use Rattle.packet_ids.specs.Identifier.{identifier_at}
use Rattle.status_packet.specs.Packets.{status_reply}
use Rattle.board_bus.specs.Bodies.{run_body}
use Rattle.world_model.specs.Hearings.{IsAmongLast}
use Rattle.world_model.specs.declared.heard.LogEntry.{LogEntry}
use Rattle.world_model.specs.declared.heard.Heard.TheVariants.{Resent}
use Rattle.world_model.specs.declared.heard.DropCause.TheVariants as causes
use Rattle.world_model.specs.Messages.{ControlPacket, ResendRequest, StatusRequest, ToBoard}
use Rattle.world_model.specs.Messages.{control_packet, to_board, to_hub}
use Rattle.world_model.specs.Board.{Board, Hearing, hearing_dropped, execute, bodies_executed, expected_identifier, hear, hear_control}
use Rattle.world_model.specs.Board.{hear_message, held_replies, is_too_long, numbered_count, present_bus, send_again, tell_status}
use Rattle.world_model.specs.Board.{with_id}
use Rattle.world_model.specs.Facts.{IsBoard, IsExecuted, IsLogged, IsWindow, has}
use Rattle.world_model.proofs.Lists.{either, front_length}
use Rattle.world_model.proofs.Places.{has_from, id_fits, is_identifier}
use Rattle.hub_lane.specs.RecoveryBelow.{RecoveryLaws}
use Rattle.hub_lane.specs.UnderWay.{AsksBoard, TellsHub, count_executed}
use Rattle.hub_lane.proofs.RoundAnswers.{expects_next, held_read, new_reply_sendable, numbered_all}
use Rattle.world_model.proofs.Readings.{reply_read, status_read}

-- what is known of a board, beside the bodies that were sent to it
pub record IsPlaced (first window : ℕ) (all : List (List ℕ)) (ps : List ℕ) (b : Board) : Type 0 where
  pub node : IsBoard first b
  pub log : IsExecuted all (bodies_executed b) ps
  pub hub : IsWindow window (length all) ps
  pub most : window ≤ b.buffers

pub record Grows (first : ℕ) (ps : List ℕ) (b : Board) (h : Hearing) : Type 0 where
  pub one_more : count_executed h.board ≡ count_executed b + 1
  pub bytes : List ℕ
  pub answer : h.answer ≡ Some bytes
  pub tells : TellsHub first ps h.board (to_hub bytes)

pub record Tells (first : ℕ) (ps : List ℕ) (b : Board) (h : Hearing) : Type 0 where
  pub bytes : List ℕ
  pub answer : h.answer ≡ Some bytes
  pub tells : TellsHub first ps b (to_hub bytes)

pub record StaysAs (first : ℕ) (ps : List ℕ) (b : Board) (m : Option ToBoard) (h : Hearing) : Type 0 where
  pub same : h.board ≡ b
  pub answers : AsksBoard first ps b m → Tells first ps b h

abbrev pub Hears : ℕ → List ℕ → Board → Option ToBoard → Hearing → Type 0
Hears first ps b m h = Grows first ps b h ⊎ StaysAs first ps b m h

-- an open place that was executed is among the last ones
among_last : (first window : ℕ) (all : List (List ℕ)) (ps : List ℕ) (b : Board) (place : ℕ)
    → IsPlaced first window all ps b → has place ps ≡ true → 1 ≤ place → place ≤ count_executed b → IsAmongLast b place
among_last first window all ps b place is there one le =
    let count = numbered_all b.mtu b.log is.node.log in
    let low = has_from place _ _ ps is.hub.rising there in
    let w = is.hub.within in
    let most = is.most in
    let long = length-map b.log (λ (e : LogEntry). e.body) in
    let front = front_length (bodies_executed b) all is.log.front in
    record {
      from_one = one;
      executed = omega (arith, count, le);
      recent = omega (
        arith,
        count,
        low,
        w,
        most,
        long,
        front,
      );
    }

module _ (below : RecoveryLaws) where
  status_hears : (first window : ℕ) (all : List (List ℕ)) (ps : List ℕ) (b : Board) → IsPlaced first window all ps b
      → Hears first ps b (Some StatusRequest) (tell_status b)
  status_hears first window all ps b is = inr (record {
    same = refl;
    answers = λ asks. record {
      bytes = packet_bytes (status_reply b.mtu b.buffers (expected_identifier b));
      answer = refl;
      tells = subst (TellsHub first ps b) (sym (status_read below.back b.mtu b.buffers (expected_identifier b) is.node.mtu
          is.node.buffers (is_identifier b.first (numbered_count b.log + 1))))
          (expects_next first b is.node);
    };
  })

  resend_hears : (first window : ℕ) (all : List (List ℕ)) (ps : List ℕ) (b : Board) (bytes : List ℕ) (id : ℕ) (r :
      Option Packet) → IsPlaced first window all ps b → to_board bytes ≡ Some (ResendRequest id)
      → with_id id (held_replies b) ≡ r → Hears first ps b (Some (ResendRequest id)) (send_again b r)
  resend_hears first window all ps b bytes id None is e found = inr (record {
    same = refl;
    answers = λ asks.
        let last = among_last first window all ps b asks.0 is asks.1 asks.2 asks.3 in
        let named : identifier_at b.first asks.0 ≡ id = ap (λ (f : ℕ). identifier_at f asks.0) (sym
        is.node.same_first) ∙ sym asks.4 in
        let resent : (hear b bytes).heard ≡ Resent = below.held b bytes id asks.0 e last named in
        let here : (send_again b (with_id id (held_replies b))).heard ≡ Resent = subst (λ (m : Option ToBoard). (hear_message
        b m).heard ≡ Resent) e resent in
        let none : (send_again b None).heard ≡ Resent = subst (λ (p : Option Packet). (send_again b p).heard ≡ Resent)
        found here in
        absurd (cc);
  })
  resend_hears first window all ps b bytes id (Some p) is e found = inr (record {
    same = refl;
    answers = λ asks. record {
      bytes = packet_bytes p;
      answer = refl;
      tells = subst (TellsHub first ps b) (sym (held_read below first b id p is.node found)) (asks.0, asks.1, asks.4);
    };
  })

  executed_hears : (first window : ℕ) (all : List (List ℕ)) (ps : List ℕ) (b : Board) (order : Order) (id : ℕ) (body :
      List ℕ) → IsPlaced first window all ps b
      → IsPlaced first window all ps (execute b id (record { numbered = true; order = order; body = body })).board
      → id ≡ expected_identifier b
      → Grows first ps b (execute b id (record { numbered = true; order = order; body = body }))
  executed_hears first window all ps b order id body is after named =
      let e : LogEntry = record { numbered = true; order = order; body = body } in
      let logged : IsLogged b.mtu e = (back_of_all (IsLogged b.mtu) b.log (e ∷ []) after.node.log).0 in
      let reply = (run_body (present_bus b) body).reply in
      let can = new_reply_sendable below first b body is.node logged.words logged.room in
      let next : id ≡ identifier_at first (count_executed b + 1) = named ∙ expects_next first b is.node in
      let fits = id_fits first (count_executed b + 1) in
      let longer = length-append b.log (e ∷ []) in
      let front = front_length (bodies_executed (execute b id e).board) all after.log.front in
      let long = length-map (b.log ++ e ∷ []) (λ (x : LogEntry). x.body) in
      let before = length-map b.log (λ (x : LogEntry). x.body) in
      let there = is.log.unheard (count_executed b + 1) (omega (arith, before)) (omega (arith, front, long, longer)) in
      record {
        one_more = longer;
        bytes = packet_bytes (control_packet order id reply);
        answer = refl;
        tells = subst (TellsHub first ps (execute b id e).board) (sym (reply_read below.back order id reply (omega (
          arith,
          next,
          fits,
        )) can)) (count_executed b + 1, there, next);
      }

  control_hears : (first window : ℕ) (all : List (List ℕ)) (ps : List ℕ) (b : Board) (order : Order) (id : ℕ) (body :
      List ℕ) → IsPlaced first window all ps b
      → IsPlaced first window all ps (hear_control b order id body).board
      → Hears first ps b (Some (ControlPacket order id body)) (hear_control b order id body)
  control_hears first window all ps b order id body is after =
      let m = Some (ControlPacket order id body) in
      let free : LogEntry = record { numbered = false; order = order; body = body } in
      let entry : LogEntry = record { numbered = true; order = order; body = body } in
      let last = if id == expected_identifier b then execute b id entry else hearing_dropped b causes.OtherId in
      let second = if id == 0 then execute b id free else last in
      either (λ (h : Hearing). IsPlaced first window all ps h.board
      → Hears first ps b m h) (is_too_long b body) (hearing_dropped b causes.TooLong) second
      (λ long after. inr (record { same = refl; answers = λ asks. let fits = asks.2 in absurd (cc) }))
      (λ short after. either (λ (h : Hearing). IsPlaced first window all ps h.board
      → Hears first ps b m h) (id == 0) (execute b id free) last
      (λ zero_id after. let logged = (back_of_all (IsLogged b.mtu) b.log (free ∷ []) after.node.log).0.numbered in
      absurd (cc))
      (λ some_id after. either (λ (h : Hearing). IsPlaced first window all ps h.board
      → Hears first ps b m h) (id == expected_identifier b) (execute b id entry) (hearing_dropped b causes.OtherId)
      (λ expects after. inl (executed_hears first window all ps b order id body is after (eqb-true id (expected_identifier b)
      expects)))
      (λ other after. inr (record {
        same = refl;
        answers = λ asks. absurd (eqb-false id (expected_identifier b) other (asks.1 ∙ sym (expects_next first b is.node)));
      }))
      after)
      after)
      after

  -- a board hears a datagram
  pub board_hears : (first window : ℕ) (all : List (List ℕ)) (ps : List ℕ) (b : Board) (bytes : List ℕ) (m : Option
      ToBoard) → to_board bytes ≡ m → IsPlaced first window all ps b
      → IsPlaced first window all ps (hear_message b m).board → Hears first ps b m (hear_message b m)
  board_hears first window all ps b bytes None e is after = inr (record { same = refl; answers = λ asks. absurd asks })
  board_hears first window all ps b bytes (Some StatusRequest) e is after = status_hears first window all ps b is
  board_hears first window all ps b bytes (Some (ResendRequest id)) e is after = resend_hears first window all ps b
      bytes id (with_id id (held_replies b)) is e refl
  board_hears first window all ps b bytes (Some (ControlPacket order id body)) e is after = control_hears first window
      all ps b order id body is after
