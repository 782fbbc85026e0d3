-- Every move keeps the facts, and so does every run.
use Rattle.std.proofs.Common.{◌≡◌, ℕ, zero, suc, ◌+◌, ◌-◌, ◌≤◌, true, List, [], ◌∷◌, ◌++◌}
use Rattle.std.proofs.Common.{length, Option, Some, None, Result, Ok, Err, refl, sym, subst, arith}
use Rattle.std.specs.Prelude.{IfOk}
use Rattle.std.proofs.lemmas.Bool.{leb-true}
use Rattle.std.proofs.lemmas.List.{length-map, append-nil}
use Rattle.std.specs.List.{AllByRecursion, slice_get}
use Rattle.ipb_base.proofs.AllLemmas.{AllByRecursion-append, all-map}
use Rattle.world_model.specs.declared.datagram.Datagram.{Datagram}
use Rattle.world_model.specs.declared.datagram.Direction.{Direction}
use Rattle.world_model.specs.declared.datagram.Direction.TheVariants as goes
use Rattle.world_model.specs.declared.offered.Offered.{Offered}
use Rattle.world_model.specs.declared.offered.Fate.{Fate}
use Rattle.world_model.specs.declared.moves.WorldMove.{WorldMove}
use Rattle.world_model.specs.declared.moves.WorldMove.TheVariants.{Offer, Quiet, HubHears, BoardHears}
use Rattle.world_model.specs.declared.moves.WorldEnd.{WorldEnd}
use Rattle.world_model.specs.Messages.{ToHub, StatusReply, Reply, to_hub}
use Rattle.world_model.specs.Board.{Board, bodies_executed, replies, hear}
use Rattle.world_model.specs.Hub.{Hub, take_message, is_waiting, places}
use Rattle.world_model.specs.Sends.{Next, next_send, pending}
use Rattle.world_model.specs.Air.{LIFETIME, is_alive, goes_to}
use Rattle.world_model.specs.World.{World, sent_into, flush_on, flush, handed_out, with_hub, go_on, taken_datagram, hub_hears}
use Rattle.world_model.specs.World.{air_after_answer, board_hears, when_taken, step, moves_on, run_moves, start}
use Rattle.world_model.specs.Facts.{IsDatagram, IsSaid, IsSaidToBoard, IsSaidToHub}
use Rattle.world_model.specs.Facts.{IsToldOf, AreRight, IsSound, bodies_of, offered_body}
use Rattle.world_model.specs.Facts.{IsSendable, IsGreetingOf, IsGreeting, IsStart}
use Rattle.world_model.specs.History.{IsMove}
use Rattle.world_model.proofs.Lists.{either, all_get}
use Rattle.world_model.proofs.Readings.{status_read}
use Rattle.world_model.proofs.Boards.{air_grows, fates_grow, lates_grow, board_heard, IsAnswered, IsHere}
use Rattle.world_model.proofs.Hubs.{offer_holds, quiet_holds, status_holds, reply_holds, send_holds, IsSendSound}
use Rattle.world_model.specs.Below.{Below}

module _ (below : Below) where
  flush_step : (later : Next → World) (w : World) (r : Option Next) → IsSound w → IsSendSound below w r
      → ((next : Next) → IsSound (sent_into w next) → IsSound (later next)) → IsSound (flush_on r later w)
  flush_step later w None is s f = is
  flush_step later w (Some next) is s f = f next s

  pub flushed_holds : (most : ℕ) (w : World) → IsSound w → IsSound (flush most w)
  flushed_holds zero w is = is
  flushed_holds (suc most) w is = flush_step (λ next. flush most (sent_into w next)) w (next_send w.hub) is
      (send_holds below w is) (λ next s. flushed_holds most (sent_into w next) s)

  handed_out_holds : (w : World) → IsSound w → IsSound (handed_out w)
  handed_out_holds w is = record {
    hub = is.hub;
    sent_bodies = is.sent_bodies;
    queued_bodies = is.queued_bodies;
    log = is.log;
    node = is.node;
    said = is.said;
    waiting_fates = tt;
    told_fates = AllByRecursion-append _ w.fates w.hub.fates is.told_fates is.waiting_fates;
    waiting_lates = tt;
    told_lates = AllByRecursion-append _ w.lates w.hub.lates is.told_lates is.waiting_lates;
  }

  pub goes_on : (w : World) (h : Hub) → IsSound (with_hub w h) → IsSound (go_on w h)
  goes_on w h is = handed_out_holds (flush (pending h) (with_hub w h)) (flushed_holds (pending h) (with_hub w h) is)

  -- bytes that a move takes from the air
  pub record IsTaken (w : World) (hearer : Direction) (bytes : List ℕ) : Type 0 where
    pub birth : ℕ
    pub born : birth ≤ length (bodies_of w.hub.sent)
    pub alive : length w.hub.sent - birth ≤ LIFETIME
    pub said : IsSaid w.hub.first (bodies_of w.hub.sent) (replies w.board) birth hearer bytes

  abbrev pub IsTakenOr : World → Direction → Result (List ℕ) WorldEnd → Type 0
  IsTakenOr w hearer (Ok bytes) = IsTaken w hearer bytes
  IsTakenOr w hearer (Err e) = Unit {0}

  pub same_way : (hearer direction : Direction) → goes_to hearer direction ≡ true → direction ≡ hearer
  same_way goes.ToBoard goes.ToBoard e = refl
  same_way goes.ToBoard goes.ToHub e = absurd (cc)
  same_way goes.ToHub goes.ToBoard e = absurd (cc)
  same_way goes.ToHub goes.ToHub e = refl

  taken_is : (at : ℕ) (w : World) (hearer : Direction) (k : ℕ) (r : Option Datagram) → IsSound w → slice_get w.air k ≡ r
      → IsTakenOr w hearer (taken_datagram at (length w.hub.sent) hearer r)
  taken_is at w hearer k None is e = tt
  taken_is at w hearer k (Some d) is e = either (IsTakenOr w hearer) (goes_to hearer d.direction) _ _
      (λ way. either (IsTakenOr w hearer) (is_alive (length w.hub.sent) d) _ _
      (λ a.
      let fact = all_get _ w.air k d is.said e in
      record {
        birth = d.birth;
        born = fact.born;
        alive = leb-true _ _ a;
        said = subst (λ (x : Direction). IsSaid w.hub.first (bodies_of w.hub.sent)
            (replies w.board) d.birth x d.bytes) (same_way hearer d.direction way) fact.said;
      })
      (λ _. tt))
      (λ _. tt)

  message_taken : (w : World) (m : Option ToHub) (birth : ℕ) → IsSound w → length w.hub.sent - birth ≤ LIFETIME
      → IsSaidToHub w.hub.first (replies w.board) birth m → IsSound (with_hub w (take_message w.hub m))
  message_taken w None birth is alive said = is
  message_taken w (Some (StatusReply mtu buffers next)) birth is alive said = status_holds below w next is
  message_taken w (Some (Reply id words)) birth is alive said = reply_holds below w id words birth is alive said

  pub hub_heard : (w : World) (bytes : List ℕ) → IsSound w → IsTaken w goes.ToHub bytes
      → IsSound (with_hub w (take_message w.hub (to_hub bytes)))
  hub_heard w bytes is t = message_taken w (to_hub bytes) t.birth is t.alive t.said

  answer_joins : (first : ℕ) (all : List (List ℕ)) (b : Board) (air : List Datagram) (birth : ℕ) (r : Option (List ℕ))
      → birth ≡ length all → AllByRecursion (IsDatagram first all (replies b)) air → IsAnswered below first all b r
      → AllByRecursion (IsDatagram first all (replies b)) (air ++ air_after_answer birth r)
  answer_joins first all b air birth None same is new = rw append-nil is
  answer_joins first all b air birth (Some bytes) same is new =
      AllByRecursion-append _ air (record { direction = goes.ToHub; bytes = bytes; birth = birth } ∷ []) is
      (rw same new, tt)

  bodies_sendable : (sent : List Offered) → AllByRecursion (λ (o : Offered). IsSendable o.body) sent
      → AllByRecursion IsSendable (bodies_of sent)
  bodies_sendable [] all = tt
  bodies_sendable (o ∷ os) all = (all.0, bodies_sendable os all.1)

  pub board_goes_on : (w : World) (bytes : List ℕ) → IsSound w → IsTaken w goes.ToBoard bytes
      → IsSound (board_hears w bytes)
  board_goes_on w bytes is t =
      let all = bodies_of w.hub.sent in
      let len : length all ≡ length w.hub.sent = length-map w.hub.sent offered_body in
      let here : IsHere below w.hub.first w.hub.window all (places w.hub.open_places) w.board =
      record {
        hub = rw len is.hub;
        sendable = bodies_sendable w.hub.sent is.sent_bodies;
        log = is.log;
        node = is.node;
      } in
      let h = board_heard below w.hub.first w.hub.window t.birth all
      (places w.hub.open_places) w.board bytes here t.born (rw len t.alive) t.said in
      let grown : AllByRecursion (IsDatagram w.hub.first all (replies (hear w.board bytes).board)) w.air =
      rw (h.grew) (subst (λ (bs : List (List ℕ)). AllByRecursion
      (IsDatagram w.hub.first bs (replies w.board ++ h.later)) w.air) (append-nil all)
      (air_grows below w.hub.first all [] (replies w.board) h.later w.air is.said)) in
      let right : (fates : List (ℕ × Fate)) → AreRight w.hub.sent (replies w.board) fates
      → AreRight w.hub.sent (replies w.board ++ h.later) fates =
      λ fates f. subst (λ (os : List Offered). AreRight os (replies w.board ++ h.later) fates)
      (append-nil w.hub.sent) (fates_grow below w.hub.sent [] (replies w.board) h.later fates f) in
      record {
        hub = is.hub;
        sent_bodies = is.sent_bodies;
        queued_bodies = is.queued_bodies;
        log = h.log;
        node = h.node;
        said = answer_joins w.hub.first all (hear w.board bytes).board w.air (length w.hub.sent)
            (hear w.board bytes).answer (sym len) grown h.answer;
        waiting_fates = rw (h.grew) (right w.hub.fates is.waiting_fates);
        told_fates = rw (h.grew) (right w.fates is.told_fates);
        waiting_lates = rw (h.grew) (lates_grow below (replies w.board) h.later w.hub.lates is.waiting_lates);
        told_lates = rw (h.grew) (lates_grow below (replies w.board) h.later w.lates is.told_lates);
      }

  -- ---- moves

  hub_moved : (w : World) (r : Result (List ℕ) WorldEnd) → IsSound w → IsTakenOr w goes.ToHub r
      → IfOk (when_taken r (hub_hears w)) IsSound
  hub_moved w (Ok bytes) is t = goes_on w (take_message w.hub (to_hub bytes)) (hub_heard w bytes is t)
  hub_moved w (Err e) is t = tt

  board_moved : (w : World) (r : Result (List ℕ) WorldEnd) → IsSound w → IsTakenOr w goes.ToBoard r
      → IfOk (when_taken r (board_hears w)) IsSound
  board_moved w (Ok bytes) is t = board_goes_on w bytes is t
  board_moved w (Err e) is t = tt

  pub step_holds : (at : ℕ) (w : World) (m : WorldMove) → IsMove m → IsSound w → IfOk (step at w m) IsSound
  step_holds at w (Offer tag body) can is = goes_on w _ (offer_holds below w (record { tag = tag; body = body }) can is)
  step_holds at w Quiet can is = either (λ (r : Result World WorldEnd). IfOk r IsSound) (is_waiting w.hub) _ _
      (λ _. goes_on w _ (quiet_holds below w is)) (λ _. tt)
  step_holds at w (HubHears i) can is = hub_moved w _ is (taken_is at w goes.ToHub i (slice_get w.air i) is refl)
  step_holds at w (BoardHears i) can is = board_moved w _ is (taken_is at w goes.ToBoard i (slice_get w.air i) is refl)

  run_step : (later : World → Result World WorldEnd) (r : Result World WorldEnd) → IfOk r IsSound
      → ((w : World) → IsSound w → IfOk (later w) IsSound) → IfOk (moves_on r later) IsSound
  run_step later (Ok w) is f = f w is
  run_step later (Err e) is f = tt

  pub run_holds : (at : ℕ) (w : World) (ms : List WorldMove) → AllByRecursion IsMove ms → IsSound w
      → IfOk (run_moves at w ms) IsSound
  run_holds at w [] can is = is
  run_holds at w (m ∷ ms) can is = run_step (λ after. run_moves (at + 1) after ms) (step at w m)
      (step_holds at w m can.0 is) (λ after s. run_holds (at + 1) after ms can.1 s)

  -- ---- the start

  greeting_said : (window : ℕ) (board : Board) (air : List Datagram) (way : Direction) (bytes : List ℕ)
      → IsStart window board air → IsGreetingOf board way bytes → IsSaid board.first [] (replies board) 0 way bytes
  greeting_said window board air goes.ToBoard bytes is e = subst (IsSaidToBoard board.first [] 0) (sym e) tt
  greeting_said window board air goes.ToHub bytes is e =
      let said : IsToldOf board.first (length (replies board)) 0 board.first = record {
        place = 1;
        from_one = omega arith;
        up_to_next = omega arith;
        identifier = omega (arith, is.first.from_one, is.first.up_to_end);
        recent = omega arith;
      } in
      subst (λ (b : List ℕ). IsSaidToHub board.first (replies board) 0 (to_hub b)) (sym e)
      (subst (IsSaidToHub board.first (replies board) 0) (sym
      (status_read below.packets.back board.mtu board.buffers board.first is.mtu is.buffers is.first)) said)

  greeted : (window : ℕ) (board : Board) (air : List Datagram) (d : Datagram) → IsStart window board air
      → IsGreeting board d → IsDatagram board.first [] (replies board) d
  greeted window board air d is g = record {
    born = omega (arith, g.birth);
    said = subst (λ (n : ℕ). IsSaid board.first [] (replies board) n d.direction d.bytes) (sym g.birth)
        (greeting_said window board air d.direction d.bytes is g.bytes);
  }

  pub start_holds : (window rounds : ℕ) (board : Board) (air : List Datagram) → IsStart window board air
      → IsSound (start window rounds board air)
  start_holds window rounds board air is =
      let none : bodies_executed board ≡ [] = rw (is.fresh) refl in
      record {
        hub = record {
          few = omega (arith, is.few);
          rising = omega arith;
          from_one = omega arith;
          within = omega arith;
        };
        sent_bodies = tt;
        queued_bodies = tt;
        log = rw none (record { front = ([], refl); unheard = λ place after within. absurd (omega arith) });
        node = record {
          identifier = is.first;
          same_first = refl;
          mtu = is.mtu;
          buffers = is.buffers;
          opening = is.opening;
          log = rw (is.fresh) tt;
        };
        said = all-map _ _ air (λ d g. greeted window board air d is g) is.greetings;
        waiting_fates = tt;
        told_fates = tt;
        waiting_lates = tt;
        told_lates = tt;
      }
