-- What was sent, executed and told stays, whatever moves follow.
use Rattle.std.proofs.Common.{◌≡◌, ℕ, zero, suc, ◌+◌, true, false, List, [], ◌∷◌, ◌++◌, length, Option}
use Rattle.std.proofs.Common.{Some, None, Result, Ok, Err, refl, sym, ap, ◌∙◌, subst, append_assoc}
use Rattle.std.specs.Prelude.{nat_lt, nat_le, IfOk, ◌==◌}
use Rattle.std.proofs.lemmas.List.{append-nil}
use Rattle.std.specs.List.{slice_get}
use Rattle.ipb_base.specs.Lists.{IsPrefix}
use Rattle.world_model.specs.declared.datagram.Datagram.{Datagram}
use Rattle.world_model.specs.declared.datagram.Direction.TheVariants as goes
use Rattle.world_model.specs.declared.heard.LogEntry.{LogEntry}
use Rattle.world_model.specs.declared.offered.Offered.{Offered}
use Rattle.world_model.specs.declared.offered.Fate.{Fate}
use Rattle.world_model.specs.declared.moves.WorldMove.{WorldMove}
use Rattle.world_model.specs.declared.moves.WorldMove.TheVariants.{Offer, Quiet, HubHears, BoardHears}
use Rattle.world_model.specs.declared.moves.WorldEnd.{WorldEnd}
use Rattle.world_model.specs.Messages.{ToBoard, StatusRequest, ResendRequest, ControlPacket, ToHub, StatusReply, Reply}
use Rattle.world_model.specs.Messages.{to_board, to_hub}
use Rattle.world_model.specs.Board.{Board, Hearing, expected_identifier, held_replies, with_id, is_too_long, send_again, hear_message}
use Rattle.world_model.specs.Board.{hear}
use Rattle.world_model.specs.declared.offered.OpenPlace.{OpenPlace}
use Rattle.world_model.specs.Hub.{Hub, low, offer, open_with, settle, after_recovery, told_place, take_message}
use Rattle.world_model.specs.Hub.{want_status, give_up, hear_quiet, is_waiting}
use Rattle.world_model.specs.Sends.{Next, Wanted, first_wanted, first_send, wanted_or_first, next_send, pending}
use Rattle.world_model.specs.World.{World, sent_into, flush_on, flush, handed_out, with_hub, go_on, taken_datagram, hub_hears}
use Rattle.world_model.specs.World.{air_after_answer, board_hears, when_taken, step, moves_on, run_moves}
use Rattle.world_model.proofs.Lists.{either}

-- ---- what the hub hears leaves what was sent

settle_sent : (h : Hub) (words : List ℕ) (r : Option OpenPlace) → (settle h words r).sent ≡ h.sent
settle_sent h words None = refl
settle_sent h words (Some o) = refl

recovered_sent : (h : Hub) (r : Option ℕ) → (after_recovery h r).sent ≡ h.sent
recovered_sent h None = refl
recovered_sent h (Some e) = refl

pub message_sent : (h : Hub) (m : Option ToHub) → (take_message h m).sent ≡ h.sent
message_sent h None = refl
message_sent h (Some (StatusReply mtu buffers next)) = either
    (λ (x : Hub). x.sent ≡ h.sent) (nat_lt 0 h.status_requests) _ _ (λ _. recovered_sent h (told_place h next))
    (λ _. refl)
message_sent h (Some (Reply id words)) = settle_sent h words (open_with h.first id h.open_places)

pub quiet_sent : (h : Hub) → (hear_quiet h).sent ≡ h.sent
quiet_sent h = either (λ (x : Hub). x.sent ≡ h.sent) (nat_lt h.status_requests h.rounds) (want_status h) (give_up h)
    (λ _. refl) (λ _. refl)

-- ---- prefixes

pub prefix_same : {A : Type 0} (xs ys : List A) → ys ≡ xs → IsPrefix xs ys
prefix_same xs ys e = ([], e ∙ sym (append-nil xs))

pub prefix_then : {A : Type 0} (xs ys zs : List A) → IsPrefix xs ys → IsPrefix ys zs → IsPrefix xs zs
prefix_then {A = A} xs ys zs one two = (
  one.0 ++ two.0,
  two.1
      ∙ (ap (λ (front : List A). front ++ two.0) one.1 ∙ append_assoc xs one.0 two.0),
)

-- a world that only grew
pub record Grew (old new : World) : Type 0 where
  pub sent : IsPrefix {T = Offered} old.hub.sent new.hub.sent
  pub log : IsPrefix {T = LogEntry} old.board.log new.board.log
  pub air : IsPrefix {T = Datagram} old.air new.air
  pub fates : IsPrefix {T = ℕ × Fate} old.fates new.fates
  pub lates : IsPrefix {T = ℕ × List ℕ} old.lates new.lates

pub grew_same : (w : World) → Grew w w
grew_same w = record {
  sent = prefix_same w.hub.sent w.hub.sent refl;
  log = prefix_same w.board.log w.board.log refl;
  air = prefix_same w.air w.air refl;
  fates = prefix_same w.fates w.fates refl;
  lates = prefix_same w.lates w.lates refl;
}

pub grew_then : (a b c : World) → Grew a b → Grew b c → Grew a c
grew_then a b c one two = record {
  sent = prefix_then a.hub.sent b.hub.sent c.hub.sent one.sent two.sent;
  log = prefix_then a.board.log b.board.log c.board.log one.log two.log;
  air = prefix_then a.air b.air c.air one.air two.air;
  fates = prefix_then a.fates b.fates c.fates one.fates two.fates;
  lates = prefix_then a.lates b.lates c.lates one.lates two.lates;
}

abbrev pub SendsMore : Hub → Option Next → Type 0
SendsMore h None = Unit {0}
SendsMore h (Some n) = IsPrefix {T = Offered} h.sent n.hub.sent

first_more : (h : Hub) (queue : List Offered) → SendsMore h (first_send h queue)
first_more h [] = tt
first_more h (o ∷ later) = either (SendsMore h) (nat_le (length h.sent + 1 + 1) (h.window + low h)) _ _
    (λ _. (o ∷ [], refl)) (λ _. tt)

wanted_more : (h : Hub) (r : Option Wanted) → SendsMore h (wanted_or_first h r)
wanted_more h None = first_more h h.queue
wanted_more h (Some w) = prefix_same h.sent h.sent refl

send_more : (h : Hub) → SendsMore h (next_send h)
send_more h = either (SendsMore h) h.status_wanted _ _ (λ _. prefix_same h.sent h.sent refl)
    (λ _. wanted_more h (first_wanted h.first h.open_places))

flush_by : (later : Next → World) (w : World) (r : Option Next) → SendsMore w.hub r
    → ((n : Next) → Grew (sent_into w n) (later n)) → Grew w (flush_on r later w)
flush_by later w None more f = grew_same w
flush_by later w (Some n) more f =
    grew_then w (sent_into w n) (later n)
    (record {
      sent = more;
      log = prefix_same w.board.log w.board.log refl;
      air = (_, refl);
      fates = prefix_same w.fates w.fates refl;
      lates = prefix_same w.lates w.lates refl;
    }) (f n)

pub flush_grew : (most : ℕ) (w : World) → Grew w (flush most w)
flush_grew zero w = grew_same w
flush_grew (suc most) w = flush_by (λ next. flush most (sent_into w next)) w (next_send w.hub) (send_more w.hub)
    (λ n. flush_grew most (sent_into w n))

handed_grew : (w : World) → Grew w (handed_out w)
handed_grew w = record {
  sent = prefix_same w.hub.sent w.hub.sent refl;
  log = prefix_same w.board.log w.board.log refl;
  air = prefix_same w.air w.air refl;
  fates = (w.hub.fates, refl);
  lates = (w.hub.lates, refl);
}

-- an event of the hub that sends nothing
go_on_grew : (w : World) (h : Hub) → h.sent ≡ w.hub.sent → Grew w (go_on w h)
go_on_grew w h same =
    let sent = flush (pending h) (with_hub w h) in
    grew_then w sent (go_on w h)
    (grew_then w (with_hub w h) sent
    (record {
      sent = prefix_same w.hub.sent h.sent same;
      log = prefix_same w.board.log w.board.log refl;
      air = prefix_same w.air w.air refl;
      fates = prefix_same w.fates w.fates refl;
      lates = prefix_same w.lates w.lates refl;
    })
    (flush_grew (pending h) (with_hub w h)))
    (handed_grew sent)

-- ---- the board

abbrev pub LogsMore : Board → Hearing → Type 0
LogsMore b h = IsPrefix {T = LogEntry} b.log h.board.log

pub message_logs : (b : Board) (m : Option ToBoard) → LogsMore b (hear_message b m)
message_logs b None = prefix_same b.log b.log refl
message_logs b (Some StatusRequest) = prefix_same b.log b.log refl
message_logs b (Some (ResendRequest id)) = elim (with_id id (held_replies b)) as (λ r. LogsMore b (send_again b r))
    [ None ↦ prefix_same b.log b.log refl | Some packet ↦ prefix_same b.log b.log refl ]
message_logs b (Some (ControlPacket order id body)) =
    either (LogsMore b) (is_too_long b body) _ _ (λ _. prefix_same b.log b.log refl)
    (λ _. either (LogsMore b) (id == 0) _ _ (λ _. (
      record { numbered = false; order = order; body = body } ∷ [],
      refl,
    ))
    (λ _. either (LogsMore b) (id == expected_identifier b) _ _ (λ _.
    (record { numbered = true; order = order; body = body } ∷ [], refl)) (λ _. prefix_same b.log b.log refl)))

board_grew : (w : World) (bytes : List ℕ) → Grew w (board_hears w bytes)
board_grew w bytes = record {
  sent = prefix_same w.hub.sent w.hub.sent refl;
  log = message_logs w.board (to_board bytes);
  air = (air_after_answer (length w.hub.sent) (hear w.board bytes).answer, refl);
  fates = prefix_same w.fates w.fates refl;
  lates = prefix_same w.lates w.lates refl;
}

-- ---- moves

when_grew : (w : World) (r : Result (List ℕ) WorldEnd) (hears : List ℕ → World)
    → ((bytes : List ℕ) → Grew w (hears bytes)) → IfOk (when_taken r hears) (Grew w)
when_grew w (Ok bytes) hears f = f bytes
when_grew w (Err e) hears f = tt

pub step_grew : (at : ℕ) (w : World) (m : WorldMove) → IfOk (step at w m) (Grew w)
step_grew at w (Offer tag body) = go_on_grew w (offer w.hub (record { tag = tag; body = body })) refl
step_grew at w Quiet = either (λ (r : Result World WorldEnd). IfOk r (Grew w)) (is_waiting w.hub) _ _
    (λ _. go_on_grew w (hear_quiet w.hub) (quiet_sent w.hub)) (λ _. tt)
step_grew at w (HubHears i) = when_grew w (taken_datagram at (length w.hub.sent) goes.ToHub (slice_get w.air i)) (hub_hears w)
    (λ bytes. go_on_grew w (take_message w.hub (to_hub bytes)) (message_sent w.hub (to_hub bytes)))
step_grew at w (BoardHears i) = when_grew w (taken_datagram at (length w.hub.sent) goes.ToBoard (slice_get w.air i))
    (board_hears w) (board_grew w)

grew_on : (w v : World) (r : Result World WorldEnd) → Grew w v → IfOk r (Grew v) → IfOk r (Grew w)
grew_on w v (Ok x) one two = grew_then w v x one two
grew_on w v (Err e) one two = tt

run_grew_by : (w : World) (later : World → Result World WorldEnd) (r : Result World WorldEnd) → IfOk r (Grew w)
    → ((v : World) → IfOk (later v) (Grew v)) → IfOk (moves_on r later) (Grew w)
run_grew_by w later (Ok v) g f = grew_on w v (later v) g (f v)
run_grew_by w later (Err e) g f = tt

pub run_grew : (at : ℕ) (w : World) (ms : List WorldMove) → IfOk (run_moves at w ms) (Grew w)
run_grew at w [] = grew_same w
run_grew at w (m ∷ ms) = run_grew_by w (λ after. run_moves (at + 1) after ms) (step at w m) (step_grew at w m)
    (λ v. run_grew (at + 1) v ms)

pub run_was : (at : ℕ) (moves : List WorldMove) (old new : World) → run_moves at old moves ≡ Ok new → Grew old new
run_was at moves old new ran = subst (λ (r : Result World WorldEnd). IfOk r (Grew old)) ran (run_grew at old moves)
