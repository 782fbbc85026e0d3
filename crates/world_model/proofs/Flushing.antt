-- Each send leaves fewer sends pending, and at the end of them there is none to send.
use Rattle.std.proofs.Common.{◌≡◌, ℕ, zero, suc, ◌+◌, ◌<◌, ◌≤◌, true, false, cond, List, [], ◌∷◌, ◌++◌, length, Option}
use Rattle.std.proofs.Common.{Some, None, refl, sym, ap, ◌∙◌, subst, arith}
use Rattle.std.specs.Prelude.{nat_le, nat_lt, IfSome, IfOk, Result, Ok, Err}
use Rattle.std.proofs.lemmas.Bool.{leb-true, ltb-true, ltb-false}
use Rattle.std.specs.List.{AllByRecursion, slice_get}
use Rattle.packet_ids.specs.Identifier.{identifier_at}
use Rattle.world_model.specs.declared.datagram.Datagram.{Datagram}
use Rattle.world_model.specs.declared.datagram.Direction.TheVariants as goes
use Rattle.world_model.specs.declared.sending.Sending.TheVariants as sends
use Rattle.world_model.specs.declared.moves.WorldMove.{WorldMove}
use Rattle.world_model.specs.declared.moves.WorldMove.TheVariants.{Offer, Quiet, HubHears, BoardHears}
use Rattle.world_model.specs.declared.moves.WorldEnd.{WorldEnd}
use Rattle.world_model.specs.Messages.{ToHub, StatusReply, Reply, to_hub}
use Rattle.world_model.specs.Board.{Board}
use Rattle.world_model.specs.declared.offered.Offered.{Offered}
use Rattle.world_model.specs.declared.offered.OpenPlace.{OpenPlace}
use Rattle.world_model.specs.Hub.{Hub, low, offer, open_with, settle, after_recovery, told_place, take_message, want_status}
use Rattle.world_model.specs.Hub.{HandedOut, IsDrained, none_handed_out}
use Rattle.world_model.specs.Hub.{give_up, hear_quiet, hear_reply, hear_status, is_waiting}
use Rattle.world_model.specs.Sends.{Next, Wanted, after_open, first_wanted, opened_place, first_send, wanted_or_first, next_send}
use Rattle.world_model.specs.Sends.{pending, wishes}
use Rattle.world_model.specs.World.{World, sent_into, flush_on, flush, with_hub, go_on, taken_datagram, hub_hears, board_hears}
use Rattle.world_model.specs.World.{when_taken, step, moves_on, run_moves, start}
use Rattle.world_model.specs.History.{IsMove, IsRun}
use Rattle.world_model.proofs.Lists.{either}

-- ---- each send leaves one fewer

abbrev pub FewerWishes : List OpenPlace → Option Wanted → Type 0
FewerWishes os None = Unit {0}
FewerWishes os (Some w) = wishes w.open_places + 1 ≡ wishes os

fewer_later : (o : OpenPlace) (os : List OpenPlace) (r : Option Wanted) → FewerWishes os r
    → FewerWishes (o ∷ os) (after_open o r)
fewer_later o os None f = tt
fewer_later o os (Some w) f = omega arith

wanted_fewer : (first : ℕ) (os : List OpenPlace) → FewerWishes os (first_wanted first os)
wanted_fewer first [] = tt
wanted_fewer first (o ∷ os) = either (FewerWishes (o ∷ os)) o.resend _ _
    (λ e. rw e (omega arith))
    (λ _. either (FewerWishes (o ∷ os)) o.control _ _
    (λ e. rw e (omega arith))
    (λ _. fewer_later o os _ (wanted_fewer first os)))

wishes_push : (os : List OpenPlace) (place : ℕ) → wishes (os ++ opened_place place ∷ []) ≡ wishes os
wishes_push [] place = refl
wishes_push (o ∷ os) place = ap (λ (n : ℕ). cond o.resend 1 0 + cond o.control 1 0 + n) (wishes_push os place)

abbrev pub Falls : Hub → Option Next → Type 0
Falls h None = Unit {0}
Falls h (Some n) = pending n.hub < pending h

first_falls : (h : Hub) (queue : List Offered) → queue ≡ h.queue → Falls h (first_send h queue)
first_falls h [] same = tt
first_falls h (o ∷ later) same = either (Falls h) (nat_le (length h.sent + 1 + 1) (h.window + low h)) _ _
    (λ _. let f = wishes_push h.open_places (length h.sent + 1) in let l = ap
    (λ (xs : List Offered). length xs) same in omega arith)
    (λ _. tt)

wanted_falls : (h : Hub) (r : Option Wanted) → FewerWishes h.open_places r → Falls h (wanted_or_first h r)
wanted_falls h None f = first_falls h h.queue refl
wanted_falls h (Some w) f = omega arith

pub send_falls : (h : Hub) → Falls h (next_send h)
send_falls h = either (Falls h) h.status_wanted _ _
    (λ e. rw e (omega arith))
    (λ _. wanted_falls h (first_wanted h.first h.open_places) (wanted_fewer h.first h.open_places))

-- ---- with fuel enough, more fuel changes nothing

more_fuel : (a b : ℕ) (w : World) (r : Option Next) → Falls w.hub r → pending w.hub ≤ suc a → pending w.hub ≤ suc b
    → ((v : World) → pending v.hub ≤ a → pending v.hub ≤ b → flush a v ≡ flush b v)
    → flush_on r (λ next. flush a (sent_into w next)) w ≡ flush_on r (λ next. flush b (sent_into w next)) w
more_fuel a b w None f ha hb same = refl
more_fuel a b w (Some n) f ha hb same = same (sent_into w n) (omega arith) (omega arith)

no_fuel : (b : ℕ) (w : World) (r : Option Next) → Falls w.hub r → pending w.hub ≤ 0
    → flush_on r (λ next. flush b (sent_into w next)) w ≡ w
no_fuel b w None f h = refl
no_fuel b w (Some n) f h = absurd (omega arith)

pub same_flush : (a b : ℕ) (w : World) → pending w.hub ≤ a → pending w.hub ≤ b → flush a w ≡ flush b w
same_flush zero zero w ha hb = refl
same_flush zero (suc b) w ha hb = sym (no_fuel b w (next_send w.hub) (send_falls w.hub) ha)
same_flush (suc a) zero w ha hb = no_fuel a w (next_send w.hub) (send_falls w.hub) hb
same_flush (suc a) (suc b) w ha hb = more_fuel a b w (next_send w.hub) (send_falls w.hub) ha hb (same_flush a b)

-- ---- one send and the rest

pub some_falls : (h : Hub) (n : Next) → next_send h ≡ Some n → pending n.hub < pending h
some_falls h n e = subst (Falls h) e (send_falls h)

flush_one : (most : ℕ) (w : World) (n : Next) → next_send w.hub ≡ Some n
    → flush (suc most) w ≡ flush most (sent_into w n)
flush_one most w n e = ap (λ (r : Option Next). flush_on r (λ next. flush most (sent_into w next)) w) e

-- enough fuel is one more than what is pending after the send
pub flush_step : (w : World) (n : Next) → next_send w.hub ≡ Some n
    → flush (pending w.hub) w ≡ flush (pending n.hub) (sent_into w n)
flush_step w n e =
    let falls = some_falls w.hub n e in
    same_flush (pending w.hub) (suc (pending w.hub)) w (omega arith) (omega arith)
    ∙ (flush_one (pending w.hub) w n e
    ∙ same_flush (pending w.hub) (pending n.hub) (sent_into w n) (omega arith) (omega arith))

pub flush_end : (w : World) → next_send w.hub ≡ None → flush (pending w.hub) w ≡ w
flush_end w e =
    same_flush (pending w.hub) (suc (pending w.hub)) w (omega arith) (omega arith)
    ∙ ap (λ (r : Option Next). flush_on r (λ next. flush (pending w.hub) (sent_into w next)) w) e

-- ---- at the end nothing is to be sent

none_left : (h : Hub) (r : Option Next) → Falls h r → pending h ≤ 0 → r ≡ None
none_left h None f few = refl
none_left h (Some n) f few = absurd (omega arith)

last_of_flush : (most : ℕ) (w : World) (r : Option Next) → next_send w.hub ≡ r → Falls w.hub r
    → pending w.hub ≤ suc most
    → ((v : World) → pending v.hub ≤ most → next_send (flush most v).hub ≡ None)
    → next_send (flush_on r (λ next. flush most (sent_into w next)) w).hub ≡ None
last_of_flush most w None is f few later = is
last_of_flush most w (Some n) is f few later = later (sent_into w n) (omega arith)

pub flush_sends_all : (most : ℕ) (w : World) → pending w.hub ≤ most → next_send (flush most w).hub ≡ None
flush_sends_all zero w few = none_left w.hub (next_send w.hub) (send_falls w.hub) few
flush_sends_all (suc most) w few = last_of_flush most w (next_send w.hub) refl (send_falls w.hub) few
    (flush_sends_all most)

-- ---- what a send can be

pub send_cases : (Q : Next → Type 0) (h : Hub) → Q (record
    { send = sends.Status; hub = record h { status_wanted = false } })
    → ((w : Wanted) → first_wanted h.first h.open_places ≡ Some w
    → Q (record { send = w.send; hub = record h { open_places = w.open_places } }))
    → ((o : Offered) (later : List Offered) → h.queue ≡ o ∷ later → length h.sent + 2 ≤ h.window + low h
    → Q (record {
      send = sends.Control (length h.sent + 1) (identifier_at h.first (length h.sent + 1));
      hub = record h {
        sent = h.sent ++ o ∷ [];
        queue = later;
        open_places = h.open_places ++ opened_place (length h.sent + 1) ∷ [];
      };
    }))
    → IfSome (next_send h) Q
send_cases Q h status want first =
    let by_queue : (queue : List Offered) → h.queue ≡ queue → IfSome (first_send h queue) Q =
    λ queue. elim queue as (λ (xs : List Offered). h.queue ≡ xs → IfSome (first_send h xs) Q) [
      | [] ↦ λ _. tt
      | o ∷ later ↦ λ e. either (λ (r : Option Next). IfSome r Q)
          (nat_le (length h.sent + 1 + 1) (h.window + low h)) _ _
          (λ room. first o later e (let r = leb-true _ _ room in omega arith)) (λ _. tt)
    ] in
    let by_wish : (r : Option Wanted) → first_wanted h.first h.open_places ≡ r → IfSome (wanted_or_first h r) Q =
    λ r. elim r as (λ (x : Option Wanted). first_wanted h.first h.open_places ≡ x → IfSome (wanted_or_first h x) Q) [
      | None ↦ λ _. by_queue h.queue refl
      | Some w ↦ λ e. want w e
    ] in
    either (λ (r : Option Next). IfSome r Q) h.status_wanted _ _ (λ _. status)
    (λ _. by_wish (first_wanted h.first h.open_places) refl)

flush_keeps_by : (Q : World → Type 0) (w : World) (later : Next → World) (r : Option Next) → Q w
    → IfSome r (λ (n : Next). Q (sent_into w n)) → ((n : Next) → Q (sent_into w n) → Q (later n))
    → Q (flush_on r later w)
flush_keeps_by Q w later None is sends f = is
flush_keeps_by Q w later (Some n) is sends f = f n sends

-- what each send keeps, all sends keep
pub flush_keeps : (Q : World → Type 0) → ((w : World) → Q w
    → IfSome (next_send w.hub) (λ (n : Next). Q (sent_into w n))) → (most : ℕ) (w : World) → Q w → Q (flush most w)
flush_keeps Q sends zero w is = is
flush_keeps Q sends (suc most) w is = flush_keeps_by Q w
    (λ next. flush most (sent_into w next)) (next_send w.hub) is (sends w is)
    (λ n. flush_keeps Q sends most (sent_into w n))

-- ---- what a hub hears can do

settled_or_not : (Q : Hub → Type 0) (h : Hub) (id : ℕ) (words : List ℕ) (r : Option OpenPlace)
    → open_with h.first id h.open_places ≡ r → Q h
    → ((o : OpenPlace) → open_with h.first id h.open_places ≡ Some o → Q (settle h words (Some o)))
    → Q (settle h words r)
settled_or_not Q h id words None e same settled = same
settled_or_not Q h id words (Some o) e same settled = settled o e

pub reply_cases : (Q : Hub → Type 0) (h : Hub) (id : ℕ) (words : List ℕ) → Q h
    → ((o : OpenPlace) → open_with h.first id h.open_places ≡ Some o → Q (settle h words (Some o)))
    → Q (hear_reply h id words)
reply_cases Q h id words same settled =
    settled_or_not Q h id words (open_with h.first id h.open_places) refl same settled

recovered_or_not : (Q : Hub → Type 0) (h : Hub) (r : Option ℕ) → Q h → ((told : ℕ) → Q (after_recovery h (Some told)))
    → Q (after_recovery h r)
recovered_or_not Q h None same again = same
recovered_or_not Q h (Some told) same again = again told

pub status_cases : (Q : Hub → Type 0) (h : Hub) (next : ℕ) → Q h → ((told : ℕ) → Q (after_recovery h (Some told)))
    → Q (hear_status h next)
status_cases Q h next same again = either Q (nat_lt 0 h.status_requests) _ _
    (λ _. recovered_or_not Q h (told_place h next) same again) (λ _. same)

pub message_cases : (Q : Hub → Type 0) (h : Hub) (m : Option ToHub) → Q h → ((told : ℕ) → Q (after_recovery h (Some told)))
    → ((id : ℕ) (words : List ℕ) (o : OpenPlace) → open_with h.first id h.open_places ≡ Some o
    → Q (settle h words (Some o))) → Q (take_message h m)
message_cases Q h None same again settled = same
message_cases Q h (Some (StatusReply mtu buffers next)) same again settled = status_cases Q h next same again
message_cases Q h (Some (Reply id words)) same again settled = reply_cases Q h id words same (settled id words)

pub quiet_cases : (Q : Hub → Type 0) (h : Hub) → (h.status_requests < h.rounds → Q (want_status h))
    → (h.rounds ≤ h.status_requests → Q (give_up h)) → Q (hear_quiet h)
quiet_cases Q h more last = either Q (nat_lt h.status_requests h.rounds) (want_status h) (give_up h)
    (λ e. more (ltb-true _ _ e)) (λ e. last (ltb-false _ _ e))

-- ---- moves

pub ok_map : (r : Result World WorldEnd) (P Q : World → Type 0) → ((w : World) → P w → Q w) → IfOk r P → IfOk r Q
ok_map (Ok w) P Q f is = f w is
ok_map (Err e) P Q f is = tt

pub ok_is : (Q : World → Type 0) (r : Result World WorldEnd) (w : World) → r ≡ Ok w → IfOk r Q → Q w
ok_is Q r w e is = subst (λ (x : Result World WorldEnd). IfOk x Q) e is

pub taken_by : (Q : World → Type 0) (r : Result (List ℕ) WorldEnd) (hears : List ℕ → World)
    → ((bytes : List ℕ) → Q (hears bytes)) → IfOk (when_taken r hears) Q
taken_by Q (Ok bytes) hears f = f bytes
taken_by Q (Err e) hears f = tt

-- a move is an offer, a quiet receive, a message for the hub or one for the board
pub step_cases : (Q : World → Type 0) (at : ℕ) (w : World) (m : WorldMove)
    → ((tag : ℕ) (body : List ℕ) → m ≡ Offer tag body → Q (go_on w (offer w.hub (record { tag = tag; body = body }))))
    → (m ≡ Quiet → Q (go_on w (hear_quiet w.hub)))
    → ((i : ℕ) (bytes : List ℕ) → m ≡ HubHears i → Q (go_on w (take_message w.hub (to_hub bytes))))
    → ((i : ℕ) (bytes : List ℕ) → m ≡ BoardHears i → Q (board_hears w bytes))
    → IfOk (step at w m) Q
step_cases Q at w (Offer tag body) offers quiet hub board = offers tag body refl
step_cases Q at w Quiet offers quiet hub board = either (λ (r : Result World WorldEnd). IfOk r Q) (is_waiting w.hub) _ _
    (λ _. quiet refl) (λ _. tt)
step_cases Q at w (HubHears i) offers quiet hub board =
    taken_by Q (taken_datagram at (length w.hub.sent) goes.ToHub (slice_get w.air i)) (hub_hears w) (λ bytes. hub i bytes refl)
step_cases Q at w (BoardHears i) offers quiet hub board =
    taken_by Q (taken_datagram at (length w.hub.sent) goes.ToBoard (slice_get w.air i)) (board_hears w)
    (λ bytes. board i bytes refl)

run_step_by : (Q P : World → Type 0) (r : Result World WorldEnd) (later : World → Result World WorldEnd) → IfOk r Q
    → ((v : World) → Q v → IfOk (later v) P) → IfOk (moves_on r later) P
run_step_by Q P (Ok v) later is f = f v is
run_step_by Q P (Err e) later is f = tt

-- what each move keeps, and what it does, of all moves
pub run_by : (Q : World → Type 0) (R : List WorldMove → World → World → Type 0)
    → ((w : World) → R [] w w)
    → ((m : WorldMove) (ms : List WorldMove) (a b c : World) → R (m ∷ []) a b → R ms b c → R (m ∷ ms) a c)
    → ((at : ℕ) (w : World) (m : WorldMove) → IsMove m → Q w → IfOk (step at w m) (λ (v : World). Q v × R (m ∷ []) w v))
    → (at : ℕ) (w : World) (ms : List WorldMove) → AllByRecursion IsMove ms → Q w
    → IfOk (run_moves at w ms) (λ (v : World). Q v × R ms w v)
run_by Q R none more one at w [] can is = (is, none w)
run_by Q R none more one at w (m ∷ ms) can is =
    run_step_by (λ (v : World). Q v × R (m ∷ []) w v) (λ (x : World). Q x × R (m ∷ ms) w x) (step at w m)
    (λ after. run_moves (at + 1) after ms) (one at w m can.0 is)
    (λ v moved. ok_map (run_moves (at + 1) v ms) (λ (x : World). Q x × R ms v x) (λ (x : World). Q x × R (m ∷ ms) w x)
    (λ x later. (later.0, more m ms w v x moved.1 later.1)) (run_by Q R none more one (at + 1) v ms can.1 moved.0))

-- ---- what waits to be handed out changes no send

-- the hub, with this to hand out
abbrev pub with_waiting : HandedOut → Hub → Hub
with_waiting held h = record h { fates = held.fates; lates = held.lates }

abbrev pub ToldAlike : HandedOut → Option Next → Option Next → Type 0
ToldAlike held None r = r ≡ None
ToldAlike held (Some n) r = r ≡ Some (record { send = n.send; hub = with_waiting held n.hub })

first_told : (held : HandedOut) (h : Hub) (queue : List Offered)
    → ToldAlike held (first_send h queue) (first_send (with_waiting held h) queue)
first_told held h [] = refl
first_told held h (o ∷ later) =
    let next : Next = record {
      send = sends.Control (length h.sent + 1) (identifier_at h.first (length h.sent + 1));
      hub = record h {
        sent = h.sent ++ o ∷ [];
        queue = later;
        open_places = h.open_places ++ opened_place (length h.sent + 1) ∷ [];
      };
    } in
    elim (nat_le (length h.sent + 1 + 1) (h.window + low h))
    as (λ b. ToldAlike held (cond b (Some next) None) (cond b
    (Some (record { send = next.send; hub = with_waiting held next.hub })) None)) [
      | true ↦ refl
      | false ↦ refl
    ]

or_told : (held : HandedOut) (h : Hub) (r : Option Wanted)
    → ToldAlike held (wanted_or_first h r) (wanted_or_first (with_waiting held h) r)
or_told held h None = first_told held h h.queue
or_told held h (Some w) = refl

pub send_told : (held : HandedOut) (h : Hub) → ToldAlike held (next_send h) (next_send (with_waiting held h))
send_told held h =
    let next : Next = record { send = sends.Status; hub = record h { status_wanted = false } } in
    elim h.status_wanted as (λ b. ToldAlike held (cond b (Some next)
    (wanted_or_first h (first_wanted h.first h.open_places)))
    (cond b (Some (record { send = next.send; hub = with_waiting held next.hub }))
    (wanted_or_first (with_waiting held h) (first_wanted h.first h.open_places)))) [
      | true ↦ refl
      | false ↦ or_told held h (first_wanted h.first h.open_places)
    ]

told_none : (held : HandedOut) (r s : Option Next) → ToldAlike held r s → r ≡ None → s ≡ None
told_none held None s alike e = alike
told_none held (Some n) s alike e = absurd (cc)

pub send_none : (held : HandedOut) (h : Hub) → next_send h ≡ None → next_send (with_waiting held h) ≡ None
send_none held h e = told_none held (next_send h) (next_send (with_waiting held h)) (send_told held h) e

-- ---- after each move all sends are out, and all that there is is handed out

abbrev pub IsOut : World → Type 0
IsOut w = (next_send w.hub ≡ None) × IsDrained w.hub

pub go_on_out : (w : World) (h : Hub) → IsOut (go_on w h)
go_on_out w h = let sent = flush (pending h) (with_hub w h) in (
  send_none none_handed_out sent.hub (flush_sends_all (pending h) (with_hub w h) (omega arith)),
  record { fates = refl; lates = refl },
)

pub step_out : (at : ℕ) (w : World) (m : WorldMove) → IsOut w → IfOk (step at w m) IsOut
step_out at w m is = step_cases IsOut at w m
    (λ tag body _. go_on_out w (offer w.hub (record { tag = tag; body = body }))) (λ _. go_on_out w (hear_quiet w.hub))
    (λ i bytes _. go_on_out w (take_message w.hub (to_hub bytes))) (λ i bytes _. is)

pub run_out : (window rounds : ℕ) (board : Board) (air : List Datagram) (moves : List WorldMove) (w : World)
    → IsRun window rounds board air moves w → IsOut w
run_out window rounds board air moves w is =
    (subst (λ (r : Result World WorldEnd). IfOk r (λ (v : World). IsOut v × Unit {0})) is.leads.ran
    (run_by IsOut (λ _ _ _. Unit {0}) (λ _. tt) (λ _ _ _ _ _ _ _. tt)
    (λ at v m _ out. ok_map (step at v m) IsOut (λ (x : World). IsOut x × Unit {0})
    (λ x o. (o, tt)) (step_out at v m out))
    is.leads.at (start window rounds board air) moves is.leads.sendable
    (refl, record { fates = refl; lates = refl }))).0
