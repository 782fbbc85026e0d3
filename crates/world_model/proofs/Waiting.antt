-- A hub whose sends wait: an offer, a send and handing out keep what the state will be, and a move makes the next.
use Rattle.std.proofs.Common.{◌≡◌, ℕ, zero, suc, ◌+◌, ◌≤◌, Bool, true, false, cond, List, [], ◌∷◌, ◌++◌, length, map}
use Rattle.std.proofs.Common.{Option, Some, None, Result, Ok, Err, refl, sym, ap, ◌∙◌, subst, arith}
use Rattle.std.specs.Prelude.{nat_le, IfSome, IfOk}
use Rattle.std.proofs.lemmas.List.{append-nil}
use Rattle.std.specs.List.{slice_get}
use Rattle.ipb_base.proofs.AllLemmas.{AllByRecursion-append}
use Rattle.packet_ids.specs.Identifier.{identifier_at}
use Rattle.world_model.specs.declared.datagram.Datagram.{Datagram}
use Rattle.world_model.specs.declared.datagram.Direction.{Direction}
use Rattle.world_model.specs.declared.datagram.Direction.TheVariants as goes
use Rattle.world_model.specs.declared.offered.Offered.{Offered}
use Rattle.world_model.specs.declared.offered.OpenPlace.{OpenPlace}
use Rattle.world_model.specs.declared.sending.Sending.{Sending}
use Rattle.world_model.specs.declared.sending.Sending.TheVariants as sends
use Rattle.world_model.specs.declared.moves.WorldMove.{WorldMove}
use Rattle.world_model.specs.declared.moves.WorldMove.TheVariants.{Offer, Quiet, HubHears, BoardHears}
use Rattle.world_model.specs.declared.moves.WorldEnd.{WorldEnd}
use Rattle.world_model.specs.declared.moves.WorldEnd.TheVariants.{NotThere, TooOld}
use Rattle.world_model.specs.Messages.{to_hub}
use Rattle.world_model.specs.Hub.{HandedOut, and_then, none_handed_out, to_hand_out}
use Rattle.world_model.specs.Hub.{Hub, IsDrained, low, want_control, offer, take_message, hear_quiet, is_waiting}
use Rattle.world_model.specs.Sends.{Next, Wanted, after_open, first_wanted, opened_place, first_send, wanted_or_first, next_send}
use Rattle.world_model.specs.Sends.{pending, wishes, bytes_to_send}
use Rattle.world_model.specs.Air.{is_alive, goes_to}
use Rattle.world_model.specs.World.{World, sent_into, flush_on, flush, handed_out, with_hub, go_on, taken_datagram, hub_hears}
use Rattle.world_model.specs.World.{told_in, with_told, board_hears, when_taken, step, moves_on, run_moves}
use Rattle.world_model.specs.Facts.{IsSendable}
use Rattle.world_model.specs.History.{IsMove}
use Rattle.world_model.specs.Lanes.{IsState, caught_up, IsLaneState}
use Rattle.world_model.proofs.Lists.{either}
use Rattle.world_model.proofs.Flushing.{Falls, send_falls, some_falls, flush_step, flush_end, send_cases, flush_keeps}
use Rattle.world_model.proofs.Flushing.{message_cases, quiet_cases, step_cases, ok_is, with_waiting, ToldAlike}
use Rattle.world_model.proofs.Flushing.{send_told, IsOut, step_out}

-- ---- an offer, and the sends before it

-- one more body in the queue, and nothing else
abbrev pub queued : Hub → Offered → Hub
queued h o = record h { queue = h.queue ++ o ∷ [] }

-- an offer that is not the first since a give-up
offer_plain : (h : Hub) (o : Offered) → h.gave_up ≡ false → offer h o ≡ queued h o
offer_plain h o e =
    ap (λ (b : Bool). record h {
      queue = h.queue ++ o ∷ [];
      open_places = cond b (map want_control h.open_places) h.open_places;
      gave_up = false;
    }) e ∙ ap (λ (b : Bool). record h { queue = h.queue ++ o ∷ []; gave_up = b }) (sym e)

abbrev pub QueuedAlike : Hub → Offered → Option Next → Option Next → Type 0
QueuedAlike h o None r = Unit {0}
QueuedAlike h o (Some n) r = r ≡ Some (record { send = n.send; hub = queued n.hub o })

first_alike : (h : Hub) (o : Offered) (queue : List Offered)
    → QueuedAlike h o (first_send h queue) (first_send (queued h o) (queue ++ o ∷ []))
first_alike h o [] = tt
first_alike h o (x ∷ later) =
    let next : Next = record {
      send = sends.Control (length h.sent + 1) (identifier_at h.first (length h.sent + 1));
      hub = record h {
        sent = h.sent ++ x ∷ [];
        queue = later;
        open_places = h.open_places ++ opened_place (length h.sent + 1) ∷ [];
      };
    } in
    elim (nat_le (length h.sent + 1 + 1) (h.window + low h))
    as (λ b. QueuedAlike h o (cond b (Some next) None) (cond b
    (Some (record { send = next.send; hub = queued next.hub o })) None)) [
      | true ↦ refl
      | false ↦ tt
    ]

or_alike : (h : Hub) (o : Offered) (r : Option Wanted)
    → QueuedAlike h o (wanted_or_first h r) (wanted_or_first (queued h o) r)
or_alike h o None = first_alike h o h.queue
or_alike h o (Some w) = refl

send_alike : (h : Hub) (o : Offered) → QueuedAlike h o (next_send h) (next_send (queued h o))
send_alike h o =
    let next : Next = record { send = sends.Status; hub = record h { status_wanted = false } } in
    elim h.status_wanted as (λ b. QueuedAlike h o (cond b (Some next)
    (wanted_or_first h (first_wanted h.first h.open_places)))
    (cond b (Some (record { send = next.send; hub = queued next.hub o }))
    (wanted_or_first (queued h o) (first_wanted h.first h.open_places)))) [
      | true ↦ refl
      | false ↦ or_alike h o (first_wanted h.first h.open_places)
    ]

abbrev pub all_sent : World → World
all_sent w = flush (pending w.hub) w

abbrev pub with_queued : Offered → World → World
with_queued o w = with_hub w (queued w.hub o)

bytes_alike : (h : Hub) (o : Offered) (s : Sending) → bytes_to_send (queued h o) s ≡ bytes_to_send h s
bytes_alike h o sends.Status = refl
bytes_alike h o (sends.Resend id) = refl
bytes_alike h o (sends.Control place id) = refl

sent_alike : (w : World) (o : Offered) (n : Next) → sent_into (with_queued o w)
    (record { send = n.send; hub = queued n.hub o }) ≡ with_queued o (sent_into w n)
sent_alike w o n = ap (λ (bytes : List ℕ). record w {
  hub = queued n.hub o;
  air = w.air ++ record { direction = goes.ToBoard; bytes = bytes; birth = length n.hub.sent } ∷ [];
}) (bytes_alike n.hub o n.send)

later_case : (most : ℕ) (w : World) (o : Offered) (r : Option Next) → next_send w.hub ≡ r → Falls w.hub r
    → QueuedAlike w.hub o r (next_send (queued w.hub o)) → pending w.hub ≤ suc most
    → ((v : World) → pending v.hub ≤ most → all_sent (with_queued o v) ≡ all_sent (with_queued o (flush most v)))
    → all_sent (with_queued o w) ≡ all_sent (with_queued o (flush_on r (λ next. flush most (sent_into w next)) w))
later_case most w o None is falls alike few same = refl
later_case most w o (Some n) is falls alike few same =
    flush_step (with_queued o w) (record { send = n.send; hub = queued n.hub o }) alike
    ∙ (ap all_sent (sent_alike w o n) ∙ same (sent_into w n) (omega arith))

-- the sends that wait, and then an offer and its sends: or the offer first, and all sends then
queued_later : (most : ℕ) (w : World) (o : Offered) → pending w.hub ≤ most
    → all_sent (with_queued o w) ≡ all_sent (with_queued o (flush most w))
queued_later zero w o few = refl
queued_later (suc most) w o few = later_case most w o (next_send w.hub) refl (send_falls w.hub) (send_alike w.hub o) few
    (λ v h. queued_later most v o h)

-- ---- sends leave what waits and what was handed out as it is

abbrev pub told_as : HandedOut → HandedOut → World → World
told_as held told w = with_told (with_hub w (with_waiting held w.hub)) told

bytes_told : (held : HandedOut) (h : Hub) (s : Sending) → bytes_to_send (with_waiting held h) s ≡ bytes_to_send h s
bytes_told held h sends.Status = refl
bytes_told held h (sends.Resend id) = refl
bytes_told held h (sends.Control place id) = refl

sent_told : (held told : HandedOut) (w : World) (n : Next)
    → sent_into (told_as held told w) (record { send = n.send; hub = with_waiting held n.hub }) ≡ told_as held told
    (sent_into w n)
sent_told held told w n = ap (λ (bytes : List ℕ). record w {
  hub = with_waiting held n.hub;
  air = w.air ++ record { direction = goes.ToBoard; bytes = bytes; birth = length n.hub.sent } ∷ [];
  fates = told.fates;
  lates = told.lates;
}) (bytes_told held n.hub n.send)

told_case : (held told : HandedOut) (most : ℕ) (w : World) (r s : Option Next) → ToldAlike held r s
    → ((v : World) → flush most (told_as held told v) ≡ told_as held told (flush most v))
    → flush_on s (λ next. flush most (sent_into (told_as held told w) next)) (told_as held told w) ≡ told_as held told
    (flush_on r (λ next. flush most (sent_into w next)) w)
told_case held told most w None s alike later =
    ap (λ (x : Option Next). flush_on x (λ next. flush most (sent_into (told_as held told w) next))
    (told_as held told w)) alike
told_case held told most w (Some n) s alike later =
    ap (λ (x : Option Next). flush_on x (λ next. flush most (sent_into (told_as held told w) next))
    (told_as held told w)) alike
    ∙ (ap (flush most) (sent_told held told w n) ∙ later (sent_into w n))

flush_told : (held told : HandedOut) (most : ℕ) (w : World)
    → flush most (told_as held told w) ≡ told_as held told (flush most w)
flush_told held told zero w = refl
flush_told held told (suc most) w = told_case held told most w (next_send w.hub) (next_send (with_waiting held w.hub))
    (send_told held w.hub) (flush_told held told most)

told_nil : (a : HandedOut) → and_then a none_handed_out ≡ a
told_nil a = rw (append-nil a.fates, append-nil a.lates) refl

held_none : (h : Hub) → IsDrained h → to_hand_out h ≡ none_handed_out
held_none h is = rw (is.fates, is.lates) refl

-- nothing is waiting
handed_same : (w : World) → to_hand_out w.hub ≡ none_handed_out → handed_out w ≡ w
handed_same w e =
    ap (λ (t : HandedOut). told_as none_handed_out (and_then (told_in w) t) w) e
    ∙ (ap (λ (t : HandedOut). told_as none_handed_out t w) (told_nil (told_in w))
    ∙ ap (λ (t : HandedOut). told_as t (told_in w) w) (sym e))

pub flush_held : (most : ℕ) (w : World) → to_hand_out (flush most w).hub ≡ to_hand_out w.hub
flush_held most w = ap (λ (v : World). to_hand_out v.hub) (flush_told (to_hand_out w.hub) (told_in w) most w)

pub flush_told_in : (most : ℕ) (w : World) → told_in (flush most w) ≡ told_in w
flush_told_in most w = ap (λ (v : World). told_in v) (flush_told (to_hand_out w.hub) (told_in w) most w)

pub flush_told_fates : (most : ℕ) (w : World) → (flush most w).fates ≡ w.fates
flush_told_fates most w = ap (λ (t : HandedOut). t.fates) (flush_told_in most w)

-- ---- moves after moves

same_quiet : (at to : ℕ) (b : Bool) (w new : World) → cond b (Ok w) (Err (NotThere at)) ≡ Ok new
    → cond b (Ok w) (Err (NotThere to)) ≡ Ok new
same_quiet at to true w new e = e
same_quiet at to false w new e = absurd (cc)

same_alive : (at to : ℕ) (b : Bool) (bytes : List ℕ) (hears : List ℕ → World) (new : World)
    → when_taken (cond b (Ok bytes) (Err (TooOld at))) hears ≡ Ok new
    → when_taken (cond b (Ok bytes) (Err (TooOld to))) hears ≡ Ok new
same_alive at to true bytes hears new e = e
same_alive at to false bytes hears new e = absurd (cc)

same_way : (at to sent : ℕ) (b : Bool) (d : Datagram) (hears : List ℕ → World) (new : World)
    → when_taken (cond b (cond (is_alive sent d) (Ok d.bytes) (Err (TooOld at))) (Err (NotThere at))) hears ≡ Ok new
    → when_taken (cond b (cond (is_alive sent d) (Ok d.bytes) (Err (TooOld to))) (Err (NotThere to))) hears ≡ Ok new
same_way at to sent true d hears new e = same_alive at to (is_alive sent d) d.bytes hears new e
same_way at to sent false d hears new e = absurd (cc)

same_taken : (at to sent : ℕ) (hearer : Direction) (r : Option Datagram) (hears : List ℕ → World) (new : World)
    → when_taken (taken_datagram at sent hearer r) hears ≡ Ok new → when_taken (taken_datagram to sent hearer r) hears ≡ Ok new
same_taken at to sent hearer None hears new e = absurd (cc)
same_taken at to sent hearer (Some d) hears new e = same_way at to sent (goes_to hearer d.direction) d hears new e

-- what a move does, whatever its number
same_step : (at to : ℕ) (w : World) (m : WorldMove) (new : World) → step at w m ≡ Ok new → step to w m ≡ Ok new
same_step at to w (Offer tag body) new e = e
same_step at to w Quiet new e = same_quiet at to (is_waiting w.hub) (go_on w (hear_quiet w.hub)) new e
same_step at to w (HubHears i) new e = same_taken at to (length w.hub.sent) goes.ToHub (slice_get w.air i)
    (hub_hears w) new e
same_step at to w (BoardHears i) new e = same_taken at to (length w.hub.sent) goes.ToBoard (slice_get w.air i)
    (board_hears w) new e

push_later : (r : Result World WorldEnd) (one two : World → Result World WorldEnd) (w new : World)
    → moves_on r one ≡ Ok w → ((v : World) → one v ≡ Ok w → two v ≡ Ok new) → moves_on r two ≡ Ok new
push_later (Ok v) one two w new e f = f v e
push_later (Err x) one two w new e f = absurd (cc)

-- one more move
run_push : (at number : ℕ) (begin : World) (ms : List WorldMove) (m : WorldMove) (w new : World)
    → run_moves at begin ms ≡ Ok w → step number w m ≡ Ok new → run_moves at begin (ms ++ m ∷ []) ≡ Ok new
run_push at number begin [] m w new ran e =
    let same : begin ≡ w = cc in
    ap (λ (r : Result World WorldEnd). moves_on r (λ after. Ok after))
    (ap (λ (v : World). step at v m) same ∙ same_step number at w m new e)
run_push at number begin (x ∷ xs) m w new ran e =
    push_later (step at begin x) (λ after. run_moves (at + 1) after xs)
    (λ after. run_moves (at + 1) after (xs ++ m ∷ [])) w new ran
    (λ v later. run_push (at + 1) number v xs m w new later e)

-- a state of a run after a move that leads there
moved_on : (begin w new : World) (number : ℕ) (m : WorldMove) → IsMove m → IsState begin w → step number w m ≡ Ok new
    → IsState begin new
moved_on begin w new number m can is e = record {
  moves = is.moves ++ m ∷ [];
  sendable = AllByRecursion-append IsMove is.moves (m ∷ []) is.sendable (can, tt);
  ran = run_push 0 number begin is.moves m w new is.ran e;
}

-- ---- nothing waits

caught_up_same : (w : World) → next_send w.hub ≡ None → to_hand_out w.hub ≡ none_handed_out → caught_up w ≡ w
caught_up_same w none told = ap handed_out (flush_end w none) ∙ handed_same w told

nothing_pends : (w : World) → pending w.hub ≡ 0 → to_hand_out w.hub ≡ none_handed_out → caught_up w ≡ w
nothing_pends w none told = ap (λ (most : ℕ). handed_out (flush most w)) none ∙ handed_same w told

-- ---- the clauses

gave_up_kept : (most : ℕ) (w : World) (b : Bool) → w.hub.gave_up ≡ b → (flush most w).hub.gave_up ≡ b
gave_up_kept most w b e =
    let Q : World → Type 0 = λ (v : World). v.hub.gave_up ≡ b in
    flush_keeps Q (λ v is. send_cases (λ (n : Next). Q (sent_into v n)) v.hub is (λ _ _. is) (λ _ _ _ _. is)) most w e

pub offered_same : (w : World) (o : Offered) (b : Bool) → w.hub.gave_up ≡ b → (w.hub.gave_up ≡ true → pending w.hub ≡ 0)
    → IsDrained w.hub
    → go_on (caught_up w) (offer (caught_up w).hub o) ≡ caught_up (with_hub w (offer w.hub o))
offered_same w o true e given_up told = ap (λ (v : World). go_on v (offer v.hub o))
    (nothing_pends w (given_up e) (held_none w.hub told))
offered_same w o false e given_up told =
    let v = all_sent w in
    ap (λ (x : World). go_on x (offer x.hub o)) (handed_same v (flush_held (pending w.hub) w ∙ held_none w.hub told))
    ∙ (ap (go_on v) (offer_plain v.hub o (gave_up_kept (pending w.hub) w false e))
    ∙ (ap handed_out (sym (queued_later (pending w.hub) w o (omega arith)))
    ∙ ap (go_on w) (sym (offer_plain w.hub o e))))

pub offered_waits : (begin w : World) (o : Offered) → IsSendable o.body → IsLaneState begin w → IsDrained w.hub
    → IsLaneState begin (with_hub w (offer w.hub o))
offered_waits begin w o can is told = record {
  given_up = λ e. absurd (cc);
  state = moved_on begin (caught_up w) (caught_up (with_hub w (offer w.hub o))) 0 (Offer o.tag o.body) can is.state
      (ap (λ (v : World). Ok v) (offered_same w o w.hub.gave_up refl is.given_up told));
}

abbrev pub KeepsGivenUp : Hub → Next → Type 0
KeepsGivenUp h n = n.hub.gave_up ≡ h.gave_up

some_of : (Q : Next → Type 0) (r : Option Next) (n : Next) → r ≡ Some n → IfSome r Q → Q n
some_of Q r n e is = subst (λ (x : Option Next). IfSome x Q) e is

pub sent_waits : (begin w : World) (n : Next) → IsLaneState begin w → next_send w.hub ≡ Some n
    → IsLaneState begin (sent_into w n)
sent_waits begin w n is e =
    let kept : n.hub.gave_up ≡ w.hub.gave_up = some_of (KeepsGivenUp w.hub) (next_send w.hub) n e
    (send_cases (KeepsGivenUp w.hub) w.hub refl (λ _ _. refl) (λ _ _ _ _. refl)) in
    record {
      given_up = λ g. absurd (let none = is.given_up (sym kept ∙ g) in let falls = some_falls w.hub n e in omega arith);
      state = subst (IsState begin) (ap handed_out (flush_step w n e)) is.state;
    }

caught_up_handed : (w : World) → caught_up (handed_out w) ≡ caught_up w
caught_up_handed w =
    let v = all_sent w in
    let told = and_then (told_in w) (to_hand_out w.hub) in
    let same : and_then (told_in v) (to_hand_out v.hub) ≡ told =
    ap (λ (t : HandedOut). and_then t (to_hand_out v.hub)) (flush_told_in (pending w.hub) w)
    ∙ ap (λ (t : HandedOut). and_then (told_in w) t) (flush_held (pending w.hub) w) in
    ap handed_out (flush_told none_handed_out told (pending w.hub) w) ∙ ap
    (λ (t : HandedOut). told_as none_handed_out t v) (told_nil told ∙ sym same)

pub fates_wait : (begin w : World) → IsLaneState begin w → IsLaneState begin (handed_out w)
fates_wait begin w is = record {
  given_up = is.given_up;
  state = subst (IsState begin) (sym (caught_up_handed w)) is.state;
}

-- ---- after a give-up and all sends, nothing is pending

abbrev pub NoWish : List OpenPlace → Option Wanted → Type 0
NoWish os None = wishes os ≡ 0
NoWish os (Some w) = Unit {0}

no_wish_later : (o : OpenPlace) (os : List OpenPlace) (r : Option Wanted) → o.resend ≡ false → o.control ≡ false
    → NoWish os r → NoWish (o ∷ os) (after_open o r)
no_wish_later o os None a b f = rw (a, b) (omega arith)
no_wish_later o os (Some w) a b f = tt

no_wish : (first : ℕ) (os : List OpenPlace) → NoWish os (first_wanted first os)
no_wish first [] = refl
no_wish first (o ∷ os) = either (NoWish (o ∷ os)) o.resend _ _ (λ _. tt)
    (λ a. either (NoWish (o ∷ os)) o.control _ _ (λ _. tt) (λ b. no_wish_later o os _ a b (no_wish first os)))

none_by_wish : (h : Hub) (r : Option Wanted) → wanted_or_first h r ≡ None → NoWish h.open_places r
    → wishes h.open_places ≡ 0
none_by_wish h None e f = f
none_by_wish h (Some w) e f = absurd (cc)

none_by_status : (h : Hub) (b : Bool) (n : Next) → cond b (Some n) (wanted_or_first h (first_wanted h.first h.open_places))
    ≡ None → length h.queue ≡ 0 → cond b 1 0 + wishes h.open_places + length h.queue ≡ 0
none_by_status h true n e few = absurd (cc)
none_by_status h false n e few = let none = none_by_wish h (first_wanted h.first h.open_places) e
    (no_wish h.first h.open_places) in omega arith

none_pending : (h : Hub) → next_send h ≡ None → length h.queue ≡ 0 → pending h ≡ 0
none_pending h e few = none_by_status h h.status_wanted _ e few

abbrev pub EmptyOnceGivenUp : Hub → Type 0
EmptyOnceGivenUp h = h.gave_up ≡ true → length h.queue ≡ 0

go_on_empty : (w : World) (h : Hub) → EmptyOnceGivenUp h → EmptyOnceGivenUp (go_on w h).hub
go_on_empty w h is =
    let Q : World → Type 0 = λ (v : World). EmptyOnceGivenUp v.hub in
    flush_keeps Q (λ v empty. send_cases (λ (n : Next). Q (sent_into v n)) v.hub empty (λ _ _. empty)
    (λ o later e room g. absurd (let none = empty g in let some = ap
    (λ (xs : List Offered). length xs) e in omega arith))) (pending h) (with_hub w h) is

step_empty : (at : ℕ) (w : World) (m : WorldMove) → EmptyOnceGivenUp w.hub
    → IfOk (step at w m) (λ (v : World). EmptyOnceGivenUp v.hub)
step_empty at w m is = step_cases (λ (v : World). EmptyOnceGivenUp v.hub) at w m
    (λ tag body _. go_on_empty w (offer w.hub (record { tag = tag; body = body })) (λ g. absurd (cc)))
    (λ _. go_on_empty w (hear_quiet w.hub) (quiet_cases EmptyOnceGivenUp w.hub (λ _. is) (λ _ _. refl)))
    (λ i bytes _. go_on_empty w (take_message w.hub (to_hub bytes))
    (message_cases EmptyOnceGivenUp w.hub (to_hub bytes) is (λ _. is) (λ _ _ _ _. is)))
    (λ i bytes _. is)

pub moved_waits : (begin w new : World) (at : ℕ) (m : WorldMove) → IsMove m → IsLaneState begin w
    → next_send w.hub ≡ None → IsDrained w.hub → step at w m ≡ Ok new → IsLaneState begin new
moved_waits begin w new at m can is none told e =
    let out = ok_is IsOut (step at w m) new e (step_out at w m (none, told)) in
    let empty = ok_is (λ (v : World). EmptyOnceGivenUp v.hub) (step at w m) new e
    (step_empty at w m (λ g. let few = is.given_up g in omega arith)) in
    record {
      given_up = λ g. none_pending new.hub out.0 (empty g);
      state = subst (IsState begin) (sym (caught_up_same new out.0 (held_none new.hub out.1)))
          (moved_on begin w new at m can (subst (IsState begin) (caught_up_same w none (held_none w.hub told))
          is.state) e);
    }
