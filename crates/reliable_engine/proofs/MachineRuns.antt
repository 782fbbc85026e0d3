-- A run is a list of an engine's events, and what holds at every moment of it.
use Rattle.std.proofs.Common.{◌≡◌, ℕ, ◌≤◌, List, [], ◌∷◌, ◌++◌, length, map, Option, Some, None, refl, sym, ap, ◌∙◌}
use Rattle.std.proofs.Common.{subst, inl, inr, arith, append_assoc}
use Rattle.std.proofs.lemmas.List.{append-nil}
use Rattle.ipb_base.proofs.AllLemmas.{AllByRecursion-append}
use Rattle.packet_ids.specs.Identifier.{IsIdentifier}
use Rattle.world_model.specs.declared.offered.Offered.{Offered}
use Rattle.world_model.specs.declared.offered.Fate.{Fate}
use Rattle.world_model.specs.Messages.{ToHub, StatusReply, to_hub}
use Rattle.world_model.specs.Messages as messages
use Rattle.world_model.specs.Hub.{Hub, hear_quiet, new_hub, offer, take_message}
use Rattle.world_model.specs.History.{tag_of_offered}
use Rattle.world_model.specs.Sends.{Next, bytes_to_send, next_send}
use Rattle.world_model.specs.Facts.{AreSendable, IsSendable}
use Rattle.world_model.proofs.Flushing.{message_cases, quiet_cases}
use Rattle.reliable_engine.specs.Answers.{hub_next}
use Rattle.reliable_engine.specs.Events.{HubEvent, after_events, handouts}
use Rattle.reliable_engine.specs.MachineRuns.{IsFreshRun, IsMachineRun, MayAllCome, MayCome, RunEvent, Offer, Send, Heard}
use Rattle.reliable_engine.specs.MachineRuns.{Quiet, engine_events, offers_in, passed_in, run_event, run_events, told_by}
use Rattle.reliable_engine.specs.MachineRuns.{passed_next, traffic_of}
use Rattle.reliable_engine.specs.ToldFates.{IsAccounted, StandsIn, all_fates, offered_tags}
use Rattle.reliable_engine.specs.Traffic as passed
use Rattle.reliable_engine.specs.Traffic.{Passed}
use Rattle.reliable_engine.proofs.AllFates.{none_handed, stands_before, stands_same, stands_trans}
use Rattle.reliable_engine.proofs.Cases.{after_send}
use Rattle.reliable_engine.proofs.Runs.{IsHub, new_is_hub, same_first, stays_hub}
use Rattle.reliable_engine.proofs.TagAccounts.{accounted}

-- ---- the events of an engine

told_as : (h : Hub) (m : Option ToHub) (events : List HubEvent)
    → after_events (take_message h m) events ≡ after_events h (told_by m ++ events)
told_as h None events = refl
told_as h (Some (StatusReply mtu buffers next)) events = refl
told_as h (Some (messages.Reply id words)) events = refl

pub run_is : (h : Hub) (events : List RunEvent) → run_events h events ≡ after_events h (engine_events events)
run_is h [] = refl
run_is h (Offer tag body ∷ events) = run_is (offer h (record { tag = tag; body = body })) events
run_is h (Send ∷ events) = run_is (hub_next h (next_send h)) events
run_is h (Heard bytes ∷ events) =
    run_is (take_message h (to_hub bytes)) events ∙ told_as h (to_hub bytes) (engine_events events)
run_is h (Quiet ∷ events) = run_is (hear_quiet h) events

told_hands_none : (m : Option ToHub) (events : List HubEvent) → handouts (told_by m ++ events) ≡ handouts events
told_hands_none None events = refl
told_hands_none (Some (StatusReply mtu buffers next)) events = refl
told_hands_none (Some (messages.Reply id words)) events = refl

pub hands_none : (events : List RunEvent) → handouts (engine_events events) ≡ 0
hands_none [] = refl
hands_none (Offer tag body ∷ events) = hands_none events
hands_none (Send ∷ events) = hands_none events
hands_none (Heard bytes ∷ events) = told_hands_none (to_hub bytes) (engine_events events) ∙ hands_none events
hands_none (Quiet ∷ events) = hands_none events

-- so all fates wait
pub all_wait : (h : Hub) (events : List RunEvent) → all_fates h (engine_events events) ≡ (run_events h events).fates
all_wait h events =
    ap (λ (xs : List (ℕ × Fate)). xs ++ (after_events h (engine_events events)).fates)
    (none_handed h (engine_events events) (hands_none events))
    ∙ ap (λ (x : Hub). x.fates) (sym (run_is h events))

told_offers_none : (m : Option ToHub) (events : List HubEvent) → offered_tags (told_by m ++ events) ≡ offered_tags events
told_offers_none None events = refl
told_offers_none (Some (StatusReply mtu buffers next)) events = refl
told_offers_none (Some (messages.Reply id words)) events = refl

pub tags_are : (events : List RunEvent) → offered_tags (engine_events events) ≡ map tag_of_offered (offers_in events)
tags_are [] = refl
tags_are (Offer tag body ∷ events) = ap (λ (tags : List ℕ). tag ∷ tags) (tags_are events)
tags_are (Send ∷ events) = tags_are events
tags_are (Heard bytes ∷ events) = told_offers_none (to_hub bytes) (engine_events events) ∙ tags_are events
tags_are (Quiet ∷ events) = tags_are events

pub run_accounted : (first window rounds : ℕ) (events : List RunEvent) (tag : ℕ)
    → IsAccounted (run_events (new_hub first window rounds) events)
    (run_events (new_hub first window rounds) events).fates (map tag_of_offered (offers_in events)) tag
run_accounted first window rounds events tag =
    let start = new_hub first window rounds in
    rw (run_is start events, sym (tags_are events)) (
    subst (λ (fates : List (ℕ × Fate)). IsAccounted (after_events start (engine_events events)) fates
    (offered_tags (engine_events events)) tag)
    (all_wait start events ∙ ap (λ (x : Hub). x.fates) (run_is start events))
    (accounted first window rounds (engine_events events) tag))

-- ---- what holds at every moment

abbrev pub AreBothSendable : Hub → Type 0
AreBothSendable h = AreSendable h.sent × AreSendable h.queue

pub record IsAtWork (h : Hub) : Type 0 where
  pub window : IsHub h
  pub identifier : IsIdentifier h.first
  pub sendable : AreBothSendable h

both_sendable : (h : Hub) (event : RunEvent) → AreSendable (offers_in (event ∷ [])) → AreBothSendable h
    → AreBothSendable (run_event h event)
both_sendable h (Offer tag body) can is =
    (is.0, AllByRecursion-append (λ (x : Offered). IsSendable x.body) h.queue _ is.1 can)
both_sendable h Send can is = after_send AreBothSendable h is is (λ w e. is) (λ x later e room.
    let parts : AreSendable (x ∷ later) = subst AreSendable e is.1 in
    (AllByRecursion-append (λ (o : Offered). IsSendable o.body) h.sent (x ∷ []) is.0 (parts.0, tt), parts.1))
both_sendable h (Heard bytes) can is = message_cases AreBothSendable h (to_hub bytes) is (λ _. is) (λ id words o e. is)
both_sendable h Quiet can is = quiet_cases AreBothSendable h (λ _. is) (λ _. (is.0, tt))

pub first_stays : (h : Hub) (events : List RunEvent) → (run_events h events).first ≡ h.first
first_stays h events = ap (λ (x : Hub). x.first) (run_is h events) ∙ same_first h (engine_events events)

pub works_on : (h : Hub) (event : RunEvent) → AreSendable (offers_in (event ∷ [])) → IsAtWork h
    → IsAtWork (run_event h event)
works_on h event can is = record {
  window = subst IsHub (sym (run_is h (event ∷ []))) (stays_hub h (engine_events (event ∷ [])) is.window);
  identifier = subst IsIdentifier (sym (first_stays h (event ∷ []))) is.identifier;
  sendable = both_sendable h event can is.sendable;
}

-- the offers of one event, and of those after it
pub offers_cons : (event : RunEvent) (events : List RunEvent) → AreSendable (offers_in (event ∷ events))
    → AreSendable (offers_in (event ∷ [])) × AreSendable (offers_in events)
offers_cons (Offer tag body) events can = ((can.0, tt), can.1)
offers_cons Send events can = (tt, can)
offers_cons (Heard bytes) events can = (tt, can)
offers_cons Quiet events can = (tt, can)

pub stays_at_work : (h : Hub) (events : List RunEvent) → AreSendable (offers_in events) → IsAtWork h
    → IsAtWork (run_events h events)
stays_at_work h [] can is = is
stays_at_work h (event ∷ events) can is =
    let parts = offers_cons event events can in
    stays_at_work (run_event h event) events parts.1 (works_on h event parts.0 is)

pub begins_at_work : (first window rounds : ℕ) (events : List RunEvent) → IsFreshRun first window events
    → IsAtWork (new_hub first window rounds)
begins_at_work first window rounds events is = record {
  window = new_is_hub first window rounds is.window_in_range is.some_window;
  identifier = is.identifier;
  sendable = (tt, tt);
}

-- ---- the bodies that are sent are offered ones

stands_further : {T : Type 0} (front xs : List T) → StandsIn xs (front ++ xs)
stands_further [] xs = stands_same xs
stands_further (f ∷ front) [] = tt
stands_further (f ∷ front) (x ∷ xs) = inr (stands_further front (x ∷ xs))

stands_on : {T : Type 0} (xs ys more : List T) → StandsIn xs ys → StandsIn (xs ++ more) (ys ++ more)
stands_on [] ys more is = stands_further ys more
stands_on (x ∷ xs) [] more is = absurd is
stands_on (x ∷ xs) (y ∷ ys) more (inl is) = inl (is.0, stands_on xs ys more is.1)
stands_on (x ∷ xs) (y ∷ ys) more (inr is) = inr (stands_on (x ∷ xs) ys more is)

abbrev pub bodies_in : Hub → List Offered
bodies_in h = h.sent ++ h.queue

event_bodies : (h : Hub) (event : RunEvent) → StandsIn (bodies_in (run_event h event)) (bodies_in h ++ offers_in (event ∷ []))
event_bodies h (Offer tag body) =
    let x : Offered = record { tag = tag; body = body } in
    subst (λ (xs : List Offered). StandsIn xs ((h.sent ++ h.queue) ++ x ∷ [])) (append_assoc h.sent h.queue (x ∷ []))
    (stands_same ((h.sent ++ h.queue) ++ x ∷ []))
event_bodies h Send =
    rw (append-nil (h.sent ++ h.queue)) (
    after_send (λ (x : Hub). StandsIn (bodies_in x) (bodies_in h)) h (stands_same (bodies_in h))
    (stands_same (bodies_in h)) (λ w e. stands_same (bodies_in h))
    (λ x later e room.
    let same : (h.sent ++ x ∷ []) ++ later ≡ h.sent ++ h.queue =
    append_assoc h.sent (x ∷ []) later ∙ ap (λ (q : List Offered). h.sent ++ q) (sym e) in
    subst (λ (xs : List Offered). StandsIn xs (h.sent ++ h.queue)) (sym same) (stands_same (h.sent ++ h.queue))))
event_bodies h (Heard bytes) =
    rw (append-nil (h.sent ++ h.queue)) (
    message_cases (λ (x : Hub). StandsIn (bodies_in x) (bodies_in h)) h (to_hub bytes) (stands_same (bodies_in h))
    (λ _. stands_same (bodies_in h)) (λ id words o e. stands_same (bodies_in h)))
event_bodies h Quiet =
    rw (append-nil (h.sent ++ h.queue)) (
    quiet_cases (λ (x : Hub). StandsIn (bodies_in x) (bodies_in h)) h (λ _. stands_same (bodies_in h))
    (λ _. subst (λ (xs : List Offered). StandsIn xs (h.sent ++ h.queue)) (sym (append-nil h.sent))
    (stands_before h.sent h.queue)))

offers_split : (event : RunEvent) (events : List RunEvent)
    → offers_in (event ∷ []) ++ offers_in events ≡ offers_in (event ∷ events)
offers_split (Offer tag body) events = refl
offers_split Send events = refl
offers_split (Heard bytes) events = refl
offers_split Quiet events = refl

run_bodies : (h : Hub) (events : List RunEvent) → StandsIn (bodies_in (run_events h events)) (bodies_in h ++ offers_in events)
run_bodies h [] = rw (append-nil (bodies_in h)) (stands_same (bodies_in h))
run_bodies h (event ∷ events) =
    let after = run_event h event in
    let all : (bodies_in h ++ offers_in (event ∷ [])) ++ offers_in events ≡ bodies_in h ++ offers_in (event ∷ events) =
    append_assoc (bodies_in h) (offers_in (event ∷ [])) (offers_in events)
    ∙ ap (λ (xs : List Offered). bodies_in h ++ xs) (offers_split event events) in
    stands_trans _ _ _ (run_bodies after events)
    (subst (StandsIn (bodies_in after ++ offers_in events)) all
    (stands_on (bodies_in after) (bodies_in h ++ offers_in (event ∷ [])) (offers_in events) (event_bodies h event)))

pub sent_are_offered : (first window rounds : ℕ) (events : List RunEvent)
    → StandsIn (run_events (new_hub first window rounds) events).sent (offers_in events)
sent_are_offered first window rounds events =
    let end = run_events (new_hub first window rounds) events in
    stands_trans end.sent (bodies_in end) (offers_in events) (stands_before end.sent end.queue)
    (run_bodies (new_hub first window rounds) events)

-- ---- one event more

run_more : (h : Hub) (events more : List RunEvent) → run_events h (events ++ more) ≡ run_events (run_events h events) more
run_more h [] more = refl
run_more h (event ∷ events) more = run_more (run_event h event) events more

traffic_more : (h : Hub) (events more : List RunEvent)
    → traffic_of h (events ++ more) ≡ traffic_of h events ++ traffic_of (run_events h events) more
traffic_more h [] more = refl
traffic_more h (event ∷ events) more =
    ap (λ (xs : List Passed). passed_in h event ++ xs) (traffic_more (run_event h event) events more)
    ∙ sym (append_assoc (passed_in h event) (traffic_of (run_event h event) events)
    (traffic_of (run_events (run_event h event) events) more))

may_come_more : (h : Hub) (events : List RunEvent) (event : RunEvent) → MayAllCome h events
    → MayCome (run_events h events) event → MayAllCome h (events ++ event ∷ [])
may_come_more h [] event all may = (may, tt)
may_come_more h (first ∷ events) event all may = (all.0, may_come_more (run_event h first) events event all.1 may)

pub one_more_event : (h : Hub) (events : List RunEvent) (traffic : List Passed) (end : Hub) (fates : List (ℕ × Fate))
    (event : RunEvent) → IsMachineRun h events traffic end fates → MayCome end event
    → IsMachineRun h (events ++ event ∷ []) (traffic ++ passed_in end event) (run_event end event) (run_event end event).fates
one_more_event h events traffic end fates event is may = record {
  may_come = may_come_more h events event is.may_come (subst (λ (x : Hub). MayCome x event) (sym is.end_is) may);
  traffic_is = traffic_more h events (event ∷ [])
      ∙ (ap (λ (xs : List Passed). xs ++ traffic_of (run_events h events) (event ∷ [])) is.traffic_is
      ∙ ap (λ (x : Hub). traffic ++ traffic_of x (event ∷ [])) is.end_is
      ∙ ap (λ (xs : List Passed). traffic ++ xs) (append-nil (passed_in end event)));
  end_is = run_more h events (event ∷ []) ∙ ap (λ (x : Hub). run_event x event) is.end_is;
  fates_are = refl;
}

-- the send that a hub has
pub one_more_send : (h end : Hub) (events : List RunEvent) (traffic : List Passed) (fates : List (ℕ × Fate)) (next : Next)
    → IsMachineRun h events traffic end fates → next_send end ≡ Some next
    → IsMachineRun h (events ++ Send ∷ []) (traffic ++ passed.Sent (bytes_to_send next.hub next.send) ∷ []) next.hub
    next.hub.fates
one_more_send h end events traffic fates next is e =
    subst (λ (r : Option Next). IsMachineRun h (events ++ Send ∷ []) (traffic ++ passed_next r) (hub_next end r)
    (hub_next end r).fates) e (one_more_event h events traffic end fates Send is (next, e))

-- what stands in a list is no longer
pub stands_short : {T : Type 0} (xs ys : List T) → StandsIn xs ys → length xs ≤ length ys
stands_short [] ys is = omega arith
stands_short (x ∷ xs) [] is = absurd is
stands_short (x ∷ xs) (y ∷ ys) (inl is) = omega (arith, stands_short xs ys is.1)
stands_short (x ∷ xs) (y ∷ ys) (inr is) = omega (arith, stands_short (x ∷ xs) ys is)
