-- Late answers: told once, by place, of bodies that were timed out, and never changed.
use Rattle.std.proofs.Common.{◌≡◌, ℕ, ◌≤◌, List, [], ◌∷◌, ◌++◌, drop, take, Some, refl, sym, ap, ◌∙◌, subst, inl, inr}
use Rattle.std.proofs.Common.{append_assoc, arith}
use Rattle.std.specs.Prelude.{nat_lt}
use Rattle.std.proofs.lemmas.Bool.{ltb-false, ltb-true}
use Rattle.std.proofs.lemmas.List.{append-nil, take-append-drop}
use Rattle.ipb_base.specs.Lists.{IsPrefix}
use Rattle.world_model.specs.Hub.{Hub, HandedOut, and_then, insert_late, new_hub, none_handed_out}
use Rattle.world_model.specs.Messages as messages
use Rattle.world_model.specs.Sends.{next_send}
use Rattle.world_model.specs.LateAnswers.{AreOfTimedOut}
use Rattle.world_model.proofs.Lists.{either}
use Rattle.world_model.proofs.LateAnswers.{handed_keeps_late, message_keeps_late, none_late, offer_keeps_late}
use Rattle.world_model.proofs.LateAnswers.{quiet_keeps_late, sends_keeps_late}
use Rattle.reliable_engine.specs.Events.{HubEvent, Offer, Status, Reply, Quiet, Send, HandOut, HandOutLate}
use Rattle.reliable_engine.specs.Events.{after_event, after_events}
use Rattle.reliable_engine.specs.ToldFates.{StandsIn}
use Rattle.reliable_engine.specs.ToldLates.{AreLatesByPlace, all_lates, handed_out_by, late_handed, lates_handed_out}
use Rattle.reliable_engine.proofs.AllFates.{stands_behind, stands_same, stands_trans}
use Rattle.reliable_engine.proofs.Cases.{after_is, handed_by, next_is}

-- ---- they stand in the list of all of them, in order, from when they are told on

insert_stands : (new : ℕ × List ℕ) (lates : List (ℕ × List ℕ)) → StandsIn lates (insert_late new lates)
insert_stands new [] = tt
insert_stands new (l ∷ ls) =
    either (StandsIn (l ∷ ls)) (nat_lt new.0 l.0) (new ∷ l ∷ ls) (l ∷ insert_late new ls)
    (λ _. inr (stands_same (l ∷ ls)))
    (λ _. inl (refl, insert_stands new ls))

event_stands : (h : Hub) (event : HubEvent) → StandsIn h.lates (late_handed h event ++ (after_event h event).lates)
event_stands h event = after_is (λ now after. StandsIn h.lates (now.lates ++ after.lates)) h (record {
  offered = λ x. stands_same h.lates;
  same = stands_same h.lates;
  told = λ place. stands_same h.lates;
  settled = λ id words o e. either (StandsIn h.lates) o.waited h.lates (insert_late (o.place, words) h.lates)
      (λ _. stands_same h.lates) (λ _. insert_stands (o.place, words) h.lates);
  wants_status = stands_same h.lates;
  gives_up = stands_same h.lates;
  asked = stands_same h.lates;
  wished = λ w e. stands_same h.lates;
  sent_first = λ x later e room. stands_same h.lates;
  handed = stands_same h.lates;
  late_handed = subst (StandsIn h.lates) (sym (take-append-drop 1 h.lates)) (stands_same h.lates);
}) event

-- the late answers of one event and of those after it
all_cons : (h : Hub) (event : HubEvent) (events : List HubEvent)
    → all_lates h (event ∷ events) ≡ late_handed h event ++ all_lates (after_event h event) events
all_cons h event events = append_assoc (late_handed h event) (lates_handed_out (after_event h event) events)
    (after_events (after_event h event) events).lates

waiting_stand : (h : Hub) (events : List HubEvent) → StandsIn h.lates (all_lates h events)
waiting_stand h [] = stands_same h.lates
waiting_stand h (event ∷ events) =
    let after = after_event h event in
    rw (all_cons h event events) (stands_trans h.lates (late_handed h event ++ after.lates) _ (event_stands h event)
    (stands_behind (late_handed h event) after.lates (all_lates after events) (waiting_stand after events)))

pub lates_stand : (h : Hub) (events more : List HubEvent) → StandsIn (all_lates h events) (all_lates h (events ++ more))
lates_stand h [] more = waiting_stand h more
lates_stand h (event ∷ events) more =
    let after = after_event h event in
    rw (all_cons h event events, all_cons h event (events ++ more))
    (stands_behind (late_handed h event) (all_lates after events) (all_lates after (events ++ more))
    (lates_stand after events more))

pub lates_first : (h : Hub) (events more : List HubEvent)
    → IsPrefix (lates_handed_out h events) (lates_handed_out h (events ++ more))
lates_first h [] more = (lates_handed_out h more, refl)
lates_first h (event ∷ events) more =
    let later = lates_first (after_event h event) events more in (
      later.0,
      ap (λ (lates : List (ℕ × List ℕ)). late_handed h event ++ lates) later.1
          ∙ sym (append_assoc (late_handed h event) (lates_handed_out (after_event h event) events) later.0),
    )

-- ---- they wait by place

inserted : (from : ℕ) (new : ℕ × List ℕ) (lates : List (ℕ × List ℕ)) → from ≤ new.0 → AreLatesByPlace from lates
    → AreLatesByPlace from (insert_late new lates)
inserted from new [] up all = (up, tt)
inserted from new (l ∷ ls) up all = either (AreLatesByPlace from) (nat_lt new.0 l.0) _ _
    (λ e. (up, (let below = ltb-true new.0 l.0 e in omega arith, all.1)))
    (λ e. (all.0, inserted l.0 new ls (ltb-false new.0 l.0 e) all.1))

without_first : (lates : List (ℕ × List ℕ)) → AreLatesByPlace 0 lates → AreLatesByPlace 0 (drop 1 lates)
without_first [] all = tt
without_first (l ∷ []) all = tt
without_first (l ∷ m ∷ ls) all = (omega arith, all.1.1)

event_by_place : (h : Hub) (event : HubEvent) → AreLatesByPlace 0 h.lates
    → AreLatesByPlace 0 (after_event h event).lates
event_by_place h event all = after_is (λ _ after. AreLatesByPlace 0 after.lates) h (record {
  offered = λ _. all;
  same = all;
  told = λ _. all;
  settled = λ id words o told. either (AreLatesByPlace 0) o.waited h.lates (insert_late (o.place, words) h.lates)
      (λ _. all) (λ _. inserted 0 (o.place, words) h.lates (omega arith) all);
  wants_status = all;
  gives_up = all;
  asked = all;
  wished = λ _ _. all;
  sent_first = λ _ _ _ _. all;
  handed = all;
  late_handed = without_first h.lates all;
}) event

pub lates_by_place : (h : Hub) (events : List HubEvent) → AreLatesByPlace 0 h.lates
    → AreLatesByPlace 0 (after_events h events).lates
lates_by_place h [] all = all
lates_by_place h (event ∷ events) all = lates_by_place (after_event h event) events (event_by_place h event all)

-- ---- they are of bodies that were timed out, and come once

none_more : (before : HandedOut) → and_then before none_handed_out ≡ before
none_more before = rw (append-nil before.fates, append-nil before.lates) refl

same_told : (before : HandedOut) (h : Hub) → AreOfTimedOut before h
    → AreOfTimedOut (and_then before none_handed_out) h
same_told before h is = subst (λ (told : HandedOut). AreOfTimedOut told h) (sym (none_more before)) is

event_keeps : (before : HandedOut) (h : Hub) (event : HubEvent) → AreOfTimedOut before h
    → AreOfTimedOut (and_then before (handed_by h event)) (after_event h event)
event_keeps before h (Offer x) is = same_told before _ (offer_keeps_late before h x is)
event_keeps before h (Status next) is =
    same_told before _ (message_keeps_late before h (Some (messages.StatusReply 0 0 next)) is)
event_keeps before h (Reply id words) is =
    same_told before _ (message_keeps_late before h (Some (messages.Reply id words)) is)
event_keeps before h Quiet is = same_told before _ (quiet_keeps_late before h is)
event_keeps before h Send is =
    same_told before _ (next_is (AreOfTimedOut before) h (next_send h) is (sends_keeps_late before h is))
event_keeps before h HandOut is = handed_keeps_late before (record { fates = take 1 h.fates; lates = [] })
    (record { fates = drop 1 h.fates; lates = h.lates }) h (take-append-drop 1 h.fates) refl is
event_keeps before h HandOutLate is = handed_keeps_late before (record { fates = []; lates = take 1 h.lates })
    (record { fates = h.fates; lates = drop 1 h.lates }) h refl (take-append-drop 1 h.lates) is

then_again : (before one more : HandedOut) → and_then (and_then before one) more ≡ and_then before (and_then one more)
then_again before one more =
    rw (append_assoc before.fates one.fates more.fates, append_assoc before.lates one.lates more.lates) refl

events_keep : (before : HandedOut) (h : Hub) (events : List HubEvent) → AreOfTimedOut before h
    → AreOfTimedOut (and_then before (handed_out_by h events)) (after_events h events)
events_keep before h [] is = same_told before h is
events_keep before h (event ∷ events) is =
    let after = after_event h event in
    subst (λ (told : HandedOut). AreOfTimedOut told (after_events after events))
    (then_again before (handed_by h event) (handed_out_by after events))
    (events_keep (and_then before (handed_by h event)) after events (event_keeps before h event is))

pub told_once : (first window rounds : ℕ) (events : List HubEvent)
    → AreOfTimedOut (handed_out_by (new_hub first window rounds) events)
    (after_events (new_hub first window rounds) events)
told_once first window rounds events =
    events_keep none_handed_out (new_hub first window rounds) events (none_late first window rounds)
