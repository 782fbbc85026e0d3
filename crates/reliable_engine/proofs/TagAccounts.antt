-- Each offered body stands once among the fates, the places that are waited for and the queue.
use Rattle.std.proofs.Common.{◌≡◌, ℕ, ◌+◌, ◌≤◌, List, [], ◌∷◌, ◌++◌, take, drop, map, Some, refl, sym, ap, arith}
use Rattle.std.proofs.Common.{append_assoc}
use Rattle.std.proofs.lemmas.List.{append-nil, take-append-drop}
use Rattle.world_model.specs.declared.offered.Fate.{Fate}
use Rattle.world_model.specs.Messages as messages
use Rattle.world_model.specs.Hub.{Hub, new_hub, offer}
use Rattle.world_model.specs.Sends.{next_send}
use Rattle.world_model.specs.History.{tag_of_fate, times}
use Rattle.world_model.proofs.Accounts.{IsBalanced, count_append, message_balanced, offer_balanced, placed_count}
use Rattle.world_model.proofs.Accounts.{placed_fates, quiet_balanced, sends_balanced, tagged_count, tagged_fates}
use Rattle.reliable_engine.specs.Answers.{told_first}
use Rattle.reliable_engine.specs.Events.{HubEvent, Offer, Status, Reply, Quiet, Send, HandOut, HandOutLate}
use Rattle.reliable_engine.specs.Events.{after_event}
use Rattle.reliable_engine.specs.Events.{after_events}
use Rattle.reliable_engine.specs.ToldFates.{IsAccounted, all_fates, fates_handed_out, handed_out, offered_tags}
use Rattle.reliable_engine.proofs.Cases.{next_is}

hand_out_balanced : (tag offered : ℕ) (told : List (ℕ × Fate)) (h : Hub) → IsBalanced tag offered told h
    → IsBalanced tag offered (told ++ take 1 h.fates) (told_first h)
hand_out_balanced tag offered told h is =
    let now = take 1 h.fates in
    let later = drop 1 h.fates in
    let tagged = ap (tagged_fates tag) (take-append-drop 1 h.fates) in
    let placed = ap (placed_fates tag) (take-append-drop 1 h.fates) in
    record {
      up_to = is.up_to;
      all = omega (
        arith,
        is.all,
        tagged,
        count_append (tagged_fates tag) (tagged_count tag) told now,
        count_append (tagged_fates tag) (tagged_count tag) now later,
      );
      placed = omega (
        arith,
        is.placed,
        placed,
        count_append (placed_fates tag) (placed_count tag) told now,
        count_append (placed_fates tag) (placed_count tag) now later,
      );
    }

-- the same account, of numbers and fates that are the same
balanced_as : (tag offered more : ℕ) (told fates : List (ℕ × Fate)) (h : Hub) → more ≡ offered → fates ≡ told
    → IsBalanced tag offered told h → IsBalanced tag more fates h
balanced_as tag offered more told fates h number same is = rw (number, same) is

none_more : (tag offered : ℕ) (told : List (ℕ × Fate)) (h : Hub) → IsBalanced tag offered told h
    → IsBalanced tag (offered + 0) (told ++ []) h
none_more tag offered told h is =
    balanced_as tag offered (offered + 0) told (told ++ []) h (omega arith) (append-nil told) is

event_balanced : (tag offered : ℕ) (told : List (ℕ × Fate)) (h : Hub) (event : HubEvent) → IsBalanced tag offered told h
    → IsBalanced tag (offered + times tag (offered_tags (event ∷ []))) (told ++ fates_handed_out h event) (after_event h event)
event_balanced tag offered told h (Offer x) is =
    balanced_as tag _ (offered + times tag (x.tag ∷ [])) told (told ++ []) (offer h x) refl (append-nil told)
    (offer_balanced tag offered told h x is)
event_balanced tag offered told h (Status next) is =
    none_more tag offered told _ (message_balanced tag offered told h (Some (messages.StatusReply 0 0 next)) is)
event_balanced tag offered told h (Reply id words) is =
    none_more tag offered told _ (message_balanced tag offered told h (Some (messages.Reply id words)) is)
event_balanced tag offered told h Quiet is = none_more tag offered told _ (quiet_balanced tag offered told h is)
event_balanced tag offered told h Send is = none_more tag offered told _
    (next_is (IsBalanced tag offered told) h (next_send h) is (sends_balanced tag offered told h is))
event_balanced tag offered told h HandOut is =
    balanced_as tag offered (offered + 0) (told ++ take 1 h.fates) _ (told_first h) (omega arith) refl
    (hand_out_balanced tag offered told h is)
event_balanced tag offered told h HandOutLate is =
    none_more tag offered told _ (record { up_to = is.up_to; all = is.all; placed = is.placed })

tags_cons : (tag : ℕ) (event : HubEvent) (events : List HubEvent)
    → times tag (offered_tags (event ∷ events))
    ≡ times tag (offered_tags (event ∷ [])) + times tag (offered_tags events)
tags_cons tag (Offer x) events = omega arith
tags_cons tag (Status next) events = omega arith
tags_cons tag (Reply id words) events = omega arith
tags_cons tag Quiet events = omega arith
tags_cons tag Send events = omega arith
tags_cons tag HandOut events = omega arith
tags_cons tag HandOutLate events = omega arith

events_balanced : (tag offered : ℕ) (told : List (ℕ × Fate)) (h : Hub) (events : List HubEvent)
    → IsBalanced tag offered told h
    → IsBalanced tag (offered + times tag (offered_tags events)) (told ++ handed_out h events) (after_events h events)
events_balanced tag offered told h [] is = none_more tag offered told h is
events_balanced tag offered told h (event ∷ events) is =
    let after = after_event h event in
    let now = fates_handed_out h event in
    let more = times tag (offered_tags (event ∷ [])) in
    balanced_as tag (offered + more + times tag (offered_tags events)) _ ((told ++ now) ++ handed_out after events) _
    (after_events after events) (omega (arith, tags_cons tag event events))
    (sym (append_assoc told now (handed_out after events)))
    (events_balanced tag (offered + more) (told ++ now) after events (event_balanced tag offered told h event is))

pub accounted : (first window rounds : ℕ) (events : List HubEvent) (tag : ℕ)
    → IsAccounted (after_events (new_hub first window rounds) events)
    (all_fates (new_hub first window rounds) events) (offered_tags events) tag
accounted first window rounds events tag =
    let start = new_hub first window rounds in
    let after = after_events start events in
    let told = handed_out start events in
    let is = events_balanced tag 0 [] start events (record { up_to = tt; all = refl; placed = refl }) in
    record {
      offered = omega (arith, is.all, count_append (tagged_fates tag) (tagged_count tag) told after.fates);
      sent = omega (arith, is.placed, count_append (placed_fates tag) (placed_count tag) told after.fates);
    }

pub no_more_fates : (first window rounds : ℕ) (events : List HubEvent) (tag : ℕ)
    → times tag (map tag_of_fate (all_fates (new_hub first window rounds) events)) ≤ times tag (offered_tags events)
no_more_fates first window rounds events tag = let is = accounted first window rounds events tag in omega arith
