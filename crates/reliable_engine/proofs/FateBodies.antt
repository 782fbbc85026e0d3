-- A fate with a place has the tag of the body that was sent there.
use Rattle.std.proofs.Common.{◌≡◌, ℕ, ◌+◌, List, [], ◌∷◌, ◌++◌, length, take, drop, map, Some, refl, sym, subst}
use Rattle.std.proofs.lemmas.List.{take-append-drop}
use Rattle.std.specs.List.{AllByRecursion}
use Rattle.ipb_base.proofs.AllLemmas.{AllByRecursion-append, all-map, back_of_all, front_of_all}
use Rattle.ipb_base.specs.Lists.{IsPrefix}
use Rattle.world_model.specs.declared.offered.OpenPlace.{OpenPlace}
use Rattle.world_model.specs.declared.offered.Offered.{Offered}
use Rattle.world_model.specs.declared.offered.Fate.{Fate}
use Rattle.world_model.specs.declared.offered.Fate.TheVariants.{Replied, TimedOut, Unsent}
use Rattle.world_model.specs.Places.{at_place}
use Rattle.world_model.specs.Hub.{Hub, give_up, insert_fate, least, open_with, places, settle, tag_of}
use Rattle.world_model.specs.Hub.{time_out, unsent_fate}
use Rattle.world_model.proofs.Hubs.{all_inserted, all_timed_out, all_unsent, tagged}
use Rattle.world_model.proofs.Lists.{at_front, either}
use Rattle.reliable_engine.specs.Events.{HubEvent, Offer, Status, Reply, Quiet, Send, HandOut, HandOutLate}
use Rattle.reliable_engine.specs.Events.{after_event}
use Rattle.reliable_engine.specs.Events.{after_events}
use Rattle.reliable_engine.specs.ToldFates.{IsOfItsBody, all_fates, fates_handed_out}
use Rattle.reliable_engine.proofs.AllFates.{all_cons}
use Rattle.reliable_engine.proofs.Cases.{after_is}
use Rattle.reliable_engine.proofs.Keeping.{found}
use Rattle.reliable_engine.proofs.Places.{open_sent}
use Rattle.reliable_engine.proofs.Runs.{IsHub, keeps_bodies, stays_hub}

abbrev AreTagged : List Offered → List (ℕ × Fate) → Type 0
AreTagged sent fates = AllByRecursion (IsOfItsBody sent) fates

-- ---- more bodies are sent

tagged_on : (sent more : List Offered) (fate : ℕ × Fate) → IsOfItsBody sent fate → IsOfItsBody (sent ++ more) fate
tagged_on sent more (tag, Replied place words) is =
    record { offered = is.offered; at = at_front sent more place is.offered is.at; tag_is = is.tag_is }
tagged_on sent more (tag, TimedOut place rounds) is =
    record { offered = is.offered; at = at_front sent more place is.offered is.at; tag_is = is.tag_is }
tagged_on sent more (tag, Unsent) is = tt

all_on : (sent later : List Offered) (fates : List (ℕ × Fate)) → IsPrefix sent later → AreTagged sent fates
    → AreTagged later fates
all_on sent later fates front all = subst (λ (xs : List Offered). AreTagged xs fates) (sym front.1)
    (all-map (IsOfItsBody sent) (IsOfItsBody (sent ++ front.0)) fates (tagged_on sent front.0) all)

-- ---- an event

settled_tagged : (h : Hub) (id : ℕ) (words : List ℕ) (o : OpenPlace) → IsHub h
    → open_with h.first id h.open_places ≡ Some o → AreTagged h.sent h.fates
    → AreTagged h.sent (settle h words (Some o)).fates
settled_tagged h id words o is told all =
    let there = (found h.first id h.open_places o told).gone.there in
    let at = open_sent h.window (length h.sent) o.place (places h.open_places) is there in
    let new : ℕ × Fate = (tag_of (at_place h.sent o.place), Replied o.place words) in
    either (AreTagged h.sent) o.waited (insert_fate o.place new h.fates) h.fates
    (λ _. all_inserted (IsOfItsBody h.sent) o.place new h.fates (tagged h.sent o.place at.0 at.1) all)
    (λ _. all)

give_up_tagged : (h : Hub) → IsHub h → AreTagged h.sent h.fates → AreTagged h.sent (give_up h).fates
give_up_tagged h is all =
    let fates = time_out h.rounds h.sent h.open_places h.fates in
    AllByRecursion-append (IsOfItsBody h.sent) fates (map unsent_fate h.queue)
    (all_timed_out (IsOfItsBody h.sent) (least (places h.open_places) (length h.sent + 1)) h.rounds h.sent
    h.open_places h.fates (tagged h.sent) is.from_one is.rising all)
    (all_unsent (IsOfItsBody h.sent) h.queue (λ _. tt))

-- the first fate, and the others
parts_tagged : (sent : List Offered) (fates : List (ℕ × Fate)) → AreTagged sent fates
    → AreTagged sent (take 1 fates ++ drop 1 fates)
parts_tagged sent fates all = subst (AreTagged sent) (sym (take-append-drop 1 fates)) all

event_tagged : (h : Hub) (event : HubEvent) → IsHub h → AreTagged h.sent h.fates
    → AreTagged (after_event h event).sent (after_event h event).fates
event_tagged h event is all = after_is (λ _ after. AreTagged after.sent after.fates) h (record {
  offered = λ _. all;
  same = all;
  told = λ _. all;
  settled = λ id words o told. settled_tagged h id words o is told all;
  wants_status = all;
  gives_up = give_up_tagged h is all;
  asked = all;
  wished = λ _ _. all;
  sent_first = λ x _ _ _. all_on h.sent (h.sent ++ x ∷ []) h.fates (x ∷ [], refl) all;
  handed = back_of_all (IsOfItsBody h.sent) (take 1 h.fates) (drop 1 h.fates) (parts_tagged h.sent h.fates all);
  late_handed = all;
}) event

handed_tagged : (h : Hub) (event : HubEvent) → AreTagged h.sent h.fates → AreTagged h.sent (fates_handed_out h event)
handed_tagged h (Offer x) all = tt
handed_tagged h (Status next) all = tt
handed_tagged h (Reply id words) all = tt
handed_tagged h Quiet all = tt
handed_tagged h Send all = tt
handed_tagged h HandOutLate all = tt
handed_tagged h HandOut all =
    front_of_all (IsOfItsBody h.sent) (take 1 h.fates) (drop 1 h.fates) (parts_tagged h.sent h.fates all)

-- ---- all fates

pub all_tagged : (h : Hub) (events : List HubEvent) → IsHub h → AreTagged h.sent h.fates
    → AreTagged (after_events h events).sent (all_fates h events)
all_tagged h [] is all = all
all_tagged h (event ∷ events) is all =
    let after = after_event h event in
    let last = after_events after events in
    rw (all_cons h event events)
    (AllByRecursion-append (IsOfItsBody last.sent) (fates_handed_out h event) (all_fates after events)
    (all_on h.sent last.sent (fates_handed_out h event) (keeps_bodies h (event ∷ events)) (handed_tagged h event all))
    (all_tagged after events (stays_hub h (event ∷ []) is) (event_tagged h event is all)))
