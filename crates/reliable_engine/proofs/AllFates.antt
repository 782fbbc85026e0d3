-- Fates stand in the list of all of them, in order, from when they are told on.
use Rattle.std.proofs.Common.{◌≡◌, ℕ, List, [], ◌∷◌, ◌++◌, map, Some, refl}
use Rattle.std.proofs.Common.{sym, ap, ◌∙◌, subst, inl, inr, append_assoc, arith}
use Rattle.std.proofs.lemmas.List.{take-append-drop}
use Rattle.ipb_base.specs.Lists.{IsPrefix}
use Rattle.world_model.specs.declared.offered.OpenPlace.{OpenPlace}
use Rattle.world_model.specs.declared.offered.Offered.{Offered}
use Rattle.world_model.specs.declared.offered.Fate.{Fate}
use Rattle.world_model.specs.declared.offered.Fate.TheVariants.{Replied, TimedOut}
use Rattle.world_model.specs.Places.{at_place}
use Rattle.world_model.specs.Hub.{Hub, give_up, goes_before, insert_fate, settle, tag_of, time_out, unsent_fate}
use Rattle.world_model.proofs.Lists.{either}
use Rattle.reliable_engine.specs.Events.{HubEvent, Offer, Status, Reply, Quiet, Send, HandOut, HandOutLate}
use Rattle.reliable_engine.specs.Events.{after_event}
use Rattle.reliable_engine.specs.Events.{IsAmong, after_events, handouts}
use Rattle.reliable_engine.proofs.Cases.{after_is}
use Rattle.reliable_engine.specs.ToldFates.{StandsIn, all_fates, fates_handed_out, handed_out}

-- ---- lists that stand in others

pub stands_same : {T : Type 0} (xs : List T) → StandsIn xs xs
stands_same [] = tt
stands_same (x ∷ xs) = inl (refl, stands_same xs)

pub stands_trans : {T : Type 0} (xs ys zs : List T) → StandsIn xs ys → StandsIn ys zs → StandsIn xs zs
stands_trans [] ys zs a b = tt
stands_trans (x ∷ xs) [] zs a b = absurd a
stands_trans (x ∷ xs) (y ∷ ys) [] a b = absurd b
stands_trans (x ∷ xs) (y ∷ ys) (z ∷ zs) a (inr b) = inr (stands_trans (x ∷ xs) (y ∷ ys) zs a b)
stands_trans (x ∷ xs) (y ∷ ys) (z ∷ zs) (inl a) (inl b) = inl (a.0 ∙ b.0, stands_trans xs ys zs a.1 b.1)
stands_trans (x ∷ xs) (y ∷ ys) (z ∷ zs) (inr a) (inl b) = inr (stands_trans (x ∷ xs) ys zs a b.1)

pub stands_behind : {T : Type 0} (front xs ys : List T) → StandsIn xs ys → StandsIn (front ++ xs) (front ++ ys)
stands_behind [] xs ys is = is
stands_behind (x ∷ front) xs ys is = inl (refl, stands_behind front xs ys is)

pub stands_before : {T : Type 0} (xs more : List T) → StandsIn xs (xs ++ more)
stands_before [] more = tt
stands_before (x ∷ xs) more = inl (refl, stands_before xs more)

pub stands_among : (fate : ℕ × Fate) (xs ys : List (ℕ × Fate)) → StandsIn xs ys → IsAmong fate xs → IsAmong fate ys
stands_among fate [] ys is among = absurd among
stands_among fate (x ∷ xs) [] is among = absurd is
stands_among fate (x ∷ xs) (y ∷ ys) (inl is) (inl here) = inl (here ∙ is.0)
stands_among fate (x ∷ xs) (y ∷ ys) (inl is) (inr later) = inr (stands_among fate xs ys is.1 later)
stands_among fate (x ∷ xs) (y ∷ ys) (inr is) among = inr (stands_among fate (x ∷ xs) ys is among)

-- ---- what an event tells

pub insert_stands : (place : ℕ) (new : ℕ × Fate) (fates : List (ℕ × Fate)) → StandsIn fates (insert_fate place new fates)
insert_stands place new [] = tt
insert_stands place new (f ∷ fs) =
    either (StandsIn (f ∷ fs)) (goes_before place f.1) (new ∷ f ∷ fs) (f ∷ insert_fate place new fs)
    (λ _. inr (stands_same (f ∷ fs)))
    (λ _. inl (refl, insert_stands place new fs))

pub time_out_stands : (rounds : ℕ) (sent : List Offered) (os : List OpenPlace) (fates : List (ℕ × Fate))
    → StandsIn fates (time_out rounds sent os fates)
time_out_stands rounds sent [] fates = stands_same fates
time_out_stands rounds sent (o ∷ os) fates =
    let new : ℕ × Fate = (tag_of (at_place sent o.place), TimedOut o.place rounds) in
    either (λ (fs : List (ℕ × Fate)). StandsIn fates (time_out rounds sent os fs)) o.waited
    (insert_fate o.place new fates) fates
    (λ _. stands_trans fates (insert_fate o.place new fates) _ (insert_stands o.place new fates)
    (time_out_stands rounds sent os (insert_fate o.place new fates)))
    (λ _. time_out_stands rounds sent os fates)

settle_stands : (h : Hub) (words : List ℕ) (o : OpenPlace) → StandsIn h.fates (settle h words (Some o)).fates
settle_stands h words o =
    let new : ℕ × Fate = (tag_of (at_place h.sent o.place), Replied o.place words) in
    either (StandsIn h.fates) o.waited (insert_fate o.place new h.fates) h.fates
    (λ _. insert_stands o.place new h.fates)
    (λ _. stands_same h.fates)

give_up_stands : (h : Hub) → StandsIn h.fates (give_up h).fates
give_up_stands h =
    let late = time_out h.rounds h.sent h.open_places h.fates in
    stands_trans h.fates late (late ++ map unsent_fate h.queue) (time_out_stands h.rounds h.sent h.open_places h.fates)
    (stands_before late (map unsent_fate h.queue))

-- the fates that waited stand among those that an event hands out and those that wait after it
event_stands : (h : Hub) (event : HubEvent) → StandsIn h.fates (fates_handed_out h event ++ (after_event h event).fates)
event_stands h event = after_is (λ now after. StandsIn h.fates (now.fates ++ after.fates)) h (record {
  offered = λ x. stands_same h.fates;
  same = stands_same h.fates;
  told = λ place. stands_same h.fates;
  settled = λ id words o e. settle_stands h words o;
  wants_status = stands_same h.fates;
  gives_up = give_up_stands h;
  asked = stands_same h.fates;
  wished = λ w e. stands_same h.fates;
  sent_first = λ x later e room. stands_same h.fates;
  handed = subst (StandsIn h.fates) (sym (take-append-drop 1 h.fates)) (stands_same h.fates);
  late_handed = stands_same h.fates;
}) event

-- ---- all fates

-- the fates of one event and of those after it
pub all_cons : (h : Hub) (event : HubEvent) (events : List HubEvent)
    → all_fates h (event ∷ events) ≡ fates_handed_out h event ++ all_fates (after_event h event) events
all_cons h event events = append_assoc (fates_handed_out h event) (handed_out (after_event h event) events)
    (after_events (after_event h event) events).fates

waiting_stand : (h : Hub) (events : List HubEvent) → StandsIn h.fates (all_fates h events)
waiting_stand h [] = stands_same h.fates
waiting_stand h (event ∷ events) =
    let after = after_event h event in
    rw (all_cons h event events) (stands_trans h.fates (fates_handed_out h event ++ after.fates) _ (event_stands h event)
    (stands_behind (fates_handed_out h event) after.fates (all_fates after events) (waiting_stand after events)))

pub all_stand : (h : Hub) (events more : List HubEvent) → StandsIn (all_fates h events) (all_fates h (events ++ more))
all_stand h [] more = waiting_stand h more
all_stand h (event ∷ events) more =
    let after = after_event h event in
    rw (all_cons h event events, all_cons h event (events ++ more))
    (stands_behind (fates_handed_out h event) (all_fates after events) (all_fates after (events ++ more))
    (all_stand after events more))

pub handed_first : (h : Hub) (events more : List HubEvent)
    → IsPrefix (handed_out h events) (handed_out h (events ++ more))
handed_first h [] more = (handed_out h more, refl)
handed_first h (event ∷ events) more =
    let later = handed_first (after_event h event) events more in (
      later.0,
      ap (λ (fates : List (ℕ × Fate)). fates_handed_out h event ++ fates) later.1
          ∙ sym (append_assoc (fates_handed_out h event) (handed_out (after_event h event) events) later.0),
    )

-- ---- where nothing is handed out

hands_nothing : (h : Hub) (event : HubEvent) (events : List HubEvent) → handouts (event ∷ events) ≡ 0
    → (fates_handed_out h event ≡ []) × (handouts events ≡ 0)
hands_nothing h (Offer x) events none = (refl, none)
hands_nothing h (Status next) events none = (refl, none)
hands_nothing h (Reply id words) events none = (refl, none)
hands_nothing h Quiet events none = (refl, none)
hands_nothing h Send events none = (refl, none)
hands_nothing h HandOutLate events none = (refl, none)
hands_nothing h HandOut events none = absurd (omega (arith, none))

pub none_handed : (h : Hub) (events : List HubEvent) → handouts events ≡ 0 → handed_out h events ≡ []
none_handed h [] none = refl
none_handed h (event ∷ events) none =
    let parts = hands_nothing h event events none in
    rw (parts.0, none_handed (after_event h event) events parts.1) refl

pub fate_waits : (h : Hub) (events : List HubEvent) (fate : ℕ × Fate) → handouts events ≡ 0 → IsAmong fate h.fates
    → IsAmong fate (after_events h events).fates
fate_waits h events fate none is =
    let all = stands_among fate h.fates (all_fates h events) (waiting_stand h events) is in
    rw (none_handed h events none) at all
