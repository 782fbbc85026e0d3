-- A give-up has its price in quiet receives.
use Rattle.std.proofs.Common.{◌≡◌, ℕ, ◌+◌, ◌*◌, ◌≤◌, List, [], ◌∷◌, ◌++◌, length, map, Some, Result, Ok, Err, refl, sym}
use Rattle.std.proofs.Common.{ap, ◌∙◌, subst, arith, inl, inr}
use Rattle.std.specs.Prelude.{min, IfOk, ◌⊎◌, ◌≢◌}
use Rattle.std.proofs.Math.Nat.{mul-add, mul-le-mul_left, mul_comm}
use Rattle.std.proofs.lemmas.List.{append-nil, length-map}
use Rattle.std.specs.List.{AllByRecursion}
use Rattle.ipb_base.proofs.AllLemmas.{AllByRecursion-append}
use Rattle.world_model.specs.declared.datagram.Datagram.{Datagram}
use Rattle.world_model.specs.declared.offered.Offered.{Offered}
use Rattle.world_model.specs.declared.offered.OpenPlace.{OpenPlace}
use Rattle.world_model.specs.declared.offered.Fate.{Fate}
use Rattle.world_model.specs.declared.offered.Fate.TheVariants.{Replied, TimedOut, Unsent}
use Rattle.world_model.specs.declared.moves.WorldMove.{WorldMove}
use Rattle.world_model.specs.declared.moves.WorldMove.TheVariants.{Offer, Quiet, HubHears, BoardHears}
use Rattle.world_model.specs.declared.moves.WorldEnd.{WorldEnd}
use Rattle.world_model.specs.Places.{at_place}
use Rattle.world_model.specs.Messages.{to_hub}
use Rattle.world_model.specs.Board.{Board}
use Rattle.world_model.specs.Hub.{HandedOut}
use Rattle.world_model.specs.Hub.{Hub, offer, goes_before, insert_fate, tag_of, settle, after_recovery, take_message}
use Rattle.world_model.specs.Hub.{time_out, unsent_fate, want_status, give_up, hear_quiet, places, place_of, least}
use Rattle.world_model.specs.Sends.{Next, pending}
use Rattle.world_model.specs.World.{World, sent_into, flush, with_hub, go_on, step, run_moves, start}
use Rattle.world_model.specs.Facts.{AreRising, IsSound}
use Rattle.world_model.specs.History.{IsMove, Leads, IsRun, IsHandedOut, quiets, timeouts}
use Rattle.world_model.specs.Below.{Below}
use Rattle.world_model.proofs.Lists.{either, all_get}
use Rattle.world_model.proofs.Worlds.{step_holds, start_holds}
use Rattle.world_model.proofs.Flushing.{send_cases, flush_keeps, message_cases, quiet_cases, step_cases, run_by, ok_map}
use Rattle.world_model.proofs.Flushing.{ok_is, run_out}
use Rattle.world_model.proofs.Waiting.{flush_held, flush_told_in}
use Rattle.world_model.proofs.Accounts.{IsCount, count_inserted, count_append}

-- ---- what sends leave alone

pub record IsAfterSends (w : World) (h : Hub) (new : World) : Type 0 where
  pub fates : new.fates ≡ w.fates
  pub waiting : new.hub.fates ≡ h.fates
  pub requests : new.hub.status_requests ≡ h.status_requests
  pub window : new.hub.window ≡ h.window
  pub rounds : new.hub.rounds ≡ h.rounds

after_sends : (w : World) (h : Hub) → IsAfterSends w h (flush (pending h) (with_hub w h))
after_sends w h = flush_keeps (IsAfterSends w h)
    (λ v is. send_cases (λ (n : Next). IsAfterSends w h (sent_into v n)) v.hub
    (record { fates = is.fates; waiting = is.waiting; requests = is.requests; window = is.window; rounds = is.rounds })
    (λ _ _. record {
      fates = is.fates;
      waiting = is.waiting;
      requests = is.requests;
      window = is.window;
      rounds = is.rounds;
    })
    (λ _ _ _ _. record {
      fates = is.fates;
      waiting = is.waiting;
      requests = is.requests;
      window = is.window;
      rounds = is.rounds;
    }))
    (pending h) (with_hub w h) (record { fates = refl; waiting = refl; requests = refl; window = refl; rounds = refl })

pub record IsAfterEvent (w : World) (h : Hub) (new : World) : Type 0 where
  pub fates : new.fates ≡ w.fates ++ h.fates
  pub waiting : new.hub.fates ≡ []
  pub requests : new.hub.status_requests ≡ h.status_requests
  pub window : new.hub.window ≡ h.window
  pub rounds : new.hub.rounds ≡ h.rounds

pub after_event : (w : World) (h : Hub) → IsAfterEvent w h (go_on w h)
after_event w h =
    let v = flush (pending h) (with_hub w h) in
    let is = after_sends w h in
    record {
      fates = ap (λ (fates : List (ℕ × Fate)). fates ++ v.hub.fates) is.fates
          ∙ ap (λ (fates : List (ℕ × Fate)). w.fates ++ fates) is.waiting;
      waiting = refl;
      requests = is.requests;
      window = is.window;
      rounds = is.rounds;
    }

quiets_cons : (m : WorldMove) (ms : List WorldMove) → quiets (m ∷ ms) ≡ quiets (m ∷ []) + quiets ms
quiets_cons (Offer tag body) ms = omega arith
quiets_cons Quiet ms = omega arith
quiets_cons (HubHears i) ms = omega arith
quiets_cons (BoardHears i) ms = omega arith

-- ---- each quiet receive asks for one status at most

abbrev pub AsksFew : List WorldMove → World → World → Type 0
AsksFew ms w new = new.hub.status_requests ≤ w.hub.status_requests + quiets ms

event_asks : (ms : List WorldMove) (w : World) (h : Hub) → h.status_requests ≤ w.hub.status_requests + quiets ms
    → AsksFew ms w (go_on w h)
event_asks ms w h few = omega (arith, (after_event w h).requests)

step_asks : (at : ℕ) (w : World) (m : WorldMove) → IfOk (step at w m) (AsksFew (m ∷ []) w)
step_asks at w m = step_cases (AsksFew (m ∷ []) w) at w m
    (λ tag body _. event_asks (m ∷ []) w (offer w.hub (record { tag = tag; body = body })) (omega arith))
    (λ e. event_asks (m ∷ []) w (hear_quiet w.hub) (rw e (quiet_cases
    (λ (h : Hub). h.status_requests ≤ w.hub.status_requests + 1) w.hub (λ _. omega arith) (λ _. omega arith))))
    (λ i bytes _. event_asks (m ∷ []) w (take_message w.hub (to_hub bytes))
    (message_cases (λ (h : Hub). h.status_requests ≤ w.hub.status_requests + quiets (m ∷ [])) w.hub (to_hub bytes)
    (omega arith) (λ _. omega arith) (λ _ _ _ _. omega arith)))
    (λ i bytes _. omega arith)

pub few_requests : (moves : List WorldMove) (old new : World) → Leads moves old new
    → new.hub.status_requests ≤ old.hub.status_requests + quiets moves
few_requests moves old new is =
    (subst (λ (r : Result World WorldEnd). IfOk r (λ (v : World). Unit {0} × AsksFew moves old v)) is.ran
    (run_by (λ _. Unit {0}) AsksFew (λ _. omega arith) (λ m ms a b c one two. omega (arith, one, two, quiets_cons m ms))
    (λ at v m _ _. ok_map (step at v m) (AsksFew (m ∷ []) v) (λ (x : World). Unit {0} × AsksFew (m ∷ []) v x)
    (λ x few. (tt, few)) (step_asks at v m))
    is.at old moves is.sendable tt)).1

-- ---- a fate ends the round, or comes after all rounds

no_fate : (w : World) (h : Hub) → h.fates ≡ [] → (go_on w h).fates ≡ w.fates
no_fate w h none = (after_event w h).fates ∙ (ap (λ (fates : List (ℕ × Fate)). w.fates ++ fates) none
    ∙ append-nil w.fates)

abbrev pub IsSettledOr : World → World → Type 0
IsSettledOr w new = (new.fates ≡ w.fates) ⊎ (new.hub.status_requests ≡ 0)

heard_settles : (w : World) (m : WorldMove) (at number : ℕ) → m ≡ HubHears number → w.hub.fates ≡ []
    → IfOk (step at w m) (IsSettledOr w)
heard_settles w m at number is none = step_cases (IsSettledOr w) at w m
    (λ tag body e. absurd (cc)) (λ e. absurd (cc))
    (λ i bytes _. message_cases (λ (h : Hub). IsSettledOr w (go_on w h)) w.hub (to_hub bytes)
    (inl (no_fate w w.hub none)) (λ told. inl (no_fate w (after_recovery w.hub (Some told)) none))
    (λ id words o _. inr ((after_event w (settle w.hub words (Some o))).requests)))
    (λ i bytes e. absurd (cc))

pub settled_ends : (old new : World) (at number : ℕ) → old.hub.fates ≡ [] → step at old (HubHears number) ≡ Ok new
    → new.fates ≢ old.fates → new.hub.status_requests ≡ 0
settled_ends old new at number none e other = elim (ok_is (IsSettledOr old) (step at old (HubHears number)) new e
    (heard_settles old (HubHears number) at number refl none)) [
      | inl same ↦ absurd (other same)
      | inr ended ↦ ended
    ]

-- the same of a late answer
no_late : (w : World) (h : Hub) → h.lates ≡ [] → (go_on w h).lates ≡ w.lates
no_late w h none =
    let v = flush (pending h) (with_hub w h) in
    let told = ap (λ (t : HandedOut). t.lates) (flush_told_in (pending h) (with_hub w h)) in
    let held = ap (λ (t : HandedOut). t.lates) (flush_held (pending h) (with_hub w h)) in
    ap (λ (lates : List (ℕ × List ℕ)). lates ++ v.hub.lates) told
    ∙ (ap (λ (lates : List (ℕ × List ℕ)). w.lates ++ lates) (held ∙ none) ∙ append-nil w.lates)

abbrev pub IsLateOr : World → World → Type 0
IsLateOr w new = (new.lates ≡ w.lates) ⊎ (new.hub.status_requests ≡ 0)

late_settles : (w : World) (m : WorldMove) (at number : ℕ) → m ≡ HubHears number → w.hub.lates ≡ []
    → IfOk (step at w m) (IsLateOr w)
late_settles w m at number is none = step_cases (IsLateOr w) at w m
    (λ tag body e. absurd (cc)) (λ e. absurd (cc))
    (λ i bytes _. message_cases (λ (h : Hub). IsLateOr w (go_on w h)) w.hub (to_hub bytes)
    (inl (no_late w w.hub none)) (λ told. inl (no_late w (after_recovery w.hub (Some told)) none))
    (λ id words o _. inr ((after_event w (settle w.hub words (Some o))).requests)))
    (λ i bytes e. absurd (cc))

pub late_ends : (old new : World) (at number : ℕ) → old.hub.lates ≡ [] → step at old (HubHears number) ≡ Ok new
    → new.lates ≢ old.lates → new.hub.status_requests ≡ 0
late_ends old new at number none e other = elim (ok_is (IsLateOr old) (step at old (HubHears number)) new e
    (late_settles old (HubHears number) at number refl none)) [
      | inl same ↦ absurd (other same)
      | inr ended ↦ ended
    ]

abbrev pub IsPatientOr : World → World → Type 0
IsPatientOr w new = (new.fates ≡ w.fates) ⊎ (w.hub.rounds ≤ w.hub.status_requests)

quiet_is_patient : (w : World) (m : WorldMove) (at : ℕ) → m ≡ Quiet → w.hub.fates ≡ []
    → IfOk (step at w m) (IsPatientOr w)
quiet_is_patient w m at is none = step_cases (IsPatientOr w) at w m
    (λ tag body e. absurd (cc))
    (λ _. quiet_cases (λ (h : Hub). IsPatientOr w (go_on w h)) w.hub (λ _. inl (no_fate w (want_status w.hub) none))
    (λ late. inr late))
    (λ i bytes e. absurd (cc)) (λ i bytes e. absurd (cc))

pub patient_first : (moves : List WorldMove) (old last new : World) (at : ℕ) → Leads moves old last
    → old.hub.status_requests ≡ 0 → last.hub.fates ≡ []
    → step at last Quiet ≡ Ok new → new.fates ≢ last.fates → last.hub.rounds ≤ quiets moves
patient_first moves old last new at is begun none e other =
    elim (ok_is (IsPatientOr last) (step at last Quiet) new e (quiet_is_patient last Quiet at refl none)) [
      | inl same ↦ absurd (other same)
      | inr late ↦ omega (arith, few_requests moves old last is)
    ]

-- ---- a body is timed out after the rounds of the hub

abbrev pub IsAfter : ℕ → ℕ × Fate → Type 0
IsAfter rounds (tag, Replied place words) = Unit {0}
IsAfter rounds (tag, TimedOut place after) = after ≡ rounds
IsAfter rounds (tag, Unsent) = Unit {0}

inserted_after : (rounds place : ℕ) (new : ℕ × Fate) (fates : List (ℕ × Fate)) → IsAfter rounds new
    → AllByRecursion (IsAfter rounds) fates → AllByRecursion (IsAfter rounds) (insert_fate place new fates)
inserted_after rounds place new [] is all = (is, tt)
inserted_after rounds place new (f ∷ fs) is all = either (AllByRecursion (IsAfter rounds)) (goes_before place f.1) _ _
    (λ _. (is, all))
    (λ _. (all.0, inserted_after rounds place new fs is all.1))

timed_out_after : (rounds : ℕ) (sent : List Offered) (os : List OpenPlace) (fates : List (ℕ × Fate))
    → AllByRecursion (IsAfter rounds) fates → AllByRecursion (IsAfter rounds) (time_out rounds sent os fates)
timed_out_after rounds sent [] fates all = all
timed_out_after rounds sent (o ∷ os) fates all = timed_out_after rounds sent os _
    (either (AllByRecursion (IsAfter rounds)) o.waited _ _
    (λ _. inserted_after rounds o.place (tag_of (at_place sent o.place), TimedOut o.place rounds) fates refl all)
    (λ _. all))

unsent_after : (rounds : ℕ) (queue : List Offered) → AllByRecursion (IsAfter rounds) (map unsent_fate queue)
unsent_after rounds [] = tt
unsent_after rounds (o ∷ os) = (tt, unsent_after rounds os)

pub record AreAfter (rounds : ℕ) (h : Hub) : Type 0 where
  pub same : h.rounds ≡ rounds
  pub waiting : AllByRecursion (IsAfter rounds) h.fates

pub record AreAllAfter (rounds : ℕ) (w : World) : Type 0 where
  pub hub : AreAfter rounds w.hub
  pub told : AllByRecursion (IsAfter rounds) w.fates

event_after : (rounds : ℕ) (w : World) (h : Hub) → AllByRecursion (IsAfter rounds) w.fates → AreAfter rounds h
    → AreAllAfter rounds (go_on w h)
event_after rounds w h told is =
    let e = after_event w h in
    record {
      hub = record { same = e.rounds ∙ is.same; waiting = tt };
      told = subst (AllByRecursion (IsAfter rounds)) (sym e.fates)
          (AllByRecursion-append (IsAfter rounds) w.fates h.fates told is.waiting);
    }

give_up_after : (rounds : ℕ) (h : Hub) → AreAfter rounds h → AreAfter rounds (give_up h)
give_up_after rounds h is = record {
  same = is.same;
  waiting = AllByRecursion-append (IsAfter rounds) (time_out h.rounds h.sent h.open_places h.fates) (map unsent_fate h.queue)
      (rw (is.same) (timed_out_after rounds h.sent h.open_places h.fates is.waiting)) (unsent_after rounds h.queue);
}

settle_after : (rounds : ℕ) (h : Hub) (words : List ℕ) (o : OpenPlace) → AreAfter rounds h
    → AreAfter rounds (settle h words (Some o))
settle_after rounds h words o is = record {
  same = is.same;
  waiting = either (AllByRecursion (IsAfter rounds)) o.waited _ _
      (λ _. inserted_after rounds o.place (tag_of (at_place h.sent o.place), Replied o.place words) h.fates tt
      is.waiting)
      (λ _. is.waiting);
}

step_after : (rounds at : ℕ) (w : World) (m : WorldMove) → AreAllAfter rounds w
    → IfOk (step at w m) (AreAllAfter rounds)
step_after rounds at w m is = step_cases (AreAllAfter rounds) at w m
    (λ tag body _. event_after rounds w (offer w.hub (record { tag = tag; body = body })) is.told
    (record { same = is.hub.same; waiting = is.hub.waiting }))
    (λ _. event_after rounds w (hear_quiet w.hub) is.told
    (quiet_cases (AreAfter rounds) w.hub (λ _. record { same = is.hub.same; waiting = is.hub.waiting })
    (λ _. give_up_after rounds w.hub is.hub)))
    (λ i bytes _. event_after rounds w (take_message w.hub (to_hub bytes)) is.told
    (message_cases (AreAfter rounds) w.hub (to_hub bytes) is.hub
    (λ _. record { same = is.hub.same; waiting = is.hub.waiting })
    (λ id words o _. settle_after rounds w.hub words o is.hub)))
    (λ i bytes _. record { hub = is.hub; told = is.told })

pub after_rounds : (window rounds : ℕ) (board : Board) (air : List Datagram) (moves : List WorldMove) (w : World)
    (tag place after : ℕ) → IsRun window rounds board air moves w
    → IsHandedOut w tag (TimedOut place after) → after ≡ rounds
after_rounds window rounds board air moves w tag place after is told =
    let all = (ok_is (λ (v : World). AreAllAfter rounds v × Unit {0})
    (run_moves is.leads.at (start window rounds board air) moves) w is.leads.ran
    (run_by (AreAllAfter rounds) (λ _ _ _. Unit {0}) (λ _. tt) (λ _ _ _ _ _ _ _. tt)
    (λ at v m _ all. ok_map (step at v m) (AreAllAfter rounds) (λ (x : World). AreAllAfter rounds x × Unit {0})
    (λ x o. (o, tt)) (step_after rounds at v m all))
    is.leads.at (start window rounds board air) moves is.leads.sendable
    (record { hub = record { same = refl; waiting = tt }; told = tt }))).0 in
    all_get (IsAfter rounds) w.fates told.number (tag, TimedOut place after) all.told told.there

-- ---- the price of timeouts

timeouts_more : (fate : ℕ × Fate) (fates : List (ℕ × Fate))
    → timeouts (fate ∷ fates) ≡ timeouts (fate ∷ []) + timeouts fates
timeouts_more (t, Replied place words) fates = omega arith
timeouts_more (t, TimedOut place rounds) fates = omega arith
timeouts_more (t, Unsent) fates = omega arith

timeouts_count : IsCount timeouts
timeouts_count = record { none = refl; more = timeouts_more }

timed_out_few : (rounds : ℕ) (sent : List Offered) (os : List OpenPlace) (fates : List (ℕ × Fate))
    → timeouts (time_out rounds sent os fates) ≤ timeouts fates + length os
timed_out_few rounds sent [] fates = omega arith
timed_out_few rounds sent (o ∷ os) fates =
    let new : ℕ × Fate = (tag_of (at_place sent o.place), TimedOut o.place rounds) in
    either (λ (fs : List (ℕ × Fate)). timeouts (time_out rounds sent os fs) ≤ timeouts fates + length (o ∷ os)) o.waited
    _ _
    (λ _. omega (
      arith,
      timed_out_few rounds sent os (insert_fate o.place new fates),
      count_inserted timeouts timeouts_count o.place new fates,
    ))
    (λ _. omega (arith, timed_out_few rounds sent os fates))

unsent_none : (queue : List Offered) → timeouts (map unsent_fate queue) ≡ 0
unsent_none [] = refl
unsent_none (o ∷ os) = unsent_none os

rising_few : (from past : ℕ) (ps : List ℕ) → AreRising from past ps → from + length ps ≤ past
rising_few from past [] r = omega arith
rising_few from past (p ∷ ps) r = omega (arith, r.0, rising_few (p + 1) past ps r.1)

-- there are no more open places than the window
open_few : (w : World) → IsSound w → length w.hub.open_places ≤ w.hub.window
open_few w is = omega (
  arith,
  is.hub.within,
  length-map w.hub.open_places place_of,
  rising_few (least (places w.hub.open_places) (length w.hub.sent + 1)) (length w.hub.sent + 1)
      (places w.hub.open_places) is.hub.rising,
)

-- what the timeouts of a world and its round have cost
abbrev pub cost : ℕ → ℕ → ℕ → ℕ → ℕ
cost window rounds late requests = (rounds + 1) * late + window * requests

one_more : (window rounds late requests : ℕ) → cost window rounds late
    (requests + 1) ≤ cost window rounds late requests + window * 1
one_more window rounds late requests = omega (arith, mul-add window requests 1)

given_up : (window rounds late new requests : ℕ) → new ≤ late + window → rounds ≤ requests
    → cost window rounds new 0 ≤ cost window rounds late requests + window * 1
given_up window rounds late new requests few all =
    omega (
      arith,
      mul-le-mul_left (rounds + 1) few,
      mul-add (rounds + 1) late window,
      mul_comm (rounds + 1) window,
      mul-add window rounds 1,
      mul-le-mul_left window all,
    )

fewer_requests : (window rounds late requests : ℕ) → cost window rounds late 0 ≤ cost window rounds late requests +
    window * 0
fewer_requests window rounds late requests = omega arith

abbrev pub late_of : World → ℕ
late_of w = timeouts w.fates + timeouts w.hub.fates

abbrev pub cost_of : ℕ → ℕ → World → ℕ
cost_of window rounds w = cost window rounds (late_of w) w.hub.status_requests

abbrev pub CostsFew : ℕ → ℕ → List WorldMove → World → World → Type 0
CostsFew window rounds ms w new = cost_of window rounds new ≤ cost_of window rounds w + window * quiets ms

event_late : (w : World) (h : Hub) → late_of (go_on w h) ≡ timeouts w.fates + timeouts h.fates
event_late w h = let e = after_event w h in omega (
  arith,
  ap timeouts e.fates,
  ap timeouts e.waiting,
  count_append timeouts timeouts_count w.fates h.fates,
)

event_costs : (window rounds : ℕ) (ms : List WorldMove) (w : World) (h : Hub)
    → cost window rounds (timeouts w.fates + timeouts h.fates) h.status_requests ≤ cost_of window rounds w + window *
    quiets ms → CostsFew window rounds ms w (go_on w h)
event_costs window rounds ms w h few = rw (event_late w h, (after_event w h).requests) few

settle_costs : (window rounds : ℕ) (w : World) (words : List ℕ) (o : OpenPlace)
    → CostsFew window rounds [] w (go_on w (settle w.hub words (Some o)))
settle_costs window rounds w words o =
    let new : ℕ × Fate = (tag_of (at_place w.hub.sent o.place), Replied o.place words) in
    let same : timeouts (settle w.hub words (Some o)).fates ≡ timeouts w.hub.fates =
    either (λ (fates : List (ℕ × Fate)). timeouts fates ≡ timeouts w.hub.fates) o.waited
    (insert_fate o.place new w.hub.fates) w.hub.fates
    (λ _. omega (arith, count_inserted timeouts timeouts_count o.place new w.hub.fates)) (λ _. refl) in
    event_costs window rounds [] w (settle w.hub words (Some o))
    (rw same (fewer_requests window rounds (late_of w) w.hub.status_requests))

give_up_costs : (window rounds : ℕ) (w : World) → length w.hub.open_places ≤ window → rounds ≤ w.hub.status_requests
    → CostsFew window rounds (Quiet ∷ []) w (go_on w (give_up w.hub))
give_up_costs window rounds w few all =
    let late = time_out w.hub.rounds w.hub.sent w.hub.open_places w.hub.fates in
    let more : timeouts w.fates + timeouts (give_up w.hub).fates ≤ late_of w + window =
    omega (
      arith,
      few,
      count_append timeouts timeouts_count late (map unsent_fate w.hub.queue),
      unsent_none w.hub.queue,
      timed_out_few w.hub.rounds w.hub.sent w.hub.open_places w.hub.fates,
    ) in
    event_costs window rounds (Quiet ∷ []) w (give_up w.hub)
    (given_up window rounds (late_of w) _ w.hub.status_requests more all)

same_costs : (window rounds : ℕ) (w : World) (h : Hub) → h.fates ≡ w.hub.fates
    → h.status_requests ≡ w.hub.status_requests → CostsFew window rounds [] w (go_on w h)
same_costs window rounds w h fates requests = event_costs window rounds [] w h (rw (fates, requests) (omega arith))

-- the window and the rounds of a hub
pub record IsSteady (window rounds : ℕ) (w : World) : Type 0 where
  pub window_is : w.hub.window ≡ window
  pub rounds_is : w.hub.rounds ≡ rounds

abbrev pub IsSteadyHub : ℕ → ℕ → Hub → Type 0
IsSteadyHub window rounds h = (h.window ≡ window) × (h.rounds ≡ rounds)

event_steady : (window rounds : ℕ) (w : World) (h : Hub) → IsSteadyHub window rounds h
    → IsSteady window rounds (go_on w h)
event_steady window rounds w h is = let e = after_event w h in record
    { window_is = e.window ∙ is.0; rounds_is = e.rounds ∙ is.1 }

step_steady : (window rounds at : ℕ) (w : World) (m : WorldMove) → IsSteady window rounds w
    → IfOk (step at w m) (IsSteady window rounds)
step_steady window rounds at w m is =
    let same : IsSteadyHub window rounds w.hub = (is.window_is, is.rounds_is) in
    step_cases (IsSteady window rounds) at w m
    (λ tag body _. event_steady window rounds w (offer w.hub (record { tag = tag; body = body })) same)
    (λ _. event_steady window rounds w (hear_quiet w.hub)
    (quiet_cases (IsSteadyHub window rounds) w.hub (λ _. same) (λ _. same)))
    (λ i bytes _. event_steady window rounds w (take_message w.hub (to_hub bytes))
    (message_cases (IsSteadyHub window rounds) w.hub (to_hub bytes) same (λ _. same) (λ _ _ _ _. same)))
    (λ i bytes _. record { window_is = is.window_is; rounds_is = is.rounds_is })

pub run_steady : (window rounds : ℕ) (board : Board) (air : List Datagram) (moves : List WorldMove) (w : World)
    → IsRun window rounds board air moves w → IsSteady (min window board.buffers) rounds w
run_steady window rounds board air moves w is =
    (ok_is (λ (v : World). IsSteady (min window board.buffers) rounds v × Unit {0})
    (run_moves is.leads.at (start window rounds board air) moves) w is.leads.ran
    (run_by (IsSteady (min window board.buffers) rounds) (λ _ _ _. Unit {0}) (λ _. tt) (λ _ _ _ _ _ _ _. tt)
    (λ at v m _ same. ok_map (step at v m) (IsSteady (min window board.buffers) rounds)
    (λ (x : World). IsSteady (min window board.buffers) rounds x × Unit {0})
    (λ x o. (o, tt)) (step_steady (min window board.buffers) rounds at v m same))
    is.leads.at (start window rounds board air) moves is.leads.sendable
    (record { window_is = refl; rounds_is = refl }))).0

quiet_costs : (window rounds : ℕ) (w : World) → IsSteady window rounds w → length w.hub.open_places ≤ w.hub.window
    → CostsFew window rounds (Quiet ∷ []) w (go_on w (hear_quiet w.hub))
quiet_costs window rounds w is few = quiet_cases (λ (h : Hub). CostsFew window rounds (Quiet ∷ []) w (go_on w h)) w.hub
    (λ _. event_costs window rounds (Quiet ∷ []) w (want_status w.hub)
    (one_more window rounds (late_of w) w.hub.status_requests))
    (λ all. give_up_costs window rounds w (omega (arith, is.window_is)) (omega (arith, is.rounds_is)))

step_costs : (window rounds at : ℕ) (w : World) (m : WorldMove) → IsSteady window rounds w
    → length w.hub.open_places ≤ w.hub.window → IfOk (step at w m) (CostsFew window rounds (m ∷ []) w)
step_costs window rounds at w m is few = step_cases (CostsFew window rounds (m ∷ []) w) at w m
    (λ tag body e. rw e (same_costs window rounds w (offer w.hub (record { tag = tag; body = body })) refl refl))
    (λ e. rw e (quiet_costs window rounds w is few))
    (λ i bytes e. rw e (message_cases (λ (h : Hub). CostsFew window rounds [] w (go_on w h)) w.hub (to_hub bytes)
    (same_costs window rounds w w.hub refl refl) (λ told. same_costs window rounds w
    (after_recovery w.hub (Some told)) refl refl) (λ id words o _. settle_costs window rounds w words o)))
    (λ i bytes e. omega arith)

costs_then : (window rounds : ℕ) (m : WorldMove) (ms : List WorldMove) (a b c : World)
    → CostsFew window rounds (m ∷ []) a b → CostsFew window rounds ms b c → CostsFew window rounds (m ∷ ms) a c
costs_then window rounds m ms a b c one two =
    let all = ap (λ (n : ℕ). window * n) (quiets_cons m ms) ∙ mul-add window (quiets (m ∷ [])) (quiets ms) in
    omega (arith, one, two, all)

both_ok : (r : Result World WorldEnd) (P Q R : World → Type 0) → IfOk r P → IfOk r Q → IfOk r R
    → IfOk r (λ (w : World). (P w × Q w) × R w)
both_ok (Ok w) P Q R p q r = ((p, q), r)
both_ok (Err e) P Q R p q r = tt

module _ (below : Below) where
  run_costs : (window rounds at : ℕ) (w : World) (ms : List WorldMove) → AllByRecursion IsMove ms
      → IsSound w × IsSteady window rounds w
      → IfOk (run_moves at w ms) (λ (v : World). (IsSound v × IsSteady window rounds v) × CostsFew window rounds ms w v)
  run_costs window rounds at w ms can is = run_by (λ (v : World). IsSound v × IsSteady window rounds v)
      (CostsFew window rounds) (λ v. omega arith) (costs_then window rounds)
      (λ n v m move s. both_ok (step n v m) IsSound (IsSteady window rounds) (CostsFew window rounds (m ∷ []) v)
      (step_holds below n v m move s.0) (step_steady window rounds n v m s.1)
      (step_costs window rounds n v m s.1 (open_few v s.0))) at w ms can is

  pub few_timeouts : (window rounds : ℕ) (board : Board) (air : List Datagram) (moves : List WorldMove) (w : World)
      → IsRun window rounds board air moves w
      → (rounds + 1) * timeouts w.fates ≤ min window board.buffers * quiets moves
  few_timeouts window rounds board air moves w is =
      let n = min window board.buffers in
      let ran = (ok_is (λ (v : World). (IsSound v × IsSteady n rounds v) × CostsFew n rounds moves
      (start window rounds board air) v) (run_moves is.leads.at (start window rounds board air) moves) w
      is.leads.ran
      (run_costs n rounds is.leads.at (start window rounds board air) moves is.leads.sendable
      (start_holds below window rounds board air is.begins, record { window_is = refl; rounds_is = refl }))).1 in
      let out = ap timeouts (run_out window rounds board air moves w is).1.fates in
      let late : late_of w ≡ timeouts w.fates = omega (arith, out) in
      let all = ap (λ (count : ℕ). (rounds + 1) * count) late in
      omega (arith, ran, all)
