-- A late answer is of a body that was timed out, and comes once: each event of a hub keeps it so.
use Rattle.std.proofs.Common.{◌≡◌, ℕ, ◌+◌, ◌≤◌, ◌==◌, ◌||◌, Bool, true, false, cond, List, [], ◌∷◌, ◌++◌}
use Rattle.std.proofs.Common.{length, map, Option, Some, None, refl, sym, ap, ◌∙◌, subst, inl, inr, arith, append_assoc}
use Rattle.std.proofs.Common.{length-append}
use Rattle.std.specs.Prelude.{nat_lt, nat_le, min, IfSome, IfOk, Result, ◌&&◌}
use Rattle.std.proofs.lemmas.Bool.{eq-eqb, leb-true}
use Rattle.std.proofs.lemmas.Bool.Decides.{eqb_tells, nat_tests}
use Rattle.std.proofs.lemmas.List.{append-nil, map-append}
use Rattle.std.specs.List.{AllByRecursion}
use Rattle.ipb_base.proofs.AllLemmas.{AllByRecursion-append, all-map}
use Rattle.packet_ids.specs.Identifier.{identifier_at}
use Rattle.world_model.specs.declared.offered.Offered.{Offered}
use Rattle.world_model.specs.declared.offered.OpenPlace.{OpenPlace}
use Rattle.world_model.specs.declared.offered.Fate.{Fate}
use Rattle.world_model.specs.declared.offered.Fate.TheVariants.{Replied, TimedOut, Unsent}
use Rattle.world_model.specs.Places.{at_place}
use Rattle.world_model.specs.declared.datagram.Datagram.{Datagram}
use Rattle.world_model.specs.declared.moves.WorldMove.{WorldMove}
use Rattle.world_model.specs.declared.moves.WorldEnd.{WorldEnd}
use Rattle.world_model.specs.Messages.{ToHub, to_hub}
use Rattle.world_model.specs.Board.{Board}
use Rattle.world_model.specs.Hub.{Hub, HandedOut, want_control, offer, goes_before, insert_fate, insert_late, tag_of}
use Rattle.world_model.specs.Hub.{open_with, without, settle, recover, take_message, abandoned_place, time_out, unsent_fate}
use Rattle.world_model.specs.Hub.{give_up}
use Rattle.world_model.specs.Hub.{and_then, to_hand_out, want_status, hear_quiet, hands_out, after_handing_out, none_handed_out}
use Rattle.world_model.specs.Hub.{new_hub, place_of}
use Rattle.world_model.specs.Hub.{places}
use Rattle.world_model.specs.Sends.{Next, Wanted, after_open, first_wanted, opened_place, next_send, pending}
use Rattle.world_model.specs.World.{World, flush, go_on, start, step, told_in, with_hub}
use Rattle.world_model.specs.Facts.{has}
use Rattle.world_model.specs.History.{IsRun, times}
use Rattle.world_model.specs.LateAnswers.{HasTimedOut, IsWaitedOrTimedOut, IsOfTimedOut, IsClosedPlace, late_places}
use Rattle.world_model.specs.LateAnswers.{place_of_late, replied_places, standings, is_sent_place, AreOfTimedOut}
use Rattle.world_model.proofs.Lists.{either}
use Rattle.world_model.proofs.Hubs.{all_late, has_first, has_later, places_map, recover_place}
use Rattle.world_model.proofs.Accounts.{IsCount, count_append, count_inserted, times-append, wanted_is_alike}
use Rattle.world_model.proofs.Flushing.{send_cases, flush_keeps, message_cases, quiet_cases, step_cases, run_by, ok_map}

-- ---- what was timed out stays so

abbrev pub Keeps : ℕ → List (ℕ × Fate) → List (ℕ × Fate) → Type 0
Keeps rounds fs gs = (place : ℕ) → HasTimedOut rounds place fs → HasTimedOut rounds place gs

in_front : (rounds : ℕ) (fs gs : List (ℕ × Fate)) → Keeps rounds fs (fs ++ gs)
in_front rounds [] gs place is = absurd is
in_front rounds (f ∷ fs) gs place (inl e) = inl e
in_front rounds (f ∷ fs) gs place (inr later) = inr (in_front rounds fs gs place later)

in_back : (rounds : ℕ) (fs gs : List (ℕ × Fate)) → Keeps rounds gs (fs ++ gs)
in_back rounds [] gs place is = is
in_back rounds (f ∷ fs) gs place is = inr (in_back rounds fs gs place is)

behind : (rounds : ℕ) (told fs gs : List (ℕ × Fate)) → Keeps rounds fs gs → Keeps rounds (told ++ fs) (told ++ gs)
behind rounds [] fs gs keeps place is = keeps place is
behind rounds (f ∷ told) fs gs keeps place (inl e) = inl e
behind rounds (f ∷ told) fs gs keeps place (inr later) = inr (behind rounds told fs gs keeps place later)

inserted : (rounds at : ℕ) (new : ℕ × Fate) (fs : List (ℕ × Fate)) → Keeps rounds fs (insert_fate at new fs)
inserted rounds at new [] place is = absurd is
inserted rounds at new (f ∷ fs) place is = either (HasTimedOut rounds place) (goes_before at f.1) _ _
    (λ _. inr is)
    (λ _. elim is [ inl e ↦ inl e | inr later ↦ inr (inserted rounds at new fs place later) ])

inserted_new : (rounds place at : ℕ) (new : ℕ × Fate) (fs : List (ℕ × Fate)) → new.1 ≡ TimedOut place rounds
    → HasTimedOut rounds place (insert_fate at new fs)
inserted_new rounds place at new [] e = inl e
inserted_new rounds place at new (f ∷ fs) e = either (HasTimedOut rounds place) (goes_before at f.1) _ _
    (λ _. inl e)
    (λ _. inr (inserted_new rounds place at new fs e))

abbrev pub AreWaited : ℕ → List (ℕ × Fate) → List OpenPlace → Type 0
AreWaited rounds fs os = AllByRecursion (IsWaitedOrTimedOut rounds fs) os

abbrev pub AreLate : ℕ → List (ℕ × Fate) → List (ℕ × List ℕ) → Type 0
AreLate rounds fs lates = AllByRecursion (IsOfTimedOut rounds fs) lates

more_waited : (rounds : ℕ) (fs gs : List (ℕ × Fate)) (os : List OpenPlace) → Keeps rounds fs gs
    → AreWaited rounds fs os → AreWaited rounds gs os
more_waited rounds fs gs os keeps are = all-map _ _ os (λ o is e. keeps o.place (is e)) are

more_late : (rounds : ℕ) (fs gs : List (ℕ × Fate)) (lates : List (ℕ × List ℕ)) → Keeps rounds fs gs
    → AreLate rounds fs lates → AreLate rounds gs lates
more_late rounds fs gs lates keeps are = all-map _ _ lates (λ l is. keeps l.0 is) are

-- ---- how often a place stands among replies and late answers

abbrev pub replied_times : ℕ → List (ℕ × Fate) → ℕ
replied_times place fates = times place (replied_places fates)

replied_more : (place : ℕ) (fate : ℕ × Fate) (fates : List (ℕ × Fate))
    → replied_times place (fate ∷ fates) ≡ replied_times place (fate ∷ []) + replied_times place fates
replied_more place (t, Replied at words) fates = omega arith
replied_more place (t, TimedOut at rounds) fates = omega arith
replied_more place (t, Unsent) fates = omega arith

replied_count : (place : ℕ) → IsCount (replied_times place)
replied_count place = record { none = refl; more = replied_more place }

abbrev pub late_times : ℕ → List (ℕ × List ℕ) → ℕ
late_times place lates = times place (late_places lates)

late_append : (place : ℕ) (xs ys : List (ℕ × List ℕ)) → late_times place (xs ++ ys)
    ≡ late_times place xs + late_times place ys
late_append place xs ys = ap (times place) (map-append place_of_late xs ys)
    ∙ times-append place (late_places xs) (late_places ys)

late_inserted : (place : ℕ) (new : ℕ × List ℕ) (lates : List (ℕ × List ℕ))
    → late_times place (insert_late new lates) ≡ times place (new.0 ∷ []) + late_times place lates
late_inserted place new [] = omega arith
late_inserted place new (l ∷ ls) = either
    (λ (xs : List (ℕ × List ℕ)). late_times place xs ≡ times place (new.0 ∷ []) + late_times place (l ∷ ls))
    (nat_lt new.0 l.0) _ _
    (λ _. omega arith)
    (λ _. omega (arith, late_inserted place new ls))

-- ---- what follows of the standings of places

not_there : (place : ℕ) (ps : List ℕ) → times place ps ≡ 0 → has place ps ≡ false
not_there place [] none = refl
not_there place (p ∷ ps) none = elim (p == place)
    as (λ b. cond b 1 0 + times place ps ≡ 0 → (b || has place ps) ≡ false) [
      | true ↦ λ e. absurd (omega arith)
      | false ↦ λ e. not_there place ps (omega arith)
    ] none

each_there : (P : ℕ → Type 0) (ps : List ℕ) → ((place : ℕ) → 1 ≤ times place ps → P place) → AllByRecursion P ps
each_there P [] f = tt
each_there P (p ∷ ps) f = (
  f p (rw (eq-eqb p p refl) (omega arith)),
  each_there P ps (λ place there. f place (omega arith)),
)

sent_bounds : (b c : Bool) (one within : Type 0) → (b ≡ true → one) → (c ≡ true → within)
    → 1 ≤ cond (b && c) 1 0 → one × within
sent_bounds true true one within f g h = (f refl, g refl)
sent_bounds true false one within f g h = absurd (omega arith)
sent_bounds false c one within f g h = absurd (omega arith)

is_sent : (sent place : ℕ) → 1 ≤ cond (is_sent_place sent place) 1 0 → (1 ≤ place) × (place ≤ sent)
is_sent sent place h = sent_bounds (nat_le 1 place) (nat_le place sent) (1 ≤ place) (place ≤ sent)
    (λ e. leb-true _ _ e) (λ e. leb-true _ _ e) h

at_most_one : (b : Bool) → cond b 1 0 ≤ 1
at_most_one true = omega arith
at_most_one false = omega arith

-- what is shown of an event; the rest follows
pub record IsKept (before : HandedOut) (hub : Hub) : Type 0 where
  pub waited : AreWaited hub.rounds (hands_out before hub).fates hub.open_places
  pub timed_out : AreLate hub.rounds (hands_out before hub).fates (hands_out before hub).lates
  pub each_place : (place : ℕ) → standings (hands_out before hub) (places hub.open_places) place
      ≡ cond (is_sent_place (length hub.sent) place) 1 0

closed_place : (before : HandedOut) (h : Hub) → IsKept before h → (place : ℕ)
    → 1 ≤ late_times place (hands_out before h).lates
    → IsClosedPlace (length h.sent) (places h.open_places) place
closed_place before h is place there =
    let each = is.each_place place in
    let most = at_most_one (is_sent_place (length h.sent) place) in
    let bounds = is_sent (length h.sent) place (omega arith) in
    record {
      from_one = bounds.0;
      up_to_last = bounds.1;
      closed = not_there place (places h.open_places) (omega arith);
    }

pub kept : (before : HandedOut) (h : Hub) → IsKept before h → AreOfTimedOut before h
kept before h is = record {
  waited = is.waited;
  timed_out = is.timed_out;
  each_place = is.each_place;
  settled = each_there (IsClosedPlace (length h.sent) (places h.open_places)) (late_places (hands_out before h).lates)
      (closed_place before h is);
  once = λ place.
      let each = is.each_place place in
      let most = at_most_one (is_sent_place (length h.sent) place) in
      omega arith;
}

-- ---- events that leave the places

-- the same places and the same that was handed out
same_standings : (told : HandedOut) (ps qs : List ℕ) (n place : ℕ) → qs ≡ ps → standings told ps place ≡ n
    → standings told qs place ≡ n
same_standings told ps qs n place same is = ap (λ (xs : List ℕ). standings told xs place) same ∙ is

mapped : (rounds : ℕ) (fs : List (ℕ × Fate)) (f : OpenPlace → OpenPlace) (os : List OpenPlace)
    → ((o : OpenPlace) → ((f o).place ≡ o.place) × ((f o).waited ≡ o.waited)) → AreWaited rounds fs os
    → AreWaited rounds fs (map f os)
mapped rounds fs f [] same are = tt
mapped rounds fs f (o ∷ os) same are = (
  λ e. subst (λ (p : ℕ). HasTimedOut rounds p fs) (sym (same o).0) (are.0 (sym (same o).1 ∙ e)),
  mapped rounds fs f os same are.1,
)

pub offer_keeps_late : (before : HandedOut) (h : Hub) (o : Offered) → AreOfTimedOut before h
    → AreOfTimedOut before (offer h o)
offer_keeps_late before h o is = kept before (offer h o) (record {
  waited = either (AreWaited h.rounds (before.fates ++ h.fates)) h.gave_up _ _
      (λ _. mapped h.rounds (before.fates ++ h.fates) want_control h.open_places (λ _. (refl, refl)) is.waited)
      (λ _. is.waited);
  timed_out = is.timed_out;
  each_place = λ place. same_standings (hands_out before h) (places h.open_places) (places (offer h o).open_places) _
      place
      (either (λ (os : List OpenPlace). places os ≡ places h.open_places) h.gave_up _ _
      (λ _. places_map want_control h.open_places (λ _. refl)) (λ _. refl)) (is.each_place place);
})

recover_same : (told : ℕ) (o : OpenPlace) → ((recover told o).place ≡ o.place) × ((recover told o).waited ≡ o.waited)
recover_same told o = either (λ (x : OpenPlace). (x.place ≡ o.place) × (x.waited ≡ o.waited)) (nat_lt o.place told) _ _
    (λ _. (refl, refl)) (λ _. (refl, refl))

recover_keeps_late : (before : HandedOut) (h : Hub) (at : ℕ) → AreOfTimedOut before h
    → AreOfTimedOut before (record h { open_places = map (recover at) h.open_places })
recover_keeps_late before h at is = kept before (record h { open_places = map (recover at) h.open_places }) (record {
  waited = mapped h.rounds (before.fates ++ h.fates) (recover at) h.open_places (recover_same at) is.waited;
  timed_out = is.timed_out;
  each_place = λ place. same_standings (hands_out before h) (places h.open_places) _ _ place
      (places_map (recover at) h.open_places (recover_place at)) (is.each_place place);
})

-- ---- a give-up

one_kept : (rounds : ℕ) (sent : List Offered) (o : OpenPlace) (fs : List (ℕ × Fate)) → Keeps rounds fs
    (cond o.waited (insert_fate o.place (tag_of (at_place sent o.place), TimedOut o.place rounds) fs) fs)
one_kept rounds sent o fs place is = either (HasTimedOut rounds place) o.waited _ _
    (λ _. inserted rounds o.place (tag_of (at_place sent o.place), TimedOut o.place rounds) fs place is)
    (λ _. is)

time_outs_keep : (rounds : ℕ) (sent : List Offered) (os : List OpenPlace) (fs : List (ℕ × Fate))
    → Keeps rounds fs (time_out rounds sent os fs)
time_outs_keep rounds sent [] fs place is = is
time_outs_keep rounds sent (o ∷ os) fs place is =
    time_outs_keep rounds sent os _ place (one_kept rounds sent o fs place is)

-- an open place was timed out before, or is now
timed_out_now : (rounds : ℕ) (sent : List Offered) (told : List (ℕ × Fate)) (o : OpenPlace) (fs : List (ℕ × Fate))
    → IsWaitedOrTimedOut rounds (told ++ fs) o
    → HasTimedOut rounds o.place (told ++ cond o.waited
    (insert_fate o.place (tag_of (at_place sent o.place), TimedOut o.place rounds) fs) fs)
timed_out_now rounds sent told o fs before = either
    (λ (gs : List (ℕ × Fate)). HasTimedOut rounds o.place (told ++ gs)) o.waited _ _
    (λ _. in_back rounds told _ _ (inserted_new rounds o.place o.place _ fs refl))
    (λ e. before e)

abbrev pub AreTimedOut : ℕ → List (ℕ × Fate) → List OpenPlace → Type 0
AreTimedOut rounds fs os = AllByRecursion (λ (o : OpenPlace). HasTimedOut rounds o.place fs) os

all_timed_out : (rounds : ℕ) (sent : List Offered) (told : List (ℕ × Fate)) (os : List OpenPlace) (fs : List (ℕ × Fate))
    → AreWaited rounds (told ++ fs) os → AreTimedOut rounds (told ++ time_out rounds sent os fs) os
all_timed_out rounds sent told [] fs are = tt
all_timed_out rounds sent told (o ∷ os) fs are =
    let new : ℕ × Fate = (tag_of (at_place sent o.place), TimedOut o.place rounds) in
    let after = cond o.waited (insert_fate o.place new fs) fs in
    let now : HasTimedOut rounds o.place (told ++ after) = timed_out_now rounds sent told o fs are.0 in (
      behind rounds told after (time_out rounds sent os after) (time_outs_keep rounds sent os after) o.place now,
      all_timed_out rounds sent told os after (more_waited rounds (told ++ fs) (told ++ after) os
          (behind rounds told fs after (one_kept rounds sent o fs)) are.1),
    )

abandoned_all : (rounds : ℕ) (fs : List (ℕ × Fate)) (os : List OpenPlace) → AreTimedOut rounds fs os
    → AreWaited rounds fs (map abandoned_place os)
abandoned_all rounds fs [] are = tt
abandoned_all rounds fs (o ∷ os) are = ((λ _. are.0), abandoned_all rounds fs os are.1)

-- a give-up tells no reply
time_out_replies : (place rounds : ℕ) (sent : List Offered) (os : List OpenPlace) (fs : List (ℕ × Fate))
    → replied_times place (time_out rounds sent os fs) ≡ replied_times place fs
time_out_replies place rounds sent [] fs = refl
time_out_replies place rounds sent (o ∷ os) fs =
    let new : ℕ × Fate = (tag_of (at_place sent o.place), TimedOut o.place rounds) in
    time_out_replies place rounds sent os (cond o.waited (insert_fate o.place new fs) fs)
    ∙ either (λ (gs : List (ℕ × Fate)). replied_times place gs ≡ replied_times place fs) o.waited _ _
    (λ _. omega (arith, count_inserted (replied_times place) (replied_count place) o.place new fs)) (λ _. refl)

unsent_replies : (place : ℕ) (queue : List Offered) → replied_times place (map unsent_fate queue) ≡ 0
unsent_replies place [] = refl
unsent_replies place (o ∷ os) = unsent_replies place os

give_up_place : (before : HandedOut) (h : Hub) (place n : ℕ)
    → standings (hands_out before h) (places h.open_places) place ≡ n
    → standings (hands_out before (give_up h)) (places (give_up h).open_places) place ≡ n
give_up_place before h place n is =
    let F = replied_times place in
    let count = replied_count place in
    let outs = time_out h.rounds h.sent h.open_places h.fates in
    let open_same = ap (times place) (places_map abandoned_place h.open_places (λ _. refl)) in
    omega (
      arith,
      is,
      open_same,
      count_append F count before.fates h.fates,
      count_append F count before.fates (outs ++ map unsent_fate h.queue),
      count_append F count outs (map unsent_fate h.queue),
      time_out_replies place h.rounds h.sent h.open_places h.fates,
      unsent_replies place h.queue,
    )

give_up_keeps_late : (before : HandedOut) (h : Hub) → AreOfTimedOut before h → AreOfTimedOut before (give_up h)
give_up_keeps_late before h is =
    let told = before.fates in
    let outs = time_out h.rounds h.sent h.open_places h.fates in
    let all = outs ++ map unsent_fate h.queue in
    let keeps : Keeps h.rounds outs all = in_front h.rounds outs (map unsent_fate h.queue) in
    kept before (give_up h) (record {
      waited = more_waited h.rounds (told ++ outs) (told ++ all) _ (behind h.rounds told outs all keeps)
          (abandoned_all h.rounds (told ++ outs) h.open_places
          (all_timed_out h.rounds h.sent told h.open_places h.fates is.waited));
      timed_out = more_late h.rounds (told ++ h.fates) (told ++ all) _ (behind h.rounds told h.fates all
          (λ place timed. keeps place (time_outs_keep h.rounds h.sent h.open_places h.fates place timed))) is.timed_out;
      each_place = λ place. give_up_place before h place _ (is.each_place place);
    })

pub quiet_keeps_late : (before : HandedOut) (h : Hub) → AreOfTimedOut before h → AreOfTimedOut before (hear_quiet h)
quiet_keeps_late before h is = quiet_cases (AreOfTimedOut before) h
    (λ _. kept before (want_status h) (record {
      waited = is.waited;
      timed_out = is.timed_out;
      each_place = is.each_place;
    }))
    (λ _. give_up_keeps_late before h is)

-- ---- what is heard

all_without : (rounds : ℕ) (fs : List (ℕ × Fate)) (place : ℕ) (os : List OpenPlace) → AreWaited rounds fs os
    → AreWaited rounds fs (without place os)
all_without rounds fs place [] are = tt
all_without rounds fs place (o ∷ os) are = either (AreWaited rounds fs) (o.place == place) _ _
    (λ _. are.1)
    (λ _. (are.0, all_without rounds fs place os are.1))

found : (P : OpenPlace → Type 0) (first id : ℕ) (os : List OpenPlace) → AllByRecursion P os
    → IfSome (open_with first id os) P
found P first id [] all = tt
found P first id (o ∷ os) all = either (λ (r : Option OpenPlace). IfSome r P) (identifier_at first o.place == id) _ _
    (λ _. all.0) (λ _. found P first id os all.1)

found_is : (P : OpenPlace → Type 0) (first id : ℕ) (os : List OpenPlace) (o : OpenPlace) → AllByRecursion P os
    → open_with first id os ≡ Some o → P o
found_is P first id os o all e = subst (λ (r : Option OpenPlace). IfSome r P) e (found P first id os all)

late_behind : (rounds : ℕ) (fs : List (ℕ × Fate)) (front lates more : List (ℕ × List ℕ))
    → AreLate rounds fs (front ++ lates) → (AreLate rounds fs lates → AreLate rounds fs more)
    → AreLate rounds fs (front ++ more)
late_behind rounds fs [] lates more all f = f all
late_behind rounds fs (l ∷ front) lates more all f = (all.0, late_behind rounds fs front lates more all.1 f)

later_there : (o : OpenPlace) (os qs : List OpenPlace)
    → AllByRecursion (λ (x : OpenPlace). has x.place (places os) ≡ true) qs
    → AllByRecursion (λ (x : OpenPlace). has x.place (places (o ∷ os)) ≡ true) qs
later_there o os qs all = all-map _ _ qs (λ x is. has_later x.place o.place (places os) is) all

all_there : (os : List OpenPlace) → AllByRecursion (λ (o : OpenPlace). has o.place (places os) ≡ true) os
all_there [] = tt
all_there (o ∷ os) = (has_first o.place (places os), later_there o os os (all_there os))

-- the place that is closed stood once more among the open ones
without_times : (place closed : ℕ) (os : List OpenPlace) → has closed (places os) ≡ true
    → times place (places os) ≡ times place (closed ∷ []) + times place (places (without closed os))
without_times place closed [] there = absurd (cc)
without_times place closed (o ∷ os) there = elim (eqb_tells o.place closed) [
  | inl same ↦ rw same.0 (rw same.1 (omega arith))
  | inr other ↦ rw other.0 (let later = without_times place closed os (rw other.0 at there) in omega arith)
]

found_there : (first id : ℕ) (os : List OpenPlace) (o : OpenPlace) → open_with first id os ≡ Some o
    → has o.place (places os) ≡ true
found_there first id os o e = found_is (λ (x : OpenPlace). has x.place (places os) ≡ true) first id os o
    (all_there os) e

settle_place : (before : HandedOut) (h : Hub) (words : List ℕ) (o : OpenPlace) (place n : ℕ)
    → has o.place (places h.open_places) ≡ true
    → standings (hands_out before h) (places h.open_places) place ≡ n
    → standings (hands_out before (settle h words (Some o))) (places (without o.place h.open_places)) place ≡ n
settle_place before h words o place n there is =
    let new : ℕ × Fate = (tag_of (at_place h.sent o.place), Replied o.place words) in
    let F = replied_times place in
    let count = replied_count place in
    let gone = places (without o.place h.open_places) in
    let one = without_times place o.place h.open_places there in
    elim o.waited as (λ b. standings (record {
      fates = before.fates ++ cond b (insert_fate o.place new h.fates) h.fates;
      lates = before.lates ++ cond b h.lates (insert_late (o.place, words) h.lates);
    }) gone place ≡ n) [
      | true ↦ omega (
        arith,
        is,
        one,
        count_append F count before.fates h.fates,
        count_append F count before.fates (insert_fate o.place new h.fates),
        count_inserted F count o.place new h.fates,
      )
      | false ↦ omega (
        arith,
        is,
        one,
        late_append place before.lates h.lates,
        late_append place before.lates (insert_late (o.place, words) h.lates),
        late_inserted place (o.place, words) h.lates,
      )
    ]

settle_keeps_late : (before : HandedOut) (h : Hub) (id : ℕ) (words : List ℕ) (o : OpenPlace)
    → open_with h.first id h.open_places ≡ Some o → AreOfTimedOut before h
    → AreOfTimedOut before (settle h words (Some o))
settle_keeps_late before h id words o e is =
    let told = before.fates in
    let new : ℕ × Fate = (tag_of (at_place h.sent o.place), Replied o.place words) in
    let after = cond o.waited (insert_fate o.place new h.fates) h.fates in
    let keeps : Keeps h.rounds h.fates after = λ place timed. either (HasTimedOut h.rounds place) o.waited _ _
    (λ _. inserted h.rounds o.place new h.fates place timed) (λ _. timed) in
    let later = behind h.rounds told h.fates after keeps in
    let abandoned_here : IsWaitedOrTimedOut h.rounds (told ++ h.fates) o = found_is
    (IsWaitedOrTimedOut h.rounds (told ++ h.fates)) h.first id h.open_places o is.waited e in
    kept before (settle h words (Some o)) (record {
      waited = all_without h.rounds (told ++ after) o.place h.open_places
          (more_waited h.rounds (told ++ h.fates) (told ++ after) h.open_places later is.waited);
      timed_out = late_behind h.rounds (told ++ after) before.lates h.lates _
          (more_late h.rounds (told ++ h.fates) (told ++ after) (before.lates ++ h.lates) later is.timed_out)
          (λ all. either (AreLate h.rounds (told ++ after)) o.waited _ _ (λ _. all)
          (λ not. all_late _ (o.place, words) h.lates (later o.place (abandoned_here not)) all));
      each_place = λ place. settle_place before h words o place _ (found_there h.first id h.open_places o e)
          (is.each_place place);
    })

pub message_keeps_late : (before : HandedOut) (h : Hub) (m : Option ToHub) → AreOfTimedOut before h
    → AreOfTimedOut before (take_message h m)
message_keeps_late before h m is = message_cases (AreOfTimedOut before) h m is
    (λ at. recover_keeps_late before h at is)
    (λ id words o e. settle_keeps_late before h id words o e is)

-- ---- sends

wanted_waited : (rounds first : ℕ) (fs : List (ℕ × Fate)) (os : List OpenPlace) → AreWaited rounds fs os
    → IfSome (first_wanted first os) (λ (w : Wanted). AreWaited rounds fs w.open_places)
wanted_waited rounds first fs [] are = tt
wanted_waited rounds first fs (o ∷ os) are =
    let P : Option Wanted → Type 0 = λ r. IfSome r (λ (w : Wanted). AreWaited rounds fs w.open_places) in
    let later : (r : Option Wanted) → P r → P (after_open o r) =
    λ r. elim r as (λ (x : Option Wanted). P x → P (after_open o x)) [
      | None ↦ λ _. tt
      | Some w ↦ λ is. (are.0, is)
    ] in
    either P o.resend _ _ (λ _. (are.0, are.1)) (λ _. either P o.control _ _ (λ _. (are.0, are.1))
    (λ _. later (first_wanted first os) (wanted_waited rounds first fs os are.1)))

wanted_is_waited : (rounds first : ℕ) (fs : List (ℕ × Fate)) (os : List OpenPlace) (w : Wanted)
    → first_wanted first os ≡ Some w → AreWaited rounds fs os → AreWaited rounds fs w.open_places
wanted_is_waited rounds first fs os w e are = subst
    (λ (r : Option Wanted). IfSome r (λ (x : Wanted). AreWaited rounds fs x.open_places)) e
    (wanted_waited rounds first fs os are)

-- one more place is sent
one_more_sent : (sent place : ℕ) → cond (is_sent_place (sent + 1) place) 1 0
    ≡ cond (is_sent_place sent place) 1 0 + times place ((sent + 1) ∷ [])
one_more_sent sent place = grind (arith, nat_tests)

first_place : (told : HandedOut) (os : List OpenPlace) (sent place n : ℕ)
    → standings told (places os) place ≡ n
    → standings told (places (os ++ opened_place (sent + 1) ∷ [])) place ≡ n + times place ((sent + 1) ∷ [])
first_place told os sent place n is =
    let push = ap (times place) (map-append place_of os (opened_place (sent + 1) ∷ []))
    ∙ times-append place (places os) ((sent + 1) ∷ []) in
    omega (arith, is, push)

pub sends_keeps_late : (before : HandedOut) (h : Hub) → AreOfTimedOut before h
    → IfSome (next_send h) (λ (n : Next). AreOfTimedOut before n.hub)
sends_keeps_late before h is = send_cases (λ (n : Next). AreOfTimedOut before n.hub) h
    (kept before (record h { status_wanted = false }) (record {
      waited = is.waited;
      timed_out = is.timed_out;
      each_place = is.each_place;
    }))
    (λ w e. kept before (record h { open_places = w.open_places }) (record {
      waited = wanted_is_waited h.rounds h.first (before.fates ++ h.fates) h.open_places w e is.waited;
      timed_out = is.timed_out;
      each_place = λ place. same_standings (hands_out before h) (places h.open_places) (places w.open_places) _ place
          (wanted_is_alike h.first h.open_places w e).places (is.each_place place);
    }))
    (λ o later e room. kept before (record h {
      sent = h.sent ++ o ∷ [];
      queue = later;
      open_places = h.open_places ++ opened_place (length h.sent + 1) ∷ [];
    }) (record {
      waited = AllByRecursion-append _ h.open_places _ is.waited ((λ not. absurd (cc)), tt);
      timed_out = is.timed_out;
      each_place = λ place.
          let len : length (h.sent ++ o ∷ []) ≡ length h.sent + 1 = omega (arith, length-append h.sent (o ∷ [])) in
          rw len (first_place (hands_out before h) h.open_places (length h.sent) place _ (is.each_place place)
          ∙ sym (one_more_sent (length h.sent) place));
    }))

pub send_keeps_late : (before : HandedOut) (h : Hub) (n : Next) → AreOfTimedOut before h → next_send h ≡ Some n
    → AreOfTimedOut before n.hub
send_keeps_late before h n is e = subst (λ (r : Option Next). IfSome r (λ (x : Next). AreOfTimedOut before x.hub)) e
    (sends_keeps_late before h is)

-- ---- what is handed out

-- the front of what a hub has is handed out, and the rest still waits
pub handed_keeps_late : (before front rest : HandedOut) (h : Hub) → front.fates ++ rest.fates ≡ h.fates
    → front.lates ++ rest.lates ≡ h.lates → AreOfTimedOut before h
    → AreOfTimedOut (and_then before front) (record h { fates = rest.fates; lates = rest.lates })
handed_keeps_late before front rest h f l is =
    let fates : (before.fates ++ front.fates) ++ rest.fates ≡ before.fates ++ h.fates =
    append_assoc before.fates front.fates rest.fates ∙ ap (λ (xs : List (ℕ × Fate)). before.fates ++ xs) f in
    let lates : (before.lates ++ front.lates) ++ rest.lates ≡ before.lates ++ h.lates =
    append_assoc before.lates front.lates rest.lates ∙ ap (λ (xs : List (ℕ × List ℕ)). before.lates ++ xs) l in
    kept (and_then before front) (record h { fates = rest.fates; lates = rest.lates }) (record {
      waited = rw fates is.waited;
      timed_out = rw (fates, lates) is.timed_out;
      each_place = λ place. rw (fates, lates) (is.each_place place);
    })

pub all_handed_keep_late : (before : HandedOut) (h : Hub) → AreOfTimedOut before h
    → AreOfTimedOut (hands_out before h) (after_handing_out h)
all_handed_keep_late before h = handed_keeps_late before (to_hand_out h) none_handed_out h (append-nil h.fates)
    (append-nil h.lates)

-- ---- runs

abbrev pub IsKeptIn : World → Type 0
IsKeptIn w = AreOfTimedOut (told_in w) w.hub

go_on_keeps_late : (w : World) (h : Hub) → AreOfTimedOut (told_in w) h → IsKeptIn (go_on w h)
go_on_keeps_late w h is =
    let sent = flush (pending h) (with_hub w h) in
    all_handed_keep_late (told_in sent) sent.hub
    (flush_keeps IsKeptIn (λ v. sends_keeps_late (told_in v) v.hub) (pending h) (with_hub w h) is)

step_keeps_late : (at : ℕ) (w : World) (m : WorldMove) → IsKeptIn w → IfOk (step at w m) IsKeptIn
step_keeps_late at w m is = step_cases IsKeptIn at w m
    (λ tag body _. go_on_keeps_late w (offer w.hub (record { tag = tag; body = body }))
    (offer_keeps_late (told_in w) w.hub (record { tag = tag; body = body }) is))
    (λ _. go_on_keeps_late w (hear_quiet w.hub) (quiet_keeps_late (told_in w) w.hub is))
    (λ i bytes _. go_on_keeps_late w (take_message w.hub (to_hub bytes))
    (message_keeps_late (told_in w) w.hub (to_hub bytes) is))
    (λ i bytes _. is)

pub none_late : (first window rounds : ℕ) → AreOfTimedOut none_handed_out (new_hub first window rounds)
none_late first window rounds = kept none_handed_out (new_hub first window rounds) (record {
  waited = tt;
  timed_out = tt;
  each_place = λ place. grind (arith, nat_tests);
})

pub run_is_late : (window rounds : ℕ) (board : Board) (air : List Datagram) (moves : List WorldMove) (w : World)
    → IsRun window rounds board air moves w → AreOfTimedOut (told_in w) w.hub
run_is_late window rounds board air moves w is =
    (subst (λ (r : Result World WorldEnd). IfOk r (λ (v : World). IsKeptIn v × Unit {0})) is.leads.ran
    (run_by IsKeptIn (λ _ _ _. Unit {0}) (λ _. tt) (λ _ _ _ _ _ _ _. tt)
    (λ at v m _ kept. ok_map (step at v m) IsKeptIn (λ (x : World). IsKeptIn x × Unit {0})
    (λ x o. (o, tt)) (step_keeps_late at v m kept))
    is.leads.at (start window rounds board air) moves is.leads.sendable
    (none_late board.first (min window board.buffers) rounds))).0
