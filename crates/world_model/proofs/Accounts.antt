-- Every offered body stands once among the fates, the places that are waited for and the queue.
use Rattle.std.proofs.Common.{◌≡◌, ℕ, zero, suc, ◌+◌, ◌≤◌, ◌==◌, Bool, true, false, cond, List, [], ◌∷◌, ◌++◌, length}
use Rattle.std.proofs.Common.{map, Option, Some, None, Result, refl, sym, ap, ◌∙◌, subst, arith, length-append}
use Rattle.std.specs.Prelude.{nat_lt, IfSome, IfOk}
use Rattle.std.proofs.lemmas.List.{map-append}
use Rattle.std.proofs.lemmas.Bool.{eqb-true, eq-eqb}
use Rattle.std.specs.List.{AllByRecursion, slice_get}
use Rattle.ipb_base.proofs.AllLemmas.{AllByRecursion-append}
use Rattle.packet_ids.specs.Identifier.{identifier_at}
use Rattle.world_model.specs.declared.datagram.Datagram.{Datagram}
use Rattle.world_model.specs.declared.offered.Offered.{Offered}
use Rattle.world_model.specs.declared.offered.OpenPlace.{OpenPlace}
use Rattle.world_model.specs.declared.offered.Fate.{Fate}
use Rattle.world_model.specs.declared.offered.Fate.TheVariants.{Replied, TimedOut, Unsent}
use Rattle.world_model.specs.declared.moves.WorldMove.{WorldMove}
use Rattle.world_model.specs.declared.moves.WorldMove.TheVariants.{Offer, Quiet, HubHears, BoardHears}
use Rattle.world_model.specs.declared.moves.WorldEnd.{WorldEnd}
use Rattle.world_model.specs.Places.{at_place}
use Rattle.world_model.specs.Messages.{ToHub, to_hub}
use Rattle.world_model.specs.Board.{Board}
use Rattle.world_model.specs.Hub.{Hub, want_control, offer, goes_before, insert_fate, tag_of, open_with, without}
use Rattle.world_model.specs.Hub.{settle, recover, take_message, abandoned_place, time_out, unsent_fate, give_up, hear_quiet}
use Rattle.world_model.specs.Hub.{insert_late, places}
use Rattle.world_model.specs.Sends.{Next, Wanted, after_open, first_wanted, opened_place, next_send, pending}
use Rattle.world_model.specs.World.{World, flush, handed_out, with_hub, go_on, step, run_moves, start}
use Rattle.world_model.specs.History.{IsMove, IsRun, IsHandedOut, IsAccounted, IsOffered, offers, times, tag_of_offered}
use Rattle.world_model.specs.History.{tag_of_fate, waited_tags, placed_tags}
use Rattle.world_model.proofs.Hubs.{places_map}
use Rattle.world_model.proofs.Lists.{either, at_front, at_exists, at_seam, all_get}
use Rattle.world_model.proofs.Flushing.{send_cases, flush_keeps, message_cases, quiet_cases, step_cases, run_by, ok_map}
use Rattle.world_model.proofs.Flushing.{run_out}

-- ---- how often a number stands in a list

pub times-append : (n : ℕ) (xs ys : List ℕ) → times n (xs ++ ys) ≡ times n xs + times n ys
times-append n [] ys = omega arith
times-append n (x ∷ xs) ys = omega (arith, times-append n xs ys)

-- ---- counts of fates: each fate counts by itself

pub record IsCount (F : List (ℕ × Fate) → ℕ) : Type 0 where
  pub none : F [] ≡ 0
  pub more : (fate : ℕ × Fate) (fates : List (ℕ × Fate)) → F (fate ∷ fates) ≡ F (fate ∷ []) + F fates

pub count_inserted : (F : List (ℕ × Fate) → ℕ) → IsCount F → (place : ℕ) (new : ℕ × Fate) (fates : List (ℕ × Fate))
    → F (insert_fate place new fates) ≡ F (new ∷ []) + F fates
count_inserted F is place new [] = omega (arith, is.none)
count_inserted F is place new (f ∷ fs) = either (λ (xs : List (ℕ × Fate)). F xs ≡ F (new ∷ []) + F (f ∷ fs))
    (goes_before place f.1) _ _
    (λ _. is.more new (f ∷ fs))
    (λ _. omega (arith, is.more f (insert_fate place new fs), is.more f fs, count_inserted F is place new fs))

pub count_append : (F : List (ℕ × Fate) → ℕ) → IsCount F → (xs ys : List (ℕ × Fate)) → F (xs ++ ys) ≡ F xs + F ys
count_append F is [] ys = omega (arith, is.none)
count_append F is (x ∷ xs) ys = omega (arith, is.more x (xs ++ ys), is.more x xs, count_append F is xs ys)

-- the fates of a tag, and those of them with a place
abbrev pub tagged_fates : ℕ → List (ℕ × Fate) → ℕ
tagged_fates tag fates = times tag (map tag_of_fate fates)

abbrev pub placed_fates : ℕ → List (ℕ × Fate) → ℕ
placed_fates tag fates = times tag (placed_tags fates)

pub tagged_count : (tag : ℕ) → IsCount (tagged_fates tag)
tagged_count tag = record { none = refl; more = λ f fs. omega arith }

placed_more : (tag : ℕ) (fate : ℕ × Fate) (fates : List (ℕ × Fate))
    → placed_fates tag (fate ∷ fates) ≡ placed_fates tag (fate ∷ []) + placed_fates tag fates
placed_more tag (t, Replied place words) fates = omega arith
placed_more tag (t, TimedOut place rounds) fates = omega arith
placed_more tag (t, Unsent) fates = omega arith

pub placed_count : (tag : ℕ) → IsCount (placed_fates tag)
placed_count tag = record { none = refl; more = placed_more tag }

-- ---- the tags of places that are waited for

abbrev pub waits : ℕ → List Offered → List OpenPlace → ℕ
waits tag sent os = times tag (waited_tags sent os)

-- open places that differ by what is wanted of them alone
pub record AreAlike (os qs : List OpenPlace) : Type 0 where
  pub places : places qs ≡ places os
  pub waited : (sent : List Offered) → waited_tags sent qs ≡ waited_tags sent os

alike_cons : (o q : OpenPlace) (os qs : List OpenPlace) → q.place ≡ o.place → q.waited ≡ o.waited → AreAlike os qs
    → AreAlike (o ∷ os) (q ∷ qs)
alike_cons o q os qs place waited is = record {
  places = ap (λ (p : ℕ). p ∷ places qs) place ∙ ap (λ (ps : List ℕ). o.place ∷ ps) is.places;
  waited = λ sent.
      ap (λ (p : ℕ). cond q.waited (tag_of (at_place sent p) ∷ waited_tags sent qs) (waited_tags sent qs)) place
      ∙ (ap (λ (b : Bool). cond b (tag_of (at_place sent o.place) ∷ waited_tags sent qs) (waited_tags sent qs)) waited
      ∙ ap (λ (tags : List ℕ). cond o.waited (tag_of (at_place sent o.place) ∷ tags) tags) (is.waited sent));
}

pub alike_same : (os : List OpenPlace) → AreAlike os os
alike_same os = record { places = refl; waited = λ _. refl }

pub alike_map : (f : OpenPlace → OpenPlace) (os : List OpenPlace)
    → ((o : OpenPlace) → ((f o).place ≡ o.place) × ((f o).waited ≡ o.waited)) → AreAlike os (map f os)
alike_map f [] same = alike_same []
alike_map f (o ∷ os) same = alike_cons o (f o) os (map f os) (same o).0 (same o).1 (alike_map f os same)

recover_alike : (told : ℕ) (o : OpenPlace) → ((recover told o).place ≡ o.place) × ((recover told o).waited ≡ o.waited)
recover_alike told o = either (λ (x : OpenPlace). (x.place ≡ o.place) × (x.waited ≡ o.waited)) (nat_lt o.place told) _ _
    (λ _. (refl, refl)) (λ _. (refl, refl))

alike_later : (o : OpenPlace) (os : List OpenPlace) (r : Option Wanted)
    → IfSome r (λ (w : Wanted). AreAlike os w.open_places)
    → IfSome (after_open o r) (λ (w : Wanted). AreAlike (o ∷ os) w.open_places)
alike_later o os None is = tt
alike_later o os (Some w) is = alike_cons o o os w.open_places refl refl is

wanted_alike : (first : ℕ) (os : List OpenPlace) → IfSome (first_wanted first os) (λ (w : Wanted). AreAlike os w.open_places)
wanted_alike first [] = tt
wanted_alike first (o ∷ os) = either (λ (r : Option Wanted). IfSome r (λ (w : Wanted). AreAlike (o ∷ os) w.open_places))
    o.resend _ _
    (λ _. alike_cons o (record o { resend = false }) os os refl refl (alike_same os))
    (λ _. either (λ (r : Option Wanted). IfSome r (λ (w : Wanted). AreAlike (o ∷ os) w.open_places)) o.control _ _
    (λ _. alike_cons o (record o { control = false }) os os refl refl (alike_same os))
    (λ _. alike_later o os (first_wanted first os) (wanted_alike first os)))

pub wanted_is_alike : (first : ℕ) (os : List OpenPlace) (w : Wanted) → first_wanted first os ≡ Some w
    → AreAlike os w.open_places
wanted_is_alike first os w e = subst (λ (r : Option Wanted). IfSome r (λ (x : Wanted). AreAlike os x.open_places)) e
    (wanted_alike first os)

none_waited : (sent : List Offered) (os : List OpenPlace) → waited_tags sent (map abandoned_place os) ≡ []
none_waited sent [] = refl
none_waited sent (o ∷ os) = none_waited sent os

waited-append : (sent : List Offered) (os qs : List OpenPlace)
    → waited_tags sent (os ++ qs) ≡ waited_tags sent os ++ waited_tags sent qs
waited-append sent [] qs = refl
waited-append sent (o ∷ os) qs = elim o.waited as (λ b. cond b
    (tag_of (at_place sent o.place) ∷ waited_tags sent (os ++ qs)) (waited_tags sent (os ++ qs))
    ≡ cond b (tag_of (at_place sent o.place) ∷ waited_tags sent os) (waited_tags sent os) ++ waited_tags sent qs) [
      | true ↦ ap (λ (tags : List ℕ). tag_of (at_place sent o.place) ∷ tags) (waited-append sent os qs)
      | false ↦ waited-append sent os qs
    ]

abbrev pub AreUpTo : ℕ → List ℕ → Type 0
AreUpTo last ps = AllByRecursion (λ (p : ℕ). p ≤ last) ps

same_place : (sent more : List Offered) (place : ℕ) → place ≤ length sent
    → at_place (sent ++ more) place ≡ at_place sent place
same_place sent more zero within = refl
same_place sent more (suc k) within = let x = at_exists sent (suc k) (omega arith) within in at_front sent more
    (suc k) x.0 x.1 ∙ sym x.1

waited_before : (sent more : List Offered) (os : List OpenPlace) → AreUpTo (length sent) (places os)
    → waited_tags (sent ++ more) os ≡ waited_tags sent os
waited_before sent more [] all = refl
waited_before sent more (o ∷ os) all =
    ap (λ (x : Option Offered). cond o.waited (tag_of x ∷ waited_tags (sent ++ more) os)
    (waited_tags (sent ++ more) os)) (same_place sent more o.place all.0)
    ∙ ap (λ (tags : List ℕ). cond o.waited (tag_of (at_place sent o.place) ∷ tags) tags)
    (waited_before sent more os all.1)

-- the place of a first send is waited for
waits_push : (tag : ℕ) (sent : List Offered) (o : Offered) (os : List OpenPlace) → AreUpTo (length sent) (places os)
    → waits tag (sent ++ o ∷ []) (os ++ opened_place (length sent + 1) ∷ []) ≡ waits tag sent os + times tag (o.tag ∷ [])
waits_push tag sent o os all =
    let more = sent ++ o ∷ [] in
    let here : tag_of (at_place more (length sent + 1)) ≡ o.tag = ap tag_of (at_seam sent [] o) in
    ap (times tag) (waited-append more os (opened_place (length sent + 1) ∷ []))
    ∙ (times-append tag (waited_tags more os) (tag_of (at_place more (length sent + 1)) ∷ [])
    ∙ (ap (λ (tags : List ℕ). times tag tags + times tag (tag_of (at_place more (length sent + 1)) ∷ []))
    (waited_before sent (o ∷ []) os all)
    ∙ ap (λ (t : ℕ). waits tag sent os + times tag (t ∷ [])) here))

-- ---- a place that is closed

-- the tags of one place, where it is waited for
abbrev pub waits_at : ℕ → List Offered → OpenPlace → ℕ
waits_at tag sent o = cond o.waited (times tag (tag_of (at_place sent o.place) ∷ [])) 0

waits_cons : (tag : ℕ) (sent : List Offered) (o : OpenPlace) (os : List OpenPlace)
    → waits tag sent (o ∷ os) ≡ waits_at tag sent o + waits tag sent os
waits_cons tag sent o os = elim o.waited as (λ b. times tag
    (cond b (tag_of (at_place sent o.place) ∷ waited_tags sent os) (waited_tags sent os)) ≡ cond b
    (times tag (tag_of (at_place sent o.place) ∷ [])) 0 + waits tag sent os) [
      | true ↦ omega arith
      | false ↦ omega arith
    ]

abbrev pub IsClosed : ℕ → ℕ → ℕ → List Offered → List OpenPlace → Option OpenPlace → Type 0
IsClosed tag first id sent os None = Unit {0}
IsClosed tag first id sent os (Some o) = ((identifier_at first o.place == id) ≡ true) ×
    (waits tag sent os ≡ waits_at tag sent o + waits tag sent (without o.place os))

closed_here : (tag first id : ℕ) (sent : List Offered) (o : OpenPlace) (os : List OpenPlace)
    → (identifier_at first o.place == id) ≡ true → IsClosed tag first id sent (o ∷ os) (Some o)
closed_here tag first id sent o os named = (named, rw (eq-eqb o.place o.place refl) (waits_cons tag sent o os))

-- the place that was found, and no other: another one with its number would have been found before it
closed_later : (tag first id : ℕ) (sent : List Offered) (o : OpenPlace) (os : List OpenPlace) (r : Option OpenPlace)
    → (identifier_at first o.place == id) ≡ false → IsClosed tag first id sent os r
    → IsClosed tag first id sent (o ∷ os) r
closed_later tag first id sent o os None other is = tt
closed_later tag first id sent o os (Some x) other is = (
  is.0,
  elim (o.place == x.place) as (λ b. (o.place == x.place) ≡ b
      → waits tag sent (o ∷ os) ≡ waits_at tag sent x + waits tag sent (cond b os (o ∷ without x.place os))) [
        | true ↦ λ e. absurd (let same = eqb-true o.place x.place e in let named : (identifier_at first o.place == id)
            ≡ true = rw same (is.0) in cc)
        | false ↦ λ _. omega (arith, waits_cons tag sent o os, waits_cons tag sent o (without x.place os), is.1)
      ] refl,
)

closed : (tag first id : ℕ) (sent : List Offered) (os : List OpenPlace)
    → IsClosed tag first id sent os (open_with first id os)
closed tag first id sent [] = tt
closed tag first id sent (o ∷ os) = either (IsClosed tag first id sent (o ∷ os)) (identifier_at first o.place == id) _ _
    (λ e. closed_here tag first id sent o os e)
    (λ e. closed_later tag first id sent o os (open_with first id os) e (closed tag first id sent os))

closed_is : (tag first id : ℕ) (sent : List Offered) (os : List OpenPlace) (o : OpenPlace)
    → open_with first id os ≡ Some o → waits tag sent os ≡ waits_at tag sent o + waits tag sent (without o.place os)
closed_is tag first id sent os o e = (subst (IsClosed tag first id sent os) e (closed tag first id sent os)).1

all_without : (P : ℕ → Type 0) (place : ℕ) (os : List OpenPlace) → AllByRecursion P (places os)
    → AllByRecursion P (places (without place os))
all_without P place [] all = tt
all_without P place (o ∷ os) all = elim (o.place == place)
    as (λ b. AllByRecursion P (places (cond b os (o ∷ without place os)))) [
      | true ↦ all.1
      | false ↦ (all.0, all_without P place os all.1)
    ]

-- ---- a give-up

time_out_count : (F : List (ℕ × Fate) → ℕ) (tag rounds : ℕ) → IsCount F
    → ((t place : ℕ) → F ((t, TimedOut place rounds) ∷ []) ≡ times tag (t ∷ []))
    → (sent : List Offered) (os : List OpenPlace) (fates : List (ℕ × Fate))
    → F (time_out rounds sent os fates) ≡ F fates + waits tag sent os
time_out_count F tag rounds is one sent [] fates = omega arith
time_out_count F tag rounds is one sent (o ∷ os) fates =
    let t = tag_of (at_place sent o.place) in
    let new : ℕ × Fate = (t, TimedOut o.place rounds) in
    elim o.waited as (λ b. F (time_out rounds sent os (cond b (insert_fate o.place new fates) fates))
    ≡ F fates + times tag (cond b (t ∷ waited_tags sent os) (waited_tags sent os))) [
      | true ↦ omega (
        arith,
        time_out_count F tag rounds is one sent os (insert_fate o.place new fates),
        count_inserted F is o.place new fates,
        one t o.place,
      )
      | false ↦ time_out_count F tag rounds is one sent os fates
    ]

unsent_tags : (queue : List Offered) → map tag_of_fate (map unsent_fate queue) ≡ map tag_of_offered queue
unsent_tags [] = refl
unsent_tags (o ∷ os) = ap (λ (tags : List ℕ). o.tag ∷ tags) (unsent_tags os)

unsent_unplaced : (queue : List Offered) → placed_tags (map unsent_fate queue) ≡ []
unsent_unplaced [] = refl
unsent_unplaced (o ∷ os) = unsent_unplaced os

-- ---- the account of a hub and of the fates that were handed out

pub record IsBalanced (tag offered : ℕ) (told : List (ℕ × Fate)) (h : Hub) : Type 0 where
  pub up_to : AreUpTo (length h.sent) (places h.open_places)
  pub all : offered ≡ tagged_fates tag told + tagged_fates tag h.fates + waits tag h.sent h.open_places + times tag
      (map tag_of_offered h.queue)
  pub placed : times tag (map tag_of_offered h.sent) ≡ placed_fates tag told + placed_fates tag h.fates + waits tag
      h.sent h.open_places

-- events that change only what is wanted of open places
balanced_alike : (tag offered : ℕ) (told : List (ℕ × Fate)) (h : Hub) (os : List OpenPlace) → AreAlike h.open_places os
    → IsBalanced tag offered told h → IsBalanced tag offered told (record h { open_places = os })
balanced_alike tag offered told h os same is = record {
  up_to = subst (AreUpTo (length h.sent)) (sym same.places) is.up_to;
  all = omega (arith, is.all, ap (times tag) (same.waited h.sent));
  placed = omega (arith, is.placed, ap (times tag) (same.waited h.sent));
}

pub offer_balanced : (tag offered : ℕ) (told : List (ℕ × Fate)) (h : Hub) (o : Offered) → IsBalanced tag offered told h
    → IsBalanced tag (offered + times tag (o.tag ∷ [])) told (offer h o)
offer_balanced tag offered told h o is =
    let more = map-append tag_of_offered h.queue (o ∷ []) in
    let all = ap (times tag) more ∙ times-append tag (map tag_of_offered h.queue) (o.tag ∷ []) in
    let queued : IsBalanced tag (offered + times tag (o.tag ∷ [])) told
    (record h { queue = h.queue ++ o ∷ []; gave_up = false }) = record {
      up_to = is.up_to;
      all = omega (arith, is.all, all);
      placed = is.placed;
    } in
    either (λ (os : List OpenPlace). IsBalanced tag (offered + times tag (o.tag ∷ [])) told
    (record h { queue = h.queue ++ o ∷ []; open_places = os; gave_up = false })) h.gave_up _ _
    (λ _. balanced_alike tag _ told (record h { queue = h.queue ++ o ∷ []; gave_up = false })
    (map want_control h.open_places) (alike_map want_control h.open_places (λ _. (refl, refl))) queued)
    (λ _. queued)

settle_balanced : (tag offered : ℕ) (told : List (ℕ × Fate)) (h : Hub) (id : ℕ) (words : List ℕ) (o : OpenPlace)
    → open_with h.first id h.open_places ≡ Some o → IsBalanced tag offered told h
    → IsBalanced tag offered told (settle h words (Some o))
settle_balanced tag offered told h id words o e is =
    let t = tag_of (at_place h.sent o.place) in
    let new : ℕ × Fate = (t, Replied o.place words) in
    let gone = without o.place h.open_places in
    let left = closed_is tag h.first id h.sent h.open_places o e in
    let by : (b : Bool) → waits tag h.sent h.open_places ≡ cond b (times tag (t ∷ [])) 0 + waits tag h.sent gone
    → IsBalanced tag offered told (record h {
      open_places = gone;
      status_requests = 0;
      fates = cond b (insert_fate o.place new h.fates) h.fates;
      lates = cond b h.lates (insert_late (o.place, words) h.lates);
    }) =
    λ b. elim b as (λ (x : Bool). waits tag h.sent h.open_places ≡ cond x (times tag (t ∷ [])) 0 + waits tag h.sent gone
    → IsBalanced tag offered told (record h {
      open_places = gone;
      status_requests = 0;
      fates = cond x (insert_fate o.place new h.fates) h.fates;
      lates = cond x h.lates (insert_late (o.place, words) h.lates);
    })) [
      | true ↦ λ k. record {
        up_to = all_without (λ (p : ℕ). p ≤ length h.sent) o.place h.open_places is.up_to;
        all = omega (arith, is.all, k, count_inserted (tagged_fates tag) (tagged_count tag) o.place new h.fates);
        placed = omega (arith, is.placed, k, count_inserted (placed_fates tag) (placed_count tag) o.place new h.fates);
      }
      | false ↦ λ k. record {
        up_to = all_without (λ (p : ℕ). p ≤ length h.sent) o.place h.open_places is.up_to;
        all = omega (arith, is.all, k);
        placed = omega (arith, is.placed, k);
      }
    ] in
    by o.waited left

pub message_balanced : (tag offered : ℕ) (told : List (ℕ × Fate)) (h : Hub) (m : Option ToHub)
    → IsBalanced tag offered told h → IsBalanced tag offered told (take_message h m)
message_balanced tag offered told h m is = message_cases (IsBalanced tag offered told) h m is
    (λ at. balanced_alike tag offered told h (map (recover at) h.open_places)
    (alike_map (recover at) h.open_places (recover_alike at)) is)
    (λ id words o e. settle_balanced tag offered told h id words o e is)

give_up_balanced : (tag offered : ℕ) (told : List (ℕ × Fate)) (h : Hub) → IsBalanced tag offered told h
    → IsBalanced tag offered told (give_up h)
give_up_balanced tag offered told h is =
    let late = time_out h.rounds h.sent h.open_places h.fates in
    let none = ap (times tag) (none_waited h.sent h.open_places) in
    let same = places_map abandoned_place h.open_places (λ _. refl) in
    record {
      up_to = subst (AreUpTo (length h.sent)) (sym same) is.up_to;
      all = omega (
        arith,
        is.all,
        none,
        count_append (tagged_fates tag) (tagged_count tag) late (map unsent_fate h.queue),
        ap (times tag) (unsent_tags h.queue),
        time_out_count (tagged_fates tag) tag h.rounds (tagged_count tag) (λ _ _. refl) h.sent h.open_places h.fates,
      );
      placed = omega (
        arith,
        is.placed,
        none,
        count_append (placed_fates tag) (placed_count tag) late (map unsent_fate h.queue),
        ap (times tag) (unsent_unplaced h.queue),
        time_out_count (placed_fates tag) tag h.rounds (placed_count tag) (λ _ _. refl) h.sent h.open_places h.fates,
      );
    }

pub quiet_balanced : (tag offered : ℕ) (told : List (ℕ × Fate)) (h : Hub) → IsBalanced tag offered told h
    → IsBalanced tag offered told (hear_quiet h)
quiet_balanced tag offered told h is = quiet_cases (IsBalanced tag offered told) h
    (λ _. record { up_to = is.up_to; all = is.all; placed = is.placed })
    (λ _. give_up_balanced tag offered told h is)

-- ---- sends

up_to_push : (last next : ℕ) (os : List OpenPlace) (o : OpenPlace) → last ≤ next → o.place ≤ next
    → AreUpTo last (places os) → AreUpTo next (places (os ++ o ∷ []))
up_to_push last next [] o more within all = (within, tt)
up_to_push last next (x ∷ os) o more within all = (omega (arith, all.0), up_to_push last next os o more within all.1)

first_balanced : (tag offered : ℕ) (told : List (ℕ × Fate)) (h : Hub) (o : Offered) (later : List Offered)
    → h.queue ≡ o ∷ later → IsBalanced tag offered told h
    → IsBalanced tag offered told (record h {
      sent = h.sent ++ o ∷ [];
      queue = later;
      open_places = h.open_places ++ opened_place (length h.sent + 1) ∷ [];
    })
first_balanced tag offered told h o later e is =
    let len = length-append h.sent (o ∷ []) in
    let front = ap (λ (queue : List Offered). times tag (map tag_of_offered queue)) e in
    let sent = ap (times tag) (map-append tag_of_offered h.sent (o ∷ []))
    ∙ times-append tag (map tag_of_offered h.sent) (o.tag ∷ []) in
    let waited = waits_push tag h.sent o h.open_places is.up_to in
    record {
      up_to = up_to_push (length h.sent) (length (h.sent ++ o ∷ [])) h.open_places (opened_place (length h.sent + 1))
          (omega arith) (omega arith) is.up_to;
      all = omega (arith, is.all, front, waited);
      placed = omega (arith, is.placed, sent, waited);
    }

pub sends_balanced : (tag offered : ℕ) (told : List (ℕ × Fate)) (h : Hub) → IsBalanced tag offered told h
    → IfSome (next_send h) (λ (n : Next). IsBalanced tag offered told n.hub)
sends_balanced tag offered told h is = send_cases (λ (n : Next). IsBalanced tag offered told n.hub) h
    (record { up_to = is.up_to; all = is.all; placed = is.placed })
    (λ x e. balanced_alike tag offered told h x.open_places (wanted_is_alike h.first h.open_places x e) is)
    (λ o later e _. first_balanced tag offered told h o later e is)

abbrev pub IsBalancedWorld : ℕ → ℕ → World → Type 0
IsBalancedWorld tag offered w = IsBalanced tag offered w.fates w.hub

handed_balanced : (tag offered : ℕ) (w : World) → IsBalancedWorld tag offered w
    → IsBalancedWorld tag offered (handed_out w)
handed_balanced tag offered w is = record {
  up_to = is.up_to;
  all = omega (arith, is.all, count_append (tagged_fates tag) (tagged_count tag) w.fates w.hub.fates);
  placed = omega (arith, is.placed, count_append (placed_fates tag) (placed_count tag) w.fates w.hub.fates);
}

go_on_balanced : (tag offered : ℕ) (w : World) (h : Hub) → IsBalanced tag offered w.fates h
    → IsBalancedWorld tag offered (go_on w h)
go_on_balanced tag offered w h is = handed_balanced tag offered (flush (pending h) (with_hub w h))
    (flush_keeps (IsBalancedWorld tag offered) (λ v. sends_balanced tag offered v.fates v.hub) (pending h)
    (with_hub w h) is)

-- ---- moves

abbrev pub Balances : ℕ → List WorldMove → World → World → Type 0
Balances tag ms w new = (offered : ℕ) → IsBalancedWorld tag offered w
    → IsBalancedWorld tag (offered + times tag (offers ms)) new

none_offered : (tag offered : ℕ) (w : World) → IsBalancedWorld tag offered w → IsBalancedWorld tag (offered + 0) w
none_offered tag offered w is = record { up_to = is.up_to; all = omega (arith, is.all); placed = is.placed }

step_balances : (tag at : ℕ) (w : World) (m : WorldMove) → IfOk (step at w m) (Balances tag (m ∷ []) w)
step_balances tag at w m = step_cases (Balances tag (m ∷ []) w) at w m
    (λ t body e. rw e (λ offered is. go_on_balanced tag _ w (offer w.hub (record { tag = t; body = body }))
    (offer_balanced tag offered w.fates w.hub (record { tag = t; body = body }) is)))
    (λ e. rw e (λ offered is. none_offered tag offered (go_on w (hear_quiet w.hub))
    (go_on_balanced tag offered w (hear_quiet w.hub) (quiet_balanced tag offered w.fates w.hub is))))
    (λ i bytes e. rw e (λ offered is. none_offered tag offered (go_on w (take_message w.hub (to_hub bytes)))
    (go_on_balanced tag offered w (take_message w.hub (to_hub bytes))
    (message_balanced tag offered w.fates w.hub (to_hub bytes) is))))
    (λ i bytes e. rw e (λ offered is. record { up_to = is.up_to; all = omega (arith, is.all); placed = is.placed }))

offers_cons : (tag : ℕ) (m : WorldMove) (ms : List WorldMove)
    → times tag (offers (m ∷ ms)) ≡ times tag (offers (m ∷ [])) + times tag (offers ms)
offers_cons tag (Offer t body) ms = omega arith
offers_cons tag Quiet ms = omega arith
offers_cons tag (HubHears i) ms = omega arith
offers_cons tag (BoardHears i) ms = omega arith

balances_then : (tag : ℕ) (m : WorldMove) (ms : List WorldMove) (a b c : World) → Balances tag (m ∷ []) a b
    → Balances tag ms b c → Balances tag (m ∷ ms) a c
balances_then tag m ms a b c one two offered is =
    subst (λ (n : ℕ). IsBalancedWorld tag n c) (omega (arith, offers_cons tag m ms))
    (two (offered + times tag (offers (m ∷ []))) (one offered is))

run_balances : (tag at : ℕ) (w : World) (ms : List WorldMove) → AllByRecursion IsMove ms
    → IfOk (run_moves at w ms) (λ (v : World). Unit {0} × Balances tag ms w v)
run_balances tag at w ms can = run_by (λ _. Unit {0}) (Balances tag)
    (λ v offered is. none_offered tag offered v is) (balances_then tag)
    (λ n v m _ _. ok_map (step n v m) (Balances tag (m ∷ []) v) (λ (x : World). Unit {0} × Balances tag (m ∷ []) v x)
    (λ x b. (tt, b)) (step_balances tag n v m)) at w ms can tt

pub accounted : (window rounds : ℕ) (board : Board) (air : List Datagram) (moves : List WorldMove) (w : World) (tag : ℕ)
    → IsRun window rounds board air moves w → IsAccounted moves w tag
accounted window rounds board air moves w tag is =
    let ran = subst (λ (r : Result World WorldEnd). IfOk r
    (λ (v : World). Unit {0} × Balances tag moves (start window rounds board air) v)) is.leads.ran
    (run_balances tag is.leads.at (start window rounds board air) moves is.leads.sendable) in
    let all = ran.1 0 (record { up_to = tt; all = refl; placed = refl }) in
    let out = (run_out window rounds board air moves w is).1.fates in
    let tagged = ap (tagged_fates tag) out in
    let placed = ap (placed_fates tag) out in
    record {
      offered = omega (arith, all.all, tagged);
      sent = omega (arith, all.placed, placed);
    }

-- ---- what follows

placed_fewer : (tag : ℕ) (fates : List (ℕ × Fate)) → placed_fates tag fates ≤ tagged_fates tag fates
placed_fewer tag [] = omega arith
placed_fewer tag ((t, Replied place words) ∷ fates) = let h = placed_fewer tag fates in omega arith
placed_fewer tag ((t, TimedOut place rounds) ∷ fates) = let h = placed_fewer tag fates in omega arith
placed_fewer tag ((t, Unsent) ∷ fates) = let h = placed_fewer tag fates in omega arith

-- a body that is unsent has a fate and no place
unsent_fewer : (tag number : ℕ) (fates : List (ℕ × Fate)) → slice_get fates number ≡ Some (tag, Unsent)
    → placed_fates tag fates + 1 ≤ tagged_fates tag fates
unsent_fewer tag number [] e = absurd (cc)
unsent_fewer tag zero (f ∷ fates) e =
    let same : f ≡ (tag, Unsent) = cc in
    rw same (rw (eq-eqb tag tag refl) (let h = placed_fewer tag fates in omega arith))
unsent_fewer tag (suc number) (f ∷ fates) e =
    omega (
      arith,
      unsent_fewer tag number fates e,
      placed_more tag f fates,
      (tagged_count tag).more f fates,
      placed_fewer tag (f ∷ []),
    )

pub few_fates : (moves : List WorldMove) (w : World) (tag : ℕ) → IsAccounted moves w tag
    → tagged_fates tag w.fates ≤ times tag (offers moves)
few_fates moves w tag is = omega (arith, is.offered)

pub few_places : (moves : List WorldMove) (w : World) (tag : ℕ) → IsAccounted moves w tag
    → times tag (map tag_of_offered w.hub.sent) ≤ times tag (offers moves)
few_places moves w tag is = omega (arith, is.offered, is.sent, placed_fewer tag w.fates)

pub never_sent : (moves : List WorldMove) (w : World) (tag : ℕ) → IsAccounted moves w tag → times tag (offers moves) ≡ 1
    → IsHandedOut w tag Unsent → times tag (map tag_of_offered w.hub.sent) ≡ 0
never_sent moves w tag is once told = omega (
  arith,
  is.offered,
  is.sent,
  once,
  unsent_fewer tag told.number w.fates told.there,
)

-- ---- a place has an offered body

abbrev pub AllOffered : (Offered → Type 0) → World → Type 0
AllOffered P w = AllByRecursion P w.hub.sent × AllByRecursion P w.hub.queue

go_on_offered : (P : Offered → Type 0) (w : World) (h : Hub) → AllByRecursion P h.sent → AllByRecursion P h.queue
    → AllOffered P (go_on w h)
go_on_offered P w h sent queue = flush_keeps (AllOffered P)
    (λ v is. send_cases (λ (n : Next). AllByRecursion P n.hub.sent × AllByRecursion P n.hub.queue) v.hub is (λ _ _. is)
    (λ o later e _. let all = subst (AllByRecursion P) e is.1 in
    (AllByRecursion-append P v.hub.sent (o ∷ []) is.0 (all.0, tt), all.1)))
    (pending h) (with_hub w h) (sent, queue)

abbrev pub Both : (Offered → Type 0) → Hub → Type 0
Both P h = AllByRecursion P h.sent × AllByRecursion P h.queue

abbrev pub IsOfferIn : (Offered → Type 0) → List WorldMove → Type 0
IsOfferIn P ms = (number tag : ℕ) (body : List ℕ) → slice_get ms number ≡ Some (Offer tag body)
    → P (record { tag = tag; body = body })

abbrev pub KeepsOffered : (Offered → Type 0) → List WorldMove → World → World → Type 0
KeepsOffered P ms w new = IsOfferIn P ms → AllOffered P w → AllOffered P new

step_offered : (P : Offered → Type 0) (at : ℕ) (w : World) (m : WorldMove)
    → IfOk (step at w m) (KeepsOffered P (m ∷ []) w)
step_offered P at w m = step_cases (KeepsOffered P (m ∷ []) w) at w m
    (λ t body e all is. go_on_offered P w (offer w.hub (record { tag = t; body = body })) is.0
    (AllByRecursion-append P w.hub.queue (record { tag = t; body = body } ∷ []) is.1
    (all 0 t body (ap (λ (x : WorldMove). Some x) e), tt)))
    (λ e all is. let b = quiet_cases (Both P) w.hub (λ _. is)
    (λ _. (is.0, tt)) in go_on_offered P w (hear_quiet w.hub) b.0 b.1)
    (λ i bytes e all is. let b = message_cases (Both P) w.hub (to_hub bytes) is (λ _. is)
    (λ _ _ _ _. is) in go_on_offered P w (take_message w.hub (to_hub bytes)) b.0 b.1)
    (λ i bytes e all is. is)

first_of_moves : (P : Offered → Type 0) (m : WorldMove) (ms : List WorldMove) → IsOfferIn P (m ∷ ms)
    → IsOfferIn P (m ∷ [])
first_of_moves P m ms all zero tag body e = all 0 tag body e
first_of_moves P m ms all (suc number) tag body e = absurd (cc)

offered_then : (P : Offered → Type 0) (m : WorldMove) (ms : List WorldMove) (a b c : World)
    → KeepsOffered P (m ∷ []) a b → KeepsOffered P ms b c → KeepsOffered P (m ∷ ms) a c
offered_then P m ms a b c one two all is = two (λ number tag body e. all (suc number) tag body e)
    (one (first_of_moves P m ms all) is)

run_offered : (P : Offered → Type 0) (at : ℕ) (w : World) (ms : List WorldMove) → AllByRecursion IsMove ms
    → IfOk (run_moves at w ms) (λ (v : World). Unit {0} × KeepsOffered P ms w v)
run_offered P at w ms can = run_by (λ _. Unit {0}) (KeepsOffered P) (λ v all is. is) (offered_then P)
    (λ n v m _ _. ok_map (step n v m) (KeepsOffered P (m ∷ []) v)
    (λ (x : World). Unit {0} × KeepsOffered P (m ∷ []) v x) (λ x b. (tt, b)) (step_offered P n v m)) at w ms can tt

at_all : (P : Offered → Type 0) (sent : List Offered) (place : ℕ) (o : Offered) → AllByRecursion P sent
    → at_place sent place ≡ Some o → P o
at_all P sent zero o all e = absurd (cc)
at_all P sent (suc k) o all e = all_get P sent k o all e

pub offered_there : (window rounds : ℕ) (board : Board) (air : List Datagram) (moves : List WorldMove) (w : World)
    (place : ℕ) (o : Offered) → IsRun window rounds board air moves w → at_place w.hub.sent place ≡ Some o
    → IsOffered moves o
offered_there window rounds board air moves w place o is e =
    let P : Offered → Type 0 = IsOffered moves in
    let ran = subst (λ (r : Result World WorldEnd). IfOk r
    (λ (v : World). Unit {0} × KeepsOffered P moves (start window rounds board air) v)) is.leads.ran
    (run_offered P is.leads.at (start window rounds board air) moves is.leads.sendable) in
    let all = ran.1 (λ number tag body there. record { number = number; move = there }) (tt, tt) in
    at_all P w.hub.sent place o all.0 e
