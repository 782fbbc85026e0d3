-- Lemmas on what a hub hears: outcomes come, by replies or by a give-up, and with them it agrees.
use Rattle.std.proofs.Common.{◌≡◌, ℕ, zero, suc, ◌+◌, ◌≤◌, Bool, true, false, cond, ◌==◌, List, [], ◌∷◌, ◌++◌}
use Rattle.std.proofs.Common.{length, map, Option, Some, None}
use Rattle.std.proofs.Common.{refl, sym, ap, ◌∙◌, subst, arith, append_assoc, inl, inr, if◌then◌else◌}
use Rattle.std.specs.Prelude.{nat_lt}
use Rattle.std.proofs.lemmas.List.{length-map, append-nil}
use Rattle.std.proofs.lemmas.Bool.{eqb-true, eq-eqb, ltb-true, false_from_ne_true}
use Rattle.std.specs.List.{AllByRecursion, slice_get}
use Rattle.packet_ids.specs.Identifier.{identifier_at}
use Rattle.world_model.specs.declared.offered.Offered.{Offered}
use Rattle.world_model.specs.declared.offered.OpenPlace.{OpenPlace}
use Rattle.world_model.specs.declared.offered.Fate.{Fate}
use Rattle.world_model.specs.declared.offered.Fate.TheVariants as fate
use Rattle.world_model.specs.Messages.{ToHub, StatusReply, Reply}
use Rattle.world_model.specs.Hub.{Hub, without, open_with, settle, hear_reply, recover, after_recovery}
use Rattle.world_model.specs.Hub.{told_place, hear_status, take_message}
use Rattle.world_model.specs.Hub.{time_out, unsent_fate, give_up, want_status, hear_quiet, want_control, offer}
use Rattle.world_model.specs.Hub.{insert_fate, goes_before}
use Rattle.world_model.specs.Hub.{places, place_of as place_open, least}
use Rattle.world_model.specs.Facts.{IsWindow, AreRising}
use Rattle.ipb_base.proofs.AllLemmas.{AllByRecursion-append}
use Rattle.world_model.proofs.Lists.{either}
use Rattle.lane_record.specs.declared.outcome.Outcome.{Outcome}
use Rattle.lane_record.specs.declared.outcome.Outcome.TheVariants.{Replied, TimedOut, Unsent}
use Rattle.lane_record.specs.Outcomes.{is_replied, is_given_up, is_timed_out}
use Rattle.lane_record.specs.Claims.{Claim}
use Rattle.lane_record.specs.Bounds.{timeouts}
use Rattle.lane_record.specs.Offers.{awaited_tags, tag_at, tags, Agrees, put}
use Rattle.lane_record.specs.Offers.{put_all, outcome_of, AreOutcomes, KeepsOutcomes, AddsOnly, Settles}
use Rattle.lane_record.proofs.Offers.{unsettled_none}
use Rattle.lane_record.proofs.Offers.{keeps_put, adds_put, timeouts_put}
use Rattle.lane_record.proofs.Events.{IsOpened, window_opened, awaited_append, none_awaited, waits_at}
use Rattle.lane_record.proofs.Events.{settled_agrees, unsent_agrees, offer_agrees, mapped_agrees}

-- ---- outcomes that come

-- what stays and what is new, from one list of outcomes to another
pub record Goes (old new : List (Option Outcome)) (kind : Outcome → Bool) (most : ℕ) : Type 0 where
  pub keeps : KeepsOutcomes old new
  pub adds : AddsOnly kind old new
  pub few : timeouts new ≤ timeouts old + most

goes_none : (outs : List (Option Outcome)) (kind : Outcome → Bool) (most : ℕ) → Goes outs outs kind most
goes_none outs kind most = record { keeps = λ k o e. e; adds = λ k o e. inl e; few = omega arith }

goes_on : (a b c : List (Option Outcome)) (kind : Outcome → Bool) (n m : ℕ) → Goes a b kind n → Goes b c kind m
    → Goes a c kind (n + m)
goes_on a b c kind n m x y = record {
  keeps = λ k o e. y.keeps k o (x.keeps k o e);
  adds = λ k o e. elim (y.adds k o e) [ inl h ↦ x.adds k o h | inr h ↦ inr h ];
  few = omega (arith, x.few, y.few);
}

goes_put : (outs : List (Option Outcome)) (k : ℕ) (o : Outcome) (kind : Outcome → Bool)
    → slice_get outs k ≡ Some None → kind o ≡ true → Goes outs (put k o outs) kind 1
goes_put outs k o kind none is = record {
  keeps = keeps_put k o outs none;
  adds = adds_put kind k o outs is;
  few = (let t = timeouts_put k o outs none in elim (is_timed_out o) as
      (λ b. timeouts (put k o outs) ≡ (if b then 1 else 0) + timeouts outs
      → timeouts (put k o outs) ≤ timeouts outs + 1) [
        | true ↦ λ t. omega (arith, t)
        | false ↦ λ t. omega (arith, t)
      ] t);
}

goes_put_other : (outs : List (Option Outcome)) (k : ℕ) (o : Outcome) (kind : Outcome → Bool)
    → slice_get outs k ≡ Some None → kind o ≡ true → is_timed_out o ≡ false → Goes outs (put k o outs) kind 0
goes_put_other outs k o kind none is other = record {
  keeps = keeps_put k o outs none;
  adds = adds_put kind k o outs is;
  few = (let t : timeouts (put k o outs) ≡ (if false then 1 else 0) + timeouts outs = subst
      (λ (b : Bool). timeouts (put k o outs) ≡ (if b then 1 else 0) + timeouts outs) other
      (timeouts_put k o outs none) in omega (arith, t));
}

-- outcomes that stay are told as before
pub still_told : (old new : List (Option Outcome)) (fates : List (ℕ × Fate)) → KeepsOutcomes old new
    → AreOutcomes fates old → AreOutcomes fates new
still_told old new [] keeps are = tt
still_told old new (f ∷ fs) keeps are =
    (keeps f.0 (outcome_of f.1) are.0, still_told old new fs keeps are.1)

put_there : (k : ℕ) (o : Outcome) (outs : List (Option Outcome)) → slice_get outs k ≡ Some None
    → slice_get (put k o outs) k ≡ Some (Some o)
put_there k o [] none = absurd (cc)
put_there zero o (x ∷ outs) none = refl
put_there (suc k) o (x ∷ outs) none = put_there k o outs none

-- no fates are there
same_settles : (hub : Hub) (cs : List Claim) (outs : List (Option Outcome)) (kind : Outcome → Bool) (most : ℕ)
    → hub.fates ≡ [] → Agrees hub.sent hub.queue hub.open_places cs outs → Settles hub cs outs kind most
same_settles hub cs outs kind most none is =
    let g = goes_none outs kind most in
    let e : put_all hub.fates outs ≡ outs = ap (λ (fs : List (ℕ × Fate)). put_all fs outs) none in
    record {
      agrees = subst (Agrees hub.sent hub.queue hub.open_places cs) (sym e) is;
      told = subst (λ (fs : List (ℕ × Fate)). AreOutcomes fs (put_all hub.fates outs)) (sym none) tt;
      keeps = subst (KeepsOutcomes outs) (sym e) g.keeps;
      adds = subst (AddsOnly kind outs) (sym e) g.adds;
      few = subst (λ (os : List (Option Outcome)). timeouts os ≤ timeouts outs + most) (sym e) g.few;
    }

settles_by : (hub : Hub) (cs : List Claim) (outs new : List (Option Outcome)) (kind : Outcome → Bool) (most : ℕ)
    → put_all hub.fates outs ≡ new → Agrees hub.sent hub.queue hub.open_places cs new → AreOutcomes hub.fates new
    → Goes outs new kind most → Settles hub cs outs kind most
settles_by hub cs outs new kind most e is told g = record {
  agrees = subst (Agrees hub.sent hub.queue hub.open_places cs) (sym e) is;
  told = subst (AreOutcomes hub.fates) (sym e) told;
  keeps = subst (KeepsOutcomes outs) (sym e) g.keeps;
  adds = subst (AddsOnly kind outs) (sym e) g.adds;
  few = subst (λ (os : List (Option Outcome)). timeouts os ≤ timeouts outs + most) (sym e) g.few;
}

-- ---- a reply

pub record IsSplit (os : List OpenPlace) (o : OpenPlace) : Type 0 where
  pub front : List OpenPlace
  pub back : List OpenPlace
  pub is : os ≡ front ++ o ∷ back
  pub rest : without o.place os ≡ front ++ back

abbrev pub FoundIn : ℕ → ℕ → List OpenPlace → Option OpenPlace → Type 0
FoundIn first id os None = Unit {0}
FoundIn first id os (Some o) = IsSplit os o × (identifier_at first o.place ≡ id)

found_later : (first id : ℕ) (o : OpenPlace) (os : List OpenPlace) (r : Option OpenPlace)
    → (identifier_at first o.place == id) ≡ false → FoundIn first id os r → FoundIn first id (o ∷ os) r
found_later first id o os None not_it f = tt
found_later first id o os (Some x) not_it f = (
  record {
    front = o ∷ f.0.front;
    back = f.0.back;
    is = ap (λ (l : List OpenPlace). o ∷ l) f.0.is;
    rest = either (λ (l : List OpenPlace). l ≡ o ∷ (f.0.front ++ f.0.back)) (o.place == x.place) os
        (o ∷ without x.place os)
        (λ e. let same : o.place ≡ x.place = eqb-true o.place x.place e in
        let t : (identifier_at first o.place == id) ≡ true = eq-eqb (identifier_at first o.place) id
        (ap (identifier_at first) same ∙ f.1) in absurd (cc))
        (λ _. ap (λ (l : List OpenPlace). o ∷ l) f.0.rest);
  },
  f.1,
)

found_in : (first id : ℕ) (os : List OpenPlace) → FoundIn first id os (open_with first id os)
found_in first id [] = tt
found_in first id (o ∷ os) = either (FoundIn first id (o ∷ os)) (identifier_at first o.place == id) (Some o)
    (open_with first id os)
    (λ e. (
      record { front = []; back = os; is = refl; rest = rw (eq-eqb o.place o.place refl) refl },
      eqb-true
          (identifier_at first o.place) id e,
    ))
    (λ e. found_later first id o os (open_with first id os) e (found_in first id os))

all_at : {A : Type 0} (P : A → Type 0) (xs : List A) (x : A) (ys : List A) → AllByRecursion P (xs ++ x ∷ ys) → P x
all_at P [] x ys all = all.0
all_at P (z ∷ xs) x ys all = all_at P xs x ys all.1

-- an open place that nobody waits for may be closed
unwaited_agrees : (sent queue : List Offered) (front back : List OpenPlace) (o : OpenPlace) (cs : List Claim)
    (outs : List (Option Outcome)) → o.waited ≡ false → Agrees sent queue (front ++ o ∷ back) cs outs
    → Agrees sent queue (front ++ back) cs outs
unwaited_agrees sent queue front back o cs outs waits is = record {
  counts = is.counts;
  offered = is.offered;
  waits = ap (λ (l : List ℕ). l ++ tags queue) (awaited_append sent front back
      ∙ sym (awaited_append sent front (o ∷ back) ∙ ap (λ (b : Bool). awaited_tags sent front ++ cond b
      (tag_at sent o.place ∷ awaited_tags sent back) (awaited_tags sent back)) waits)) ∙ is.waits;
}

-- the fates of a settled place, and the outcomes with them
settled_fates : (hub : Hub) (words : List ℕ) (o : OpenPlace) (b : Bool) → o.waited ≡ b → hub.fates ≡ []
    → (settle hub words (Some o)).fates
    ≡ (if b then (tag_at hub.sent o.place, fate.Replied o.place words) ∷ [] else [])
settled_fates hub words o true waits none =
    ap (λ (b : Bool). if b then insert_fate o.place
    (tag_at hub.sent o.place, fate.Replied o.place words) hub.fates else hub.fates) waits
    ∙ ap (λ (fs : List (ℕ × Fate)). insert_fate o.place
    (tag_at hub.sent o.place, fate.Replied o.place words) fs) none
settled_fates hub words o false waits none =
    ap (λ (b : Bool). if b then insert_fate o.place
    (tag_at hub.sent o.place, fate.Replied o.place words) hub.fates else hub.fates) waits ∙ none

settled_by : (hub : Hub) (words : List ℕ) (o : OpenPlace) (b : Bool) (outs : List (Option Outcome)) → o.waited ≡ b
    → hub.fates ≡ []
    → put_all (settle hub words (Some o)).fates outs ≡ (if b then put (tag_at hub.sent o.place)
    (Replied o.place words) outs else outs)
settled_by hub words o true outs waits none =
    ap (λ (fs : List (ℕ × Fate)). put_all fs outs) (settled_fates hub words o true waits none)
settled_by hub words o false outs waits none =
    ap (λ (fs : List (ℕ × Fate)). put_all fs outs) (settled_fates hub words o false waits none)

settle_settles : (hub : Hub) (words : List ℕ) (r : Option OpenPlace) (cs : List Claim) (outs : List (Option Outcome))
    (first id : ℕ) → FoundIn first id hub.open_places r → hub.fates ≡ []
    → AllByRecursion (IsOpened (length hub.sent)) hub.open_places → Agrees hub.sent hub.queue hub.open_places cs outs
    → Settles (settle hub words r) cs outs is_replied 0
settle_settles hub words None cs outs first id f none opens is = same_settles hub cs outs is_replied 0 none is
settle_settles hub words (Some o) cs outs first id f none opens is =
    let s = f.0 in
    let here : Agrees hub.sent hub.queue (s.front ++ o ∷ s.back) cs outs = subst
    (λ (os : List OpenPlace). Agrees hub.sent hub.queue os cs outs) s.is is in
    let op : IsOpened (length hub.sent) o = all_at (IsOpened (length hub.sent)) s.front o s.back
    (subst (AllByRecursion (IsOpened (length hub.sent))) s.is opens) in
    elim o.waited as (λ b. o.waited ≡ b → Settles (settle hub words (Some o)) cs outs is_replied 0) [
      | true ↦ λ w.
          let none_yet = unsettled_none (tag_at hub.sent o.place) outs (awaited_tags hub.sent s.front)
          (awaited_tags hub.sent s.back ++ tags hub.queue) (waits_at hub.sent hub.queue s.front s.back o cs outs w here) in
          let new = put (tag_at hub.sent o.place) (Replied o.place words) outs in
          settles_by (settle hub words (Some o)) cs outs new is_replied 0
          (settled_by hub words o true outs w none)
          (subst (λ (os : List OpenPlace). Agrees hub.sent hub.queue os cs new) (sym s.rest)
          (settled_agrees hub.sent hub.queue s.front s.back o cs outs (Replied o.place words) op w refl refl here))
          (subst (λ (fs : List (ℕ × Fate)). AreOutcomes fs new) (sym (settled_fates hub words o true w none))
          (put_there (tag_at hub.sent o.place) (Replied o.place words) outs none_yet, tt))
          (goes_put_other outs (tag_at hub.sent o.place) (Replied o.place words) is_replied none_yet refl refl)
      | false ↦ λ w. settles_by (settle hub words (Some o)) cs outs outs is_replied 0
          (settled_by hub words o false outs w none)
          (subst (λ (os : List OpenPlace). Agrees hub.sent hub.queue os cs outs) (sym s.rest)
          (unwaited_agrees hub.sent hub.queue s.front s.back o cs outs w here))
          (subst (λ (fs : List (ℕ × Fate)). AreOutcomes fs outs) (sym (settled_fates hub words o false w none)) tt)
          (goes_none outs is_replied 0)
    ] refl

reply_settles : (hub : Hub) (id : ℕ) (words : List ℕ) (cs : List Claim) (outs : List (Option Outcome))
    → hub.fates ≡ [] → IsWindow hub.window (length hub.sent) (places hub.open_places)
    → Agrees hub.sent hub.queue hub.open_places cs outs → Settles (hear_reply hub id words) cs outs is_replied 0
reply_settles hub id words cs outs none window is =
    settle_settles hub words (open_with hub.first id hub.open_places) cs outs hub.first id
    (found_in hub.first id hub.open_places) none (window_opened hub.window
    (length hub.sent) hub.open_places window) is

-- ---- a status reply

recover_same : (e : ℕ) (o : OpenPlace) → ((recover e o).place ≡ o.place) × ((recover e o).waited ≡ o.waited)
recover_same e o = either (λ (x : OpenPlace). (x.place ≡ o.place) × (x.waited ≡ o.waited)) (nat_lt o.place e)
    (record o { resend = true }) (record o { control = true }) (λ _. (refl, refl)) (λ _. (refl, refl))

recovered_settles : (hub : Hub) (r : Option ℕ) (cs : List Claim) (outs : List (Option Outcome)) → hub.fates ≡ []
    → Agrees hub.sent hub.queue hub.open_places cs outs → Settles (after_recovery hub r) cs outs is_replied 0
recovered_settles hub None cs outs none is = same_settles hub cs outs is_replied 0 none is
recovered_settles hub (Some e) cs outs none is = same_settles (after_recovery hub (Some e)) cs outs is_replied 0 none
    (mapped_agrees hub.sent hub.queue hub.open_places cs outs (recover e) (λ o. (recover_same e o).0)
    (λ o. (recover_same e o).1) is)

status_settles : (hub : Hub) (next : ℕ) (cs : List Claim) (outs : List (Option Outcome)) → hub.fates ≡ []
    → Agrees hub.sent hub.queue hub.open_places cs outs → Settles (hear_status hub next) cs outs is_replied 0
status_settles hub next cs outs none is = either (λ (x : Hub). Settles x cs outs is_replied 0)
    (nat_lt 0 hub.status_requests) (after_recovery hub (told_place hub next)) hub
    (λ _. recovered_settles hub (told_place hub next) cs outs none is)
    (λ _. same_settles hub cs outs is_replied 0 none is)

pub message_settles : (hub : Hub) (message : Option ToHub) (cs : List Claim) (outs : List (Option Outcome))
    → hub.fates ≡ [] → IsWindow hub.window (length hub.sent) (places hub.open_places)
    → Agrees hub.sent hub.queue hub.open_places cs outs → Settles (take_message hub message) cs outs is_replied 0
message_settles hub None cs outs none window is = same_settles hub cs outs is_replied 0 none is
message_settles hub (Some (StatusReply mtu buffers next)) cs outs none window is = status_settles hub next cs outs
    none is
message_settles hub (Some (Reply id words)) cs outs none window is = reply_settles hub id words cs outs none window is

-- ---- an offer

offered_agrees : (hub : Hub) (cs : List Claim) (outs : List (Option Outcome)) (c : Claim) (b : Bool)
    → Agrees hub.sent hub.queue hub.open_places cs outs
    → Agrees hub.sent (hub.queue ++ record { tag = length cs; body = c.body } ∷ [])
    (cond b (map want_control hub.open_places) hub.open_places) (cs ++ c ∷ []) (outs ++ None ∷ [])
offered_agrees hub cs outs c true is = offer_agrees hub.sent hub.queue (map want_control hub.open_places) cs outs c
    (mapped_agrees hub.sent hub.queue hub.open_places cs outs want_control (λ o. refl) (λ o. refl) is)
offered_agrees hub cs outs c false is = offer_agrees hub.sent hub.queue hub.open_places cs outs c is

pub asks_agree : (hub : Hub) (cs : List Claim) (outs : List (Option Outcome)) (c : Claim)
    → Agrees hub.sent hub.queue hub.open_places cs outs
    → Agrees (offer hub (record { tag = length cs; body = c.body })).sent
    (offer hub (record { tag = length cs; body = c.body })).queue
    (offer hub (record { tag = length cs; body = c.body })).open_places (cs ++ c ∷ []) (outs ++ None ∷ [])
asks_agree hub cs outs c is = offered_agrees hub cs outs c hub.gave_up is

-- ---- a give-up

abbrev pub time_outs : ℕ → List Offered → List OpenPlace → List (ℕ × Fate)
time_outs rounds sent [] = []
time_outs rounds sent (o ∷ os) = if o.waited then (tag_at sent o.place, fate.TimedOut o.place rounds) ∷ time_outs
    rounds sent os else time_outs rounds sent os

-- fates from this place on stand behind it
abbrev pub StandsBelow : ℕ → ℕ × Fate → Type 0
StandsBelow from f = (place : ℕ) → from ≤ place → goes_before place f.1 ≡ false

insert_last : (place : ℕ) (new : ℕ × Fate) (fates : List (ℕ × Fate)) → AllByRecursion (StandsBelow place) fates
    → insert_fate place new fates ≡ fates ++ new ∷ []
insert_last place new [] all = refl
insert_last place new (f ∷ fs) all = rw (all.0 place (omega arith))
    (ap (λ (l : List (ℕ × Fate)). f ∷ l) (insert_last place new fs all.1))

later_stands : (a b : ℕ) (fates : List (ℕ × Fate)) → a ≤ b → AllByRecursion (StandsBelow a) fates
    → AllByRecursion (StandsBelow b) fates
later_stands a b [] le all = tt
later_stands a b (f ∷ fs) le all = ((λ p h. all.0 p (omega (arith, h, le))), later_stands a b fs le all.1)

not_lt : (a b : ℕ) → b ≤ a → nat_lt a b ≡ false
not_lt a b h = false_from_ne_true (nat_lt a b) (λ t. let k = ltb-true a b t in omega (arith, h, k))

timed_in_order : (rounds : ℕ) (sent : List Offered) (os : List OpenPlace) (from past : ℕ) (fates : List (ℕ × Fate))
    → AreRising from past (places os) → AllByRecursion (StandsBelow from) fates
    → time_out rounds sent os fates ≡ fates ++ time_outs rounds sent os
timed_in_order rounds sent [] from past fates rise all = sym (append-nil fates)
timed_in_order rounds sent (o ∷ os) from past fates rise all =
    let new : ℕ × Fate = (tag_at sent o.place, fate.TimedOut o.place rounds) in
    let here = later_stands from o.place fates rise.0 all in
    elim o.waited as (λ b. time_out rounds sent os (cond b (insert_fate o.place new fates) fates)
    ≡ fates ++ cond b (new ∷ time_outs rounds sent os) (time_outs rounds sent os)) [
      | true ↦ ap (λ (l : List (ℕ × Fate)). time_out rounds sent os l) (insert_last o.place new fates here)
          ∙ (timed_in_order rounds sent os (o.place + 1) past (fates ++ new ∷ []) rise.1
          (AllByRecursion-append (StandsBelow (o.place + 1)) fates (new ∷ [])
          (later_stands o.place (o.place + 1) fates (omega arith) here)
          ((λ p h. not_lt p o.place (omega (arith, h))), tt))
          ∙ append_assoc fates (new ∷ []) (time_outs rounds sent os))
      | false ↦ timed_in_order rounds sent os (o.place + 1) past fates rise.1
          (later_stands o.place (o.place + 1) fates (omega arith) here)
    ]

put_append : (a b : List (ℕ × Fate)) (outs : List (Option Outcome)) → put_all (a ++ b) outs ≡ put_all b (put_all a outs)
put_append [] b outs = refl
put_append (f ∷ a) b outs = put_append a b (put f.0 (outcome_of f.1) outs)

record Ends (sent queue : List Offered) (os : List OpenPlace) (cs : List Claim) (fates : List (ℕ × Fate))
    (old : List (Option Outcome)) (most : ℕ) : Type 0 where
  agrees : Agrees sent queue os cs (put_all fates old)
  told : AreOutcomes fates (put_all fates old)
  goes : Goes old (put_all fates old) is_given_up most

time_outs_end : (rounds : ℕ) (sent queue : List Offered) (os : List OpenPlace) (cs : List Claim)
    (outs : List (Option Outcome)) → AllByRecursion (IsOpened (length sent)) os
    → Agrees sent queue os cs outs → Ends sent queue [] cs (time_outs rounds sent os) outs (length os)
time_outs_end rounds sent queue [] cs outs opens is =
    record { agrees = is; told = tt; goes = goes_none outs is_given_up 0 }
time_outs_end rounds sent queue (o ∷ os) cs outs opens is =
    let new : ℕ × Fate = (tag_at sent o.place, fate.TimedOut o.place rounds) in
    elim o.waited as (λ b. o.waited ≡ b → Ends sent queue [] cs
    (cond b (new ∷ time_outs rounds sent os) (time_outs rounds sent os)) outs (suc (length os))) [
      | true ↦ λ w.
          let out : Outcome = TimedOut o.place rounds in
          let next = settled_agrees sent queue [] os o cs outs out opens.0 w refl refl is in
          let none_yet = unsettled_none (tag_at sent o.place) outs [] (awaited_tags sent os ++ tags queue)
          (waits_at sent queue [] os o cs outs w is) in
          let one = goes_put outs (tag_at sent o.place) out is_given_up none_yet refl in
          let later = time_outs_end rounds sent queue os cs (put (tag_at sent o.place) out outs) opens.1 next in
          let all = put_all (time_outs rounds sent os) (put (tag_at sent o.place) out outs) in
          let both = goes_on outs (put (tag_at sent o.place) out outs) all is_given_up 1 (length os) one later.goes in
          record {
            agrees = later.agrees;
            told = (
              later.goes.keeps (tag_at sent o.place) out (put_there (tag_at sent o.place) out outs none_yet),
              later.told,
            );
            goes = record {
              keeps = both.keeps;
              adds = both.adds;
              few =
                  (let k = both.few in omega (arith, k));
            };
          }
      | false ↦ λ w.
          let later = time_outs_end rounds sent queue os cs outs opens.1
          (unwaited_agrees sent queue [] os o cs outs w is) in
          record {
            agrees = later.agrees;
            told = later.told;
            goes = record {
              keeps = later.goes.keeps;
              adds = later.goes.adds;
              few =
                  (let k = later.goes.few in omega (arith, k));
            };
          }
    ] refl

unsent_end : (sent queue : List Offered) (cs : List Claim) (outs : List (Option Outcome))
    → Agrees sent queue [] cs outs → Ends sent [] [] cs (map unsent_fate queue) outs 0
unsent_end sent [] cs outs is = record { agrees = is; told = tt; goes = goes_none outs is_given_up 0 }
unsent_end sent (x ∷ queue) cs outs is =
    let next = unsent_agrees sent queue x cs outs is in
    let none_yet = unsettled_none x.tag outs [] (tags queue) (sym is.waits) in
    let one = goes_put_other outs x.tag Unsent is_given_up none_yet refl refl in
    let later = unsent_end sent queue cs (put x.tag Unsent outs) next in
    record {
      agrees = later.agrees;
      told = (later.goes.keeps x.tag Unsent (put_there x.tag Unsent outs none_yet), later.told);
      goes = goes_on outs (put x.tag Unsent outs)
          (put_all (map unsent_fate queue) (put x.tag Unsent outs)) is_given_up 0 0 one later.goes;
    }

rising_few : (from past : ℕ) (ps : List ℕ) → AreRising from past ps → length ps + from ≤ past
rising_few from past [] is = omega (arith, is)
rising_few from past (p ∷ ps) is = let k = rising_few (p + 1) past ps is.1 in let h = is.0 in omega (arith, k, h)

window_few : (window sent : ℕ) (os : List OpenPlace) → IsWindow window sent (places os) → length os ≤ window
window_few window sent os is =
    let k = rising_few (least (places os) (sent + 1)) (sent + 1) (places os) is.rising in
    let w = is.within in
    let l = length-map os place_open in omega (arith, k, w, l)

pub give_up_settles : (hub : Hub) (cs : List Claim) (outs : List (Option Outcome)) → hub.fates ≡ []
    → IsWindow hub.window (length hub.sent) (places hub.open_places)
    → Agrees hub.sent hub.queue hub.open_places cs outs → Settles (give_up hub) cs outs is_given_up hub.window
give_up_settles hub cs outs none window is =
    let late = time_outs hub.rounds hub.sent hub.open_places in
    let a = time_outs_end hub.rounds hub.sent hub.queue hub.open_places cs outs
    (window_opened hub.window (length hub.sent) hub.open_places window) is in
    let b = unsent_end hub.sent hub.queue cs (put_all late outs) a.agrees in
    let timed_is : time_out hub.rounds hub.sent hub.open_places hub.fates ≡ late =
    ap (λ (l : List (ℕ × Fate)). time_out hub.rounds hub.sent hub.open_places l) none
    ∙ timed_in_order hub.rounds hub.sent hub.open_places (least (places hub.open_places) (length hub.sent + 1))
    (length hub.sent + 1) [] window.rising tt in
    let fates_are : put_all (give_up hub).fates outs ≡ put_all (map unsent_fate hub.queue) (put_all late outs) =
    ap (λ (l : List (ℕ × Fate)). put_all (l ++ map unsent_fate hub.queue) outs) timed_is
    ∙ put_append late (map unsent_fate hub.queue) outs in
    let told : AreOutcomes (give_up hub).fates (put_all (map unsent_fate hub.queue) (put_all late outs)) =
    subst (λ (l : List (ℕ × Fate)). AreOutcomes (l ++ map unsent_fate hub.queue)
    (put_all (map unsent_fate hub.queue) (put_all late outs))) (sym timed_is)
    (AllByRecursion-append _ late (map unsent_fate hub.queue) (still_told (put_all late outs)
    (put_all (map unsent_fate hub.queue) (put_all late outs)) late b.goes.keeps a.told) b.told) in
    let few = window_few hub.window (length hub.sent) hub.open_places window in
    let both = goes_on outs (put_all late outs) (put_all (map unsent_fate hub.queue) (put_all late outs)) is_given_up
    (length hub.open_places) 0 a.goes b.goes in
    settles_by (give_up hub) cs outs (put_all (map unsent_fate hub.queue) (put_all late outs)) is_given_up hub.window
    fates_are
    (record {
      counts = b.agrees.counts;
      offered = b.agrees.offered;
      waits = ap (λ (l : List ℕ). l ++ [])
          (none_awaited hub.sent hub.open_places) ∙ b.agrees.waits;
    })
    told
    (record { keeps = both.keeps; adds = both.adds; few = (let k = both.few in omega (arith, k, few)) })

pub quiet_settles : (hub : Hub) (cs : List Claim) (outs : List (Option Outcome)) → hub.fates ≡ []
    → IsWindow hub.window (length hub.sent) (places hub.open_places)
    → Agrees hub.sent hub.queue hub.open_places cs outs → Settles (hear_quiet hub) cs outs is_given_up hub.window
quiet_settles hub cs outs none window is = either (λ (x : Hub). Settles x cs outs is_given_up hub.window)
    (nat_lt hub.status_requests hub.rounds) (want_status hub) (give_up hub)
    (λ _. same_settles (want_status hub) cs outs is_given_up hub.window none is)
    (λ _. give_up_settles hub cs outs none window is)
