-- Lemmas on finished records: what was taken is what became of the bodies, and the places count.
use Rattle.std.proofs.Common.{◌≡◌, ℕ, zero, suc, ◌+◌, ◌≤◌, Bool, true, ◌==◌, List, [], ◌∷◌, ◌++◌, length, map}
use Rattle.std.proofs.Common.{Option, Some, None}
use Rattle.std.proofs.Common.{refl, sym, ap, ◌∙◌, subst, arith, append_assoc, inl, inr, if◌then◌else◌}
use Rattle.std.proofs.lemmas.Bool.{eqb-true}
use Rattle.std.proofs.lemmas.List.{append-nil, length-map}
use Rattle.std.specs.List.{slice_get, AllByRecursion}
use Rattle.std.specs.Option.{unwrap_or}
use Rattle.std.specs.Prelude.{is_some}
use Rattle.ipb_base.proofs.AllLemmas.{AllByRecursion-append}
use Rattle.world_model.proofs.Lists.{all_get, get_seam}
use Rattle.world_model.specs.declared.offered.Offered.{Offered}
use Rattle.world_model.specs.declared.offered.OpenPlace.{OpenPlace}
use Rattle.world_model.specs.Facts.{bodies_of}
use Rattle.world_model.specs.Places.{at_place}
use Rattle.lane_record.specs.declared.outcome.Outcome.{Outcome}
use Rattle.lane_record.specs.declared.item.Item.{Item}
use Rattle.lane_record.specs.declared.item.What.{What}
use Rattle.lane_record.specs.declared.item.What.TheVariants.{Plan, Seal, Ask, Took}
use Rattle.lane_record.specs.Outcomes.{place_of, is_sent}
use Rattle.lane_record.specs.Items.{told_by_first, plan_in, ask_in, took_in, is_of, asked_count, planned_count}
use Rattle.lane_record.specs.Claims.{Claim, claims, claims_behind, claim_in, IsAskOf, outcome_taken, taken_outcomes, IsTaken}
use Rattle.lane_record.specs.Claims.{IsFinished}
use Rattle.lane_record.specs.Lists.{EachBehind, CountsFrom}
use Rattle.lane_record.specs.FirstSends.{HavePlacesAfter, HasPlaceAfter, may_have_place, Sent, sent_at, sent_as}
use Rattle.lane_record.specs.FirstSends.{sent_of, first_sends, places_of, bodies_sent, IsOfAsk}
use Rattle.lane_record.specs.Offers.{Agrees, offers_from, unsettled_from, awaited_tags, tags}
use Rattle.lane_record.specs.Legal.{IsLegal, IsPlanned, HasPlan, IsTookOf, MayTake}
use Rattle.lane_record.proofs.Lookups.{first_or, if_some, and_true, found_front, found_below, found_within}
use Rattle.lane_record.proofs.Asks.{ask_front, one_ask}

-- ---- what was taken is what became of the body

pub record IsFound (items : List Item) (outcomes : List (Option Outcome)) (client seq : ℕ)
    (outcome : Outcome) : Type 0 where
  pub k : ℕ
  pub claim : Claim
  pub ask : IsAskOf items k client seq claim
  pub became : slice_get outcomes k ≡ Some (Some outcome)

found_in_took : (outcomes : List (Option Outcome)) (front items : List Item) (x : Item) (client seq : ℕ)
    (outcome : Outcome) (what : What) → x.client ≡ client → x.seq ≡ seq
    → took_in what ≡ Some outcome → MayTake outcomes front x what
    → IsFound (front ++ x ∷ items) outcomes client seq outcome
found_in_took outcomes front items x client seq outcome (Plan body) c s e may = absurd (cc)
found_in_took outcomes front items x client seq outcome Seal c s e may = absurd (cc)
found_in_took outcomes front items x client seq outcome (Ask g) c s e may = absurd (cc)
found_in_took outcomes front items x client seq outcome (Took o g) c s e may =
    let o_is : o ≡ outcome = cc in
    let ask = ask_front front (x ∷ items) may.k x.client x.seq may.claim may.ask in
    record {
      k = may.k;
      claim = may.claim;
      ask = record { there = ask.there; same_client = ask.same_client ∙ c; same_seq = ask.same_seq ∙ s };
      became = may.became ∙ ap (λ (z : Outcome). Some (Some z)) o_is;
    }

found_behind : (outcomes : List (Option Outcome)) (front items : List Item) (client seq : ℕ) (outcome : Outcome)
    → EachBehind (IsTookOf outcomes) front items
    → told_by_first took_in client seq items ≡ Some outcome → IsFound (front ++ items) outcomes client seq outcome
found_behind outcomes front [] client seq outcome is e = absurd (cc)
found_behind outcomes front (x ∷ items) client seq outcome is e =
    elim (first_or (if is_of client seq x then took_in x.what else None) (told_by_first took_in client seq items) outcome e) [
      | inl h ↦
          let r = if_some (is_of client seq x) (took_in x.what) outcome h in
          let same = and_true (x.client == client) (x.seq == seq) r.0 in
          found_in_took outcomes front items x client seq outcome x.what (eqb-true x.client client same.0)
          (eqb-true x.seq seq same.1) r.1 is.0
      | inr h ↦ subst (λ (l : List Item). IsFound l outcomes client seq outcome) (append_assoc front (x ∷ []) items)
          (found_behind outcomes (front ++ x ∷ []) items client seq outcome is.1 h)
    ]

pub took_found : (items : List Item) (outcomes : List (Option Outcome)) (client seq : ℕ) (outcome : Outcome)
    → IsLegal items outcomes → told_by_first took_in client seq items ≡ Some outcome
    → IsFound items outcomes client seq outcome
took_found items outcomes client seq outcome is e = found_behind outcomes [] items client seq outcome is.taken_once e

outcomes_are : (f : Claim → Option Outcome) (cs : List Claim) (os : List (Option Outcome)) → length os ≡ length cs
    → ((k : ℕ) (c : Claim) → slice_get cs k ≡ Some c → slice_get os k ≡ Some (f c)) → os ≡ map f cs
outcomes_are f [] [] len h = refl
outcomes_are f [] (o ∷ os) len h = absurd (cc)
outcomes_are f (c ∷ cs) [] len h = absurd (cc)
outcomes_are f (c ∷ cs) (o ∷ os) len h =
    let head : Some o ≡ Some (f c) = h 0 c refl in
    let o_is : o ≡ f c = cc in
    ap (λ (x : Option Outcome). x ∷ os) o_is ∙ ap (λ (l : List (Option Outcome)). f c ∷ l)
    (outcomes_are f cs os (omega (arith, len)) (λ k d e. h (suc k) d e))

-- the record alone tells what became of each Ask
pub outcomes_taken : (items : List Item) (outcomes : List (Option Outcome)) → IsLegal items outcomes
    → IsFinished items → outcomes ≡ taken_outcomes items
outcomes_taken items outcomes is all = outcomes_are (outcome_taken items)
    (claims items) outcomes is.places_count.each (λ k c e.
    let took = all_get (IsTaken items) (claims items) k c all e in
    let f = took_found items outcomes c.client c.seq took.0 is took.1 in
    let here : IsAskOf items k c.client c.seq c = record { there = e; same_client = refl; same_seq = refl } in
    let same = one_ask items f.k k c.client c.seq f.claim c is.asks_follow_plans.count f.ask here in
    subst (λ (j : ℕ). slice_get outcomes j ≡ Some (Some took.0)) same f.became
    ∙ ap (λ (o : Option Outcome). Some o) (sym took.1))

get_map : {A B : Type 0} (f : A → B) (xs : List A) (k : ℕ) (x : A) → slice_get xs k ≡ Some x
    → slice_get (map f xs) k ≡ Some (f x)
get_map f [] k x e = absurd (cc)
get_map f (y ∷ xs) zero x e = cc
get_map f (y ∷ xs) (suc k) x e = get_map f xs k x e

-- ---- the places count

abbrev pub AllSome : List (Option Outcome) → Type 0
AllSome [] = Unit {0}
AllSome (o ∷ os) = (outcome : Outcome) × (o ≡ Some outcome) × AllSome os

pub some_taken : (items : List Item) (cs : List Claim) → AllByRecursion (IsTaken items) cs
    → AllSome (map (outcome_taken items) cs)
some_taken items [] all = tt
some_taken items (c ∷ cs) all = (all.0.0, all.0.1, some_taken items cs all.1)

sent_counts_one : (others : ℕ) (c : Claim) (outcome : Outcome) (later : List Sent) (place : Option ℕ)
    → place_of outcome ≡ place → HasPlaceAfter others (Some outcome)
    → CountsFrom ((if may_have_place (Some outcome) then others + 1 else others) + 1) (places_of later)
    → CountsFrom (others + 1) (places_of (sent_at c outcome place ++ later))
sent_counts_one others c outcome later None e is counts = subst
    (λ (b : Bool). CountsFrom ((if b then others + 1 else others) + 1) (places_of later))
    (ap (λ (p : Option ℕ). is_some p) e) counts
sent_counts_one others c outcome later (Some p) e is counts =
    let sent : is_sent outcome ≡ true = ap (λ (p : Option ℕ). is_some p) e in
    let at : Some p ≡ Some (others + 1) = sym e ∙ is sent in
    (cc, subst (λ (b : Bool). CountsFrom ((if b then others + 1 else others) + 1) (places_of later)) sent counts)

sent_counts : (others : ℕ) (cs : List Claim) (os : List (Option Outcome)) → AllSome os → HavePlacesAfter others os
    → CountsFrom (others + 1) (places_of (sent_of cs os))
sent_counts others [] os all is = tt
sent_counts others (c ∷ cs) [] all is = tt
sent_counts others (c ∷ cs) (None ∷ os) all is = absurd (let e = all.1 in cc)
sent_counts others (c ∷ cs) (Some outcome ∷ os) all is =
    sent_counts_one others c outcome (sent_of cs os) (place_of outcome) refl is.0
    (sent_counts (if may_have_place (Some outcome) then others + 1 else others) cs os all.2 is.1)

pub first_sends_count : (items : List Item) (outcomes : List (Option Outcome)) → IsLegal items outcomes
    → IsFinished items → CountsFrom 1 (places_of (first_sends items))
first_sends_count items outcomes is all =
    sent_counts 0 (claims items) (taken_outcomes items) (some_taken items (claims items) all)
    (subst (HavePlacesAfter 0) (outcomes_taken items outcomes is all) is.places_count.places)

-- ---- each at its place

pub record StandsAfter (others : ℕ) (sends : List Sent) (c : Claim) (outcome : Outcome) (place : ℕ) : Type 0 where
  pub j : ℕ
  pub place_is : place ≡ others + j + 1
  pub there : slice_get sends j ≡ Some (record {
    place = place;
    client = c.client;
    seq = c.seq;
    body = c.body;
    outcome = outcome;
  })

here_after : (others : ℕ) (c : Claim) (outcome : Outcome) (later : List Sent) (place : ℕ)
    → place_of outcome ≡ Some place → HasPlaceAfter others (Some outcome)
    → StandsAfter others (sent_as c (Some outcome) ++ later) c outcome place
here_after others c outcome later place e is =
    let at : Some place ≡ Some (others + 1) = sym e ∙ is (ap (λ (p : Option ℕ). is_some p) e) in
    let place_is : place ≡ others + 1 = cc in
    record {
      j = 0;
      place_is = omega (arith, place_is);
      there = ap (λ (p : Option ℕ). slice_get (sent_at c outcome p ++ later) 0) e;
    }

later_after : (others : ℕ) (d : Claim) (first : Outcome) (later : List Sent) (c : Claim) (outcome : Outcome)
    (place : ℕ) (at : Option ℕ) → place_of first ≡ at
    → StandsAfter (if may_have_place (Some first) then others + 1 else others) later c outcome place
    → StandsAfter others (sent_at d first at ++ later) c outcome place
later_after others d first later c outcome place None e is =
    let s : StandsAfter others later c outcome place = subst
    (λ (b : Bool). StandsAfter (if b then others + 1 else others) later c outcome place)
    (ap (λ (p : Option ℕ). is_some p) e) is in s
later_after others d first later c outcome place (Some q) e is =
    let s : StandsAfter (others + 1) later c outcome place = subst
    (λ (b : Bool). StandsAfter (if b then others + 1 else others) later c outcome place)
    (ap (λ (p : Option ℕ). is_some p) e) is in
    let p = s.place_is in
    record { j = suc s.j; place_is = omega (arith, p); there = s.there }

stands_after : (others : ℕ) (cs : List Claim) (os : List (Option Outcome)) (k : ℕ) (c : Claim) (outcome : Outcome)
    (place : ℕ) → AllSome os → HavePlacesAfter others os
    → slice_get cs k ≡ Some c → slice_get os k ≡ Some (Some outcome) → place_of outcome ≡ Some place
    → StandsAfter others (sent_of cs os) c outcome place
stands_after others [] os k c outcome place all is e f g = absurd (cc)
stands_after others (d ∷ cs) [] k c outcome place all is e f g = absurd (cc)
stands_after others (d ∷ cs) (None ∷ os) k c outcome place all is e f g = absurd (let h = all.1 in cc)
stands_after others (d ∷ cs) (Some first ∷ os) zero c outcome place all is e f g =
    let d_is : d ≡ c = cc in
    let first_is : first ≡ outcome = cc in
    subst (λ (z : Claim). StandsAfter others (sent_of (z ∷ cs) (Some first ∷ os)) c outcome place) (sym d_is)
    (subst (λ (z : Outcome). StandsAfter others (sent_of (c ∷ cs) (Some z ∷ os)) c outcome place) (sym first_is)
    (here_after others c outcome (sent_of cs os) place g (subst
    (λ (z : Outcome). HasPlaceAfter others (Some z)) first_is is.0)))
stands_after others (d ∷ cs) (Some first ∷ os) (suc k) c outcome place all is e f g =
    later_after others d first (sent_of cs os) c outcome place (place_of first) refl
    (stands_after (if may_have_place (Some first) then others + 1 else others) cs os k c outcome place all.2 is.1 e f g)

-- ---- each of an Ask

of_ask_at : (items : List Item) (front : List Claim) (c : Claim) (back : List Claim) (outcome : Outcome)
    (place : Option ℕ) → claims items ≡ front ++ c ∷ back
    → outcome_taken items c ≡ Some outcome → place_of outcome ≡ place
    → AllByRecursion (IsOfAsk items) (sent_at c outcome place)
of_ask_at items front c back outcome None e t p = tt
of_ask_at items front c back outcome (Some place) e t p = (
  record {
    k = length front;
    claim = c;
    ask = record {
      there = ap (λ (l : List Claim). slice_get l (length front)) e
          ∙ get_seam front back c;
      same_client = refl;
      same_seq = refl;
    };
    same_body = refl;
    took = t;
    at = p;
  },
  tt,
)

of_ask : (items : List Item) (front : List Claim) (c : Claim) (back : List Claim) (outcome : Option Outcome)
    → claims items ≡ front ++ c ∷ back → outcome_taken items c ≡ outcome
    → AllByRecursion (IsOfAsk items) (sent_as c outcome)
of_ask items front c back None e t = tt
of_ask items front c back (Some outcome) e t = of_ask_at items front c back outcome (place_of outcome) e t refl

pub of_asks : (items : List Item) (front cs : List Claim) → claims items ≡ front ++ cs
    → AllByRecursion (IsOfAsk items) (sent_of cs (map (outcome_taken items) cs))
of_asks items front [] e = tt
of_asks items front (c ∷ cs) e =
    AllByRecursion-append (IsOfAsk items) (sent_as c (outcome_taken items c))
    (sent_of cs (map (outcome_taken items) cs))
    (of_ask items front c cs (outcome_taken items c) e refl)
    (of_asks items (front ++ c ∷ []) cs (e ∙ sym (append_assoc front (c ∷ []) cs)))

-- ---- each body is that of its Plan

abbrev pub IsOfPlan : List Item → Claim → Type 0
IsOfPlan items c = told_by_first plan_in c.client c.seq items ≡ Some c.body

planned_one : (front items : List Item) (x : Item) (what : What) → HasPlan front x what
    → AllByRecursion (IsOfPlan (front ++ items)) (claim_in front x (ask_in what))
planned_one front items x (Plan body) is = tt
planned_one front items x Seal is = tt
planned_one front items x (Took outcome g) is = tt
planned_one front items x (Ask g) is = (
  found_front plan_in x.client x.seq front items (unwrap_or (told_by_first plan_in x.client x.seq front) [])
      (is.1 ∙ ap (λ (o : Option (List ℕ)). Some (unwrap_or o [])) (sym is.1)),
  tt,
)

planned_behind : (front items : List Item) → EachBehind IsPlanned front items
    → AllByRecursion (IsOfPlan (front ++ items)) (claims_behind front items)
planned_behind front [] is = tt
planned_behind front (x ∷ items) is =
    AllByRecursion-append (IsOfPlan (front ++ x ∷ items)) (claim_in front x (ask_in x.what))
    (claims_behind (front ++ x ∷ []) items)
    (planned_one front (x ∷ items) x x.what is.0)
    (subst (λ (l : List Item). AllByRecursion (IsOfPlan l) (claims_behind (front ++ x ∷ []) items))
    (append_assoc front (x ∷ []) items) (planned_behind (front ++ x ∷ []) items is.1))

pub asked_as_planned : (items : List Item) (outcomes : List (Option Outcome)) (k client seq : ℕ) (claim : Claim)
    → IsLegal items outcomes → IsAskOf items k client seq claim
    → told_by_first plan_in client seq items ≡ Some claim.body
asked_as_planned items outcomes k client seq claim is ask =
    subst (λ (c : ℕ). told_by_first plan_in c seq items ≡ Some claim.body) ask.same_client
    (subst (λ (s : ℕ). told_by_first plan_in claim.client s items ≡ Some claim.body) ask.same_seq
    (all_get (IsOfPlan items) (claims items) k claim (planned_behind [] items is.asks_follow_plans.planned) ask.there))

pub stands_at : (items : List Item) (outcomes : List (Option Outcome)) (k client seq : ℕ) (claim : Claim)
    (outcome : Outcome) (place : ℕ) → IsLegal items outcomes → IsFinished items
    → IsAskOf items k client seq claim → outcome_taken items claim ≡ Some outcome → place_of outcome ≡ Some place
    → at_place (first_sends items) place ≡ Some (record {
      place = place;
      client = client;
      seq = seq;
      body =
          claim.body;
      outcome = outcome;
    })
stands_at items outcomes k client seq claim outcome place is all ask took at =
    let same = outcomes_taken items outcomes is all in
    let s = stands_after 0 (claims items) (taken_outcomes items) k claim outcome place (some_taken items (claims items) all)
    (subst (HavePlacesAfter 0) same is.places_count.places) ask.there
    (get_map (outcome_taken items) (claims items) k claim ask.there ∙ ap (λ (o : Option Outcome). Some o) took) at in
    let p = s.place_is in
    let at_j : suc s.j ≡ place = omega (arith, p) in
    subst (λ (q : ℕ). at_place (first_sends items) q ≡ Some (record
    { place = place; client = client; seq = seq; body = claim.body; outcome = outcome })) at_j
    (s.there ∙ ap (λ (c : ℕ). Some (record {
      place = place;
      client = c;
      seq = claim.seq;
      body = claim.body;
      outcome =
          outcome;
    })) ask.same_client
    ∙ ap (λ (c : ℕ). Some (record { place = place; client = client; seq = c; body = claim.body; outcome = outcome }))
    ask.same_seq)

-- ---- what the hub sent

all_settled : (n : ℕ) (os : List (Option Outcome)) → AllSome os → unsettled_from n os ≡ []
all_settled n [] all = refl
all_settled n (None ∷ os) all = absurd (let e = all.1 in cc)
all_settled n (Some outcome ∷ os) all = all_settled (n + 1) os all.2

no_queue : (a : List ℕ) (queue : List Offered) → a ++ tags queue ≡ [] → queue ≡ []
no_queue [] [] e = refl
no_queue [] (x ∷ queue) e = absurd (cc)
no_queue (y ∷ a) queue e = absurd (cc)

bodies_at : (c : Claim) (outcome : Outcome) (place : Option ℕ) (n : ℕ) (offers : List Offered) (later : List Sent)
    → place_of outcome ≡ place → bodies_of offers ≡ bodies_sent later
    → bodies_of (if may_have_place (Some outcome) then record { tag = n; body = c.body } ∷ offers else offers)
    ≡ bodies_sent (sent_at c outcome place ++ later)
bodies_at c outcome None n offers later e same = ap (λ (p : Option ℕ). bodies_of
    (if is_some p then record { tag = n; body = c.body } ∷ offers else offers)) e ∙ same
bodies_at c outcome (Some place) n offers later e same =
    ap (λ (p : Option ℕ). bodies_of (if is_some p then record { tag = n; body = c.body } ∷ offers else offers)) e
    ∙ ap (λ (l : List (List ℕ)). c.body ∷ l) same

same_bodies : (n : ℕ) (cs : List Claim) (os : List (Option Outcome)) → AllSome os → length os ≡ length cs
    → bodies_of (offers_from n cs os) ≡ bodies_sent (sent_of cs os)
same_bodies n [] [] all len = refl
same_bodies n [] (o ∷ os) all len = absurd (cc)
same_bodies n (c ∷ cs) [] all len = refl
same_bodies n (c ∷ cs) (None ∷ os) all len = absurd (let e = all.1 in cc)
same_bodies n (c ∷ cs) (Some outcome ∷ os) all len =
    bodies_at c outcome (place_of outcome) n (offers_from (n + 1) cs os) (sent_of cs os) refl
    (same_bodies (n + 1) cs os all.2 (omega (arith, len)))

-- the hub of a finished record has sent its bodies, and queues nothing
pub record HasSentAll (items : List Item) (sent queue : List Offered) : Type 0 where
  pub nothing_queued : queue ≡ []
  pub bodies : bodies_of sent ≡ bodies_sent (first_sends items)

pub finished_hub : (items : List Item) (outcomes : List (Option Outcome)) (sent queue : List Offered)
    (open_places : List OpenPlace) → IsLegal items outcomes → IsFinished items
    → Agrees sent queue open_places (claims items) outcomes → HasSentAll items sent queue
finished_hub items outcomes sent queue open_places is all agrees =
    let same = outcomes_taken items outcomes is all in
    let some = some_taken items (claims items) all in
    let none = no_queue (awaited_tags sent open_places) queue (agrees.waits
    ∙ (ap (unsettled_from 0) same ∙ all_settled 0 (taken_outcomes items) some)) in
    record {
      nothing_queued = none;
      bodies = ap bodies_of (sym (append-nil sent) ∙ (ap (λ (q : List Offered). sent ++ q) (sym none)
          ∙ (agrees.offered ∙ ap (offers_from 0 (claims items)) same)))
          ∙ same_bodies 0 (claims items) (taken_outcomes items) some (length-map (claims items) (outcome_taken items));
    }

-- ---- no more Asks than Plans

plan_of_asked : (front items : List Item) (x : Item) (what : What) (client seq g : ℕ) → x.client ≡ client
    → x.seq ≡ seq → ask_in what ≡ Some g → HasPlan front x what
    → (body : List ℕ) × (told_by_first plan_in client seq (front ++ items) ≡ Some body)
plan_of_asked front items x (Plan body) client seq g c s e is = absurd (cc)
plan_of_asked front items x Seal client seq g c s e is = absurd (cc)
plan_of_asked front items x (Took outcome n) client seq g c s e is = absurd (cc)
plan_of_asked front items x (Ask n) client seq g c s e is = (
  is.0,
  found_front plan_in client seq front items is.0
      (subst (λ (d : ℕ). told_by_first plan_in d seq front ≡ Some is.0) c
      (subst (λ (t : ℕ). told_by_first plan_in x.client t front ≡ Some is.0) s is.1)),
)

plan_behind : (front items : List Item) (client seq g : ℕ) → EachBehind IsPlanned front items
    → told_by_first ask_in client seq items ≡ Some g
    → (body : List ℕ) × (told_by_first plan_in client seq (front ++ items) ≡ Some body)
plan_behind front [] client seq g is e = absurd (cc)
plan_behind front (x ∷ items) client seq g is e =
    elim (first_or (if is_of client seq x then ask_in x.what else None) (told_by_first ask_in client seq items) g e) [
      | inl h ↦
          let r = if_some (is_of client seq x) (ask_in x.what) g h in
          let same = and_true (x.client == client) (x.seq == seq) r.0 in
          plan_of_asked front (x ∷ items) x x.what client seq g (eqb-true x.client client same.0)
          (eqb-true x.seq seq same.1) r.1 is.0
      | inr h ↦ subst (λ (l : List Item). (body : List ℕ) × (told_by_first plan_in client seq l ≡ Some body))
          (append_assoc front (x ∷ []) items) (plan_behind (front ++ x ∷ []) items client seq g is.1 h)
    ]

last_planned : (items : List Item) (outcomes : List (Option Outcome)) (client many : ℕ)
    → asked_count client items ≡ suc many → IsLegal items outcomes → suc many ≤ planned_count client items
last_planned items outcomes client many e is =
    let ask = found_below ask_in client many items is.asks_follow_plans.count (omega (arith, e)) in
    let plan = plan_behind [] items client many ask.0 is.asks_follow_plans.planned ask.1 in
    let within = found_within plan_in client many items plan.0 is.plans_count.count plan.1 in
    omega (arith, within)

pub asked_few : (items : List Item) (outcomes : List (Option Outcome)) (client : ℕ) → IsLegal items outcomes
    → asked_count client items ≤ planned_count client items
asked_few items outcomes client is = elim (asked_count client items) as
    (λ n. asked_count client items ≡ n → n ≤ planned_count client items) [
      | zero ↦ λ e. omega arith
      | suc many ↦ λ e. last_planned items outcomes client many e is
    ] refl
