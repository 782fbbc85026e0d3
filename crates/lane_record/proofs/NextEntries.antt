-- Lemmas on one more entry, kind by kind: what a legal record needs of it, both ways.
use Rattle.std.proofs.Common.{◌≡◌, ℕ, ◌+◌, ◌<◌, ◌≤◌, true, false, cond, List, [], ◌∷◌, ◌++◌, length, take, Option}
use Rattle.std.proofs.Common.{Some, None}
use Rattle.std.proofs.Common.{refl, sym, ap, ◌∙◌, subst, arith, length-append, if◌then◌else◌}
use Rattle.std.proofs.lemmas.List.{append-nil, take_all}
use Rattle.std.specs.List.{slice_get, AllByRecursion}
use Rattle.ipb_base.proofs.AllLemmas.{AllByRecursion-append}
use Rattle.world_model.proofs.Lists.{get_front, all_get}
use Rattle.lane_record.specs.declared.outcome.Outcome.{Outcome}
use Rattle.lane_record.specs.declared.item.Item.{Item}
use Rattle.lane_record.specs.declared.item.What.{What}
use Rattle.lane_record.specs.declared.item.What.TheVariants.{Plan, Seal, Ask, Took}
use Rattle.lane_record.specs.Items.{plan_in, ask_in, is_sealed, give_ups}
use Rattle.lane_record.specs.Claims.{Claim, claims, claims_behind, claim_in, IsAskOf}
use Rattle.lane_record.specs.FirstSends.{PlacesCount, HavePlacesAfter, HasPlaceAfter, may_have_place, places_given}
use Rattle.lane_record.specs.Legal.{IsLegal, IsMade, HasMaker}
use Rattle.lane_record.specs.NextEntry.{MayPlan, MayAsk, MayTook, plan_of, ask_of, took_of, the_seal}
use Rattle.lane_record.specs.Offers.{KeepsOutcomes}
use Rattle.lane_record.proofs.Lookups.{claims_push, found_below, found_within}
use Rattle.lane_record.proofs.Asks.{one_ask}
use Rattle.lane_record.proofs.Legality.{IsFit, legal_push, legal_last, legal_front}

-- ---- plain facts

add_zero : (n : ℕ) → n + 0 ≡ n
add_zero n = omega arith

zero_add : (n : ℕ) → 0 + n ≡ n
zero_add n = omega arith

one_further : (n m : ℕ) → n + (1 + m) ≡ n + 1 + m
one_further n m = omega arith

same_some : (n m : ℕ) → Some n ≡ Some m → n ≡ m
same_some n m e = cc

take_front : {A : Type 0} (xs ys : List A) → take (length xs) (xs ++ ys) ≡ xs
take_front [] ys = refl
take_front (x ∷ xs) ys = ap (λ l. x ∷ l) (take_front xs ys)

-- ---- places

pub places_push : (others : ℕ) (outcomes : List (Option Outcome)) (o : Option Outcome)
    → HavePlacesAfter others outcomes → HasPlaceAfter (others + places_given outcomes) o
    → HavePlacesAfter others (outcomes ++ o ∷ [])
places_push others [] o is one = (subst (λ n. HasPlaceAfter n o) (add_zero others) one, tt)
places_push others (x ∷ outcomes) o is one = (
  is.0,
  elim (may_have_place x) as (λ b. HavePlacesAfter (cond b (others + 1) others) outcomes
      → HasPlaceAfter (others + cond b (1 + places_given outcomes) (places_given outcomes)) o
      → HavePlacesAfter (cond b (others + 1) others) (outcomes ++ o ∷ [])) [
        | true ↦ λ is one. places_push (others + 1) outcomes o is
            (subst (λ n. HasPlaceAfter n o) (one_further others (places_given outcomes)) one)
        | false ↦ λ is one. places_push others outcomes o is one
      ] is.1 one,
)

pub places_last : (others : ℕ) (outcomes : List (Option Outcome)) (o : Option Outcome)
    → HavePlacesAfter others (outcomes ++ o ∷ [])
    → HavePlacesAfter others outcomes × HasPlaceAfter (others + places_given outcomes) o
places_last others [] o is = (tt, subst (λ n. HasPlaceAfter n o) (sym (add_zero others)) is.0)
places_last others (x ∷ outcomes) o is =
    let rest : HavePlacesAfter (if may_have_place x then others + 1 else others) outcomes
    × HasPlaceAfter (others + places_given (x ∷ outcomes)) o =
    elim (may_have_place x) as (λ b. HavePlacesAfter (cond b (others + 1) others) (outcomes ++ o ∷ [])
    → HavePlacesAfter (cond b (others + 1) others) outcomes × HasPlaceAfter
    (others + cond b (1 + places_given outcomes) (places_given outcomes)) o) [
      | true ↦ λ is. let h = places_last (others + 1) outcomes o is in
          (h.0, subst (λ n. HasPlaceAfter n o) (sym (one_further others (places_given outcomes))) h.1)
      | false ↦ λ is. places_last others outcomes o is
    ] is.1 in
    ((is.0, rest.0), rest.1)

-- ---- entries that ask nothing

no_claim : (items : List Item) (x : Item) → ask_in x.what ≡ None → claims (items ++ x ∷ []) ≡ claims items
no_claim items x e = claims_push items x ∙ (ap (λ (o : Option ℕ). claims items ++ claim_in items x o) e
    ∙ append-nil (claims items))

same_outcomes : (outcomes : List (Option Outcome)) → KeepsOutcomes outcomes outcomes
same_outcomes outcomes k o e = e

legal_with : (items : List Item) (x : Item) (outcomes : List (Option Outcome)) → ask_in x.what ≡ None
    → IsFit items outcomes x → IsLegal items outcomes → IsLegal (items ++ x ∷ []) outcomes
legal_with items x outcomes e fit is = legal_push items x outcomes outcomes (same_outcomes outcomes)
    (subst (λ (cs : List Claim). PlacesCount cs outcomes) (sym (no_claim items x e)) is.places_count) fit is

legal_without : (items : List Item) (x : Item) (outcomes : List (Option Outcome)) → ask_in x.what ≡ None
    → IsLegal (items ++ x ∷ []) outcomes → IsLegal items outcomes
legal_without items x outcomes e is =
    let each = is.places_count.each ∙ ap length (no_claim items x e) in
    subst (IsLegal items) (take_all (length (claims items)) outcomes (omega (arith, each)))
    (legal_front items (x ∷ []) outcomes is)

-- ---- a Plan

pub may_plan : (items : List Item) (outcomes : List (Option Outcome)) (client seq : ℕ) (body : List ℕ)
    → MayPlan items client seq → IsLegal items outcomes
    → IsLegal (items ++ plan_of client seq body ∷ []) outcomes
may_plan items outcomes client seq body may is = legal_with items (plan_of client seq body) outcomes refl
    (record {
      made = may.some_client;
      plan_next = λ e. may.next;
      unsealed = may.unsealed;
      ask_next = λ e. absurd (cc);
      has_plan = tt;
      took = tt;
      rise = λ n e. absurd (cc);
      late = tt;
    }) is

pub only_plan : (items : List Item) (outcomes : List (Option Outcome)) (client seq : ℕ) (body : List ℕ)
    → IsLegal (items ++ plan_of client seq body ∷ []) outcomes
    → IsLegal items outcomes × MayPlan items client seq
only_plan items outcomes client seq body is =
    let fit = legal_last items (plan_of client seq body) outcomes is in (
      legal_without items (plan_of client seq body) outcomes refl is,
      record
          { some_client = fit.made; next = fit.plan_next refl; unsealed = fit.unsealed },
    )

-- ---- the Seal

pub may_seal : (items : List Item) (outcomes : List (Option Outcome)) → is_sealed items ≡ false
    → IsLegal items outcomes → IsLegal (items ++ the_seal ∷ []) outcomes
may_seal items outcomes open_to is = legal_with items the_seal outcomes refl
    (record {
      made = (refl, refl);
      plan_next = λ e. absurd (cc);
      unsealed = open_to;
      ask_next = λ e. absurd (cc);
      has_plan = tt;
      took = tt;
      rise = λ n e. absurd (cc);
      late = tt;
    }) is

pub only_seal : (items : List Item) (outcomes : List (Option Outcome)) → IsLegal (items ++ the_seal ∷ []) outcomes
    → IsLegal items outcomes × (is_sealed items ≡ false)
only_seal items outcomes is = (
  legal_without items the_seal outcomes refl is,
  (legal_last items the_seal outcomes is).unsealed,
)

-- ---- an Ask

one_longer : (items : List Item) (client seq now : ℕ) → length (claims (items ++ ask_of client seq now ∷ []))
    ≡ length (claims items) + 1
one_longer items client seq now = ap length (claims_push items (ask_of client seq now))
    ∙ length-append (claims items) (claim_in items (ask_of client seq now) (Some now))

longer_keeps : (outcomes more : List (Option Outcome)) → KeepsOutcomes outcomes (outcomes ++ more)
longer_keeps outcomes more k o e = get_front outcomes more k (Some o) e

pub may_ask : (items : List Item) (outcomes : List (Option Outcome)) (client seq now : ℕ) (o : Option Outcome)
    → MayAsk items client seq now → HasPlaceAfter (places_given outcomes) o
    → IsLegal items outcomes → IsLegal (items ++ ask_of client seq now ∷ []) (outcomes ++ o ∷ [])
may_ask items outcomes client seq now o may place is =
    let longer = one_longer items client seq now in
    let each = is.places_count.each in
    let more = length-append outcomes (o ∷ []) in
    legal_push items (ask_of client seq now) outcomes (outcomes ++ o ∷ []) (longer_keeps outcomes (o ∷ []))
    (record {
      each = omega (arith, longer, each, more);
      places = places_push 0 outcomes o is.places_count.places
          (subst (λ n. HasPlaceAfter n o) (sym (zero_add (places_given outcomes))) place);
    })
    (record {
      made = may.some_client;
      plan_next = λ e. absurd (cc);
      unsealed = tt;
      ask_next = λ e. may.next;
      has_plan = found_below plan_in client seq items is.plans_count.count may.is_planned;
      took = tt;
      rise = λ n e. subst (λ (m : ℕ). AllByRecursion (λ k. k ≤ m) (give_ups items)) (same_some now n e) may.within;
      late = tt;
    }) is

pub only_ask : (items : List Item) (outcomes : List (Option Outcome)) (client seq now : ℕ) (o : Option Outcome)
    → IsLegal (items ++ ask_of client seq now ∷ []) (outcomes ++ o ∷ [])
    → IsLegal items outcomes × MayAsk items client seq now × HasPlaceAfter (places_given outcomes) o
only_ask items outcomes client seq now o is =
    let longer = one_longer items client seq now in
    let each = is.places_count.each in
    let more = length-append outcomes (o ∷ []) in
    let same : length (claims items) ≡ length outcomes = omega (arith, longer, each, more) in
    let fit = legal_last items (ask_of client seq now) (outcomes ++ o ∷ []) is in
    let before = legal_front items (ask_of client seq now ∷ []) (outcomes ++ o ∷ []) is in (
      subst (IsLegal items) (ap (λ (n : ℕ). take n (outcomes ++ o ∷ [])) same ∙ take_front outcomes (o ∷ [])) before,
      record {
        some_client = fit.made;
        next = fit.ask_next refl;
        is_planned = found_within plan_in client seq items fit.has_plan.0 before.plans_count.count fit.has_plan.1;
        within = fit.rise now refl;
      },
      subst (λ n. HasPlaceAfter n o) (zero_add (places_given outcomes))
          (places_last 0 outcomes o is.places_count.places).1,
    )

-- ---- a Took

made_claim : (front : List Item) (x : Item) (what : What) → HasMaker x.client x.seq what
    → AllByRecursion (λ (c : Claim). 1 ≤ c.client) (claim_in front x (ask_in what))
made_claim front x (Plan body) is = tt
made_claim front x Seal is = tt
made_claim front x (Ask g) is = (is, tt)
made_claim front x (Took outcome g) is = tt

made_claims : (front items : List Item) → AllByRecursion IsMade items
    → AllByRecursion (λ (c : Claim). 1 ≤ c.client) (claims_behind front items)
made_claims front [] is = tt
made_claims front (x ∷ items) is = AllByRecursion-append (λ (c : Claim). 1 ≤ c.client)
    (claim_in front x (ask_in x.what)) (claims_behind (front ++ x ∷ []) items)
    (made_claim front x x.what is.0) (made_claims (front ++ x ∷ []) items is.1)

pub asked_by_client : (items : List Item) (k client seq : ℕ) (claim : Claim) → AllByRecursion IsMade items
    → IsAskOf items k client seq claim → 1 ≤ client
asked_by_client items k client seq claim made ask =
    subst (λ (c : ℕ). 1 ≤ c) ask.same_client (all_get (λ (c : Claim). 1 ≤ c.client) (claims items) k claim
    (made_claims [] items made) ask.there)

some_get : {A : Type 0} (xs : List A) (j k : ℕ) (x y : A) → j ≡ k → slice_get xs j ≡ Some x → slice_get xs k ≡ Some y
    → x ≡ y
some_get xs j k x y e f g = let h : Some x ≡ Some y = sym f ∙ (ap (slice_get xs) e ∙ g) in cc

pub may_took : (items : List Item) (outcomes : List (Option Outcome)) (client seq : ℕ) (outcome : Outcome) (now : ℕ)
    → MayTook items outcomes client seq outcome now → IsLegal items outcomes
    → IsLegal (items ++ took_of client seq outcome now ∷ []) outcomes
may_took items outcomes client seq outcome now may is = legal_with items (took_of client seq outcome now) outcomes refl
    (record {
      made = asked_by_client items may.takes.k client seq may.takes.claim is.made may.takes.ask;
      plan_next = λ e. absurd (cc);
      unsealed = tt;
      ask_next = λ e. absurd (cc);
      has_plan = tt;
      took = may.takes;
      rise = λ n e. subst (λ (m : ℕ). AllByRecursion (λ k. k ≤ m) (give_ups items)) (same_some now n e) may.within;
      late = λ given_up k claim ask.
          let same = one_ask items may.takes.k k client seq may.takes.claim claim is.asks_follow_plans.count
          may.takes.ask ask in
          subst (λ (c : Claim). c.give_ups < now) (some_get (claims items) may.takes.k k may.takes.claim claim same
          may.takes.ask.there ask.there) (may.later given_up);
    }) is

pub only_took : (items : List Item) (outcomes : List (Option Outcome)) (client seq : ℕ) (outcome : Outcome) (now : ℕ)
    → IsLegal (items ++ took_of client seq outcome now ∷ []) outcomes
    → IsLegal items outcomes × MayTook items outcomes client seq outcome now
only_took items outcomes client seq outcome now is =
    let fit = legal_last items (took_of client seq outcome now) outcomes is in (
      legal_without items (took_of client seq outcome now) outcomes refl is,
      record {
        takes = fit.took;
        within = fit.rise now refl;
        later = λ given_up. fit.late given_up fit.took.k
            fit.took.claim fit.took.ask;
      },
    )
