-- Lemmas on legal records: one more entry, one entry less, and a front.
use Rattle.std.proofs.Common.{◌≡◌, ℕ, zero, suc, ◌+◌, ◌<◌, ◌≤◌, List, [], ◌∷◌, ◌++◌, length, take, Option, Some, None}
use Rattle.std.proofs.Common.{refl, sym, ap, ◌∙◌, subst, arith, length-append, if◌then◌else◌}
use Rattle.std.proofs.lemmas.List.{append-nil}
use Rattle.std.specs.List.{slice_get, AllByRecursion}
use Rattle.ipb_base.proofs.AllLemmas.{AllByRecursion-append, front_of_all, back_of_all}
use Rattle.world_model.proofs.Lists.{get_within}
use Rattle.lane_record.specs.declared.outcome.Outcome.{Outcome}
use Rattle.lane_record.specs.declared.item.Item.{Item}
use Rattle.lane_record.specs.declared.item.What.{What}
use Rattle.lane_record.specs.declared.item.What.TheVariants.{Plan, Seal, Ask, Took}
use Rattle.lane_record.specs.Items.{plan_in, ask_in, give_ups_in, give_ups, and_number}
use Rattle.lane_record.specs.Claims.{claims, claims_behind}
use Rattle.lane_record.specs.Lists.{NeverFalls}
use Rattle.lane_record.specs.FirstSends.{PlacesCount, HavePlacesAfter, may_have_place}
use Rattle.lane_record.specs.Legal.{IsLegal, IsMade, IsUnsealed, IsPlanned, IsTookOf, MayTake, IsLate, TakenOnce}
use Rattle.lane_record.specs.Bounds.{AreWithin}
use Rattle.lane_record.specs.Offers.{KeepsOutcomes}
use Rattle.lane_record.proofs.Sequences.{each_push, each_front, each_last, each_then, falls_push, falls_front}
use Rattle.lane_record.proofs.Sequences.{falls_last}
use Rattle.lane_record.proofs.Lookups.{IsNext, count_push, count_front, count_last, give_ups_append, claims_front}

-- what an entry needs of those before it, of whatever kind it is
pub record IsFit (items : List Item) (outcomes : List (Option Outcome)) (x : Item) : Type 0 where
  pub made : IsMade x
  pub plan_next : IsNext plan_in items x
  pub unsealed : IsUnsealed items x
  pub ask_next : IsNext ask_in items x
  pub has_plan : IsPlanned items x
  pub took : IsTookOf outcomes items x
  pub rise : (n : ℕ) → give_ups_in x.what ≡ Some n → AreWithin n items
  pub late : IsLate items x

-- ---- what became of bodies goes on

took_keeps : (old new : List (Option Outcome)) → KeepsOutcomes old new → (front : List Item) (x : Item) (what : What)
    → MayTake old front x what → MayTake new front x what
took_keeps old new keeps front x (Plan body) is = tt
took_keeps old new keeps front x Seal is = tt
took_keeps old new keeps front x (Ask g) is = tt
took_keeps old new keeps front x (Took outcome g) is = record
    { k = is.k; claim = is.claim; ask = is.ask; once = is.once; became = keeps is.k outcome is.became }

pub taken_keeps : (items : List Item) (old new : List (Option Outcome)) → KeepsOutcomes old new → TakenOnce items old
    → TakenOnce items new
taken_keeps items old new keeps is = each_then (IsTookOf old) (IsTookOf new) [] items
    (λ front x back e p. took_keeps old new keeps front x x.what p) is

pub legal_goes : (items : List Item) (old new : List (Option Outcome)) → KeepsOutcomes old new
    → PlacesCount (claims items) new → IsLegal items old → IsLegal items new
legal_goes items old new keeps places is = record {
  made = is.made;
  plans_count = is.plans_count;
  asks_follow_plans = is.asks_follow_plans;
  taken_once = taken_keeps items old new keeps is.taken_once;
  places_count = places;
  give_ups_rise = is.give_ups_rise;
}

-- ---- one more entry

rise_push : (o : Option ℕ) (ns : List ℕ) → NeverFalls 0 ns → ((n : ℕ) → o ≡ Some n → AllByRecursion (λ m. m ≤ n) ns)
    → NeverFalls 0 (ns ++ and_number o [])
rise_push None ns is all = rw (append-nil ns) is
rise_push (Some n) ns is all = falls_push 0 n ns is (all n refl) (omega arith)

pub legal_push : (items : List Item) (x : Item) (old new : List (Option Outcome)) → KeepsOutcomes old new
    → PlacesCount (claims (items ++ x ∷ [])) new
    → IsFit items new x → IsLegal items old → IsLegal (items ++ x ∷ []) new
legal_push items x old new keeps places fit is = record {
  made = AllByRecursion-append IsMade items (x ∷ []) is.made (fit.made, tt);
  plans_count = record {
    count = count_push plan_in items x is.plans_count.count fit.plan_next;
    unsealed = each_push IsUnsealed [] items x is.plans_count.unsealed fit.unsealed;
  };
  asks_follow_plans = record {
    count = count_push ask_in items x is.asks_follow_plans.count fit.ask_next;
    planned = each_push IsPlanned [] items x is.asks_follow_plans.planned fit.has_plan;
  };
  taken_once = each_push (IsTookOf new) [] items x (taken_keeps items old new keeps is.taken_once) fit.took;
  places_count = places;
  give_ups_rise = record {
    rise = subst (NeverFalls 0) (sym (give_ups_append items (x ∷ [])))
        (rise_push (give_ups_in x.what) (give_ups items) is.give_ups_rise.rise fit.rise);
    later = each_push IsLate [] items x is.give_ups_rise.later fit.late;
  };
}

-- ---- the last entry

rise_last : (o : Option ℕ) (ns : List ℕ) → NeverFalls 0 (ns ++ and_number o []) → (n : ℕ) → o ≡ Some n
    → AllByRecursion (λ m. m ≤ n) ns
rise_last None ns is n e = absurd (cc)
rise_last (Some m) ns is n e = let same : m ≡ n = cc in subst (λ (z : ℕ). AllByRecursion (λ y. y ≤ z) ns) same
    (falls_last 0 m ns is)

pub legal_last : (items : List Item) (x : Item) (outcomes : List (Option Outcome))
    → IsLegal (items ++ x ∷ []) outcomes → IsFit items outcomes x
legal_last items x outcomes is = record {
  made = (back_of_all IsMade items (x ∷ []) is.made).0;
  plan_next = count_last plan_in items x is.plans_count.count;
  unsealed = each_last IsUnsealed [] items x is.plans_count.unsealed;
  ask_next = count_last ask_in items x is.asks_follow_plans.count;
  has_plan = each_last IsPlanned [] items x is.asks_follow_plans.planned;
  took = each_last (IsTookOf outcomes) [] items x is.taken_once;
  rise = rise_last (give_ups_in x.what) (give_ups items) (subst (NeverFalls 0)
      (give_ups_append items (x ∷ [])) is.give_ups_rise.rise);
  late = each_last IsLate [] items x is.give_ups_rise.later;
}

-- ---- a front

get_take : {A : Type 0} (n k : ℕ) (xs : List A) (x : A) → k < n → slice_get xs k ≡ Some x
    → slice_get (take n xs) k ≡ Some x
get_take zero k xs x lt e = absurd (omega (arith, lt))
get_take (suc n) k [] x lt e = absurd (cc)
get_take (suc n) zero (y ∷ xs) x lt e = e
get_take (suc n) (suc k) (y ∷ xs) x lt e = get_take n k xs x (omega (arith, lt)) e

places_take : (n others : ℕ) (outcomes : List (Option Outcome)) → HavePlacesAfter others outcomes
    → HavePlacesAfter others (take n outcomes)
places_take zero others outcomes is = tt
places_take (suc n) others [] is = tt
places_take (suc n) others (o ∷ os) is = (is.0, places_take n (if may_have_place o then others + 1 else others) os is.1)

take_length : {A : Type 0} (n : ℕ) (xs : List A) → n ≤ length xs → length (take n xs) ≡ n
take_length zero xs le = refl
take_length (suc n) [] le = absurd (omega (arith, le))
take_length (suc n) (x ∷ xs) le = ap suc (take_length n xs (omega (arith, le)))

fewer_claims : (xs ys : List Item) → length (claims xs) ≤ length (claims (xs ++ ys))
fewer_claims xs ys = let e = ap length (claims_front xs ys) ∙ length-append (claims xs)
    (claims_behind xs ys) in omega (arith, e)

took_front : (n : ℕ) (outcomes : List (Option Outcome)) (front : List Item) (x : Item) (what : What)
    → length (claims front) ≤ n → MayTake outcomes front x what → MayTake (take n outcomes) front x what
took_front n outcomes front x (Plan body) le is = tt
took_front n outcomes front x Seal le is = tt
took_front n outcomes front x (Ask g) le is = tt
took_front n outcomes front x (Took outcome g) le is =
    let there = get_within (claims front) is.k is.claim is.ask.there in
    record {
      k = is.k;
      claim = is.claim;
      ask = is.ask;
      once = is.once;
      became = get_take n is.k outcomes
          (Some outcome) (omega (arith, there, le)) is.became;
    }

pub legal_front : (front back : List Item) (outcomes : List (Option Outcome)) → IsLegal (front ++ back) outcomes
    → IsLegal front (take (length (claims front)) outcomes)
legal_front front back outcomes is =
    let n = length (claims front) in
    let few = fewer_claims front back in
    let each = is.places_count.each in
    record {
      made = front_of_all IsMade front back is.made;
      plans_count = record {
        count = count_front plan_in front back is.plans_count.count;
        unsealed = each_front IsUnsealed [] front back is.plans_count.unsealed;
      };
      asks_follow_plans = record {
        count = count_front ask_in front back is.asks_follow_plans.count;
        planned = each_front IsPlanned [] front back is.asks_follow_plans.planned;
      };
      taken_once = each_then (IsTookOf outcomes) (IsTookOf (take n outcomes)) [] front
          (λ before x after e p. took_front n outcomes before x x.what
          (subst (λ (l : List Item). length (claims before) ≤ length (claims l)) e
          (fewer_claims before (x ∷ after))) p)
          (each_front (IsTookOf outcomes) [] front back is.taken_once);
      places_count = record {
        each = take_length n outcomes (omega (arith, few, each));
        places = places_take n 0 outcomes is.places_count.places;
      };
      give_ups_rise = record {
        rise = falls_front 0 (give_ups front) (give_ups back)
            (subst (NeverFalls 0) (give_ups_append front back) is.give_ups_rise.rise);
        later = each_front IsLate [] front back is.give_ups_rise.later;
      };
    }
