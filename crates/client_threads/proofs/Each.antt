-- What holds of each lane, through calls one after another.
use Rattle.std.proofs.Common.{◌≡◌, ℕ, ◌+◌, ◌<◌, ◌≤◌, zero, suc, Bool, true, false, ◌==◌, if◌then◌else◌, List, [], ◌∷◌}
use Rattle.std.proofs.Common.{◌++◌, map, length, take, get_or, set, sum, Some, inl, inr, refl, sym, ap, ◌∙◌, subst}
use Rattle.std.proofs.Common.{arith, append-nil, append_assoc, length-append}
use Rattle.std.proofs.Math.ListN.{length-set}
use Rattle.std.proofs.lemmas.Bool.{eq-eqb, eqb-true, eqb-false}
use Rattle.std.proofs.lemmas.List.{length-map, map-append, take-map, take_more}
use Rattle.std.proofs.lemmas.List.Sums.{sum-map, sum_by_more_le, sum_by-cons}
use Rattle.std.proofs.lemmas.Option.{same_Some, slice_get_cases, slice_get_within, none-some}
use Rattle.std.specs.List.{AllByRecursion, slice_get, sum_by}
use Rattle.turn_pass.specs.Pass.{Knowledge}
use Rattle.lane_record.specs.declared.outcome.Outcome.{Outcome}
use Rattle.lane_record.specs.Dispatches.{outcomes_in_order}
use Rattle.hub_lane.specs.declared.answers.Asked.TheVariants as asks
use Rattle.hub_multiplexer.specs.Seats.{ChangesAt, SeatState}
use Rattle.hub_multiplexer.specs.Calls.{AskMeans, IsNone, MadeInTime, PerformMeans}
use Rattle.hub_multiplexer.specs.declared.answers.Performed.TheVariants as performs
use Rattle.client_threads.specs.declared.plan.Dispatch.{Dispatch}
use Rattle.client_threads.specs.declared.plan.ClientPlan.{ClientPlan}
use Rattle.client_threads.specs.Clients.{AreRisingFrom, bodies_on, counts_on}
use Rattle.client_threads.specs.Running.{AddNoPlans, AddsNoPlan, AskedOnEach, AtEach, CanAsk, CanTake, DispatchedOnEach}
use Rattle.client_threads.specs.Running.{HasAskedMore, HasRun, HasTakenMore, HasTakenThese, IsSameSeat, OfEach, TookOn}
use Rattle.client_threads.specs.Running.{TookOnEach, asking, between, behind, on_lane, taking}
use Rattle.client_threads.proofs.Actions.{joined_more}
use Rattle.client_threads.proofs.Positions.{asked_at, asked_none, asked_then, dispatch_done_at, no_plan_asked}
use Rattle.client_threads.proofs.Positions.{no_plan_looked, no_plan_none, no_plan_then, no_plan_took, not_all_asked}
use Rattle.client_threads.proofs.Positions.{not_all_taken, took_at, took_none, took_then}

-- ---- lists of lanes

pub there : {A B : Type 0} (xs : List A) (ys : List B) (i : ℕ) (x : A) → length ys ≡ length xs
    → slice_get xs i ≡ Some x → (y : B) × (slice_get ys i ≡ Some y)
there xs ys i x long e =
    let low = slice_get_within xs i x e in
    elim ((slice_get_cases ys i).1) [
      | inl here ↦ (here.0, here.2)
      | inr past ↦ let ge = past.0 in absurd (omega arith)
    ]

pub get_set_same : {A : Type 0} (xs : List A) (i : ℕ) (x y : A) → slice_get xs i ≡ Some y
    → slice_get (set xs i x) i ≡ Some x
get_set_same [] i x y e = absurd (none-some y e)
get_set_same (z ∷ zs) zero x y e = refl
get_set_same (z ∷ zs) (suc i) x y e = get_set_same zs i x y e

pub get_set_other : {A : Type 0} (xs : List A) (i j : ℕ) (x : A) → (i ≡ j → ⊥)
    → slice_get (set xs i x) j ≡ slice_get xs j
get_set_other [] i j x ne = refl
get_set_other (z ∷ zs) zero zero x ne = absurd (ne refl)
get_set_other (z ∷ zs) zero (suc j) x ne = refl
get_set_other (z ∷ zs) (suc i) zero x ne = refl
get_set_other (z ∷ zs) (suc i) (suc j) x ne = get_set_other zs i j x (λ e. ne (ap suc e))

pub each_then : {A B C : Type 0} (xs : List A) (ys : List B) (zs : List C) (R : ℕ → A → B → Type 0)
    (S : ℕ → B → C → Type 0) (Q : ℕ → A → C → Type 0) → AtEach xs ys R → AtEach ys zs S
    → ((lane : ℕ) (x : A) (y : B) (z : C) → R lane x y → S lane y z → Q lane x z) → AtEach xs zs Q
each_then xs ys zs R S Q r s f = record {
  long = s.long ∙ r.long;
  each = λ lane x z ex ez. let y = there xs ys lane x r.long ex in
      f lane x y.0 z (r.each lane x y.0 ex y.1) (s.each lane y.0 z y.1 ez);
}

pub each_self : {A : Type 0} (xs : List A) (R : ℕ → A → A → Type 0) → ((lane : ℕ) (x : A) → R lane x x) → AtEach xs xs R
each_self xs R f = record {
  long = refl;
  each = λ lane x y ex ey. subst (R lane x) (same_Some x y (sym ex ∙ ey)) (f lane x);
}

-- a call on one lane
pub changed : (lane : ℕ) (old new : SeatState) (P : Knowledge → Knowledge → Type 0)
    (R : ℕ → Knowledge → Knowledge → Type 0) → ChangesAt lane old new P
    → ((k after : Knowledge) → P k after → R lane k after)
    → ((on : ℕ) (k : Knowledge) → (lane ≡ on → ⊥) → R on k k) → AtEach old.knows new.knows R
changed lane old new P R c here other =
    let now : new.knows ≡ set old.knows lane c.after = ap (λ (s : SeatState). s.knows) c.becomes in record {
      long = ap length now ∙ length-set old.knows lane c.after;
      each = λ on x y ex ey. elim (lane == on) as (λ b. (lane == on) ≡ b → R on x y) [
        | true ↦ λ e. let same = eqb-true lane on e in
            let at_lane = λ (n : ℕ). (λ (z : lane ≡ n). z) in
            let x_is : c.before ≡ x = same_Some c.before x (sym c.there ∙ (ap (slice_get old.knows) same ∙ ex)) in
            let y_is : c.after ≡ y = same_Some c.after y (sym (get_set_same old.knows lane c.after c.before c.there)
            ∙ ((λ i. slice_get (sym now i) (same i)) ∙ ey)) in
            subst (λ (n : ℕ). R n x y) same (subst (λ (a : Knowledge). R lane a y) x_is
            (subst (R lane c.before) y_is (here c.before c.after c.relation)))
        | false ↦ λ e. let ne = eqb-false lane on e in
            let y_is : x ≡ y = same_Some x y (sym ex ∙ (sym (get_set_other old.knows lane on c.after ne)
            ∙ ((λ i. slice_get (sym now i) on) ∙ ey))) in
            subst (R on x) y_is (other on x ne)
      ] refl;
    }

pub same_seat : (lane : ℕ) (old new : SeatState) (P : Knowledge → Knowledge → Type 0) → ChangesAt lane old new P
    → IsSameSeat old new
same_seat lane old new P c = (ap (λ (s : SeatState). s.client) c.becomes, ap (λ (s : SeatState). s.turns) c.becomes)

pub seat_then : (a b c : SeatState) → IsSameSeat a b → IsSameSeat b c → IsSameSeat a c
seat_then a b c one two = (two.0 ∙ one.0, two.1 ∙ one.1)

-- ---- how many bodies of a lane

abbrev pub on_one : ℕ → ℕ → ℕ → ℕ
on_one lane n on = bodies_on on ((lane, n) ∷ [])

if_sum : (b : Bool) (n m : ℕ) → (if b then n + 0 else 0) + (if b then m + 0 else 0) ≡ (if b then n + m + 0 else 0)
if_sum true n m = omega arith
if_sum false n m = omega arith

pub on_one_more : (lane n m on : ℕ) → on_one lane n on + on_one lane m on ≡ on_one lane (n + m) on
on_one_more lane n m on = if_sum (lane == on) n m

pub on_one_same : (lane n : ℕ) → on_one lane n lane ≡ n
on_one_same lane n = rw (eq-eqb lane lane refl) (let e : n + 0 ≡ n = omega arith in e)

on_one_other : (lane n on : ℕ) → (lane ≡ on → ⊥) → on_one lane n on ≡ 0
on_one_other lane n on ne = elim (lane == on) as (λ b. (lane == on) ≡ b → (if b then n + 0 else 0) ≡ 0) [
  | true ↦ λ e. absurd (ne (eqb-true lane on e))
  | false ↦ λ e. refl
] refl

pub on_one_none : (lane on : ℕ) → on_one lane 0 on ≡ 0
on_one_none lane on = if_none (lane == on)
  where
    if_none : (b : Bool) → (if b then 0 + 0 else 0) ≡ 0
    if_none true = refl
    if_none false = refl

pub on_one_left : (lane a n on : ℕ) → a < n → on_one lane a on + on_one lane 1 on ≤ on_one lane n on
on_one_left lane a n on low = cases (lane == on)
  where
    cases : (b : Bool) → (if b then a + 0 else 0) + (if b then 1 + 0 else 0) ≤ (if b then n + 0 else 0)
    cases true = omega arith
    cases false = omega arith

pub bodies_append : (on : ℕ) (xs ys : List (ℕ × ℕ)) → bodies_on on (xs ++ ys) ≡ bodies_on on xs + bodies_on on ys
bodies_append on [] ys = omega arith
bodies_append on (x ∷ xs) ys = cases (x.0 == on) x.1 (bodies_on on xs) (bodies_on on ys) (bodies_on on (xs ++ ys))
    (bodies_append on xs ys)
  where
    cases : (b : Bool) (n a c ac : ℕ) → ac ≡ a + c → (if b then n + ac else ac) ≡ (if b then n + a else a) + c
    cases true n a c ac e = omega arith
    cases false n a c ac e = e

pub bodies_more : (on : ℕ) (xs : List (ℕ × ℕ)) (i : ℕ) (d : ℕ × ℕ) → i < length xs
    → bodies_on on (take i xs) + bodies_on on (get_or xs i d ∷ []) ≡ bodies_on on (take (i + 1) xs)
bodies_more on xs i d low = sym (ap (bodies_on on) (take_more xs i d low)
    ∙ bodies_append on (take i xs) (get_or xs i d ∷ []))

bodies_within : (on : ℕ) (xs : List (ℕ × ℕ)) (i : ℕ) → bodies_on on (take i xs) ≤ bodies_on on xs
bodies_within on [] zero = omega arith
bodies_within on [] (suc i) = omega arith
bodies_within on (x ∷ xs) zero = omega arith
bodies_within on (x ∷ xs) (suc i) = cases (x.0 == on) x.1 (bodies_on on (take i xs)) (bodies_on on xs)
    (bodies_within on xs i)
  where
    cases : (b : Bool) (n a c : ℕ) → a ≤ c → (if b then n + a else a) ≤ (if b then n + c else c)
    cases true n a c h = omega arith
    cases false n a c h = h

pub bodies_left : (on : ℕ) (xs : List (ℕ × ℕ)) (i : ℕ) (d : ℕ × ℕ) → i < length xs
    → bodies_on on (take i xs) + bodies_on on (get_or xs i d ∷ []) ≤ bodies_on on xs
bodies_left on xs i d low = let a = bodies_more on xs i d low in let b = bodies_within on xs (i + 1) in omega arith

-- all of them
pub take_whole : {A : Type 0} (xs : List A) (i : ℕ) → length xs ≤ i → take i xs ≡ xs
take_whole [] zero le = refl
take_whole [] (suc i) le = refl
take_whole (x ∷ xs) zero le = absurd (omega arith)
take_whole (x ∷ xs) (suc i) le = ap (◌∷◌ x) (take_whole xs i (omega arith))

-- the lanes of a dispatch are those of the hub
pub lane_low : (least lanes : ℕ) (xs : List (ℕ × ℕ)) (i : ℕ) (d : ℕ × ℕ) → AreRisingFrom least lanes xs → i < length xs
    → (get_or xs i d).0 < lanes
lane_low least lanes [] i d rise low = absurd (omega arith)
lane_low least lanes (y ∷ ys) zero d rise low = rise.1
lane_low least lanes (y ∷ ys) (suc i) d rise low = lane_low (y.0 + 1) lanes ys i d rise.2 (omega arith)

pub all_at : {A : Type 0} (P : A → Type 0) (xs : List A) (i : ℕ) (x : A) → AllByRecursion P xs → i < length xs
    → x ≡ get_or xs i x → P x
all_at P [] i x all low is = absurd (omega arith)
all_at P (y ∷ ys) zero x all low is = subst P (sym is) all.0
all_at P (y ∷ ys) (suc i) x all low is = all_at P ys i x all.1 (omega arith) is

-- ---- Asks

pub asked_step : (lane seq : ℕ) (old new : SeatState) → ChangesAt lane old new
    (λ k. MadeInTime k (AskMeans k (asks.Asked seq))) → AskedOnEach (on_one lane 1) old.knows new.knows
asked_step lane seq old new c = changed lane old new (λ k. MadeInTime k (AskMeans k (asks.Asked seq)))
    (λ on. HasAskedMore (on_one lane 1 on)) c
    (λ k after m. subst (λ (n : ℕ). HasAskedMore n k after) (sym (on_one_same lane 1)) (asked_at k after seq m))
    (λ on k ne. subst (λ (n : ℕ). HasAskedMore n k k) (sym (on_one_other lane 1 on ne)) (asked_none k))

pub all_asked_none : (n : ℕ → ℕ) (ks : List Knowledge) → ((on : ℕ) → n on ≡ 0) → AskedOnEach n ks ks
all_asked_none n ks none = each_self ks (λ on. HasAskedMore (n on))
    (λ on k. subst (λ (m : ℕ). HasAskedMore m k k) (sym (none on)) (asked_none k))

pub all_asked_then : (n m r : ℕ → ℕ) (a b c : List Knowledge) → AskedOnEach n a b → AskedOnEach m b c
    → ((on : ℕ) → n on + m on ≡ r on) → AskedOnEach r a c
all_asked_then n m r a b c one two e = each_then a b c (λ on. HasAskedMore (n on)) (λ on. HasAskedMore (m on))
    (λ on. HasAskedMore (r on)) one two
    (λ on x y z f g. subst (λ (s : ℕ). HasAskedMore s x z) (e on) (asked_then (n on) (m on) x y z f g))

pub still_can_ask : (n m r : ℕ → ℕ) (a b : List Knowledge) → OfEach a (λ on. CanAsk (n on)) → AskedOnEach m a b
    → ((on : ℕ) → m on + r on ≤ n on) → OfEach b (λ on. CanAsk (r on))
still_can_ask n m r a b can asked le on y ey =
    let x = there b a on y (sym asked.long) ey in
    let c = can on x.0 x.1 in
    let left = le on in record {
      place = asking (m on) c.place;
      stands = asked.each on x.0 y x.1 ey c.place c.stands c.none_taken;
      none_taken = c.none_taken;
      enough = let h = c.enough in let e : behind c.place + (c.place.asks + m on) + r on ≤ c.place.planned =
          omega arith in e;
    }

pub none_to_ask : (lane : ℕ) (old new : SeatState) → OfEach old.knows (λ on. CanAsk (on_one lane 1 on))
    → ChangesAt lane old new (λ k. MadeInTime k (AskMeans k asks.Nothing)) → ⊥
none_to_ask lane old new can c =
    let s = can lane c.before c.there in
    let one = on_one_same lane 1 in
    let h = s.enough in
    not_all_asked s.place c.before c.after s.stands (omega arith) c.relation

-- ---- Tooks

abbrev Taken : ℕ → List Outcome → ℕ → Knowledge → Knowledge → Type 0
Taken lane more on k after = HasTakenThese (on_lane lane more on) k after

on_lane_append : (lane on : ℕ) (xs ys : List Outcome) → on_lane lane xs on ++ on_lane lane ys on ≡ on_lane lane
    (xs ++ ys) on
on_lane_append lane on xs ys = cases (lane == on)
  where
    cases : (b : Bool) → (if b then xs else []) ++ (if b then ys else []) ≡ (if b then xs ++ ys else [])
    cases true = refl
    cases false = refl

on_lane_same : (lane : ℕ) (xs : List Outcome) → on_lane lane xs lane ≡ xs
on_lane_same lane xs = rw (eq-eqb lane lane refl) refl

on_lane_other : (lane on : ℕ) (xs : List Outcome) → (lane ≡ on → ⊥) → on_lane lane xs on ≡ []
on_lane_other lane on xs ne = elim (lane == on) as (λ b. (lane == on) ≡ b → (if b then xs else []) ≡ []) [
  | true ↦ λ e. absurd (ne (eqb-true lane on e))
  | false ↦ λ e. refl
] refl

on_lane_length : (lane on : ℕ) (xs : List Outcome) → length (on_lane lane xs on) ≡ on_one lane (length xs) on
on_lane_length lane on xs = cases (lane == on)
  where
    cases : (b : Bool) → length (if b then xs else []) ≡ (if b then length xs + 0 else 0)
    cases true = omega arith
    cases false = refl

pub took_on_none : (lane : ℕ) (had : List Outcome) (ks : List Knowledge) → TookOn lane 0 had had ks ks
took_on_none lane had ks = record {
  more = [];
  many = refl;
  grew = sym (append-nil had);
  took = each_self ks (Taken lane []) (λ on k. subst (λ (l : List Outcome). HasTakenThese l k k) (none (lane == on))
      (took_none k));
}
  where
    none : (b : Bool) → ◌≡◌ {A = List Outcome} [] (if b then [] else [])
    none true = refl
    none false = refl

pub took_on_step : (lane n : ℕ) (had have haves : List Outcome) (outcome : Outcome) (a : List Knowledge)
    (old new : SeatState) → TookOn lane n had have a old.knows
    → ChangesAt lane old new (λ k. MadeInTime k (PerformMeans k (performs.Ready outcome)))
    → haves ≡ have ++ outcome ∷ [] → TookOn lane (n + 1) had haves a new.knows
took_on_step lane n had have haves outcome a old new t c pushed =
    let last : List Outcome = outcome ∷ [] in
    let step : AtEach old.knows new.knows (Taken lane last) = changed lane old new
    (λ k. MadeInTime k (PerformMeans k (performs.Ready outcome))) (Taken lane last) c
    (λ k after m. subst (λ (l : List Outcome). HasTakenThese l k after) (sym (on_lane_same lane last))
    (took_at k after outcome m))
    (λ on k ne. subst (λ (l : List Outcome). HasTakenThese l k k) (sym (on_lane_other lane on last ne))
    (took_none k)) in record {
      more = t.more ++ last;
      many = let m = t.many in omega (arith, length-append t.more last);
      grew = pushed ∙ (ap (λ (l : List Outcome). l ++ last) t.grew ∙ append_assoc had t.more last);
      took = each_then a old.knows new.knows (Taken lane t.more) (Taken lane last)
          (Taken lane (t.more ++ last)) t.took step
          (λ on x y z f g. subst (λ (l : List Outcome). HasTakenThese l x z) (on_lane_append lane on t.more last)
          (took_then (on_lane lane t.more on) (on_lane lane last on) x y z f g));
    }

pub still_can_take_on : (lane n m r : ℕ) (had have : List Outcome) (a b : List Knowledge)
    → OfEach a (λ on. CanTake (on_one lane n on)) → TookOn lane m had have a b → m + r ≤ n
    → OfEach b (λ on. CanTake (on_one lane r on))
still_can_take_on lane n m r had have a b can t le on y ey =
    let x = there b a on y (sym t.took.long) ey in
    let c = can on x.0 x.1 in
    let more = on_lane lane t.more on in
    let long = on_lane_length lane on t.more in
    let many : on_one lane (length t.more) on ≡ on_one lane m on = ap (λ (k : ℕ). on_one lane k on) t.many in
    let sum_is = on_one_more lane m r on in
    let within = on_one_le lane (m + r) n on le in record {
      place = taking more c.place;
      stands = t.took.each on x.0 y x.1 ey c.place c.stands;
      enough = let h = c.enough in let e : length (c.place.taken ++ more) + on_one lane r on ≤ c.place.asks =
          omega (arith, length-append c.place.taken more) in e;
    }
  where
    on_one_le : (lane n m on : ℕ) → n ≤ m → on_one lane n on ≤ on_one lane m on
    on_one_le lane n m on le = cases (lane == on)
      where
        cases : (b : Bool) → (if b then n + 0 else 0) ≤ (if b then m + 0 else 0)
        cases true = omega arith
        cases false = omega arith

pub none_to_take : (lane : ℕ) (old new : SeatState) → OfEach old.knows (λ on. CanTake (on_one lane 1 on))
    → ChangesAt lane old new (λ k. MadeInTime k (PerformMeans k performs.Nothing)) → ⊥
none_to_take lane old new can c =
    let s = can lane c.before c.there in
    let one = on_one_same lane 1 in
    let h = s.enough in
    not_all_taken s.place c.before c.after s.stands (omega arith) c.relation

-- what was taken on one lane stands in the list of that lane
pub took_into : (lane n : ℕ) (hads haves : List (List Outcome)) (had have none : List Outcome) (a b : List Knowledge)
    → slice_get hads lane ≡ Some had → haves ≡ set (set hads lane none) lane have → TookOn lane n had have a b
    → TookOnEach (on_one lane n) hads haves a b
took_into lane n hads haves had have none a b here now t = record {
  long = ap length now ∙ (length-set (set hads lane none) lane have ∙ length-set hads lane none);
  took = record {
    long = t.took.long;
    each = λ on k after ek ea was is ew ei. elim (lane == on) as (λ c. (lane == on) ≡ c
        → HasTakenThese (if c then t.more else []) k after → HasTakenMore (if c then n + 0 else 0) was is k after) [
          | true ↦ λ e took. let same = eqb-true lane on e in
              let was_is : had ≡ was = same_Some had was (sym here ∙ (ap (slice_get hads) same ∙ ew)) in
              let set_is : slice_get (set (set hads lane none) lane have) lane ≡ Some have = get_set_same
              (set hads lane none) lane have none (get_set_same hads lane none had here) in
              let is_is : have ≡ is = same_Some have is (sym set_is ∙ ((λ i. slice_get (sym now i) (same i)) ∙ ei)) in
              record {
                more = t.more;
                many = let m = t.many in let z : length t.more ≡ n + 0 = omega arith in z;
                grew = sym is_is ∙ (t.grew ∙ ap (λ (l : List Outcome). l ++ t.more) was_is);
                took = took;
              }
          | false ↦ λ e took. let ne = eqb-false lane on e in
              let unset : slice_get (set (set hads lane none) lane have) on ≡ slice_get hads on = get_set_other
              (set hads lane none) lane on have ne ∙ get_set_other hads lane on none ne in
              let is_is : is ≡ was = same_Some is was (sym ei ∙ (ap (λ (l : List (List Outcome)). slice_get l on) now
              ∙ (unset ∙ ew))) in record {
                more = [];
                many = refl;
                grew = is_is ∙ sym (append-nil was);
                took = took;
              }
        ] refl (t.took.each on k after ek ea);
  };
}

pub all_took_then : (n m r : ℕ → ℕ) (h i j : List (List Outcome)) (a b c : List Knowledge) → TookOnEach n h i a b
    → TookOnEach m i j b c → ((on : ℕ) → n on + m on ≡ r on) → TookOnEach r h j a c
all_took_then n m r h i j a b c one two e = record {
  long = two.long ∙ one.long;
  took = record {
    long = two.took.long ∙ one.took.long;
    each = λ on x z ex ez was is ew ei.
        let y = there a b on x one.took.long ex in
        let mid = there h i on was one.long ew in
        let f = one.took.each on x y.0 ex y.1 was mid.0 ew mid.1 in
        let g = two.took.each on y.0 z y.1 ez mid.0 is mid.1 ei in
        let total = e on in record {
          more = f.more ++ g.more;
          many = let p = f.many in let q = g.many in omega (arith, length-append f.more g.more);
          grew = g.grew ∙ (ap (λ (l : List Outcome). l ++ g.more) f.grew ∙ append_assoc was f.more g.more);
          took = took_then f.more g.more x y.0 z f.took g.took;
        };
  };
}

pub still_can_take : (n m r : ℕ → ℕ) (h i : List (List Outcome)) (a b : List Knowledge) → length h ≡ length a
    → OfEach a (λ on. CanTake (n on)) → TookOnEach m h i a b → ((on : ℕ) → m on + r on ≤ n on)
    → OfEach b (λ on. CanTake (r on))
still_can_take n m r h i a b long can t le on y ey =
    let x = there b a on y (sym t.took.long) ey in
    let was = there a h on x.0 long x.1 in
    let is = there h i on was.0 t.long was.1 in
    let f = t.took.each on x.0 y x.1 ey was.0 is.0 was.1 is.1 in
    let c = can on x.0 x.1 in
    let left = le on in record {
      place = taking f.more c.place;
      stands = f.took c.place c.stands;
      enough = let p = c.enough in let q = f.many in let e : length (c.place.taken ++ f.more) + r on ≤ c.place.asks =
          omega (arith, length-append c.place.taken f.more) in e;
    }

-- ---- a dispatch

pub can_take_asked : (n : ℕ → ℕ) (a b : List Knowledge) → OfEach a (λ on. CanAsk (n on)) → AskedOnEach n a b
    → OfEach b (λ on. CanTake (n on))
can_take_asked n a b can asked on y ey =
    let x = there b a on y (sym asked.long) ey in
    let c = can on x.0 x.1 in
    let none : length c.place.taken ≡ 0 = ap length c.none_taken in record {
      place = asking (n on) c.place;
      stands = asked.each on x.0 y x.1 ey c.place c.stands c.none_taken;
      enough = let e : length c.place.taken + n on ≤ c.place.asks + n on = omega arith in e;
    }

pub dispatched : (n : ℕ → ℕ) (had have : List (List Outcome)) (a b c : List Knowledge) → AskedOnEach n a b
    → TookOnEach n had have b c → DispatchedOnEach n had have a c
dispatched n had have a b c asked took = record {
  long = took.long;
  did = record {
    long = took.took.long ∙ asked.long;
    each = λ on x z ex ez was is ew ei.
        let y = there a b on x asked.long ex in
        let f = took.took.each on y.0 z y.1 ez was is ew ei in record {
          more = f.more;
          many = f.many;
          grew = f.grew;
          went = λ client planned done i. dispatch_done_at client planned done f.more (n on) x y.0 z i
              (asked.each on x y.0 ex y.1) f.took f.many;
        };
  };
}

-- ---- all dispatches

pub sum_joined : (ds : List (List Outcome)) → length (outcomes_in_order ds) ≡ sum (map (λ (d : List Outcome). length d) ds)
sum_joined [] = refl
sum_joined (d ∷ ds) =
    let h = sum_joined ds in
    let f = λ (d : List Outcome). length d in
    omega (arith, length-append d (outcomes_in_order ds), sum-map f ds, sum-map f (d ∷ ds), sum_by-cons f d ds)

pub run_can_ask : (p : ClientPlan) (i : ℕ) (d : Dispatch) (ks : List Knowledge) (have : List (List Outcome))
    → i < length p.dispatches → d ≡ get_or p.dispatches i d
    → AtEach ks have (λ on. HasRun p.client (sum (counts_on on p)) (take i (counts_on on p)))
    → OfEach ks (λ on. CanAsk (bodies_on on d.asks))
run_can_ask p i d ks have low is run on k ek =
    let all = p.dispatches in
    let o = there ks have on k run.long ek in
    let h = run.each on k o.0 ek o.1 in
    let f = λ (e : Dispatch). bodies_on on e.asks in
    let total : sum_by f (take i all) + f d ≤ sum_by f all =
    subst (λ (e : Dispatch). sum_by f (take i all) + f e ≤ sum_by f all) (sym is) (sum_by_more_le f all i d low) in
    let done_is : length (outcomes_in_order h.done) ≡ sum (map f (take i all)) =
    sum_joined h.done ∙ (ap sum h.cut ∙ ap sum (take-map f i all)) in
    let one = sum-map f (take i all) in
    let two = sum-map f all in record {
      place = between p.client (sum (counts_on on p)) h.done;
      stands = h.stands;
      none_taken = refl;
      enough = let e : length (outcomes_in_order h.done) + 0 + f d ≤ sum (counts_on on p) = omega arith in e;
    }

pub run_more : (p : ClientPlan) (i : ℕ) (d : Dispatch) (a b : List Knowledge) (had have : List (List Outcome))
    → i < length p.dispatches → d ≡ get_or p.dispatches i d
    → AtEach a had (λ on. HasRun p.client (sum (counts_on on p)) (take i (counts_on on p)))
    → DispatchedOnEach (λ on. bodies_on on d.asks) had have a b
    → AtEach b have (λ on. HasRun p.client (sum (counts_on on p)) (take (i + 1) (counts_on on p)))
run_more p i d a b had have low is run did = record {
  long = did.long ∙ (run.long ∙ sym did.did.long);
  each = λ on y now ey en.
      let all = p.dispatches in
      let x = there b a on y (sym did.did.long) ey in
      let was = there a had on x.0 run.long x.1 in
      let h = run.each on x.0 was.0 x.1 was.1 in
      let f = did.did.each on x.0 y x.1 ey was.0 now was.1 en in
      let g = λ (e : Dispatch). bodies_on on e.asks in
      let front : map g (take (i + 1) all) ≡ map g (take i all) ++ g d ∷ [] = ap (map g)
      (take_more all i d low ∙ ap (λ (z : Dispatch). take i all ++ z ∷ []) (sym is))
      ∙ map-append g (take i all) (d ∷ []) in
      let more : take (i + 1) (map g all) ≡ take i (map g all) ++ g d ∷ [] = take-map g (i + 1) all
      ∙ (front ∙ ap (λ (l : List ℕ). l ++ g d ∷ []) (sym (take-map g i all))) in record {
        done = h.done ++ f.more ∷ [];
        cut = map-append (λ (l : List Outcome). length l) h.done (f.more ∷ [])
            ∙ ((λ j. h.cut j ++ f.many j ∷ []) ∙ sym more);
        outcomes = f.grew ∙ (ap (λ (l : List Outcome). l ++ f.more) h.outcomes ∙ sym (joined_more h.done f.more));
        stands = f.went p.client (sum (counts_on on p)) h.done h.stands;
      };
}

pub run_whole : (p : ClientPlan) (i : ℕ) (ks : List Knowledge) (have : List (List Outcome)) → length p.dispatches ≤ i
    → AtEach ks have (λ on. HasRun p.client (sum (counts_on on p)) (take i (counts_on on p)))
    → AtEach ks have (λ on. HasRun p.client (sum (counts_on on p)) (counts_on on p))
run_whole p i ks have le run = record {
  long = run.long;
  each = λ on k o ek eo.
      let f = λ (e : Dispatch). bodies_on on e.asks in
      let long = length-map p.dispatches f in
      subst (λ (l : List ℕ). HasRun p.client (sum (counts_on on p)) l k o) (take_whole (counts_on on p) i (omega arith))
      (run.each on k o ek eo);
}

-- ---- no Plan

pub no_plans_none : (ks : List Knowledge) → AddNoPlans ks ks
no_plans_none ks = each_self ks (λ on. AddsNoPlan) (λ on k. no_plan_none k)

pub no_plans_then : (a b c : List Knowledge) → AddNoPlans a b → AddNoPlans b c → AddNoPlans a c
no_plans_then a b c one two = each_then a b c (λ on. AddsNoPlan) (λ on. AddsNoPlan) (λ on. AddsNoPlan) one two
    (λ on x y z f g. no_plan_then x y z f g)

pub no_plans_looked : (lane : ℕ) (old new : SeatState) → ChangesAt lane old new (λ k. MadeInTime k IsNone)
    → AddNoPlans old.knows new.knows
no_plans_looked lane old new c = changed lane old new (λ k. MadeInTime k IsNone) (λ on. AddsNoPlan) c
    (λ k after m. no_plan_looked k after m) (λ on k ne. no_plan_none k)

pub no_plans_asked : (lane seq : ℕ) (old new : SeatState) → ChangesAt lane old new
    (λ k. MadeInTime k (AskMeans k (asks.Asked seq))) → AddNoPlans old.knows new.knows
no_plans_asked lane seq old new c = changed lane old new (λ k. MadeInTime k (AskMeans k (asks.Asked seq)))
    (λ on. AddsNoPlan) c (λ k after m. no_plan_asked k after seq m) (λ on k ne. no_plan_none k)

pub no_plans_took : (lane : ℕ) (outcome : Outcome) (old new : SeatState)
    → ChangesAt lane old new (λ k. MadeInTime k (PerformMeans k (performs.Ready outcome)))
    → AddNoPlans old.knows new.knows
no_plans_took lane outcome old new c = changed lane old new (λ k. MadeInTime k
    (PerformMeans k (performs.Ready outcome))) (λ on. AddsNoPlan) c (λ k after m. no_plan_took k after outcome m)
    (λ on k ne. no_plan_none k)
