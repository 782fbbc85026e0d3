-- Who gave up has waited.
use Rattle.std.proofs.Common.{◌≡◌, ℕ, zero, suc, ◌+◌, ◌*◌, ◌<◌, ◌≤◌, Bool, true, false, cond, ◌==◌, ◌||◌}
use Rattle.std.proofs.Common.{List, [], ◌∷◌, ◌++◌, length, map, Option, Some, None, refl, sym, ap, ◌∙◌, subst, arith}
use Rattle.std.proofs.Common.{append_assoc, append-nil, if◌then◌else◌, inl, inr}
use Rattle.std.specs.Prelude.{IfSome, is_some, not}
use Rattle.std.specs.List.{AllByRecursion, count_by, flat_map, slice_get}
use Rattle.std.specs.Option.{option_or, unwrap_or}
use Rattle.std.proofs.lemmas.Bool.{eqb-true}
use Rattle.std.proofs.lemmas.Bool.Decides.{nat_tests}
use Rattle.std.proofs.lemmas.List.{length-map}
use Rattle.std.proofs.lemmas.List.Sums.{sum_by-append, sum_by-cons}
use Rattle.world_model.proofs.Lists.{either}
use Rattle.lane_record.specs.declared.outcome.Outcome.{Outcome}
use Rattle.lane_record.specs.declared.item.Item.{Item}
use Rattle.lane_record.specs.declared.item.What.{What}
use Rattle.lane_record.specs.declared.item.What.TheVariants.{Plan, Seal, Ask, Took}
use Rattle.lane_record.specs.Outcomes.{is_given_up, is_timed_out}
use Rattle.lane_record.specs.Lists.{EachBehind}
use Rattle.lane_record.specs.Items.{plan_in, ask_in, told_by_first, is_of, give_ups}
use Rattle.lane_record.specs.Claims.{Claim, claims, claims_behind, claim_in, taken_outcomes, outcome_taken}
use Rattle.lane_record.specs.Legal.{IsLegal, IsLate, IsLateEnough}
use Rattle.lane_record.specs.Bounds.{IsKept, HasReached, timeouts}
use Rattle.lane_record.proofs.Lookups.{found_append, found_other, first_or, if_some, and_true}
use Rattle.lane_record.proofs.Sequences.{each_front, each_then}
use Rattle.lane_record.proofs.Finished.{outcomes_taken}
use Rattle.lane_record.specs.Dispatches.{outcomes_in_order}
use Rattle.board_history.specs.GiveUps.{time_outs, was_given_up, times_given_up, IsExact, GaveUpOnlyAfter}
use Rattle.lane_record.specs.Dispatches.{entries_by}
use Rattle.board_history.specs.Records.{IsRecordOf, beside_plans, has_become, planned_in}
use Rattle.board_history.specs.LinkRuns.{PaidForGiveUps}
use Rattle.board_history.proofs.Own.{by_append, own_found, Climbs, climbs_of, climbs_lower, own_climbs}
use Rattle.board_history.proofs.Rans.{Taking, Ran, outcome_took, outcomes_ran, ask_items, took_items, ran_items}
use Rattle.board_history.proofs.Rans.{AreWhole}
use Rattle.board_history.proofs.Lookups.{none_found, tooks_are_not, found_asks}
use Rattle.board_history.proofs.Beside.{beside_append, found_beside, give_ups_beside}
use Rattle.board_history.proofs.Opening.{ClientRan, AllRan, each_ran}
use Rattle.board_history.proofs.Steps.{Step, steps_of, steps, outcome_in, of, AreOf, IsWithin, AreStepsOfAll}
use Rattle.board_history.proofs.Steps.{steps_of_all, finished}

-- ---- counts

pub count_cons : {X : Type 0} (p : X → Bool) (x : X) (xs : List X)
    → count_by p (x ∷ xs) ≡ cond (p x) 1 0 + count_by p xs
count_cons p x xs = sum_by-cons (λ y. cond (p y) 1 0) x xs

count_append : {X : Type 0} (p : X → Bool) (xs ys : List X) → count_by p (xs ++ ys) ≡ count_by p xs + count_by p ys
count_append p xs ys = sum_by-append (λ y. cond (p y) 1 0) xs ys

count_map : {A B : Type 0} (f : A → B) (p : B → Bool) (xs : List A) → count_by p (map f xs) ≡ count_by (λ x. p (f x)) xs
count_map f p [] = refl
count_map f p (x ∷ xs) =
    count_cons p (f x) (map f xs) ∙ ap (λ (n : ℕ). cond (p (f x)) 1 0 + n) (count_map f p xs)
    ∙ sym (count_cons (λ y. p (f y)) x xs)

-- ---- each step is counted once

-- the outcomes of so many clients, client by client
abbrev pub outcomes_from : ℕ → ℕ → List Step → List Outcome
outcomes_from client zero ss = []
outcomes_from client (suc many) ss = map outcome_in (of client ss) ++ outcomes_from (client + 1) many ss

uncounted : (p : Outcome → Bool) (client many : ℕ) (s : Step) (ss : List Step) → s.client < client
    → count_by p (outcomes_from client many (s ∷ ss)) ≡ count_by p (outcomes_from client many ss)
uncounted p client zero s ss h = refl
uncounted p client (suc many) s ss h = either
    (λ (r : List Step). count_by p (map outcome_in r ++ outcomes_from (client + 1) many (s ∷ ss))
    ≡ count_by p (map outcome_in (of client ss) ++ outcomes_from (client + 1) many ss)) (s.client == client)
    (s ∷ of client ss) (of client ss)
    (λ e. absurd (grind (arith, nat_tests)))
    (λ _.
    let a = count_append p (map outcome_in (of client ss)) (outcomes_from (client + 1) many (s ∷ ss)) in
    let b = count_append p (map outcome_in (of client ss)) (outcomes_from (client + 1) many ss) in
    let c = uncounted p (client + 1) many s ss (omega (arith, h)) in
    omega (arith, a, b, c))

counted : (p : Outcome → Bool) (client many : ℕ) (s : Step) (ss : List Step) → IsWithin client many s
    → count_by p (outcomes_from client many (s ∷ ss))
    ≡ cond (p s.outcome) 1 0 + count_by p (outcomes_from client many ss)
counted p client zero s ss h = absurd (omega (arith, h.0, h.1))
counted p client (suc many) s ss h = either
    (λ (r : List Step). count_by p (map outcome_in r ++ outcomes_from (client + 1) many (s ∷ ss))
    ≡ cond (p s.outcome) 1 0 + count_by p (map outcome_in (of client ss) ++ outcomes_from (client + 1) many ss))
    (s.client == client) (s ∷ of client ss) (of client ss)
    (λ e.
    let below : s.client < client + 1 = grind (arith, nat_tests) in
    let a = count_cons p s.outcome (map outcome_in (of client ss) ++ outcomes_from (client + 1) many (s ∷ ss)) in
    let b = count_append p (map outcome_in (of client ss)) (outcomes_from (client + 1) many (s ∷ ss)) in
    let c = count_append p (map outcome_in (of client ss)) (outcomes_from (client + 1) many ss) in
    let d = uncounted p (client + 1) many s ss below in
    omega (arith, a, b, c, d))
    (λ e.
    let apart : client + 1 ≤ s.client = grind (arith, nat_tests, h.0) in
    let a = count_append p (map outcome_in (of client ss)) (outcomes_from (client + 1) many (s ∷ ss)) in
    let b = count_append p (map outcome_in (of client ss)) (outcomes_from (client + 1) many ss) in
    let c = counted p (client + 1) many s ss (apart, omega (arith, h.1)) in
    omega (arith, a, b, c))

none_counted : (p : Outcome → Bool) (client many : ℕ) → count_by p (outcomes_from client many []) ≡ 0
none_counted p client zero = refl
none_counted p client (suc many) = none_counted p (client + 1) many

all_counted : (p : Outcome → Bool) (client many : ℕ) (ss : List Step) → AllByRecursion (IsWithin client many) ss
    → count_by p (outcomes_from client many ss) ≡ count_by p (map outcome_in ss)
all_counted p client many [] within = none_counted p client many
all_counted p client many (s ∷ ss) within =
    let first = counted p client many s ss within.0 in
    let rest = all_counted p client many ss within.1 in
    let whole = count_cons p s.outcome (map outcome_in ss) in
    omega (arith, first, rest, whole)

joined_from : (client : ℕ) (bodies : List (List (List ℕ))) (outcomes : List (List (List Outcome))) (ss : List Step)
    → AreOf client bodies (map outcomes_in_order outcomes) ss → flat_map outcomes_in_order outcomes ≡ outcomes_from client (length bodies) ss
joined_from client [] [] ss are = refl
joined_from client [] (os ∷ others) ss are = absurd are
joined_from client (bs ∷ later) [] ss are = absurd are
joined_from client (bs ∷ later) (os ∷ others) ss are =
    ap (λ (zs : List Outcome). zs ++ flat_map outcomes_in_order others) are.0.outcomes'
    ∙ ap (λ (zs : List Outcome). map outcome_in (of client ss) ++ zs) (joined_from (client + 1) later others ss are.1)

-- a count over the outcomes is that over the steps
same_count : (p : Outcome → Bool) (bodies : List (List (List ℕ))) (outcomes : List (List (List Outcome)))
    (ss : List Step) → AreStepsOfAll bodies (map outcomes_in_order outcomes) ss
    → count_by p (flat_map outcomes_in_order outcomes) ≡ count_by p (map outcome_in ss)
same_count p bodies outcomes ss are =
    ap (count_by p) (joined_from 1 bodies outcomes ss are.clients)
    ∙ all_counted p 1 (length bodies) ss are.nobody_else

one_more : (b : Bool) (m n : ℕ) → m ≡ n → cond b 1 0 + m ≡ (if b then 1 + n else n)
one_more true m n e = omega (arith, e)
one_more false m n e = omega (arith, e)

steps_counted : (p : Outcome → Bool) (cs : List Claim) (os : List (Option Outcome)) → length os ≡ length cs
    → count_by p (map outcome_in (steps_of cs os)) ≡ count_by (has_become p) os
steps_counted p [] [] e = refl
steps_counted p [] (o ∷ os) e = absurd (omega (arith, e))
steps_counted p (c ∷ cs) [] e = absurd (omega (arith, e))
steps_counted p (c ∷ cs) (None ∷ os) e =
    let later = steps_counted p cs os (omega (arith, e)) in
    let here = count_cons (has_become p) None os in
    omega (arith, later, here)
steps_counted p (c ∷ cs) (Some o ∷ os) e =
    let later = steps_counted p cs os (omega (arith, e)) in
    count_cons p o (map outcome_in (steps_of cs os)) ∙ ap (λ (n : ℕ). cond (p o) 1 0 + n) later
    ∙ sym (count_cons (has_become p) (Some o) os)

-- there are as many outcomes of each kind as Asks that became so
pub became_counted : (p : Outcome → Bool) (bodies : List (List (List ℕ))) (outcomes : List (List (List Outcome)))
    (items : List Item) (became : List (Option Outcome)) → IsRecordOf bodies outcomes items → IsLegal items became
    → count_by p (flat_map outcomes_in_order outcomes) ≡ count_by (has_become p) became
became_counted p bodies outcomes items became is legal =
    let same = outcomes_taken items became legal (finished bodies outcomes items became is legal) in
    let each : length (taken_outcomes items) ≡ length (claims items) = length-map (claims items) (outcome_taken items) in
    same_count p bodies outcomes (steps items) (steps_of_all bodies outcomes items became is legal)
    ∙ steps_counted p (claims items) (taken_outcomes items) each ∙ ap (count_by (has_become p)) (sym same)

pub timeouts_counted : (os : List (Option Outcome)) → count_by (has_become is_timed_out) os ≡ timeouts os
timeouts_counted [] = refl
timeouts_counted (None ∷ os) =
    let here = count_cons (has_become is_timed_out) None os in
    let later = timeouts_counted os in
    omega (arith, here, later)
timeouts_counted (Some o ∷ os) =
    count_cons (has_become is_timed_out) (Some o) os
    ∙ one_more (is_timed_out o) (count_by (has_become is_timed_out) os) (timeouts os) (timeouts_counted os)

time_outs_are : (bodies : List (List (List ℕ))) (outcomes : List (List (List Outcome))) (items : List Item)
    (became : List (Option Outcome)) → IsRecordOf bodies outcomes items → IsLegal items became
    → time_outs outcomes ≡ timeouts became
time_outs_are bodies outcomes items became is legal =
    became_counted is_timed_out bodies outcomes items became is legal ∙ timeouts_counted became

-- ---- numbers of give-ups

abbrev pub number_took : Taking → ℕ
number_took t = t.give_ups

abbrev pub numbers_ran : List Ran → List ℕ
numbers_ran [] = []
numbers_ran (r ∷ rs) = r.asked ++ (map number_took r.took ++ numbers_ran rs)

ask_numbers : (client seq : ℕ) (ns : List ℕ) (rest : List Item)
    → give_ups (ask_items client seq ns ++ rest) ≡ ns ++ give_ups rest
ask_numbers client seq [] rest = refl
ask_numbers client seq (n ∷ ns) rest = ap (λ (zs : List ℕ). n ∷ zs) (ask_numbers client (seq + 1) ns rest)

took_numbers : (client seq : ℕ) (ts : List Taking) (rest : List Item)
    → give_ups (took_items client seq ts ++ rest) ≡ map number_took ts ++ give_ups rest
took_numbers client seq [] rest = refl
took_numbers client seq (t ∷ ts) rest = ap (λ (zs : List ℕ). t.give_ups ∷ zs) (took_numbers client (seq + 1) ts rest)

ran_numbers : (client seq : ℕ) (rs : List Ran) → give_ups (ran_items client seq rs) ≡ numbers_ran rs
ran_numbers client seq [] = refl
ran_numbers client seq (r ∷ rs) =
    let later = ran_items client (seq + length r.took) rs in
    ask_numbers client seq r.asked (took_items client seq r.took ++ later)
    ∙ ap (λ (zs : List ℕ). r.asked ++ zs)
    (took_numbers client seq r.took later
    ∙ ap (λ (zs : List ℕ). map number_took r.took ++ zs) (ran_numbers client (seq + length r.took) rs))

-- ---- an Ask that is found

-- the Ask of a client and number, among those of these entries
pub record IsAskFound (client seq number : ℕ) (cs : List Claim) : Type 0 where
  pub k : ℕ
  pub claim : Claim
  pub there : slice_get cs k ≡ Some claim
  pub same_client : claim.client ≡ client
  pub same_seq : claim.seq ≡ seq
  pub same_number : claim.give_ups ≡ number

get_past : {A : Type 0} (xs ys : List A) (k : ℕ) → slice_get (xs ++ ys) (length xs + k) ≡ slice_get ys k
get_past [] ys k = let same : 0 + k ≡ k = omega arith in ap (slice_get ys) same
get_past (x ∷ xs) ys k =
    let up : suc (length xs) + k ≡ suc (length xs + k) = omega arith in
    ap (slice_get (x ∷ (xs ++ ys))) up ∙ get_past xs ys k

found_here : (client seq number : ℕ) (front : List Item) (x : Item) (later : List Claim) (o : Option ℕ)
    → x.client ≡ client → x.seq ≡ seq → o ≡ Some number → IsAskFound client seq number (claim_in front x o ++ later)
found_here client seq number front x later None c s e = absurd cc
found_here client seq number front x later (Some n) c s e = record {
  k = 0;
  claim = record {
    client = x.client;
    seq = x.seq;
    give_ups = n;
    body = unwrap_or (told_by_first plan_in x.client x.seq front) [];
  };
  there = refl;
  same_client = c;
  same_seq = s;
  same_number = let same : n ≡ number = cc in same;
}

pub ask_found : (client seq number : ℕ) (front xs : List Item) → told_by_first ask_in client seq xs ≡ Some number
    → IsAskFound client seq number (claims_behind front xs)
ask_found client seq number front [] e = absurd cc
ask_found client seq number front (x ∷ xs) e =
    let here = claim_in front x (ask_in x.what) in
    let rest = claims_behind (front ++ x ∷ []) xs in
    elim (first_or (if is_of client seq x then ask_in x.what else None) (told_by_first ask_in client seq xs) number e) [
      | inl h ↦
          let is = if_some (is_of client seq x) (ask_in x.what) number h in
          let same = and_true (x.client == client) (x.seq == seq) is.0 in
          found_here client seq number front x rest (ask_in x.what) (eqb-true x.client client same.0)
          (eqb-true x.seq seq same.1) is.1
      | inr h ↦
          let later = ask_found client seq number (front ++ x ∷ []) xs h in
          record {
            k = length here + later.k;
            claim = later.claim;
            there = get_past here rest later.k ∙ later.there;
            same_client = later.same_client;
            same_seq = later.same_seq;
            same_number = later.same_number;
          }
    ]

-- ---- a give-up was taken at a greater number than that of its Ask

abbrev pub AreLater : List ℕ → List Taking → Type 0
AreLater [] ts = Unit {0}
AreLater (n ∷ ns) [] = Unit {0}
AreLater (n ∷ ns) (t ∷ ts) = (is_given_up t.outcome ≡ true → n < t.give_ups) × AreLater ns ts

abbrev pub AllLater : List Ran → Type 0
AllLater [] = Unit {0}
AllLater (r ∷ rs) = AreLater r.asked r.took × AllLater rs

-- what stands behind a longer front
each_behind : {A : Type 0} (P : List A → A → Type 0) (front xs ys : List A) → EachBehind P front (xs ++ ys)
    → EachBehind P (front ++ xs) ys
each_behind P front [] ys is = subst (λ zs. EachBehind P zs ys) (sym (append-nil front)) is
each_behind P front (x ∷ xs) ys is = subst (λ zs. EachBehind P zs ys) (append_assoc front (x ∷ []) xs)
    (each_behind P (front ++ x ∷ []) xs ys is.1)

-- the same, where the Ask is looked up
abbrev pub IsFoundLate : List Item → Item → What → Type 0
IsFoundLate front x (Plan body) = Unit {0}
IsFoundLate front x Seal = Unit {0}
IsFoundLate front x (Ask n) = Unit {0}
IsFoundLate front x (Took o n) =
    is_given_up o ≡ true → IfSome (told_by_first ask_in x.client x.seq front) (λ asked. asked < n)

abbrev pub HasLate : List Item → Item → Type 0
HasLate front x = IsFoundLate front x x.what

found_late : (front : List Item) (x : Item) (what : What) → IsLateEnough front x what → IsFoundLate front x what
found_late front x (Plan body) late = tt
found_late front x Seal late = tt
found_late front x (Ask n) late = tt
found_late front x (Took o n) late = λ given.
    elim (told_by_first ask_in x.client x.seq front) as (λ z. told_by_first ask_in x.client x.seq front ≡ z
    → IfSome z (λ asked. asked < n)) [
      | None ↦ λ _. tt
      | Some m ↦ λ e.
          let ask = ask_found x.client x.seq m [] front e in
          let less = late given ask.k ask.claim
          (record { there = ask.there; same_client = ask.same_client; same_seq = ask.same_seq }) in
          omega (arith, less, ask.same_number)
    ] refl

late_own : (client : ℕ) (front : List Item) (x : Item) (what : What) → x.client ≡ client → IsFoundLate front x what
    → IsFoundLate (entries_by client front) x what
late_own client front x (Plan body) e late = tt
late_own client front x Seal e late = tt
late_own client front x (Ask n) e late = tt
late_own client front x (Took o n) e late = λ given. subst (λ (z : Option ℕ). IfSome z (λ asked. asked < n))
    (subst (λ (c : ℕ). told_by_first ask_in x.client x.seq front ≡ told_by_first ask_in x.client x.seq (entries_by c front)) e
    (own_found ask_in x.client x.seq front)) (late given)

own_late : (client : ℕ) (front xs : List Item) → EachBehind HasLate front xs
    → EachBehind HasLate (entries_by client front) (entries_by client xs)
own_late client front [] late = tt
own_late client front (x ∷ xs) late =
    let rest = own_late client (front ++ x ∷ []) xs late.1 in
    let split = by_append client front (x ∷ []) in
    let moved : EachBehind HasLate (entries_by client front ++ entries_by client (x ∷ [])) (entries_by client xs) =
    subst (λ (zs : List Item). EachBehind HasLate zs (entries_by client xs)) split rest in
    elim (x.client == client) as (λ b. (x.client == client) ≡ b
    → EachBehind HasLate (entries_by client front ++ (if b then x ∷ [] else [])) (entries_by client xs)
    → EachBehind HasLate (entries_by client front) (if b then x ∷ entries_by client xs else entries_by client xs)) [
      | true ↦ λ e m. (late_own client front x x.what (eqb-true x.client client e) late.0, m)
      | false ↦ λ e m. subst (λ (zs : List Item). EachBehind HasLate zs (entries_by client xs))
          (append-nil (entries_by client front)) m
    ] refl moved

-- beside Plans the Asks are found as they were
late_with : (front other : List Item) (x : Item) (what : What)
    → told_by_first ask_in x.client x.seq front ≡ told_by_first ask_in x.client x.seq other → IsFoundLate front x what
    → IsFoundLate other x what
late_with front other x (Plan body) same late = tt
late_with front other x Seal same late = tt
late_with front other x (Ask n) same late = tt
late_with front other x (Took o n) same late =
    λ given. subst (λ (z : Option ℕ). IfSome z (λ asked. asked < n)) same (late given)

beside_late : (front xs : List Item) → EachBehind HasLate front xs
    → EachBehind HasLate (beside_plans front) (beside_plans xs)
beside_late front [] late = tt
beside_late front (x ∷ xs) late =
    let rest = beside_late (front ++ x ∷ []) xs late.1 in
    let split : beside_plans (front ++ x ∷ []) ≡ beside_plans front ++ beside_plans (x ∷ []) =
    beside_append front (x ∷ []) in
    let moved : EachBehind HasLate (beside_plans front ++ beside_plans (x ∷ [])) (beside_plans xs) =
    subst (λ (zs : List Item). EachBehind HasLate zs (beside_plans xs)) split rest in
    let same = found_beside ask_in x.client x.seq front (λ b. refl) in
    elim (planned_in x) as
    (λ o. EachBehind HasLate (beside_plans front ++ cond (not (is_some o)) (x ∷ []) []) (beside_plans xs)
    → EachBehind HasLate (beside_plans front) (cond (not (is_some o)) (x ∷ beside_plans xs) (beside_plans xs))) [
      | None ↦ λ m. (late_with front (beside_plans front) x x.what same late.0, m)
      | Some body ↦ λ m. subst (λ (zs : List Item). EachBehind HasLate zs (beside_plans xs))
          (append-nil (beside_plans front)) m
    ] moved

-- one dispatch's Tooks, behind its Asks
tooks_late : (client seq : ℕ) (ns : List ℕ) (ts : List Taking) (front : List Item)
    → ((j : ℕ) → told_by_first ask_in client (seq + j) front ≡ slice_get ns j)
    → EachBehind HasLate front (took_items client seq ts) → AreLater ns ts
tooks_late client seq [] ts front at late = tt
tooks_late client seq (n ∷ ns) [] front at late = tt
tooks_late client seq (n ∷ ns) (t ∷ ts) front at late =
    let x : Item = record { client = client; seq = seq; what = Took t.outcome t.give_ups } in
    let same : seq + 0 ≡ seq = omega arith in
    let here : told_by_first ask_in client seq front ≡ Some n =
    subst (λ (k : ℕ). told_by_first ask_in client k front ≡ Some n) same (at 0) in (
      (λ given. subst (λ (z : Option ℕ). IfSome z (λ asked. asked < t.give_ups)) here (late.0 given)),
      tooks_late client (seq + 1) ns ts (front ++ x ∷ [])
          (λ j. let on : seq + 1 + j ≡ seq + suc j = omega arith in
          found_other ask_in client (seq + 1 + j) front x refl ∙ ap (λ (k : ℕ). told_by_first ask_in client k front) on
          ∙ at (suc j))
          late.1,
    )

past_end : {A : Type 0} (xs : List A) (j : ℕ) → length xs ≤ j → slice_get xs j ≡ None
past_end [] j le = refl
past_end (x ∷ xs) zero le = absurd (omega (arith, le))
past_end (x ∷ xs) (suc j) le = past_end xs j (omega (arith, le))

rans_late : (client seq : ℕ) (rs : List Ran) (front : List Item) → AreWhole rs
    → ((j : ℕ) → told_by_first ask_in client (seq + j) front ≡ None)
    → EachBehind HasLate front (ran_items client seq rs) → AllLater rs
rans_late client seq [] front whole none late = tt
rans_late client seq (r ∷ rs) front whole none late =
    let asks = ask_items client seq r.asked in
    let tooks = took_items client seq r.took in
    let later = ran_items client (seq + length r.took) rs in
    let behind = each_behind HasLate front asks (tooks ++ later) late in
    let at : (j : ℕ) → told_by_first ask_in client (seq + j) (front ++ asks) ≡ slice_get r.asked j =
    λ j. found_append ask_in client (seq + j) front asks
    ∙ ap (λ (z : Option ℕ). option_or z (told_by_first ask_in client (seq + j) asks)) (none j)
    ∙ found_asks client seq j r.asked in
    let next : (j : ℕ) → told_by_first ask_in client (seq + length r.took + j) ((front ++ asks) ++ tooks) ≡ None =
    λ j. let on : seq + length r.took + j ≡ seq + (length r.took + j) = omega arith in
    found_append ask_in client (seq + length r.took + j) (front ++ asks) tooks
    ∙ ap (λ (z : Option ℕ). option_or z (told_by_first ask_in client (seq + length r.took + j) tooks))
    (ap (λ (k : ℕ). told_by_first ask_in client k (front ++ asks)) on ∙ at (length r.took + j)
    ∙ past_end r.asked (length r.took + j) (omega (arith, whole.0)))
    ∙ none_found ask_in client (seq + length r.took + j) tooks
    (tooks_are_not ask_in client seq r.took (λ o n. refl)) in (
      tooks_late client seq r.asked r.took (front ++ asks) at
          (each_front HasLate (front ++ asks) tooks later behind),
      rans_late client (seq + length r.took) rs ((front ++ asks) ++ tooks) whole.1 next
          (each_behind HasLate (front ++ asks) tooks later behind),
    )

-- ---- one dispatch that was given up

abbrev pub last : ℕ → List ℕ → ℕ
last from [] = from
last from (n ∷ ns) = last n ns

climbs_split : (from to : ℕ) (ns ms : List ℕ) → Climbs from to (ns ++ ms)
    → Climbs from (last from ns) ns × Climbs (last from ns) to ms
climbs_split from to [] ms c = (omega arith, c)
climbs_split from to (n ∷ ns) ms c = let later = climbs_split n to ns ms c.1 in ((c.0, later.0), later.1)

climbs_end : (from to : ℕ) (ns : List ℕ) → Climbs from to ns → from ≤ to
climbs_end from to [] c = c
climbs_end from to (n ∷ ns) c = let h = climbs_end n to ns c.1 in omega (arith, c.0, h)

-- some number rises within it
rises_in : (from mid to : ℕ) (ns : List ℕ) (ts : List Taking) → length ns ≡ length ts → Climbs from mid ns
    → Climbs mid to (map number_took ts) → AreLater ns ts → was_given_up (map outcome_took ts) ≡ true → from < to
rises_in from mid to [] [] e c d l g = absurd cc
rises_in from mid to [] (t ∷ ts) e c d l g = absurd (omega (arith, e))
rises_in from mid to (n ∷ ns) [] e c d l g = absurd (omega (arith, e))
rises_in from mid to (n ∷ ns) (t ∷ ts) e c d l g =
    elim (is_given_up t.outcome) as (λ b. is_given_up t.outcome ≡ b
    → (b || was_given_up (map outcome_took ts)) ≡ true → from < to) [
      | true ↦ λ is _.
          let h = l.0 is in
          let end = climbs_end t.give_ups to (map number_took ts) d.1 in
          omega (arith, c.0, h, end)
      | false ↦ λ _ k.
          let lower = climbs_lower mid t.give_ups to (map number_took ts) d.0 d.1 in
          let h = rises_in n mid to ns ts (omega (arith, e)) c.1 lower l.1 k in
          omega (arith, c.0, h)
    ] refl g

abbrev pub gave_up : Ran → Bool
gave_up r = was_given_up (outcomes_ran r)

-- the numbers rise as often as dispatches were given up
given_up_at_most : (from to : ℕ) (rs : List Ran) → AreWhole rs → AllLater rs → Climbs from to (numbers_ran rs)
    → count_by gave_up rs + from ≤ to
given_up_at_most from to [] whole later c = omega (arith, c)
given_up_at_most from to (r ∷ rs) whole later c =
    let first = climbs_split from to r.asked (map number_took r.took ++ numbers_ran rs) c in
    let mid = last from r.asked in
    let second = climbs_split mid to (map number_took r.took) (numbers_ran rs) first.1 in
    let end = last mid (map number_took r.took) in
    let rest = given_up_at_most end to rs whole.1 later.1 second.1 in
    let a = climbs_end from mid r.asked first.0 in
    let b = climbs_end mid end (map number_took r.took) second.0 in
    let here : cond (gave_up r) 1 0 + count_by gave_up rs + from ≤ to =
    elim (gave_up r) as (λ g. gave_up r ≡ g → cond g 1 0 + count_by gave_up rs + from ≤ to) [
      | true ↦ λ g.
          let h = rises_in from mid end r.asked r.took whole.0 first.0 second.0 later.0 g in
          omega (arith, rest, h)
      | false ↦ λ _. omega (arith, rest, a, b)
    ] refl in
    subst (λ (n : ℕ). n + from ≤ to) (sym (count_cons gave_up r rs)) here

-- ---- a client

times_at_most : (a b c : ℕ) → a ≤ b → c * a ≤ c * b
times_at_most a b c h = grind arith

client_gave_up : (client given_up : ℕ) (bodies : List (List ℕ)) (dispatches : List (List Outcome)) (items : List Item)
    → Climbs 0 given_up (give_ups items) → EachBehind HasLate [] items → ClientRan client bodies dispatches items
    → times_given_up dispatches ≤ given_up
client_gave_up client given_up bodies dispatches items climbs late ran =
    let mine = entries_by client items in
    let runs = ran_items client 0 ran.rans in
    let numbers : give_ups mine ≡ numbers_ran ran.rans =
    give_ups_beside mine ∙ ap give_ups ran.entries ∙ ran_numbers client 0 ran.rans in
    let own : Climbs 0 given_up (numbers_ran ran.rans) =
    subst (Climbs 0 given_up) numbers (own_climbs client 0 given_up items climbs) in
    let behind : EachBehind HasLate [] runs =
    subst (EachBehind HasLate []) ran.entries (beside_late [] mine (own_late client [] items late)) in
    let later : AllLater ran.rans = rans_late client 0 ran.rans [] ran.whole (λ j. refl) behind in
    let few = given_up_at_most 0 given_up ran.rans ran.whole later own in
    let same : times_given_up dispatches ≡ count_by gave_up ran.rans =
    ap times_given_up ran.same ∙ count_map outcomes_ran was_given_up ran.rans in
    omega (arith, few, same)

clients_gave_up : (cost paid given_up client : ℕ) (bodies : List (List (List ℕ)))
    (outcomes : List (List (List Outcome))) (items : List Item) → cost * given_up ≤ paid
    → Climbs 0 given_up (give_ups items) → EachBehind HasLate [] items → AllRan client bodies outcomes items
    → AllByRecursion (λ (dispatches : List (List Outcome)). cost * times_given_up dispatches ≤ paid) outcomes
clients_gave_up cost paid given_up client [] [] items enough climbs late all = tt
clients_gave_up cost paid given_up client [] (os ∷ others) items enough climbs late all = absurd all
clients_gave_up cost paid given_up client (bs ∷ later) [] items enough climbs late all = absurd all
clients_gave_up cost paid given_up client (bs ∷ later) (os ∷ others) items enough climbs late all =
    let few = client_gave_up client given_up bs os items climbs late all.0 in
    let less = times_at_most (times_given_up os) given_up cost few in (
      omega (arith, less, enough),
      clients_gave_up cost paid given_up (client + 1) later others items enough climbs late all.1,
    )

-- T ≤ window * g and cost * g ≤ paid give cost * T ≤ window * paid
bodies_at_most : (window cost paid bodies given_up : ℕ) → bodies ≤ window * given_up → cost * given_up ≤ paid
    → cost * bodies ≤ window * paid
bodies_at_most window cost paid bodies given_up few enough =
    let a : cost * bodies ≤ cost * (window * given_up) = times_at_most bodies (window * given_up) cost few in
    let b : window * (cost * given_up) ≤ window * paid = times_at_most (cost * given_up) paid window enough in
    let c : cost * (window * given_up) ≡ window * (cost * given_up) = grind arith in
    omega (arith, a, b, c)

-- a count that has reached a number and does not stand at its end is at least that number
pub reached : (n count : ℕ) → HasReached n count → IsExact count → n ≤ count
reached n count has exact = omega (arith, has, exact)

pub has_paid : (window cost paid given_up : ℕ) (bodies : List (List (List ℕ)))
    (outcomes : List (List (List Outcome))) (items : List Item) (became : List (Option Outcome))
    → IsRecordOf bodies outcomes items → IsKept items became window given_up → cost * given_up ≤ paid
    → PaidForGiveUps window cost paid outcomes
has_paid window cost paid given_up bodies outcomes items became is kept enough =
    let climbs = climbs_of 0 given_up (give_ups items) (omega arith) kept.legal.give_ups_rise.rise kept.within in
    let late : EachBehind HasLate [] items = each_then IsLate HasLate [] items
    (λ before x after _ l. found_late before x x.what l) kept.legal.give_ups_rise.later in
    record {
      bodies = subst (λ (n : ℕ). cost * n ≤ window * paid)
          (sym (time_outs_are bodies outcomes items became is kept.legal))
          (bodies_at_most window cost paid (timeouts became) given_up kept.few enough);
      dispatches = clients_gave_up cost paid given_up 1 bodies outcomes items enough climbs late
          (each_ran bodies outcomes items is);
    }

-- the same of a count that stands still at its end
pub has_waited : (window cost paid given_up : ℕ) (bodies : List (List (List ℕ)))
    (outcomes : List (List (List Outcome))) (items : List Item) (became : List (Option Outcome))
    → IsRecordOf bodies outcomes items → IsKept items became window given_up → HasReached (cost * given_up) paid
    → GaveUpOnlyAfter window cost paid outcomes
has_waited window cost paid given_up bodies outcomes items became is kept has =
    let exactly : IsExact paid → PaidForGiveUps window cost paid outcomes =
    λ exact. has_paid window cost paid given_up bodies outcomes items became is kept
    (reached (cost * given_up) paid has exact) in
    record { bodies = λ exact. (exactly exact).bodies; dispatches = λ exact. (exactly exact).dispatches }
