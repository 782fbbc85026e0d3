-- Connections whose last bodies were planned as they may be kept the limits of their lane.
use Rattle.std.proofs.Common.{◌≡◌, ◌⊎◌, ℕ, zero, suc, ◌+◌, ◌≤◌, ◌<◌, ◌==◌, ◌&&◌, true, false, cond, List, [], ◌∷◌}
use Rattle.std.proofs.Common.{◌++◌, length, map, inl, inr, refl, sym, ap, subst, ◌∙◌, arith, is_some, if◌then◌else◌}
use Rattle.std.proofs.Common.{append_assoc}
use Rattle.std.specs.Prelude.{sum_by}
use Rattle.std.specs.List.{AllByRecursion, Contains}
use Rattle.std.proofs.lemmas.Bool.{cases_lt, eq-eqb, eqb-true}
use Rattle.transaction_codec.specs.Answer.{reply_room}
use Rattle.turn_pass.specs.Record.{Record}
use Rattle.turn_pass.specs.Pass.{Joined, Knowledge}
use Rattle.lane_record.specs.declared.item.Item.{Item}
use Rattle.lane_record.specs.declared.item.What.{What}
use Rattle.lane_record.specs.declared.item.What.TheVariants.{Plan, Seal, Ask, Took}
use Rattle.lane_record.specs.Items.{numbers, plan_in, planned_count}
use Rattle.lane_record.specs.Coding.{Head, record_of}
use Rattle.lane_record.specs.Dispatches.{Action, action_of, entries_by, numbered_action}
use Rattle.lane_record.specs.NextEntry.{plan_of}
use Rattle.lane_record.specs.Submissions.{Submission}
use Rattle.hub_lane.specs.Plans.{CanPlan}
use Rattle.lane_tables.specs.Planned.{most_bodies, most_words, planned_bodies, planned_words}
use Rattle.hub_multiplexer.specs.Ends.{Ends}
use Rattle.client_history.specs.Clients.{came_with}
use Rattle.client_history.proofs.Handed.{StandsIn, handed, numbers_of}
use Rattle.client_history.specs.Connections.{AllSubmitted, WereServedOn}
use Rattle.client_history.specs.Planned.{KeepLimits, WasPlannedLast, WerePlannedLast, words_in}
use Rattle.client_history.proofs.Leaving.{own_entries}
use Rattle.client_history.proofs.Planning.{a_body, all_counted, bodies_total, counts_bodies, counts_words}
use Rattle.client_history.proofs.Planning.{its_words, of_passes, said, total, total_said, words_total}

-- ---- no entry is of two connections

none_of : (g : Action → ℕ) (client : ℕ) (connections : List (List Submission)) (passes : List Joined) (x : Item)
    (xs : List Item) → AllSubmitted client connections passes → x.client < client
    → of_passes g passes (x ∷ xs) ≡ of_passes g passes xs
none_of g client [] [] x xs did low = refl
none_of g client [] (j ∷ js) x xs did low = absurd did
none_of g client (s ∷ ss) [] x xs did low = absurd did
none_of g client (s ∷ ss) (j ∷ js) x xs did low =
    let number = did.0.number in
    let later = none_of g (client + 1) ss js x xs did.1 (omega (arith, low)) in
    let one : total g (entries_by j.number (x ∷ xs)) ≡ total g (entries_by j.number xs) =
    elim (x.client == j.number) as (λ b. (x.client == j.number) ≡ b
    → total g (cond b (x ∷ entries_by j.number xs) (entries_by j.number xs)) ≡ total g (entries_by j.number xs)) [
      | true ↦ λ e. (let same = eqb-true x.client j.number e in absurd (omega (arith, same, number, low)))
      | false ↦ λ e. refl
    ] refl in
    omega (arith, one, later)

at_most_once : (g : Action → ℕ) (client : ℕ) (connections : List (List Submission)) (passes : List Joined) (x : Item)
    (xs : List Item) → AllSubmitted client connections passes
    → of_passes g passes (x ∷ xs) ≤ g (action_of x.what) + of_passes g passes xs
at_most_once g client [] [] x xs did = omega arith
at_most_once g client [] (j ∷ js) x xs did = absurd did
at_most_once g client (s ∷ ss) [] x xs did = absurd did
at_most_once g client (s ∷ ss) (j ∷ js) x xs did =
    let number = did.0.number in
    elim (x.client == j.number) as (λ b. (x.client == j.number) ≡ b
    → total g (cond b (x ∷ entries_by j.number xs) (entries_by j.number xs)) + of_passes g js (x ∷ xs)
    ≤ g (action_of x.what) + (total g (entries_by j.number xs) + of_passes g js xs)) [
      | true ↦ λ e. (let same = eqb-true x.client j.number e in
          let later = none_of g (client + 1) ss js x xs did.1 (omega (arith, same, number)) in
          omega (arith, later))
      | false ↦ λ e. (let later = at_most_once g (client + 1) ss js x xs did.1 in omega (arith, later))
    ] refl

of_none : (g : Action → ℕ) (passes : List Joined) → of_passes g passes [] ≡ 0
of_none g [] = refl
of_none g (j ∷ js) = let later = of_none g js in omega (arith, later)

all_at_most_once : (g : Action → ℕ) (connections : List (List Submission)) (passes : List Joined) (xs : List Item)
    → AllSubmitted 1 connections passes → of_passes g passes xs ≤ total g xs
all_at_most_once g connections passes [] did = let none = of_none g passes in omega (arith, none)
all_at_most_once g connections passes (x ∷ xs) did =
    let one = at_most_once g 1 connections passes x xs did in
    let later = all_at_most_once g connections passes xs did in
    omega (arith, one, later)

-- ---- the Plans of a client

pub planned_total : (client : ℕ) (xs : List Item) → planned_count client xs ≡ total a_body (entries_by client xs)
planned_total client [] = refl
planned_total client (x ∷ xs) =
    let later = planned_total client xs in
    elim (x.client == client) as (λ b. length (if b && is_some (plan_in x.what)
    then x.seq ∷ numbers plan_in client xs else numbers plan_in client xs)
    ≡ total a_body (cond b (x ∷ entries_by client xs) (entries_by client xs))) [
      | true ↦ elim x.what as (λ w. length (if is_some (plan_in w) then x.seq ∷ numbers plan_in client xs
          else numbers plan_in client xs) ≡ a_body (action_of w) + total a_body (entries_by client xs)) [
            | Plan body ↦ omega (arith, later)
            | Seal ↦ omega (arith, later)
            | Ask n ↦ omega (arith, later)
            | Took o n ↦ omega (arith, later)
          ]
      | false ↦ later
    ]

total_append : (g : Action → ℕ) (xs ys : List Item) → total g (xs ++ ys) ≡ total g xs + total g ys
total_append g [] ys = omega arith
total_append g (x ∷ xs) ys = let later = total_append g xs ys in omega (arith, later)

by_at_most : (g : Action → ℕ) (client : ℕ) (xs : List Item) → total g (entries_by client xs) ≤ total g xs
by_at_most g client [] = omega arith
by_at_most g client (x ∷ xs) =
    let later = by_at_most g client xs in
    elim (x.client == client) as (λ b. total g (cond b (x ∷ entries_by client xs) (entries_by client xs))
    ≤ g (action_of x.what) + total g xs) [
      | true ↦ omega (arith, later)
      | false ↦ omega (arith, later)
    ]

pub by_append : (g : Action → ℕ) (client : ℕ) (xs ys : List Item)
    → total g (entries_by client (xs ++ ys)) ≡ total g (entries_by client xs) + total g (entries_by client ys)
by_append g client [] ys = omega arith
by_append g client (x ∷ xs) ys =
    let later = by_append g client xs ys in
    elim (x.client == client) as (λ b.
    total g (cond b (x ∷ entries_by client (xs ++ ys)) (entries_by client (xs ++ ys)))
    ≡ total g (cond b (x ∷ entries_by client xs) (entries_by client xs)) + total g (entries_by client ys)) [
      | true ↦ omega (arith, later)
      | false ↦ later
    ]

-- a Plan of the client counts
by_plan : (client seq : ℕ) (body : List ℕ) (xs : List Item)
    → total a_body (entries_by client (plan_of client seq body ∷ xs)) ≡ 1 + total a_body (entries_by client xs)
by_plan client seq body xs = ap (λ b. total a_body (cond b (plan_of client seq body ∷ entries_by client xs)
    (entries_by client xs))) (eq-eqb client client refl)

-- ---- the last Plan of all

record LastPlan (items : List Item) : Type 0 where
  front : List Item
  rest : List Item
  client : ℕ
  seq : ℕ
  body : List ℕ
  is : items ≡ front ++ plan_of client seq body ∷ rest
  no_bodies : total a_body rest ≡ 0
  no_words : total its_words rest ≡ 0

abbrev NoPlan : List Item → Type 0
NoPlan items = (total a_body items ≡ 0) × (total its_words items ≡ 0)

one_later : (x : Item) (xs : List Item) → LastPlan xs → LastPlan (x ∷ xs)
one_later x xs l = record {
  front = x ∷ l.front;
  rest = l.rest;
  client = l.client;
  seq = l.seq;
  body = l.body;
  is = ap (λ (ys : List Item). x ∷ ys) l.is;
  no_bodies = l.no_bodies;
  no_words = l.no_words;
}

first_of : (client seq : ℕ) (what : What) (xs : List Item) → NoPlan xs
    → NoPlan (record { client = client; seq = seq; what = what } ∷ xs)
    ⊎ LastPlan (record { client = client; seq = seq; what = what } ∷ xs)
first_of client seq (Plan body) xs none = inr (record {
  front = [];
  rest = xs;
  client = client;
  seq = seq;
  body = body;
  is = refl;
  no_bodies = none.0;
  no_words = none.1;
})
first_of client seq Seal xs none = let a = none.0 in let b = none.1 in inl (omega (arith, a), omega (arith, b))
first_of client seq (Ask n) xs none = let a = none.0 in let b = none.1 in inl (omega (arith, a), omega (arith, b))
first_of client seq (Took o n) xs none = let a = none.0 in let b = none.1 in inl (omega (arith, a), omega (arith, b))

last_plan : (items : List Item) → NoPlan items ⊎ LastPlan items
last_plan [] = inl (refl, refl)
last_plan (x ∷ xs) = elim (last_plan xs) [
  | inl none ↦ first_of x.client x.seq x.what xs none
  | inr last ↦ inr (one_later x xs last)
]

-- ---- the client of the last Plan

-- a connection with this number submitted so many bodies, the entries have its Plans, and the last one was planned so
record OfConnection (client : ℕ) (items : List Item) : Type 0 where
  many : ℕ
  plans : total a_body (entries_by client items) ≡ many
  last : 1 ≤ many → WasPlannedLast client many items

of_one : (first : ℕ) (connections : List (List Submission)) (passes : List Joined) (items : List Item) (n : ℕ)
    → AllSubmitted first connections passes → AllByRecursion (StandsIn items) passes
    → WerePlannedLast first connections items → Contains (numbers_of passes) n → OfConnection n items
of_one first [] [] items n did stand planned (k, inside, at) = let none : k < 0 = inside in absurd (omega arith)
of_one first [] (j ∷ js) items n did stand planned there = absurd did
of_one first (s ∷ ss) [] items n did stand planned there = absurd did
of_one first (s ∷ ss) (j ∷ js) items n did stand planned (zero, inside, at) =
    let number : first ≡ n = sym did.0.number ∙ at in
    subst (λ c. OfConnection c items) number (record {
      many = length s;
      plans = ap (λ c. total a_body (entries_by c items)) (sym did.0.number)
          ∙ (said a_body (entries_by j.number items)
          ∙ (ap (λ (xs : List Item). total_said a_body (map numbered_action xs))
          (sym (own_entries j.number items j refl stand.0))
          ∙ (ap (total_said a_body) did.0.actions ∙ counts_bodies 0 s)));
      last = planned.0;
    })
of_one first (s ∷ ss) (j ∷ js) items n did stand planned (suc k, inside, at) =
    of_one (first + 1) ss js items n did.1 stand.1 planned.1 (k, omega (arith, inside), at)

-- ---- both are one: behind neither stands a Plan of the client

one_front : (client seq seq' : ℕ) (body body' : List ℕ) (front front' rest rest' : List Item)
    → front ++ plan_of client seq body ∷ rest ≡ front' ++ plan_of client seq' body' ∷ rest'
    → total a_body (entries_by client rest) ≡ 0 → total a_body (entries_by client rest') ≡ 0
    → (front ≡ front') × (body ≡ body')
one_front client seq seq' body body' [] [] rest rest' e none none' =
    let plans : plan_of client seq body ≡ plan_of client seq' body' = cc in
    let what : Plan body ≡ Plan body' = ap (λ (x : Item). x.what) plans in
    (refl, cc)
one_front client seq seq' body body' [] (y ∷ front') rest rest' e none none' =
    let tail : rest ≡ front' ++ plan_of client seq' body' ∷ rest' = cc in
    let all = ap (λ (xs : List Item). total a_body (entries_by client xs)) tail in
    let parts = by_append a_body client front' (plan_of client seq' body' ∷ rest') in
    let plan = by_plan client seq' body' rest' in
    absurd (omega (arith, all, parts, plan, none))
one_front client seq seq' body body' (x ∷ front) [] rest rest' e none none' =
    let tail : front ++ plan_of client seq body ∷ rest ≡ rest' = cc in
    let all = ap (λ (xs : List Item). total a_body (entries_by client xs)) tail in
    let parts = by_append a_body client front (plan_of client seq body ∷ rest) in
    let plan = by_plan client seq body rest in
    absurd (omega (arith, all, parts, plan, none'))
one_front client seq seq' body body' (x ∷ front) (y ∷ front') rest rest' e none none' =
    let head : x ≡ y = cc in
    let tail : front ++ plan_of client seq body ∷ rest ≡ front' ++ plan_of client seq' body' ∷ rest' = cc in
    let later = one_front client seq seq' body body' front front' rest rest' tail none none' in
    ((λ i. head i ∷ later.0 i), later.1)

-- ---- the limits

few_of : (n m : ℕ) → n ≡ m → (most_bodies ≤ n → ⊥) → m < most_bodies
few_of n m same not = elim (cases_lt m most_bodies) [
  | inl lt ↦ lt
  | inr ge ↦ absurd (not (omega (arith, ge, same)))
]

short_of : (n m a b : ℕ) → n ≡ m → (most_words < n + a + b → ⊥) → m + a + b ≤ most_words
short_of n m a b same not = elim (cases_lt most_words (m + a + b)) [
  | inl lt ↦ absurd (not (omega (arith, lt, same)))
  | inr ge ↦ ge
]

abbrev Within : List Item → Type 0
Within items = (total a_body items ≤ most_bodies) × (total its_words items ≤ most_words)

within : (items front rest : List Item) (client seq : ℕ) (body : List ℕ) (payload : ℕ)
    → items ≡ front ++ plan_of client seq body ∷ rest → total a_body rest ≡ 0 → total its_words rest ≡ 0
    → CanPlan front payload body → Within items
within items front rest client seq body payload is no_bodies no_words can =
    let plan = plan_of client seq body in
    let bodies = ap (total a_body) is in
    let words = ap (total its_words) is in
    let body_parts = total_append a_body front (plan ∷ rest) in
    let word_parts = total_append its_words front (plan ∷ rest) in
    let few = few_of (planned_bodies front) (total a_body front) (bodies_total front) (λ le. can.few (inl le)) in
    let short = short_of (planned_words front) (total its_words front) (length body) (reply_room body)
    (words_total front) (λ lt. can.few (inr lt)) in (
      omega (arith, bodies, body_parts, no_bodies, few),
      omega (arith, words, word_parts, no_words, short),
    )

middle : (P : Item → Type 0) (xs : List Item) (y : Item) (ys : List Item) → AllByRecursion P (xs ++ y ∷ ys) → P y
middle P [] y ys all = all.0
middle P (x ∷ xs) y ys all = middle P xs y ys all.1

none_by : (client : ℕ) (xs : List Item) → total a_body xs ≡ 0 → total a_body (entries_by client xs) ≡ 0
none_by client xs none = let most = by_at_most a_body client xs in omega (arith, most, none)

-- the last Plan of all is the last one of its connection
by_last : (items : List Item) (l : LastPlan items) (many : ℕ) → total a_body (entries_by l.client items) ≡ many
    → WasPlannedLast l.client many items → Within items
by_last items l many plans was =
    let c = l.client in
    let seq = planned_count c was.front in
    let rest = was.next.0 in
    let is : items ≡ was.front ++ plan_of c seq was.body ∷ rest =
    was.next.1 ∙ append_assoc was.front (plan_of c seq was.body ∷ []) rest in
    let whole = ap (λ (xs : List Item). total a_body (entries_by c xs)) is in
    let parts = by_append a_body c was.front (plan_of c seq was.body ∷ rest) in
    let plan = by_plan c seq was.body rest in
    let own = was.own in
    let before = planned_total c was.front in
    let none : total a_body (entries_by c rest) ≡ 0 = omega (arith, whole, parts, plan, own, before, plans) in
    let same = one_front c l.seq seq l.body was.body l.front was.front l.rest rest (sym l.is ∙ is)
    (none_by c l.rest l.no_bodies) none in
    within items l.front l.rest c l.seq l.body was.payload l.is l.no_bodies l.no_words
    (subst (λ (b : List ℕ). CanPlan l.front was.payload b) (sym same.1)
    (subst (λ (f : List Item). CanPlan f was.payload was.body) (sym same.0) was.can))

kept : (connections : List (List Submission)) (passes : List Joined) (items : List Item)
    → AllSubmitted 1 connections passes → AllByRecursion (StandsIn items) passes
    → AllByRecursion (λ (x : Item). Contains (numbers_of passes) x.client) items
    → WerePlannedLast 1 connections items → Within items
kept connections passes items did stand by_passes planned' = elim (last_plan items) [
  | inl none ↦ (let a = none.0 in let b = none.1 in (omega (arith, a), omega (arith, b)))
  | inr last ↦
      let its : Contains (numbers_of passes) last.client =
      middle (λ (x : Item). Contains (numbers_of passes) x.client) last.front
      (plan_of last.client last.seq last.body) last.rest
      (subst (AllByRecursion (λ (x : Item). Contains (numbers_of passes) x.client)) last.is by_passes) in
      let of = of_one 1 connections passes items last.client did stand planned' its in
      let plan = by_plan last.client last.seq last.body last.rest in
      let parts = by_append a_body last.client last.front (plan_of last.client last.seq last.body ∷ last.rest) in
      let whole = ap (λ (xs : List Item). total a_body (entries_by last.client xs)) last.is in
      let plans = of.plans in
      by_last items last of.many of.plans (of.last (omega (arith, plan, parts, whole, plans)))
]

pub limits_kept : (connections : List (List Submission)) (head head_now : Head) (items : List Item)
    (after : Knowledge) (final : Record) → WereServedOn connections (came_with head []) after → Ends after final
    → final ≡ record_of head_now items → WerePlannedLast 1 connections items → KeepLimits connections
limits_kept connections head head_now items after final served ends is planned' =
    let back = handed head head_now [] items served.passes after final served.took_in ends is in
    let more = back.0 in
    let h = back.1 in
    let grown : items ≡ more = h.grown in
    let all = kept connections served.passes more served.each h.stand h.by_passes
    (subst (WerePlannedLast 1 connections) grown planned') in
    let bodies = all_counted a_body (λ (submissions : List Submission). length submissions) counts_bodies 1 connections
    served.passes more served.each h.stand in
    let words = all_counted its_words (λ (submissions : List Submission). sum_by words_in submissions) counts_words 1
    connections served.passes more served.each h.stand in
    let few_bodies = all_at_most_once a_body connections served.passes more served.each in
    let few_words = all_at_most_once its_words connections served.passes more served.each in
    let at_most = all.0 in
    let short = all.1 in
    record {
      bodies = omega (arith, bodies, few_bodies, at_most);
      words = omega (arith, words, few_words, short);
    }
