-- Plans, one more and client by client.
use Rattle.std.proofs.Common.{◌≡◌, ℕ, ◌+◌, ◌≤◌, ◌<◌, true, false, ◌==◌, ◌&&◌, ◌||◌, cond, suc, List, [], ◌∷◌, ◌++◌}
use Rattle.std.proofs.Common.{length, refl, sym, ap, ◌∙◌, subst, arith, append_assoc, length-append}
use Rattle.std.proofs.Common.{take, drop, get_or, length-take, zero}
use Rattle.std.proofs.lemmas.Bool.{eq-eqb}
use Rattle.std.proofs.lemmas.Bool.Decides.{nat_tests}
use Rattle.std.specs.List.{AllByRecursion}
use Rattle.std.proofs.lemmas.List.{append-nil, take-append-drop, take_more}
use Rattle.ipb_base.specs.Lists.{IsPrefix}
use Rattle.lane_record.specs.declared.item.Item.{Item}
use Rattle.lane_record.specs.Items.{is_sealed, numbers, plan_in, planned_count}
use Rattle.lane_record.specs.NextEntry.{plan_of, the_seal}
use Rattle.lane_record.proofs.Lookups.{numbers_append, sealed_append}
use Rattle.hub_lane.specs.Lanes.{LaneState, with_item}
use Rattle.hub_lane.specs.Calls.{with_seal}
use Rattle.script_steps.specs.declared.operation.Step.{Step}
use Rattle.script_plans.specs.declared.greeting.Greeting.{Greeting}
use Rattle.script_plans.specs.Plan.{ClientBodies, planned_on, plans_on}
use Rattle.lane_record.specs.Dispatches.{all_plans_from, plans_from}
use Rattle.board_history.proofs.Lists.{begins_at}
use Rattle.board_history.specs.Records.{IsPartlyPlanned}
use Rattle.session_run.specs.Clients.{PlannedSome, bodies_of_plans, with_items}

-- ---- what Plans are

self : (n : ℕ) → (n == n) ≡ true
self n = eq-eqb n n refl

pub plans_count : (client seq : ℕ) (bodies : List (List ℕ)) → planned_count client (plans_from client seq bodies)
    ≡ length bodies
plans_count client seq [] = refl
plans_count client seq (b ∷ bs) =
    ap (λ t. length (cond (t && true) (seq ∷ numbers plan_in client (plans_from client (seq + 1) bs))
    (numbers plan_in client (plans_from client (seq + 1) bs)))) (self client)
    ∙ ap suc (plans_count client (seq + 1) bs)

pub no_plans : (client other seq : ℕ) (bodies : List (List ℕ)) → (other == client) ≡ false
    → numbers plan_in client (plans_from other seq bodies) ≡ []
no_plans client other seq [] e = refl
no_plans client other seq (b ∷ bs) e =
    ap (λ t. cond (t && true) (seq ∷ numbers plan_in client (plans_from other (seq + 1) bs))
    (numbers plan_in client (plans_from other (seq + 1) bs))) e
    ∙ no_plans client other (seq + 1) bs e

pub no_later_plans : (client from : ℕ) (bodies : List (List (List ℕ))) → from + length bodies ≤ client
    → numbers plan_in client (all_plans_from from bodies) ≡ []
no_later_plans client from [] le = refl
no_later_plans client from (bs ∷ later) le =
    numbers_append plan_in client (plans_from from 0 bs) (all_plans_from (from + 1) later)
    ∙ (ap (λ (l : List ℕ). l ++ numbers plan_in client (all_plans_from (from + 1) later))
    (no_plans client from 0 bs (grind (arith, nat_tests, le)))
    ∙ no_later_plans client (from + 1) later (omega (arith, le)))

pub planned_plans : (client : ℕ) (items : List Item) (bodies : List (List ℕ)) → planned_count client items ≡ 0
    → planned_count client (items ++ plans_from client 0 bodies) ≡ length bodies
planned_plans client items bodies none =
    let c = plans_count client 0 bodies in
    ap length (numbers_append plan_in client items (plans_from client 0 bodies))
    ∙ (length-append (numbers plan_in client items) (numbers plan_in client (plans_from client 0 bodies))
    ∙ omega (arith, none, c))

plans_unsealed : (client seq : ℕ) (bodies : List (List ℕ)) → is_sealed (plans_from client seq bodies) ≡ false
plans_unsealed client seq [] = refl
plans_unsealed client seq (b ∷ bs) = plans_unsealed client (seq + 1) bs

pub unsealed_more : (client : ℕ) (items : List Item) (bodies : List (List ℕ)) → is_sealed items ≡ false
    → is_sealed (items ++ plans_from client 0 bodies) ≡ false
unsealed_more client items bodies none = sealed_append items (plans_from client 0 bodies)
    ∙ (ap (λ b. b || is_sealed (plans_from client 0 bodies)) none ∙ plans_unsealed client 0 bodies)

pub all_unsealed : (from : ℕ) (bodies : List (List (List ℕ))) → is_sealed (all_plans_from from bodies) ≡ false
all_unsealed from [] = refl
all_unsealed from (bs ∷ later) = sealed_append (plans_from from 0 bs) (all_plans_from (from + 1) later)
    ∙ (ap (λ b. b || is_sealed (all_plans_from (from + 1) later)) (plans_unsealed from 0 bs)
    ∙ all_unsealed (from + 1) later)

pub all_plans_more : (from : ℕ) (bodies : List (List (List ℕ))) (more : List (List ℕ))
    → all_plans_from from (bodies ++ more ∷ []) ≡ all_plans_from from bodies ++ plans_from (from + length bodies) 0 more
all_plans_more from [] more = append-nil (plans_from from 0 more) ∙ ap (λ n. plans_from n 0 more) (omega arith)
all_plans_more from (bs ∷ later) more =
    ap (λ (l : List Item). plans_from from 0 bs ++ l) (all_plans_more (from + 1) later more)
    ∙ (sym (append_assoc (plans_from from 0 bs) (all_plans_from (from + 1) later)
    (plans_from (from + 1 + length later) 0 more))
    ∙ ap (λ n. all_plans_from from (bs ∷ later) ++ plans_from n 0 more) (omega arith))

all_plans_append : (from : ℕ) (front back : List (List (List ℕ)))
    → all_plans_from from (front ++ back) ≡ all_plans_from from front ++ all_plans_from (from + length front) back
all_plans_append from [] back = ap (λ n. all_plans_from n back) (omega arith)
all_plans_append from (bs ∷ front) back =
    ap (λ (l : List Item). plans_from from 0 bs ++ l) (all_plans_append (from + 1) front back)
    ∙ (sym (append_assoc (plans_from from 0 bs) (all_plans_from (from + 1) front)
    (all_plans_from (from + 1 + length front) back))
    ∙ ap (λ n. all_plans_from from (bs ∷ front) ++ all_plans_from n back) (omega arith))

-- planning may stop within the bodies of a client
pub stopped_within : (front later : List (List (List ℕ))) (bodies : List (List ℕ)) (more : List Item)
    → IsPrefix more (plans_from (1 + length front) 0 bodies)
    → IsPrefix (all_plans_from 1 front ++ more) (all_plans_from 1 (front ++ bodies ∷ later))
stopped_within front later bodies more is =
    let from = 1 + length front in
    let back = all_plans_from (from + 1) later in (
      is.0 ++ back,
      all_plans_append 1 front (bodies ∷ later)
          ∙ (ap (λ (l : List Item). all_plans_from 1 front ++ (l ++ back)) is.1
          ∙ (ap (λ (l : List Item). all_plans_from 1 front ++ l) (append_assoc more is.0 back)
          ∙ sym (append_assoc (all_plans_from 1 front) more (is.0 ++ back)))),
    )

-- ---- one client

abbrev pub PlanLaw : Type 0
PlanLaw = (client seq : ℕ) (bodies : List (List ℕ)) (body : List ℕ) → plans_from client seq (bodies ++ body ∷ [])
    ≡ plans_from client seq bodies ++ plan_of client (seq + length bodies) body ∷ []

pub plan_more : {L : Type 0} (law : PlanLaw) (before old new : LaneState L) (client k : ℕ) (bodies : List (List ℕ))
    (body : List ℕ) → planned_count client before.items ≡ 0
    → old ≡ with_items before (plans_from client 0 (take k bodies)) → k < length bodies → body ≡ get_or bodies k body
    → new ≡ with_items old (plans_from client (planned_count client old.items) (body ∷ []))
    → new ≡ with_items before (plans_from client 0 (take (k + 1) bodies))
plan_more {L} law before old new client k bodies body none was within is after =
    let front = take k bodies in
    let plans = plans_from client 0 front in
    let many : planned_count client old.items ≡ length front =
    ap (λ (l : LaneState L). planned_count client l.items) was ∙ planned_plans client before.items front none in
    let next : planned_count client old.items ≡ 0 + length front = omega (arith, many) in
    let one : plans ++ plan_of client (planned_count client old.items) body ∷ [] ≡ plans_from client 0 (take (k + 1) bodies) =
    ap (λ n. plans ++ plan_of client n body ∷ []) next
    ∙ (sym (law client 0 front body)
    ∙ ap (plans_from client 0) (ap (λ (b : List ℕ). front ++ b ∷ []) is ∙ sym (take_more bodies k body within))) in
    after ∙ (ap (λ (l : LaneState L). with_items l (plan_of client (planned_count client old.items) body ∷ [])) was
    ∙ (ap (λ (items : List Item). record before { items = items })
    (append_assoc before.items plans (plan_of client (planned_count client old.items) body ∷ []))
    ∙ ap (with_items before) one))

plans_append : (client seq : ℕ) (front back : List (List ℕ))
    → plans_from client seq (front ++ back) ≡ plans_from client seq front ++ plans_from client (seq + length front) back
plans_append client seq [] back = ap (λ n. plans_from client n back) (omega arith)
plans_append client seq (b ∷ front) back = ap (λ (l : List Item). plan_of client seq b ∷ l)
    (plans_append client (seq + 1) front back
    ∙ ap (λ n. plans_from client (seq + 1) front ++ plans_from client n back) (omega arith))

pub plans_front : (client k : ℕ) (bodies : List (List ℕ))
    → IsPrefix (plans_from client 0 (take k bodies)) (plans_from client 0 bodies)
plans_front client k bodies = (
  plans_from client (0 + length (take k bodies)) (drop k bodies),
  ap (plans_from client 0) (sym (take-append-drop k bodies)) ∙ plans_append client 0 (take k bodies) (drop k bodies),
)

-- ---- all clients

abbrev pub PartlyFront : Type 0
PartlyFront = (bodies : List (List (List ℕ))) (front items : List Item) → IsPrefix front items
    → IsPartlyPlanned bodies items → IsPartlyPlanned bodies front

abbrev pub PartlyAll : Type 0
PartlyAll = (bodies : List (List (List ℕ))) → IsPartlyPlanned bodies (all_plans_from 1 bodies)

abbrev pub told_bodies : ℕ → Greeting → List (List Step) → List (List (List ℕ))
told_bodies board told scripts = bodies_of_plans (plans_on board told scripts)

bodies_append : (board : ℕ) (told : Greeting) (front back : List (List Step))
    → told_bodies board told (front ++ back) ≡ told_bodies board told front ++ told_bodies board told back
bodies_append board told [] back = refl
bodies_append board told (s ∷ front) back =
    ap (λ (l : List (List (List ℕ))). (planned_on board told s).bodies ∷ l) (bodies_append board told front back)

length_bodies : (board : ℕ) (told : Greeting) (scripts : List (List Step))
    → length (told_bodies board told scripts) ≡ length scripts
length_bodies board told [] = refl
length_bodies board told (s ∷ scripts) = ap suc (length_bodies board told scripts)

pub partly_none : PartlyFront → PartlyAll → (bodies : List (List (List ℕ))) (items : List Item) → items ≡ []
    → IsPartlyPlanned bodies items
partly_none front all bodies items none = subst (IsPartlyPlanned bodies) (sym none)
    (front bodies [] (all_plans_from 1 bodies) (all_plans_from 1 bodies, refl) (all bodies))

-- planning may stop between clients, or within the bodies of one
pub partly_between : PartlyFront → PartlyAll → (board : ℕ) (told : Greeting) (k : ℕ) (scripts : List (List Step))
    (items : List Item) → items ≡ all_plans_from 1 (told_bodies board told (take k scripts))
    → IsPartlyPlanned (told_bodies board told scripts) items
partly_between front all board told k scripts items is =
    let firsts = told_bodies board told (take k scripts) in
    let lasts = told_bodies board told (drop k scripts) in
    let bodies = told_bodies board told scripts in
    let cut : bodies ≡ firsts ++ lasts = ap (told_bodies board told) (sym (take-append-drop k scripts))
    ∙ bodies_append board told (take k scripts) (drop k scripts) in
    subst (IsPartlyPlanned bodies) (sym is) (front bodies (all_plans_from 1 firsts) (all_plans_from 1 bodies) (
      all_plans_from (1 + length firsts) lasts,
      ap (all_plans_from 1) cut
          ∙ all_plans_append 1 firsts lasts,
    ) (all bodies))

pub partly_within : PartlyFront → PartlyAll → (board : ℕ) (told : Greeting) (k client : ℕ) (scripts : List (List Step))
    (steps : List Step) (items more : List Item) → drop k scripts ≡ steps ∷ drop (k + 1) scripts
    → client ≡ length (take k scripts) + 1
    → IsPrefix more (plans_from client 0 (planned_on board told steps).bodies)
    → items ≡ all_plans_from 1 (told_bodies board told (take k scripts)) ++ more
    → IsPartlyPlanned (told_bodies board told scripts) items
partly_within front all board told k client scripts steps items more begins who some is =
    let firsts = told_bodies board told (take k scripts) in
    let here = (planned_on board told steps).bodies in
    let lasts = told_bodies board told (drop (k + 1) scripts) in
    let bodies = told_bodies board told scripts in
    let cut : bodies ≡ firsts ++ here ∷ lasts = ap (told_bodies board told) (sym (take-append-drop k scripts))
    ∙ (bodies_append board told (take k scripts) (drop k scripts)
    ∙ ap (λ (l : List (List Step)). firsts ++ told_bodies board told l) begins) in
    let many = length_bodies board told (take k scripts) in
    let number : client ≡ 1 + length firsts = omega (arith, who, many) in
    subst (IsPartlyPlanned bodies) (sym is) (front bodies (all_plans_from 1 firsts ++ more) (all_plans_from 1 bodies)
    (subst (λ (bs : List (List (List ℕ))). IsPrefix (all_plans_from 1 firsts ++ more) (all_plans_from 1 bs)) (sym cut)
    (stopped_within firsts lasts here more (subst (λ n. IsPrefix more (plans_from n 0 here)) number some))) (all
    bodies))

pub unsealed_so_far : {L : Type 0} (before now : LaneState L) (bodies : List (List (List ℕ))) → before.items ≡ []
    → now ≡ with_items before (all_plans_from 1 bodies) → now.items ≡ all_plans_from 1 bodies
unsealed_so_far {L} before now bodies none is = ap (λ (l : LaneState L). l.items) is
    ∙ ap (λ (l : List Item). l ++ all_plans_from 1 bodies) none

pub client_more : {L : Type 0} (before old new : LaneState L) (client : ℕ) (bodies : List (List (List ℕ)))
    (here : List (List ℕ)) → old ≡ with_items before (all_plans_from 1 bodies)
    → new ≡ with_items old (plans_from client 0 here) → client ≡ length bodies + 1
    → new ≡ with_items before (all_plans_from 1 (bodies ++ here ∷ []))
client_more {L} before old new client bodies here was after who =
    after ∙ (ap (λ (l : LaneState L). with_items l (plans_from client 0 here)) was
    ∙ (ap (λ (items : List Item). record before { items = items })
    (append_assoc before.items (all_plans_from 1 bodies) (plans_from client 0 here))
    ∙ ap (with_items before) (ap (λ n. all_plans_from 1 bodies ++ plans_from n 0 here) (who ∙ omega arith)
    ∙ sym (all_plans_more 1 bodies here))))

pub sealed_last : {L : Type 0} (before old : LaneState L) (bodies : List (List (List ℕ))) → before.items ≡ []
    → old ≡ with_items before (all_plans_from 1 bodies)
    → with_seal old ≡ with_items before (all_plans_from 1 bodies ++ the_seal ∷ [])
sealed_last {L} before old bodies none was =
    let unsealed : is_sealed old.items ≡ false = ap is_sealed (unsealed_so_far before old bodies none was)
    ∙ all_unsealed 1 bodies in
    ap (λ b. cond b old (with_item old the_seal)) unsealed
    ∙ (ap (λ (l : LaneState L). with_item l the_seal) was
    ∙ ap (λ (items : List Item). record before { items = items })
    (append_assoc before.items (all_plans_from 1 bodies) (the_seal ∷ [])))

bodies_of_append : (xs : List ClientBodies) (p : ClientBodies) → bodies_of_plans (xs ++ p ∷ [])
    ≡ bodies_of_plans xs ++ p.bodies ∷ []
bodies_of_append [] p = refl
bodies_of_append (x ∷ xs) p = ap (λ (l : List (List (List ℕ))). x.bodies ∷ l) (bodies_of_append xs p)

-- so many clients planned
pub record PlanningClients {L : Type 0} (board : ℕ) (told : Greeting) (scripts : List (List Step))
    (plans : List ClientBodies) (before now : LaneState L) : Type 0 where
  pub plans' : plans ≡ plans_on board told scripts
  pub lane' : now ≡ with_items before (all_plans_from 1 (bodies_of_plans plans))

pub plans_more : (board : ℕ) (told : Greeting) (front : List (List Step)) (s : List Step)
    → plans_on board told (front ++ s ∷ []) ≡ plans_on board told front ++ planned_on board told s ∷ []
plans_more board told [] s = refl
plans_more board told (f ∷ front) s = ap (λ (l : List ClientBodies). planned_on board told f ∷ l) (plans_more board
    told front s)

length_of_bodies : (xs : List ClientBodies) → length (bodies_of_plans xs) ≡ length xs
length_of_bodies [] = refl
length_of_bodies (x ∷ xs) = ap suc (length_of_bodies xs)

-- the client that is planned next, and its plan
pub record NextClient {L : Type 0} (board : ℕ) (told : Greeting) (k : ℕ) (scripts : List (List Step))
    (steps : List Step) (plans : List ClientBodies) (planned : ClientBodies) (before old : LaneState L) : Type 0 where
  pub so_far : PlanningClients board told (take k scripts) plans before old
  pub within : k < length scripts
  pub is : steps ≡ get_or scripts k steps
  pub made : planned ≡ planned_on board told steps

pub next_client : {L : Type 0} {steps slice : List Step} {plans : List ClientBodies} {planned : ClientBodies}
    {before old : LaneState L} (board : ℕ) (told : Greeting) (k : ℕ) (scripts : List (List Step))
    → PlanningClients board told (take k scripts) plans before old → k < length scripts → steps ≡ get_or scripts k steps
    → slice ≡ steps → planned ≡ planned_on board told slice
    → NextClient board told k scripts steps plans planned before old
next_client board told k scripts so_far within is same made =
    record { so_far = so_far; within = within; is = is; made = made ∙ ap (planned_on board told) same }

pub client_planned : {L : Type 0} {board : ℕ} {told : Greeting} {k : ℕ} {scripts : List (List Step)} {steps : List Step}
    {plans : List ClientBodies} {planned : ClientBodies} {before old : LaneState L} (client : ℕ)
    (here : List (List ℕ)) (pushed : List ClientBodies) (new : LaneState L)
    → NextClient board told k scripts steps plans planned before old → here ≡ planned.bodies
    → client ≡ length plans + 1 → new ≡ with_items old (plans_from client 0 here) → pushed ≡ plans ++ planned ∷ []
    → PlanningClients board told (take (k + 1) scripts) pushed before new
client_planned {L} {board} {told} {k} {scripts} {steps} {plans} {planned} {before} {old} client here pushed new next
    bodies who after push =
    let few = length_of_bodies plans in
    let so_far = next.so_far in
    record {
      plans' = push ∙ (ap (λ (l : List ClientBodies). l ++ planned ∷ []) so_far.plans'
          ∙ (ap (λ (p : ClientBodies). plans_on board told (take k scripts) ++ p ∷ []) next.made
          ∙ (sym (plans_more board told (take k scripts) steps)
          ∙ ap (plans_on board told) (ap (λ (s : List Step). take k scripts ++ s ∷ []) next.is
          ∙ sym (take_more scripts k steps next.within)))));
      lane' = client_more before old new client (bodies_of_plans plans) planned.bodies so_far.lane'
          (after ∙ ap (λ (bs : List (List ℕ)). with_items old (plans_from client 0 bs)) bodies)
          (omega (arith, who, few))
          ∙ ap (λ (bs : List (List (List ℕ))). with_items before (all_plans_from 1 bs))
          (sym (bodies_of_append plans planned) ∙ ap bodies_of_plans (sym push));
    }

-- as many plans as clients so far
pub plans_counted : {L : Type 0} {board : ℕ} {told : Greeting} {plans : List ClientBodies} {before now : LaneState L}
    (k : ℕ) (scripts : List (List Step)) → PlanningClients board told (take k scripts) plans before now
    → k < length scripts → length plans ≡ k
plans_counted {board = board} {told = told} {plans = plans} k scripts so_far within =
    sym (length_of_bodies plans)
    ∙ (ap (λ (p : List ClientBodies). length (bodies_of_plans p)) so_far.plans'
    ∙ (length_bodies board told (take k scripts) ∙ omega (arith, within, length-take k scripts)))

-- what holds of each script holds of the next
pub script_at : (P : List Step → Type 0) (k : ℕ) (scripts : List (List Step)) (steps : List Step) → k < length scripts
    → steps ≡ get_or scripts k steps → AllByRecursion P scripts → P steps
script_at P k [] steps within is all = absurd (omega (arith, within))
script_at P zero (s ∷ scripts) steps within is all = subst P (sym is) all.0
script_at P (suc k) (s ∷ scripts) steps within is all = script_at P k scripts steps (omega (arith, within)) is all.1

pub no_plans_yet : (items : List Item) (plans : List ClientBodies) (client : ℕ)
    → items ≡ all_plans_from 1 (bodies_of_plans plans) → client ≡ length plans + 1 → planned_count client items ≡ 0
no_plans_yet items plans client is who =
    let few = length_of_bodies plans in
    ap (planned_count client) is ∙ ap length (no_later_plans client 1 (bodies_of_plans plans) (omega (arith, who, few)))

pub partly_stopped : {L : Type 0} {board : ℕ} {told : Greeting} {k : ℕ} {scripts : List (List Step)} {steps : List Step}
    {plans : List ClientBodies} {planned : ClientBodies} {before old : LaneState L} → PartlyFront → PartlyAll
    → (client : ℕ) (here : List (List ℕ)) (new : LaneState L)
    → NextClient board told k scripts steps plans planned before old → before.items ≡ [] → here ≡ planned.bodies
    → client ≡ length plans + 1 → PlannedSome client here old new
    → IsPartlyPlanned (told_bodies board told scripts) new.items
partly_stopped {L} {board} {told} {k} {scripts} {steps} {plans} {planned} {before} {old} front all client here new next
    none bodies who some =
    let firsts = take k scripts in
    let so_far = next.so_far in
    let began = unsealed_so_far before old (bodies_of_plans plans) none so_far.lane'
    ∙ ap (λ (p : List ClientBodies). all_plans_from 1 (bodies_of_plans p)) so_far.plans' in
    let many : length plans ≡ length firsts = sym (length_of_bodies plans)
    ∙ (ap (λ (p : List ClientBodies). length (bodies_of_plans p)) so_far.plans' ∙ length_bodies board told firsts) in
    partly_within front all board told k client scripts steps new.items some.front
    (begins_at scripts k steps next.within next.is) (omega (arith, who, many))
    (subst (λ (bs : List (List ℕ)). IsPrefix some.front (plans_from client 0 bs))
    (bodies ∙ ap (λ (p : ClientBodies). p.bodies) next.made) some.is_front)
    (ap (λ (l : LaneState L). l.items) some.became ∙ ap (λ (l : List Item). l ++ some.front) began)
