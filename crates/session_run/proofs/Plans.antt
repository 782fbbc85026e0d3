-- The plans of the clients over all boards.
use Rattle.std.proofs.Common.{◌≡◌, ℕ, zero, suc, ◌+◌, ◌≤◌, ◌<◌, ◌∙◌, ◌^◌, List, [], ◌∷◌, ◌++◌, length, get_or, map}
use Rattle.std.proofs.Common.{refl, sym, ap, subst, arith, append_assoc, take, length-append, Option, Some}
use Rattle.std.specs.List.{AllByRecursion, range_with_len, slice_get}
use Rattle.std.specs.Prelude.{option_and_then, unwrap_or}
use Rattle.std.proofs.lemmas.List.{length-map, length-take-le, map-append, take_more}
use Rattle.std.proofs.lemmas.List.FromFn.{map-range_with_len_more}
use Rattle.std.specs.Prelude.{fold}
use Rattle.mtu_packer.specs.Packed.{Contents, packed_contents}
use Rattle.script_steps.specs.declared.operation.RegOp.{RegOp}
use Rattle.script_steps.specs.declared.operation.Step.{Step}
use Rattle.script_steps.specs.declared.operation.Step.TheVariants.{Do, Denied, Dispatch as dispatch_step}
use Rattle.client_threads.specs.Clients.{AreOfClientsFrom, AreRisingFrom, IsPlanFor, bodies_on, counts_on}
use Rattle.client_threads.specs.declared.plan.Dispatch.{Dispatch}
use Rattle.client_threads.specs.declared.plan.ClientPlan.{ClientPlan}
use Rattle.script_plans.specs.declared.greeting.Greeting.TheVariants.{Live}
use Rattle.script_plans.specs.Plan.{ClientBodies, into_next_dispatch, dispatches, no_bodies, plan, planned_on, plans_on}
use Rattle.script_plans.specs.Plan.{ops_on, with_dispatch}
use Rattle.session_run.specs.Plans.{ArePlansOnBoard, AskAllFrom, HasFewBodies, count_at, counts_by_client, ends_in}
use Rattle.session_run.specs.Plans.{dispatch_over, pair_of, pairs_from, plan_over, plans_over}
use Rattle.session_run.proofs.Pairs.{bodies_at, pairs_more, pairs_rise}

-- ---- the dispatches of a script

some_begun : (op : RegOp) (ds : List (List RegOp)) → 0 < length ds → length (into_next_dispatch op ds) ≡ length ds
some_begun op [] some = absurd (omega (arith, some))
some_begun op (d ∷ ds) some = refl

some_dispatches : (steps : List Step) → 0 < length (dispatches steps)
some_dispatches [] = omega arith
some_dispatches (Do op ∷ steps) =
    let some = some_dispatches steps in
    let same = some_begun op (dispatches steps) some in omega (arith, some, same)
some_dispatches (Denied rule op ∷ steps) = some_dispatches steps
some_dispatches (dispatch_step ∷ steps) = omega arith

-- a step more
pub step_more : (step : Step) (steps : List Step)
    → length (dispatches (step ∷ steps)) ≡ ends_in step + length (dispatches steps)
step_more (Do op) steps = some_begun op (dispatches steps) (some_dispatches steps) ∙ omega arith
step_more (Denied rule op) steps = omega arith
step_more dispatch_step steps = omega arith

pub one_at_most : (step : Step) → ends_in step ≤ 1
one_at_most (Do op) = omega arith
one_at_most (Denied rule op) = omega arith
one_at_most dispatch_step = omega arith

fronts_at : {A : Type 0} (xs : List A) (i : ℕ) (x : A) → i < length xs → x ≡ get_or xs i x
    → take (i + 1) xs ≡ take i xs ++ x ∷ []
fronts_at xs i x within is = take_more xs i x within ∙ ap (λ y. take i xs ++ y ∷ []) (sym is)

-- ---- how many bodies each has

folded_counts : (all : ClientBodies) (ds : List Contents) (n : ℕ) → length all.counts ≡ n
    → length (fold with_dispatch all ds).counts ≡ n + length ds
folded_counts all [] n e = omega (arith, e)
folded_counts all (d ∷ ds) n e =
    let more = length-append all.counts (length d.bodies ∷ []) in
    folded_counts (with_dispatch all d) ds (n + 1) (omega (arith, more, e)) ∙ omega arith

-- a client's plan has a number of bodies for each dispatch of its script
planned_counts : (position payload : ℕ) (steps : List Step)
    → length (planned_on position (Live payload) steps).counts ≡ length (dispatches steps)
planned_counts position payload steps =
    let same = length-map (dispatches steps) (λ (d : List RegOp). packed_contents payload (ops_on position d)) in
    folded_counts no_bodies (plan payload position steps) 0 refl ∙ omega (arith, same)

abbrev pub dispatch_counts : List (List Step) → List ℕ
dispatch_counts scripts = map (λ (steps : List Step). length (dispatches steps)) scripts

pub counts_long : (scripts : List (List Step)) → length (dispatch_counts scripts) ≡ length scripts
counts_long scripts = length-map scripts (λ (steps : List Step). length (dispatches steps))

all_counts : (position payload : ℕ) (scripts : List (List Step))
    → map (λ (p : ClientBodies). length p.counts) (plans_on position (Live payload) scripts) ≡ dispatch_counts scripts
all_counts position payload [] = refl
all_counts position payload (steps ∷ scripts) =
    ap (λ (n : ℕ). n ∷ map (λ (p : ClientBodies). length p.counts) (plans_on position (Live payload) scripts))
    (planned_counts position payload steps)
    ∙ ap (λ (ns : List ℕ). length (dispatches steps) ∷ ns) (all_counts position payload scripts)

pub board_counts : (scripts : List (List Step)) (planned : List ClientBodies) → ArePlansOnBoard scripts planned
    → map (λ (p : ClientBodies). length p.counts) planned ≡ dispatch_counts scripts
board_counts scripts planned are = ap (map (λ (p : ClientBodies). length p.counts)) are.plans
    ∙ all_counts are.position are.payload scripts

-- ---- the plans

pub plans_more : (boards : List (List ClientBodies)) (client : ℕ) (manys : List ℕ) (many : ℕ)
    → plans_over boards client (manys ++ many ∷ [])
    ≡ plans_over boards client manys ++ plan_over boards (client + length manys) many ∷ []
plans_more boards client [] many =
    let same : client ≡ client + 0 = omega arith in ap (λ (c : ℕ). plan_over boards c many ∷ []) same
plans_more boards client (m ∷ manys) many =
    let on : client + 1 + length manys ≡ client + suc (length manys) = omega arith in
    ap (λ (ps : List ClientPlan). plan_over boards client m ∷ ps)
    (plans_more boards (client + 1) manys many
    ∙ ap (λ (c : ℕ). plans_over boards (client + 1) manys ++ plan_over boards c many ∷ []) on)

pub plans_clients : (boards : List (List ClientBodies)) (client : ℕ) (manys : List ℕ)
    → AreOfClientsFrom (client + 1) (plans_over boards client manys)
plans_clients boards client [] = tt
plans_clients boards client (m ∷ manys) = (refl, plans_clients boards (client + 1) manys)

pub plans_many : (boards : List (List ClientBodies)) (client : ℕ) (manys : List ℕ)
    → length (plans_over boards client manys) ≡ length manys
plans_many boards client [] = refl
plans_many boards client (m ∷ manys) = ap suc (plans_many boards (client + 1) manys)

dispatches_for : (boards : List (List ClientBodies)) (client : ℕ) (ds : List ℕ)
    → AllByRecursion (λ (d : Dispatch). AreRisingFrom 0 (length boards) d.asks) (map (dispatch_over boards client) ds)
dispatches_for boards client [] = tt
dispatches_for boards client (d ∷ ds) =
    let same = length-map boards (count_at client d) in (
      pairs_rise 0 (length boards) (map (count_at client d) boards) (omega (arith, same)),
      dispatches_for boards client ds,
    )

pub plans_for : (boards : List (List ClientBodies)) (client : ℕ) (manys : List ℕ)
    → AllByRecursion (IsPlanFor (length boards)) (plans_over boards client manys)
plans_for boards client [] = tt
plans_for boards client (m ∷ manys) =
    (dispatches_for boards client (range_with_len 0 m), plans_for boards (client + 1) manys)

-- ---- one more

-- a lane more
pub lane_more : (client dispatch k lane count : ℕ) (boards : List (List ClientBodies)) (board : List ClientBodies)
    (old new : List (ℕ × ℕ)) → k < length boards → board ≡ get_or boards k board
    → old ≡ pairs_from 0 (map (count_at client dispatch) (take k boards)) → lane ≡ k
    → count ≡ count_at client dispatch board → new ≡ old ++ pair_of lane count
    → new ≡ pairs_from 0 (map (count_at client dispatch) (take (k + 1) boards))
lane_more client dispatch k lane count boards board old new within is so_far at many push =
    let f = count_at client dispatch in
    let front = map f (take k boards) in
    let long : 0 + length front ≡ k =
    (let e = length-map (take k boards) f in let g = length-take-le k boards (omega (arith, within)) in omega (
      arith,
      e,
      g,
    )) in
    push
    ∙ (ap (λ (ps : List (ℕ × ℕ)). ps ++ pair_of lane count) so_far
    ∙ (ap (λ (n : ℕ). pairs_from 0 front ++ pair_of n count) (at ∙ sym long)
    ∙ (ap (λ (n : ℕ). pairs_from 0 front ++ pair_of (0 + length front) n) many
    ∙ (sym (pairs_more 0 front (f board))
    ∙ ap (pairs_from 0) (sym (map-append f (take k boards) (board ∷ []))
    ∙ ap (map f) (sym (fronts_at boards k board within is)))))))

-- a dispatch more
pub dispatch_done : (boards : List (List ClientBodies)) (client d : ℕ) (old new : List Dispatch) (made : Dispatch)
    → old ≡ map (dispatch_over boards client) (range_with_len 0 d) → made ≡ dispatch_over boards client d
    → new ≡ old ++ made ∷ [] → new ≡ map (dispatch_over boards client) (range_with_len 0 (d + 1))
dispatch_done boards client d old new made so_far is push =
    push
    ∙ (ap (λ (l : List Dispatch). l ++ made ∷ []) so_far
    ∙ (ap (λ (x : Dispatch). map (dispatch_over boards client) (range_with_len 0 d) ++ x ∷ []) is
    ∙ sym (map-range_with_len_more (dispatch_over boards client) 0 d d (omega arith))))

-- a client more
pub client_more : (boards : List (List ClientBodies)) (k many : ℕ) (scripts : List (List Step)) (steps : List Step)
    (old new : List ClientPlan) (made : ClientPlan) → k < length scripts → steps ≡ get_or scripts k steps
    → old ≡ plans_over boards 0 (dispatch_counts (take k scripts)) → many ≡ length (dispatches steps)
    → made ≡ plan_over boards k many → new ≡ old ++ made ∷ []
    → new ≡ plans_over boards 0 (dispatch_counts (take (k + 1) scripts))
client_more boards k many scripts steps old new made within is so_far count plan push =
    let manys = dispatch_counts (take k scripts) in
    let long : 0 + length manys ≡ k =
    (let e = length-map (take k scripts) (λ (s : List Step). length (dispatches s)) in
    let g = length-take-le k scripts (omega (arith, within)) in omega (arith, e, g)) in
    push
    ∙ (ap (λ (ps : List ClientPlan). ps ++ made ∷ []) so_far
    ∙ (ap (λ (p : ClientPlan). plans_over boards 0 manys ++ p ∷ []) plan
    ∙ (ap (λ (n : ℕ). plans_over boards 0 manys ++ plan_over boards n many ∷ []) (sym long)
    ∙ (ap (λ (n : ℕ). plans_over boards 0 manys ++ plan_over boards (0 + length manys) n ∷ []) count
    ∙ (sym (plans_more boards 0 manys (length (dispatches steps)))
    ∙ ap (plans_over boards 0) (sym (map-append (λ (s : List Step). length (dispatches s)) (take k scripts) (steps ∷
    []))
    ∙ ap dispatch_counts (sym (fronts_at scripts k steps within is))))))))

-- ---- what they ask of a lane

get_map : {A : Type 0} (f : A → ℕ) (xs : List A) (i : ℕ) (x : A) → i < length xs → x ≡ get_or xs i x
    → get_or (map f xs) i 0 ≡ f x
get_map f [] i x lt is = absurd (omega (arith, lt))
get_map f (y ∷ xs) zero x lt is = ap f (sym is)
get_map f (y ∷ xs) (suc i) x lt is = get_map f xs i x (omega (arith, lt)) is

counts_each : (boards : List (List ClientBodies)) (client lane : ℕ) (planned : List ClientBodies) (ds : List ℕ)
    → lane < length boards → planned ≡ get_or boards lane planned
    → map (λ (d : Dispatch). bodies_on lane d.asks) (map (dispatch_over boards client) ds)
    ≡ map (λ (d : ℕ). count_at client d planned) ds
counts_each boards client lane planned [] lt is = refl
counts_each boards client lane planned (d ∷ ds) lt is =
    ap (λ (n : ℕ). n ∷ map (λ (e : Dispatch). bodies_on lane e.asks) (map (dispatch_over boards client) ds))
    (bodies_at lane 0 lane (map (count_at client d) boards) (omega arith)
    ∙ get_map (count_at client d) boards lane planned lt is)
    ∙ ap (λ (ns : List ℕ). count_at client d planned ∷ ns) (counts_each boards client lane planned ds lt is)

get_behind : {A : Type 0} (front : List A) (x : A) (rest : List A)
    → slice_get (front ++ x ∷ rest) (length front) ≡ Some x
get_behind [] x rest = refl
get_behind (y ∷ front) x rest = get_behind front x rest

got_behind : {A : Type 0} (front : List A) (x : A) (rest : List A)
    → get_or (front ++ x ∷ rest) (length front) x ≡ x
got_behind [] x rest = refl
got_behind (y ∷ front) x rest = got_behind front x rest

-- all numbers of a list, one by one
all_from : (xs front : List ℕ)
    → map (λ (d : ℕ). unwrap_or (slice_get (front ++ xs) d) 0) (range_with_len (length front) (length xs)) ≡ xs
all_from [] front = refl
all_from (x ∷ xs) front =
    let next = front ++ x ∷ [] in
    let on : length front + 1 ≡ length next = sym (length-append front (x ∷ [])) in
    ap (λ (n : ℕ). n ∷ map (λ (d : ℕ). unwrap_or (slice_get (front ++ x ∷ xs) d) 0)
    (range_with_len (length front + 1) (length xs)))
    (ap (λ (o : Option ℕ). unwrap_or o 0) (get_behind front x xs))
    ∙ ap (λ (ns : List ℕ). x ∷ ns)
    (ap (λ (n : ℕ). map (λ (d : ℕ). unwrap_or (slice_get (front ++ x ∷ xs) d) 0) (range_with_len n (length xs))) on
    ∙ ap (λ (l : List ℕ). map (λ (d : ℕ). unwrap_or (slice_get l d) 0) (range_with_len (length next) (length xs)))
    (sym (append_assoc front (x ∷ []) xs))
    ∙ all_from xs next)

client_counts : (front : List ClientBodies) (p : ClientBodies) (rest : List ClientBodies)
    → map (λ (d : ℕ). count_at (length front) d (front ++ p ∷ rest)) (range_with_len 0 (length p.counts)) ≡ p.counts
client_counts front p rest =
    ap (λ (o : Option ClientBodies). map (λ (d : ℕ). unwrap_or
    (option_and_then (λ (q : ClientBodies). slice_get q.counts d) o) 0) (range_with_len 0 (length p.counts)))
    (get_behind front p rest) ∙ all_from p.counts []

lane_counts : (boards : List (List ClientBodies)) (lane : ℕ) (front rest : List ClientBodies) → lane < length boards
    → front ++ rest ≡ get_or boards lane (front ++ rest)
    → map (counts_on lane) (plans_over boards (length front) (map (λ (p : ClientBodies). length p.counts) rest))
    ≡ counts_by_client rest
lane_counts boards lane front [] lt is = refl
lane_counts boards lane front (p ∷ rest) lt is =
    let next = front ++ p ∷ [] in
    let on : length front + 1 ≡ length next = sym (length-append front (p ∷ [])) in
    let whole : next ++ rest ≡ front ++ p ∷ rest = append_assoc front (p ∷ []) rest in
    let manys = map (λ (q : ClientBodies). length q.counts) rest in
    ap (λ (ns : List ℕ). ns ∷ map (counts_on lane) (plans_over boards (length front + 1) manys))
    (counts_each boards (length front) lane (front ++ p ∷ rest) (range_with_len 0 (length p.counts)) lt is
    ∙ client_counts front p rest)
    ∙ ap (λ (ns : List (List ℕ)). p.counts ∷ ns)
    (ap (λ (n : ℕ). map (counts_on lane) (plans_over boards n manys)) on
    ∙ lane_counts boards lane next rest lt
    (subst (λ (l : List ClientBodies). l ≡ get_or boards lane l) (sym whole) is))

ask_all_from : (boards front rest : List (List ClientBodies)) (scripts : List (List Step))
    → boards ≡ front ++ rest → AllByRecursion (ArePlansOnBoard scripts) rest
    → AskAllFrom (length front) (plans_over boards 0 (dispatch_counts scripts)) rest
ask_all_from boards front [] scripts is are = tt
ask_all_from boards front (planned ∷ rest) scripts is are =
    let next = front ++ planned ∷ [] in
    let on : length front + 1 ≡ length next = sym (length-append front (planned ∷ [])) in
    let long : length boards ≡ length front + suc (length rest) =
    ap (λ (l : List (List ClientBodies)). length l) is ∙ length-append front (planned ∷ rest) in
    let plans = plans_over boards 0 (dispatch_counts scripts) in
    let here : planned ≡ get_or boards (length front) planned =
    sym (ap (λ (l : List (List ClientBodies)). get_or l (length front) planned) is ∙ got_behind front planned rest) in (
      ap (λ (ms : List ℕ). map (counts_on (length front)) (plans_over boards 0 ms))
          (sym (board_counts scripts planned are.0))
          ∙ lane_counts boards (length front) [] planned (omega (arith, long)) here,
      subst (λ (n : ℕ). AskAllFrom n plans rest) (sym on)
          (ask_all_from boards next rest scripts (is ∙ sym (append_assoc front (planned ∷ []) rest)) are.1),
    )

pub ask_all : (boards : List (List ClientBodies)) (scripts : List (List Step))
    → AllByRecursion (ArePlansOnBoard scripts) boards
    → AskAllFrom 0 (plans_over boards 0 (dispatch_counts scripts)) boards
ask_all boards scripts are = ask_all_from boards [] boards scripts refl are

-- ---- few bodies

few_get : (counts : List ℕ) (d : ℕ) → AllByRecursion (λ (count : ℕ). count < 2 ^ 32) counts
    → unwrap_or (slice_get counts d) 0 < 2 ^ 32
few_get [] d few = omega arith
few_get (c ∷ counts) zero few = few.0
few_get (c ∷ counts) (suc d) few = few_get counts d few.1

few_count : (client dispatch : ℕ) (planned : List ClientBodies) → AllByRecursion HasFewBodies planned
    → count_at client dispatch planned < 2 ^ 32
few_count client dispatch [] few = omega arith
few_count zero dispatch (p ∷ planned) few = few_get p.counts dispatch few.0
few_count (suc client) dispatch (p ∷ planned) few = few_count client dispatch planned few.1
