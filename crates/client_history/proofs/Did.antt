-- What clients left on a lane, each of whom did its plan.
use Rattle.std.proofs.Common.{◌≡◌, ℕ, ◌+◌, ◌<◌, ◌≤◌, List, [], ◌∷◌, length, map, sum, Option, Some}
use Rattle.std.proofs.Common.{refl, sym, ap, subst, ◌∙◌, arith, append_assoc}
use Rattle.std.specs.List.{AllByRecursion, Contains, slice_get}
use Rattle.std.proofs.lemmas.List.{length-map}
use Rattle.std.proofs.lemmas.List.Concat.{length-flat_map}
use Rattle.std.proofs.lemmas.List.Sums.{sum-map}
use Rattle.ipb_base.proofs.AllLemmas.{all-map}
use Rattle.turn_pass.specs.Record.{Record, made_by}
use Rattle.turn_pass.specs.Pass.{Joined, Knowledge}
use Rattle.lane_record.specs.declared.outcome.Outcome.{Outcome}
use Rattle.lane_record.specs.declared.item.Item.{Item}
use Rattle.lane_record.specs.Coding.{Head, record_of, as_recorded}
use Rattle.lane_record.specs.Dispatches.{all_plans_from, entries_by, outcomes_in_order, numbered_action}
use Rattle.lane_record.specs.NextEntry.{the_seal}
use Rattle.hub_multiplexer.specs.Ends.{Ends}
use Rattle.client_threads.specs.declared.plan.ClientPlan.{ClientPlan}
use Rattle.client_threads.specs.declared.result.ClientResult.{ClientResult}
use Rattle.client_threads.specs.Clients.{AreOfClientsFrom, DidPlans, HaveRunOn, counts_on}
use Rattle.board_history.specs.Records.{DidDispatches, IsOfClient}
use Rattle.client_history.specs.Clients.{AskAll, LeftByClients, came_with, sealed_plans}
use Rattle.client_history.proofs.Handed.{StandsIn, handed, made_recorded, numbers_of, of_contained, one_list}

abbrev pub clients_of : List ClientPlan → List ℕ
clients_of plans = map (λ (p : ClientPlan). p.client) plans

-- ---- what each client did

abbrev lengths_of : List (List (List Outcome)) → List (List ℕ)
lengths_of dispatches = map (λ (d : List (List Outcome)). map (λ (os : List Outcome). length os) d) dispatches

abbrev shown_by : ℕ → List ClientResult → List (Option (List Outcome))
shown_by lane results = map (λ (r : ClientResult). slice_get r.lanes lane) results

-- what the clients from a number on did, by the entries behind those that the lane came with
pub record Did (lane client : ℕ) (plans : List ClientPlan) (results : List ClientResult) (passes : List Joined)
    (more : List Item) : Type 0 where
  pub dispatches : List (List (List Outcome))
  pub did : DidDispatches client dispatches more
  pub cut : lengths_of dispatches ≡ map (counts_on lane) plans
  pub outcomes : shown_by lane results ≡ map (λ (d : List (List Outcome)). Some (outcomes_in_order d)) dispatches
  pub numbers : numbers_of passes ≡ clients_of plans

did_all : (lane client : ℕ) (plans : List ClientPlan) (results : List ClientResult) (passes : List Joined)
    (more : List Item) → AreOfClientsFrom client plans → DidPlans lane plans results passes
    → AllByRecursion (StandsIn more) passes → Did lane client plans results passes more
did_all lane client [] [] [] more are did stand =
    record { dispatches = []; did = tt; cut = refl; outcomes = refl; numbers = refl }
did_all lane client [] [] (j ∷ js) more are did stand = absurd did
did_all lane client [] (r ∷ rs) js more are did stand = absurd did
did_all lane client (p ∷ ps) [] js more are did stand = absurd did
did_all lane client (p ∷ ps) (r ∷ rs) [] more are did stand = absurd did
did_all lane client (p ∷ ps) (r ∷ rs) (j ∷ js) more are did stand =
    let one = did.0 in
    let later = did_all lane (client + 1) ps rs js more are.1 did.1 stand.1 in
    let own : entries_by client more ≡ one.items =
    one_list (entries_by client more) one.items
    (sym (made_recorded client more)
    ∙ (ap (λ (n : ℕ). made_by n (map as_recorded more)) (sym (one.number ∙ are.0)) ∙ (sym stand.0 ∙ one.coded))) in
    record {
      dispatches = one.dispatches ∷ later.dispatches;
      did = (ap (map numbered_action) own ∙ one.actions, later.did);
      cut = λ i. one.cut i ∷ later.cut i;
      outcomes = λ i. one.outcomes i ∷ later.outcomes i;
      numbers = λ i. one.number i ∷ later.numbers i;
    }

-- ---- the shape

joined_length : (d : List (List Outcome)) → length (outcomes_in_order d) ≡ sum (map (λ (os : List Outcome). length os) d)
joined_length d =
    length-flat_map (λ (os : List Outcome). os) d ∙ sym (sum-map (λ (os : List Outcome). length os) d)

shape_of : (dispatches : List (List (List Outcome))) (lane : ℕ) (plans : List ClientPlan)
    → lengths_of dispatches ≡ map (counts_on lane) plans
    → map (λ (d : List (List Outcome)). length (outcomes_in_order d)) dispatches
    ≡ map (λ (plan : ClientPlan). sum (counts_on lane plan)) plans
shape_of [] lane [] e = refl
shape_of [] lane (p ∷ ps) e = absurd cc
shape_of (d ∷ ds) lane [] e = absurd cc
shape_of (d ∷ ds) lane (p ∷ ps) e =
    let first : map (λ (os : List Outcome). length os) d ≡ counts_on lane p = cc in
    let later : lengths_of ds ≡ map (counts_on lane) ps = cc in
    ap (λ (n : ℕ). n ∷ map (λ (d : List (List Outcome)). length (outcomes_in_order d)) ds) (joined_length d ∙ ap sum first)
    ∙ ap (λ (ns : List ℕ). sum (counts_on lane p) ∷ ns) (shape_of ds lane ps later)

-- ---- nobody else

pub record IsFrom (client many n : ℕ) : Type 0 where
  pub low : client ≤ n
  pub high : n < client + many

clients_within : (least client many : ℕ) (plans : List ClientPlan) → least ≤ client
    → client + length plans ≤ least + many → AreOfClientsFrom client plans
    → AllByRecursion (IsFrom least many) (clients_of plans)
clients_within least client many [] low high are = tt
clients_within least client many (p ∷ ps) low high are = (
  subst (IsFrom least many) (sym are.0) (record { low = low; high = omega (arith, high) }),
  clients_within least (client + 1) many ps (omega (arith, low)) (omega (arith, high)) are.1,
)

pub one_of_clients : (plans : List ClientPlan) (n : ℕ) → AreOfClientsFrom 1 plans → Contains (clients_of plans) n
    → IsFrom 1 (length plans) n
one_of_clients plans n are there = of_contained (IsFrom 1 (length plans)) (clients_of plans) n
    (clients_within 1 1 (length plans) plans (omega arith) (omega arith) are) there

ask_many : (lane : ℕ) (plans : List ClientPlan) (bodies : List (List (List ℕ))) → AskAll lane plans bodies
    → length plans ≡ length bodies
ask_many lane plans bodies ask =
    sym (length-map plans (λ (plan : ClientPlan). sum (counts_on lane plan)))
    ∙ (ap (λ (l : List ℕ). length l) ask ∙ length-map bodies (λ (bs : List (List ℕ)). length bs))

-- ---- the record of the clients

pub left_by_clients : (lane : ℕ) (plans : List ClientPlan) (results : List ClientResult)
    (bodies : List (List (List ℕ))) (head head_now : Head) (items : List Item) (after : Knowledge) (final : Record)
    → AreOfClientsFrom 1 plans → AskAll lane plans bodies
    → HaveRunOn plans results lane (came_with head (sealed_plans bodies)) after → Ends after final
    → final ≡ record_of head_now items → LeftByClients lane plans results bodies items
left_by_clients lane plans results bodies head head_now items after final are ask ran ends is =
    let back = handed head head_now (sealed_plans bodies) items ran.passes after final ran.took_in ends is in
    let more = back.0 in
    let h = back.1 in
    let did = did_all lane 1 plans results ran.passes more are ran.each h.stand in
    let many = ask_many lane plans bodies ask in
    record {
      dispatches = did.dispatches;
      cut = did.cut;
      outcomes = did.outcomes;
      left = record {
        shape = shape_of did.dispatches lane plans did.cut ∙ ask;
        past = more;
        opens = h.grown ∙ append_assoc (all_plans_from 1 bodies) (the_seal ∷ []) more;
        each = did.did;
        nobody_else = all-map (λ (x : Item). Contains (numbers_of ran.passes) x.client)
            (IsOfClient (length bodies)) more
            (λ x there. let from = one_of_clients plans x.client are
            (subst (λ (ns : List ℕ). Contains ns x.client) did.numbers there) in
            (from.low, omega (arith, from.high, many))) h.by_passes;
      };
    }
