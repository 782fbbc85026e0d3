-- A lane that came with the Plans of all clients and the Seal holds the bodies of each.
use Rattle.std.proofs.Common.{◌≡◌, ℕ, ◌+◌, ◌≤◌, false, ◌==◌, List, [], ◌∷◌, ◌++◌, length, map, sum}
use Rattle.std.proofs.Common.{refl, sym, ap, subst, ◌∙◌, arith, append_assoc, append-nil}
use Rattle.std.specs.List.{AllByRecursion}
use Rattle.std.proofs.lemmas.Bool.Decides.{nat_tests}
use Rattle.world_model.proofs.Lists.{either}
use Rattle.lane_record.specs.declared.item.Item.{Item}
use Rattle.lane_record.specs.Coding.{Head, as_recorded}
use Rattle.lane_record.specs.Dispatches.{all_plans_from, entries_by, plans_from}
use Rattle.lane_record.specs.NextEntry.{the_seal}
use Rattle.client_threads.specs.declared.plan.ClientPlan.{ClientPlan}
use Rattle.client_threads.specs.Clients.{AreOfClientsFrom, HoldsPlans, counts_on}
use Rattle.board_history.proofs.Opening.{no_plans, own_opening}
use Rattle.board_history.proofs.Own.{by_append}
use Rattle.client_history.specs.Clients.{AskAll, came_with, sealed_plans}
use Rattle.client_history.proofs.Handed.{made_recorded}

no_seal : (client : ℕ) → 1 ≤ client → entries_by client (the_seal ∷ []) ≡ []
no_seal client low = either (λ (r : List Item). r ≡ []) (0 == client) (the_seal ∷ []) []
    (λ e. absurd (grind (arith, nat_tests))) (λ _. refl)

-- no client from a number on has an entry there
abbrev HasNoneFrom : ℕ → List Item → Type 0
HasNoneFrom client front = (other : ℕ) → client ≤ other → entries_by other front ≡ []

own_plans_in : (client : ℕ) (front : List Item) (bodies : List (List ℕ)) (later : List (List (List ℕ))) → 1 ≤ client
    → HasNoneFrom client front
    → entries_by client (front ++ (all_plans_from client (bodies ∷ later) ++ the_seal ∷ []))
    ≡ plans_from client 0 bodies
own_plans_in client front bodies later low none =
    let all = all_plans_from client (bodies ∷ later) in
    by_append client front (all ++ the_seal ∷ [])
    ∙ ap (λ (l : List Item). l ++ entries_by client (all ++ the_seal ∷ [])) (none client (omega arith))
    ∙ by_append client all (the_seal ∷ [])
    ∙ ap (λ (l : List Item). l ++ entries_by client (the_seal ∷ [])) (own_opening client bodies later low)
    ∙ ap (λ (l : List Item). plans_from client 0 bodies ++ l) (no_seal client low)
    ∙ append-nil (plans_from client 0 bodies)

none_next : (client : ℕ) (front : List Item) (bodies : List (List ℕ)) → HasNoneFrom client front
    → HasNoneFrom (client + 1) (front ++ plans_from client 0 bodies)
none_next client front bodies none other h =
    let apart : (client == other) ≡ false = grind (arith, nat_tests) in
    by_append other front (plans_from client 0 bodies)
    ∙ ap (λ (l : List Item). l ++ entries_by other (plans_from client 0 bodies)) (none other (omega (arith, h)))
    ∙ no_plans other client 0 bodies apart

abbrev Holds : ℕ → Head → List Item → ClientPlan → Type 0
Holds lane head items plan = HoldsPlans plan.client (sum (counts_on lane plan)) (came_with head items)

each_holds : (lane client : ℕ) (plans : List ClientPlan) (bodies : List (List (List ℕ))) (head : Head)
    (front items : List Item) → 1 ≤ client → HasNoneFrom client front
    → items ≡ front ++ (all_plans_from client bodies ++ the_seal ∷ []) → AreOfClientsFrom client plans
    → AskAll lane plans bodies → AllByRecursion (Holds lane head items) plans
each_holds lane client [] bodies head front items low none is are ask = tt
each_holds lane client (p ∷ ps) [] head front items low none is are ask = absurd cc
each_holds lane client (p ∷ ps) (bs ∷ later) head front items low none is are ask =
    let many : sum (counts_on lane p) ≡ length bs = cc in
    let rest : AskAll lane ps later = cc in
    let plans = plans_from client 0 bs in
    let own : entries_by client items ≡ plans =
    ap (entries_by client) is ∙ own_plans_in client front bs later low none in
    let next : items ≡ (front ++ plans) ++ (all_plans_from (client + 1) later ++ the_seal ∷ []) =
    is ∙ (ap (λ (l : List Item). front ++ l) (append_assoc plans (all_plans_from (client + 1) later) (the_seal ∷ []))
    ∙ sym (append_assoc front plans (all_plans_from (client + 1) later ++ the_seal ∷ []))) in
    let here : HoldsPlans client (sum (counts_on lane p)) (came_with head items) =
    record { bodies = bs; enough = omega (arith, many); entries = made_recorded client items ∙ ap (map as_recorded) own } in (
      subst (λ (n : ℕ). HoldsPlans n (sum (counts_on lane p)) (came_with head items)) (sym are.0) here,
      each_holds lane (client + 1) ps later head (front ++ plans) items (omega arith) (none_next client front bs none)
          next are.1 rest,
    )

pub await_clients : (lane : ℕ) (plans : List ClientPlan) (bodies : List (List (List ℕ))) (head : Head)
    → AreOfClientsFrom 1 plans → AskAll lane plans bodies
    → AllByRecursion (Holds lane head (sealed_plans bodies)) plans
await_clients lane plans bodies head are ask =
    each_holds lane 1 plans bodies head [] (sealed_plans bodies) (omega arith) (λ other h. refl) refl are ask
