-- The order of a board is the Asks that were sent, in their order.
use Rattle.std.proofs.Common.{◌≡◌, ℕ, zero, suc, ◌+◌, ◌<◌, ◌≤◌, ◌==◌, List, [], ◌∷◌, ◌++◌, length}
use Rattle.std.proofs.Common.{map, Option, Some, None, refl, sym, ap, ◌∙◌, subst, arith, append_assoc}
use Rattle.std.specs.Prelude.{nat_le}
use Rattle.std.specs.List.{AllByRecursion}
use Rattle.std.proofs.lemmas.Bool.Decides.{nat_tests}
use Rattle.world_model.proofs.Lists.{either}
use Rattle.lane_record.specs.declared.outcome.Outcome.{Outcome}
use Rattle.lane_record.specs.declared.item.Item.{Item}
use Rattle.lane_record.specs.Outcomes.{place_of}
use Rattle.lane_record.specs.Lists.{CountsFrom}
use Rattle.lane_record.specs.Claims.{Claim, claims, taken_outcomes, IsFinished}
use Rattle.lane_record.specs.Legal.{IsLegal}
use Rattle.lane_record.specs.FirstSends as first
use Rattle.lane_record.specs.FirstSends.{Sent, sent_at, sent_of}
use Rattle.lane_record.proofs.Finished.{first_sends_count}
use Rattle.board_history.specs.Order.{Placed, with_place, bodies_with_places, all_placed, insert, by_place, order, places_of}
use Rattle.board_history.specs.Order.{bodies_in, RisesFrom}
use Rattle.board_history.specs.Parts.{HasOneOrder, KeepsScripts}
use Rattle.board_history.proofs.Sorting.{IsAbove, AreAbove, insert_low, counts_above, all_sorted, sorted_all}
use Rattle.board_history.proofs.Steps.{Step, steps_of, steps, body_in, outcome_in, of, AreStepsOf, AreOf}
use Rattle.board_history.proofs.Steps.{IsWithin, AreStepsOfAll}

-- those that have a place
abbrev pub sent : List Step → List Placed
sent [] = []
sent (s ∷ ss) = with_place s.body (place_of s.outcome) ++ sent ss

abbrev pub AreInOrder : List Step → Type 0
AreInOrder ss = CountsFrom 1 (places_of (sent ss))

-- ---- the record has them in order

one_place : (c : Claim) (o : Outcome) (place : Option ℕ) (ps : List Placed) (ss : List Sent)
    → places_of ps ≡ first.places_of ss
    → places_of (with_place c.body place ++ ps) ≡ first.places_of (sent_at c o place ++ ss)
one_place c o None ps ss e = e
one_place c o (Some place) ps ss e = ap (λ (ns : List ℕ). place ∷ ns) e

sent_places : (cs : List Claim) (os : List (Option Outcome))
    → places_of (sent (steps_of cs os)) ≡ first.places_of (sent_of cs os)
sent_places [] os = refl
sent_places (c ∷ cs) [] = refl
sent_places (c ∷ cs) (None ∷ os) = sent_places cs os
sent_places (c ∷ cs) (Some o ∷ os) =
    one_place c o (place_of o) (sent (steps_of cs os)) (sent_of cs os) (sent_places cs os)

one_body : (c : Claim) (o : Outcome) (place : Option ℕ) (ps : List Placed) (ss : List Sent)
    → bodies_in ps ≡ first.bodies_sent ss
    → bodies_in (with_place c.body place ++ ps) ≡ first.bodies_sent (sent_at c o place ++ ss)
one_body c o None ps ss e = e
one_body c o (Some place) ps ss e = ap (λ (bs : List (List ℕ)). c.body ∷ bs) e

pub sent_bodies : (cs : List Claim) (os : List (Option Outcome))
    → bodies_in (sent (steps_of cs os)) ≡ first.bodies_sent (sent_of cs os)
sent_bodies [] os = refl
sent_bodies (c ∷ cs) [] = refl
sent_bodies (c ∷ cs) (None ∷ os) = sent_bodies cs os
sent_bodies (c ∷ cs) (Some o ∷ os) =
    one_body c o (place_of o) (sent (steps_of cs os)) (sent_of cs os) (sent_bodies cs os)

pub in_order : (items : List Item) (became : List (Option Outcome)) → IsLegal items became → IsFinished items
    → AreInOrder (steps items)
in_order items became legal done =
    subst (CountsFrom 1) (sym (sent_places (claims items) (taken_outcomes items))) (first_sends_count items became legal done)

-- ---- the clients' parts

-- the lowest comes first
insert_high : (a x : Placed) (ys : List Placed) → x.place < a.place → insert a (x ∷ ys) ≡ x ∷ insert a ys
insert_high a x ys h = either (λ (r : List Placed). r ≡ x ∷ insert a ys) (nat_le a.place x.place) (a ∷ (x ∷ ys))
    (x ∷ insert a ys) (λ e. absurd (grind (arith, nat_tests))) (λ _. refl)

lowest_first : (x : Placed) (front back : List Placed) → AreAbove x.place (front ++ back)
    → by_place (front ++ x ∷ back) ≡ x ∷ by_place (front ++ back)
lowest_first x [] back all = insert_low x (by_place back) (all_sorted (IsAbove x.place) back all)
lowest_first x (a ∷ front) back all =
    ap (insert a) (lowest_first x front back all.1) ∙ insert_high a x (by_place (front ++ back)) all.0

-- those with a place of so many clients, client by client
abbrev pub collected : ℕ → ℕ → List Step → List Placed
collected client zero ss = []
collected client (suc many) ss = sent (of client ss) ++ collected (client + 1) many ss

of_other : (client : ℕ) (s : Step) (ss : List Step) → s.client < client → of client (s ∷ ss) ≡ of client ss
of_other client s ss h = either (λ (r : List Step). r ≡ of client ss) (s.client == client) (s ∷ of client ss)
    (of client ss) (λ e. absurd (grind (arith, nat_tests))) (λ _. refl)

pub collected_other : (client many : ℕ) (s : Step) (ss : List Step) → s.client < client
    → collected client many (s ∷ ss) ≡ collected client many ss
collected_other client zero s ss h = refl
collected_other client (suc many) s ss h =
    ap (λ (xs : List Step). sent xs ++ collected (client + 1) many (s ∷ ss)) (of_other client s ss h)
    ∙ ap (λ (ps : List Placed). sent (of client ss) ++ ps) (collected_other (client + 1) many s ss (omega (arith, h)))

-- a step stands in one client's part
pub record Stands (all here less : List Placed) : Type 0 where
  pub front : List Placed
  pub back : List Placed
  pub with_it : all ≡ front ++ (here ++ back)
  pub without : less ≡ front ++ back

abbrev pub own_place : Step → List Placed
own_place s = with_place s.body (place_of s.outcome)

one_stands : (client many : ℕ) (s : Step) (ss : List Step) → IsWithin client many s
    → Stands (collected client many (s ∷ ss)) (own_place s) (collected client many ss)
one_stands client zero s ss h = absurd (omega (arith, h.0, h.1))
one_stands client (suc many) s ss h = either
    (λ (r : List Step). Stands (sent r ++ collected (client + 1) many (s ∷ ss)) (own_place s)
    (sent (of client ss) ++ collected (client + 1) many ss)) (s.client == client) (s ∷ of client ss) (of client ss)
    (λ e. let below : s.client < client + 1 = grind (arith, nat_tests) in
    record {
      front = [];
      back = sent (of client ss) ++ collected (client + 1) many ss;
      with_it = append_assoc (own_place s) (sent (of client ss)) (collected (client + 1) many (s ∷ ss))
          ∙ ap (λ (ps : List Placed). own_place s ++ (sent (of client ss) ++ ps))
          (collected_other (client + 1) many s ss below);
      without = refl;
    })
    (λ e. let apart : client + 1 ≤ s.client = grind (arith, nat_tests, h.0) in
    let later = one_stands (client + 1) many s ss (apart, omega (arith, h.1)) in
    record {
      front = sent (of client ss) ++ later.front;
      back = later.back;
      with_it = ap (λ (ps : List Placed). sent (of client ss) ++ ps) later.with_it
          ∙ sym (append_assoc (sent (of client ss)) later.front (own_place s ++ later.back));
      without = ap (λ (ps : List Placed). sent (of client ss) ++ ps) later.without
          ∙ sym (append_assoc (sent (of client ss)) later.front later.back);
    })

pub none_collected : (client many : ℕ) → collected client many [] ≡ []
none_collected client zero = refl
none_collected client (suc many) = none_collected (client + 1) many

sorted_one : (k : ℕ) (here : Option ℕ) (body : List ℕ) (all less later : List Placed)
    → Stands all (with_place body here) less → CountsFrom k (places_of (with_place body here ++ later))
    → ((j : ℕ) → CountsFrom j (places_of later) → by_place less ≡ later)
    → by_place all ≡ with_place body here ++ later
sorted_one k None body all less later s c rest = ap by_place (s.with_it ∙ sym s.without) ∙ rest k c
sorted_one k (Some place) body all less later s c rest =
    let same = rest (k + 1) c.1 in
    let x : Placed = record { place = place; body = body } in
    let above = subst (AreAbove place) (sym same) (counts_above (k + 1) place later (omega (arith, c.0)) c.1) in
    let apart = subst (AreAbove place) s.without (sorted_all (IsAbove place) less above) in
    ap by_place s.with_it ∙ lowest_first x s.front s.back apart
    ∙ ap (λ (ps : List Placed). x ∷ ps) (ap by_place (sym s.without) ∙ same)

-- what the clients have, by place, is what was sent
sorted_sent : (k client many : ℕ) (ss : List Step) → AllByRecursion (IsWithin client many) ss
    → CountsFrom k (places_of (sent ss)) → by_place (collected client many ss) ≡ sent ss
sorted_sent k client many [] within c = ap by_place (none_collected client many)
sorted_sent k client many (s ∷ ss) within c =
    sorted_one k (place_of s.outcome) s.body (collected client many (s ∷ ss)) (collected client many ss) (sent ss)
    (one_stands client many s ss within.0) c (λ j d. sorted_sent j client many ss within.1 d)

-- ---- the order

placed_of_steps : (ss : List Step) → bodies_with_places (map body_in ss) (map outcome_in ss) ≡ sent ss
placed_of_steps [] = refl
placed_of_steps (s ∷ ss) = ap (λ (ps : List Placed). own_place s ++ ps) (placed_of_steps ss)

pub placed_of : (client : ℕ) (bs : List (List ℕ)) (os : List Outcome) (ss : List Step) → AreStepsOf client bs os ss
    → bodies_with_places bs os ≡ sent (of client ss)
placed_of client bs os ss are =
    ap (λ (xs : List (List ℕ)). bodies_with_places xs os) are.bodies' ∙ ap (bodies_with_places (map body_in (of client ss))) are.outcomes'
    ∙ placed_of_steps (of client ss)

pub all_collected : (client : ℕ) (bodies : List (List (List ℕ))) (outcomes : List (List Outcome)) (ss : List Step)
    → AreOf client bodies outcomes ss → all_placed bodies outcomes ≡ collected client (length bodies) ss
all_collected client [] [] ss are = refl
all_collected client [] (os ∷ others) ss are = absurd are
all_collected client (bs ∷ later) [] ss are = absurd are
all_collected client (bs ∷ later) (os ∷ others) ss are =
    ap (λ (ps : List Placed). ps ++ all_placed later others) (placed_of client bs os ss are.0)
    ∙ ap (λ (ps : List Placed). sent (of client ss) ++ ps) (all_collected (client + 1) later others ss are.1)

pub order_is : (bodies : List (List (List ℕ))) (outcomes : List (List Outcome)) (ss : List Step)
    → AreStepsOfAll bodies outcomes ss → AreInOrder ss → order bodies outcomes ≡ sent ss
order_is bodies outcomes ss are counts =
    ap by_place (all_collected 1 bodies outcomes ss are.clients)
    ∙ sorted_sent 1 1 (length bodies) ss are.nobody_else counts

pub one_order : (bodies : List (List (List ℕ))) (outcomes : List (List Outcome)) (ss : List Step)
    → AreStepsOfAll bodies outcomes ss → AreInOrder ss → HasOneOrder bodies outcomes
one_order bodies outcomes ss are counts = subst (λ (ps : List Placed). CountsFrom 1 (places_of ps))
    (sym (order_is bodies outcomes ss are counts)) counts

-- ---- each client's places rise

rises_lower : (j k : ℕ) (ps : List ℕ) → j ≤ k → RisesFrom k ps → RisesFrom j ps
rises_lower j k [] h r = tt
rises_lower j k (p ∷ ps) h r = (omega (arith, r.0), r.1)

abbrev pub Rise : ℕ → List Placed → Type 0
Rise k ps = RisesFrom k (places_of ps)

rising_with : (k : ℕ) (here : Option ℕ) (body : List ℕ) (mine later : List Placed)
    → CountsFrom k (places_of (with_place body here ++ later))
    → ((j : ℕ) → CountsFrom j (places_of later) → Rise j mine) → Rise k (with_place body here ++ mine)
rising_with k None body mine later c rest = rest k c
rising_with k (Some place) body mine later c rest = (
  omega (arith, c.0),
  subst (λ (j : ℕ). RisesFrom (j + 1) (places_of mine)) (sym c.0) (rest (k + 1) c.1),
)

rising_without : (k : ℕ) (here : Option ℕ) (body : List ℕ) (mine later : List Placed)
    → CountsFrom k (places_of (with_place body here ++ later))
    → ((j : ℕ) → CountsFrom j (places_of later) → Rise j mine) → Rise k mine
rising_without k None body mine later c rest = rest k c
rising_without k (Some place) body mine later c rest =
    rises_lower k (k + 1) (places_of mine) (omega arith) (rest (k + 1) c.1)

rises_of : (client k : ℕ) (ss : List Step) → CountsFrom k (places_of (sent ss)) → Rise k (sent (of client ss))
rises_of client k [] c = tt
rises_of client k (s ∷ ss) c = either (λ (r : List Step). Rise k (sent r)) (s.client == client) (s ∷ of client ss)
    (of client ss)
    (λ _. rising_with k (place_of s.outcome) s.body (sent (of client ss)) (sent ss) c (λ j d. rises_of client j ss d))
    (λ _. rising_without k (place_of s.outcome) s.body (sent (of client ss)) (sent ss) c
    (λ j d. rises_of client j ss d))

keeps_from : (client : ℕ) (bodies : List (List (List ℕ))) (outcomes : List (List Outcome)) (ss : List Step)
    → AreOf client bodies outcomes ss → AreInOrder ss → KeepsScripts bodies outcomes
keeps_from client [] [] ss are c = tt
keeps_from client [] (os ∷ others) ss are c = tt
keeps_from client (bs ∷ later) [] ss are c = tt
keeps_from client (bs ∷ later) (os ∷ others) ss are c = (
  subst (Rise 1) (sym (placed_of client bs os ss are.0)) (rises_of client 1 ss c),
  keeps_from (client + 1) later others ss are.1 c,
)

pub keeps_scripts : (bodies : List (List (List ℕ))) (outcomes : List (List Outcome)) (ss : List Step)
    → AreStepsOfAll bodies outcomes ss → AreInOrder ss → KeepsScripts bodies outcomes
keeps_scripts bodies outcomes ss are c = keeps_from 1 bodies outcomes ss are.clients c
