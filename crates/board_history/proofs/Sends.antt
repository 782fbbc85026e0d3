-- The first sends of a board are the bodies of its order.
use Rattle.std.proofs.Common.{◌≡◌, ℕ, List, [], ◌∷◌, length, map, Some, None, cond, refl, arith, length-append}
use Rattle.std.specs.List.{count_by, flat_map}
use Rattle.std.proofs.lemmas.List.Sums.{sum_by-append, sum_by-cons}
use Rattle.lane_record.specs.declared.outcome.Outcome.{Outcome}
use Rattle.lane_record.specs.declared.outcome.Outcome.TheVariants.{Replied, TimedOut, Unsent, LinkLost}
use Rattle.script_plans.specs.declared.board_run.ClientPart.{ClientPart}
use Rattle.script_plans.specs.declared.board_run.BoardRun.{BoardRun}
use Rattle.lane_record.specs.Outcomes.{place_of, is_sent}
use Rattle.script_plans.specs.Runs.{outcomes_on}
use Rattle.board_history.specs.Order.{with_place, bodies_with_places, all_placed, order}
use Rattle.board_history.specs.History.{bodies_by_client, outcomes_by_client}
use Rattle.board_history.proofs.Sorting.{sorted_length}
use Rattle.board_history.proofs.Only.{one_by_one}

one_sent : (body : List ℕ) (o : Outcome) → cond (is_sent o) 1 0 ≡ length (with_place body (place_of o))
one_sent body (Replied place words) = refl
one_sent body (TimedOut place rounds) = refl
one_sent body Unsent = refl
one_sent body (LinkLost (Some place)) = refl
one_sent body (LinkLost None) = refl

client_sent : (bodies : List (List ℕ)) (outcomes : List Outcome) → length outcomes ≡ length bodies
    → count_by is_sent outcomes ≡ length (bodies_with_places bodies outcomes)
client_sent [] [] e = refl
client_sent [] (o ∷ os) e = absurd (omega arith)
client_sent (b ∷ bs) [] e = absurd (omega arith)
client_sent (b ∷ bs) (o ∷ os) e =
    let here = sum_by-cons (λ (x : Outcome). cond (is_sent x) 1 0) o os in
    let later = client_sent bs os (omega arith) in
    omega (arith, here, later, one_sent b o, length-append (with_place b (place_of o)) (bodies_with_places bs os))

parts_sent : (parts : List ClientPart)
    → map length (map (λ (p : ClientPart). p.outcomes) parts) ≡ map length
    (map (λ (p : ClientPart). p.planned.bodies) parts)
    → count_by is_sent (flat_map (λ (p : ClientPart). p.outcomes) parts)
    ≡ length (all_placed (map (λ (p : ClientPart). p.planned.bodies) parts)
    (map (λ (p : ClientPart). p.outcomes) parts))
parts_sent [] e = refl
parts_sent (part ∷ parts) e =
    let bodies = map (λ (p : ClientPart). p.planned.bodies) parts in
    let outcomes = map (λ (p : ClientPart). p.outcomes) parts in
    let lengths = one_by_one part.planned.bodies bodies part.outcomes outcomes e in
    let both = sum_by-append (λ (x : Outcome). cond (is_sent x) 1 0) part.outcomes
    (flat_map (λ (p : ClientPart). p.outcomes) parts) in
    omega (
      arith,
      both,
      client_sent part.planned.bodies part.outcomes lengths.first,
      parts_sent parts lengths.rest,
      length-append (bodies_with_places part.planned.bodies part.outcomes) (all_placed bodies outcomes),
    )

pub sends_are_the_order : (run : BoardRun) → map length (outcomes_by_client run) ≡ map length (bodies_by_client run)
    → count_by is_sent (outcomes_on run) ≡ length (order (bodies_by_client run) (outcomes_by_client run))
sends_are_the_order run e =
    let sorted = sorted_length (all_placed (bodies_by_client run) (outcomes_by_client run)) in
    omega (arith, sorted, parts_sent run.parts e)
