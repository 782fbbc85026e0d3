-- The parts of clients whose outcomes stand dispatch by dispatch.
use Rattle.std.proofs.Common.{◌≡◌, ℕ, ◌+◌, ◌∙◌, List, [], ◌∷◌, ◌++◌, length, map, sum, fold, drop, refl, sym, ap, subst}
use Rattle.std.proofs.Common.{arith, length-append}
use Rattle.std.specs.List.{AllByRecursion}
use Rattle.std.proofs.lemmas.List.{drop_at, take_at}
use Rattle.std.proofs.lemmas.List.Sums.{fold-append}
use Rattle.mtu_packer.specs.Packed.{Contents, deal}
use Rattle.lane_record.specs.declared.outcome.Outcome.{Outcome}
use Rattle.lane_record.specs.Dispatches.{outcomes_in_order}
use Rattle.board_history.specs.History.{dispatches_of}
use Rattle.board_history.specs.Runs.{parts_with}
use Rattle.script_plans.specs.declared.board_run.ClientPart.{ClientPart}
use Rattle.script_steps.specs.declared.operation.Step.{Step}
use Rattle.script_plans.specs.declared.greeting.Greeting.{Greeting}
use Rattle.script_plans.specs.declared.greeting.Greeting.TheVariants.{Live, Silent, Down}
use Rattle.script_plans.specs.Plan.{ClientBodies, no_bodies, plan, planned_on, plans_on, with_dispatch}
use Rattle.session_run.specs.Plans.{counts_by_client}
use Rattle.session_run.specs.Clients.{HasItsCounts, IsWholePart, bodies_of_plans}

abbrev pub plan_in_part : ClientPart → ClientBodies
plan_in_part part = part.planned

deal_joined : (counts : List ℕ) (ds : List (List Outcome)) → map (λ (d : List Outcome). length d) ds ≡ counts
    → deal counts (outcomes_in_order ds) ≡ ds
deal_joined counts [] is = ap (λ (c : List ℕ). deal c []) (sym is)
deal_joined counts (d ∷ ds) is = subst (λ (c : List ℕ). deal c (outcomes_in_order (d ∷ ds)) ≡ d ∷ ds) is
    (ap (λ (l : List Outcome). l ∷ deal (map (λ (e : List Outcome). length e) ds) (drop (length d) (d ++ outcomes_in_order ds)))
    (take_at d (outcomes_in_order ds) (length d) refl)
    ∙ (ap (λ (l : List Outcome). d ∷ deal (map (λ (e : List Outcome). length e) ds) l)
    (drop_at d (outcomes_in_order ds) (length d) refl)
    ∙ ap (λ (l : List (List Outcome)). d ∷ l) (deal_joined (map (λ (e : List Outcome). length e) ds) ds refl)))

sums : (a n : ℕ) (ns : List ℕ) → fold (λ s x. s + x) (a + n) ns ≡ n + fold (λ s x. s + x) a ns
sums a n [] = omega arith
sums a n (x ∷ ns) = ap (λ s. fold (λ t y. t + y) s ns) (omega arith) ∙ sums (a + x) n ns

pub sum_first : (n : ℕ) (ns : List ℕ) → sum (n ∷ ns) ≡ n + sum ns
sum_first n ns = sums 0 n ns

length_joined : (ds : List (List Outcome)) → length (outcomes_in_order ds) ≡ sum (map (λ (d : List Outcome). length d) ds)
length_joined [] = refl
length_joined (d ∷ ds) =
    let rest = length_joined ds in
    let first = sum_first (length d) (map (λ (e : List Outcome). length e) ds) in
    length-append d (outcomes_in_order ds) ∙ omega (arith, rest, first)

abbrev pub cuts_of : List (List (List Outcome)) → List (List ℕ)
cuts_of dispatches = map (λ (d : List (List Outcome)). map (λ (os : List Outcome). length os) d) dispatches

-- parts whose outcomes are those of these dispatches
pub record AreParts (planned : List ClientBodies) (dispatches : List (List (List Outcome))) (parts : List ClientPart)
    : Type 0 where
  pub plans : map plan_in_part parts ≡ planned
  pub whole : AllByRecursion IsWholePart parts
  pub cut : map dispatches_of parts ≡ dispatches
  pub bodies : map (λ (p : ClientPart). p.planned.bodies) parts ≡ bodies_of_plans planned

pub parts_of_dispatches : (planned : List ClientBodies) (dispatches : List (List (List Outcome)))
    → AllByRecursion HasItsCounts planned → cuts_of dispatches ≡ counts_by_client planned
    → AreParts planned dispatches (parts_with planned (map outcomes_in_order dispatches) [])
parts_of_dispatches [] [] counts cut = record { plans = refl; whole = tt; cut = refl; bodies = refl }
parts_of_dispatches [] (d ∷ ds) counts cut = absurd cc
parts_of_dispatches (p ∷ planned) [] counts cut = absurd cc
parts_of_dispatches (p ∷ planned) (d ∷ ds) counts cut =
    let head : map (λ (os : List Outcome). length os) d ≡ p.counts = cc in
    let tail : cuts_of ds ≡ counts_by_client planned = cc in
    let later = parts_of_dispatches planned ds counts.1 tail in
    let dealt = deal_joined p.counts d head in
    let parts = parts_with planned (map outcomes_in_order ds) [] in
    record {
      plans = ap (λ (ps : List ClientBodies). p ∷ ps) later.plans;
      whole = (
        record { each = length_joined d ∙ (ap sum head ∙ counts.0); cut = ap outcomes_in_order dealt },
        later.whole,
      );
      cut = ap (λ (l : List (List Outcome)). l ∷ map dispatches_of parts) dealt
          ∙ ap (λ (l : List (List (List Outcome))). d ∷ l) later.cut;
      bodies = ap (λ (l : List (List (List ℕ))). p.bodies ∷ l) later.bodies;
    }

-- ---- the plans

sum_more : (ns : List ℕ) (n : ℕ) → sum (ns ++ n ∷ []) ≡ sum ns + n
sum_more ns n = fold-append (λ a x. a + x) 0 ns (n ∷ [])

dispatch_counts : (all : ClientBodies) (ds : List Contents) → HasItsCounts all
    → HasItsCounts (fold with_dispatch all ds)
dispatch_counts all [] is = is
dispatch_counts all (d ∷ ds) is = dispatch_counts (with_dispatch all d) ds
    (sum_more all.counts (length d.bodies) ∙ (ap (λ n. n + length d.bodies) is
    ∙ sym (length-append all.bodies d.bodies)))

one_counts : (board : ℕ) (told : Greeting) (steps : List Step) → HasItsCounts (planned_on board told steps)
one_counts board (Live payload) steps = dispatch_counts no_bodies (plan payload board steps) refl
one_counts board Silent steps = refl
one_counts board Down steps = refl

pub each_counts : (board : ℕ) (told : Greeting) (scripts : List (List Step))
    → AllByRecursion HasItsCounts (plans_on board told scripts)
each_counts board told [] = tt
each_counts board told (s ∷ scripts) = (one_counts board told s, each_counts board told scripts)
