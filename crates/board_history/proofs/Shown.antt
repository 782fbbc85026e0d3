-- What a run shows of a board.
use Rattle.std.proofs.Common.{◌≡◌, ℕ, ◌+◌, List, [], ◌∷◌, Option, length, map, refl, sym, ap, ◌∙◌, subst}
use Rattle.std.specs.List.{AllByRecursion}
use Rattle.board_bus.specs.Cells.{CellMap}
use Rattle.board_bus.specs.Bodies.{replay}
use Rattle.board_specs.specs.declared.spec.BoardSpec.{BoardSpec}
use Rattle.script_steps.specs.declared.operation.Step.{Step}
use Rattle.lane_record.specs.declared.outcome.Outcome.{Outcome}
use Rattle.script_plans.specs.declared.greeting.Greeting.{Greeting}
use Rattle.script_plans.specs.declared.board_run.ClientPart.{ClientPart}
use Rattle.script_plans.specs.declared.board_run.BoardRun.{BoardRun}
use Rattle.script_plans.specs.Plan.{ClientBodies}
use Rattle.board_history.specs.Parts.{AllReplied, AreBeside}
use Rattle.board_history.specs.InTurn.{outcomes_from, in_turn, AreInTurn}
use Rattle.board_history.specs.History.{IsHistory, bodies_by_client, lates_by_client, outcomes_by_client}
use Rattle.board_history.specs.Runs.{parts_with, parts_in_turn, plans_on, greeting_of, opens_with, board_run, runs_from}
use Rattle.board_history.specs.Runs.{IsRun, AreRuns}

abbrev pub bodies_in : List ClientBodies → List (List (List ℕ))
bodies_in plans = map (λ (p : ClientBodies). p.bodies) plans

-- ---- clients in turn

pub plans_shown : (place : ℕ) (cells : CellMap) (plans : List ClientBodies)
    → map (λ (p : ClientPart). p.planned) (parts_in_turn place cells plans) ≡ plans
plans_shown place cells [] = refl
plans_shown place cells (plan ∷ plans) =
    ap (λ (ps : List ClientBodies). plan ∷ ps)
    (plans_shown (place + length plan.bodies) (replay cells plan.bodies).cells plans)

pub bodies_shown : (place : ℕ) (cells : CellMap) (plans : List ClientBodies)
    → map (λ (p : ClientPart). p.planned.bodies) (parts_in_turn place cells plans) ≡ bodies_in plans
bodies_shown place cells [] = refl
bodies_shown place cells (plan ∷ plans) =
    ap (λ (bs : List (List (List ℕ))). plan.bodies ∷ bs)
    (bodies_shown (place + length plan.bodies) (replay cells plan.bodies).cells plans)

pub outcomes_shown : (place : ℕ) (cells : CellMap) (plans : List ClientBodies)
    → map (λ (p : ClientPart). p.outcomes) (parts_in_turn place cells plans) ≡ in_turn place cells (bodies_in plans)
outcomes_shown place cells [] = refl
outcomes_shown place cells (plan ∷ plans) =
    ap (λ (os : List (List Outcome)). outcomes_from place cells plan.bodies ∷ os)
    (outcomes_shown (place + length plan.bodies) (replay cells plan.bodies).cells plans)

-- what holds of clients in turn holds of the parts that show them
shown : (P : List (List (List ℕ)) → List (List Outcome) → Type 0) (cells : CellMap) (plans : List ClientBodies)
    → P (bodies_in plans) (in_turn 1 cells (bodies_in plans))
    → P (map (λ (p : ClientPart). p.planned.bodies) (parts_in_turn 1 cells plans))
    (map (λ (p : ClientPart). p.outcomes) (parts_in_turn 1 cells plans))
shown P cells plans holds =
    subst (λ (bs : List (List (List ℕ))). P bs (map (λ (p : ClientPart). p.outcomes) (parts_in_turn 1 cells plans)))
    (sym (bodies_shown 1 cells plans))
    (subst (λ (os : List (List Outcome)). P (bodies_in plans) os) (sym (outcomes_shown 1 cells plans)) holds)

-- nothing comes late
pub in_time : (place : ℕ) (cells : CellMap) (plans : List ClientBodies)
    → AllByRecursion (λ (p : ClientPart). p.lates ≡ []) (parts_in_turn place cells plans)
in_time place cells [] = tt
in_time place cells (plan ∷ plans) =
    (refl, in_time (place + length plan.bodies) (replay cells plan.bodies).cells plans)

nothing_late : (R : Outcome → Option (List ℕ) → Type 0) (parts : List ClientPart)
    → AllByRecursion (λ (p : ClientPart). p.lates ≡ []) parts
    → AreBeside (AreBeside R) (map (λ (p : ClientPart). p.outcomes) parts) (map (λ (p : ClientPart). p.lates) parts)
nothing_late R [] none = tt
nothing_late R (part ∷ parts) none =
    (subst (AreBeside R part.outcomes) (sym none.0) tt, nothing_late R parts none.1)

module _ (history : (opening : CellMap) (bodies : List (List (List ℕ)))
    → IsHistory opening bodies (in_turn 1 opening bodies) [])
    (replied : (opening : CellMap) (bodies : List (List (List ℕ))) → AllReplied (in_turn 1 opening bodies))
    (turn : (opening : CellMap) (bodies : List (List (List ℕ))) → AreInTurn bodies (in_turn 1 opening bodies)) where
  pub is_run : (spec : BoardSpec) (board : ℕ) (scripts : List (List Step))
      → IsRun spec board scripts (board_run spec board scripts)
  is_run spec board scripts =
      let cells = opens_with spec.link in
      let plans = plans_on board (greeting_of spec.link) scripts in
      let is = shown (λ bs os. IsHistory cells bs os []) cells plans (history cells (bodies_in plans)) in
      let parts = parts_in_turn 1 cells plans in
      record {
        name = refl;
        greeting = refl;
        plans = plans_shown 1 cells plans;
        history = record {
          shape = is.shape;
          one_order = is.one_order;
          script_order = is.script_order;
          replies = is.replies;
          late = nothing_late _ parts (in_time 1 cells plans);
        };
        in_time = in_time 1 cells plans;
        replied = shown (λ _ os. AllReplied os) cells plans (replied cells (bodies_in plans));
        in_turn = shown AreInTurn cells plans (turn cells (bodies_in plans));
      }

  pub are_runs : (board : ℕ) (specs : List BoardSpec) (scripts : List (List Step))
      → AreRuns board specs scripts (runs_from board specs scripts)
  are_runs board [] scripts = tt
  are_runs board (spec ∷ specs) scripts = (is_run spec board scripts, are_runs (board + 1) specs scripts)

-- ---- no other run

parts_again : (parts : List ClientPart) → AllByRecursion (λ (p : ClientPart). p.lates ≡ []) parts
    → parts ≡ parts_with (map (λ (p : ClientPart). p.planned) parts) (map (λ (p : ClientPart). p.outcomes) parts) []
parts_again [] none = refl
parts_again (part ∷ parts) none =
    ap (λ (ps : List ClientPart). part ∷ ps) (parts_again parts none.1)
    ∙ ap (λ (lates : List (Option (List ℕ))). record {
      planned = part.planned;
      outcomes = part.outcomes;
      lates = lates;
    } ∷ parts_with (map (λ (p : ClientPart). p.planned) parts) (map (λ (p : ClientPart). p.outcomes) parts) []) none.0

same_bodies : (parts : List ClientPart)
    → map (λ (p : ClientPart). p.planned.bodies) parts ≡ bodies_in (map (λ (p : ClientPart). p.planned) parts)
same_bodies [] = refl
same_bodies (part ∷ parts) = ap (λ (bs : List (List (List ℕ))). part.planned.bodies ∷ bs) (same_bodies parts)

module _ (only : (opening : CellMap) (bodies : List (List (List ℕ))) (outcomes : List (List Outcome))
    (lates : List (List (Option (List ℕ)))) → IsHistory opening bodies outcomes lates
    → AllReplied outcomes → AreInTurn bodies outcomes → outcomes ≡ in_turn 1 opening bodies) where
  pub turn_of : (spec : BoardSpec) (board : ℕ) (scripts : List (List Step)) (run : BoardRun)
      → IsRun spec board scripts run
      → outcomes_by_client run ≡ in_turn 1 (opens_with spec.link) (bodies_by_client run)
  turn_of spec board scripts run is =
      only (opens_with spec.link) (bodies_by_client run) (outcomes_by_client run) (lates_by_client run) is.history
      is.replied is.in_turn

  pub only_run : (spec : BoardSpec) (board : ℕ) (scripts : List (List Step)) (run : BoardRun)
      → IsRun spec board scripts run
      → run ≡ board_run spec board scripts
  only_run spec board scripts run is =
      let cells = opens_with spec.link in
      let plans : map (λ (p : ClientPart). p.planned) run.parts ≡ plans_on board (greeting_of spec.link) scripts =
      is.plans ∙ ap (λ (told : Greeting). plans_on board told scripts) is.greeting in
      let bodies : bodies_by_client run ≡ bodies_in
      (plans_on board (greeting_of spec.link) scripts) = same_bodies run.parts ∙ ap bodies_in plans in
      let outcomes : outcomes_by_client run ≡ in_turn 1 cells
      (bodies_in (plans_on board (greeting_of spec.link) scripts)) =
      turn_of spec board scripts run is ∙ ap (in_turn 1 cells) bodies in
      let parts : run.parts ≡ parts_in_turn 1 cells (plans_on board (greeting_of spec.link) scripts) =
      parts_again run.parts is.in_time
      ∙ ap (λ (ps : List ClientBodies). parts_with ps (outcomes_by_client run) []) plans
      ∙ ap (λ (os : List (List Outcome)). parts_with (plans_on board (greeting_of spec.link) scripts) os []) outcomes in
      ap (λ (name : List ℕ). record { name = name; greeting = run.greeting; parts = run.parts }) is.name
      ∙ ap (λ (told : Greeting). record { name = spec.name; greeting = told; parts = run.parts }) is.greeting
      ∙ ap (λ (ps : List ClientPart). record { name = spec.name; greeting = greeting_of spec.link; parts = ps }) parts

  pub only_runs : (board : ℕ) (specs : List BoardSpec) (scripts : List (List Step)) (runs : List BoardRun)
      → AreRuns board specs scripts runs
      → runs ≡ runs_from board specs scripts
  only_runs board [] scripts [] is = refl
  only_runs board [] scripts (run ∷ runs) is = absurd is
  only_runs board (spec ∷ specs) scripts [] is = absurd is
  only_runs board (spec ∷ specs) scripts (run ∷ runs) is =
      ap (λ (r : BoardRun). r ∷ runs) (only_run spec board scripts run is.0)
      ∙ ap (λ (rs : List BoardRun). board_run spec board scripts ∷ rs) (only_runs (board + 1) specs scripts runs is.1)
