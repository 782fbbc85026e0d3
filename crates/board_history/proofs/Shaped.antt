-- Runs have the shape of the plan.
use Rattle.std.proofs.Common.{◌≡◌, ℕ, ◌+◌, List, [], ◌∷◌, ◌++◌, Option, length, map, drop, refl, sym, ap, ◌∙◌, subst}
use Rattle.std.proofs.Common.{arith, append_assoc, append-nil, length-append}
use Rattle.std.specs.List.{flat_map, fold}
use Rattle.std.proofs.lemmas.List.{length-take-le, length-drop}
use Rattle.mtu_packer.specs.Packed.{Contents, deal}
use Rattle.mtu_packer.proofs.Dealing.{joined_deal}
use Rattle.board_specs.specs.declared.spec.BoardSpec.{BoardSpec}
use Rattle.script_steps.specs.declared.operation.Step.{Step}
use Rattle.lane_record.specs.declared.outcome.Outcome.{Outcome}
use Rattle.script_plans.specs.declared.greeting.Greeting.{Greeting}
use Rattle.script_plans.specs.declared.greeting.Greeting.TheVariants.{Live, Silent, Down}
use Rattle.script_plans.specs.declared.board_run.ClientPart.{ClientPart}
use Rattle.script_plans.specs.declared.board_run.BoardRun.{BoardRun}
use Rattle.script_plans.specs.Plan.{ClientBodies, no_bodies, bodies_in, with_dispatch, all_dispatches, plan, planned_on}
use Rattle.script_plans.specs.Runs.{BoardFate, parts_on}
use Rattle.board_history.specs.Runs.{plans_on, AreRuns}
use Rattle.board_history.specs.Shape.{HaveFates}

-- ---- a plan is cut into dispatches

pub record IsCut (all : ClientBodies) : Type 0 where
  pub dispatches : List (List (List ℕ))
  pub counts' : all.counts ≡ map length dispatches
  pub bodies' : all.bodies ≡ flat_map (λ bodies. bodies) dispatches

abbrev pub Standing : Type 0
Standing = (plan : List Contents) → (all_dispatches plan).bodies ≡ flat_map (λ bodies. bodies) (bodies_in plan)

counts_from : (all : ClientBodies) (plan : List Contents)
    → (fold with_dispatch all plan).counts ≡ all.counts ++ map length (bodies_in plan)
counts_from all [] = sym (append-nil all.counts)
counts_from all (c ∷ plan) =
    counts_from (with_dispatch all c) plan
    ∙ append_assoc all.counts (length c.bodies ∷ []) (map length (bodies_in plan))

-- dealt outcomes have the dispatches' lengths
dealt_lengths : {A B : Type 0} (lists : List (List A)) (ts : List B)
    → length ts ≡ length (flat_map (λ xs. xs) lists)
    → map length (deal (map length lists) ts) ≡ map length lists
dealt_lengths [] ts all = refl
dealt_lengths (xs ∷ lists) ts all =
    let both = length-append xs (flat_map (λ ys. ys) lists) in
    ap (λ (n : ℕ). n ∷ map length (deal (map length lists) (drop (length xs) ts)))
    (length-take-le (length xs) ts (omega (arith, both, all)))
    ∙ ap (λ (ns : List ℕ). length xs ∷ ns)
    (dealt_lengths lists (drop (length xs) ts) (omega (arith, both, all, length-drop (length xs) ts)))

module _ (standing : Standing) where
  pub is_cut : (board : ℕ) (told : Greeting) (steps : List Step) → IsCut (planned_on board told steps)
  is_cut board (Live payload) steps =
      let contents = plan payload board steps in
      record {
        dispatches = bodies_in contents;
        counts' = counts_from no_bodies contents;
        bodies' = standing contents;
      }
  is_cut board Silent steps = record { dispatches = []; counts' = refl; bodies' = refl }
  is_cut board Down steps = record { dispatches = []; counts' = refl; bodies' = refl }

  -- ---- one client

  pub whole_again : (all : ClientBodies) (outcomes : List Outcome) → IsCut all → length outcomes ≡ length all.bodies
      → flat_map (λ dispatch. dispatch) (deal all.counts outcomes) ≡ outcomes
  whole_again all outcomes is long =
      ap (λ (ns : List ℕ). flat_map (λ dispatch. dispatch) (deal ns outcomes)) is.counts'
      ∙ joined_deal (λ bodies. bodies) length is.dispatches outcomes (λ bodies. refl) (long ∙ ap length is.bodies')

  in_shape : (all : ClientBodies) (outcomes : List Outcome) → IsCut all → length outcomes ≡ length all.bodies
      → map length (deal all.counts outcomes) ≡ all.counts
  in_shape all outcomes is long =
      ap (λ (ns : List ℕ). map length (deal ns outcomes)) is.counts'
      ∙ dealt_lengths is.dispatches outcomes (long ∙ ap length is.bodies')
      ∙ sym is.counts'

  -- ---- the clients of a board

  abbrev dealt : ClientPart → List (List Outcome)
  dealt part = deal part.planned.counts part.outcomes

  abbrev lates_of : ClientPart → List (Option (List ℕ))
  lates_of part = part.lates

  record AreParts (board : ℕ) (told : Greeting) (scripts : List (List Step)) (parts : List ClientPart) : Type 0 where
    again : parts ≡ parts_on board told scripts (map dealt parts) (map lates_of parts)
    shape : map (λ (dispatches : List (List Outcome)). map length dispatches) (map dealt parts)
        ≡ map (λ (steps : List Step). (planned_on board told steps).counts) scripts

  pub record SameHeads (board : ℕ) (told : Greeting) (steps : List Step) (scripts : List (List Step))
      (part : ClientPart)
      (parts : List ClientPart) : Type 0 where
    pub plan' : part.planned ≡ planned_on board told steps
    pub plans' : map (λ (p : ClientPart). p.planned) parts ≡ plans_on board told scripts

  pub heads : (board : ℕ) (told : Greeting) (steps : List Step) (scripts : List (List Step)) (part : ClientPart)
      (parts : List ClientPart)
      → map (λ (p : ClientPart). p.planned) (part ∷ parts) ≡ plans_on board told (steps ∷ scripts)
      → SameHeads board told steps scripts part parts
  heads board told steps scripts part parts e = record { plan' = cc; plans' = cc }

  pub record SameLengths (part : ClientPart) (parts : List ClientPart) : Type 0 where
    pub first : length part.outcomes ≡ length part.planned.bodies
    pub rest : map length (map (λ (p : ClientPart). p.outcomes) parts)
        ≡ map length (map (λ (p : ClientPart). p.planned.bodies) parts)

  pub lengths : (part : ClientPart) (parts : List ClientPart)
      → map length (map (λ (p : ClientPart). p.outcomes) (part ∷ parts))
      ≡ map length (map (λ (p : ClientPart). p.planned.bodies) (part ∷ parts)) → SameLengths part parts
  lengths part parts e = record { first = cc; rest = cc }

  are_parts : (board : ℕ) (told : Greeting) (scripts : List (List Step)) (parts : List ClientPart)
      → map (λ (p : ClientPart). p.planned) parts ≡ plans_on board told scripts
      → map length (map (λ (p : ClientPart). p.outcomes) parts)
      ≡ map length (map (λ (p : ClientPart). p.planned.bodies) parts) → AreParts board told scripts parts
  are_parts board told [] [] plans long = record { again = refl; shape = refl }
  are_parts board told [] (part ∷ parts) plans long = absurd cc
  are_parts board told (steps ∷ scripts) [] plans long = absurd cc
  are_parts board told (steps ∷ scripts) (part ∷ parts) plans long =
      let head = heads board told steps scripts part parts plans in
      let here = lengths part parts long in
      let later = are_parts board told scripts parts head.plans' here.rest in
      let cut = subst IsCut (sym head.plan') (is_cut board told steps) in
      let rest = parts_on board told scripts (map dealt parts) (map lates_of parts) in
      record {
        again =
            ap (λ (ps : List ClientPart). part ∷ ps) later.again
            ∙ ap (λ (p : ClientBodies). record { planned = p; outcomes = part.outcomes; lates = part.lates } ∷ rest)
            head.plan'
            ∙ ap (λ (os : List Outcome). record {
              planned = planned_on board told steps;
              outcomes = os;
              lates = part.lates;
            } ∷ rest)
            (sym (whole_again part.planned part.outcomes cut here.first));
        shape =
            ap (λ (ns : List ℕ). ns ∷ map (λ (dispatches : List (List Outcome)). map length dispatches)
            (map dealt parts)) (in_shape part.planned part.outcomes cut here.first
            ∙ ap (λ (p : ClientBodies). p.counts) head.plan')
            ∙ ap (λ (ns : List (List ℕ)). (planned_on board told steps).counts ∷ ns) later.shape;
      }

  -- ---- the boards

  abbrev fate_of : BoardRun → BoardFate
  fate_of run = record {
    name = run.name;
    greeting = run.greeting;
    outcomes = map dealt run.parts;
    lates = map lates_of run.parts;
  }

  pub have_fates : (board : ℕ) (specs : List BoardSpec) (scripts : List (List Step)) (runs : List BoardRun)
      → AreRuns board specs scripts runs → HaveFates board scripts runs
  have_fates board [] scripts [] is = record { fates = []; shown = refl; shape = tt }
  have_fates board [] scripts (run ∷ runs) is = absurd is
  have_fates board (spec ∷ specs) scripts [] is = absurd is
  have_fates board (spec ∷ specs) scripts (run ∷ runs) is =
      let here = are_parts board run.greeting scripts run.parts is.0.plans is.0.history.shape in
      let later = have_fates (board + 1) specs scripts runs is.1 in
      record {
        fates = fate_of run ∷ later.fates;
        shown =
            ap (λ (ps : List ClientPart). record { name = run.name; greeting = run.greeting; parts = ps } ∷ runs)
            here.again
            ∙ ap (λ (rs : List BoardRun). record {
              name = run.name;
              greeting = run.greeting;
              parts = parts_on board run.greeting scripts (map dealt run.parts) (map lates_of run.parts);
            } ∷ rs) later.shown;
        shape = (here.shape, later.shape);
      }
