-- The bodies of packed operations are the words of requests.
use Rattle.std.proofs.Common.{◌≡◌, ℕ, ◌+◌, List, [], ◌∷◌, map, sym, subst, ◌∙◌, ap}
use Rattle.std.specs.List.{AllByRecursion, fold}
use Rattle.ipb_base.proofs.AllLemmas.{AllByRecursion-append}
use Rattle.transaction_codec.specs.declared.request.Op.{Op}
use Rattle.transaction_codec.specs.Request.{SpellsRequests}
use Rattle.mtu_packer.specs.Packed.{Contents, IsPacked, packed_contents}
use Rattle.board_specs.specs.declared.spec.BoardSpec.{BoardSpec}
use Rattle.script_steps.specs.declared.operation.RegOp.{RegOp}
use Rattle.script_steps.specs.declared.operation.Step.{Step}
use Rattle.script_plans.specs.declared.greeting.Greeting.{Greeting}
use Rattle.script_plans.specs.declared.greeting.Greeting.TheVariants.{Live, Silent, Down}
use Rattle.script_plans.specs.declared.board_run.ClientPart.{ClientPart}
use Rattle.script_plans.specs.declared.board_run.BoardRun.{BoardRun}
use Rattle.script_plans.specs.Plan.{ClientBodies, no_bodies, AreSpelled, dispatches, ops_on, planned_on, with_dispatch}
use Rattle.board_history.specs.Runs.{AreRuns, greeting_of, plans_on}
use Rattle.board_history.specs.Answering.{AsksRequests, AskRequests}
use Rattle.board_history.proofs.Readiness.{ArePackedFor, AreReady}
use Rattle.board_history.proofs.Asking.{heads}

abbrev pub Spelling : Type 0
Spelling = (ops : List Op) (payload : ℕ) (contents : Contents) → IsPacked ops payload contents
    → AllByRecursion SpellsRequests contents.bodies

module _ (spelling : Spelling) where
  spelled_from : (payload board : ℕ) (ds : List (List RegOp)) (all : ClientBodies) → AreSpelled all.bodies
      → AllByRecursion (λ dispatch. IsPacked (ops_on board dispatch) payload (packed_contents payload (ops_on board dispatch)))
      ds
      → AreSpelled (fold with_dispatch all (map (λ dispatch. packed_contents payload (ops_on board dispatch)) ds)).bodies
  spelled_from payload board [] all spelled is = spelled
  spelled_from payload board (d ∷ ds) all spelled is =
      let c = packed_contents payload (ops_on board d) in
      spelled_from payload board ds (with_dispatch all c)
      (AllByRecursion-append SpellsRequests all.bodies c.bodies spelled (spelling (ops_on board d) payload c is.0)) is.1

  plan_spelled : (board : ℕ) (told : Greeting) (steps : List Step) → ArePackedFor board told steps
      → AreSpelled (planned_on board told steps).bodies
  plan_spelled board (Live payload) steps is = spelled_from payload board (dispatches steps) no_bodies tt is
  plan_spelled board Silent steps is = tt
  plan_spelled board Down steps is = tt

  pub parts_spelled : (board : ℕ) (told : Greeting) (scripts : List (List Step)) (parts : List ClientPart)
      → map (λ (p : ClientPart). p.planned) parts ≡ plans_on board told scripts
      → AllByRecursion (ArePackedFor board told) scripts → AllByRecursion AsksRequests parts
  parts_spelled board told scripts [] plans is = tt
  parts_spelled board told [] (part ∷ parts) plans is = absurd cc
  parts_spelled board told (steps ∷ scripts) (part ∷ parts) plans is =
      let both = heads part.planned (planned_on board told steps) (map (λ (p : ClientPart). p.planned) parts)
      (plans_on board told scripts) plans in (
        subst (λ (p : ClientBodies). AreSpelled p.bodies) (sym both.head) (plan_spelled board told steps is.0),
        parts_spelled board told scripts parts both.tail is.1,
      )

  pub runs_spelled : (board : ℕ) (specs : List BoardSpec) (scripts : List (List Step)) (runs : List BoardRun)
      → AreRuns board specs scripts runs → AreReady board specs scripts → AllByRecursion AskRequests runs
  runs_spelled board [] scripts [] is ready = tt
  runs_spelled board [] scripts (run ∷ runs) is ready = absurd is
  runs_spelled board (spec ∷ specs) scripts [] is ready = absurd is
  runs_spelled board (spec ∷ specs) scripts (run ∷ runs) is ready = (
    parts_spelled board (greeting_of spec.link) scripts run.parts
        (is.0.plans ∙ ap (λ (g : Greeting). plans_on board g scripts) is.0.greeting) ready.0.packed',
    runs_spelled (board + 1) specs scripts runs is.1 ready.1,
  )
