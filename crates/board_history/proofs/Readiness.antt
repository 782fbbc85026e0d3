-- Boards that run here, and scripts that can be executed on them: what is planned for them is packed.
use Rattle.std.proofs.Common.{ℕ, ◌+◌, ◌≤◌, List, [], ◌∷◌, Option, Some, None, arith}
use Rattle.std.specs.List.{AllByRecursion, cons_option}
use Rattle.ipb_base.specs.Numbers.{payload_of}
use Rattle.board_bus.proofs.Openings.{opening-words}
use Rattle.board_bus.specs.Cells.{HoldsWords}
use Rattle.board_specs.specs.declared.spec.BoardSpec.{BoardSpec}
use Rattle.board_specs.specs.declared.spec.LinkSpec.{LinkSpec}
use Rattle.board_specs.specs.declared.spec.LinkSpec.TheVariants.{Sim, Udp}
use Rattle.mtu_packer.specs.Packed.{IsPacked, packed_contents}
use Rattle.board_specs.specs.OpeningWords.{OpensOnWords, LinkNamesWords}
use Rattle.script_steps.specs.Executable.{FitsVerb, AreExecutable}
use Rattle.script_steps.specs.declared.operation.RegOp.{RegOp}
use Rattle.script_steps.specs.declared.operation.Step.{Step}
use Rattle.script_steps.specs.declared.operation.Step.TheVariants.{Do, Denied, Dispatch}
use Rattle.script_steps.specs.Rulings.{Asked, asked_operations, asked_in}
use Rattle.script_plans.specs.declared.greeting.Greeting.{Greeting}
use Rattle.script_plans.specs.declared.greeting.Greeting.TheVariants.{Live, Silent, Down}
use Rattle.script_plans.specs.Plan.{dispatches, ops_on}
use Rattle.script_plans.proofs.PackedDispatches.{PacksWords, dispatched, dispatches_packed}
use Rattle.board_history.specs.Runs.{CanRun, RunsHere, greeting_of, opens_with}
use Rattle.board_history.specs.Answering.{OpensWithWords}

abbrev pub KeepsVerb : RegOp → Type 0
KeepsVerb op = FitsVerb op.verb op.op

-- so does an operation that no rule denies
abbrev pub KeepsUnlessDenied : RegOp → Option ℕ → Type 0
KeepsUnlessDenied op None = KeepsVerb op
KeepsUnlessDenied op (Some rule) = Unit {0}

abbrev pub AskKeeps : Asked → Type 0
AskKeeps ask = KeepsUnlessDenied ask.op ask.denied

abbrev pub KeepVerbs : List Step → Type 0
KeepVerbs steps = AllByRecursion AskKeeps (asked_operations steps)

-- the operations of each dispatch of a client on a board are packed for packets of `payload` words
abbrev pub ArePacked : ℕ → ℕ → List Step → Type 0
ArePacked payload board steps =
    AllByRecursion (λ dispatch. IsPacked (ops_on board dispatch) payload (packed_contents payload (ops_on board dispatch)))
    (dispatches steps)

-- what a client's plan is for a board that told this greeting
abbrev pub ArePackedFor : ℕ → Greeting → List Step → Type 0
ArePackedFor board (Live payload) steps = ArePacked payload board steps
ArePackedFor board Silent steps = Unit {0}
ArePackedFor board Down steps = Unit {0}

-- The board at a position runs here, opens with words of 32 bits, and each client's operations on it are packed.
pub record IsReady (spec : BoardSpec) (board : ℕ) (scripts : List (List Step)) : Type 0 where
  pub here : CanRun spec
  pub words : OpensWithWords spec
  pub packed' : AllByRecursion (ArePackedFor board (greeting_of spec.link)) scripts

-- the same of all boards, the first of which has this position
abbrev pub AreReady : ℕ → List BoardSpec → List (List Step) → Type 0
AreReady board [] scripts = Unit {0}
AreReady board (spec ∷ specs) scripts = IsReady spec board scripts × AreReady (board + 1) specs scripts

-- ---- verbs

one_verb : (step : Step) (asks : List Asked) → AreExecutable (step ∷ []) → AllByRecursion AskKeeps asks
    → AllByRecursion AskKeeps (cons_option (asked_in step) asks)
one_verb (Do op) asks can keep = (can.0.verb', keep)
one_verb (Denied rule op) asks can keep = (tt, keep)
one_verb Dispatch asks can keep = keep

verbs_kept : (steps : List Step) → AreExecutable steps → KeepVerbs steps
verbs_kept [] can = tt
verbs_kept (step ∷ steps) can = one_verb step (asked_operations steps) (can.0, tt) (verbs_kept steps can.1)

pub all_verbs_kept : (scripts : List (List Step)) → AllByRecursion AreExecutable scripts
    → AllByRecursion KeepVerbs scripts
all_verbs_kept [] can = tt
all_verbs_kept (steps ∷ scripts) can = (verbs_kept steps can.0, all_verbs_kept scripts can.1)

-- ---- packing

opens : (link : LinkSpec) → RunsHere link → LinkNamesWords link → HoldsWords (opens_with link)
opens (Sim mtu buffers first ranges fates) here words = opening-words ranges words
opens (Udp address port wait) here words = absurd here

module _ (law : PacksWords) where
  scripts_packed : (payload board : ℕ) (scripts : List (List Step)) → 16 ≤ payload → payload ≤ 2243
      → AllByRecursion AreExecutable scripts → AllByRecursion (ArePacked payload board) scripts
  scripts_packed payload board [] low high can = tt
  scripts_packed payload board (steps ∷ scripts) low high can = (
    dispatches_packed law payload board (dispatches steps) low high (dispatched steps can.0),
    scripts_packed payload board scripts low high can.1,
  )

  packed_for : (link : LinkSpec) (board : ℕ) (scripts : List (List Step)) → RunsHere link
      → AllByRecursion AreExecutable scripts → AllByRecursion (ArePackedFor board (greeting_of link)) scripts
  packed_for (Sim mtu buffers first ranges fates) board scripts here can =
      let bounds = here.0.mtu_in_range in
      scripts_packed (payload_of mtu) board scripts (omega (arith, bounds.0)) (omega (arith, bounds.1)) can
  packed_for (Udp address port wait) board scripts here can = absurd here

  pub is_ready : (spec : BoardSpec) (board : ℕ) (scripts : List (List Step)) → CanRun spec → OpensOnWords spec
      → AllByRecursion AreExecutable scripts → IsReady spec board scripts
  is_ready spec board scripts here words can = record {
    here = here;
    words = opens spec.link here words;
    packed' = packed_for spec.link board scripts here can;
  }

  pub are_ready : (board : ℕ) (specs : List BoardSpec) (scripts : List (List Step)) → AllByRecursion CanRun specs
      → AllByRecursion OpensOnWords specs → AllByRecursion AreExecutable scripts → AreReady board specs scripts
  are_ready board [] scripts here words can = tt
  are_ready board (spec ∷ specs) scripts here words can = (
    is_ready spec board scripts here.0 words.0 can,
    are_ready (board + 1) specs scripts here.1 words.1 can,
  )
