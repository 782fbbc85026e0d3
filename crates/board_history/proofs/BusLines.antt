-- Each line shows a result of an allowed kind: where nothing is lost, what the bus answered.
use Rattle.std.proofs.Common.{◌≡◌, ◌⊎◌, ℕ, zero, suc, ◌+◌, ◌<◌, List, [], ◌∷◌, ◌++◌, map, Option, Some, None}
use Rattle.std.proofs.Common.{refl, sym, ap}
use Rattle.std.proofs.Common.{◌∙◌, subst, inl, inr, arith, append_assoc}
use Rattle.std.specs.List.{AllByRecursion, slice_get}
use Rattle.std.specs.Option.{option_map}
use Rattle.std.proofs.lemmas.Option.{same_Some, slice_get_cases, slice_get-map}
use Rattle.std.proofs.lemmas.List.{length-map}
use Rattle.ipb_base.proofs.AllLemmas.{all-map}
use Rattle.board_specs.specs.declared.spec.BoardSpec.{BoardSpec}
use Rattle.board_specs.specs.declared.spec.LinkSpec.{LinkSpec}
use Rattle.board_specs.specs.declared.spec.LinkSpec.TheVariants.{Sim, Udp}
use Rattle.ipb_base.specs.Numbers.{payload_of}
use Rattle.transaction_codec.specs.declared.request.Op.{Op}
use Rattle.script_steps.specs.declared.operation.RegOp.{RegOp}
use Rattle.script_steps.specs.declared.operation.Step.{Step}
use Rattle.script_steps.specs.Rulings.{Asked, asked_operations, allowed_operations}
use Rattle.script_plans.specs.declared.planned.PieceAt.{PieceAt}
use Rattle.script_plans.specs.declared.greeting.Greeting.{Greeting}
use Rattle.script_plans.specs.declared.greeting.Greeting.TheVariants.{Live, Silent, Down}
use Rattle.script_plans.specs.declared.board_run.ClientPart.{ClientPart}
use Rattle.script_plans.specs.declared.board_run.BoardRun.{BoardRun}
use Rattle.transcript.specs.declared.line.OpResult.{OpResult}
use Rattle.transcript.specs.declared.line.OpResult.TheVariants.{Unsent, LinkLost, Denied}
use Rattle.transcript.specs.declared.line.OpLine.{OpLine}
use Rattle.lane_record.specs.declared.outcome.Outcome.{Outcome}
use Rattle.script_plans.specs.Plan.{ClientBodies, operations, ops_on, plan, planned_on, all_dispatches, count_on}
use Rattle.transcript.specs.Ends.{ends_of, piece_result}
use Rattle.transcript.specs.Lines.{showing, shown_behind, by_pieces, line_of, lines_behind, lines_from}
use Rattle.transcript.proofs.Allowed.{allowed-append, asked_allowed}
use Rattle.board_history.specs.Runs.{RunsHere, IsRun, AreRuns, greeting_of, plans_on}
use Rattle.board_history.specs.Answering.{AskRequests}
use Rattle.board_history.specs.Lines.{IsBusResult, IsBusLine}
use Rattle.board_history.proofs.Readiness.{KeepsVerb, KeepsUnlessDenied, AskKeeps, KeepVerbs, ArePacked, ArePackedFor}
use Rattle.board_history.proofs.Readiness.{IsReady, AreReady}
use Rattle.board_history.proofs.Lists.{Both, BothWith, both_at, both_with, all_at}
use Rattle.board_history.proofs.Asking.{AreAsked, plan_asked, op_at}
use Rattle.board_history.proofs.Answering.{IsTold, ToldPart}
use Rattle.board_history.proofs.BusResults.{AllowsBus, Fits, IsFine, combined_allowed}

-- ---- a run

-- each body of a client was told its answers, or what is told of it is allowed
abbrev pub FinePart : (OpResult → Type 0) → ClientPart → Type 0
FinePart P part = BothWith (IsFine P) part.planned.bodies part.outcomes part.lates

pub record Shows (P : OpResult → Type 0) (board payload : ℕ) (scripts : List (List Step)) (run : BoardRun)
    : Type 0 where
  pub live : run.greeting ≡ Live payload
  pub plans' : map (λ (p : ClientPart). p.planned) run.parts ≡ plans_on board (Live payload) scripts
  pub told : AllByRecursion (FinePart P) run.parts
  pub packed' : AllByRecursion (ArePacked payload board) scripts

-- A live board shows so; of one that is not live no body was sent, or its link was lost, which is allowed.
abbrev pub CanShow : (OpResult → Type 0) → ℕ → List (List Step) → BoardRun → Type 0
CanShow P board scripts run =
    ((payload : ℕ) × Shows P board payload scripts run)
    ⊎ (((run.greeting ≡ Silent) × P Unsent) ⊎ ((run.greeting ≡ Down) × P LinkLost))

live_of : (link : LinkSpec) → RunsHere link → (payload : ℕ) × (greeting_of link ≡ Live payload)
live_of (Sim mtu buffers first ranges fates) here = (payload_of mtu, refl)
live_of (Udp address port wait) here = absurd here

-- what is told of the parts of a run
abbrev pub Telling : Type 0
Telling = (spec : BoardSpec) (board : ℕ) (scripts : List (List Step)) (run : BoardRun) → IsRun spec board scripts run
    → IsReady spec board scripts → AskRequests run → AllByRecursion ToldPart run.parts

-- what the pieces of an operation came to
abbrev pub Fitting : (OpResult → Type 0) → Type 0
Fitting P = (part : ClientPart) (op : Op) (pieces : List PieceAt) → FinePart P part
    → AreAsked part.planned.bodies op pieces
    → AllByRecursion (Fits P op) (map (piece_result (ends_of part)) pieces)

told_fine : (bodies : List (List ℕ)) (outcomes : List Outcome) (lates : List (Option (List ℕ)))
    → Both IsTold bodies outcomes → BothWith (IsFine IsBusResult) bodies outcomes lates
told_fine bodies outcomes lates told =
    both_with IsTold (IsFine IsBusResult) bodies outcomes lates (λ body outcome late is. inl is) told

run_shows : Telling → (spec : BoardSpec) (board : ℕ) (scripts : List (List Step)) (run : BoardRun)
    → IsRun spec board scripts run
    → IsReady spec board scripts → AskRequests run → (payload : ℕ) × Shows IsBusResult board payload scripts run
run_shows telling spec board scripts run is ready asks =
    let live = live_of spec.link ready.here in
    let told : run.greeting ≡ Live live.0 = is.greeting ∙ live.1 in (
      live.0,
      record {
        live = told;
        plans' = is.plans ∙ ap (λ (g : Greeting). plans_on board g scripts) told;
        told = all-map ToldPart (FinePart IsBusResult) run.parts
            (λ part told_part. told_fine part.planned.bodies part.outcomes part.lates told_part)
            (telling spec board scripts run is ready asks);
        packed' = subst (λ (g : Greeting). AllByRecursion (ArePackedFor board g) scripts) live.1 ready.packed';
      },
    )

shows_at : Telling → (board : ℕ) (specs : List BoardSpec) (scripts : List (List Step)) (runs : List BoardRun)
    → AreRuns board specs scripts runs → AreReady board specs scripts → AllByRecursion AskRequests runs → (k : ℕ)
    → (run : BoardRun)
    → slice_get runs k ≡ Some run → (payload : ℕ) × Shows IsBusResult (board + k) payload scripts run
shows_at telling board [] scripts [] is ready asks k run at = absurd cc
shows_at telling board [] scripts (r ∷ runs) is ready asks k run at = absurd is
shows_at telling board (spec ∷ specs) scripts [] is ready asks k run at = absurd is
shows_at telling board (spec ∷ specs) scripts (r ∷ runs) is ready asks zero run at =
    let here = run_shows telling spec board scripts r is.0 ready.0 asks.0 in
    let same : board ≡ board + 0 = omega arith in (
      here.0,
      subst (λ (b : ℕ). Shows IsBusResult b here.0 scripts run) same
          (subst (λ (x : BoardRun). Shows IsBusResult board here.0 scripts x) (same_Some r run at) here.1),
    )
shows_at telling board (spec ∷ specs) scripts (r ∷ runs) is ready asks (suc k) run at =
    let later = shows_at telling (board + 1) specs scripts runs is.1 ready.1 asks.1 k run at in
    let same : board + 1 + k ≡ board + suc k = omega arith in
    (later.0, subst (λ (b : ℕ). Shows IsBusResult b later.0 scripts run) same later.1)

-- ---- a line

pub planned_at : (board : ℕ) (told : Greeting) (parts : List ClientPart) (scripts : List (List Step)) (client : ℕ)
    (steps : List Step)
    → map (λ (p : ClientPart). p.planned) parts ≡ plans_on board told scripts → slice_get scripts client ≡ Some steps
    → (part : ClientPart) × (slice_get parts client ≡ Some part) × (part.planned ≡ planned_on board told steps)
planned_at board told parts scripts client steps plans at =
    let wanted : slice_get (map (λ (p : ClientPart). p.planned) parts) client ≡ Some (planned_on board told steps) =
    ap (λ (ps : List ClientBodies). slice_get ps client) plans
    ∙ slice_get-map (planned_on board told) scripts client ∙ ap (option_map (planned_on board told)) at in
    let found : slice_get (map (λ (p : ClientPart). p.planned) parts) client
    ≡ option_map (λ (p : ClientPart). p.planned) (slice_get parts client) =
    slice_get-map (λ (p : ClientPart). p.planned) parts client in
    elim (slice_get_cases parts client).1 [
      | inl (part, within, there, again) ↦ (
        part,
        there,
        same_Some part.planned (planned_on board told steps)
            (sym (found ∙ ap (option_map (λ (p : ClientPart). p.planned)) there) ∙ wanted),
      )
      | inr (past, none) ↦
          (let nothing : None ≡ Some (planned_on board told steps) =
          sym (found ∙ ap (option_map (λ (p : ClientPart). p.planned)) none) ∙ wanted in absurd cc)
    ]

-- a line whose result is allowed
abbrev pub IsAllowedLine : (OpResult → Type 0) → OpLine → Type 0
IsAllowedLine P line = P line.result

record HasPieces (planned : ClientBodies) (k : ℕ) (op : Op) : Type 0 where
  pieces : List PieceAt
  at' : slice_get planned.pieces k ≡ Some pieces
  asked : AreAsked planned.bodies op pieces

module _ (P : OpResult → Type 0) (bus : AllowsBus P) (fitting : Fitting P) where
  part_allowed : (part : ClientPart) (op : RegOp) (pieces : List PieceAt) → FinePart P part → KeepsVerb op
      → AreAsked part.planned.bodies op.op pieces → P (by_pieces part op (Some pieces)).0
  part_allowed part op pieces told keeps asked =
      combined_allowed P bus op.verb op.mask op.op (map (piece_result (ends_of part)) pieces) keeps
      (fitting part op.op pieces told asked)
      (λ rmw. subst (λ (n : ℕ). 0 < n) (sym (length-map pieces (piece_result (ends_of part)))) (asked.some rmw))

  live_allowed : (payload : ℕ) (scripts : List (List Step)) (run : BoardRun) (client : ℕ) (steps : List Step)
      (before later : List RegOp) (op : RegOp) → Shows P op.board payload scripts run
      → slice_get scripts client ≡ Some steps
      → before ++ op ∷ later ≡ operations steps → KeepsVerb op
      → P (showing run client (count_on op.board before) op).0
  live_allowed payload scripts run client steps before later op shows at ops keeps =
      let k = count_on op.board before in
      let found = planned_at op.board (Live payload) run.parts scripts client steps shows.plans' at in
      let part = found.0 in
      let asked = plan_asked payload op.board steps (all_at (ArePacked payload op.board) scripts client steps
      shows.packed' at) in
      let here : slice_get (ops_on op.board (operations steps)) k ≡ Some op.op =
      subst (λ (os : List RegOp). slice_get (ops_on op.board os) k ≡ Some op.op) ops (op_at before later op) in
      let all = all_dispatches (plan payload op.board steps) in
      let both = both_at (AreAsked all.bodies) (ops_on op.board (operations steps)) all.pieces k op.op asked here in
      let has : HasPieces part.planned k op.op = subst (λ (p : ClientBodies). HasPieces p k op.op) (sym found.2)
      (record { pieces = both.0; at' = both.1; asked = both.2 }) in
      let told = all_at (FinePart P) run.parts client part shows.told found.1 in
      rw shows.live (rw found.1 (rw has.at' (part_allowed part op has.pieces told keeps has.asked)))

  pub showing_allowed : (scripts : List (List Step)) (run : BoardRun) (client : ℕ) (steps : List Step)
      (before later : List RegOp) (op : RegOp) → CanShow P op.board scripts run
      → slice_get scripts client ≡ Some steps → before ++ op ∷ later ≡ operations steps → KeepsVerb op
      → P (showing run client (count_on op.board before) op).0
  showing_allowed scripts run client steps before later op can at ops keeps = elim can [
    | inl live ↦ live_allowed live.0 scripts run client steps before later op live.1 at ops keeps
    | inr other ↦ elim other [
      | inl silent ↦ rw silent.0 silent.1
      | inr down ↦ rw down.0 down.1
    ]
  ]

  -- what is shown of an operation that a rule denies is allowed too
  pub ask_allowed : (scripts : List (List Step)) (run : BoardRun) (client : ℕ) (steps : List Step)
      (before later : List Asked) (op : RegOp) (denied : Option ℕ) → CanShow P op.board scripts run
      → slice_get scripts client ≡ Some steps
      → before ++ record { op = op; denied = denied } ∷ later ≡ asked_operations steps → KeepsUnlessDenied op denied
      → P (shown_behind run client before op denied).0
  ask_allowed scripts run client steps before later op None can at asks keeps =
      let ask : Asked = record { op = op; denied = None } in
      let ops : allowed_operations before ++ op ∷ allowed_operations later ≡ operations steps =
      sym (allowed-append before (ask ∷ later)) ∙ (ap allowed_operations asks ∙ asked_allowed steps) in
      showing_allowed scripts run client steps (allowed_operations before) (allowed_operations later) op can at ops keeps
  ask_allowed scripts run client steps before later op (Some rule) can at asks keeps = bus (Denied rule) tt

-- Each line is that of an operation that can be executed or is denied, on a board that is there.
module _ (scripts : List (List Step)) (runs : List BoardRun) (Q : OpLine → Type 0)
    (look : (client : ℕ) (steps : List Step) (before later : List Asked) (ask : Asked) (run : BoardRun)
    → slice_get scripts client ≡ Some steps → before ++ ask ∷ later ≡ asked_operations steps → AskKeeps ask
    → slice_get runs ask.op.board ≡ Some run → Q (line_of client before ask run)) where
  lines_hold : (client : ℕ) (steps : List Step) → slice_get scripts client ≡ Some steps → (before asks : List Asked)
      → before ++ asks ≡ asked_operations steps
      → AllByRecursion AskKeeps asks → AllByRecursion Q (lines_behind runs client before asks)
  lines_hold client steps at before [] same keep = tt
  lines_hold client steps at before (ask ∷ asks) same keep =
      let later = lines_hold client steps at (before ++ ask ∷ []) asks
      (append_assoc before (ask ∷ []) asks ∙ same) keep.1 in
      elim (slice_get_cases runs ask.op.board).1 [
        | inl (run, within, there, again) ↦
            rw there (look client steps before asks ask run at same keep.0 there, later)
        | inr (past, none) ↦ rw none later
      ]

  clients_hold : (client : ℕ) (rest : List (List Step))
      → ((j : ℕ) (steps : List Step) → slice_get rest j ≡ Some steps → slice_get scripts (client + j) ≡ Some steps)
      → AllByRecursion KeepVerbs rest → AllByRecursion (AllByRecursion Q) (lines_from runs client rest)
  clients_hold client [] at keep = tt
  clients_hold client (steps ∷ rest) at keep =
      let first : client + 0 ≡ client = omega arith in (
        lines_hold client steps
            (subst (λ (c : ℕ). slice_get scripts c ≡ Some steps) first (at 0 steps refl)) [] (asked_operations steps) refl
            keep.0,
        clients_hold (client + 1) rest
            (λ j s h.
            let next : client + suc j ≡ client + 1 + j = omega arith in
            subst (λ (c : ℕ). slice_get scripts c ≡ Some s) next (at (suc j) s h)) keep.1,
      )

  pub session_holds : AllByRecursion KeepVerbs scripts → AllByRecursion (AllByRecursion Q) (lines_from runs 0 scripts)
  session_holds keep = clients_hold 0 scripts
      (λ j steps h.
      let same : j ≡ 0 + j = omega arith in
      subst (λ (c : ℕ). slice_get scripts c ≡ Some steps) same h)
      keep

pub session_allowed : (P : OpResult → Type 0) → AllowsBus P → Fitting P → (scripts : List (List Step))
    (runs : List BoardRun)
    → ((k : ℕ) (run : BoardRun) → slice_get runs k ≡ Some run → CanShow P k scripts run)
    → AllByRecursion KeepVerbs scripts → AllByRecursion (AllByRecursion (IsAllowedLine P)) (lines_from runs 0 scripts)
session_allowed P bus fitting scripts runs look keep = session_holds scripts runs (IsAllowedLine P)
    (λ client steps before later ask run at same keeps there.
    ask_allowed P bus fitting scripts run client steps before later ask.op ask.denied (look ask.op.board run there) at
    same keeps)
    keep

pub session_bus : Fitting IsBusResult → Telling → (specs : List BoardSpec) (scripts : List (List Step))
    (runs : List BoardRun)
    → AreRuns 0 specs scripts runs → AreReady 0 specs scripts → AllByRecursion AskRequests runs
    → AllByRecursion KeepVerbs scripts → AllByRecursion (AllByRecursion IsBusLine) (lines_from runs 0 scripts)
session_bus fitting telling specs scripts runs is ready asks keep =
    session_allowed IsBusResult (λ r bus. bus) fitting scripts runs
    (λ k run at.
    let found = shows_at telling 0 specs scripts runs is ready asks k run at in
    let same : 0 + k ≡ k = omega arith in
    inl (found.0, subst (λ (b : ℕ). Shows IsBusResult b found.0 scripts run) same found.1))
    keep
