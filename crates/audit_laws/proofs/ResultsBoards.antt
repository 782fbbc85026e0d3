-- A live board whose link tells, and its replay.
use Rattle.std.proofs.Common.{◌≡◌, ℕ, zero, suc, ◌+◌, true, List, [], ◌∷◌, map, Some}
use Rattle.std.proofs.Common.{refl, sym, ap, ◌∙◌, subst, arith, is_some}
use Rattle.std.specs.List.{slice_get}
use Rattle.std.proofs.lemmas.Option.{same_Some}
use Rattle.board_bus.specs.Cells.{CellMap}
use Rattle.board_specs.specs.declared.spec.BoardSpec.{BoardSpec}
use Rattle.board_specs.specs.declared.spec.LinkSpec.{LinkSpec}
use Rattle.board_specs.specs.declared.spec.LinkSpec.TheVariants.{Sim, Udp}
use Rattle.script_lang.specs.declared.session.Session.{Session}
use Rattle.script_steps.specs.declared.operation.RegOp.{RegOp}
use Rattle.script_steps.specs.declared.operation.Step.{Step}
use Rattle.script_plans.specs.declared.board_run.BoardRun.{BoardRun}
use Rattle.script_plans.specs.declared.board_run.ClientPart.{ClientPart}
use Rattle.script_plans.specs.declared.greeting.Greeting.{Greeting}
use Rattle.script_plans.specs.declared.greeting.Greeting.TheVariants.{Live}
use Rattle.script_plans.specs.declared.planned.PieceAt.{PieceAt}
use Rattle.script_plans.specs.Plan.{ClientBodies, plans_on}
use Rattle.transcript.specs.Ends.{ends_of}
use Rattle.transcript.specs.Lines.{showing}
use Rattle.transcript.specs.Results.{op_places, op_result}
use Rattle.board_history.specs.History.{bodies_by_client, lates_by_client, outcomes_by_client}
use Rattle.board_history.specs.Order.{Placed, order}
use Rattle.board_history.specs.Parts.{AreBeside, AreLateRepliesOf, AreRepliesOf, HasOneOrder}
use Rattle.board_history.specs.Runs.{greeting_of, opens_with}
use Rattle.board_history.specs.Links.{IsBoardOf, LinkReport, board_there}
use Rattle.board_history.specs.LinkRuns.{AreRunsOver, IsAsTold, IsLiveRun, IsRunOver, IsTrueRun, TellsPayload}
use Rattle.board_history.proofs.Told.{at_some, told_there}
use Rattle.run_audit.specs.AskedLines.{ShownPiece}
use Rattle.run_audit.specs.Replay.{outcomes_from, parts_from}

-- ---- lists

pub beside_at : {A B C : Type 0} (R : A → B → Type 0) (f : C → List A) (g : C → List B) (xs : List C) (k : ℕ) (x : C)
    → AreBeside (AreBeside R) (map f xs) (map g xs) → slice_get xs k ≡ Some x → AreBeside R (f x) (g x)
beside_at R f g [] k x are at = absurd cc
beside_at R f g (y ∷ xs) zero x are at = subst (λ z. AreBeside R (f z) (g z)) (same_Some y x at) are.0
beside_at R f g (y ∷ xs) (suc k) x are at = beside_at R f g xs k x are.1 at

-- ---- the board at a position

-- the board and the link of a run, of which the run is
pub record IsOver (session : Session) (specs : List BoardSpec) (links : List LinkReport) (board : ℕ) (at : ℕ)
    (scripts : List (List Step)) (run : BoardRun) : Type 0 where
  pub spec : BoardSpec
  pub link : LinkReport
  pub spec_at : slice_get specs at ≡ Some spec
  pub link_at : slice_get links at ≡ Some link
  pub over : IsRunOver session.settings spec board scripts run link

over_from : (session : Session) (board : ℕ) (specs : List BoardSpec) (scripts : List (List Step)) (runs : List BoardRun)
    (links : List LinkReport) → AreRunsOver session.settings board specs scripts runs links → (at : ℕ) (run : BoardRun)
    → slice_get runs at ≡ Some run → IsOver session specs links (board + at) at scripts run
over_from session board [] scripts [] [] is at run there = absurd cc
over_from session board [] scripts [] (l ∷ links) is at run there = absurd is
over_from session board [] scripts (r ∷ runs) links is at run there = absurd is
over_from session board (spec ∷ specs) scripts [] links is at run there = absurd is
over_from session board (spec ∷ specs) scripts (r ∷ runs) [] is at run there = absurd is
over_from session board (spec ∷ specs) scripts (r ∷ runs) (l ∷ links) is zero run there =
    let none : board ≡ board + 0 = omega arith in
    record {
      spec = spec;
      link = l;
      spec_at = refl;
      link_at = refl;
      over = subst (λ (b : ℕ). IsRunOver session.settings spec b scripts run l) none
          (subst (λ (x : BoardRun). IsRunOver session.settings spec board scripts x l) (same_Some r run there) is.0);
    }
over_from session board (spec ∷ specs) scripts (r ∷ runs) (l ∷ links) is (suc at) run there =
    let found = over_from session (board + 1) specs scripts runs links is.1 at run there in
    let next : board + 1 + at ≡ board + suc at = omega arith in
    record {
      spec = found.spec;
      link = found.link;
      spec_at = found.spec_at;
      link_at = found.link_at;
      over = subst (λ (b : ℕ). IsRunOver session.settings found.spec b scripts run found.link) next found.over;
    }

pub over_at : (session : Session) (specs : List BoardSpec) (scripts : List (List Step)) (runs : List BoardRun)
    (links : List LinkReport) → AreRunsOver session.settings 0 specs scripts runs links → (at : ℕ) (run : BoardRun)
    → slice_get runs at ≡ Some run → IsOver session specs links at at scripts run
over_at session specs scripts runs links is at run there =
    let same : 0 + at ≡ at = omega arith in
    subst (λ (b : ℕ). IsOver session specs links b at scripts run) same
    (over_from session 0 specs scripts runs links is at run there)

-- ---- a live board whose link tells

-- it has the greeting of its document
told_greeting : (of : LinkSpec) (link : LinkReport) (payload : ℕ) → IsBoardOf of (board_there link.telling)
    → is_some link.telling ≡ true → TellsPayload of payload → greeting_of of ≡ Live payload
told_greeting (Sim mtu buffers first ranges fates) link payload is tells packets = ap Live (sym packets)
told_greeting (Udp address port wait) link payload is tells packets =
    absurd (subst (IsBoardOf (Udp address port wait)) (told_there link.telling tells).1 is)

-- Of a live board, by what its link tells:
pub record IsToldBoard (spec : BoardSpec) (board : ℕ) (scripts : List (List Step)) (run : BoardRun) (payload : ℕ)
    : Type 0 where
  -- it has the greeting of its document, and was asked what a board of this greeting is asked
  pub greeting : greeting_of spec.link ≡ Live payload
  pub plans : map (λ (part : ClientPart). part.planned) run.parts ≡ plans_on board (greeting_of spec.link) scripts
  -- its bodies have one order, and its replies and late answers are those of the bus
  pub one_order : HasOneOrder (bodies_by_client run) (outcomes_by_client run)
  pub replies : AreRepliesOf (opens_with spec.link) (order (bodies_by_client run) (outcomes_by_client run))
      (outcomes_by_client run)
  pub late : AreLateRepliesOf (opens_with spec.link) (order (bodies_by_client run) (outcomes_by_client run))
      (outcomes_by_client run) (lates_by_client run)

pub told_board : (session : Session) (spec : BoardSpec) (board : ℕ) (scripts : List (List Step)) (run : BoardRun)
    (link : LinkReport) (payload : ℕ) → IsRunOver session.settings spec board scripts run link
    → is_some link.telling ≡ true → run.greeting ≡ Live payload → IsToldBoard spec board scripts run payload
told_board session spec board scripts run link payload is tells live =
    let as_live : IsLiveRun session.settings spec payload run link =
    subst (IsAsTold session.settings spec run link) live is.as_told in
    let there = told_there link.telling tells in
    let true_run = at_some (IsTrueRun session.settings (opens_with spec.link) run link.held)
    (board_there link.telling) there.0 there.1 as_live.told in
    let greeting = told_greeting spec.link link payload is.board' tells as_live.any_link.packets in
    record {
      greeting = greeting;
      plans = is.scripts'.plans ∙ ap (λ (g : Greeting). plans_on board g scripts) (live ∙ sym greeting);
      one_order = as_live.any_link.one_order;
      replies = true_run.replies;
      late = true_run.late;
    }

-- ---- the parts of a client

-- what a client asked, and what became of it where the board is replayed
abbrev pub part_again : CellMap → List Placed → List ShownPiece → ℕ → ClientBodies → ClientPart
part_again opening order pieces client plan =
    record { planned = plan; outcomes = outcomes_from opening order pieces client 0 plan.bodies; lates = [] }

part_from : (opening : CellMap) (order : List Placed) (pieces : List ShownPiece) (number : ℕ) (plans : List ClientBodies)
    (client : ℕ) (plan : ClientBodies) → slice_get plans client ≡ Some plan
    → slice_get (parts_from opening order pieces number plans) client
    ≡ Some (part_again opening order pieces (number + client) plan)
part_from opening order pieces number [] client plan at = absurd cc
part_from opening order pieces number (p ∷ plans) zero plan at =
    let none : number ≡ number + 0 = omega arith in
    ap (λ (n : ℕ). Some (part_again opening order pieces n p)) none
    ∙ ap (λ (q : ClientBodies). Some (part_again opening order pieces (number + 0) q)) (same_Some p plan at)
part_from opening order pieces number (p ∷ plans) (suc client) plan at =
    let next : number + 1 + client ≡ number + suc client = omega arith in
    part_from opening order pieces (number + 1) plans client plan at
    ∙ ap (λ (n : ℕ). Some (part_again opening order pieces n plan)) next

pub part_at : (opening : CellMap) (order : List Placed) (pieces : List ShownPiece) (plans : List ClientBodies)
    (client : ℕ) (plan : ClientBodies) → slice_get plans client ≡ Some plan
    → slice_get (parts_from opening order pieces 0 plans) client ≡ Some (part_again opening order pieces client plan)
part_at opening order pieces plans client plan at =
    let same : 0 + client ≡ client = omega arith in
    part_from opening order pieces 0 plans client plan at
    ∙ ap (λ (n : ℕ). Some (part_again opening order pieces n plan)) same

-- ---- what is told of an operation

pub shows_live : (run : BoardRun) (payload client k : ℕ) (op : RegOp) (part : ClientPart) (pieces : List PieceAt)
    → run.greeting ≡ Live payload → slice_get run.parts client ≡ Some part
    → slice_get part.planned.pieces k ≡ Some pieces
    → showing run client k op ≡ (op_result (ends_of part) op pieces, op_places (ends_of part) pieces)
shows_live run payload client k op part pieces live at has = rw live (rw at (rw has refl))
