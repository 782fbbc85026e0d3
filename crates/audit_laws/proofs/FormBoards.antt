-- What a run shows of a board of this process whose link tells.
use Rattle.std.proofs.Common.{◌≡◌, ℕ, zero, suc, ◌+◌, ◌*◌, ◌<◌, ◌≤◌, ◌^◌, ◌++◌, true, length, map, List, [], ◌∷◌}
use Rattle.std.proofs.Common.{Option, Some, None, refl, sym, ap, ◌∙◌, subst, arith, is_some}
use Rattle.std.specs.Int.{div_ceil}
use Rattle.std.specs.List.{AllByRecursion, AllZip, count_by, slice_get}
use Rattle.std.proofs.lemmas.Grind.{div_ceil_times}
use Rattle.std.proofs.lemmas.List.Sums.{count_by-le-length}
use Rattle.std.proofs.lemmas.Option.{same_Some}
use Rattle.transaction_codec.specs.declared.request.Op.{Op}
use Rattle.transaction_codec.specs.declared.request.Op.TheVariants as ops
use Rattle.transaction_codec.specs.Request.{op_count}
use Rattle.mtu_packer.specs.Cutting.{CanBeCut, cut_pieces, piece_count, piece_limit}
use Rattle.mtu_packer.proofs.Pieces.{piece_limit-some}
use Rattle.board_bus.specs.Cells.{HoldsWords}
use Rattle.board_bus.proofs.Openings.{opening-words}
use Rattle.board_specs.specs.declared.spec.BoardSpec.{BoardSpec}
use Rattle.board_specs.specs.declared.spec.LinkSpec.{LinkSpec}
use Rattle.board_specs.specs.declared.spec.LinkSpec.TheVariants.{Sim, Udp}
use Rattle.board_specs.specs.OpeningWords.{LinkNamesWords, OpensOnWords}
use Rattle.world_model.specs.Settings.{Limits}
use Rattle.lane_record.specs.Outcomes.{is_replied, is_sent, is_timed_out}
use Rattle.script_steps.specs.declared.operation.RegOp.{RegOp}
use Rattle.script_steps.specs.declared.operation.Step.{Step}
use Rattle.script_steps.specs.Executable.{AreExecutable}
use Rattle.script_steps.specs.Packing.{HaveFewPieces}
use Rattle.script_steps.specs.Rulings.{Asked, allowed_operations, asked_operations}
use Rattle.script_plans.specs.declared.greeting.Greeting.{Greeting}
use Rattle.script_plans.specs.declared.greeting.Greeting.TheVariants.{Live, Silent, Down}
use Rattle.script_plans.specs.declared.planned.PieceAt.{PieceAt}
use Rattle.script_plans.specs.declared.board_run.ClientPart.{ClientPart}
use Rattle.script_plans.specs.declared.board_run.BoardRun.{BoardRun}
use Rattle.script_plans.specs.Plan.{ClientBodies, all_dispatches, count_on, dispatches, operations, ops_on, plan}
use Rattle.script_plans.specs.Plan.{plans_on}
use Rattle.script_plans.specs.Runs.{outcomes_on}
use Rattle.script_plans.proofs.PackedDispatches.{AreDispatchesPacked, PacksWords, dispatched, dispatches_packed}
use Rattle.transcript.specs.Ends.{ends_of, piece_place, piece_result}
use Rattle.transcript.specs.Lines.{board_line, by_pieces, is_lost, showing, shown_behind}
use Rattle.transcript.proofs.Allowed.{allowed-append, asked_allowed}
use Rattle.transcript_reader.specs.Entries.{IsHere, IsLineOf, IsLinkHere}
use Rattle.transcript_reader.specs.Results.{CanShowLive, CanShowUnless}
use Rattle.transcript_reader.specs.Shown.{greeting_in, greetings_in}
use Rattle.board_history.specs.History.{bodies_by_client, outcomes_by_client}
use Rattle.board_history.specs.Order.{order}
use Rattle.board_history.specs.Runs.{greeting_of, opens_with}
use Rattle.board_history.proofs.Lists.{all_at, both_at}
use Rattle.board_history.proofs.Asking.{op_at}
use Rattle.board_history.proofs.BusLines.{planned_at}
use Rattle.board_history.proofs.Spelled.{Spelling, parts_spelled}
use Rattle.board_history.specs.Links.{LinkReport, board_there}
use Rattle.board_history.specs.LinkRuns.{AreRunsOver, IsAsTold, IsLiveRun, IsRunOver, IsTrueRun, TellsPayload}
use Rattle.board_history.proofs.BoardLines.{line_at}
use Rattle.board_history.proofs.Told.{at_some, told_there}
use Rattle.audit_laws.proofs.FormAsked.{AreRequested, plan_requested}
use Rattle.audit_laws.proofs.FormBodies.{few_outcomes}
use Rattle.audit_laws.proofs.FormLines.{CutUnlessDenied}
use Rattle.transcript.proofs.Skipping.{Joins}
use Rattle.audit_laws.proofs.FormPieces.{EachIsThat, IsFitPart, pieces_show}
use Rattle.audit_laws.proofs.FormRanges.{AnsweringEach, board_fits, each_long}
use Rattle.audit_laws.proofs.FormResults.{pieces_can_show}

-- ---- the laws of lower crates that a board rests on

abbrev pub FirstSends : Type 0
FirstSends = (run : BoardRun) → map length (outcomes_by_client run) ≡ map length (bodies_by_client run)
    → count_by is_sent (outcomes_on run) ≡ length (order (bodies_by_client run) (outcomes_by_client run))

pub record Laws : Type 0 where
  pub each_is : EachIsThat
  pub joins : Joins
  pub packs : PacksWords
  pub spelling : Spelling
  pub answering : AnsweringEach
  pub sends : FirstSends

-- ---- boards of this process

-- packets of so many words
record IsPayload (link : LinkSpec) (payload : ℕ) : Type 0 where
  low : 16 ≤ payload
  high : payload ≤ 2243
  told : greeting_of link ≡ Live payload

payload_here : (link : LinkSpec) (payload : ℕ) → IsLinkHere link → TellsPayload link payload → IsPayload link payload
payload_here (Sim mtu buffers first ranges fates) payload here packets = record {
  low = omega (arith, packets, here.0.0, here.0.1);
  high = omega (arith, packets, here.0.0, here.0.1);
  told = ap Live (sym packets);
}
payload_here (Udp address port wait) payload here packets = absurd here

opens : (link : LinkSpec) → IsLinkHere link → LinkNamesWords link → HoldsWords (opens_with link)
opens (Sim mtu buffers first ranges fates) here words = opening-words ranges words
opens (Udp address port wait) here words = absurd here

-- ---- one board

-- the board at a position, and what its run shows
pub record IsAt (settings : Limits) (specs : List BoardSpec) (scripts : List (List Step)) (board k : ℕ)
    (runs : List BoardRun) (run : BoardRun) : Type 0 where
  pub spec : BoardSpec
  pub link : LinkReport
  pub there : slice_get specs k ≡ Some spec
  pub over : IsRunOver settings spec (board + k) scripts run link
  pub here : IsHere spec
  pub words : OpensOnWords spec
  pub tells : is_some link.telling ≡ true
  pub greeted : slice_get (greetings_in specs (map board_line runs)) k ≡ Some (greeting_in spec (board_line run))

pub board_at : (settings : Limits) (board : ℕ) (specs : List BoardSpec) (scripts : List (List Step))
    (runs : List BoardRun) (links : List LinkReport) → AreRunsOver settings board specs scripts runs links
    → AllByRecursion IsHere specs → AllByRecursion OpensOnWords specs
    → AllByRecursion (λ (link : LinkReport). is_some link.telling ≡ true) links → (k : ℕ) (run : BoardRun)
    → slice_get runs k ≡ Some run → IsAt settings specs scripts board k runs run
board_at settings board [] scripts [] [] is here words told k run at = absurd cc
board_at settings board [] scripts [] (l ∷ links) is here words told k run at = absurd is
board_at settings board [] scripts (r ∷ runs) links is here words told k run at = absurd is
board_at settings board (spec ∷ specs) scripts [] links is here words told k run at = absurd is
board_at settings board (spec ∷ specs) scripts (r ∷ runs) [] is here words told k run at = absurd is
board_at settings board (spec ∷ specs) scripts (r ∷ runs) (l ∷ links) is here words told zero run at =
    let same : r ≡ run = same_Some r run at in
    let zeroth : board ≡ board + 0 = omega arith in
    record {
      spec = spec;
      link = l;
      there = refl;
      over = subst (λ (b : ℕ). IsRunOver settings spec b scripts run l) zeroth
          (subst (λ (x : BoardRun). IsRunOver settings spec board scripts x l) same is.0);
      here = here.0;
      words = words.0;
      tells = told.0;
      greeted = ap (λ (x : BoardRun). Some (greeting_in spec (board_line x))) same;
    }
board_at settings board (spec ∷ specs) scripts (r ∷ runs) (l ∷ links) is here words told (suc k) run at =
    let later = board_at settings (board + 1) specs scripts runs links is.1 here.1 words.1 told.1 k run at in
    let next : board + 1 + k ≡ board + suc k = omega arith in
    record {
      spec = later.spec;
      link = later.link;
      there = later.there;
      over = subst (λ (b : ℕ). IsRunOver settings later.spec b scripts run later.link) next later.over;
      here = later.here;
      words = later.words;
      tells = later.tells;
      greeted = later.greeted;
    }

-- ---- what is known of a live board

pub record IsLive (spec : BoardSpec) (board : ℕ) (scripts : List (List Step)) (run : BoardRun) (payload : ℕ) : Type 0
  where
    pub low : 16 ≤ payload
    pub told : greeting_of spec.link ≡ Live payload
    pub plans : map (λ (p : ClientPart). p.planned) run.parts ≡ plans_on board (Live payload) scripts
    pub packed' : AllByRecursion (λ steps. AreDispatchesPacked payload board (dispatches steps)) scripts
    pub fits : AllByRecursion IsFitPart run.parts
    pub few : length (outcomes_on run) < 2 ^ 64

all_packed : PacksWords → (payload board : ℕ) (scripts : List (List Step)) → 16 ≤ payload → payload ≤ 2243
    → AllByRecursion AreExecutable scripts
    → AllByRecursion (λ steps. AreDispatchesPacked payload board (dispatches steps)) scripts
all_packed packs payload board [] low high can = tt
all_packed packs payload board (steps ∷ scripts) low high can = (
  dispatches_packed packs payload board (dispatches steps) low high (dispatched steps can.0),
  all_packed packs payload board scripts low high can.1,
)

module _ (laws : Laws) (settings : Limits) (few_rounds : settings.rounds < 2 ^ 8) (scripts : List (List Step))
    (few_clients : length scripts < 2 ^ 32) (can : AllByRecursion AreExecutable scripts)
    (few_pieces : AllByRecursion HaveFewPieces scripts) where
  pub is_live : (spec : BoardSpec) (board : ℕ) (run : BoardRun) (link : LinkReport) (payload : ℕ)
      → IsRunOver settings spec board scripts run link → IsHere spec → OpensOnWords spec
      → is_some link.telling ≡ true → run.greeting ≡ Live payload → IsLive spec board scripts run payload
  is_live spec board run link payload over here words tells greeted =
      let live : IsLiveRun settings spec payload run link =
      subst (IsAsTold settings spec run link) greeted over.as_told in
      let is = payload_here spec.link payload here live.any_link.packets in
      let there = told_there link.telling tells in
      let true' = at_some (IsTrueRun settings (opens_with spec.link) run link.held) (board_there link.telling)
      there.0 there.1 live.told in
      let plans : map (λ (p : ClientPart). p.planned) run.parts ≡ plans_on board (Live payload) scripts =
      over.scripts'.plans ∙ ap (λ (g : Greeting). plans_on board g scripts) greeted in
      let packed = all_packed laws.packs payload board scripts is.low is.high can in
      let asks = parts_spelled laws.spelling board (Live payload) scripts run.parts plans packed in
      let shape = over.scripts'.shape in
      let many = few_outcomes payload board scripts run.parts is.low few_pieces plans (each_long run.parts shape) in
      let few : length (outcomes_on run) < 2 ^ 64 = omega (arith, many, few_clients) in
      let sent = count_by-le-length is_sent (outcomes_on run) in
      record {
        low = is.low;
        told = is.told;
        plans = plans;
        packed' = packed;
        fits = board_fits laws.answering (opens_with spec.link) settings.rounds (length (outcomes_on run)) run.parts
            (opens spec.link here words) few_rounds few asks shape live.any_link.one_order
            (omega (arith, sent, laws.sends run shape)) true'.replies true'.late live.any_link.tells;
        few = few;
      }

  -- ---- the line of a board

  line_is : (spec : BoardSpec) (board : ℕ) (run : BoardRun) (link : LinkReport) (told : Greeting)
      → IsRunOver settings spec board scripts run link → IsHere spec → OpensOnWords spec
      → is_some link.telling ≡ true → run.greeting ≡ told → IsLineOf spec (line_at run told)
  line_is spec board run link (Live payload) over here words tells greeted =
      let few = (is_live spec board run link payload over here words tells greeted).few in (
        over.scripts'.name,
        omega (arith, few, count_by-le-length is_sent (outcomes_on run)),
        omega (arith, few, count_by-le-length is_replied (outcomes_on run)),
        omega (arith, few, count_by-le-length is_timed_out (outcomes_on run)),
        omega (arith, few, count_by-le-length is_lost (outcomes_on run)),
      )
  line_is spec board run link Silent over here words tells greeted = over.scripts'.name
  line_is spec board run link Down over here words tells greeted = over.scripts'.name

  pub lines_are : (board : ℕ) (specs : List BoardSpec) (runs : List BoardRun) (links : List LinkReport)
      → AreRunsOver settings board specs scripts runs links → AllByRecursion IsHere specs
      → AllByRecursion OpensOnWords specs → AllByRecursion (λ (link : LinkReport). is_some link.telling ≡ true) links
      → AllZip IsLineOf specs (map board_line runs)
  lines_are board [] [] [] is here words told = tt
  lines_are board [] [] (l ∷ links) is here words told = absurd is
  lines_are board [] (r ∷ runs) links is here words told = absurd is
  lines_are board (spec ∷ specs) [] links is here words told = absurd is
  lines_are board (spec ∷ specs) (r ∷ runs) [] is here words told = absurd is
  lines_are board (spec ∷ specs) (r ∷ runs) (l ∷ links) is here words told = (
    line_is spec board r l r.greeting is.0 here.0 words.0 told.0 refl,
    lines_are (board + 1) specs runs links is.1 here.1 words.1 told.1,
  )

-- ---- an operation on a live board

some_count : (op : Op) → CanBeCut op → 1 ≤ op_count op
some_count (ops.Read base count) can = can.0
some_count (ops.ReadPort base count) can = can
some_count (ops.Write base words) can = can.0
some_count (ops.WritePort base words) can = can
some_count (ops.RmwBits base and_term or_term) can = omega arith
some_count (ops.RmwSum base addend) can = omega arith

some_times : (n limit count : ℕ) → count ≤ n * limit → 1 ≤ count → 1 ≤ n
some_times zero limit count within some = absurd (omega (arith, within, some))
some_times (suc n) limit count within some = omega arith

-- an operation that can be cut has a piece
some_pieces : (payload : ℕ) (op : Op) → 16 ≤ payload → CanBeCut op → 1 ≤ piece_count payload op
some_pieces payload op low can =
    let limit = piece_limit payload op in
    let bounds = div_ceil_times (op_count op) limit (piece_limit-some payload op low) in
    some_times (div_ceil (op_count op) limit) limit (op_count op) bounds.0 (some_count op can)

record HasPieces (planned : ClientBodies) (payload k : ℕ) (op : Op) : Type 0 where
  pieces : List PieceAt
  at' : slice_get planned.pieces k ≡ Some pieces
  requested : AreRequested planned.bodies payload op pieces

module _ (laws : Laws) (scripts : List (List Step)) where
  live_can : (spec : BoardSpec) (run : BoardRun) (payload client : ℕ) (steps : List Step) (before later : List RegOp)
      (op : RegOp) → run.greeting ≡ Live payload → IsLive spec op.board scripts run payload
      → slice_get scripts client ≡ Some steps → before ++ op ∷ later ≡ operations steps → CanBeCut op.op
      → CanShowLive payload op (showing run client (count_on op.board before) op)
  live_can spec run payload client steps before later op greeted live at same can =
      let k = count_on op.board before in
      let found = planned_at op.board (Live payload) run.parts scripts client steps live.plans at in
      let part = found.0 in
      let packed = all_at (λ steps. AreDispatchesPacked payload op.board (dispatches steps)) scripts client steps
      live.packed' at in
      let all = all_dispatches (plan payload op.board steps) in
      let here : slice_get (ops_on op.board (operations steps)) k ≡ Some op.op =
      subst (λ (os : List RegOp). slice_get (ops_on op.board os) k ≡ Some op.op) same (op_at before later op) in
      let both = both_at (AreRequested all.bodies payload) (ops_on op.board (operations steps)) all.pieces k op.op
      (plan_requested payload op.board steps packed) here in
      let has : HasPieces part.planned payload k op.op =
      subst (λ (p : ClientBodies). HasPieces p payload k op.op) (sym found.2)
      (record { pieces = both.0; at' = both.1; requested = both.2 }) in
      let fits = all_at IsFitPart run.parts client part live.fits found.1 in
      let shows = pieces_show laws.each_is laws.joins part fits (cut_pieces payload op.op) has.pieces has.requested in
      let shown : CanShowLive payload op (by_pieces part op (Some has.pieces)) =
      pieces_can_show (piece_result (ends_of part)) (piece_place (ends_of part)) payload op has.pieces live.low
      (some_pieces payload op.op live.low can) shows in
      rw greeted (rw found.1 (rw has.at' shown))

  told_can : (spec : BoardSpec) (run : BoardRun) (client : ℕ) (steps : List Step) (before later : List RegOp)
      (op : RegOp) (told : Greeting) → run.greeting ≡ told
      → ((payload : ℕ) → run.greeting ≡ Live payload → IsLive spec op.board scripts run payload)
      → slice_get scripts client ≡ Some steps → before ++ op ∷ later ≡ operations steps → CanBeCut op.op
      → CanShowUnless None (greeting_in spec (line_at run told)) op (showing run client (count_on op.board before) op)
  told_can spec run client steps before later op (Live payload) greeted live at same can =
      let is = live payload greeted in
      rw is.told (live_can spec run payload client steps before later op greeted is at same can)
  told_can spec run client steps before later op Silent greeted live at same can = rw greeted refl
  told_can spec run client steps before later op Down greeted live at same can = rw greeted refl

  -- an operation of a client behind others, on a board
  pub ask_can : (spec : BoardSpec) (run : BoardRun) (client : ℕ) (steps : List Step) (before later : List Asked)
      (op : RegOp) (denied : Option ℕ)
      → ((payload : ℕ) → run.greeting ≡ Live payload → IsLive spec op.board scripts run payload)
      → slice_get scripts client ≡ Some steps
      → before ++ record { op = op; denied = denied } ∷ later ≡ asked_operations steps → CutUnlessDenied op denied
      → CanShowUnless denied (greeting_in spec (board_line run)) op (shown_behind run client before op denied)
  ask_can spec run client steps before later op None live at same can =
      let ask : Asked = record { op = op; denied = None } in
      let ops : allowed_operations before ++ op ∷ allowed_operations later ≡ operations steps =
      sym (allowed-append before (ask ∷ later)) ∙ (ap allowed_operations same ∙ asked_allowed steps) in
      told_can spec run client steps (allowed_operations before) (allowed_operations later) op run.greeting refl live at ops can
  ask_can spec run client steps before later op (Some rule) live at same can = refl
