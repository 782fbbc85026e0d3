-- What good lines show of a client that reads single words.
use Rattle.std.proofs.Common.{◌≡◌, ℕ, zero, suc, ◌+◌, ◌≤◌, true, false, List, [], ◌∷◌, ◌++◌, length, map, Option, Some}
use Rattle.std.proofs.Common.{None, Ok, inl, inr, refl, sym, ap, ◌∙◌, subst, arith}
use Rattle.std.specs.Prelude.{is_some}
use Rattle.std.specs.List.{AllByRecursion, slice_get}
use Rattle.std.proofs.lemmas.Option.{same_Some}
use Rattle.ipb_base.specs.Numbers.{payload_of}
use Rattle.transaction_codec.specs.declared.request.Op.{Op}
use Rattle.transaction_codec.specs.Request.{AreRequests}
use Rattle.mtu_packer.specs.Packing.{AreReadable, body_requests, body_words}
use Rattle.reply_join.specs.declared.answer.Answer.{Answer}
use Rattle.reply_join.specs.Joining.{IsJoined}
use Rattle.reply_join.specs.ByWords.{answers}
use Rattle.masked_fields.specs.Field.{field}
use Rattle.board_bus.specs.Cells.{CellMap, HoldsWords, read_word}
use Rattle.board_bus.specs.Bodies.{run_body}
use Rattle.board_specs.specs.declared.spec.BoardSpec.{BoardSpec}
use Rattle.board_specs.specs.declared.spec.LinkSpec.{LinkSpec}
use Rattle.board_specs.specs.declared.spec.LinkSpec.TheVariants.{Sim, Udp}
use Rattle.board_specs.specs.OpeningWords.{OpensOnWords}
use Rattle.world_model.specs.Settings.{Limits}
use Rattle.lane_record.specs.declared.outcome.Outcome.TheVariants.{Replied}
use Rattle.script_steps.specs.declared.operation.RegOp.{RegOp}
use Rattle.script_steps.specs.declared.operation.Step.{Step}
use Rattle.script_steps.specs.declared.operation.Verb.{Verb}
use Rattle.script_steps.specs.declared.operation.Verb.TheVariants as verb
use Rattle.script_steps.specs.Executable.{AreExecutable}
use Rattle.script_steps.specs.Rulings.{Asked, asked_operations, allowed_operations}
use Rattle.script_plans.specs.declared.greeting.Greeting.{Greeting}
use Rattle.script_plans.specs.declared.greeting.Greeting.TheVariants.{Live, Silent, Down}
use Rattle.script_plans.specs.declared.board_run.ClientPart.{ClientPart}
use Rattle.script_plans.specs.declared.board_run.BoardRun.{BoardRun}
use Rattle.script_plans.specs.declared.planned.PieceAt.{PieceAt}
use Rattle.script_plans.specs.Plan.{ClientBodies, count_on, operations, ops_on, planned_on, plans_on}
use Rattle.script_plans.proofs.PackedDispatches.{PacksWords}
use Rattle.transcript.specs.declared.body_end.BodyEnd.{BodyEnd}
use Rattle.transcript.specs.declared.line.OpLine.{OpLine}
use Rattle.transcript.specs.declared.line.OpResult.{OpResult}
use Rattle.transcript.specs.declared.line.OpResult.TheVariants.{Value}
use Rattle.transcript.specs.Claims.{IsDone, IsDoneResult}
use Rattle.transcript.specs.Ends.{answer_result, end_of, ends_of, ends_with, piece_result, result_in, told_at, told_by}
use Rattle.transcript.specs.Ends.{told_of}
use Rattle.transcript.specs.Results.{combined_result, is_good}
use Rattle.transcript.proofs.GoodResults.{good_piece}
use Rattle.transcript.specs.Lines.{by_pieces, client_lines, line_of, lines_from, shown_behind, showing}
use Rattle.transcript.proofs.Allowed.{allowed-append, asked_allowed}
use Rattle.board_history.specs.InTurn.{IsUsedByOne, outcomes_from}
use Rattle.board_history.specs.History.{bodies_by_client}
use Rattle.board_history.specs.Runs.{RunsHere, board_run, greeting_of, opens_with, parts_in_turn}
use Rattle.board_history.proofs.Answering.{Answering, AnsweringAny, Garbling, IsTold, Joins, Keeping, KeepingAll}
use Rattle.board_history.proofs.Answering.{body_told}
use Rattle.board_history.proofs.Asking.{op_at}
use Rattle.board_history.proofs.BusLines.{session_holds}
use Rattle.board_history.proofs.Lists.{all_at}
use Rattle.board_history.proofs.Readiness.{ArePackedFor, IsReady, all_verbs_kept, is_ready}
use Rattle.board_history.specs.Links.{CanBeMade, IsBoardOf, LinkReport, board_there}
use Rattle.board_history.specs.LinkRuns.{AreRunsOver, ShowAloneRunsWhereTold}
use Rattle.config_laws.specs.Reads.{IsMaskedRead, IsWordRead, ReadSingleWords, ShowsOpeningWord, base_of}
use Rattle.config_laws.proofs.BusReads.{IsThere}
use Rattle.config_laws.proofs.PlanReads.{IsReadAt, both_all, planned_reads, reads_of}
use Rattle.links.specs.Telling.{Telling}

-- ---- good results

abbrev pub IsGood : OpLine → Type 0
IsGood line = is_good line.result ≡ true

pub done_is_good : (r : OpResult) → IsDoneResult r → is_good r ≡ true
done_is_good r (inl (words, is)) = ap is_good is
done_is_good r (inr (inl is)) = ap is_good is
done_is_good r (inr (inr (word, is))) = ap is_good is

bad_result : (r : OpResult) → is_good r ≡ true → is_good r ≡ false → ⊥
bad_result r good bad = let both : true ≡ false = sym good ∙ bad in absurd cc

-- a read of one piece is good where its piece is, and shows the field of its word
one_piece : (mask word : ℕ) (r : OpResult) → (is_good r ≡ true → r ≡ Value (word ∷ []))
    → is_good (combined_result verb.Read mask (r ∷ [])) ≡ true
    → combined_result verb.Read mask (r ∷ []) ≡ Value (field word mask ∷ [])
one_piece mask word r there good = elim (is_good r) as
    (λ b. is_good r ≡ b → combined_result verb.Read mask (r ∷ []) ≡ Value (field word mask ∷ [])) [
      | true ↦ λ is. ap (λ (x : OpResult). combined_result verb.Read mask (x ∷ [])) (there is)
      | false ↦ λ is. absurd (bad_result r (good_piece verb.Read mask r good) is)
    ] refl

-- ---- boards

-- what a board of this process tells
pub record Lives (link : LinkSpec) : Type 0 where
  pub payload : ℕ
  pub is : greeting_of link ≡ Live payload
  pub low : 16 ≤ payload

pub lives_of : (link : LinkSpec) → RunsHere link → Lives link
lives_of (Sim mtu buffers first ranges fates) here =
    let bounds = here.0.mtu_in_range in
    record { payload = payload_of mtu; is = refl; low = omega (arith, bounds.0) }
lives_of (Udp address port wait) here = absurd here

here_of : (link : LinkSpec) (telling : Option Telling) → CanBeMade link → IsBoardOf link (board_there telling)
    → is_some telling ≡ true
    → RunsHere link
here_of (Sim mtu buffers first ranges fates) telling made of tells = made
here_of (Udp address port wait) None made of tells = absurd cc
here_of (Udp address port wait) (Some t) made of tells = absurd of

one_asks : (bodies : List (List ℕ)) → IsUsedByOne (bodies ∷ [])
one_asks [] = tt
one_asks (body ∷ bodies) = tt

used_by_one : (parts : List ClientPart) (planned : ClientBodies) → map (λ (p : ClientPart). p.planned) parts
    ≡ planned ∷ [] → IsUsedByOne (map (λ (p : ClientPart). p.planned.bodies) parts)
used_by_one [] planned same = absurd cc
used_by_one (p ∷ []) planned same = one_asks p.planned.bodies
used_by_one (p ∷ (q ∷ ps)) planned same = absurd cc

-- the board of a run, which one client uses
pub record BoardAt (specs : List BoardSpec) (steps : List Step) (board k : ℕ) (run : BoardRun) : Type 0 where
  pub spec : BoardSpec
  pub on : slice_get specs k ≡ Some spec
  pub ready : IsReady spec board (steps ∷ [])
  pub alone : (payload : ℕ) → run.greeting ≡ Live payload → run ≡ board_run spec board (steps ∷ [])

pub board_at : PacksWords → (settings : Limits) (first : ℕ) (specs : List BoardSpec) (steps : List Step)
    (runs : List BoardRun) (links : List LinkReport) → AreRunsOver settings first specs (steps ∷ []) runs links
    → ShowAloneRunsWhereTold first specs (steps ∷ []) runs links
    → AllByRecursion (λ (link : LinkReport). is_some link.telling ≡ true) links
    → AllByRecursion (λ (spec : BoardSpec). CanBeMade spec.link) specs → AllByRecursion OpensOnWords specs
    → AllByRecursion AreExecutable (steps ∷ []) → (k : ℕ) (run : BoardRun) → slice_get runs k ≡ Some run
    → BoardAt specs steps (first + k) k run
board_at packs settings first [] steps [] links is alone tell made words can k run at = absurd cc
board_at packs settings first [] steps (r ∷ runs) links is alone tell made words can k run at = absurd is
board_at packs settings first (spec ∷ specs) steps [] links is alone tell made words can k run at = absurd cc
board_at packs settings first (spec ∷ specs) steps (r ∷ runs) [] is alone tell made words can k run at = absurd is
board_at packs settings first (spec ∷ specs) steps (r ∷ runs) (l ∷ links) is alone tell made words can zero run at =
    let here = here_of spec.link l.telling made.0 is.0.board' tell.0 in
    let one : IsUsedByOne (bodies_by_client r) =
    used_by_one r.parts (planned_on first r.greeting steps) is.0.scripts'.plans in
    let same : first ≡ first + 0 = omega arith in
    subst (λ n. BoardAt (spec ∷ specs) steps n 0 run) same
    (subst (λ (x : BoardRun). BoardAt (spec ∷ specs) steps first 0 x) (same_Some r run at) (record {
      spec = spec;
      on = refl;
      ready = is_ready packs spec first (steps ∷ []) here words.0 can;
      alone = λ payload live. alone.0 payload live tell.0 one;
    }))
board_at packs settings first (spec ∷ specs) steps (r ∷ runs) (l ∷ links) is alone tell made words can (suc k) run at =
    let later = board_at packs settings (first + 1) specs steps runs links is.1 alone.1 tell.1 made.1 words.1 can k run
    at in
    let same : first + 1 + k ≡ first + suc k = omega arith in
    subst (λ n. BoardAt (spec ∷ specs) steps n (suc k) run) same
    (record { spec = later.spec; on = later.on; ready = later.ready; alone = later.alone })

pub live_if_good : (run : BoardRun) (client k : ℕ) (op : RegOp) (told : Greeting) → run.greeting ≡ told
    → is_good (showing run client k op).0 ≡ true → (payload : ℕ) × (run.greeting ≡ Live payload)
live_if_good run client k op (Live payload) is good = (payload, is)
live_if_good run client k op Silent is good =
    let bad : is_good (showing run client k op).0 ≡ false = rw is refl in
    absurd (bad_result (showing run client k op).0 good bad)
live_if_good run client k op Down is good =
    let bad : is_good (showing run client k op).0 ≡ false = rw is refl in
    absurd (bad_result (showing run client k op).0 good bad)

get_behind : {T : Type 0} (before later : List T) (x : T) → slice_get (before ++ x ∷ later) (length before) ≡ Some x
get_behind [] later x = refl
get_behind (y ∷ before) later x = get_behind before later x

shown_where_good : (P : OpLine → Type 0) (lines : List OpLine) → AllByRecursion (λ line. IsGood line → P line) lines
    → AllByRecursion IsDone lines → AllByRecursion P lines
shown_where_good P [] look done = tt
shown_where_good P (line ∷ lines) look done =
    (look.0 (done_is_good line.result done.0), shown_where_good P lines look.1 done.1)

-- ---- the bodies of a client alone

abbrev pub BusStays : Type 0
BusStays = (cells : CellMap) (part : List Op) → AreRequests (body_requests part) → AllByRecursion IsWordRead part
    → (run_body cells (body_words part)).cells ≡ cells

abbrev pub Answered : Type 0
Answered = (cells : CellMap) (part : List Op) (answers : List Answer) (i : ℕ) (op : Op) → HoldsWords cells
    → AreRequests (body_requests part) → AllByRecursion IsWordRead part
    → IsJoined (body_words part) (run_body cells (body_words part)).reply answers → slice_get part i ≡ Some op
    → IsThere cells op (answer_result (slice_get answers i))

-- how the body of this number ended
record EndsAs (cells : CellMap) (ends : List BodyEnd) (b : ℕ) (part : List Op) : Type 0 where
  place : ℕ
  here : slice_get ends b
      ≡ Some (end_of (body_words part) (Replied place (run_body cells (body_words part)).reply) None)

ends_as : BusStays → (place : ℕ) (cells : CellMap) (parts : List (List Op)) → AreReadable parts
    → AllByRecursion (AllByRecursion IsWordRead) parts → (b : ℕ) (part : List Op) → slice_get parts b ≡ Some part
    → EndsAs cells (ends_with (map body_words parts) (outcomes_from place cells (map body_words parts)) []) b part
ends_as stays place cells [] readable reads b part at = absurd cc
ends_as stays place cells (p ∷ parts) readable reads zero part at = record {
  place = place;
  here = ap (λ (x : List Op). Some (end_of (body_words x) (Replied place (run_body cells (body_words x)).reply) None))
      (same_Some p part at);
}
ends_as stays place cells (p ∷ parts) readable reads (suc b) part at =
    let later = ends_as stays (place + 1) cells parts readable.1 reads.1 b part at in
    record {
      place = later.place;
      here = subst (λ (left : CellMap).
          slice_get (ends_with (map body_words parts) (outcomes_from (place + 1) left (map body_words parts)) []) b
          ≡ Some (end_of (body_words part) (Replied later.place (run_body cells (body_words part)).reply) None))
          (sym (stays cells p readable.0 reads.0)) later.here;
    }

module _ (answering : Answering) (any : AnsweringAny) (keeping : Keeping) (keeping_all : KeepingAll)
    (garbling : Garbling) (joins : Joins) (there : Answered) where
  told_there : (cells : CellMap) (place : ℕ) (part : List Op) (i : ℕ) (op : Op) → HoldsWords cells
      → AreRequests (body_requests part) → AllByRecursion IsWordRead part → slice_get part i ≡ Some op
      → IsThere cells op
      (told_at (told_of (body_words part) (Replied place (run_body cells (body_words part)).reply) None) i)
  told_there cells place part i op holds ranges reads at =
      let body = body_words part in
      let told : IsTold body (Replied place (run_body cells body).reply) =
      body_told answering any keeping keeping_all garbling joins place cells body holds
      (body_requests part, ranges, refl) in
      let same : (run_body cells body).reply ≡ told.words = cc in
      let joined : IsJoined body (run_body cells body).reply told.list =
      subst (λ (ws : List ℕ). IsJoined body ws told.list) (sym same) told.joined in
      let found = ap (answers body) same ∙ told.found in
      subst (λ (o : Option (List Answer)). IsThere cells op (told_at (told_by o) i)) (sym found)
      (there cells part told.list i op holds ranges reads joined at)

  -- ---- a line

  record WordShown (cells : CellMap) (op : RegOp) (r : OpResult) : Type 0 where
    word : ℕ
    opened : read_word cells (base_of op.op) ≡ Ok word
    shown' : r ≡ Value (field word op.mask ∷ [])

  piece_shown : (cells : CellMap) (op : RegOp) (r : OpResult) → IsMaskedRead op → IsThere cells op.op r
      → is_good (combined_result op.verb op.mask (r ∷ [])) ≡ true → WordShown cells op (combined_result op.verb op.mask (r ∷ []))
  piece_shown cells op r reads is good =
      let masked : is_good (combined_result verb.Read op.mask (r ∷ [])) ≡ true =
      subst (λ (v : Verb). is_good (combined_result v op.mask (r ∷ [])) ≡ true) reads.verb' good in
      elim (is_good r) as (λ b. is_good r ≡ b → WordShown cells op (combined_result op.verb op.mask (r ∷ []))) [
        | true ↦ λ fine.
            let found = is fine in
            record {
              word = found.0;
              opened = found.1;
              shown' = ap (λ (v : Verb). combined_result v op.mask (r ∷ [])) reads.verb'
                  ∙ one_piece op.mask found.0 r (λ _. found.2) masked;
            }
        | false ↦ λ bad. absurd (bad_result r (good_piece verb.Read op.mask r masked) bad)
      ] refl

  alone_part : (stays : BusStays) (cells : CellMap) (planned : ClientBodies) (k : ℕ) (op : RegOp) → HoldsWords cells
      → IsMaskedRead op → IsReadAt planned k op.op
      → let part : ClientPart =
      record { planned = planned; outcomes = outcomes_from 1 cells planned.bodies; lates = [] } in
      is_good (by_pieces part op (slice_get planned.pieces k)).0 ≡ true
      → WordShown cells op (by_pieces part op (slice_get planned.pieces k)).0
  alone_part stays cells planned k op holds reads is =
      let part : ClientPart =
      record { planned = planned; outcomes = outcomes_from 1 cells planned.bodies; lates = [] } in
      let mine : List (List ℕ) → List BodyEnd =
      λ (bodies : List (List ℕ)). ends_with bodies (outcomes_from 1 cells bodies) [] in
      let ended = ends_as stays 1 cells is.parts is.readable is.reads is.place.body is.part is.there in
      let end = end_of (body_words is.part) (Replied ended.place (run_body cells (body_words is.part)).reply) None in
      let here : slice_get (ends_of part) is.place.body ≡ Some end =
      ap (λ (bodies : List (List ℕ)). slice_get (mine bodies) is.place.body) is.bodies' ∙ ended.here in
      let ranges = all_at (λ (p : List Op). AreRequests (body_requests p)) is.parts is.place.body is.part is.readable
      is.there in
      let words = all_at (AllByRecursion IsWordRead) is.parts is.place.body is.part is.reads is.there in
      let told : IsThere cells op.op (piece_result (ends_of part) is.place) =
      subst (λ (o : Option BodyEnd). IsThere cells op.op (result_in o is.place.index)) (sym here)
      (told_there cells ended.place is.part is.place.index op.op holds ranges words is.at') in
      subst (λ (o : Option (List PieceAt)). is_good (by_pieces part op o).0 ≡ true
      → WordShown cells op (by_pieces part op o).0) (sym is.pieces')
      (λ good. piece_shown cells op (piece_result (ends_of part) is.place) reads told good)

  -- ---- a board that the client uses alone

  abbrev alone_run : List ℕ → Greeting → CellMap → ℕ → List Step → BoardRun
  alone_run name told cells board steps = record {
    name = name;
    greeting = told;
    parts = parts_in_turn 1 cells (plans_on board told (steps ∷ []));
  }

  live_shown : (stays : BusStays) (spec : BoardSpec) (steps : List Step) (before later : List RegOp) (op : RegOp)
      → IsReady spec op.board (steps ∷ []) → ReadSingleWords steps → before ++ op ∷ later ≡ operations steps
      → is_good (showing (board_run spec op.board (steps ∷ [])) 0 (count_on op.board before) op).0 ≡ true
      → WordShown (opens_with spec.link) op
      (showing (board_run spec op.board (steps ∷ [])) 0 (count_on op.board before) op).0
  live_shown stays spec steps before later op ready reads ops =
      let cells = opens_with spec.link in
      let k = count_on op.board before in
      let lives = lives_of spec.link ready.here in
      let packings = subst (λ (g : Greeting). ArePackedFor op.board g steps) lives.is ready.packed'.0 in
      let at : slice_get (ops_on op.board (operations steps)) k ≡ Some op.op =
      subst (λ (os : List RegOp). slice_get (ops_on op.board os) k ≡ Some op.op) ops (op_at before later op) in
      let masked = (both_all IsMaskedRead before (op ∷ later)
      (subst (λ (os : List RegOp). AllByRecursion IsMaskedRead os) (sym ops) (reads_of steps reads))).1.0 in
      let is = planned_reads lives.payload op.board steps lives.low reads packings k op.op at in
      subst (λ (g : Greeting). is_good (showing (alone_run spec.name g cells op.board steps) 0 k op).0 ≡ true
      → WordShown cells op (showing (alone_run spec.name g cells op.board steps) 0 k op).0) (sym lives.is)
      (alone_part stays cells (planned_on op.board (Live lives.payload) steps) k op ready.words masked is)

  op_shown : (stays : BusStays) (specs : List BoardSpec) (steps : List Step) (run : BoardRun)
      (before later : List RegOp) (op : RegOp) (at : BoardAt specs steps op.board op.board run) → ReadSingleWords steps
      → before ++ op ∷ later ≡ operations steps → is_good (showing run 0 (count_on op.board before) op).0 ≡ true
      → WordShown (opens_with at.spec.link) op (showing run 0 (count_on op.board before) op).0
  op_shown stays specs steps run before later op at reads ops good =
      let k = count_on op.board before in
      let live = live_if_good run 0 k op run.greeting refl good in
      let same = at.alone live.0 live.1 in
      subst (λ (r : BoardRun). is_good (showing r 0 k op).0 ≡ true
      → WordShown (opens_with at.spec.link) op (showing r 0 k op).0) (sym same)
      (live_shown stays at.spec steps before later op at.ready reads ops) good

  ask_shown : (stays : BusStays) (specs : List BoardSpec) (steps : List Step) (run : BoardRun)
      (before later : List Asked) (op : RegOp) (denied : Option ℕ) (at : BoardAt specs steps op.board op.board run)
      → ReadSingleWords steps → before ++ record { op = op; denied = denied } ∷ later ≡ asked_operations steps
      → is_good (shown_behind run 0 before op denied).0 ≡ true
      → WordShown (opens_with at.spec.link) op (shown_behind run 0 before op denied).0
  ask_shown stays specs steps run before later op None at reads asks good =
      let ask : Asked = record { op = op; denied = None } in
      let ops : allowed_operations before ++ op ∷ allowed_operations later ≡ operations steps =
      sym (allowed-append before (ask ∷ later)) ∙ (ap allowed_operations asks ∙ asked_allowed steps) in
      op_shown stays specs steps run (allowed_operations before) (allowed_operations later) op at reads ops good
  ask_shown stays specs steps run before later op (Some rule) at reads asks good = absurd cc

  line_shown : (stays : BusStays) (specs : List BoardSpec) (steps : List Step) (run : BoardRun)
      (before later : List Asked) (ask : Asked) → BoardAt specs steps ask.op.board ask.op.board run
      → ReadSingleWords steps → before ++ ask ∷ later ≡ asked_operations steps → IsGood (line_of 0 before ask run)
      → ShowsOpeningWord specs steps (line_of 0 before ask run)
  line_shown stays specs steps run before later ask at reads asks good =
      let is = ask_shown stays specs steps run before later ask.op ask.denied at reads asks good in
      record {
        place = length before;
        number' = refl;
        ask = ask;
        asked' = subst (λ (xs : List Asked). slice_get xs (length before) ≡ Some ask) asks (get_behind before later ask);
        spec = at.spec;
        on = at.on;
        word = is.word;
        opened = is.opened;
        shown = is.shown';
      }

  -- ---- all lines

  look_shown : (stays : BusStays) (specs : List BoardSpec) (steps : List Step) (runs : List BoardRun)
      → ((k : ℕ) (run : BoardRun) → slice_get runs k ≡ Some run → BoardAt specs steps k k run)
      → ReadSingleWords steps → (client : ℕ) (script : List Step) (before later : List Asked) (ask : Asked)
      (run : BoardRun) → slice_get (steps ∷ []) client ≡ Some script → before ++ ask ∷ later ≡ asked_operations script
      → slice_get runs ask.op.board ≡ Some run → IsGood (line_of client before ask run)
      → ShowsOpeningWord specs steps (line_of client before ask run)
  look_shown stays specs steps runs boards reads zero script before later ask run at asks there =
      line_shown stays specs steps run before later ask (boards ask.op.board run there) reads
      (asks ∙ ap (λ (s : List Step). asked_operations s) (sym (same_Some steps script at)))
  look_shown stays specs steps runs boards reads (suc client) script before later ask run at asks there = absurd cc

  pub session_shown : BusStays → PacksWords → (settings : Limits) (specs : List BoardSpec) (steps : List Step)
      (runs : List BoardRun) (links : List LinkReport) → AreRunsOver settings 0 specs (steps ∷ []) runs links
      → ShowAloneRunsWhereTold 0 specs (steps ∷ []) runs links
      → AllByRecursion (λ (link : LinkReport). is_some link.telling ≡ true) links
      → AllByRecursion (λ (spec : BoardSpec). CanBeMade spec.link) specs → AllByRecursion OpensOnWords specs
      → AreExecutable steps → ReadSingleWords steps
      → AllByRecursion (AllByRecursion IsDone) (lines_from runs 0 (steps ∷ []))
      → AllByRecursion (ShowsOpeningWord specs steps) (client_lines runs 0 steps)
  session_shown stays packs settings specs steps runs links is alone tell made words can reads done =
      let boards : (k : ℕ) (run : BoardRun) → slice_get runs k ≡ Some run → BoardAt specs steps k k run =
      λ k run at.
      let first : 0 + k ≡ k = omega arith in
      subst (λ n. BoardAt specs steps n k run) first
      (board_at packs settings 0 specs steps runs links is alone tell made words (can, tt) k run at) in
      let look = session_holds (steps ∷ []) runs (λ line. IsGood line → ShowsOpeningWord specs steps line)
      (λ client script before later ask run at asks keeps there.
      look_shown stays specs steps runs boards reads client script before later ask run at asks there)
      (all_verbs_kept (steps ∷ []) (can, tt)) in
      shown_where_good (ShowsOpeningWord specs steps) (client_lines runs 0 steps) look.0 done.0
