-- No line of a run shows a wrong result, where its lines show the places of its boards.
use Rattle.std.proofs.Common.{◌≡◌, ◌⊎◌, ℕ, zero, suc, true, List, [], ◌∷◌, ◌++◌, Option, Some, None, is_some}
use Rattle.std.proofs.Common.{refl, sym, ap, ◌∙◌, subst, inl, inr}
use Rattle.std.specs.Prelude.{unwrap_or}
use Rattle.std.specs.List.{AllByRecursion, AllZip, Any, slice_get}
use Rattle.std.proofs.lemmas.Option.{same_Some}
use Rattle.ipb_base.proofs.AllLemmas.{back_of_all, front_of_all}
use Rattle.mtu_packer.proofs.AnyLemmas.{at_any}
use Rattle.board_specs.specs.declared.spec.BoardSpec.{BoardSpec}
use Rattle.board_history.proofs.Lists.{all_at}
use Rattle.board_history.specs.Links.{LinkReport}
use Rattle.board_history.specs.LinkRuns.{AreRunsOver, IsLineOfRounds, IsUngarbledResult}
use Rattle.board_history.specs.LinkRuns.{IsUngarbledWhereTold, ShowsRounds}
use Rattle.script_lang.specs.declared.session.Session.{Session}
use Rattle.script_steps.specs.declared.operation.Step.{Step}
use Rattle.script_plans.specs.declared.board_run.BoardRun.{BoardRun}
use Rattle.script_plans.specs.declared.board_run.ClientPart.{ClientPart}
use Rattle.script_plans.specs.declared.greeting.Greeting.{Greeting}
use Rattle.script_plans.specs.declared.greeting.Greeting.TheVariants.{Live, Silent, Down}
use Rattle.script_plans.specs.declared.planned.PieceAt.{PieceAt}
use Rattle.script_plans.specs.Plan.{ClientBodies}
use Rattle.transcript.specs.declared.line.OpLine.{OpLine}
use Rattle.transcript.specs.declared.line.OpResult.TheVariants as result
use Rattle.transcript.specs.Ends.{ends_of}
use Rattle.transcript.specs.Lines.{Showing, denied_by, never_sent, shown_behind, showing}
use Rattle.transcript.specs.Results.{op_places, op_result}
use Rattle.run_audit.specs.AskedLines.{AskedLine, asked_of, pieces_of, pieces_unless}
use Rattle.run_audit.specs.Replay.{replay_of_board}
use Rattle.run_audit.specs.Results.{Agrees, IsReplayed, IsWithin, TellApart, fate_in}
use Rattle.audit_laws.proofs.ResultsBoards.{IsToldBoard, over_at, shows_live, told_board}
use Rattle.audit_laws.proofs.ResultsFates.{fate_on, showing_fate}
use Rattle.audit_laws.proofs.ResultsLines.{IsShownLine}
use Rattle.audit_laws.proofs.ResultsLive.{ArePlaced, asked_planned, live_agrees}

-- ---- lists

zip_at : {A B : Type 0} (R : A → B → Type 0) (xs : List A) (ys : List B) (k : ℕ) (x : A) (y : B) → AllZip R xs ys
    → slice_get xs k ≡ Some x → slice_get ys k ≡ Some y → R x y
zip_at R [] ys k x y all at there = absurd cc
zip_at R (a ∷ xs) [] k x y all at there = absurd cc
zip_at R (a ∷ xs) (b ∷ ys) zero x y all at there =
    subst (λ z. R x z) (same_Some b y there) (subst (λ z. R z b) (same_Some a x at) all.0)
zip_at R (a ∷ xs) (b ∷ ys) (suc k) x y all at there = zip_at R xs ys k x y all.1 at there

-- ---- lines

-- what the lines of a run are: none is garbled where the link of its board tells, and one that was timed out tells the
-- rounds of the session
abbrev pub IsRightLine : Session → List BoardRun → List LinkReport → OpLine → Type 0
IsRightLine session runs links line =
    IsUngarbledWhereTold runs links line × IsLineOfRounds session.settings.rounds line

module _ (session : Session) (scripts : List (List Step)) (runs : List BoardRun) (links : List LinkReport)
    (over : AreRunsOver session.settings 0 session.boards scripts runs links)
    (tell : AllByRecursion (λ (link : LinkReport). is_some link.telling ≡ true) links) (lines : List AskedLine)
    (placing : (board : ℕ) (run : BoardRun) (payload : ℕ) → slice_get runs board ≡ Some run
    → run.greeting ≡ Live payload → ArePlaced session.boards scripts lines board run) where
  abbrev IsShown : AskedLine → Type 0
  IsShown asking = IsShownLine (IsRightLine session runs links) scripts runs asking

  live_board : (board : ℕ) (run : BoardRun) (payload : ℕ) (spec : BoardSpec) → slice_get runs board ≡ Some run
      → run.greeting ≡ Live payload → slice_get session.boards board ≡ Some spec
      → IsToldBoard spec board scripts run payload
  live_board board run payload spec there live spec_at =
      let found = over_at session session.boards scripts runs links over board run there in
      let tells = all_at (λ (link : LinkReport). is_some link.telling ≡ true) links board found.link tell found.link_at in
      let told = told_board session found.spec board scripts run found.link payload found.over tells live in
      subst (λ (s : BoardSpec). IsToldBoard s board scripts run payload)
      (same_Some found.spec spec (sym found.spec_at ∙ spec_at)) told

  module _ (asking : AskedLine) (is : IsShown asking) where
    -- ---- what the line shows

    ungarbled : IsUngarbledResult asking.shows.0
    ungarbled =
        let found = over_at session session.boards scripts runs links over asking.ask.op.board is.run is.there in
        let tells = all_at (λ (link : LinkReport). is_some link.telling ≡ true) links asking.ask.op.board found.link tell
        found.link_at in
        let clear = zip_at (λ (run : BoardRun) (link : LinkReport). run.name ≡ is.run.name
        → is_some link.telling ≡ true
        → IsUngarbledResult (shown_behind is.run asking.client is.before asking.ask.op asking.ask.denied).0)
        runs links asking.ask.op.board is.run found.link is.holds.0 is.there found.link_at refl tells in
        subst (λ (s : Showing). IsUngarbledResult s.0) (sym is.shown) clear

    of_rounds : ShowsRounds session.settings.rounds asking.shows.0
    of_rounds = subst (λ (s : Showing). ShowsRounds session.settings.rounds s.0) (sym is.shown) is.holds.1

    denied_shown : (rule : ℕ) → asking.ask.denied ≡ Some rule → asking.shows ≡ denied_by rule
    denied_shown rule denied =
        is.shown ∙ ap (shown_behind is.run asking.client is.before asking.ask.op) denied

    allowed_shown : asking.ask.denied ≡ None → asking.shows ≡ showing is.run asking.client asking.number asking.ask.op
    allowed_shown denied =
        is.shown ∙ ap (shown_behind is.run asking.client is.before asking.ask.op) denied
        ∙ ap (λ (k : ℕ). showing is.run asking.client k asking.ask.op) (sym is.counted)

    -- the pieces of its operation, where no rule denies it
    pieces_are : (part : ClientPart) (payload : ℕ) (spec : BoardSpec) → asking.ask.denied ≡ None
        → slice_get session.boards asking.ask.op.board ≡ Some spec → is.run.greeting ≡ Live payload
        → slice_get is.run.parts asking.client ≡ Some part
        → pieces_of session.boards scripts asking ≡ unwrap_or (slice_get part.planned.pieces asking.number) []
    pieces_are part payload spec denied spec_at live at =
        let board = asking.ask.op.board in
        let told = live_board board is.run payload spec is.there live spec_at in
        let planned = asked_planned session.boards scripts spec board asking.client is.run payload is.script part
        spec_at told is.of_client at in
        let asked = asked_of session.boards scripts board asking.client in
        ap (λ (rule : Option ℕ). pieces_unless rule (unwrap_or (slice_get asked.pieces asking.number) [])) denied
        ∙ ap (λ (p : ClientBodies). unwrap_or (slice_get p.pieces asking.number) []) planned

    -- ---- one line

    module _ (spec : BoardSpec) (spec_at : slice_get session.boards asking.ask.op.board ≡ Some spec) where
      abbrev AgreesWith : Showing → Type 0
      AgreesWith shows = Agrees session.settings.rounds (pieces_of session.boards scripts asking)
          (replay_of_board session.boards scripts lines spec asking.ask.op.board) asking shows.0

      pieces_agree : (part : ClientPart) (payload : ℕ) (found : Option (List PieceAt)) → asking.ask.denied ≡ None
          → is.run.greeting ≡ Live payload → slice_get is.run.parts asking.client ≡ Some part
          → slice_get part.planned.pieces asking.number ≡ found → AgreesWith asking.shows
      pieces_agree part payload None denied live at has =
          let shows : asking.shows ≡ never_sent = allowed_shown denied ∙ rw live (rw at (rw has refl)) in
          subst AgreesWith (sym shows) tt
      pieces_agree part payload (Some pieces) denied live at has =
          let board = asking.ask.op.board in
          let op = asking.ask.op in
          let told = live_board board is.run payload spec is.there live spec_at in
          let placed = placing board is.run payload is.there live in
          let shows : asking.shows ≡ (op_result (ends_of part) op pieces, op_places (ends_of part) pieces) =
          allowed_shown denied
          ∙ shows_live is.run payload asking.client asking.number op part pieces live at has in
          let same : pieces_of session.boards scripts asking ≡ pieces =
          pieces_are part payload spec denied spec_at live at
          ∙ ap (λ (o : Option (List PieceAt)). unwrap_or o []) has in
          let agrees = live_agrees session.boards scripts lines spec asking is.run payload live told placed
          session.settings.rounds part pieces at has (subst (λ (s : Showing). IsUngarbledResult s.0) shows ungarbled)
          (subst (λ (s : Showing). ShowsRounds session.settings.rounds s.0) shows of_rounds) in
          subst AgreesWith (sym shows)
          (subst (λ (ps : List PieceAt). Agrees session.settings.rounds ps
          (replay_of_board session.boards scripts lines spec board) asking (op_result (ends_of part) op pieces)) (sym same)
          agrees)

      part_agrees : (payload : ℕ) (found : Option ClientPart) → asking.ask.denied ≡ None
          → is.run.greeting ≡ Live payload → slice_get is.run.parts asking.client ≡ found → AgreesWith asking.shows
      part_agrees payload None denied live at =
          let shows : asking.shows ≡ never_sent = allowed_shown denied ∙ rw live (rw at refl) in
          subst AgreesWith (sym shows) tt
      part_agrees payload (Some part) denied live at =
          pieces_agree part payload (slice_get part.planned.pieces asking.number) denied live at refl

      run_agrees : (greeting : Greeting) → asking.ask.denied ≡ None → is.run.greeting ≡ greeting
          → AgreesWith asking.shows
      run_agrees (Live payload) denied live =
          part_agrees payload (slice_get is.run.parts asking.client) denied live refl
      run_agrees Silent denied silent =
          let shows : asking.shows ≡ never_sent = allowed_shown denied ∙ rw silent refl in
          subst AgreesWith (sym shows) tt
      run_agrees Down denied down =
          let shows : asking.shows ≡ (result.LinkLost, []) = allowed_shown denied ∙ rw down refl in
          subst AgreesWith (sym shows) tt

      ask_agrees : (denied : Option ℕ) → asking.ask.denied ≡ denied → AgreesWith asking.shows
      ask_agrees None denied = run_agrees is.run.greeting denied refl
      ask_agrees (Some rule) denied = subst AgreesWith (sym (denied_shown rule denied)) tt

    line_replayed : IsReplayed session.settings.rounds session.boards scripts lines asking
    line_replayed = λ spec spec_at. ask_agrees spec spec_at asking.ask.denied refl

    -- ---- the body of its one piece

    not_denied : (body : ℕ) (denied : Option ℕ) → asking.ask.denied ≡ denied
        → IsWithin session.boards scripts body asking → asking.ask.denied ≡ None
    not_denied body None denied within = denied
    not_denied body (Some rule) denied within =
        let asked = asked_of session.boards scripts asking.ask.op.board asking.client in
        let none : pieces_of session.boards scripts asking ≡ [] =
        ap (λ (rule : Option ℕ). pieces_unless rule (unwrap_or (slice_get asked.pieces asking.number) [])) denied in
        let one = within.1 in
        absurd cc

    line_fate : (body : ℕ) → IsWithin session.boards scripts body asking
        → fate_in asking.shows.0 ≡ fate_on is.run asking.client body
    line_fate body within =
        let board = asking.ask.op.board in
        let found = over_at session session.boards scripts runs links over board is.run is.there in
        let denied = not_denied body asking.ask.denied refl within in
        ap (λ (s : Showing). fate_in s.0) (allowed_shown denied)
        ∙ showing_fate is.run asking.client asking.number asking.ask.op body within.0
        (λ part payload live at. sym (pieces_are part payload found.spec denied found.spec_at live at) ∙ within.1)

  -- ---- two lines

  never_apart : (earlier later : AskedLine) → IsShown earlier → IsShown later
      → TellApart session.boards scripts earlier later → ⊥
  never_apart earlier later one other apart =
      let same : one.run ≡ other.run = same_Some one.run other.run
      (sym one.there ∙ ap (λ (b : ℕ). slice_get runs b) apart.board ∙ other.there) in
      apart.apart (line_fate earlier one apart.body apart.within_earlier
      ∙ ap (λ (run : BoardRun). fate_on run earlier.client apart.body) same
      ∙ ap (λ (client : ℕ). fate_on other.run client apart.body) apart.client
      ∙ sym (line_fate later other apart.body apart.within_later))

  -- No operation among these shows a wrong result.
  pub none_wrong : (all before behind : List AskedLine) (asking : AskedLine) → AllByRecursion IsShown all
      → all ≡ before ++ asking ∷ behind
      → ((IsReplayed session.settings.rounds session.boards scripts lines asking → ⊥)
      ⊎ Any (λ earlier. TellApart session.boards scripts earlier asking) before) → ⊥
  none_wrong all before behind asking are same wrong =
      let cut : AllByRecursion IsShown (before ++ asking ∷ behind) = subst (AllByRecursion IsShown) same are in
      let here = (back_of_all IsShown before (asking ∷ behind) cut).0 in
      elim wrong [
        | inl not ↦ not (line_replayed asking here)
        | inr apart ↦
            let found = at_any (λ earlier. TellApart session.boards scripts earlier asking) before apart in
            let earlier = all_at IsShown before found.0 found.1 (front_of_all IsShown before (asking ∷ behind) cut)
            found.2 in
            never_apart found.1 asking earlier here found.3
      ]
