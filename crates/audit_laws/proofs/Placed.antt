-- WHAT IS SHOWN OF THE PLACES OF A BOARD, where no line shows some of its places and not all: the places of its run, in
-- its order.
use Rattle.std.proofs.Common.{◌≡◌, ℕ, zero, suc, ◌+◌, List, [], ◌∷◌, map, Option, Some, refl, sym, ap, subst, ◌∙◌}
use Rattle.std.proofs.Common.{◌<◌, arith}
use Rattle.std.specs.Option.{option_map_or}
use Rattle.std.specs.List.{AllByRecursion, Any, slice_get}
use Rattle.std.proofs.lemmas.Option.{same_Some}
use Rattle.ipb_base.proofs.AllLemmas.{all-map}
use Rattle.board_specs.specs.declared.spec.BoardSpec.{BoardSpec}
use Rattle.board_specs.specs.declared.spec.LinkSpec.{LinkSpec}
use Rattle.board_specs.specs.declared.spec.LinkSpec.TheVariants.{Sim, Udp}
use Rattle.world_model.specs.Settings.{Limits}
use Rattle.script_steps.specs.declared.operation.Step.{Step}
use Rattle.script_lang.specs.declared.session.Session.{Session}
use Rattle.script_plans.specs.declared.greeting.Greeting.TheVariants.{Live, Down}
use Rattle.script_plans.specs.declared.board_run.ClientPart.{ClientPart}
use Rattle.script_plans.specs.declared.board_run.BoardRun.{BoardRun}
use Rattle.script_plans.specs.Plan.{ClientBodies, count_on, operations, plans_on}
use Rattle.script_plans.proofs.EachBody.{BodiesHavePieces}
use Rattle.script_plans.proofs.Lookups.{all_at}
use Rattle.transcript.specs.Lines.{transcript_of}
use Rattle.transcript.proofs.ShownLines.{planned_there}
use Rattle.board_history.specs.History.{IsOrdered, bodies_by_client, outcomes_by_client}
use Rattle.board_history.specs.Order.{by_place, order}
use Rattle.board_history.specs.Parts.{KeepsScripts}
use Rattle.board_history.specs.Runs.{greeting_of}
use Rattle.board_history.specs.Links.{LinkReport}
use Rattle.board_history.specs.LinkRuns.{AreRunsOver, IsAsTold, IsLiveRun, IsRunOver, TellsPayload}
use Rattle.board_history.proofs.LaneShown.{AllOrdered, all_ordered}
use Rattle.transcript_reader.specs.Entries.{IsHere, IsLinkHere}
use Rattle.run_audit.specs.AskedLines.{AskedLine, ShownPiece, asked_lines, greeting_at, pieces_shown}
use Rattle.run_audit.specs.Places.{IsPartial, IsPartialAt}
use Rattle.run_audit.specs.Replay.{all_placed_from, place_shown, shown_order}
use Rattle.audit_laws.specs.Audited.{IsToldRun, shown_of}
use Rattle.audit_laws.proofs.ToldLines.{IsAskedFor, IsTold, all_told, asked_there}
use Rattle.audit_laws.proofs.LinePlaces.{IsShownIn}
pub use Rattle.audit_laws.proofs.ShownPieces.{IsBoardRun, IsPlacedIn, place_in_part, place_in_parts, place_in_run}
use Rattle.audit_laws.proofs.ShownPieces.{lines_placed, placed_shown}
use Rattle.audit_laws.proofs.ShownOrder.{same_order, shown_place}

-- ---- the board of a run

-- A run stands over a link, and is of the board of its position.
pub record IsOver (settings : Limits) (first : ℕ) (boards : List BoardSpec) (scripts : List (List Step)) (k : ℕ)
    (run : BoardRun) : Type 0 where
  pub spec : BoardSpec
  pub spec_at : slice_get boards k ≡ Some spec
  pub link : LinkReport
  pub over : IsRunOver settings spec (first + k) scripts run link

pub over_at : (settings : Limits) (first : ℕ) (boards : List BoardSpec) (scripts : List (List Step))
    (runs : List BoardRun) (links : List LinkReport) (k : ℕ) (run : BoardRun)
    → AreRunsOver settings first boards scripts runs links → slice_get runs k ≡ Some run
    → IsOver settings first boards scripts k run
over_at settings first [] scripts [] [] k run are at = absurd cc
over_at settings first [] scripts [] (link ∷ links) k run are at = absurd are
over_at settings first [] scripts (r ∷ runs) links k run are at = absurd are
over_at settings first (spec ∷ boards) scripts [] links k run are at = absurd are
over_at settings first (spec ∷ boards) scripts (r ∷ runs) [] k run are at = absurd are
over_at settings first (spec ∷ boards) scripts (r ∷ runs) (link ∷ links) zero run are at =
    let none : first ≡ first + 0 = omega arith in
    record {
      spec = spec;
      spec_at = refl;
      link = link;
      over =
          subst (λ n. IsRunOver settings spec n scripts run link) none
          (subst (λ (x : BoardRun). IsRunOver settings spec first scripts x link) (same_Some r run at) are.0);
    }
over_at settings first (spec ∷ boards) scripts (r ∷ runs) (link ∷ links) (suc k) run are at =
    let later = over_at settings (first + 1) boards scripts runs links k run are.1 at in
    let next : first + 1 + k ≡ first + suc k = omega arith in
    record {
      spec = later.spec;
      spec_at = later.spec_at;
      link = later.link;
      over = subst (λ n. IsRunOver settings later.spec n scripts run later.link) next later.over;
    }

-- a simulated board that is live takes packets of its MTU
greeted_here : (link : LinkSpec) (payload : ℕ) → IsLinkHere link → TellsPayload link payload
    → greeting_of link ≡ Live payload
greeted_here (Sim mtu buffers first ranges fates) payload here told = ap (λ n. Live n) (sym told)
greeted_here (Udp address port wait) payload here told = absurd here

pub live_at : (settings : Limits) (first : ℕ) (boards : List BoardSpec) (scripts : List (List Step)) (k payload : ℕ)
    (run : BoardRun) (is : IsOver settings first boards scripts k run) → run.greeting ≡ Live payload
    → IsLiveRun settings is.spec payload run is.link
live_at settings first boards scripts k payload run is live =
    subst (IsAsTold settings is.spec run is.link) live is.over.as_told

greeted_at : (settings : Limits) (first : ℕ) (boards : List BoardSpec) (scripts : List (List Step)) (k payload : ℕ)
    (run : BoardRun) → AllByRecursion IsHere boards → IsOver settings first boards scripts k run
    → run.greeting ≡ Live payload → greeting_at boards k ≡ Live payload
greeted_at settings first boards scripts k payload run here is live =
    ap (λ (found : Option BoardSpec). option_map_or (λ (spec : BoardSpec). greeting_of spec.link) found Down) is.spec_at
    ∙ greeted_here is.spec.link payload (all_at IsHere boards k is.spec is.spec_at here)
    (live_at settings first boards scripts k payload run is live).any_link.packets

each_of : {T : Type 0} (P : T → Type 0) (xs : List T) → ((k : ℕ) (x : T) → slice_get xs k ≡ Some x → P x)
    → AllByRecursion P xs
each_of P [] look = tt
each_of P (x ∷ xs) look = (look 0 x refl, each_of P xs (λ k y at. look (suc k) y at))

both_of : {T : Type 0} (P Q : T → Type 0) (xs : List T) → AllByRecursion P xs → AllByRecursion Q xs
    → AllByRecursion (λ x. P x × Q x) xs
both_of P Q [] all also = tt
both_of P Q (x ∷ xs) all also = ((all.0, also.0), both_of P Q xs all.1 also.1)

-- ---- a run of a session

module _ (session : Session) (steps : List (List Step)) (runs : List BoardRun) (links : List LinkReport)
    (told : IsToldRun session steps runs links) where
  abbrev pub lines : List AskedLine
  lines = asked_lines steps (shown_of (transcript_of steps runs))

  -- the pieces of a board that are shown with a place
  abbrev pub pieces_of_board : ℕ → List ShownPiece
  pieces_of_board board = pieces_shown session.boards steps board lines

  pub all_lines_told : AllByRecursion (IsTold runs) lines
  all_lines_told = all_told runs 1 0 steps told.run.denied

  orders : AllOrdered 0 steps runs
  orders = all_ordered session.settings 0 session.boards steps runs links told.run.boards

  module _ (board : ℕ) (run : BoardRun) (there : slice_get runs board ≡ Some run) where
    pub is_over : IsOver session.settings 0 session.boards steps board run
    is_over = over_at session.settings 0 session.boards steps runs links board run told.run.boards there

    -- each body has an outcome, and the places are 1, 2, .., each of one body
    pub is_ordered : IsOrdered run
    is_ordered = all_at IsOrdered runs board run there orders.orders

    pub is_board_run : IsBoardRun session.boards steps board run
    is_board_run =
        let first : 0 + board ≡ board = omega arith in
        record {
          planned =
              subst (λ n. map (λ (part : ClientPart). part.planned) run.parts ≡ plans_on n run.greeting steps) first
              (planned_there steps 0 runs board run orders.planned there);
          shape = is_ordered.shape;
          greeted = λ payload live. greeted_at session.settings 0 session.boards steps board payload run told.can.boards'
              is_over live;
        }

    -- the places of each client's bodies rise
    pub keeps_scripts : (payload : ℕ) → run.greeting ≡ Live payload
        → KeepsScripts (bodies_by_client run) (outcomes_by_client run)
    keeps_scripts payload live =
        (live_at session.settings 0 session.boards steps board payload run is_over live).any_link.script_order

  -- ---- where no line shows some places and not all

  module _ (law : BodiesHavePieces)
      (whole : (line : ℕ) → IsPartialAt session.boards steps (shown_of (transcript_of steps runs)) line → ⊥) where
    none_partial : AllByRecursion (λ asking. IsPartial session.boards steps asking → ⊥) lines
    none_partial =
        each_of (λ asking. IsPartial session.boards steps asking → ⊥) lines
        (λ at asking there is. whole asking.line
        (record { at = at; asking = asking; there = there; here = refl; is_partial = is }))

    all_whole : AllByRecursion (λ asking. IsTold runs asking × (IsPartial session.boards steps asking → ⊥)) lines
    all_whole =
        both_of (IsTold runs) (λ asking. IsPartial session.boards steps asking → ⊥) lines all_lines_told none_partial

    each_asked : (board client : ℕ) (script : List Step) (number : ℕ) → slice_get steps client ≡ Some script
        → number < count_on board (operations script) → Any (IsAskedFor client board number) lines
    each_asked board client script number at within =
        let first : 0 + client ≡ client = omega arith in
        subst (λ c. Any (IsAskedFor c board number) lines) first
        (asked_there runs 1 0 steps client script board number told.run.denied at within)

    module _ (board : ℕ) (run : BoardRun) (there : slice_get runs board ≡ Some run) where
      -- EVERY PIECE THAT IS SHOWN HAS THE PLACE OF ITS BODY, and its number there.
      pub pieces_are_placed : AllByRecursion (IsPlacedIn run) (pieces_of_board board)
      pieces_are_placed =
          lines_placed session.boards steps runs board run there (is_board_run board run there) lines all_whole

      -- every body with a place is shown
      pub placed_is_shown : (client body place : ℕ) → place_in_run run client body ≡ Some place
          → Any (IsShownIn client body) (pieces_of_board board)
      placed_is_shown client body place is =
          placed_shown session.boards steps runs board run there (is_board_run board run there) law lines all_whole
          (each_asked board) client body place is

      -- THE PLACES THAT ARE SHOWN ARE THOSE OF THE RUN.
      pub places_are_shown : (client body : ℕ)
          → place_shown (pieces_of_board board) client body ≡ place_in_run run client body
      places_are_shown client body =
          shown_place (place_in_run run) (pieces_of_board board) client body
          (all-map (IsPlacedIn run) (λ (piece : ShownPiece). place_in_run run piece.client piece.body ≡ Some piece.place)
          (pieces_of_board board) (λ piece placed. placed.placed') pieces_are_placed)
          (placed_is_shown client body)

      -- THE ORDER THAT IS SHOWN IS THAT OF THE RUN.
      pub order_is_shown : shown_order (pieces_of_board board) (plans_on board run.greeting steps)
          ≡ order (bodies_by_client run) (outcomes_by_client run)
      order_is_shown =
          let planned = (is_board_run board run there).planned in
          let same = same_order (pieces_of_board board) 0 run.parts (is_ordered board run there).shape
          (λ i k. let first : 0 + i ≡ i = omega arith in
          ap (λ c. place_shown (pieces_of_board board) c k) first ∙ places_are_shown i k) in
          ap (λ (plans : List ClientBodies). by_place (all_placed_from (pieces_of_board board) 0 plans)) (sym planned)
          ∙ ap by_place same

-- where the client has this part, that is the place of its outcome
pub place_of_part : (run : BoardRun) (client body : ℕ) (part : ClientPart) → slice_get run.parts client ≡ Some part
    → place_in_run run client body ≡ place_in_part part body
place_of_part run client body part at = rw at refl
