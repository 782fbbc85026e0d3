-- The results that a run prints over links that tell are those of the replay of its boards.
use Rattle.std.proofs.Common.{◌≡◌, ℕ, List, [], ◌∷◌, Some, ap, ◌∙◌}
use Rattle.std.specs.Prelude.{option_and_then}
use Rattle.std.specs.List.{AllByRecursion, slice_get}
use Rattle.board_history.specs.Links.{LinkReport}
use Rattle.lane_record.specs.Outcomes.{place_of}
use Rattle.script_lang.specs.declared.session.Session.{Session}
use Rattle.script_steps.specs.declared.operation.Step.{Step}
use Rattle.script_plans.specs.declared.board_run.BoardRun.{BoardRun}
use Rattle.script_plans.specs.declared.greeting.Greeting.TheVariants.{Live}
use Rattle.script_plans.proofs.EachBody.{BodiesHavePieces}
use Rattle.transcript.specs.Lines.{transcript_of}
use Rattle.run_audit.specs.AskedLines.{asked_lines}
use Rattle.run_audit.specs.Places.{IsPartialAt}
use Rattle.run_audit.specs.Results.{IsWrongAt}
use Rattle.audit_laws.specs.Audited.{IsToldRun, shown_of}
use Rattle.audit_laws.proofs.Placed.{order_is_shown, place_of_part, places_are_shown}
use Rattle.audit_laws.proofs.ResultsLines.{asked_lines_shown}
use Rattle.audit_laws.proofs.ResultsLive.{ArePlaced}
use Rattle.audit_laws.proofs.ResultsRun.{IsRightLine, none_wrong}

-- what holds of each item in each of two ways
both_all : {A : Type 0} (P Q : A → Type 0) (xs : List A) → AllByRecursion P xs → AllByRecursion Q xs
    → AllByRecursion (λ x. P x × Q x) xs
both_all P Q [] first second = tt
both_all P Q (x ∷ xs) first second = ((first.0, second.0), both_all P Q xs first.1 second.1)

both_lists : {A : Type 0} (P Q : A → Type 0) (xss : List (List A)) → AllByRecursion (AllByRecursion P) xss
    → AllByRecursion (AllByRecursion Q) xss → AllByRecursion (AllByRecursion (λ x. P x × Q x)) xss
both_lists P Q [] first second = tt
both_lists P Q (xs ∷ xss) first second =
    (both_all P Q xs first.0 second.0, both_lists P Q xss first.1 second.1)

-- Where the lines show the places of each live board, no result is wrong.
pub results_from : (session : Session) (steps : List (List Step)) (runs : List BoardRun) (links : List LinkReport)
    → IsToldRun session steps runs links
    → ((board : ℕ) (run : BoardRun) (payload : ℕ) → slice_get runs board ≡ Some run → run.greeting ≡ Live payload
    → ArePlaced session.boards steps (asked_lines steps (shown_of (transcript_of steps runs))) board run)
    → (line : ℕ)
    → IsWrongAt session.settings.rounds session.boards steps (shown_of (transcript_of steps runs)) line → ⊥
results_from session steps runs links is placing line wrong =
    let lines = asked_lines steps (shown_of (transcript_of steps runs)) in
    let right = both_lists _ _ (transcript_of steps runs).clients is.run.answered is.run.rounds in
    let shown = asked_lines_shown (IsRightLine session runs links) steps runs is.run.denied right in
    none_wrong session steps runs links is.run.boards is.told lines placing lines wrong.before wrong.behind wrong.asking
    shown wrong.all wrong.wrong

-- Where no line shows some of its places and not all, no result is wrong.
pub results_hold : BodiesHavePieces → (session : Session) (steps : List (List Step)) (runs : List BoardRun)
    (links : List LinkReport) → IsToldRun session steps runs links
    → ((line : ℕ) → IsPartialAt session.boards steps (shown_of (transcript_of steps runs)) line → ⊥) → (line : ℕ)
    → IsWrongAt session.settings.rounds session.boards steps (shown_of (transcript_of steps runs)) line → ⊥
results_hold body_law session steps runs links is whole =
    results_from session steps runs links is (λ board run payload there live. record {
      places' = λ client k part outcome at became.
          places_are_shown session steps runs links is body_law whole board run there client k
          ∙ place_of_part run client k part at ∙ ap (option_and_then place_of) became;
      ordered = order_is_shown session steps runs links is body_law whole board run there;
    })
