-- Where all was done, the text of a run is that of the configuration of its boards.
use Rattle.std.proofs.Common.{◌≡◌, ℕ, List, [], ◌∷◌, Option, ◌∙◌, subst}
use Rattle.std.specs.List.{AllByRecursion}
use Rattle.access_policy.specs.Decisions.{names_of, ruled_scripts}
use Rattle.access_policy.specs.declared.policy.Rule.{Rule}
use Rattle.board_specs.specs.declared.spec.BoardSpec.{BoardSpec}
use Rattle.board_history.specs.Links.{CanBeMade, LinkReport}
use Rattle.board_history.specs.LinkRuns.{AreRunsOver}
use Rattle.node_tree.specs.Maps.{RegisterMap}
use Rattle.run_laws.proofs.Buses.{all_made}
use Rattle.script_lang.specs.declared.session.Session.{Session}
use Rattle.script_lang.specs.Document.{IsSession}
use Rattle.script_lang.specs.Limits.{IsWithin}
use Rattle.script_lang.specs.Scripts.{steps_from, steps_of}
use Rattle.script_plans.specs.declared.board_run.BoardRun.{BoardRun}
use Rattle.script_steps.specs.declared.operation.Step.{Step}
use Rattle.toml.specs.Data.{Members}
use Rattle.transcript.specs.Lines.{run_status, transcript_of}
use Rattle.world_model.specs.Settings.{Limits}
use Rattle.config_store.specs.Kept.{indexed_boards}
use Rattle.config_input.specs.Deserved.{IsAsked}
use Rattle.config_input.specs.Work.{Work}

first_same : {A : Type 0} (x y : A) → ◌≡◌ {A = List A} (x ∷ []) (y ∷ []) → x ≡ y
first_same x y same = cc

-- nothing was denied: the steps are those of the script
abbrev pub PermittedLaw : Type 0
PermittedLaw = (settings : Limits) (specs : List BoardSpec) (indexes : List RegisterMap)
    (scripts : List (List (List ℕ))) (policy : Option (List Rule)) (runs : List BoardRun) (links : List LinkReport)
    → AreRunsOver settings 0 specs (ruled_scripts policy (names_of specs) (steps_of specs indexes scripts)) runs links
    → run_status (transcript_of (ruled_scripts policy (names_of specs) (steps_of specs indexes scripts)) runs).clients ≡ 0
    → ruled_scripts policy (names_of specs) (steps_of specs indexes scripts) ≡ steps_of specs indexes scripts

pub script_steps : PermittedLaw → (work : Work) (session : Session) (policy : Option (List Rule)) (steps : List Step)
    (runs : List BoardRun) (links : List LinkReport) (asks : IsAsked work session policy (steps ∷ []))
    → AreRunsOver session.settings 0 session.boards (steps ∷ []) runs links
    → run_status (transcript_of (steps ∷ []) runs).clients ≡ 0
    → steps ≡ steps_from session.boards asks.registers 1 (work.script (indexed_boards session.boards asks.registers))
script_steps law work session policy steps runs links asks are zero =
    let boards = session.boards in
    let lines = work.script (indexed_boards boards asks.registers) in
    let permitted =
    law session.settings boards asks.registers (lines ∷ []) policy runs links
    (subst (λ all. AreRunsOver session.settings 0 boards all runs links) asks.meant are)
    (subst (λ all. run_status (transcript_of all runs).clients ≡ 0) asks.meant zero) in
    first_same steps (steps_from boards asks.registers 1 lines) (asks.meant ∙ permitted)

pub made_boards : ((document : Members) (session : Session) → IsSession document session → IsWithin session)
    → (work : Work) (session : Session) (policy : Option (List Rule)) (steps : List (List Step)) (document : Members)
    → IsSession document session → IsAsked work session policy steps
    → AllByRecursion (λ (spec : BoardSpec). CanBeMade spec.link) session.boards
made_boards limits work session policy steps document is asks =
    all_made session.boards (limits document session is).boards asks.boards.buses
