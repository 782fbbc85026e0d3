-- What `save` and `apply` leave by bytes that break none of their rules.
use Rattle.std.proofs.Common.{◌≡◌, ℕ, List, [], ◌∷◌, length, Result}
use Rattle.std.proofs.Common.{sym, subst, ◌∙◌, arith}
use Rattle.board_specs.specs.declared.spec.LinkSpec.{LinkSpec}
use Rattle.board_history.specs.Links.{LinkReport}
use Rattle.board_history.specs.LinkRuns.{AreRunsOver}
use Rattle.script_steps.specs.declared.operation.Step.{Step}
use Rattle.script_lang.specs.declared.session.Session.{Session}
use Rattle.script_plans.specs.declared.board_run.BoardRun.{BoardRun}
use Rattle.session_run.specs.declared.session.RunFault.{RunFault}
use Rattle.session_run.specs.declared.session.RunFault.TheVariants.{Rack}
use Rattle.session_run.specs.Faults.{IsRunFailure}
use Rattle.transcript.specs.Lines.{client_lines, run_status, transcript_of}
use Rattle.config_store.specs.Text.{state_text}
use Rattle.config_input.specs.Deserved.{IsApplicable, IsReadFor, IsSavable}
use Rattle.config_input.specs.Work.{ConfigCommand, apply_command, save_command}
use Rattle.command_terms.specs.declared.answer.Answer.{Answer}
use Rattle.command_terms.specs.Leaving.{Leaves}
use Rattle.command_terms.specs.Outside.{NoneCame, no_pairs}
use Rattle.command_terms.specs.Terms.{Terms}
use Rattle.run_laws.specs.Leaving.{RunLeaves}
use Rattle.run_laws.specs.Steps.{CanRunSteps}
use Rattle.run_laws.proofs.Leaving.{RunsLaw, run_left}
use Rattle.config_commands.specs.Applied.{IsAppliedText}
use Rattle.config_commands.specs.Saved.{IsOpeningText}
use Rattle.config_commands.specs.Steps.{Writes}
use Rattle.config_commands.specs.Terms.{apply_terms, save_terms}
use Rattle.config_commands.specs.Written.{AllTell, IsWritten, RanSomeFor}

written_by : RunsLaw → (session : Session) (steps : List Step) (links : List LinkReport) (status : ℕ) (text : List ℕ)
    → CanRunSteps session (steps ∷ []) → Writes session (steps ∷ []) links status text
    → IsWritten session steps links status text
written_by law session steps links status text can writes = record {
  runs = writes.runs;
  run = law session (steps ∷ []) writes.runs links can writes.boards;
  spelled = writes.spelled;
  told = writes.told;
}

-- the steps of the documents of a command can be run
abbrev pub CanLaw : ConfigCommand → Type 0
CanLaw command = (bytes : List ℕ) (session : Session) (steps : List (List Step))
    → IsReadFor command bytes session steps → CanRunSteps session steps

-- The terms of a command go by its documents: it uses the boards of one, and what it writes of the steps of the one
-- client is done.
pub record GoBy (command : ConfigCommand) (terms : Terms) : Type 0 where
  pub uses : (bytes : List ℕ) (specs : List LinkSpec) (links : List LinkReport) → RanSomeFor command bytes specs links
      → terms.Uses bytes specs links
  pub done : (bytes : List ℕ) (session : Session) (steps : List Step) (links : List LinkReport) (status : ℕ)
      (text : List ℕ) → IsReadFor command bytes session (steps ∷ []) → Writes session (steps ∷ []) links status text
      → terms.Done bytes (no_pairs links) status text

-- so what it leaves is what they owe
module _ {command : ConfigCommand} {terms : Terms} (go : GoBy command terms) {bytes : List ℕ} {session : Session} where
  done_by : (steps : List (List Step)) (links : List LinkReport) → IsReadFor command bytes session steps
      → length steps ≡ 1 → (status : ℕ) (text : List ℕ) → Writes session steps links status text
      → terms.Done bytes (no_pairs links) status text
  done_by [] links read alone status text writes = absurd cc
  done_by (one ∷ other ∷ others) links read alone status text writes = absurd (omega (arith, alone))
  done_by (steps ∷ []) links read alone status text writes =
      go.done bytes session steps links status text read writes

  pub leaves_by : {steps handed : List (List Step)} {made makes : List LinkSpec} {result : Result Answer RunFault}
      {links : List LinkReport} → IsReadFor command bytes session steps → length steps ≡ 1 → handed ≡ steps
      → RunLeaves (Writes session handed) session handed made makes result links
      → Leaves NoneCame IsRunFailure Rack terms bytes made makes result (no_pairs links)
  leaves_by {steps} {handed} {made} {makes} {result} {links} read alone same leaves =
      run_left (Writes session steps) session steps made makes terms bytes result links
      (λ specs first left. go.uses bytes specs links
      (record { session = session; steps = steps; read = read; first = first; left = left }))
      (done_by steps links read alone)
      (subst (λ steps. RunLeaves (Writes session steps) session steps made makes result links) same leaves)

-- ---- save

abbrev pub SavedLaw : Type 0
SavedLaw = (bytes : List ℕ) (session : Session) (steps : List Step) (runs : List BoardRun) (links : List LinkReport)
    → IsSavable bytes session (steps ∷ [])
    → AreRunsOver session.settings 0 session.boards (steps ∷ []) runs links → AllTell links
    → run_status (transcript_of (steps ∷ []) runs).clients ≡ 0
    → IsOpeningText session (state_text session.boards (client_lines runs 0 steps))

pub save_goes : RunsLaw → CanLaw save_command → SavedLaw → GoBy save_command save_terms
save_goes runs can law = record {
  uses = λ bytes specs links ran. ran;
  done = λ bytes session steps links status text is writes. record {
    session = session;
    steps = steps;
    savable = is;
    written = written_by runs session steps links status text (can bytes session (steps ∷ []) is) writes;
    opening = λ zero tell. subst (IsOpeningText session) (sym writes.spelled)
        (law bytes session steps writes.runs links is writes.boards tell (sym writes.told ∙ zero));
  };
}

-- ---- apply

abbrev pub AppliedLaw : Type 0
AppliedLaw = (bytes : List ℕ) (session : Session) (steps : List Step) (runs : List BoardRun) (links : List LinkReport)
    (is : IsApplicable bytes session (steps ∷ []))
    → AreRunsOver session.settings 0 session.boards (steps ∷ []) runs links → AllTell links
    → run_status (transcript_of (steps ∷ []) runs).clients ≡ 0
    → IsAppliedText session (apply_command.work is.document).values
    (state_text session.boards (client_lines runs 0 steps))

pub apply_goes : RunsLaw → CanLaw apply_command → AppliedLaw → GoBy apply_command apply_terms
apply_goes runs can law = record {
  uses = λ bytes specs links ran. ran;
  done = λ bytes session steps links status text is writes. record {
    session = session;
    steps = steps;
    applicable = is;
    written = written_by runs session steps links status text (can bytes session (steps ∷ []) is) writes;
    applied = λ zero tell. subst (IsAppliedText session (apply_command.work is.document).values) (sym writes.spelled)
        (law bytes session steps writes.runs links is writes.boards tell (sym writes.told ∙ zero));
  };
}
