-- A run owes one answer to bytes, where its clients have boards of their own.
use Rattle.std.proofs.Common.{◌≡◌, ℕ, inl, inr, List, sym, ap, ◌∙◌}
use Rattle.std.specs.List.{AllByRecursion}
use Rattle.board_history.specs.Runs.{runs_from}
use Rattle.board_history.specs.Links.{LinkReport, IsFaithful}
use Rattle.board_history.specs.LinkRuns.{HaveOwnBoards}
use Rattle.script_steps.specs.declared.operation.Step.{Step}
use Rattle.script_lang.specs.Document.{SameSession}
use Rattle.script_lang.specs.declared.session.Session.{Session}
use Rattle.script_plans.specs.declared.board_run.BoardRun.{BoardRun}
use Rattle.session_input.specs.Deserved.{IsRunnable}
use Rattle.transcript.specs.Lines.{transcript_of, run_status}
use Rattle.transcript.specs.Text.{transcript_text}
use Rattle.command_terms.specs.Outside.{GivenBack}
use Rattle.command_terms.specs.Terms.{AreTerms, Owes}
use Rattle.run_laws.specs.Runs.{IsSessionRun}
use Rattle.run_laws.specs.Steps.{CanRunSteps}
use Rattle.run_command.specs.Headline.{IsTranscriptOf}
use Rattle.run_command.specs.Terms.{run_terms}

abbrev Same : ℕ → ℕ → List ℕ → List ℕ → Type 0
Same s t a b = (s ≡ t) × (a ≡ b)

-- no two clients use one board
abbrev pub OfOwnBoards : List ℕ → Type 0
OfOwnBoards bytes = (session : Session) (steps : List (List Step)) → IsRunnable bytes session steps
    → HaveOwnBoards 0 session.boards steps

module _ (terms : AreTerms run_terms)
    (one_run : (bytes : List ℕ) (s t : Session) (steps more : List (List Step)) → IsRunnable bytes s steps
    → IsRunnable bytes t more → SameSession s t × (steps ≡ more))
    (can : (bytes : List ℕ) (session : Session) (steps : List (List Step)) → IsRunnable bytes session steps
    → CanRunSteps session steps)
    (only : (session : Session) (steps : List (List Step)) (runs : List BoardRun) (links : List LinkReport)
    → CanRunSteps session steps → IsSessionRun session steps runs links → AllByRecursion IsFaithful links
    → HaveOwnBoards 0 session.boards steps → runs ≡ runs_from 0 session.boards steps) where
  one_transcript : (bytes : List ℕ) (links others : List LinkReport) (s t : ℕ) (a b : List ℕ)
      → OfOwnBoards bytes → AllByRecursion IsFaithful links → AllByRecursion IsFaithful others
      → IsTranscriptOf bytes links s a → IsTranscriptOf bytes others t b → Same s t a b
  one_transcript bytes links others s t a b own calm quiet one other =
      let same = one_run bytes one.session other.session one.steps other.steps one.runnable other.runnable in
      let mine : one.runs ≡ runs_from 0 one.session.boards one.steps =
      only one.session one.steps one.runs links (can bytes one.session one.steps one.runnable) one.run calm
      (own one.session one.steps one.runnable) in
      let theirs : other.runs ≡ runs_from 0 other.session.boards other.steps =
      only other.session other.steps other.runs others (can bytes other.session other.steps other.runnable) other.run
      quiet (own other.session other.steps other.runnable) in
      let at_boards = ap (λ boards. runs_from 0 boards one.steps) same.0.boards in
      let at_steps = ap (λ steps. runs_from 0 other.session.boards steps) same.1 in
      let runs : one.runs ≡ other.runs = mine ∙ at_boards ∙ at_steps ∙ sym theirs in
      let printed : transcript_of one.steps one.runs ≡ transcript_of other.steps other.runs =
      ap (λ steps. transcript_of steps one.runs) same.1 ∙ ap (transcript_of other.steps) runs in (
        one.told ∙ ap (λ told. run_status told.clients) printed ∙ sym other.told,
        one.spelled ∙ ap transcript_text printed ∙ sym other.spelled,
      )

  pub one_answer : (bytes : List ℕ) (given others : GivenBack) (s t : ℕ) (a b : List ℕ)
      → OfOwnBoards bytes → AllByRecursion IsFaithful given.links → AllByRecursion IsFaithful others.links
      → Owes run_terms bytes given s a → Owes run_terms bytes others t b → Same s t a b
  one_answer bytes given others s t a b own calm quiet (inl one) (inl other) =
      one_transcript bytes given.links others.links s t a b own calm quiet one other
  one_answer bytes given others s t a b own calm quiet (inl done) (inr (refused, why)) =
      absurd (terms.done_apart bytes b given s a done why)
  one_answer bytes given others s t a b own calm quiet (inr (refused, why)) (inl done) =
      absurd (terms.done_apart bytes a others t b done why)
  one_answer bytes given others s t a b own calm quiet (inr (one, why)) (inr (other, because)) =
      (one ∙ sym other, terms.one_line bytes a b why because)
