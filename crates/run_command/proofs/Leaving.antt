-- What a run leaves, put together from what its steps say.
use Rattle.std.proofs.Common.{ℕ, List, Result}
use Rattle.board_specs.specs.declared.spec.LinkSpec.{LinkSpec}
use Rattle.board_history.specs.Links.{LinkReport}
use Rattle.script_steps.specs.declared.operation.Step.{Step}
use Rattle.script_lang.specs.declared.session.Session.{Session}
use Rattle.session_input.specs.Deserved.{IsRunnable}
use Rattle.session_run.specs.declared.session.RunFault.{RunFault}
use Rattle.session_run.specs.declared.session.RunFault.TheVariants.{Rack}
use Rattle.session_run.specs.Faults.{IsRunFailure}
use Rattle.transcript.specs.Lines.{all_good, transcript_of}
use Rattle.command_terms.specs.declared.answer.Answer.{Answer}
use Rattle.command_terms.specs.Leaving.{Leaves}
use Rattle.command_terms.specs.Numbers.{IsDoneStatus}
use Rattle.command_terms.specs.Outside.{NoneCame, no_pairs}
use Rattle.command_terms.proofs.Statuses.{told_is_done}
use Rattle.run_laws.specs.Leaving.{RunLeaves}
use Rattle.run_laws.specs.Steps.{CanRunSteps}
use Rattle.run_laws.proofs.Leaving.{RunsLaw, run_left}
use Rattle.run_command.specs.Steps.{Prints}
use Rattle.run_command.specs.Terms.{run_terms}

pub run_leaves : RunsLaw → (bytes : List ℕ) (session : Session) (steps : List (List Step)) (made makes : List LinkSpec)
    (result : Result Answer RunFault) (links : List LinkReport) → IsRunnable bytes session steps
    → CanRunSteps session steps → RunLeaves (Prints session steps) session steps made makes result links
    → Leaves NoneCame IsRunFailure Rack run_terms bytes made makes result (no_pairs links)
run_leaves law bytes session steps made makes result links runs can =
    run_left (Prints session steps) session steps made makes run_terms bytes result links
    (λ specs first left. record { session = session; steps = steps; runnable = runs; first = first; left = left })
    (λ status text prints. record {
      session = session;
      steps = steps;
      runnable = runs;
      runs = prints.runs;
      run = law session steps prints.runs links can prints.boards;
      spelled = prints.spelled;
      told = prints.told;
    })

pub is_done : (session : Session) (steps : List (List Step)) (links : List LinkReport) (status : ℕ) (text : List ℕ)
    → Prints session steps links status text → IsDoneStatus status
is_done session steps links status text prints =
    told_is_done (all_good (transcript_of steps prints.runs).clients) status prints.told
