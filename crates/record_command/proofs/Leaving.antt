-- What a recording leaves, put together from what its steps say.
use Rattle.std.proofs.Common.{◌≡◌, ℕ, ◌==◌, ◌&&◌, List, Result, Ok, Err, IfErr, IfOk, length, ◌≤◌, refl, ap}
use Rattle.std.specs.Result.{IsErr, IsErrAnd}
use Rattle.ipb_base.specs.Faults.{Rose}
use Rattle.board_specs.specs.declared.spec.LinkSpec.{LinkSpec}
use Rattle.links.specs.declared.rack.RackFault.{RackFault}
use Rattle.links.specs.declared.rack.RackFault.TheVariants as rack
use Rattle.board_history.specs.Links.{LinkReport}
use Rattle.script_steps.specs.declared.operation.Step.{Step}
use Rattle.script_lang.specs.declared.session.Session.{Session}
use Rattle.session_input.specs.Recording.{IsRecordable}
use Rattle.session_run.specs.declared.session.RunFault.{RunFault}
use Rattle.session_run.specs.declared.session.RunFault.TheVariants.{NoMemory, Rack}
use Rattle.session_run.specs.Faults.{IsRunFailure, run_fault}
use Rattle.session_run.proofs.Faults.{no_memory_is_no_rack}
use Rattle.transcript.specs.Lines.{all_good, transcript_of}
use Rattle.command_terms.specs.declared.answer.Answer.{Answer}
use Rattle.ipb_outside.specs.Faults.{RisesExactlyIf}
use Rattle.command_terms.specs.Leaving.{Leaves}
use Rattle.command_terms.specs.Numbers.{IsDoneStatus}
use Rattle.command_terms.specs.Outside.{NoneCame, no_pairs}
use Rattle.command_terms.proofs.Leaving.{same_Err}
use Rattle.command_terms.proofs.Statuses.{told_is_done}
use Rattle.run_laws.specs.Leaving.{RunLeaves}
use Rattle.run_laws.specs.Steps.{CanRunSteps}
use Rattle.run_laws.proofs.Leaving.{RunsLaw, run_answered, run_failed, run_left}
use Rattle.session_run.specs.Links.{AreLeft, AreMadeFor}
use Rattle.record_command.specs.Headline.{body_count}
use Rattle.record_command.specs.Steps.{Records}
use Rattle.record_command.specs.Terms.{record_terms}

-- a fault of a rack is told as one of a recording
pub rises_by : (fault : RackFault) (result : Result Answer RunFault) (before now : ℕ)
    → IsErr result → IsErrAnd result (λ why. why ≡ run_fault fault) → (fault ≡ rack.Failed → Rose before now)
    → before ≤ now → ((fault ≡ rack.Failed → ⊥) → now ≡ before) → RisesExactlyIf (result ≡ Err Rack) before now
rises_by fault (Ok answer) before now fails is failed later calm = absurd cc
rises_by rack.Failed (Err why) before now fails is failed later calm =
    (λ told. failed refl, later, λ other. absurd (other (ap Err is)))
rises_by rack.NoMemory (Err why) before now fails is failed later calm =
    (λ told. absurd (no_memory_is_no_rack why is (same_Err why Rack told)), later, λ other. calm (λ same. cc))

-- the answer was written, or memory ran out
pub written_left : (Tells : List LinkReport → ℕ → List ℕ → Type 0) (session : Session) (steps : List (List Step))
    (made makes : List LinkSpec) (result : Result Answer RunFault) (links : List LinkReport)
    → AreLeft 0 session.boards steps links → AreMadeFor session.boards links made makes
    → IfErr result (λ why. why ≡ NoMemory) → IfOk result (λ answer. Tells links answer.status answer.text.items)
    → RunLeaves Tells session steps made makes result links
written_left Tells session steps made makes (Ok answer) links left links_made fails tells =
    run_answered Tells session steps made makes answer links left links_made tells
written_left Tells session steps made makes (Err why) links left links_made fails tells =
    run_failed Tells session steps made makes (Err why) NoMemory links left links_made refl fails
    (λ rack. absurd (no_memory_is_no_rack NoMemory refl rack))

pub no_rack_fault : (result : Result Answer RunFault) → IfErr result (λ why. why ≡ NoMemory) → result ≡ Err Rack → ⊥
no_rack_fault (Ok answer) fails is = absurd cc
no_rack_fault (Err why) fails is = no_memory_is_no_rack why fails (same_Err why Rack is)

pub record_leaves : RunsLaw → (bytes : List ℕ) (session : Session) (steps : List (List Step))
    (made makes : List LinkSpec) (result : Result Answer RunFault) (links : List LinkReport)
    → IsRecordable bytes session steps → CanRunSteps session steps
    → RunLeaves (Records session steps) session steps made makes result links
    → Leaves NoneCame IsRunFailure Rack record_terms bytes made makes result (no_pairs links)
record_leaves law bytes session steps made makes result links is can =
    run_left (Records session steps) session steps made makes record_terms bytes result links
    (λ specs first left. record { session = session; steps = steps; recordable = is; first = first; left = left })
    (λ status text records. record {
      session = session;
      steps = steps;
      recordable = is;
      board = records.board;
      one_board = records.one_board;
      runs = records.runs;
      run = law session steps records.runs links can records.boards;
      capture = records.capture;
      first = records.first;
      has_text = records.writes.has_text;
      spelled = records.writes.spelled;
      proved = records.writes.proved;
      is_proved = records.writes.is_proved;
      told = records.writes.told;
      link = records.link;
      one_link = records.one_link;
      is_traffic = records.is_traffic;
      telling = records.telling;
      tells = records.tells;
      shows = records.shows;
    })

pub is_done : (session : Session) (steps : List (List Step)) (links : List LinkReport) (status : ℕ) (text : List ℕ)
    → Records session steps links status text → IsDoneStatus status
is_done session steps links status text records =
    told_is_done (all_good (transcript_of steps records.runs).clients
    && (records.writes.proved == body_count records.runs)) status records.writes.told
