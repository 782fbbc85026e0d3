-- What each command left, said as what the program's call leaves.
use Rattle.std.proofs.Common.{◌≡◌, ℕ, List, [], Option, Result, Ok, Err, map, refl, sym, subst}
use Rattle.std.proofs.Common.{String, Global, append-nil}
use Rattle.std.specs.Result.{IsErr, IsErrAnd}
use Rattle.ipb_outside.specs.declared.sink.Sink.{Ghosts as SinkGhosts}
use Rattle.ipb_outside.specs.declared.source.Source.{Ghosts as SourceGhosts}
use Rattle.board_specs.specs.declared.spec.LinkSpec.{LinkSpec}
use Rattle.board_history.specs.Links.{LinkReport}
use Rattle.session_run.specs.Faults.{IsRunFailure}
use Rattle.session_run.specs.declared.session.RunFault.{RunFault}
use Rattle.session_run.specs.declared.session.RunFault.TheVariants as run
use Rattle.session_serve.specs.Executed.{CameInFrames}
use Rattle.session_serve.specs.Serving.{AreBack}
use Rattle.session_serve.proofs.Executing.{none_executed}
use Rattle.command_words.specs.declared.command.Command.{Command}
use Rattle.command_terms.specs.declared.answer.Answer.{Answer}
use Rattle.command_terms.specs.Leaving.{Leaves}
use Rattle.command_terms.specs.Outside.{GivenBack, NoneCame, no_pairs}
use Rattle.command_terms.specs.Terms.{AreTerms, Owes}
use Rattle.command_terms.proofs.Leaving.{Told, done_as, failed_as, failure_left, none_came, nothing_left}
use Rattle.command_terms.proofs.Pairs.{Together, therefore, without_pairs}
use Rattle.ipbus_program.specs.Commands.{terms_of}
use Rattle.ipbus_program.specs.declared.no_answer.NoAnswer.{NoAnswer}
use Rattle.ipbus_program.specs.declared.no_answer.NoAnswer.TheVariants.{RackFault}
use Rattle.ipbus_program.specs.Ended.{Ended}
use Rattle.ipbus_program.specs.Owed.{AreCommand}
use Rattle.ipbus_program.specs.Outputs.{Delivers}
use Rattle.ipbus_program.specs.Steps.{InputLeaves, IsFailure, no_answer_of, status_of}
use Rattle.ipbus_program.proofs.Ending.{Untouched, delivered, failed, outside}
use Rattle.ipbus_program.proofs.Faults.{run_behind, run_rack}
use Rattle.ipbus_program.proofs.Served.{none_as_served}

-- it left this
abbrev pub Left : Command → List ℕ → List LinkSpec → List LinkSpec → Result Answer NoAnswer → GivenBack → Type 0
Left command bytes made makes result given =
    Leaves AreBack IsFailure RackFault (terms_of command) bytes made makes result given

-- a command that lets nobody in left this of links, and calls no door
abbrev pub RanAs : Command → List ℕ → List LinkSpec → List LinkSpec → Result Answer RunFault → List LinkReport → Type 0
RanAs command bytes made makes result links =
    Leaves NoneCame IsRunFailure run.Rack (terms_of command) bytes made makes result (no_pairs links)

module _ {L I O : Type 0} (shown : L → LinkReport) (source : SourceGhosts I) (sink : SinkGhosts O) (old new : List L)
    (coming kept : Option (List (I × O))) (command : Command) (bytes : List ℕ) (made makes : List LinkSpec) where
  -- with an answer
  pub ran_answered : (answer : Answer) → Told shown old new (RanAs command bytes made makes (Ok answer))
      → Together shown source sink old new coming coming kept kept (Left command bytes made makes (Ok answer))
  ran_answered answer told =
      without_pairs shown source sink old new coming coming kept kept refl refl
      (Left command bytes made makes (Ok answer)) (
        told.0,
        told.1,
        done_as NoneCame AreBack none_as_served IsRunFailure run.Rack IsFailure RackFault (terms_of command) bytes made
            makes (no_pairs (map shown told.0)) answer told.2,
      )

  -- or with a fault
  pub ran_failed : (fault : RunFault) (result : Result Answer NoAnswer) → IsErr result
      → IsErrAnd result (λ why. why ≡ no_answer_of fault)
      → Told shown old new (RanAs command bytes made makes (Err fault))
      → Together shown source sink old new coming coming kept kept (Left command bytes made makes result)
  ran_failed fault result fails why told =
      without_pairs shown source sink old new coming coming kept kept refl refl (Left command bytes made makes result) (
        told.0,
        told.1,
        failed_as NoneCame AreBack none_as_served IsRunFailure run.Rack IsFailure RackFault (terms_of command) bytes
            made makes (no_pairs (map shown told.0)) no_answer_of fault result (run_behind fault) (run_rack fault) fails
            why told.2,
      )

-- one that makes no links
module _ {L : Type 0} (shown : L → LinkReport) (kept : List L) (command : Command) (bytes : List ℕ)
    (made : List LinkSpec) where
  pub told_answered : (asked : Command) → command ≡ asked → (answer : Answer)
      → Owes (terms_of asked) bytes (no_pairs []) answer.status answer.text.items
      → Told shown kept kept (RanAs command bytes made made (Ok answer))
  told_answered asked is answer owed =
      nothing_left NoneCame none_came IsRunFailure run.Rack shown kept (terms_of command) bytes made (Ok answer)
      (subst (λ c. Owes (terms_of c) bytes (no_pairs []) answer.status answer.text.items) (sym is) owed)
      (λ fault never. absurd cc)

  pub told_failed : (result : Result Answer RunFault) → IsErr result → IsErrAnd result (λ why. why ≡ run.NoMemory)
      → Told shown kept kept (RanAs command bytes made made result)
  told_failed result fails why =
      failure_left NoneCame none_came IsRunFailure run.Rack shown kept (terms_of command) bytes made result run.NoMemory
      fails why (λ failed. failed)

-- ---- how a call ends

module _ {L I O : Type 0} (shown : L → LinkReport) (source : SourceGhosts I) (sink : SinkGhosts O) where
  -- no link was made and no pair came
  pub nothing_given : (old : List L) (coming kept : Option (List (I × O))) → {words : List (String Global)}
      {left written written_now : Option (List ℕ)} {made : List LinkSpec} {status : ℕ}
      → Untouched words left made written written_now status
      → Together shown source sink old old coming coming kept kept
      (λ given. Ended words (outside left left made made written written_now given) status)
  nothing_given old coming kept {words} {left} {written} {written_now} {made} {status} ended =
      without_pairs shown source sink old old coming coming kept kept refl refl
      (λ given. Ended words (outside left left made made written written_now given) status)
      ([], sym (append-nil old), ended)

  -- nor did a board execute anything that was in no frame
  pub none_in_frames : (old : List L) (coming kept : Option (List (I × O)))
      → Together shown source sink old old coming coming kept kept
      (λ given. CameInFrames given.links given.came given.back)
  none_in_frames old coming kept =
      without_pairs shown source sink old old coming coming kept kept refl refl
      (λ given. CameInFrames given.links given.came given.back) ([], sym (append-nil old), none_executed [] tt)

  -- the words are this command
  module _ (old new : List L) (coming coming_now kept kept_now : Option (List (I × O))) (words : List (String Global))
      {command : Command} (laws : AreTerms (terms_of command)) (are : AreCommand words command)
      {before now : Option (List ℕ)} {made makes : List LinkSpec} (written written_now : Option (List ℕ)) where
    -- so a call ends by what the command left
    ended_by : (result : Result Answer NoAnswer) (status : ℕ)
        → ((given : GivenBack) → InputLeaves (terms_of command) before now made makes result given
        → Ended words (outside before now made makes written written_now given) status)
        → Together shown source sink old new coming coming_now kept kept_now
        (InputLeaves (terms_of command) before now made makes result)
        → Together shown source sink old new coming coming_now kept kept_now
        (λ given. Ended words (outside before now made makes written written_now given) status)
    ended_by result status =
        therefore shown source sink old new coming coming_now kept kept_now
        (InputLeaves (terms_of command) before now made makes result)
        (λ given. Ended words (outside before now made makes written written_now given) status)

    -- it has no answer
    pub unanswered : {result : Result Answer NoAnswer} {why : NoAnswer} → result ≡ Err why
        → Together shown source sink old new coming coming_now kept kept_now
        (InputLeaves (terms_of command) before now made makes result)
        → Together shown source sink old new coming coming_now kept kept_now
        (λ given. Ended words (outside before now made makes written written_now given) (status_of why))
    unanswered {result} {why} is =
        ended_by result (status_of why)
        (λ given. failed words laws are before now made makes written written_now given why is)

    -- it has one, which was handed to the output
    pub answered : {answer : Answer} {handed : List ℕ} → handed ≡ answer.text.items → (met meets : ℕ) → {result : ℕ}
        → Delivers answer.status handed written written_now met meets result
        → Together shown source sink old new coming coming_now kept kept_now
        (InputLeaves (terms_of command) before now made makes (Ok answer))
        → Together shown source sink old new coming coming_now kept kept_now
        (λ given. Ended words (outside before now made makes written written_now given) result)
    answered {answer} same met meets {result} delivers =
        ended_by (Ok answer) result
        (λ given. delivered words laws are before now made makes written written_now given same met meets delivers)
