-- What a command leaves that runs the steps of a session, put together from what its steps say.
use Rattle.std.proofs.Common.{◌≡◌, inr, inl, ℕ, List, length, map, Option}
use Rattle.std.proofs.Common.{Result, Ok, Err, IfOk, refl, sym, ◌∙◌}
use Rattle.std.specs.List.{AllByRecursion}
use Rattle.std.specs.Result.{IsErr, IsErrAnd}
use Rattle.ipb_base.specs.Lists.{IsPrefix}
use Rattle.board_specs.specs.declared.spec.BoardSpec.{BoardSpec}
use Rattle.board_specs.specs.declared.spec.LinkSpec.{LinkSpec}
use Rattle.access_policy.specs.declared.policy.Rule.{Rule}
use Rattle.board_history.specs.Links.{LinkReport, IsUntouched}
use Rattle.board_history.specs.LinkRuns.{AreRunsOver}
use Rattle.script_steps.specs.declared.operation.Step.{Step}
use Rattle.script_lang.specs.declared.session.Session.{Session}
use Rattle.script_plans.specs.declared.board_run.BoardRun.{BoardRun}
use Rattle.session_input.specs.declared.refusal.Refusal.{Refusal}
use Rattle.session_input.specs.Deserved.{Deserves}
use Rattle.session_input.specs.Lines.{refusal_line}
use Rattle.session_run.specs.declared.session.RunFault.{RunFault}
use Rattle.session_run.specs.declared.session.RunFault.TheVariants.{NoMemory, Rack}
use Rattle.session_run.specs.Links.{AreLeft, AreMadeFor, link_specs}
use Rattle.session_run.specs.Faults.{IsRunFailure}
use Rattle.command_terms.specs.declared.answer.Answer.{Answer}
use Rattle.command_terms.specs.Documents.{IsRefusedDocument}
use Rattle.command_terms.specs.Leaving.{Leaves}
use Rattle.command_terms.specs.Numbers.{IsDoneStatus, refused_status}
use Rattle.command_terms.specs.Outside.{NoneCame, no_pairs}
use Rattle.command_terms.specs.Terms.{Owes, Terms}
use Rattle.command_terms.proofs.Leaving.{Told, at_boards, error_left, failed_over, failure_left, none_came}
use Rattle.command_terms.proofs.Leaving.{refusal_left, same_Err}
use Rattle.command_terms.proofs.Statuses.{done_is_no_refusal}
use Rattle.run_laws.specs.Leaving.{RunLeaves}
use Rattle.run_laws.specs.Runs.{IsSessionRun}
use Rattle.run_laws.specs.Steps.{CanRunSteps}

-- outcomes over links are a run of the steps
abbrev pub RunsLaw : Type 0
RunsLaw = (session : Session) (steps : List (List Step)) (runs : List BoardRun) (links : List LinkReport)
    → CanRunSteps session steps → AreRunsOver session.settings 0 session.boards steps runs links
    → IsSessionRun session steps runs links

-- ---- no link was made

module _ {L : Type 0} (shown : L → LinkReport) (kept : List L) (terms : Terms) (bytes : List ℕ)
    (made : List LinkSpec) where
  -- memory ran out
  pub no_memory_left : Told shown kept kept
      (λ links. Leaves NoneCame IsRunFailure Rack terms bytes made made (Err NoMemory) (no_pairs links))
  no_memory_left =
      error_left NoneCame none_came IsRunFailure Rack shown kept terms bytes made NoMemory (λ failed. failed)

  -- and that was handed on
  pub no_memory_handed_on : (result : Result Answer RunFault) → IsErr result → IsErrAnd result (λ why. why ≡ NoMemory)
      → Told shown kept kept (λ links. Leaves NoneCame IsRunFailure Rack terms bytes made made result (no_pairs links))
  no_memory_handed_on result fails is =
      failure_left NoneCame none_came IsRunFailure Rack shown kept terms bytes made result NoMemory fails is
      (λ failed. failed)

  -- the bytes were refused
  pub refused_left : (answer : Answer) → terms.Refuses bytes answer.text.items → answer.status ≡ refused_status
      → Told shown kept kept
      (λ links. Leaves NoneCame IsRunFailure Rack terms bytes made made (Ok answer) (no_pairs links))
  refused_left answer = refusal_left NoneCame none_came IsRunFailure Rack shown kept terms bytes made answer

  -- as a document
  pub refused_document_left : (Breaks : Session → Option (List Rule) → Refusal → Type 0)
      → ((line : List ℕ) → IsRefusedDocument Breaks bytes line → terms.Refuses bytes line)
      → (answer : Answer) (refusal : Refusal) → Deserves Breaks bytes refusal
      → answer.text.items ≡ refusal_line refusal → answer.status ≡ refused_status
      → Told shown kept kept
      (λ links. Leaves NoneCame IsRunFailure Rack terms bytes made made (Ok answer) (no_pairs links))
  refused_document_left Breaks refuses answer refusal deserved spelled =
      refused_left answer
      (refuses answer.text.items (record { refusal = refusal; deserved = deserved; spelled = spelled }))

-- ---- the steps were run

module _ (Tells : List LinkReport → ℕ → List ℕ → Type 0) (session : Session) (steps : List (List Step))
    (made makes : List LinkSpec) where
  same_fault : (result : Result Answer RunFault) (fault other : RunFault) → IsErrAnd result (λ why. why ≡ fault)
      → result ≡ Err other → fault ≡ other
  same_fault (Ok answer) fault other is same = absurd cc
  same_fault (Err why) fault other is same = sym is ∙ same_Err why other same

  no_answer_tells : (result : Result Answer RunFault) (links : List LinkReport) → IsErr result
      → IfOk result (λ answer. Tells links answer.status answer.text.items)
  no_answer_tells (Ok answer) links fails = absurd cc
  no_answer_tells (Err why) links fails = tt

  -- there is no answer
  pub run_failed : (result : Result Answer RunFault) (fault : RunFault) (links : List LinkReport)
      → AreLeft 0 session.boards steps links → AreMadeFor session.boards links made makes
      → IsErr result → IsErrAnd result (λ why. why ≡ fault) → (fault ≡ Rack → AllByRecursion IsUntouched links)
      → RunLeaves Tells session steps made makes result links
  run_failed result fault links left links_made fails is untouched = record {
    left = left;
    links_made = links_made;
    tells = no_answer_tells result links fails;
    untouched = λ rack. untouched (same_fault result fault Rack is rack);
  }

  -- there is one
  pub run_answered : (answer : Answer) (links : List LinkReport) → AreLeft 0 session.boards steps links
      → AreMadeFor session.boards links made makes → Tells links answer.status answer.text.items
      → RunLeaves Tells session steps made makes (Ok answer) links
  run_answered answer links left links_made tells =
      record { left = left; links_made = links_made; tells = tells; untouched = λ never. absurd cc }

  -- the same of the links that a rack was given back, where the boards of the session were run under another name
  module _ {L : Type 0} (shown : L → LinkReport) (old new : List L) (boards : List BoardSpec)
      (same : boards ≡ session.boards) (left : Told shown old new (AreLeft 0 boards steps))
      (links_made : Told shown old new (λ links. AreMadeFor boards links made makes)) where
    pub run_failed_over : (result : Result Answer RunFault) (fault : RunFault) → IsErr result
        → IsErrAnd result (λ why. why ≡ fault) → (fault ≡ Rack → Told shown old new (AllByRecursion IsUntouched))
        → Told shown old new (RunLeaves Tells session steps made makes result)
    run_failed_over =
        failed_over shown old new same (λ boards. AreLeft 0 boards steps)
        (λ boards links. AreMadeFor boards links made makes) left links_made (AllByRecursion IsUntouched) Rack
        (RunLeaves Tells session steps made makes)
        (λ why links left made untouched. run_failed (Err why) why links left made refl refl untouched)

    here : (holds : List BoardSpec → List LinkReport → Type 0) → Told shown old new (holds boards)
        → holds session.boards (map shown left.0)
    here = at_boards shown old new left.0 left.1 same

    pub run_answered_over : (runs : List BoardRun)
        → Told shown old new (AreRunsOver session.settings 0 boards steps runs) → (answer : Answer)
        → ((links : List LinkReport) → AreRunsOver session.settings 0 session.boards steps runs links
        → Tells links answer.status answer.text.items)
        → Told shown old new (RunLeaves Tells session steps made makes (Ok answer))
    run_answered_over runs over answer tells = (
      left.0,
      left.1,
      run_answered answer _ (here (λ boards. AreLeft 0 boards steps) left)
          (here (λ boards links. AreMadeFor boards links made makes) links_made)
          (tells _ (here (λ boards. AreRunsOver session.settings 0 boards steps runs) over)),
    )

  -- ---- what the command leaves

  owed_by : (terms : Terms) (bytes : List ℕ) (result : Result Answer RunFault) (links : List LinkReport)
      → ((status : ℕ) (text : List ℕ) → Tells links status text → terms.Done bytes (no_pairs links) status text)
      → IfOk result (λ answer. Tells links answer.status answer.text.items)
      → IfOk result (λ answer. Owes terms bytes (no_pairs links) answer.status answer.text.items)
  owed_by terms bytes (Ok answer) links done tells = inl (done answer.status answer.text.items tells)
  owed_by terms bytes (Err why) links done tells = tt

  -- where it uses the boards of such a session and is done with what an answer tells
  pub run_left : (terms : Terms) (bytes : List ℕ) (result : Result Answer RunFault) (links : List LinkReport)
      → ((specs : List LinkSpec) → IsPrefix specs (link_specs session.boards) → AreLeft 0 session.boards steps links
      → terms.Uses bytes specs links)
      → ((status : ℕ) (text : List ℕ) → Tells links status text → terms.Done bytes (no_pairs links) status text)
      → RunLeaves Tells session steps made makes result links
      → Leaves NoneCame IsRunFailure Rack terms bytes made makes result (no_pairs links)
  run_left terms bytes result links uses done leaves =
      let made' = leaves.links_made in
      let used = uses made'.specs made'.first leaves.left in record {
        specs = made'.specs;
        grown = made'.grown;
        counted = made'.many;
        in_order = made'.in_order;
        used = inr used;
        back = none_came;
        owed = owed_by terms bytes result links done leaves.tells;
        behind = λ fault is failed. used;
        untouched = leaves.untouched;
      }

-- an answer to a run has no status of a refusal
pub kept_unless_refused : (P : Type 0) (Tells : ℕ → List ℕ → Type 0)
    → ((status : ℕ) (text : List ℕ) → Tells status text → IsDoneStatus status) → (result : Result Answer RunFault)
    → IfOk result (λ answer. Tells answer.status answer.text.items)
    → IfOk result (λ answer. answer.status ≡ refused_status → P)
kept_unless_refused P Tells is_done (Ok answer) tells = λ refused.
    absurd (done_is_no_refusal answer.status (is_done answer.status answer.text.items tells) refused)
kept_unless_refused P Tells is_done (Err why) tells = tt
