-- What an input leaves of a rack, by what its bytes do.
use Rattle.std.proofs.Common.{◌≡◌, ◌⊎◌, inl, inr, ℕ, List, [], Option, Result, Ok, Err, IfOk}
use Rattle.std.proofs.Common.{true, refl, sym, append-nil, subst, ◌∙◌}
use Rattle.std.specs.Result.{IsErr, IsErrAnd}
use Rattle.ipb_outside.specs.Told.{TakesAtMost}
use Rattle.board_specs.specs.declared.spec.LinkSpec.{LinkSpec}
use Rattle.board_history.specs.Links.{LinkReport}
use Rattle.session_serve.specs.Serving.{AreBack}
use Rattle.session_serve.proofs.Standing.{none_served}
use Rattle.command_terms.specs.declared.answer.Answer.{Answer}
use Rattle.command_terms.specs.Leaving.{Leaves}
use Rattle.command_terms.specs.Outside.{GivenBack, no_pairs}
use Rattle.command_terms.specs.Terms.{AreTerms, Owes, Reads, Terms, most_bytes}
use Rattle.command_terms.proofs.Leaving.{Told, same_Err}
use Rattle.ipbus_program.specs.declared.no_answer.NoAnswer.{NoAnswer}
use Rattle.ipbus_program.specs.declared.no_answer.NoAnswer.TheVariants.{DoorFault, RackFault, ReadFault}
use Rattle.ipbus_program.specs.Owed.{AnswersInput, UsedFrom}
use Rattle.ipbus_program.specs.Steps.{InputLeaves, IsFailure, IsInputOf}
use Rattle.ipbus_program.proofs.Causes.{input_answered}

module _ (terms : Terms) (before now : Option (List ℕ)) (took : TakesAtMost (most_bytes terms) before now) where
  -- ---- the bytes were read

  module _ (laws : AreTerms terms) (bytes : List ℕ) (input : IsInputOf terms before now bytes) where
    from_input : (specs : List LinkSpec) (links : List LinkReport) → terms.Uses bytes specs links
        → UsedFrom terms before now specs links
    from_input specs links uses = record { bytes = bytes; read = input.read; uses = uses }

    used_from : (specs : List LinkSpec) (links : List LinkReport) → (links ≡ []) ⊎ terms.Uses bytes specs links
        → (links ≡ []) ⊎ UsedFrom terms before now specs links
    used_from specs links (inl none) = inl none
    used_from specs links (inr uses) = inr (from_input specs links uses)

    all_answered : (given : GivenBack) (result : Result Answer NoAnswer)
        → IfOk result (λ answer. Owes terms bytes given answer.status answer.text.items)
        → IfOk result (λ answer. AnswersInput terms before now given answer.status answer.text.items)
    all_answered given (Ok answer) owed =
        input_answered terms before now bytes input.no_more laws input.read given answer.status answer.text.items owed
    all_answered given (Err why) owed = tt

    pub input_left : (made makes : List LinkSpec) (given : GivenBack) (result : Result Answer NoAnswer)
        → (result ≡ Err ReadFault → ⊥) → (result ≡ Err DoorFault → terms.lets_in ≡ true)
        → Leaves AreBack IsFailure RackFault terms bytes made makes result given
        → InputLeaves terms before now made makes result given
    input_left made makes given result no_read serves leaves = record {
      specs = leaves.specs;
      grown = leaves.grown;
      counted = leaves.counted;
      in_order = leaves.in_order;
      used = used_from leaves.specs given.links leaves.used;
      back = leaves.back;
      taken = took;
      owed = all_answered given result leaves.owed;
      reads = λ failed. absurd (no_read failed);
      behind = λ fault same failed. from_input leaves.specs given.links (leaves.behind fault same failed);
      untouched = leaves.untouched;
      serves = serves;
    }

  -- ---- they were not

  -- nothing was made
  pub input_untouched : {L : Type 0} (shown : L → LinkReport) (kept : List L) (made : List LinkSpec)
      (result : Result Answer NoAnswer)
      → IfOk result (λ answer. AnswersInput terms before now (no_pairs []) answer.status answer.text.items)
      → (result ≡ Err ReadFault → Reads terms) → ((fault : NoAnswer) → result ≡ Err fault → IsFailure fault → ⊥)
      → Told shown kept kept (λ links. InputLeaves terms before now made made result (no_pairs links))
  input_untouched shown kept made result owed reads calm = (
    [],
    sym (append-nil kept),
    record {
      specs = [];
      grown = sym (append-nil made);
      counted = refl;
      in_order = tt;
      used = inl refl;
      back = none_served;
      taken = took;
      owed = owed;
      reads = reads;
      behind = λ fault same failed. absurd (calm fault same failed);
      untouched = λ rack. tt;
      serves = λ failed. absurd (calm DoorFault failed tt);
    },
  )

  no_failure : (why fault : NoAnswer) → why ≡ fault → (IsFailure why → ⊥) → IsFailure fault → ⊥
  no_failure why fault same calm failed = calm (subst IsFailure (sym same) failed)

  -- an error that is none of a board or a connection was handed on
  pub failure_untouched : {L : Type 0} (shown : L → LinkReport) (kept : List L) (made : List LinkSpec)
      (result : Result Answer NoAnswer) (why : NoAnswer)
      → IsErr result → IsErrAnd result (λ handed. handed ≡ why) → (IsFailure why → ⊥) → (why ≡ ReadFault → Reads terms)
      → Told shown kept kept (λ links. InputLeaves terms before now made made result (no_pairs links))
  failure_untouched shown kept made (Ok answer) why fails told calm reads = absurd cc
  failure_untouched shown kept made (Err handed) why fails told calm reads =
      input_untouched shown kept made (Err handed) tt
      (λ same. reads (sym told ∙ same_Err handed ReadFault same))
      (λ fault same. no_failure why fault (sym told ∙ same_Err handed fault same) calm)
