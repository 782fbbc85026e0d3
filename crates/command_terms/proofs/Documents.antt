-- Documents that are refused have one line, and those that are too long have theirs.
use Rattle.std.proofs.Common.{◌≡◌, ◌<◌, ℕ, List, length, Option, Some, inl, refl, sym, ap, ◌∙◌, subst}
use Rattle.std.proofs.lemmas.Option.{same_Some}
use Rattle.access_policy.specs.declared.policy.Rule.{Rule}
use Rattle.script_lang.specs.declared.session.Session.{Session}
use Rattle.session_input.specs.declared.refusal.Refusal.{Refusal}
use Rattle.session_input.specs.declared.refusal.Refusal.TheVariants.{TooLong}
use Rattle.session_input.specs.Deserved.{Deserves}
use Rattle.session_input.specs.Lines.{refusal_line}
use Rattle.session_input.specs.Numbers.{document_bytes}
use Rattle.command_terms.specs.Documents.{IsRefusedDocument, long_document_line}

module _ (Breaks : Session → Option (List Rule) → Refusal → Type 0) where
  pub one_line : ((bytes : List ℕ) (r q : Refusal) → Deserves Breaks bytes r → Deserves Breaks bytes q → r ≡ q)
      → (bytes line other : List ℕ) → IsRefusedDocument Breaks bytes line → IsRefusedDocument Breaks bytes other
      → line ≡ other
  one_line one bytes line other mine theirs =
      mine.spelled ∙ ap refusal_line (one bytes mine.refusal theirs.refusal mine.deserved theirs.deserved)
      ∙ sym theirs.spelled

  pub long_refused : (limit : ℕ) (bytes : List ℕ) → ◌≡◌ {A = Option ℕ} (Some document_bytes) (Some limit)
      → limit < length bytes → IsRefusedDocument Breaks bytes long_document_line
  long_refused limit bytes is more = record {
    refusal = TooLong;
    deserved = inl (subst (λ n. n < length bytes) (sym (same_Some document_bytes limit is)) more);
    spelled = refl;
  }
