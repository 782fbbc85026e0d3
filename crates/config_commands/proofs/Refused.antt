-- Bytes that are refused have one line, and those that are too many have theirs.
use Rattle.std.proofs.Common.{◌≡◌, ◌<◌, ℕ, List, length, Option, Some, inl, refl, sym, ap, ◌∙◌, subst}
use Rattle.std.proofs.lemmas.Option.{same_Some}
use Rattle.session_input.specs.declared.refusal.Refusal.TheVariants.{TooLong}
use Rattle.session_input.specs.Numbers.{document_bytes}
use Rattle.command_terms.specs.Documents.{long_document_line}
use Rattle.config_input.specs.declared.refusal.ConfigRefusal.{ConfigRefusal}
use Rattle.config_input.specs.declared.refusal.ConfigRefusal.TheVariants.{OfSession}
use Rattle.config_input.specs.Deserved.{Deserves}
use Rattle.config_input.specs.Lines.{refusal_line}
use Rattle.config_input.specs.Work.{ConfigCommand}
use Rattle.config_commands.specs.Terms.{IsRefusedBy}

module _ (command : ConfigCommand) where
  pub one_line : ((bytes : List ℕ) (r q : ConfigRefusal) → Deserves command bytes r → Deserves command bytes q → r ≡ q)
      → (bytes line other : List ℕ) → IsRefusedBy command bytes line → IsRefusedBy command bytes other → line ≡ other
  one_line one bytes line other mine theirs =
      mine.spelled ∙ ap refusal_line (one bytes mine.refusal theirs.refusal mine.deserved theirs.deserved)
      ∙ sym theirs.spelled

  pub long_refused : (limit : ℕ) (bytes : List ℕ) → ◌≡◌ {A = Option ℕ} (Some document_bytes) (Some limit)
      → limit < length bytes → IsRefusedBy command bytes long_document_line
  long_refused limit bytes is more = record {
    refusal = OfSession TooLong;
    deserved = inl (subst (λ n. n < length bytes) (sym (same_Some document_bytes limit is)) more);
    spelled = refl;
  }
