-- A listing is one text, and what is owed to bytes is one.
use Rattle.std.proofs.Common.{◌≡◌, ℕ, List, Result, Ok, Err, IfOk, inl, inr, sym, ap, ◌∙◌}
use Rattle.node_tree.specs.Maps.{RegisterMap}
use Rattle.session_input.specs.declared.refusal.Refusal.{Refusal}
use Rattle.session_input.specs.Deserved.{BreaksInCheck, Deserves, IsListed}
use Rattle.session_input.specs.Lines.{refusal_line}
use Rattle.transcript.specs.Listing.{listing_text}
use Rattle.command_terms.specs.declared.answer.Answer.{Answer}
use Rattle.command_terms.specs.Numbers.{refused_status}
use Rattle.command_terms.specs.Outside.{GivenBack}
use Rattle.command_terms.specs.Terms.{AreTerms, Owes}
use Rattle.ipbus_program.specs.CheckTerms.{check_terms, listing_status, IsListingOf}

pub listed_answer : {E : Type 0} (bytes root : List ℕ) (given : GivenBack) (registers : RegisterMap)
    (result : Result Answer E) → IsListed bytes root registers
    → IfOk result (λ answer. answer.text.items ≡ listing_text registers)
    → IfOk result (λ answer. answer.status ≡ listing_status registers)
    → IfOk result (λ answer. Owes (check_terms root) bytes given answer.status answer.text.items)
listed_answer bytes root given registers (Ok answer) listed text status =
    inl (record { registers = registers; listed = listed; spelled = text; told = status })
listed_answer bytes root given registers (Err why) listed text status = tt

pub refused_answer : {E : Type 0} (bytes root : List ℕ) (given : GivenBack) (refusal : Refusal)
    (result : Result Answer E) → Deserves (BreaksInCheck root) bytes refusal
    → IfOk result (λ answer. answer.status ≡ refused_status)
    → IfOk result (λ answer. answer.text.items ≡ refusal_line refusal)
    → IfOk result (λ answer. Owes (check_terms root) bytes given answer.status answer.text.items)
refused_answer bytes root given refusal (Ok answer) deserved status text =
    inr (status, record { refusal = refusal; deserved = deserved; spelled = text })
refused_answer bytes root given refusal (Err why) deserved status text = tt

module _ (root : List ℕ) (terms : AreTerms (check_terms root))
    (one_index : (bytes : List ℕ) (index other : RegisterMap) → IsListed bytes root index → IsListed bytes root other
    → index ≡ other) where
  one_listing : (bytes : List ℕ) (s t : ℕ) (a b : List ℕ) → IsListingOf bytes root s a → IsListingOf bytes root t b
      → (s ≡ t) × (a ≡ b)
  one_listing bytes s t a b one other =
      let same = one_index bytes one.registers other.registers one.listed other.listed in
      (one.told ∙ ap listing_status same ∙ sym other.told, one.spelled ∙ ap listing_text same ∙ sym other.spelled)

  pub one_answer : (bytes : List ℕ) (given others : GivenBack) (s t : ℕ) (a b : List ℕ)
      → Owes (check_terms root) bytes given s a → Owes (check_terms root) bytes others t b → (s ≡ t) × (a ≡ b)
  one_answer bytes given others s t a b (inl one) (inl other) = one_listing bytes s t a b one other
  one_answer bytes given others s t a b (inl done) (inr (refused, why)) =
      absurd (terms.done_apart bytes b given s a done why)
  one_answer bytes given others s t a b (inr (refused, why)) (inl done) =
      absurd (terms.done_apart bytes a others t b done why)
  one_answer bytes given others s t a b (inr (one, why)) (inr (other, because)) =
      (one ∙ sym other, terms.one_line bytes a b why because)
