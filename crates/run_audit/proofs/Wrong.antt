-- The two rules on results are one.
use Rattle.std.proofs.Common.{◌≡◌, ◌⊎◌, ℕ, List, Option, inl, inr, subst, sym, ◌∙◌}
use Rattle.board_specs.specs.declared.spec.BoardSpec.{BoardSpec}
use Rattle.script_steps.specs.declared.operation.Step.{Step}
use Rattle.transcript_reader.specs.declared.shown.Shown.{Shown}
use Rattle.run_audit.specs.Agreeing.{IsApartAt, IsUnreplayedAt}
use Rattle.run_audit.specs.AskedLines.{AskedLine, asked_lines}
use Rattle.run_audit.specs.Results.{IsReplayed, IsWrongAt}
use Rattle.run_audit.specs.Steps.{IsFirstBroken, earliest_of}
use Rattle.run_audit.proofs.FirstBroken.{first_either}

module _ (rounds : ℕ) (boards : List BoardSpec) (scripts : List (List Step)) (shown : Shown) (lines : List AskedLine)
    (are : lines ≡ asked_lines scripts shown) where
  either_wrong : (line : ℕ) → IsWrongAt rounds boards scripts shown line
      → IsUnreplayedAt rounds boards scripts lines line ⊎ IsApartAt boards scripts lines line
  either_wrong line at = elim at.wrong [
    | inl unreplayed ↦ inl (record {
      before = at.before;
      asking = at.asking;
      behind = at.behind;
      all = are ∙ at.all;
      here = at.here;
      wrong = λ is. unreplayed (subst (λ l. IsReplayed rounds boards scripts l at.asking) are is);
    })
    | inr apart ↦ inr (record {
      before = at.before;
      asking = at.asking;
      behind = at.behind;
      all = are ∙ at.all;
      here = at.here;
      wrong = apart;
    })
  ]

  unreplayed_wrong : (line : ℕ) → IsUnreplayedAt rounds boards scripts lines line
      → IsWrongAt rounds boards scripts shown line
  unreplayed_wrong line at = record {
    before = at.before;
    asking = at.asking;
    behind = at.behind;
    all = sym are ∙ at.all;
    here = at.here;
    wrong = inl (λ is. at.wrong (subst (λ l. IsReplayed rounds boards scripts l at.asking) (sym are) is));
  }

  apart_wrong : (line : ℕ) → IsApartAt boards scripts lines line → IsWrongAt rounds boards scripts shown line
  apart_wrong line at = record {
    before = at.before;
    asking = at.asking;
    behind = at.behind;
    all = sym are ∙ at.all;
    here = at.here;
    wrong = inr at.wrong;
  }

  pub first_of_both : (one other : Option ℕ) → IsFirstBroken (IsUnreplayedAt rounds boards scripts lines) one
      → IsFirstBroken (IsApartAt boards scripts lines) other
      → IsFirstBroken (IsWrongAt rounds boards scripts shown) (earliest_of one other)
  first_of_both one other unreplayed apart =
      first_either (IsUnreplayedAt rounds boards scripts lines) (IsApartAt boards scripts lines)
      (IsWrongAt rounds boards scripts shown) either_wrong unreplayed_wrong apart_wrong one other unreplayed apart
