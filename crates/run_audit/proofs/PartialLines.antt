-- The first line that shows some of its places and not all.
use Rattle.std.proofs.Common.{◌≡◌, ◌≢◌, ℕ, ◌+◌, ◌<◌, ◌≤◌, length, List, [], Some, None, sym, ap, subst}
use Rattle.std.proofs.Common.{inl, inr, arith, refl, ◌∙◌}
use Rattle.std.specs.List.{slice_get}
use Rattle.std.proofs.lemmas.Bool.{cases_eq, cases_lt}
use Rattle.std.proofs.lemmas.Option.{same_Some, slice_get_within}
use Rattle.board_specs.specs.declared.spec.BoardSpec.{BoardSpec}
use Rattle.script_plans.specs.Plan.{ClientBodies}
use Rattle.script_steps.specs.declared.operation.Step.{Step}
use Rattle.transcript_reader.specs.declared.shown.Shown.{Shown}
use Rattle.run_audit.specs.AskedLines.{AskedLine, asked_lines, pieces_of}
use Rattle.run_audit.specs.Places.{IsPartial, IsPartialAt}
use Rattle.run_audit.specs.Steps.{AreOf, IsFirstBroken, planned_pieces}
use Rattle.run_audit.proofs.Misplacing.{rises_pair}
use Rattle.run_audit.proofs.PlansMade.{planned_pieces_are}
use Rattle.run_audit.proofs.TextOrder.{ComesBefore, lines_rise}

-- the line of an operation shows a place for some of its pieces by these plans, and not for all
abbrev pub IsPartialBy : List (List ClientBodies) → AskedLine → Type 0
IsPartialBy plans asking =
    (asking.shows.1 ≢ []) × (length asking.shows.1 < length (planned_pieces plans asking))

-- none of the first `i` lines does
abbrev pub NonePartial : List (List ClientBodies) → List AskedLine → ℕ → Type 0
NonePartial plans lines i =
    (j : ℕ) (asking : AskedLine) → j < i → slice_get lines j ≡ Some asking → IsPartialBy plans asking → ⊥

pub none_more : (plans : List (List ClientBodies)) (lines : List AskedLine) (i : ℕ) (asking : AskedLine)
    → NonePartial plans lines i → slice_get lines i ≡ Some asking → (IsPartialBy plans asking → ⊥)
    → NonePartial plans lines (i + 1)
none_more plans lines i asking none at whole j other before there wrong =
    elim (cases_eq j i) [
      | inl same ↦
          let one : other ≡ asking = same_Some other asking (sym there ∙ (ap (λ k. slice_get lines k) same ∙ at)) in
          whole (subst (IsPartialBy plans) one wrong)
      | inr apart ↦ none j other (omega arith) there wrong
    ]

module _ (boards : List BoardSpec) (scripts : List (List Step)) (shown : Shown) (plans : List (List ClientBodies))
    (lines : List AskedLine) (are : AreOf boards scripts shown plans lines) where
  same_pieces : (asking : AskedLine) → planned_pieces plans asking ≡ pieces_of boards scripts asking
  same_pieces asking =
      ap (λ (ps : List (List ClientBodies)). planned_pieces ps asking) are.plans'
      ∙ planned_pieces_are boards scripts asking

  by_plans : (asking : AskedLine) → IsPartial boards scripts asking → IsPartialBy plans asking
  by_plans asking partial = (partial.some, rw (same_pieces asking) partial.not_all)

  pub partial_none : (i : ℕ) → length lines ≤ i → NonePartial plans lines i
      → IsFirstBroken (IsPartialAt boards scripts shown) None
  partial_none i over none = λ line partial.
      let there : slice_get lines partial.at ≡ Some partial.asking =
      ap (λ (ls : List AskedLine). slice_get ls partial.at) are.lines' ∙ partial.there in
      none partial.at partial.asking (omega (arith, slice_get_within lines partial.at partial.asking there)) there
      (by_plans partial.asking partial.is_partial)

  pub partial_found : (i : ℕ) (asking : AskedLine) → slice_get lines i ≡ Some asking → NonePartial plans lines i
      → IsPartialBy plans asking → IsFirstBroken (IsPartialAt boards scripts shown) (Some asking.line)
  partial_found i asking at none here =
      let at' : slice_get (asked_lines scripts shown) i ≡ Some asking =
      ap (λ (ls : List AskedLine). slice_get ls i) (sym are.lines') ∙ at in (
        record {
          at = i;
          asking = asking;
          there = at';
          here = refl;
          is_partial = record { some = here.0; not_all = rw (← same_pieces asking) here.1 };
        },
        λ earlier less partial.
            let there : slice_get lines partial.at ≡ Some partial.asking =
            ap (λ (ls : List AskedLine). slice_get ls partial.at) are.lines' ∙ partial.there in
            elim (cases_lt partial.at i) [
              | inl before ↦ none partial.at partial.asking before there (by_plans partial.asking partial.is_partial)
              | inr from ↦ elim (cases_eq i partial.at) [
                | inl same ↦
                    let one : asking ≡ partial.asking =
                    same_Some asking partial.asking (sym at ∙ (ap (λ k. slice_get lines k) same ∙ there)) in
                    let line : asking.line ≡ partial.asking.line = ap (λ (a : AskedLine). a.line) one in
                    absurd (omega (arith, partial.here))
                | inr apart ↦
                    let more = rises_pair ComesBefore (asked_lines scripts shown) i partial.at asking partial.asking
                    (lines_rise scripts shown) (omega arith) at' partial.there in
                    absurd (omega (arith, partial.here, more.line))
              ]
            ],
      )
