-- The first line at which a rule is broken.
use Rattle.std.proofs.Common.{◌≡◌, ◌⊎◌, ℕ, ◌+◌, ◌<◌, ◌≤◌, length, List, Option, Some, None, sym, ap, ◌∙◌}
use Rattle.std.proofs.Common.{subst, inl, inr, arith}
use Rattle.std.specs.List.{slice_get}
use Rattle.std.proofs.lemmas.Bool.{cases_eq}
use Rattle.std.proofs.lemmas.Bool.Decides.{leb_tells}
use Rattle.std.proofs.lemmas.Option.{same_Some, slice_get_within}
use Rattle.board_specs.specs.declared.spec.BoardSpec.{BoardSpec}
use Rattle.script_steps.specs.declared.operation.Step.{Step}
use Rattle.transcript.specs.declared.line.BoardLine.{BoardLine}
use Rattle.transcript.specs.Shown.{places_told}
use Rattle.transcript_reader.specs.declared.shown.Shown.{Shown}
use Rattle.run_audit.specs.AskedLines.{asked_lines, pieces_shown}
use Rattle.run_audit.specs.Places.{HasMisplaced, IsMisplacedAt}
use Rattle.run_audit.specs.Steps.{IsFirstBroken, earliest_of}

-- a rule that is broken where one of two others is
pub first_either : (P Q R : ℕ → Type 0) → ((line : ℕ) → R line → P line ⊎ Q line) → ((line : ℕ) → P line → R line)
    → ((line : ℕ) → Q line → R line) → (one other : Option ℕ) → IsFirstBroken P one → IsFirstBroken Q other
    → IsFirstBroken R (earliest_of one other)
first_either P Q R split left right None None none neither = λ line broken. elim (split line broken) [
  | inl p ↦ none line p
  | inr q ↦ neither line q
]
first_either P Q R split left right None (Some line) none (q, first) = (
  right line q,
  λ earlier less broken. elim (split earlier broken) [ inl p ↦ none earlier p | inr q' ↦ first earlier less q' ],
)
first_either P Q R split left right (Some line) None (p, first) none = (
  left line p,
  λ earlier less broken. elim (split earlier broken) [ inl p' ↦ first earlier less p' | inr q ↦ none earlier q ],
)
first_either P Q R split left right (Some line) (Some other) (p, first) (q, next) =
    elim (leb_tells line other) [
      | inl (is_true, least) ↦ rw is_true (
        left line p,
        λ earlier less broken. elim (split earlier broken) [
          | inl p' ↦ first earlier less p'
          | inr q' ↦ next earlier (omega arith) q'
        ],
      )
      | inr (is_false, above) ↦ rw is_false (
        right other q,
        λ earlier less broken. elim (split earlier broken) [
          | inl p' ↦ first earlier (omega arith) p'
          | inr q' ↦ next earlier less q'
        ],
      )
    ]

pub first_same : (P Q : ℕ → Type 0) → ((line : ℕ) → P line → Q line) → ((line : ℕ) → Q line → P line)
    → (found : Option ℕ) → IsFirstBroken P found → IsFirstBroken Q found
first_same P Q to back None none = λ line q. none line (back line q)
first_same P Q to back (Some line) (p, first) = (to line p, λ earlier less q. first earlier less (back earlier q))

-- ---- boards, one after another

module _ (boards : List BoardSpec) (scripts : List (List Step)) (shown : Shown) where
  -- misplaced on one of the first boards
  abbrev pub IsMisplacedBelow : ℕ → ℕ → Type 0
  IsMisplacedBelow most line = (at : IsMisplacedAt boards scripts shown line) × (at.board < most)

  pub misplaced_none : IsFirstBroken (IsMisplacedBelow 0) None
  misplaced_none line below = absurd (omega (arith, below.1))

  pub misplaced_more : (board : ℕ) (told : BoardLine) (first found : Option ℕ)
      → slice_get shown.boards board ≡ Some told → IsFirstBroken (IsMisplacedBelow board) first
      → IsFirstBroken (HasMisplaced (places_told told) (pieces_shown boards scripts board (asked_lines scripts shown)))
      found → IsFirstBroken (IsMisplacedBelow (board + 1)) (earliest_of first found)
  misplaced_more board told first found at before here =
      first_either (IsMisplacedBelow board)
      (HasMisplaced (places_told told) (pieces_shown boards scripts board (asked_lines scripts shown)))
      (IsMisplacedBelow (board + 1))
      (λ line below. elim (cases_eq below.0.board board) [
        | inl same ↦
            let one : below.0.told ≡ told =
            same_Some below.0.told told (sym below.0.there ∙ (ap (λ b. slice_get shown.boards b) same ∙ at)) in
            inr (subst (λ b. HasMisplaced (places_told told) (pieces_shown boards scripts b (asked_lines scripts shown)) line)
            same (subst (λ t. HasMisplaced (places_told t)
            (pieces_shown boards scripts below.0.board (asked_lines scripts shown)) line) one below.0.misplaced))
        | inr apart ↦ inl (below.0, omega (arith, below.1))
      ])
      (λ line below. (below.0, omega (arith, below.1)))
      (λ line misplaced. (record { board = board; told = told; there = at; misplaced = misplaced }, omega arith))
      first found before here

  pub misplaced_all : (most : ℕ) (first : Option ℕ) → length shown.boards ≤ most
      → IsFirstBroken (IsMisplacedBelow most) first → IsFirstBroken (IsMisplacedAt boards scripts shown) first
  misplaced_all most first over so_far =
      first_same (IsMisplacedBelow most) (IsMisplacedAt boards scripts shown) (λ line below. below.0)
      (λ line at. (at, omega (arith, slice_get_within shown.boards at.board at.told at.there))) first so_far
