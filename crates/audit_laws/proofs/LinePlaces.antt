-- The places that the line of an operation shows, where it shows all or none.
use Rattle.std.proofs.Common.{◌≡◌, ◌⊎◌, ℕ, suc, ◌+◌, ◌≤◌, List, [], ◌∷◌, ◌++◌, length, Option, Some, None}
use Rattle.std.proofs.Common.{refl, ap, ◌∙◌, inl, inr, arith, length-append}
use Rattle.std.specs.List.{AllByRecursion, Any, slice_get}
use Rattle.mtu_packer.proofs.AnyLemmas.{any_nowhere, any_here, any_later, any_cases}
use Rattle.script_plans.specs.declared.planned.PieceAt.{PieceAt}
use Rattle.transcript.specs.declared.body_end.BodyEnd.{BodyEnd}
use Rattle.transcript.specs.Ends.{place_at, place_in, piece_place}
use Rattle.transcript.specs.Results.{op_places}
use Rattle.run_audit.specs.AskedLines.{AskedLine, ShownPiece, with_places}

-- a piece in the body of this number
abbrev pub IsPieceIn : ℕ → PieceAt → Type 0
IsPieceIn body piece = piece.body ≡ body

-- a piece of a client that is shown, in the body of this number
abbrev pub IsShownIn : ℕ → ℕ → ShownPiece → Type 0
IsShownIn client body shown = (shown.client ≡ client) × (shown.body ≡ body)

module _ (ends : List BodyEnd) (asking : AskedLine) where
  -- the piece is shown with the place of its body, and its number there, from 1
  pub record HasOwnPlace (shown : ShownPiece) : Type 0 where
    pub client' : shown.client ≡ asking.client
    pub end : BodyEnd
    pub there : slice_get ends shown.body ≡ Some end
    pub placed' : end.place ≡ Some shown.place
    pub transaction' : shown.transaction ≡ shown.index + 1

  one_place : (index : ℕ) (found : Option ℕ) → length (place_at found index) ≤ 1
  one_place index None = omega arith
  one_place index (Some place) = omega arith

  one_found : (index : ℕ) (found : Option BodyEnd) → length (place_in found index) ≤ 1
  one_found index None = omega arith
  one_found index (Some end) = one_place index end.place

  few_places : (pieces : List PieceAt) → length (op_places ends pieces) ≤ length pieces
  few_places [] = omega arith
  few_places (p ∷ ps) =
      omega (
        arith,
        length-append (piece_place ends p) (op_places ends ps),
        one_found p.index (slice_get ends p.body),
        few_places ps,
      )

  -- ---- a line that shows all

  -- what holds of the first piece as it is shown, and of what is shown behind it, holds of all that is shown
  all_by_place : (P : List ShownPiece → Type 0) (p : PieceAt) (ps : List PieceAt) (end : BodyEnd) (found : Option ℕ)
      → slice_get ends p.body ≡ Some end → end.place ≡ found
      → suc (length ps) ≤ length (place_at found p.index ++ op_places ends ps)
      → ((shown : ShownPiece) → HasOwnPlace shown → shown.body ≡ p.body
      → length ps ≤ length (op_places ends ps) → P (shown ∷ with_places asking ps (op_places ends ps)))
      → P (with_places asking (p ∷ ps) (place_at found p.index ++ op_places ends ps))
  all_by_place P p ps end None at is all holds = absurd (omega (arith, few_places ps))
  all_by_place P p ps end (Some place) at is all holds =
      holds _ (record { client' = refl; end = end; there = at; placed' = is; transaction' = refl }) refl (omega arith)

  all_by_end : (P : List ShownPiece → Type 0) (p : PieceAt) (ps : List PieceAt) (found : Option BodyEnd)
      → slice_get ends p.body ≡ found → suc (length ps) ≤ length (place_in found p.index ++ op_places ends ps)
      → ((shown : ShownPiece) → HasOwnPlace shown → shown.body ≡ p.body
      → length ps ≤ length (op_places ends ps) → P (shown ∷ with_places asking ps (op_places ends ps)))
      → P (with_places asking (p ∷ ps) (place_in found p.index ++ op_places ends ps))
  all_by_end P p ps None at all holds = absurd (omega (arith, few_places ps))
  all_by_end P p ps (Some end) at all holds = all_by_place P p ps end end.place at refl all holds

  own_places : (pieces : List PieceAt) → length pieces ≤ length (op_places ends pieces)
      → AllByRecursion HasOwnPlace (with_places asking pieces (op_places ends pieces))
  own_places [] all = tt
  own_places (p ∷ ps) all =
      all_by_end (AllByRecursion HasOwnPlace) p ps (slice_get ends p.body) refl all
      (λ shown own same rest. (own, own_places ps rest))

  each_shown : (body : ℕ) (pieces : List PieceAt) → length pieces ≤ length (op_places ends pieces)
      → Any (IsPieceIn body) pieces
      → Any (IsShownIn asking.client body) (with_places asking pieces (op_places ends pieces))
  each_shown body [] all any = absurd (any_nowhere (IsPieceIn body) any)
  each_shown body (p ∷ ps) all any =
      all_by_end (Any (IsShownIn asking.client body)) p ps (slice_get ends p.body) refl all
      (λ shown own same rest. elim (any_cases (IsPieceIn body) p ps any) [
        | inl here ↦ any_here (IsShownIn asking.client body) shown _ (own.client', same ∙ here)
        | inr later ↦ any_later (IsShownIn asking.client body) shown _ (each_shown body ps rest later)
      ])

  -- ---- a line that shows none

  none_found : (body : ℕ) (end : BodyEnd) (place : ℕ) → slice_get ends body ≡ Some end → end.place ≡ Some place
      → (pieces : List PieceAt) → Any (IsPieceIn body) pieces → 1 ≤ length (op_places ends pieces)
  none_found body end place at is [] any = absurd (any_nowhere (IsPieceIn body) any)
  none_found body end place at is (p ∷ ps) any =
      let long = length-append (piece_place ends p) (op_places ends ps) in
      elim (any_cases (IsPieceIn body) p ps any) [
        | inl here ↦
            let one : length (piece_place ends p) ≡ 1 =
            ap (λ (found : Option BodyEnd). length (place_in found p.index)) (ap (λ n. slice_get ends n) here ∙ at)
            ∙ ap (λ (found : Option ℕ). length (place_at found p.index)) is in
            omega arith
        | inr later ↦ omega (arith, none_found body end place at is ps later)
      ]

-- without places nothing is shown
pub nothing_shown : (asking : AskedLine) (pieces : List PieceAt) → with_places asking pieces [] ≡ []
nothing_shown asking [] = refl
nothing_shown asking (p ∷ ps) = refl

-- ---- a line that shows all or none

module _ (ends : List BodyEnd) (asking : AskedLine) (pieces : List PieceAt)
    (whole : (op_places ends pieces ≡ []) ⊎ (length pieces ≤ length (op_places ends pieces))) where
  pub places_own : AllByRecursion (HasOwnPlace ends asking) (with_places asking pieces (op_places ends pieces))
  places_own = elim whole [
    | inl none ↦ rw none (rw nothing_shown tt)
    | inr all ↦ own_places ends asking pieces all
  ]

  pub piece_shown : (body : ℕ) (end : BodyEnd) (place : ℕ) → slice_get ends body ≡ Some end → end.place ≡ Some place
      → Any (IsPieceIn body) pieces
      → Any (IsShownIn asking.client body) (with_places asking pieces (op_places ends pieces))
  piece_shown body end place at is any = elim whole [
    | inl none ↦ absurd (omega (arith, none_found ends asking body end place at is pieces any, ap length none))
    | inr all ↦ each_shown ends asking body pieces all any
  ]
