-- Where no two bodies have one place, no two pieces of an operation have one.
use Rattle.std.proofs.Common.{◌≡◌, ℕ, ◌+◌, List, [], ◌∷◌, ◌++◌, Option, Some, None, refl, sym, ap, ◌∙◌, inl, inr, arith}
use Rattle.std.specs.List.{AllByRecursion, slice_get}
use Rattle.ipb_base.proofs.AllLemmas.{AllByRecursion-append}
use Rattle.script_plans.specs.declared.planned.PieceAt.{PieceAt}
use Rattle.transcript.specs.declared.body_end.BodyEnd.{BodyEnd}
use Rattle.transcript.specs.Ends.{place_at, place_in, piece_place}
use Rattle.transcript.specs.Results.{op_places}
use Rattle.script_plans.specs.Claims.{IsBefore, Rises}
use Rattle.transcript.specs.Claims.{IsOther, HaveOwnPlaces}

module _ (ends : List BodyEnd) (own : HaveOwnPlaces ends) (p : PieceAt) (place : ℕ) (end : BodyEnd)
    (there : slice_get ends p.body ≡ Some end) (placed : end.place ≡ Some place) where
  apart : (q : PieceAt) → IsBefore p q → p.body ≡ q.body → p.index + 1 ≡ q.index + 1 → ⊥
  apart q (inl before) same index = omega arith
  apart q (inr (body, before)) same index = omega arith

  other_at : (q : PieceAt) (also : BodyEnd) (o : Option ℕ) → IsBefore p q → slice_get ends q.body ≡ Some also
      → also.place ≡ o
      → AllByRecursion (IsOther (place, p.index + 1)) (place_at o q.index)
  other_at q also None before is at = tt
  other_at q also (Some other) before is at = (
    λ same. apart q before (own p.body q.body end also place there is placed
        (at ∙ ap (λ (r : ℕ × ℕ). Some r.0) (sym same)))
        (ap (λ (r : ℕ × ℕ). r.1) same),
    tt,
  )

  other_in : (q : PieceAt) (o : Option BodyEnd) → IsBefore p q → slice_get ends q.body ≡ o
      → AllByRecursion (IsOther (place, p.index + 1)) (place_in o q.index)
  other_in q None before is = tt
  other_in q (Some also) before is = other_at q also also.place before is refl

  others : (qs : List PieceAt) → AllByRecursion (IsBefore p) qs
      → AllByRecursion (IsOther (place, p.index + 1)) (op_places ends qs)
  others [] before = tt
  others (q ∷ qs) before =
      AllByRecursion-append (IsOther (place, p.index + 1)) (piece_place ends q) (op_places ends qs)
      (other_in q (slice_get ends q.body) before.0 refl) (others qs before.1)

placed_behind : (ends : List BodyEnd) → HaveOwnPlaces ends
    → (p : PieceAt) (qs : List PieceAt) (end : BodyEnd) (place : Option ℕ)
    → slice_get ends p.body ≡ Some end → end.place ≡ place → AllByRecursion (IsBefore p) qs
    → Rises IsOther (op_places ends qs)
    → Rises IsOther (place_at place p.index ++ op_places ends qs)
placed_behind ends own p qs end None is at before rises = rises
placed_behind ends own p qs end (Some place) is at before rises = (others ends own p place end is at qs before, rises)

places_behind : (ends : List BodyEnd) → HaveOwnPlaces ends → (p : PieceAt) (qs : List PieceAt) (found : Option BodyEnd)
    → slice_get ends p.body ≡ found → AllByRecursion (IsBefore p) qs → Rises IsOther (op_places ends qs)
    → Rises IsOther (place_in found p.index ++ op_places ends qs)
places_behind ends own p qs None is before rises = rises
places_behind ends own p qs (Some end) is before rises = placed_behind ends own p qs end end.place is refl before rises

pub places_differ : (ends : List BodyEnd) (pieces : List PieceAt) → HaveOwnPlaces ends → Rises IsBefore pieces
    → Rises IsOther (op_places ends pieces)
places_differ ends [] own rises = tt
places_differ ends (p ∷ ps) own rises =
    places_behind ends own p ps (slice_get ends p.body) refl rises.0 (places_differ ends ps own rises.1)
