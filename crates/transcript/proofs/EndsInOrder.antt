-- How each body ended, by its number.
use Rattle.std.proofs.Common.{◌≡◌, ℕ, zero, suc, List, [], ◌∷◌, length, get_or, min, drop, Option, Some, None, refl, ap}
use Rattle.std.proofs.Common.{◌+◌, ◌<◌, ◌++◌, ◌∙◌, append_assoc, arith, add-zero, drop-drop, get_or-drop}
use Rattle.std.proofs.lemmas.List.{drop_more}
use Rattle.std.specs.List.{slice_get}
use Rattle.lane_record.specs.declared.outcome.Outcome.{Outcome}
use Rattle.transcript.specs.declared.body_end.BodyEnd.{BodyEnd}
use Rattle.transcript.specs.Ends.{end_of, ends_with}

late_next : (lates : List (Option (List ℕ))) (k : ℕ) → get_or (drop 1 lates) k None ≡ get_or lates (suc k) None
late_next [] k = refl
late_next (late ∷ lates) k = refl

pub ends_at : (bodies : List (List ℕ)) (outcomes : List Outcome) (lates : List (Option (List ℕ))) (k : ℕ)
    (body : List ℕ) (outcome : Outcome) → slice_get bodies k ≡ Some body → slice_get outcomes k ≡ Some outcome
    → slice_get (ends_with bodies outcomes lates) k ≡ Some (end_of body outcome (get_or lates k None))
ends_at [] outcomes lates k body outcome asked came = absurd cc
ends_at (b ∷ bodies) [] lates k body outcome asked came = absurd cc
ends_at (b ∷ bodies) (o ∷ outcomes) lates zero body outcome asked came = cc
ends_at (b ∷ bodies) (o ∷ outcomes) lates (suc k) body outcome asked came =
    ends_at bodies outcomes (drop 1 lates) k body outcome asked came
    ∙ ap (λ (late : Option (List ℕ)). Some (end_of body outcome late)) (late_next lates k)

pub ends_counted : (bodies : List (List ℕ)) (outcomes : List Outcome) (lates : List (Option (List ℕ)))
    → length (ends_with bodies outcomes lates) ≡ min (length bodies) (length outcomes)
ends_counted [] outcomes lates = omega arith
ends_counted (b ∷ bodies) [] lates = omega arith
ends_counted (b ∷ bodies) (o ∷ outcomes) lates = omega (arith, ends_counted bodies outcomes (drop 1 lates))

-- the bodies so far, the one at a place, and those behind it
pub ends_more : (bodies : List (List ℕ)) (outcomes : List Outcome) (lates : List (Option (List ℕ))) (i : ℕ)
    (body : List ℕ) (outcome : Outcome) (ends : List BodyEnd) → i < length bodies → i < length outcomes
    → (ends ++ end_of (get_or bodies i body) (get_or outcomes i outcome) (get_or lates i None) ∷ [])
    ++ ends_with (drop (i + 1) bodies) (drop (i + 1) outcomes) (drop (i + 1) lates)
    ≡ ends ++ ends_with (drop i bodies) (drop i outcomes) (drop i lates)
ends_more bodies outcomes lates i body outcome ends there came =
    rw (
      append_assoc,
      drop_more bodies i body there,
      drop_more outcomes i outcome came,
      drop-drop 1 i lates,
      get_or-drop i lates 0 None,
      add-zero,
    )
