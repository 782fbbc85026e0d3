-- The first piece of an operation that was not done, one piece after the other.
use Rattle.std.proofs.Common.{◌≡◌, ℕ, ◌+◌, ◌<◌, ◌≤◌, true, false, List, ◌∷◌, drop, get_or, length, map}
use Rattle.std.proofs.Common.{Some, None, ap, refl, sym, ◌∙◌}
use Rattle.std.proofs.lemmas.List.{drop_all, drop_more}
use Rattle.script_plans.specs.declared.planned.PieceAt.{PieceAt}
use Rattle.transcript.specs.declared.body_end.BodyEnd.{BodyEnd}
use Rattle.transcript.specs.declared.line.OpResult.{OpResult}
use Rattle.transcript.specs.Ends.{piece_result}
use Rattle.transcript.specs.Results.{first_not_done, is_good}

module _ (ends : List BodyEnd) (pieces : List PieceAt) where
  -- what the pieces from a number on came to
  abbrev pub From : ℕ → List OpResult
  From i = map (piece_result ends) (drop i pieces)

  from_here : (i : ℕ) (d : PieceAt) → i < length pieces
      → From i ≡ piece_result ends (get_or pieces i d) ∷ From (i + 1)
  from_here i d within = ap (map (piece_result ends)) (drop_more pieces i d within)

  pub not_done_here : (i : ℕ) (d : PieceAt) → i < length pieces
      → is_good (piece_result ends (get_or pieces i d)) ≡ false
      → first_not_done (From i) ≡ Some (piece_result ends (get_or pieces i d))
  not_done_here i d within bad = ap first_not_done (from_here i d within) ∙ rw bad refl

  pub done_here : (i : ℕ) (d : PieceAt) → i < length pieces
      → is_good (piece_result ends (get_or pieces i d)) ≡ true
      → first_not_done (From (i + 1)) ≡ first_not_done (From i)
  done_here i d within good = sym (ap first_not_done (from_here i d within) ∙ rw good refl)

  pub all_done : (i : ℕ) → length pieces ≤ i → first_not_done (From i) ≡ None
  all_done i past = ap (λ ps. first_not_done (map (piece_result ends) ps)) (drop_all i pieces past)
