-- What an operation shows is as good as its pieces.
use Rattle.std.proofs.Common.{◌≡◌, ℕ, true, false, [], ◌∷◌, ◌++◌, Option, Some, unwrap_or}
use Rattle.std.proofs.Common.{option_map, refl, sym, subst, ap, ◌∙◌}
use Rattle.script_steps.specs.declared.operation.Verb.{Verb}
use Rattle.transcript.specs.declared.line.OpResult.{OpResult}
use Rattle.transcript.specs.declared.line.OpResult.TheVariants.{Late}
use Rattle.transcript.specs.Results.{combined_result, first_not_done, is_good, shown_result, shown_not_done, values_in}

-- what is shown of a piece that was not done in time is not good
pub shown_as_good : (verb : Verb) (mask : ℕ) (r : OpResult) → is_good (shown_not_done verb mask r) ≡ is_good r
shown_as_good verb mask (Late rounds answer) = refl
shown_as_good verb mask other = refl

-- so an operation of one piece is good only where its piece is
pub good_piece : (verb : Verb) (mask : ℕ) (r : OpResult) → is_good (combined_result verb mask (r ∷ [])) ≡ true
    → is_good r ≡ true
good_piece verb mask r good = elim (is_good r) as (λ b. is_good r ≡ b → is_good r ≡ true) [
  | true ↦ λ is. is
  | false ↦ λ is.
      let first : first_not_done (r ∷ []) ≡ Some r = rw is refl in
      let same : combined_result verb mask (r ∷ []) ≡ shown_not_done verb mask r =
      ap (λ (o : Option OpResult). unwrap_or (option_map (shown_not_done verb mask) o)
      (shown_result verb mask (values_in r ++ []))) first in
      sym (shown_as_good verb mask r) ∙ subst (λ (x : OpResult). is_good x ≡ true) same good
] refl
