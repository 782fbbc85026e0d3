-- An outcome that comes for an Ask, and one that comes for none.
use Rattle.std.proofs.Common.{◌≡◌, ℕ, zero, suc, ◌<◌, ◌≤◌, List, [], ◌∷◌, length, Option, Some, refl, ap, arith, set}
use Rattle.lane_record.specs.declared.outcome.Outcome.{Outcome}
use Rattle.lane_record.specs.Offers.{put}

pub put_past : (k : ℕ) (o : Outcome) (xs : List (Option Outcome)) → length xs ≤ k → put k o xs ≡ xs
put_past zero o [] past = refl
put_past (suc k) o [] past = refl
put_past zero o (x ∷ xs) past = absurd (omega arith)
put_past (suc k) o (x ∷ xs) past = ap (λ (l : List (Option Outcome)). x ∷ l) (put_past k o xs (omega arith))

pub put_set : (k : ℕ) (o : Outcome) (xs : List (Option Outcome)) → k < length xs → set xs k (Some o) ≡ put k o xs
put_set k o [] within = absurd (omega arith)
put_set zero o (x ∷ xs) within = refl
put_set (suc k) o (x ∷ xs) within = ap (λ (l : List (Option Outcome)). x ∷ l) (put_set k o xs (omega arith))
