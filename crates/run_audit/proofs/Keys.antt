-- A set of places with one more.
use Rattle.std.proofs.Common.{◌≡◌, ℕ, ◌==◌, ◌||◌, Bool, true, false, Some, refl, ap, subst, ◌∙◌, eq-eqb}
use Rattle.std.specs.Option.{ForSome}
use Rattle.std.proofs.lemmas.Option.{same_Some}
use Rattle.run_audit.specs.declared.places.PieceShown.{PieceShown}

or_true : (b : Bool) → (b || true) ≡ true
or_true true = refl
or_true false = refl

-- the place of the piece that was added is there
pub last_there : (has : ℕ → Bool) (was : Bool) (piece : PieceShown)
    → has piece.place ≡ (was || (piece.place == piece.place))
    → ForSome (Some piece) (λ (last : PieceShown). has last.place ≡ true)
last_there has was piece is = λ last same.
    subst (λ (p : PieceShown). has p.place ≡ true) (same_Some piece last same)
    (is ∙ (ap (λ b. was || b) (eq-eqb piece.place piece.place refl) ∙ or_true was))
