-- The line of an operation on a board, by the name of the board.
use Rattle.std.proofs.Common.{◌≡◌, ◌⊎◌, ℕ, zero, suc, ◌+◌, ◌<◌, true, List, [], ◌∷◌, length, Some, get_or}
use Rattle.std.proofs.Common.{refl, sym, ap, ◌∙◌, subst, inl, inr, arith, is_some}
use Rattle.std.specs.List.{AllZip, slice_get}
use Rattle.std.proofs.lemmas.Option.{same_Some}
use Rattle.world_model.specs.Board.{Board}
use Rattle.board_specs.specs.declared.spec.BoardSpec.{BoardSpec}
use Rattle.world_model.specs.Settings.{Limits}
use Rattle.script_steps.specs.declared.operation.Step.{Step}
use Rattle.script_plans.specs.declared.board_run.BoardRun.{BoardRun}
use Rattle.script_plans.specs.Runs.{HaveOwnNames}
use Rattle.board_history.specs.Links.{LinkReport, board_there}
use Rattle.board_history.specs.LinkRuns.{AreRunsOver}
use Rattle.board_history.proofs.Told.{told_there}

-- the item at a place
get_at : {A : Type 0} (xs : List A) (k : ℕ) (x d : A) → slice_get xs k ≡ Some x → (k < length xs) × (get_or xs k d ≡ x)
get_at [] k x d at = absurd cc
get_at (y ∷ ys) zero x d at = (omega arith, same_Some y x at)
get_at (y ∷ ys) (suc k) x d at = let later = get_at ys k x d at in (omega (arith, later.0), later.1)

-- boards of one name are one board
one_place : (runs : List BoardRun) → HaveOwnNames runs → (j k : ℕ) (one other : BoardRun) → slice_get runs j ≡ Some one
    → slice_get runs k ≡ Some other → one.name ≡ other.name → j ≡ k
one_place runs own j k one other at also same =
    let first = get_at runs j one one at in
    let second = get_at runs k other one also in
    let names : (get_or runs j one).name ≡ (get_or runs k one).name =
    ap (λ (r : BoardRun). r.name) first.1 ∙ same ∙ ap (λ (r : BoardRun). r.name) (sym second.1) in
    elim (order j k) [
      | inl less ↦ absurd (own j k one less second.0 names)
      | inr rest ↦ elim rest [
        | inl same ↦ same
        | inr more ↦ absurd (own k j one more first.0 (sym names))
      ]
    ]
  where
    order : (a b : ℕ) → (a < b) ⊎ ((a ≡ b) ⊎ (b < a))
    order a b = grind arith

-- as many runs as links, and so of each two at one place
zip_from : {A B : Type 0} (R : A → B → Type 0) (xs : List A) (ys : List B) → length xs ≡ length ys
    → ((k : ℕ) (x : A) (y : B) → slice_get xs k ≡ Some x → slice_get ys k ≡ Some y → R x y) → AllZip R xs ys
zip_from R [] [] same each = tt
zip_from R [] (y ∷ ys) same each = absurd (omega (arith, same))
zip_from R (x ∷ xs) [] same each = absurd (omega (arith, same))
zip_from R (x ∷ xs) (y ∷ ys) same each = (
  each 0 x y refl refl,
  zip_from R xs ys (omega (arith, same)) (λ k one other at also. each (suc k) one other at also),
)

pub as_many : (settings : Limits) (board : ℕ) (specs : List BoardSpec) (scripts : List (List Step))
    (runs : List BoardRun) (links : List LinkReport) → AreRunsOver settings board specs scripts runs links
    → length runs ≡ length links
as_many settings board [] scripts [] [] is = refl
as_many settings board [] scripts [] (l ∷ links) is = absurd is
as_many settings board [] scripts (r ∷ runs) links is = absurd is
as_many settings board (spec ∷ specs) scripts [] links is = absurd is
as_many settings board (spec ∷ specs) scripts (r ∷ runs) [] is = absurd is
as_many settings board (spec ∷ specs) scripts (r ∷ runs) (l ∷ links) is =
    ap suc (as_many settings (board + 1) specs scripts runs links is.1)

-- What is so of the board at a place where its link tells is so wherever a board of its name has a link that tells.
pub where_told : (T : Type 0) (runs : List BoardRun) (links : List LinkReport) → length runs ≡ length links
    → HaveOwnNames runs → (k : ℕ) (run : BoardRun) → slice_get runs k ≡ Some run
    → ((link : LinkReport) (there : Board) → slice_get links k ≡ Some link → board_there link.telling ≡ Some there → T)
    → AllZip (λ (other : BoardRun) (link : LinkReport). other.name ≡ run.name → is_some link.telling ≡ true → T) runs
    links
where_told T runs links same own k run at holds =
    zip_from (λ (other : BoardRun) (link : LinkReport). other.name ≡ run.name → is_some link.telling ≡ true → T) runs
    links
    same
    (λ j other link there also named told.
    let place = one_place runs own j k other run there at named in
    let board = told_there link.telling told in
    holds link board.0 (subst (λ (n : ℕ). slice_get links n ≡ Some link) place also) board.1)
