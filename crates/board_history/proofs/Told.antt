-- What a link tells, and the board that it tells of.
use Rattle.std.proofs.Common.{◌≡◌, true, Option, Some, None, refl, subst, is_some}
use Rattle.std.specs.Prelude.{IfSome}
use Rattle.std.proofs.lemmas.Option.{same_Some}
use Rattle.world_model.specs.Board.{Board}
use Rattle.links.specs.Telling.{Telling}
use Rattle.board_history.specs.Links.{board_there}

-- what is so wherever a link tells is so wherever its board is told, and the other way round
pub of_board : (P : Type 0) (telling : Option Telling) → IfSome telling (λ _. P)
    → IfSome (board_there telling) (λ _. P)
of_board P None is = tt
of_board P (Some t) is = is

pub of_telling : (P : Type 0) (telling : Option Telling) → IfSome (board_there telling) (λ _. P)
    → IfSome telling (λ _. P)
of_telling P None is = tt
of_telling P (Some t) is = is

-- and where the board is told it is so
pub if_told : (P : Type 0) (telling : Option Telling) (there : Board) → board_there telling ≡ Some there
    → IfSome telling (λ _. P) → P
if_told P None there tells is = absurd cc
if_told P (Some t) there tells is = is

-- a link that tells has a board
pub told_there : (telling : Option Telling) → is_some telling ≡ true
    → (there : Board) × (board_there telling ≡ Some there)
told_there None tells = absurd cc
told_there (Some t) tells = (t.told.board, refl)

-- ---- what holds where there is something

pub some_then : {A : Type 0} (P Q : A → Type 0) (o : Option A) → ((x : A) → P x → Q x) → IfSome o P → IfSome o Q
some_then P Q None f p = tt
some_then P Q (Some x) f p = f x p

pub at_some : {A : Type 0} (P : A → Type 0) (o : Option A) (x : A) → o ≡ Some x → IfSome o P → P x
at_some P None x e p = absurd cc
at_some P (Some y) x e p = subst P (same_Some y x e) p
