-- What is told of the first board that is not right, board by board.
use Rattle.std.proofs.Common.{◌≡◌, ℕ, ◌+◌, ◌<◌, List, [], ◌∷◌, ◌++◌, length, drop, take, get_or, inl}
use Rattle.std.proofs.Common.{inr}
use Rattle.std.specs.List.{AllByRecursion, AllZip}
use Rattle.std.proofs.lemmas.List.{drop_more, take_more}
use Rattle.board_specs.specs.declared.spec.BoardSpec.{BoardSpec}
use Rattle.session_input.specs.Deserved.{IsToldFirst}

-- what holds of a board and those behind it holds from it on
pub from_board : (P : List BoardSpec → Type 0) (bs : List BoardSpec) (i : ℕ) (b : BoardSpec) → i < length bs
    → b ≡ get_or bs i b
    → P (b ∷ drop (i + 1) bs) → P (drop i bs)
from_board P bs i b within here held = rw (drop_more bs i b within, ← here) held

pub told_later : (Right Told : BoardSpec → Type 0) (bs : List BoardSpec) (i : ℕ) (b : BoardSpec) → i < length bs
    → b ≡ get_or bs i b
    → Right b → IsToldFirst Right Told (drop (i + 1) bs) → IsToldFirst Right Told (drop i bs)
told_later Right Told bs i b within here right later =
    from_board (IsToldFirst Right Told) bs i b within here (inr (right, later))

pub told_here : (Right Told : BoardSpec → Type 0) (bs : List BoardSpec) (i : ℕ) (b : BoardSpec) → i < length bs
    → b ≡ get_or bs i b
    → Told b → IsToldFirst Right Told (drop i bs)
told_here Right Told bs i b within here told = from_board (IsToldFirst Right Told) bs i b within here (inl told)

pub right_later : (Right : BoardSpec → Type 0) (bs : List BoardSpec) (i : ℕ) (b : BoardSpec) → i < length bs
    → b ≡ get_or bs i b
    → Right b → AllByRecursion Right (drop (i + 1) bs) → AllByRecursion Right (drop i bs)
right_later Right bs i b within here right later = from_board (AllByRecursion Right) bs i b within here (right, later)

zip_pushed : {X Y : Type 0} (R : X → Y → Type 0) (xs : List X) (ys : List Y) (x : X) (y : Y)
    → AllZip R xs ys → R x y → AllZip R (xs ++ x ∷ []) (ys ++ y ∷ [])
zip_pushed R [] [] x y all one = (one, tt)
zip_pushed R [] (z ∷ ys) x y all one = absurd all
zip_pushed R (w ∷ xs) [] x y all one = absurd all
zip_pushed R (w ∷ xs) (z ∷ ys) x y all one = (all.0, zip_pushed R xs ys x y all.1 one)

-- one more of two lists that go together
pub zip_more : {Y : Type 0} (R : BoardSpec → Y → Type 0) (bs : List BoardSpec) (ys : List Y) (i : ℕ) (b : BoardSpec)
    (y : Y)
    → i < length bs → b ≡ get_or bs i b → AllZip R (take i bs) ys → R b y → AllZip R (take (i + 1) bs) (ys ++ y ∷ [])
zip_more R bs ys i b y within here all one =
    rw (take_more bs i b within, ← here) (zip_pushed R (take i bs) ys b y all one)
