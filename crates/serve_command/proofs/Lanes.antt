-- Boards that are live have lanes of their own.
use Rattle.std.proofs.Common.{◌≡◌, ℕ, zero, suc, ◌+◌, ◌≤◌, List, [], ◌∷◌, Some, refl, ap, arith}
use Rattle.std.specs.List.{slice_get}
use Rattle.hub_lane.specs.declared.answers.BoardState.TheVariants.{Lane}
use Rattle.hub_lane.specs.declared.answers.BoardState.TheVariants as stands
use Rattle.script_plans.specs.declared.greeting.Greeting.{Greeting}
use Rattle.script_plans.specs.declared.greeting.Greeting.TheVariants.{Live, Silent, Down}
use Rattle.session_serve.specs.Boards.{states_from}

pub same_lane : (m n : ℕ) → Some (Lane m) ≡ Some (Lane n) → m ≡ n
same_lane m n e = cc

at_least : (lane : ℕ) (told : List Greeting) (i k : ℕ) → slice_get (states_from lane told) i ≡ Some (Lane k) → lane ≤ k
at_least lane [] i k at = absurd cc
at_least lane (Live payload ∷ told) zero k at = let same = same_lane lane k at in omega (arith, same)
at_least lane (Live payload ∷ told) (suc i) k at = let later = at_least (lane + 1) told i k at in omega (arith, later)
at_least lane (Silent ∷ told) zero k at = absurd cc
at_least lane (Silent ∷ told) (suc i) k at = at_least lane told i k at
at_least lane (Down ∷ told) zero k at = absurd cc
at_least lane (Down ∷ told) (suc i) k at = at_least lane told i k at

pub one_place : (lane : ℕ) (told : List Greeting) (i j k : ℕ) → slice_get (states_from lane told) i ≡ Some (Lane k)
    → slice_get (states_from lane told) j ≡ Some (Lane k) → i ≡ j
one_place lane [] i j k at also = absurd cc
one_place lane (Live payload ∷ told) zero zero k at also = refl
one_place lane (Live payload ∷ told) zero (suc j) k at also =
    let same = same_lane lane k at in
    let later = at_least (lane + 1) told j k also in
    absurd (omega (arith, same, later))
one_place lane (Live payload ∷ told) (suc i) zero k at also =
    let same = same_lane lane k also in
    let later = at_least (lane + 1) told i k at in
    absurd (omega (arith, same, later))
one_place lane (Live payload ∷ told) (suc i) (suc j) k at also = ap suc (one_place (lane + 1) told i j k at also)
one_place lane (Silent ∷ told) zero j k at also = absurd cc
one_place lane (Silent ∷ told) (suc i) zero k at also = absurd cc
one_place lane (Silent ∷ told) (suc i) (suc j) k at also = ap suc (one_place lane told i j k at also)
one_place lane (Down ∷ told) zero j k at also = absurd cc
one_place lane (Down ∷ told) (suc i) zero k at also = absurd cc
one_place lane (Down ∷ told) (suc i) (suc j) k at also = ap suc (one_place lane told i j k at also)

-- a live board has a lane
pub lane_at : (lane : ℕ) (told : List Greeting) (i payload : ℕ) → slice_get told i ≡ Some (Live payload)
    → (k : ℕ) × (slice_get (states_from lane told) i ≡ Some (Lane k))
lane_at lane [] i payload at = absurd cc
lane_at lane (Live payload ∷ told) zero other at = (lane, refl)
lane_at lane (Live payload ∷ told) (suc i) other at = lane_at (lane + 1) told i other at
lane_at lane (Silent ∷ told) zero payload at = absurd cc
lane_at lane (Silent ∷ told) (suc i) payload at = lane_at lane told i payload at
lane_at lane (Down ∷ told) zero payload at = absurd cc
lane_at lane (Down ∷ told) (suc i) payload at = lane_at lane told i payload at

-- and one that is not stands so
pub silent_at : (lane : ℕ) (told : List Greeting) (i : ℕ) → slice_get told i ≡ Some Silent
    → slice_get (states_from lane told) i ≡ Some stands.Silent
silent_at lane [] i at = absurd cc
silent_at lane (Live payload ∷ told) zero at = absurd cc
silent_at lane (Live payload ∷ told) (suc i) at = silent_at (lane + 1) told i at
silent_at lane (Silent ∷ told) zero at = refl
silent_at lane (Silent ∷ told) (suc i) at = silent_at lane told i at
silent_at lane (Down ∷ told) zero at = absurd cc
silent_at lane (Down ∷ told) (suc i) at = silent_at lane told i at

pub down_at : (lane : ℕ) (told : List Greeting) (i : ℕ) → slice_get told i ≡ Some Down
    → slice_get (states_from lane told) i ≡ Some stands.Down
down_at lane [] i at = absurd cc
down_at lane (Live payload ∷ told) zero at = absurd cc
down_at lane (Live payload ∷ told) (suc i) at = down_at (lane + 1) told i at
down_at lane (Silent ∷ told) zero at = absurd cc
down_at lane (Silent ∷ told) (suc i) at = down_at lane told i at
down_at lane (Down ∷ told) zero at = refl
down_at lane (Down ∷ told) (suc i) at = down_at lane told i at
