-- Seats that were all taken in.
use Rattle.std.proofs.Common.{◌≡◌, ℕ, ◌+◌, ◌≤◌, ◌<◌, zero, suc, List, [], ◌∷◌, ◌++◌, map, drop, refl, sym, ap, subst}
use Rattle.std.proofs.Common.{◌∙◌, arith, lt_of_not-le}
use mathlib.Core.Logic.{dite}
use native.Mathlib.Decide.{dec_le}
use Rattle.std.specs.List.{AllByRecursion, Contains}
use Rattle.turn_pass.specs.Pass.{Joined, Knowledge, PassState, first_knowledge, kept_of, one_more_made, taking_in}
use Rattle.turn_pass.specs.Record.{Record}
use Rattle.hub_multiplexer.specs.Ends.{HasAllJoined, HasJoinedBelow, HasJoinedEach}
use Rattle.hub_multiplexer.specs.Seats.{IsFirst, IsIdle, knows_after_join, knows_of, turns_of}

abbrev numbers : List Joined → List ℕ
numbers js = map (λ (j : Joined). j.number) js

left_in : (xs ys : List Joined) (n : ℕ) → Contains (numbers xs) n → Contains (numbers (xs ++ ys)) n
left_in [] ys n (k, inside, at) = let none : k < 0 = inside in absurd (omega arith)
left_in (x ∷ xs) ys n (zero, inside, at) = (0, omega arith, at)
left_in (x ∷ xs) ys n (suc k, inside, at) = let c = left_in xs ys n (k, omega arith, at) in
    (suc c.0, omega (arith, c.1), c.2)

right_in : (xs ys : List Joined) (n : ℕ) → Contains (numbers ys) n → Contains (numbers (xs ++ ys)) n
right_in [] ys n c = c
right_in (x ∷ xs) ys n c = let d = right_in xs ys n c in (suc d.0, omega (arith, d.1), d.2)

one_taken_in : (n : ℕ) (k other : Knowledge) → other.number ≡ n → HasJoinedBelow n k
    → HasJoinedBelow (n + 1) (taking_in k other)
one_taken_in n k other is below c from up = dite (dec_le n c)
    (λ (high : n ≤ c). subst (Contains (numbers (taking_in k other).joined)) (is ∙ (omega arith))
    (right_in (k.joined ++ other.joined) (kept_of other ∷ []) other.number (0, omega arith, refl)))
    (λ low. left_in (k.joined ++ other.joined) (kept_of other ∷ []) c
    (left_in k.joined other.joined c (below c from (lt_of_not-le low))))

no_turn : {X : Type 0} (x : X) (xs : List X) → x ∷ xs ≡ [] → ⊥
no_turn x xs e = cc

-- each board's first pass took in the pass of the seat
pub seat_taken_in : (n : ℕ) (passes others : List PassState) → turns_of others ≡ turns_of passes
    → AllByRecursion (IsIdle n) others
    → AllByRecursion (HasJoinedBelow n) (knows_of passes)
    → AllByRecursion (HasJoinedBelow (n + 1)) (knows_after_join (knows_of passes) (knows_of others))
seat_taken_in n [] others same idle below = tt
seat_taken_in n (p ∷ ps) [] same idle below = absurd (no_turn p.turn (turns_of ps) (sym same))
seat_taken_in n (p ∷ ps) (q ∷ qs) same idle below = (
  one_taken_in n p.knows q.knows idle.0.has_number below.0,
  seat_taken_in n ps qs (ap (λ l. drop 1 l) same) idle.1 below.1,
)

one_more_taken_in : (clients : List ℕ) (n : ℕ) (k other : Knowledge) → other.number ≡ n → HasJoinedEach clients k
    → HasJoinedEach (n ∷ clients) (taking_in k other)
one_more_taken_in clients n k other is before c (zero, inside, at) =
    subst (Contains (numbers (taking_in k other).joined)) (is ∙ at)
    (right_in (k.joined ++ other.joined) (kept_of other ∷ []) other.number (0, omega arith, refl))
one_more_taken_in clients n k other is before c (suc i, inside, at) =
    left_in (k.joined ++ other.joined) (kept_of other ∷ []) c
    (left_in k.joined other.joined c (before c (i, omega (arith, inside), at)))

-- so did it of a seat that comes in whatever order
pub seat_joined : (clients : List ℕ) (n : ℕ) (passes others : List PassState) → turns_of others ≡ turns_of passes
    → AllByRecursion (IsIdle n) others
    → AllByRecursion (HasJoinedEach clients) (knows_of passes)
    → AllByRecursion (HasJoinedEach (n ∷ clients)) (knows_after_join (knows_of passes) (knows_of others))
seat_joined clients n [] others same idle before = tt
seat_joined clients n (p ∷ ps) [] same idle before = absurd (no_turn p.turn (turns_of ps) (sym same))
seat_joined clients n (p ∷ ps) (q ∷ qs) same idle before = (
  one_more_taken_in clients n p.knows q.knows idle.0.has_number before.0,
  seat_joined clients n ps qs (ap (λ l. drop 1 l) same) idle.1 before.1,
)

-- one more pass is made of each board
pub still_taken_in : (n : ℕ) (knows : List Knowledge) → AllByRecursion (HasJoinedBelow n) knows
    → AllByRecursion (HasJoinedBelow n) (map one_more_made knows)
still_taken_in n [] below = tt
still_taken_in n (k ∷ ks) below = (below.0, still_taken_in n ks below.1)

-- there is no number from 1 below 1
pub none_below : (openings : List Record) → AllByRecursion (HasJoinedBelow 1) (map first_knowledge openings)
none_below [] = tt
none_below (r ∷ rs) = ((λ c from up. absurd (omega arith)), none_below rs)

-- all that were made
pub all_taken_in : (seats : ℕ) (passes : List PassState) → AllByRecursion (IsFirst (seats + 1)) passes
    → AllByRecursion (HasJoinedBelow (seats + 1)) (knows_of passes) → AllByRecursion HasAllJoined (knows_of passes)
all_taken_in seats [] firsts below = tt
all_taken_in seats (p ∷ ps) firsts below = (
  subst (λ n. HasJoinedBelow n p.knows)
      (sym firsts.0.has_made) below.0,
  all_taken_in seats ps firsts.1 below.1,
)
