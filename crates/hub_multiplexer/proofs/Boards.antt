-- A call on one board of a seat.
use Rattle.std.proofs.Common.{◌≡◌, ◌<◌, ℕ, zero, suc, List, [], ◌∷◌, length, get_or, set, Some, IfSome, refl, sym, ap}
use Rattle.std.proofs.Common.{subst, ◌∙◌, arith}
use Rattle.std.specs.List.{AllByRecursion, slice_get}
use Rattle.std.proofs.lemmas.List.{length-map}
use Rattle.turn_pass.specs.Pass.{Knowledge, PassState, TurnId}
use Rattle.hub_multiplexer.specs.Seats.{ChangesAt, IsIdle, SeatState, knows_of, turns_of}

abbrev pub seat_with : ℕ → List PassState → SeatState
seat_with client passes = record { client = client; turns = turns_of passes; knows = knows_of passes }

turns_set : (passes : List PassState) (board : ℕ) (p p' : PassState) → p ≡ get_or passes board p → p'.turn ≡ p.turn
    → turns_of (set passes board p') ≡ turns_of passes
turns_set [] board p p' here same = refl
turns_set (x ∷ xs) zero p p' here same = ap (λ t. t ∷ turns_of xs) (same ∙ ap (λ (z : PassState). z.turn) here)
turns_set (x ∷ xs) (suc board) p p' here same = ap (λ l. x.turn ∷ l) (turns_set xs board p p' here same)

knows_set : (passes : List PassState) (board : ℕ) (p' : PassState)
    → knows_of (set passes board p') ≡ set (knows_of passes) board p'.knows
knows_set [] board p' = refl
knows_set (x ∷ xs) zero p' = refl
knows_set (x ∷ xs) (suc board) p' = ap (λ l. x.knows ∷ l) (knows_set xs board p')

knows_there : (passes : List PassState) (board : ℕ) (p : PassState) → board < length passes → p ≡ get_or passes board p
    → slice_get (knows_of passes) board ≡ Some p.knows
knows_there [] board p inside here = absurd (omega arith)
knows_there (x ∷ xs) zero p inside here = ap (λ (z : PassState). Some z.knows) (sym here)
knows_there (x ∷ xs) (suc board) p inside here = knows_there xs board p (omega arith) here

-- what a call on the pass of a board changes of the seat
pub changes_at : (client : ℕ) (passes : List PassState) (old : SeatState) (turns : List TurnId) (board : ℕ)
    (p p' : PassState) (P : Knowledge → Knowledge → Type 0) → seat_with client passes ≡ old → old.turns ≡ turns
    → board < length turns
    → p ≡ get_or passes board p → p' ≡ record p { knows = p'.knows } → P p.knows p'.knows
    → ChangesAt board old (seat_with client (set passes board p')) P
changes_at client passes old turns board p p' P seat_is of_hub low here same relation =
    let long : length passes ≡ length turns = sym (length-map passes (λ (z : PassState). z.turn))
    ∙ (ap (λ (s : SeatState). length s.turns) seat_is ∙ ap length of_hub) in
    let inside : board < length passes = omega (arith, long, low) in
    subst (λ (s : SeatState). ChangesAt board s (seat_with client (set passes board p')) P) seat_is (record {
      before = p.knows;
      after = p'.knows;
      there = knows_there passes board p inside here;
      becomes = λ i. record {
        client = client;
        turns = turns_set passes board p p' here
            (ap (λ (z : PassState). z.turn) same) i;
        knows = knows_set passes board p' i;
      };
      relation = relation;
    })

pub idle_at : (client : ℕ) (passes : List PassState) (board : ℕ) (p : PassState) → AllByRecursion (IsIdle client) passes
    → IsIdle client p → AllByRecursion (IsIdle client) (set passes board p)
idle_at client [] board p a i = tt
idle_at client (x ∷ xs) zero p a i = (i, a.1)
idle_at client (x ∷ xs) (suc board) p a i = (a.0, idle_at client xs board p a.1 i)

-- what holds of what the seat knows of the board
pub known_at : (client : ℕ) (passes : List PassState) (old : SeatState) (board : ℕ) (p : PassState)
    (P : Knowledge → Type 0) → seat_with client passes ≡ old → board < length passes → p ≡ get_or passes board p
    → IfSome (slice_get old.knows board) P → P p.knows
known_at client passes old board p P seat_is inside here holds =
    subst (λ o. IfSome o P) (ap (λ (s : SeatState). slice_get s.knows board) (sym seat_is)
    ∙ knows_there passes board p inside here) holds
