-- A client that uses a board alone.
use Rattle.std.proofs.Common.{◌≡◌, ℕ, ◌+◌, ◌<◌, List, [], ◌∷◌, ◌++◌, refl, sym, ap, ◌∙◌}
use Rattle.std.proofs.Common.{subst, arith, append-nil}
use Rattle.std.specs.List.{AllByRecursion}
use Rattle.lane_record.specs.declared.outcome.Outcome.{Outcome}
use Rattle.lane_record.specs.Lists.{CountsFrom}
use Rattle.board_history.specs.Order.{Placed, RisesFrom, all_placed, by_place, insert, bodies_with_places, places_of}
use Rattle.board_history.specs.Parts.{HasOneOrder, KeepsScripts}
use Rattle.board_history.specs.InTurn.{AreInTurn, IsUsedByOne}
use Rattle.board_history.proofs.Sorting.{AreAbove, insert_low}

-- clients that ask nothing have no place
pub none_placed : (bodies : List (List (List ℕ))) (outcomes : List (List Outcome))
    → AllByRecursion (λ (others : List (List ℕ)). others ≡ []) bodies → all_placed bodies outcomes ≡ []
none_placed [] outcomes none = refl
none_placed (bs ∷ later) [] none = refl
none_placed (bs ∷ later) (os ∷ others) none =
    ap (λ (cs : List (List ℕ)). bodies_with_places cs os ++ all_placed later others) none.0 ∙ none_placed later others none.1

-- so the places of all are those of one
alone_rises : (bodies : List (List (List ℕ))) (outcomes : List (List Outcome)) → IsUsedByOne bodies
    → KeepsScripts bodies outcomes → RisesFrom 1 (places_of (all_placed bodies outcomes))
alone_rises [] outcomes one keeps = tt
alone_rises ([] ∷ later) [] one keeps = tt
alone_rises ((b ∷ bs) ∷ later) [] one keeps = tt
alone_rises ([] ∷ later) (os ∷ others) one keeps = alone_rises later others one keeps.1
alone_rises ((b ∷ bs) ∷ later) (os ∷ others) one keeps =
    let own = bodies_with_places (b ∷ bs) os in
    let only : own ++ all_placed later others ≡ own =
    ap (λ (ps : List Placed). own ++ ps) (none_placed later others one) ∙ append-nil own in
    subst (λ (ps : List Placed). RisesFrom 1 (places_of ps)) (sym only) keeps.0

-- bodies whose places rise stand by place
rising_above : (k low : ℕ) (ps : List Placed) → low < k → RisesFrom k (places_of ps) → AreAbove low ps
rising_above k low [] h rises = tt
rising_above k low (p ∷ ps) h rises =
    (omega (arith, h, rises.0), rising_above (p.place + 1) low ps (omega (arith, h, rises.0)) rises.1)

rising_sorted : (k : ℕ) (ps : List Placed) → RisesFrom k (places_of ps) → by_place ps ≡ ps
rising_sorted k [] rises = refl
rising_sorted k (p ∷ ps) rises =
    ap (insert p) (rising_sorted (p.place + 1) ps rises.1)
    ∙ insert_low p ps (rising_above (p.place + 1) p.place ps (omega arith) rises.1)

pub alone_in_turn : (bodies : List (List (List ℕ))) (outcomes : List (List Outcome)) → IsUsedByOne bodies
    → HasOneOrder bodies outcomes → KeepsScripts bodies outcomes → AreInTurn bodies outcomes
alone_in_turn bodies outcomes one order keeps =
    let all = all_placed bodies outcomes in
    subst (λ (ps : List Placed). CountsFrom 1 (places_of ps))
    (rising_sorted 1 all (alone_rises bodies outcomes one keeps))
    order
