-- The places of registers that overlap: the first is below the second, and both are places of entries.
use Rattle.std.proofs.Common.{ℕ, ◌+◌, ◌<◌, ◌≤◌, List, [], ◌∷◌, ◌++◌, length, All, Bool, cond, true, false, Option, Some}
use Rattle.std.proofs.Common.{None, IfSome, arith, length-append}
use Rattle.std.proofs.lemmas.List.Elements.{All-nil, All-cons, All-append}
use Rattle.std.specs.List.{position_from}
use Rattle.std.specs.FinMap.{entries, len, len-entries}
use Rattle.node_tree.specs.declared.register.Register.{Register}
use Rattle.node_tree.specs.Maps.{Name, RegisterMap}
use Rattle.node_tree.specs.Overlaps.{overlap, overlapping, pair_with}

-- the places of a pair among so many entries
abbrev pub ArePlaces : ℕ → ℕ × ℕ → Type 0
ArePlaces count p = (p.0 < p.1) × (p.1 < count)

by_test : (b : Bool) (i count : ℕ) (rest : Option ℕ) → i < count → IfSome rest (λ k. k < count)
    → IfSome (cond b (Some i) rest) (λ k. k < count)
by_test true i count rest here later = here
by_test false i count rest here later = later

position-below : {X : Type 0} (t : X → Bool) (i count : ℕ) (xs : List X) → i + length xs ≤ count
    → IfSome (position_from t i xs) (λ k. k < count)
position-below t i count [] h = tt
position-below t i count (x ∷ xs) h =
    by_test (t x) i count (position_from t (i + 1) xs) (omega arith) (position-below t (i + 1) count xs (omega arith))

pair-places : (j count : ℕ) (o : Option ℕ) → IfSome o (λ k. k < j) → j < count → All (ArePlaces count) (pair_with j o)
pair-places j count None first second = All-nil (ArePlaces count)
pair-places j count (Some i) first second =
    All-cons (ArePlaces count) (i, j) [] (first, second) (All-nil (ArePlaces count))

places-from : (before es : List (Name × Register)) (count : ℕ) → length before + length es ≤ count
    → All (ArePlaces count) (overlapping before es)
places-from before [] count h = All-nil (ArePlaces count)
places-from before (e ∷ es) count h =
    All-append (ArePlaces count) (pair_with (length before) (position_from (λ a. overlap a e) 0 before))
    (overlapping (before ++ e ∷ []) es)
    (pair-places (length before) count (position_from (λ a. overlap a e) 0 before)
    (position-below (λ a. overlap a e) 0 (length before) before (omega arith)) (omega arith))
    (places-from (before ++ e ∷ []) es count (omega (arith, length-append before (e ∷ []))))

pub overlapping-places : (registers : RegisterMap)
    → All (ArePlaces (len registers)) (overlapping [] (entries registers))
overlapping-places registers =
    places-from [] (entries registers) (len registers) (let same = len-entries registers in omega arith)
