-- How the numbers in a list follow one another, and what holds of each item of a list and those before it.
use Rattle.std.specs.Prelude.{◌≡◌, ℕ, ◌+◌, ◌≤◌, List, [], ◌∷◌, ◌++◌}

-- k, k + 1, k + 2, ..
abbrev pub CountsFrom : ℕ → List ℕ → Type 0
CountsFrom k [] = Unit {0}
CountsFrom k (n ∷ ns) = (n ≡ k) × CountsFrom (k + 1) ns

-- none is less than the one before, and the first is at least k
abbrev pub NeverFalls : ℕ → List ℕ → Type 0
NeverFalls k [] = Unit {0}
NeverFalls k (n ∷ ns) = (k ≤ n) × NeverFalls n ns

-- it holds of each of these items and all those that stand before it, `front` being before all
abbrev pub EachBehind : {A : Type 0} → (List A → A → Type 0) → List A → List A → Type 0
EachBehind P front [] = Unit {0}
EachBehind P front (x ∷ xs) = P front x × EachBehind P (front ++ x ∷ []) xs

-- it holds of each item of a list and those that stand before it
abbrev pub Throughout : {A : Type 0} → (List A → A → Type 0) → List A → Type 0
Throughout P xs = EachBehind P [] xs
