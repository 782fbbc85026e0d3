-- How one list stands in another, and what a list of names holds. Profile: the words in which what was read and
-- written is told.
use Rattle.std.specs.Prelude.{◌≡◌, ℕ, ◌<◌, if◌then◌else◌, List, [], ◌∷◌, ◌++◌, length, take, Option, Some, None}
use Rattle.std.specs.Str.{bytes_eq}

-- whole begins with front
abbrev pub IsPrefix : {T : Type 0} → List T → List T → Type 0
IsPrefix {T = T} front whole = (rest : List T) × (whole ≡ front ++ rest)

-- front is whole cut short, by one item or more
abbrev pub IsProperPrefix : {T : Type 0} → List T → List T → Type 0
IsProperPrefix front whole = (n : ℕ) × (n < length whole) × (front ≡ take n whole)

-- what stands first beside this name
abbrev pub first_named : {X : Type 0} → List (List ℕ × X) → List ℕ → Option X
first_named [] name = None
first_named (entry ∷ entries) name = if bytes_eq entry.0 name then Some entry.1 else first_named entries name
