-- The texts of the elements of a list, one behind another, as a loop writes them.
use Rattle.std.proofs.Common.{◌≡◌, ℕ, ◌+◌, ◌<◌, List, ◌++◌, length, take, get_or, sym, ap, ◌∙◌}
use Rattle.std.specs.List.{flat_map}
use Rattle.std.proofs.lemmas.List.{flat_map_more, take_more}

-- the texts so far and that of the next element
pub text_more : {X : Type 0} (text : X → List ℕ) (xs : List X) (i : ℕ) (x : X) (front : List ℕ) → i < length xs
    → (front ++ flat_map text (take i xs)) ++ text (get_or xs i x) ≡ front ++ flat_map text (take (i + 1) xs)
text_more text xs i x front within =
    flat_map_more text front (take i xs) (get_or xs i x)
    ∙ ap (λ some. front ++ flat_map text some) (sym (take_more xs i x within))
