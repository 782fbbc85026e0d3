-- A name that begins with another and a dot, byte by byte.
use Rattle.std.proofs.Common.{◌≡◌, ℕ, ◌≤◌, [], ◌∷◌, Bool, true, false, ◌&&◌, ◌==◌, nat_eq, length, take, slice_index}
use Rattle.std.proofs.Common.{refl, ap, ◌∙◌, arith}
use Rattle.std.proofs.lemmas.Bool.Decides.{nat_tests}
use Rattle.std.specs.Str.{bytes_eq}
use Rattle.node_tree.specs.Named.{Name}
use Rattle.node_tree.specs.Overlaps.{is_dotted_prefix}

and_true : (b : Bool) → (b && true) ≡ b
and_true true = refl
and_true false = refl

and_assoc : (a b c : Bool) → (a && (b && c)) ≡ ((a && b) && c)
and_assoc true b c = refl
and_assoc false b c = refl

same_either_way : (a b : ℕ) → nat_eq a b ≡ nat_eq b a
same_either_way a b = grind (arith, nat_tests)

pub dotted : (name other : Name)
    → is_dotted_prefix name other
    ≡ (bytes_eq (take (length name) other) name && (slice_index other (length name) == 46))
dotted [] [] = refl
dotted [] (x ∷ xs) = and_true (nat_eq 46 x) ∙ same_either_way 46 x
dotted (n ∷ ns) [] = refl
dotted (n ∷ ns) (x ∷ xs) =
    ap (λ rest. nat_eq n x && rest) (dotted ns xs)
    ∙ ap (λ b. b && (bytes_eq (take (length ns) xs) ns && (slice_index xs (length ns) == 46))) (same_either_way n x)
    ∙ and_assoc (nat_eq x n) (bytes_eq (take (length ns) xs) ns) (slice_index xs (length ns) == 46)

and_false : (b : Bool) → (b && false) ≡ false
and_false true = refl
and_false false = refl

pub not_longer : (name other : Name) → length other ≤ length name → is_dotted_prefix name other ≡ false
not_longer [] [] h = refl
not_longer [] (x ∷ xs) h = absurd (omega arith)
not_longer (n ∷ ns) [] h = refl
not_longer (n ∷ ns) (x ∷ xs) h = ap (λ b. nat_eq n x && b) (not_longer ns xs (omega arith)) ∙ and_false (nat_eq n x)
