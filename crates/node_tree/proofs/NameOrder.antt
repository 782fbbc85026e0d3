-- Names in byte order, and those that begin with another.
use Rattle.std.proofs.Common.{◌≡◌, ◌⊎◌, inl, inr, ℕ, ◌<◌, [], ◌∷◌, ◌++◌, Bool, true, false, nat_eq, codes}
use Rattle.std.proofs.Common.{Ordering, Less, Equal, Greater, nat_cmp, refl, arith}
use Rattle.std.specs.List.{starts_with}
use Rattle.std.specs.Ordering.{ordering_then}
use Rattle.std.specs.Cmp.{nat_cmp_is}
use Rattle.std.proofs.lemmas.Bool.{false≢true, cases_lt, and_parts, and_from}
use Rattle.std.proofs.lemmas.Bool.Decides.{nat_tests}
use Rattle.node_tree.specs.Named.{Name}
use Rattle.node_tree.specs.Overlaps.{is_dotted_prefix}
use Rattle.node_tree.proofs.CycleLemmas.{either}
use Rattle.node_tree.proofs.NamedLemmas.{by_bytes}

pub not_so : (b : Bool) → (b ≡ true → ⊥) → b ≡ false
not_so true h = absurd (h refl)
not_so false h = refl

-- names in byte order
then_less : (o r : Ordering) → ordering_then o r ≡ Less → (o ≡ Less) ⊎ ((o ≡ Equal) × (r ≡ Less))
then_less Less r h = inl refl
then_less Equal r h = inr (refl, h)
then_less Greater r h = let bad : ⊥ = cc in absurd bad

cmp_less : (x y : ℕ) → nat_cmp x y ≡ Less → x < y
cmp_less x y h =
    either (cases_lt x y) (λ less. less)
    (λ more. either (cases_lt y x)
    (λ above. let is : Greater ≡ nat_cmp x y = nat_cmp_is x y Greater above in let bad : ⊥ = cc in absurd bad)
    (λ below. let is : Equal ≡ nat_cmp x y = nat_cmp_is x y Equal (omega arith) in let bad : ⊥ = cc in absurd bad))

cmp_equal : (x y : ℕ) → nat_cmp x y ≡ Equal → x ≡ y
cmp_equal x y h =
    either (cases_lt x y)
    (λ less. let is : Less ≡ nat_cmp x y = nat_cmp_is x y Less less in let bad : ⊥ = cc in absurd bad)
    (λ more. either (cases_lt y x)
    (λ above. let is : Greater ≡ nat_cmp x y = nat_cmp_is x y Greater above in let bad : ⊥ = cc in absurd bad)
    (λ below. omega arith))

rises_at : (x y : ℕ) (xs ys : Name) → by_bytes (x ∷ xs) (y ∷ ys) ≡ Less → (x < y) ⊎ ((x ≡ y) × (by_bytes xs ys ≡ Less))
rises_at x y xs ys h =
    either (then_less (nat_cmp x y) (by_bytes xs ys) h) (λ less. inl (cmp_less x y less))
    (λ (same, rest). inr (cmp_equal x y same, rest))

none_below : (x : ℕ) (xs : Name) → by_bytes (x ∷ xs) [] ≡ Less → ⊥
none_below x xs h = cc

same_byte : (x y : ℕ) → nat_eq x y ≡ true → x ≡ y
same_byte x y h = grind (arith, nat_tests)

byte_same : (x y : ℕ) → x ≡ y → nat_eq x y ≡ true
byte_same x y h = grind (arith, nat_tests)

-- a name begins with another
abbrev pub Begins : Name → Name → Type 0
Begins c p = starts_with nat_eq c p ≡ true

begins-cons : (z x : ℕ) (c p : Name) → Begins (z ∷ c) (x ∷ p) → (x ≡ z) × Begins c p
begins-cons z x c p h =
    let (here, rest) = and_parts (nat_eq x z) (starts_with nat_eq c p) h in (same_byte x z here, rest)

cons-begins : (z x : ℕ) (c p : Name) → x ≡ z → Begins c p → Begins (z ∷ c) (x ∷ p)
cons-begins z x c p same rest = and_from (nat_eq x z) (starts_with nat_eq c p) (byte_same x z same) rest

-- so does each name between the two
pub between : (p q c : Name) → by_bytes p q ≡ Less → by_bytes q c ≡ Less → Begins c p → Begins q p
between [] q c before after h = refl
between (x ∷ p) [] c before after h = absurd (none_below x p before)
between (x ∷ p) (y ∷ q) [] before after h = absurd (false≢true h)
between (x ∷ p) (y ∷ q) (z ∷ c) before after h =
    let (same, rest) = begins-cons z x c p h in
    either (rises_at x y p q before)
    (λ less. either (rises_at y z q c after) (λ more. absurd (omega arith)) (λ (equal, _). absurd (omega arith)))
    (λ (here, before_rest). either (rises_at y z q c after)
    (λ more. absurd (omega arith))
    (λ (equal, after_rest). cons-begins y x q p here (between p q c before_rest after_rest rest)))

pub dotted-begins : (p c : Name) → is_dotted_prefix p c ≡ true → Begins c p
dotted-begins [] c h = refl
dotted-begins (x ∷ p) [] h = absurd (false≢true h)
dotted-begins (x ∷ p) (z ∷ c) h =
    let (here, rest) = and_parts (nat_eq x z) (starts_with nat_eq c (p ++ codes ".")) h in
    and_from (nat_eq x z) (starts_with nat_eq c p) here (dotted-begins p c rest)

-- a name comes before those that begin with it and a dot
pub dotted-later : (p c : Name) → by_bytes c p ≡ Less → is_dotted_prefix p c ≡ true → ⊥
dotted-later [] [] h d = false≢true d
dotted-later [] (z ∷ c) h d = none_below z c h
dotted-later (x ∷ p) [] h d = false≢true d
dotted-later (x ∷ p) (z ∷ c) h d =
    let (here, rest) = and_parts (nat_eq x z) (starts_with nat_eq c (p ++ codes ".")) d in
    let same = same_byte x z here in
    either (rises_at z x c p h) (λ less. absurd (omega arith)) (λ (equal, before). dotted-later p c before rest)
