-- A list dealt out in turn: what stands at the places of each operation are its own pieces, and these places are all.
use Rattle.std.proofs.Common.{◌≡◌, ℕ, List, [], ◌∷◌, ◌++◌, length, map, take, drop, refl, sym, ap, ◌∙◌, arith}
use Rattle.std.proofs.Common.{length-append}
use Rattle.std.specs.List.{flat_map}
use Rattle.std.proofs.lemmas.List.{take_at, drop_at, length-map, map-id, take-append-drop, nil_from_length, length-drop}
use Rattle.std.proofs.lemmas.List.{take-map, drop-map}
use Rattle.std.proofs.lemmas.List.Concat.{flat_map-cons}
use Rattle.mtu_packer.specs.Packed.{deal}

pub map-deal : {A B : Type 0} (f : A → B) (counts : List ℕ) (xs : List A) → map (map f) (deal counts xs)
    ≡ deal counts (map f xs)
map-deal f [] xs = refl
map-deal f (count ∷ counts) xs =
    ap (λ ys. ys ∷ map (map f) (deal counts (drop count xs))) (sym (take-map f count xs))
    ∙ ap (λ rest. take count (map f xs) ∷ rest) (map-deal f counts (drop count xs) ∙ ap (deal counts)
    (sym (drop-map f count xs)))

-- lists joined and dealt out by their lengths
pub deal_joined : {A B : Type 0} (f : A → List B) (count : A → ℕ) (xs : List A) → ((x : A) → length (f x) ≡ count x)
    → deal (map count xs) (flat_map f xs) ≡ map f xs
deal_joined f count [] long = refl
deal_joined f count (x ∷ xs) long =
    let split = flat_map-cons f x xs in
    ap (λ ys. take (count x) ys ∷ deal (map count xs) (drop (count x) ys)) split
    ∙ ap (λ ys. ys ∷ deal (map count xs) (drop (count x) (f x ++ flat_map f xs))) (take_at (f x) (flat_map f xs)
    (count x) (long x))
    ∙ ap (λ ys. f x ∷ deal (map count xs) ys) (drop_at (f x) (flat_map f xs) (count x) (long x))
    ∙ ap (λ rest. f x ∷ rest) (deal_joined f count xs long)

-- what is dealt out is all, where the counts make up its length
pub joined_deal : {A B T : Type 0} (f : A → List B) (count : A → ℕ) (xs : List A) (ts : List T)
    → ((x : A) → length (f x) ≡ count x) → length ts ≡ length (flat_map f xs)
    → flat_map (λ ys. ys) (deal (map count xs) ts) ≡ ts
joined_deal f count [] ts long all = sym (nil_from_length ts all)
joined_deal f count (x ∷ xs) ts long all =
    let front = take (count x) ts in
    let back = drop (count x) ts in
    let left : length back ≡ length (flat_map f xs) =
    omega (
      arith,
      all,
      ap length (flat_map-cons f x xs),
      length-append (f x) (flat_map f xs),
      long x,
      length-drop
          (count x) ts,
    ) in
    flat_map-cons (λ ys. ys) front (deal (map count xs) back)
    ∙ ap (λ rest. front ++ rest) (joined_deal f count xs back long left)
    ∙ take-append-drop (count x) ts

same_lengths : {A B : Type 0} (f : A → B) (lists : List (List A)) → map (λ (xs : List A). length xs) lists
    ≡ map (λ (ys : List B). length ys) (map (map f) lists)
same_lengths f [] = refl
same_lengths f (xs ∷ lists) = ap (λ n. n ∷ map (λ xs. length xs) lists) (sym (length-map xs f))
    ∙ ap (λ ns. length (map f xs) ∷ ns) (same_lengths f lists)

dealt_again : {T : Type 0} (lists : List (List T)) → lists ≡ deal (map (λ (xs : List T). length xs) lists)
    (flat_map (λ xs. xs) lists)
dealt_again lists = sym (deal_joined (λ xs. xs) (λ xs. length xs) lists (λ xs. refl) ∙ map-id lists)

-- lists are the same where they join to the same and their elements stand for lists of the same lengths
pub one_dealing : {A B : Type 0} (f g : A → B) (one other : List (List A)) → map (map f) one ≡ map (map g) other
    → flat_map (λ xs. xs) one ≡ flat_map (λ xs. xs) other → one ≡ other
one_dealing f g one other seen joined =
    let lengths : map (λ xs. length xs) one ≡ map (λ xs. length xs) other =
    same_lengths f one ∙ ap (map (λ ys. length ys)) seen ∙ sym (same_lengths g other) in
    dealt_again one
    ∙ ap (λ counts. deal counts (flat_map (λ xs. xs) one)) lengths
    ∙ ap (deal (map (λ xs. length xs) other)) joined
    ∙ sym (dealt_again other)
