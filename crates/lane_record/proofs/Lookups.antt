-- Lemmas on looking entries up in a record, and in a longer one.
use Rattle.std.proofs.Common.{◌≡◌, ℕ, ◌+◌, ◌<◌, ◌≤◌, Bool, true, false, cond, ◌==◌, ◌&&◌, ◌||◌, List, [], ◌∷◌, ◌++◌}
use Rattle.std.proofs.Common.{length, Option, Some, None, refl, sym, ap, ◌∙◌, subst, arith, append_assoc}
use Rattle.std.proofs.Common.{inl, inr, ◌⊎◌, if◌then◌else◌}
use Rattle.std.proofs.lemmas.List.{append-nil}
use Rattle.std.proofs.lemmas.Bool.{eqb-true, eq-eqb, eqb-false, true≢false}
use Rattle.std.specs.Prelude.{is_some}
use Rattle.std.specs.Option.{option_or}
use Rattle.world_model.proofs.Lists.{either}
use Rattle.lane_record.specs.declared.item.Item.{Item}
use Rattle.lane_record.specs.declared.item.What.{What}
use Rattle.lane_record.specs.Lists.{CountsFrom}
use Rattle.lane_record.specs.Items.{numbers, told_by_first, is_of, is_sealed, is_seal, give_ups, give_ups_in, and_number}
use Rattle.lane_record.specs.Items.{ask_in}
use Rattle.lane_record.specs.Claims.{Claim, claims, claims_behind, claim_in}
use Rattle.lane_record.proofs.Sequences.{counts_push, counts_front, counts_last}

-- ---- a longer record

pub numbers_append : {A : Type 0} (kind : What → Option A) (client : ℕ) (xs ys : List Item)
    → numbers kind client (xs ++ ys) ≡ numbers kind client xs ++ numbers kind client ys
numbers_append kind client [] ys = refl
numbers_append kind client (x ∷ xs) ys = elim ((x.client == client) && is_some (kind x.what)) as
    (λ b. cond b (x.seq ∷ numbers kind client (xs ++ ys)) (numbers kind client (xs ++ ys))
    ≡ cond b (x.seq ∷ numbers kind client xs) (numbers kind client xs) ++ numbers kind client ys) [
      | true ↦ ap (λ (l : List ℕ). x.seq ∷ l) (numbers_append kind client xs ys)
      | false ↦ numbers_append kind client xs ys
    ]

or_assoc : {A : Type 0} (o p q : Option A) → option_or o (option_or p q) ≡ option_or (option_or o p) q
or_assoc None p q = refl
or_assoc (Some x) p q = refl

pub found_append : {A : Type 0} (kind : What → Option A) (client seq : ℕ) (xs ys : List Item)
    → told_by_first kind client seq (xs ++ ys) ≡ option_or (told_by_first kind client seq xs) (told_by_first kind client seq ys)
found_append kind client seq [] ys = refl
found_append kind client seq (x ∷ xs) ys =
    ap (option_or (if is_of client seq x then kind x.what else None)) (found_append kind client seq xs ys)
    ∙ or_assoc (if is_of client seq x then kind x.what else None) (told_by_first kind client seq xs) (told_by_first kind client seq ys)

or_some : {A : Type 0} (o p : Option A) (x : A) → o ≡ Some x → option_or o p ≡ Some x
or_some None p x e = absurd (cc)
or_some (Some y) p x e = e

or_none : {A : Type 0} (o : Option A) → option_or o None ≡ o
or_none None = refl
or_none (Some x) = refl

-- what was found is found in a longer record
pub found_front : {A : Type 0} (kind : What → Option A) (client seq : ℕ) (xs ys : List Item) (y : A)
    → told_by_first kind client seq xs ≡ Some y → told_by_first kind client seq (xs ++ ys) ≡ Some y
found_front kind client seq xs ys y e = found_append kind client seq xs ys
    ∙ or_some (told_by_first kind client seq xs) (told_by_first kind client seq ys) y e

-- an entry of another kind changes no look-up
pub found_other : {A : Type 0} (kind : What → Option A) (client seq : ℕ) (xs : List Item) (x : Item)
    → kind x.what ≡ None → told_by_first kind client seq (xs ++ x ∷ []) ≡ told_by_first kind client seq xs
found_other {A} kind client seq xs x e =
    let none : (if is_of client seq x then kind x.what else None)
    ≡ None = either (λ o. o ≡ None) (is_of client seq x) (kind x.what) None (λ _. e) (λ _. refl) in
    found_append kind client seq xs (x ∷ [])
    ∙ (ap (λ (o : Option A). option_or (told_by_first kind client seq xs) (option_or o None)) none
    ∙ or_none (told_by_first kind client seq xs))

pub sealed_append : (xs ys : List Item) → is_sealed (xs ++ ys) ≡ (is_sealed xs || is_sealed ys)
sealed_append [] ys = refl
sealed_append (x ∷ xs) ys = elim (is_seal x.what) as (λ b. (b || is_sealed (xs ++ ys))
    ≡ ((b || is_sealed xs) || is_sealed ys)) [
      | true ↦ refl
      | false ↦ sealed_append xs ys
    ]

and_append : (o : Option ℕ) (ns ms : List ℕ) → and_number o (ns ++ ms) ≡ and_number o ns ++ ms
and_append None ns ms = refl
and_append (Some n) ns ms = refl

pub give_ups_append : (xs ys : List Item) → give_ups (xs ++ ys) ≡ give_ups xs ++ give_ups ys
give_ups_append [] ys = refl
give_ups_append (x ∷ xs) ys = ap (and_number (give_ups_in x.what)) (give_ups_append xs ys)
    ∙ and_append (give_ups_in x.what) (give_ups xs) (give_ups ys)

pub claims_append : (front xs ys : List Item) → claims_behind front (xs ++ ys)
    ≡ claims_behind front xs ++ claims_behind (front ++ xs) ys
claims_append front [] ys = ap (λ (l : List Item). claims_behind l ys) (sym (append-nil front))
claims_append front (x ∷ xs) ys =
    let one = claim_in front x (ask_in x.what) in
    ap (λ (l : List Claim). one ++ l) (claims_append (front ++ x ∷ []) xs ys
    ∙ ap (λ (l : List Item). claims_behind (front ++ x ∷ []) xs ++ claims_behind l ys)
    (append_assoc front (x ∷ []) xs))
    ∙ sym (append_assoc one (claims_behind (front ++ x ∷ []) xs) (claims_behind (front ++ x ∷ xs) ys))

pub claims_front : (xs ys : List Item) → claims (xs ++ ys) ≡ claims xs ++ claims_behind xs ys
claims_front xs ys = claims_append [] xs ys

pub claims_push : (xs : List Item) (x : Item) → claims (xs ++ x ∷ []) ≡ claims xs ++ claim_in xs x (ask_in x.what)
claims_push xs x = claims_front xs (x ∷ []) ∙ ap (λ (l : List Claim). claims xs ++ l)
    (append-nil (claim_in xs x (ask_in x.what)))

-- ---- numbers that count, one more

abbrev pub Count : {A : Type 0} → (What → Option A) → List Item → Type 0
Count kind items = (client : ℕ) → CountsFrom 0 (numbers kind client items)

abbrev pub IsNext : {A : Type 0} → (What → Option A) → List Item → Item → Type 0
IsNext kind items x = is_some (kind x.what) ≡ true → x.seq ≡ length (numbers kind x.client items)

pub and_true : (a b : Bool) → (a && b) ≡ true → (a ≡ true) × (b ≡ true)
and_true true b e = (refl, e)
and_true false b e = absurd (cc)

both : (a b : Bool) → a ≡ true → b ≡ true → (a && b) ≡ true
both true b e f = f
both false b e f = absurd (cc)

pub count_push : {A : Type 0} (kind : What → Option A) (items : List Item) (x : Item) → Count kind items
    → IsNext kind items x → Count kind (items ++ x ∷ [])
count_push kind items x is next client =
    subst (CountsFrom 0) (sym (numbers_append kind client items (x ∷ [])))
    (either (λ (l : List ℕ). CountsFrom 0 (numbers kind client items ++ l))
    ((x.client == client) && is_some (kind x.what)) (x.seq ∷ []) []
    (λ e. let parts = and_true (x.client == client) (is_some (kind x.what)) e in
    let same = ap (λ (c : ℕ). length (numbers kind c items)) (eqb-true x.client client parts.0) in
    let n = next parts.1 in
    counts_push 0 x.seq (numbers kind client items) (is client) (omega (arith, same, n)))
    (λ _. subst (CountsFrom 0) (sym (append-nil (numbers kind client items))) (is client)))

pub count_front : {A : Type 0} (kind : What → Option A) (xs ys : List Item) → Count kind (xs ++ ys) → Count kind xs
count_front kind xs ys is client = counts_front 0 (numbers kind client xs) (numbers kind client ys)
    (subst (CountsFrom 0) (numbers_append kind client xs ys) (is client))

pub own_number : {A : Type 0} (kind : What → Option A) (x : Item) → is_some (kind x.what) ≡ true
    → numbers kind x.client (x ∷ []) ≡ x.seq ∷ []
own_number kind x e = rw (eq-eqb x.client x.client refl, e) refl

pub count_last : {A : Type 0} (kind : What → Option A) (items : List Item) (x : Item) → Count kind (items ++ x ∷ [])
    → IsNext kind items x
count_last kind items x is e =
    let h = counts_last 0 x.seq (numbers kind x.client items)
    (subst (CountsFrom 0) (numbers_append kind x.client items (x ∷ [])
    ∙ ap (λ (l : List ℕ). numbers kind x.client items ++ l) (own_number kind x e)) (is x.client)) in
    omega (arith, h)

-- ---- where numbers count, those below the length are found, and no others

there_or : {A : Type 0} (o p : Option A) (y : A) → p ≡ Some y → (z : A) × (option_or o p ≡ Some z)
there_or None p y e = (y, e)
there_or (Some x) p y e = (x, refl)

there : {A : Type 0} (o : Option A) → is_some o ≡ true → (y : A) × (o ≡ Some y)
there None e = absurd (cc)
there (Some y) e = (y, refl)

found_here : {A : Type 0} (kind : What → Option A) (client seq : ℕ) (x : Item) (xs : List Item) → x.client ≡ client
    → x.seq ≡ seq → is_some (kind x.what) ≡ true
    → (y : A) × (told_by_first kind client seq (x ∷ xs) ≡ Some y)
found_here kind client seq x xs c s e =
    let y = there (kind x.what) e in
    (y.0, rw (eq-eqb x.client client c, eq-eqb x.seq seq s) (or_some (kind x.what) (told_by_first kind client seq xs) y.0 y.1))

found_from : {A : Type 0} (kind : What → Option A) (client seq k : ℕ) (items : List Item)
    → CountsFrom k (numbers kind client items) → k ≤ seq → seq < k + length (numbers kind client items)
    → (y : A) × (told_by_first kind client seq items ≡ Some y)
found_from kind client seq k [] is le lt = absurd (omega (arith, le, lt))
found_from {A} kind client seq k (x ∷ xs) is le lt =
    let P = λ (ns : List ℕ). CountsFrom k ns → seq < k + length ns
    → (y : A) × (told_by_first kind client seq (x ∷ xs) ≡ Some y) in
    let skip = λ (f : (y : A) × (told_by_first kind client seq xs ≡ Some y)). there_or
    (if is_of client seq x then kind x.what else None) (told_by_first kind client seq xs) f.0 f.1 in
    either P ((x.client == client) && is_some (kind x.what)) (x.seq ∷ numbers kind client xs) (numbers kind client xs)
    (λ e is lt. let parts = and_true (x.client == client) (is_some (kind x.what)) e in elim (seq == k) as
    (λ b. (seq == k) ≡ b → (y : A) × (told_by_first kind client seq (x ∷ xs) ≡ Some y)) [
      | true ↦ λ same. found_here kind client seq x xs (eqb-true x.client client parts.0)
          (is.0 ∙ sym (eqb-true seq k same)) parts.1
      | false ↦ λ other. skip (found_from kind client seq (k + 1) xs is.1
          (let ne : seq ≡ k → ⊥ = eqb-false seq k other in omega (arith, le, ne)) (omega (arith, lt)))
    ] refl)
    (λ e is lt. skip (found_from kind client seq k xs is le lt))
    is lt

pub found_below : {A : Type 0} (kind : What → Option A) (client seq : ℕ) (items : List Item) → Count kind items
    → seq < length (numbers kind client items)
    → (y : A) × (told_by_first kind client seq items ≡ Some y)
found_below kind client seq items is lt = found_from kind client seq 0 items (is client) (omega arith)
    (omega (arith, lt))

some_of : {A : Type 0} (o : Option A) (y : A) → o ≡ Some y → is_some o ≡ true
some_of None y e = absurd (cc)
some_of (Some x) y e = refl

pub first_or : {A : Type 0} (o p : Option A) (y : A) → option_or o p ≡ Some y → (o ≡ Some y) ⊎ (p ≡ Some y)
first_or None p y e = inr e
first_or (Some x) p y e = inl e

pub if_some : {A : Type 0} (b : Bool) (o : Option A) (y : A) → (if b then o else None) ≡ Some y
    → (b ≡ true) × (o ≡ Some y)
if_some true o y e = (refl, e)
if_some false o y e = absurd (cc)

within_from : {A : Type 0} (kind : What → Option A) (client seq k : ℕ) (items : List Item) (y : A)
    → CountsFrom k (numbers kind client items) → told_by_first kind client seq items ≡ Some y
    → seq < k + length (numbers kind client items)
within_from kind client seq k [] y is e = absurd (cc)
within_from kind client seq k (x ∷ xs) y is e =
    either (λ (ns : List ℕ). CountsFrom k ns → seq < k + length ns) ((x.client == client) && is_some (kind x.what))
    (x.seq ∷ numbers kind client xs) (numbers kind client xs)
    (λ t is. elim (first_or (if is_of client seq x then kind x.what else None) (told_by_first kind client seq xs) y e) [
      | inl h ↦ let parts = and_true (x.client == client) (x.seq == seq)
          (if_some (is_of client seq x) (kind x.what) y h).0 in let s = eqb-true x.seq seq parts.1 in let a = is.0 in
          omega (arith, s, a)
      | inr h ↦ let later = within_from kind client seq (k + 1) xs y is.1 h in omega (arith, later)
    ])
    (λ f is. elim (first_or (if is_of client seq x then kind x.what else None) (told_by_first kind client seq xs) y e) [
      | inl h ↦ let r = if_some (is_of client seq x) (kind x.what) y h in let parts = and_true (x.client == client)
          (x.seq == seq) r.0 in
          absurd (true≢false (sym (both (x.client == client) (is_some (kind x.what)) parts.0
          (some_of (kind x.what) y r.1)) ∙ f))
      | inr h ↦ within_from kind client seq k xs y is h
    ])
    is

pub found_within : {A : Type 0} (kind : What → Option A) (client seq : ℕ) (items : List Item) (y : A)
    → Count kind items → told_by_first kind client seq items ≡ Some y
    → seq < length (numbers kind client items)
found_within kind client seq items y is e = let h = within_from kind client seq 0 items y (is client) e in omega
    (arith, h)

-- one that is next was not there
pub none_next : {A : Type 0} (kind : What → Option A) (client seq : ℕ) (items : List Item) → Count kind items
    → length (numbers kind client items) ≤ seq → told_by_first kind client seq items ≡ None
none_next kind client seq items is le = elim (told_by_first kind client seq items) as
    (λ o. told_by_first kind client seq items ≡ o → o ≡ None) [
      | None ↦ λ e. refl
      | Some y ↦ λ e. let h = found_within kind client seq items y is e in absurd (omega (arith, h, le))
    ] refl
