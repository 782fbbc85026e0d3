-- Registers that share no address do not overlap.
use Rattle.std.proofs.Common.{◌≡◌, ◌⊎◌, inl, inr, ℕ, zero, suc, ◌+◌, ◌<◌, ◌≤◌, List, [], ◌∷◌, ◌++◌, take, get_or, length}
use Rattle.std.proofs.Common.{Bool, true, false, ◌&&◌}
use Rattle.std.proofs.Common.{cond, Option, Some, None, nat_le, nat_lt, slice_get, String, Global, string_bytes, refl, ap, sym}
use Rattle.std.proofs.Common.{◌∙◌, subst, append_assoc, arith}
use Rattle.std.specs.List.{position_from, sum_by}
use Rattle.std.proofs.lemmas.Bool.{lt-ltb, le-leb, ltb-true, leb-true, and_parts, and_from}
use Rattle.std.proofs.lemmas.List.Sums.{get_or-le-sum_by, sum_by-append, sum_by-cons, sum_by_more}
use Rattle.std.proofs.lemmas.Option.{slice_get_within, get_or_from_slice_get}
use Rattle.node_tree.specs.declared.register.Register.{Register}
use Rattle.node_tree.specs.Named.{Name, named_entries}
use Rattle.node_tree.specs.Maps.{IsRegister}
use Rattle.node_tree.specs.Overlaps.{overlap, overlapping, passes, takes_words, HasAddress, pair_with}
use Rattle.node_tree.specs.OverlapSearch.{AreNamedRegisters}
use Rattle.node_tree.specs.Spans.{AreApart, takes_at, register_takes}
use Rattle.node_tree.specs.Walk.{words_of}
use Rattle.node_tree.proofs.CycleLemmas.{either}
use Rattle.node_tree.proofs.PairLemmas.{found-none, share-have}

abbrev Entry : Type 0
Entry = Name × Register

abbrev Spans : Type 0
Spans = List (ℕ × ℕ)

-- ---- an address of one span

pub takes-one : (address : ℕ) (span : ℕ × ℕ) → span.0 ≤ address → address < span.1 → takes_at address span ≡ 1
takes-one address span from until =
    ap (λ b. cond b 1 0) (and_from _ _ (le-leb span.0 address from) (lt-ltb address span.1 until))

abbrev one_if : Bool → ℕ
one_if b = cond b 1 0

by_test : (b : Bool) → (b ≡ true → ⊥) → one_if b ≡ 0
by_test true h = absurd (h refl)
by_test false h = refl

takes-past : (address : ℕ) (span : ℕ × ℕ) → span.1 ≤ address → takes_at address span ≡ 0
takes-past address span past =
    by_test (nat_le span.0 address && nat_lt address span.1) (λ holds.
    let less : address < span.1 = ltb-true address span.1 (and_parts _ _ holds).1 in omega (arith, less, past))

by_either : (b : Bool) → (one_if b ≡ 0) ⊎ ((one_if b ≡ 1) × (b ≡ true))
by_either true = inr (refl, refl)
by_either false = inl refl

takes-cases : (address : ℕ) (span : ℕ × ℕ)
    → (takes_at address span ≡ 0) ⊎ ((takes_at address span ≡ 1) × (span.0 ≤ address))
takes-cases address span =
    either (by_either (nat_le span.0 address && nat_lt address span.1)) (λ none. inl none)
    (λ (one, holds). inr (one, leb-true span.0 address (and_parts _ _ holds).0))

-- ---- spans that follow one another

module _ (spans : Spans) (i last_end : ℕ) (within : i < length spans) (after : last_end ≤ (get_or spans i (0, 0)).0) where
  pub once-more : ((address : ℕ) → sum_by (takes_at address) (take i spans) ≤ 1)
      → ((address : ℕ) → last_end ≤ address → sum_by (takes_at address) (take i spans) ≡ 0)
      → (address : ℕ) → sum_by (takes_at address) (take (i + 1) spans) ≤ 1
  once-more once past address =
      let more = sum_by_more (takes_at address) spans i (0, 0) within in
      let before = once address in
      either (takes-cases address (get_or spans i (0, 0))) (λ none. omega (arith, more, none, before))
      (λ (one, from). let absent = past address (omega (arith, after, from)) in omega (arith, more, one, absent))

  pub past-more : (get_or spans i (0, 0)).0 ≤ (get_or spans i (0, 0)).1
      → ((address : ℕ) → last_end ≤ address → sum_by (takes_at address) (take i spans) ≡ 0)
      → (address : ℕ) → (get_or spans i (0, 0)).1 ≤ address → sum_by (takes_at address) (take (i + 1) spans) ≡ 0
  past-more rises past address beyond =
      let more = sum_by_more (takes_at address) spans i (0, 0) within in
      let absent = past address (omega (arith, after, rises, beyond)) in
      let none = takes-past address (get_or spans i (0, 0)) beyond in
      omega (arith, more, none, absent)

-- ---- entries

register-one : (address : ℕ) (r : Register) → takes_words r.mode ≡ true → HasAddress r address
    → register_takes address r ≡ 1
register-one address r takes has =
    ap (λ b. cond b (takes_at address (r.address, r.address + words_of r.mode r.size)) 0) takes
    ∙ takes-one address (r.address, r.address + words_of r.mode r.size) has.0 has.1

not_two : (f : Entry → ℕ) (before es : List Entry) (e x : Entry) (c : ℕ) → slice_get before c ≡ Some x → f x ≡ 1
    → f e ≡ 1 → sum_by f (before ++ e ∷ es) ≤ 1 → ⊥
not_two f before es e x c is one other most =
    let within = slice_get_within before c x is in
    let here : f (get_or before c x) ≡ 1 = ap f (get_or_from_slice_get before c x x is) ∙ one in
    let some = get_or-le-sum_by f before c x within in
    let whole = sum_by-append f before (e ∷ es) in
    let rest = sum_by-cons f e es in
    omega (arith, some, whole, rest, here, other, most)

not_true : (b : Bool) → (b ≡ true → ⊥) → b ≡ false
not_true true h = absurd (h refl)
not_true false h = refl

abbrev Once : List Entry → Type 0
Once es = (address : ℕ) → sum_by (λ e. register_takes address e.1) es ≤ 1

no_overlap : (before es : List Entry) (e x : Entry) (c : ℕ) → Once (before ++ e ∷ es) → IsRegister x.1
    → IsRegister e.1 → slice_get before c ≡ Some x → overlap x e ≡ false
no_overlap before es e x c once p q is =
    not_true (overlap x e) (λ holds.
    let inner = and_parts _ _ (and_parts _ _ holds).0 in
    let modes = and_parts _ _ inner.0 in
    let shares = and_parts _ _ inner.1 in
    let (address, one, other) = share-have x.1 e.1 p.fits.some_words q.fits.some_words shares.0 in
    not_two (λ y. register_takes address y.1) before es e x c is (register-one address x.1 modes.0 one)
    (register-one address e.1 modes.1 other) (once address))

by_place : (t : Entry → Bool) (o : Option Entry) → ((x : Entry) → o ≡ Some x → t x ≡ false) → passes t o ≡ false
by_place t None h = refl
by_place t (Some x) h = h x refl

abbrev AllRegisters : List Entry → Type 0
AllRegisters es = (c : ℕ) (x : Entry) → slice_get es c ≡ Some x → IsRegister x.1

get-front : (xs ys : List Entry) (c : ℕ) (x : Entry) → slice_get xs c ≡ Some x → slice_get (xs ++ ys) c ≡ Some x
get-front [] ys c x is = cc
get-front (y ∷ xs) ys zero x is = is
get-front (y ∷ xs) ys (suc c) x is = get-front xs ys c x is

get-next : (xs ys : List Entry) (y : Entry) → slice_get (xs ++ y ∷ ys) (length xs) ≡ Some y
get-next [] ys y = refl
get-next (x ∷ xs) ys y = get-next xs ys y

none-from : (before es : List Entry) → AllRegisters (before ++ es) → Once (before ++ es) → overlapping before es ≡ []
none-from before [] all once = refl
none-from before (e ∷ es) all once =
    let own = all (length before) e (get-next before es e) in
    let none : position_from (λ a. overlap a e) 0 before ≡ None =
    found-none (λ a. overlap a e) 0 before (λ c. by_place (λ a. overlap a e) (slice_get before c)
    (λ x is. no_overlap before es e x c once (all c x (get-front before (e ∷ es) c x is)) own is)) in
    let same : (before ++ e ∷ []) ++ es ≡ before ++ e ∷ es = append_assoc before (e ∷ []) es in
    ap (λ o. pair_with (length before) o ++ overlapping (before ++ e ∷ []) es) none
    ∙ none-from (before ++ e ∷ []) es (subst AllRegisters (sym same) all) (subst Once (sym same) once)

-- the entries by the bytes of their names
sum-named : (f : Register → ℕ) (es : List (String Global × Register))
    → sum_by (λ e. f e.1) (named_entries es) ≡ sum_by (λ e. f e.1) es
sum-named f [] = refl
sum-named f (e ∷ es) =
    let one = sum_by-cons (λ (x : Entry). f x.1) (string_bytes e.0, e.1) (named_entries es) in
    let other = sum_by-cons (λ (x : String Global × Register). f x.1) e es in
    let rest = sum-named f es in
    omega (arith, one, other, rest)

pub none-overlaps : (es : List (String Global × Register)) → AreNamedRegisters (named_entries es) → AreApart es
    → overlapping [] (named_entries es) ≡ []
none-overlaps es all apart =
    none-from [] (named_entries es) all
    (λ address. let same = sum-named (register_takes address) es in let most = apart address in omega (arith, same, most))
