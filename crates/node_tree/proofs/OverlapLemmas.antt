-- Pairs of registers, entry by entry.
use Rattle.std.proofs.Common.{◌≡◌, ℕ, zero, suc, ◌+◌, ◌<◌, List, [], ◌∷◌, ◌++◌, length, take, drop, get_or, cond, Some}
use Rattle.std.proofs.Common.{None, slice_get, slice_index, String, Global, string_bytes, refl, ap, sym, ◌∙◌, arith}
use Rattle.std.specs.List.{position_from}
use Rattle.std.proofs.lemmas.Bool.{lt-ltb, le-ltb, cases_lt}
use Rattle.std.proofs.lemmas.List.{drop_more, take_more, length-take-le}
use Rattle.std.proofs.lemmas.Option.{slice_get_past, slice_get_within, slice_get_cases, get_or_from_slice_get}
use Rattle.node_tree.specs.declared.register.Register.{Register}
use Rattle.node_tree.specs.Named.{Name}
use Rattle.node_tree.specs.Overlaps.{overlap, overlapping, pair_with, passes, overlap_at}
use Rattle.node_tree.specs.OverlapSearch.{AreFirsts, pair_before}
use Rattle.node_tree.proofs.CycleLemmas.{either}
use Rattle.node_tree.proofs.PairLemmas.{found-first, found-none}

abbrev pub Entry : Type 0
Entry = String Global × Register

abbrev pub plain : Entry → Name × Register
plain e = (string_bytes e.0, e.1)

abbrev Registers : Type 0
Registers = List (Name × Register)

-- the pair of the next entry, and those of the later ones
next_pair : (xs : Registers) (i : ℕ) (e : Name × Register) → slice_get xs i ≡ Some e
    → overlapping (take i xs) (drop i xs) ≡ pair_with i (position_from (λ a. overlap a e) 0 (take i xs))
    ++ overlapping (take (i + 1) xs) (drop (i + 1) xs)
next_pair xs i e is =
    let within = slice_get_within xs i e is in
    let here : get_or xs i e ≡ e = get_or_from_slice_get xs i e e is in
    ap (λ rest. overlapping (take i xs) rest) (drop_more xs i e within ∙ ap (λ x. x ∷ drop (i + 1) xs) here)
    ∙ ap (λ n. pair_with n (position_from (λ a. overlap a e) 0 (take i xs))
    ++ overlapping (take i xs ++ e ∷ []) (drop (i + 1) xs)) (length-take-le i xs (omega arith))
    ∙ ap (λ before. pair_with i (position_from (λ a. overlap a e) 0 (take i xs))
    ++ overlapping before (drop (i + 1) xs)) (sym (take_more xs i e within ∙ ap (λ x. take i xs ++ x ∷ []) here))

-- a place among the first ones
get-take : (xs : Registers) (i c : ℕ) → c < i → slice_get (take i xs) c ≡ slice_get xs c
get-take [] zero c h = absurd (omega arith)
get-take [] (suc i) c h = refl
get-take (x ∷ xs) zero c h = absurd (omega arith)
get-take (x ∷ xs) (suc i) zero h = refl
get-take (x ∷ xs) (suc i) (suc c) h = get-take xs i c (omega arith)

at-take : (xs : Registers) (i c : ℕ) (e : Name × Register) → slice_get xs i ≡ Some e → c < i
    → passes (λ a. overlap a e) (slice_get (take i xs) c) ≡ overlap_at xs c i
at-take xs i c e is less =
    ap (passes (λ a. overlap a e)) (get-take xs i c less)
    ∙ sym (ap (passes (λ y. passes (λ x. overlap x y) (slice_get xs c))) is)

-- the pair of an entry, from the place of the first that it overlaps
told : (xs : Registers) (firsts : List ℕ) (i : ℕ) (e : Name × Register) → AreFirsts xs firsts → slice_get xs i ≡ Some e
    → pair_with i (position_from (λ a. overlap a e) 0 (take i xs)) ≡ pair_before (slice_index firsts i) i
told xs firsts i e are is =
    let f = slice_index firsts i in
    let within = slice_get_within xs i e is in
    either (cases_lt f i)
    (λ less.
    let place : position_from (λ a. overlap a e) 0 (take i xs) ≡ Some f =
    found-first (λ a. overlap a e) 0 (take i xs) f (at-take xs i f e is less ∙ are.found i within less)
    (λ c below. at-take xs i c e is (omega arith) ∙ are.first c i (omega arith) within below) ∙ ap Some (omega arith) in
    ap (pair_with i) place ∙ sym (ap (λ b. cond b ((f, i) ∷ []) []) (lt-ltb f i less)))
    (λ more.
    let short : length (take i xs) ≡ i = length-take-le i xs (omega arith) in
    let none : position_from (λ a. overlap a e) 0 (take i xs) ≡ None =
    found-none (λ a. overlap a e) 0 (take i xs) (λ c. either (cases_lt c i)
    (λ below. at-take xs i c e is below ∙ are.first c i below within (omega arith))
    (λ past. ap (passes (λ a. overlap a e)) (slice_get_past (take i xs) c (omega arith)))) in
    ap (pair_with i) none ∙ sym (ap (λ b. cond b ((f, i) ∷ []) []) (le-ltb f i more)))

there_is : (xs : Registers) (i : ℕ) → i < length xs → (e : Name × Register) × (slice_get xs i ≡ Some e)
there_is xs i h =
    either (slice_get_cases xs i).1 (λ (e, within, is, same). (e, is)) (λ (past, none). absurd (omega arith))

pub next_told : (xs : Registers) (firsts : List ℕ) (i : ℕ) → AreFirsts xs firsts → i < length xs
    → pair_before (slice_index firsts i) i
    ++ overlapping (take (i + 1) xs) (drop (i + 1) xs) ≡ overlapping (take i xs) (drop i xs)
next_told xs firsts i are within =
    let (e, is) = there_is xs i within in
    ap (λ pairs. pairs ++ overlapping (take (i + 1) xs) (drop (i + 1) xs)) (sym (told xs firsts i e are is))
    ∙ sym (next_pair xs i e is)
