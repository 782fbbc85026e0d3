-- The first rule that speaks of an access is found among those that ask for an id of the name, and those that ask for
-- none.
use Rattle.std.proofs.Common.{◌≡◌, ◌≤◌, ◌<◌, ℕ, zero, suc, ◌+◌, nat_lt, Bool, true, false, ◌||◌, cond, List, [], ◌∷◌}
use Rattle.std.proofs.Common.{Option, Some, None, is_none, slice_get, refl, sym, ap, arith, ◌∙◌}
use Rattle.std.proofs.lemmas.Bool.{le-ltb}
use Rattle.std.proofs.lemmas.Bool.Decides.{nat_tests}
use Rattle.std.proofs.lemmas.Option.{none-some, same_Some}
use Rattle.std.proofs.lemmas.Slice.Eq.{bytes_eq-Decides}
use Rattle.std.specs.List.{filter}
use Rattle.std.specs.Option.{option_and_then, option_map_or}
use Rattle.std.specs.Str.{bytes_eq}
use Rattle.access_policy.proofs.NamesBack.{both_of}
use Rattle.access_policy.specs.ById.{IsRisingFrom, asks_for, asks_for_none, found_in, id_at, id_of, lower, saying}
use Rattle.access_policy.specs.Candidates.{Numbered, candidates_from, concerns, first_of, is_of}
use Rattle.access_policy.specs.Decisions.{has_access, said}
use Rattle.access_policy.specs.Names.{NameItem}
use Rattle.access_policy.specs.Patterns.{item_matches, items_match}
use Rattle.access_policy.specs.declared.policy.Access.{Access}
use Rattle.access_policy.specs.declared.policy.ItemPattern.{ItemPattern}
use Rattle.access_policy.specs.declared.policy.ItemPattern.TheVariants.{Any, Id, Indexed, AnyIndex}
use Rattle.access_policy.specs.declared.policy.Rule.{Rule}

-- ---- numbers that rise

rises_before : (low high : ℕ) (candidates : List Numbered) → low ≤ high → IsRisingFrom high candidates
    → IsRisingFrom low candidates
rises_before low high [] le rising = rising
rises_before low high (candidate ∷ candidates) le rising = (omega (arith, le, rising.0), rising.1)

rising_kept : (keep : Bool) (number : ℕ) (candidate : Numbered) (later : List Numbered) → number ≤ candidate.number
    → IsRisingFrom (candidate.number + 1) later → IsRisingFrom number (cond keep (candidate ∷ later) later)
rising_kept true number candidate later le rising = (le, rising)
rising_kept false number candidate later le rising =
    rises_before number (candidate.number + 1) later (omega (arith, le)) rising

pub candidates_rise : (number : ℕ) (policy : List Rule) (client : ℕ) (board : List ℕ)
    → IsRisingFrom number (candidates_from number policy client board)
candidates_rise number [] client board = tt
candidates_rise number (rule ∷ policy) client board =
    rising_kept (concerns client board rule) number (record { number = number; rule = rule })
    (candidates_from (number + 1) policy client board) (omega arith)
    (candidates_rise (number + 1) policy client board)

found_kept : (keep : Bool) (access : Access) (items : List NameItem) (candidate : Numbered) (later : List Numbered)
    → found_in access items (cond keep (candidate ∷ later) later)
    ≡ cond keep (cond (is_of access items candidate.rule) (Some candidate) (found_in access items later))
    (found_in access items later)
found_kept true access items candidate later = refl
found_kept false access items candidate later = refl

above : (keep is : Bool) (number : ℕ) (candidate found : Numbered) (later : Option Numbered)
    → number ≤ candidate.number → (later ≡ Some found → candidate.number + 1 ≤ found.number)
    → cond keep (cond is (Some candidate) later) later ≡ Some found → number ≤ found.number
above true true number candidate found later le after eq =
    omega (arith, le, ap (λ (it : Numbered). it.number) (same_Some candidate found eq))
above true false number candidate found later le after eq = omega (arith, le, after eq)
above false is number candidate found later le after eq = omega (arith, le, after eq)

-- what is found among some of the rules has a number of theirs
found_above : (access : Access) (items : List NameItem) (keep : Numbered → Bool) (number : ℕ)
    (candidates : List Numbered) (found : Numbered) → IsRisingFrom number candidates
    → found_in access items (filter keep candidates) ≡ Some found → number ≤ found.number
found_above access items keep number [] found rising eq = absurd (none-some found eq)
found_above access items keep number (candidate ∷ candidates) found rising eq =
    above (keep candidate) (is_of access items candidate.rule) number candidate found
    (found_in access items (filter keep candidates)) rising.0
    (found_above access items keep (candidate.number + 1) candidates found rising.1)
    (sym (found_kept (keep candidate) access items candidate (filter keep candidates)) ∙ eq)

-- ---- two lists

same_both : {A : Type 0} (test : Bool) (x : A) → cond test x x ≡ x
same_both true x = refl
same_both false x = refl

never : {A : Type 0} (x y : A) → false ≡ true → x ≡ y
never x y h = cc

is_less : (m n : ℕ) → m < n → nat_lt m n ≡ true
is_less m n less = grind (arith, nat_tests)

one_first : (one : Numbered) (other : Option Numbered)
    → ((found : Numbered) → other ≡ Some found → one.number + 1 ≤ found.number) → lower (Some one) other ≡ Some one
one_first one None after = refl
one_first one (Some found) after =
    ap (λ test. cond test (Some found) (Some one)) (le-ltb found.number one.number (omega (arith, after found refl)))

other_first : (one : Option Numbered) (other : Numbered)
    → ((found : Numbered) → one ≡ Some found → other.number + 1 ≤ found.number) → lower one (Some other) ≡ Some other
other_first None other after = refl
other_first (Some found) other after =
    ap (λ test. cond test (Some other) (Some found)) (is_less other.number found.number (omega (arith, after found refl)))

turn : (own none is : Bool) (candidate : Numbered) (one other later : Option Numbered)
    → (is ≡ true → (own || none) ≡ true)
    → ((found : Numbered) → one ≡ Some found → candidate.number + 1 ≤ found.number)
    → ((found : Numbered) → other ≡ Some found → candidate.number + 1 ≤ found.number)
    → lower one other ≡ later
    → lower (cond own (cond is (Some candidate) one) one) (cond none (cond is (Some candidate) other) other)
    ≡ cond is (Some candidate) later
turn true true true candidate one other later some low high same =
    same_both (nat_lt candidate.number candidate.number) (Some candidate)
turn true false true candidate one other later some low high same = one_first candidate other high
turn false true true candidate one other later some low high same = other_first one candidate low
turn false false true candidate one other later some low high same =
    never (lower one other) (Some candidate) (some refl)
turn true true false candidate one other later some low high same = same
turn true false false candidate one other later some low high same = same
turn false true false candidate one other later some low high same = same
turn false false false candidate one other later some low high same = same

found_in_two : (access : Access) (items : List NameItem) (own none : Numbered → Bool) (number : ℕ)
    (candidates : List Numbered) → IsRisingFrom number candidates
    → ((candidate : Numbered) → is_of access items candidate.rule ≡ true → (own candidate || none candidate) ≡ true)
    → lower (found_in access items (filter own candidates)) (found_in access items (filter none candidates))
    ≡ found_in access items candidates
found_in_two access items own none number [] rising some = refl
found_in_two access items own none number (candidate ∷ candidates) rising some =
    ap (λ one. lower one (found_in access items (filter none (candidate ∷ candidates))))
    (found_kept (own candidate) access items candidate (filter own candidates))
    ∙ ap (lower (cond (own candidate) (cond (is_of access items candidate.rule) (Some candidate)
    (found_in access items (filter own candidates))) (found_in access items (filter own candidates))))
    (found_kept (none candidate) access items candidate (filter none candidates))
    ∙ turn (own candidate) (none candidate) (is_of access items candidate.rule) candidate
    (found_in access items (filter own candidates)) (found_in access items (filter none candidates))
    (found_in access items candidates) (some candidate)
    (λ found. found_above access items own (candidate.number + 1) candidates found rising.1)
    (λ found. found_above access items none (candidate.number + 1) candidates found rising.1)
    (found_in_two access items own none (candidate.number + 1) candidates rising.1 some)

-- ---- ids

id_fits : (pattern : ItemPattern) (item : NameItem) (id : List ℕ) → item_matches pattern item ≡ true
    → id_of pattern ≡ Some id → bytes_eq id item.id ≡ true
id_fits Any item id is eq = absurd (none-some id eq)
id_fits (Id own) item id is eq =
    ap (λ id. bytes_eq id item.id) (sym (same_Some own id eq)) ∙ (both_of (bytes_eq own item.id) _ is).0
id_fits (Indexed own index) item id is eq =
    ap (λ id. bytes_eq id item.id) (sym (same_Some own id eq)) ∙ (both_of (bytes_eq own item.id) _ is).0
id_fits (AnyIndex own) item id is eq =
    ap (λ id. bytes_eq id item.id) (sym (same_Some own id eq)) ∙ (both_of (bytes_eq own item.id) _ is).0

asked_fits : (patterns : List ItemPattern) (rest : Bool) (items : List NameItem) (place : ℕ) (item : NameItem)
    (id : List ℕ) → items_match patterns rest items ≡ true → slice_get items place ≡ Some item
    → option_and_then id_of (slice_get patterns place) ≡ Some id → bytes_eq id item.id ≡ true
asked_fits [] rest items place item id is at eq = absurd (none-some id eq)
asked_fits (pattern ∷ patterns) rest [] place item id is at eq = absurd (none-some item at)
asked_fits (pattern ∷ patterns) rest (first ∷ items) zero item id is at eq =
    id_fits pattern item id (ap (item_matches pattern) (sym (same_Some first item at))
    ∙ (both_of (item_matches pattern first) (items_match patterns rest items) is).0) eq
asked_fits (pattern ∷ patterns) rest (first ∷ items) (suc place) item id is at eq =
    asked_fits patterns rest items place item id
    (both_of (item_matches pattern first) (items_match patterns rest items) is).1 at eq

asks : (asked : Option (List ℕ)) (id : List ℕ) → ((found : List ℕ) → asked ≡ Some found → bytes_eq id found ≡ true)
    → (option_map_or (λ found. bytes_eq id found) asked false || is_none asked) ≡ true
asks None id same = refl
asks (Some found) id same = ap (λ test. test || false) (same found refl)

one_of_two : (access : Access) (items : List NameItem) (place : ℕ) (item : NameItem) (candidate : Numbered)
    → slice_get items place ≡ Some item → is_of access items candidate.rule ≡ true
    → (asks_for place item.id candidate || asks_for_none place candidate) ≡ true
one_of_two access items place item candidate at is =
    let rule = candidate.rule in
    let fits = (both_of (has_access rule.access access) (items_match rule.pattern.items rule.pattern.rest items) is).1 in
    asks (id_at place candidate) item.id
    (λ found eq. (bytes_eq-Decides item.id found).1
    (sym ((bytes_eq-Decides found item.id).0
    (asked_fits rule.pattern.items rule.pattern.rest items place item found fits at eq))))

-- ---- what is said

saying_here : (is : Bool) (candidate : Numbered) (later : Option Numbered)
    → cond is (said candidate.number candidate.rule.effect) (saying later) ≡ saying (cond is (Some candidate) later)
saying_here true candidate later = refl
saying_here false candidate later = refl

pub saying_found : (access : Access) (items : List NameItem) (candidates : List Numbered)
    → first_of access items candidates ≡ saying (found_in access items candidates)
saying_found access items [] = refl
saying_found access items (candidate ∷ candidates) =
    ap (cond (is_of access items candidate.rule) (said candidate.number candidate.rule.effect))
    (saying_found access items candidates)
    ∙ saying_here (is_of access items candidate.rule) candidate (found_in access items candidates)

-- the first of all rules is that of those that ask for the id of the name at a place, and of those that ask for none
pub first_by_id : (access : Access) (items : List NameItem) (place : ℕ) (item : NameItem) (candidates : List Numbered)
    → IsRisingFrom 1 candidates → slice_get items place ≡ Some item
    → saying (lower (found_in access items (filter (asks_for place item.id) candidates))
    (found_in access items (filter (asks_for_none place) candidates)))
    ≡ first_of access items candidates
first_by_id access items place item candidates rising at =
    ap saying (found_in_two access items (asks_for place item.id) (asks_for_none place) 1 candidates rising
    (λ candidate. one_of_two access items place item candidate at))
    ∙ sym (saying_found access items candidates)
