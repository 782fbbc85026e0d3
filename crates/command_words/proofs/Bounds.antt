-- The operations of a load are bounded.
use Rattle.std.proofs.Common.{◌≡◌, ◌≤◌, ℕ, Bool, true, false, ◌&&◌, not, if◌then◌else◌, List, [], ◌∷◌, codes, Option}
use Rattle.std.proofs.Common.{Some, None, arith, nat_le, refl}
use Rattle.std.proofs.lemmas.Bool.Decides.{nat_tests}
use Rattle.std.specs.Prelude.{option_and_then}
use Rattle.std.specs.List.{AllByRecursion, list_all}
use Rattle.std.specs.Str.{bytes_eq}
use Rattle.ipb_base.specs.Digits.{digits_number}
use Rattle.command_words.specs.declared.command.Command.{Command}
use Rattle.command_words.specs.declared.command.Command.TheVariants.{Check, Load}
use Rattle.command_words.specs.Commands.{alone, command_of, command_of_one, is_option, load_of, load_command_of, number_between}
use Rattle.command_words.specs.Commands.{serve_of, within}
use Rattle.command_words.proofs.Alone.{one_of}

generates : Command → Bool
generates (Load count) = true
generates _ = false

neither : {P : Type 0} (a b : Bool) → (not a && b) ≡ true → (b ≡ true → P) → (a ≡ false) × P
neither true b all rest = absurd cc
neither false b all rest = (refl, rest all)

-- no command that is a name alone is a load
no_loads : (rows : List (List ℕ × Command)) → list_all (λ row. not (generates row.1)) rows ≡ true
    → AllByRecursion (λ row. generates row.1 ≡ false) rows
no_loads [] none = tt
no_loads (row ∷ rows) none =
    neither (generates row.1) (list_all (λ row. not (generates row.1)) rows) none (no_loads rows)

one_apart : (word : List ℕ) (count : ℕ) → command_of_one word ≡ Some (Load count) → ⊥
unfolding generates
one_apart word count is =
    let no : generates (Load count) ≡ false =
    one_of (λ command. generates command ≡ false) alone (no_loads alone refl) word (Load count) is in cc

served_apart : (port connections : Option ℕ) (count : ℕ) → serve_of port connections ≡ Some (Load count) → ⊥
served_apart None connections count is = cc
served_apart (Some port) None count is = cc
served_apart (Some port) (Some connections) count is = cc

three_apart : (b : Bool) (port connections : Option ℕ) (count : ℕ)
    → (if b then serve_of port connections else None) ≡ Some (Load count) → ⊥
three_apart true port connections count is = served_apart port connections count is
three_apart false port connections count is = cc

tested : (low high : ℕ) (n count : ℕ) (a b : Bool) → nat_le n high ≡ b
    → load_of (if a && b then Some n else None) ≡ Some (Load count) → count ≤ high
tested low high n count true true test is =
    let within : n ≤ high = grind (arith, nat_tests, test) in
    let same : n ≡ count = cc in omega (arith, within, same)
tested low high n count true false test is = absurd cc
tested low high n count false b test is = absurd cc

number_within : (number : Option ℕ) (count : ℕ)
    → load_of (option_and_then (within 1 100000) number) ≡ Some (Load count) → count ≤ 100000
number_within None count is = absurd cc
number_within (Some n) count is = tested 1 100000 n count (nat_le 1 n) (nat_le n 100000) refl is

loaded_within : (text : List ℕ) (count : ℕ) → load_command_of text ≡ Some (Load count) → count ≤ 100000
loaded_within text count is = number_within (digits_number 10 10 text) count is

two_within : (a b : Bool) (text : List ℕ) (count : ℕ)
    → (if a then Some (Check text) else if b then load_command_of text else None) ≡ Some (Load count) → count ≤ 100000
two_within true b text count is = absurd cc
two_within false true text count is = loaded_within text count is
two_within false false text count is = absurd cc

pub bounded : (words : List (List ℕ)) (count : ℕ) → command_of words ≡ Some (Load count) → count ≤ 100000
bounded [] count is = absurd cc
bounded (word ∷ []) count is = absurd (one_apart word count is)
bounded (word ∷ (first ∷ [])) count is =
    two_within (bytes_eq word (codes "check") && not (is_option first)) (bytes_eq word (codes "load")) first count is
bounded (word ∷ (first ∷ (second ∷ []))) count is =
    absurd (three_apart (bytes_eq word (codes "serve")) (number_between 1 65535 first)
    (number_between 1 64 second) count is)
bounded (word ∷ (first ∷ (second ∷ (third ∷ others)))) count is = absurd cc
