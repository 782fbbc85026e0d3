-- The numbers of documents and of scripts have 32 bits.
use Rattle.std.proofs.Common.{◌≡◌, ℕ, ◌^◌, ltb, List, [], ◌∷◌, Bool, true, false, if◌then◌else◌, length, drop, codes}
use Rattle.std.proofs.Common.{Option, Some, None, refl, sym, subst, ℤ, pos, negsuc, nat_eq}
use Rattle.std.specs.List.{AllByRecursion, cons_option, starts_with}
use Rattle.std.specs.Option.{option_map}
use Rattle.std.proofs.lemmas.Bool.{ltb-true}
use Rattle.ipb_base.specs.Word.{IsWord, AreWords}
use Rattle.toml.specs.Data.{Data, integer, string, Members, as_table}
use Rattle.ipb_base.specs.Digits.{number_in_text, digits_number, digits_in_base, word}
use Rattle.address_table.specs.Numbers.{number, number_of_integer}
use Rattle.ipb_base.specs.Digits.{are_digits, is_between, value_of_digits}
use Rattle.script_lang.specs.declared.session.Session.{Session}
use Rattle.script_lang.specs.Document.{IsSession}
use Rattle.board_specs.specs.OpeningWords.{NamesWords, LinkNamesWords, OpensOnWords}
use Rattle.script_lang.specs.Fields.{items_at, numbers_in, tables_in}
use Rattle.script_lang.specs.Keys.{is_udp}
use Rattle.script_lang.specs.Lines.{numbers_of}
use Rattle.script_lang.specs.Sessions.{board_of, sim_of, udp_of, range_of}
use Rattle.script_lang.specs.Texts.{◌>>=◌}

-- ---- numbers

-- a number that is there is a word
abbrev pub IsSmall : Option ℕ → Type 0
IsSmall None = Unit {0}
IsSmall (Some n) = IsWord n

by_test : (b : Bool) (x y : Option ℕ) → (b ≡ true → IsSmall x) → IsSmall y → IsSmall (if b then x else y)
by_test true x y one other = one refl
by_test false x y one other = other

word_small : (n : ℕ) → IsSmall (word n)
word_small n = by_test (ltb n (2 ^ 32)) (Some n) None (λ less. ltb-true n (2 ^ 32) less) tt

digits_small : (base most : ℕ) (text : List ℕ) → IsSmall (digits_number base most text)
digits_small base most text =
    by_test (is_between 1 most (length text)) (digits_in_base base text) None
    (λ few. by_test (are_digits base text) (word (value_of_digits base text)) None
    (λ digits. word_small (value_of_digits base text)) tt) tt

pub text_small : (text : List ℕ) → IsSmall (number_in_text text)
text_small text =
    by_test (starts_with nat_eq text (codes "0x")) (digits_number 16 8 (drop 2 text)) (digits_number 10 10 text)
    (λ hexadecimal. digits_small 16 8 (drop 2 text)) (digits_small 10 10 text)

integer_small : (z : ℤ) → IsSmall (number_of_integer z)
integer_small (pos n) = word_small n
integer_small (negsuc n) = tt

pub number_small : (value : Data) → IsSmall (number value)
number_small (integer z) = integer_small z
number_small (string text) = text_small text
number_small value = tt

-- ---- the numbers of a line

abbrev pub AreSmall : Option (List ℕ) → Type 0
AreSmall None = Unit {0}
AreSmall (Some numbers) = AreWords numbers

one_more : (first : Option ℕ) (later : Option (List ℕ)) → IsSmall first → AreSmall later
    → AreSmall (first >>= λ number. later >>= λ numbers. Some (number ∷ numbers))
one_more None later is are = tt
one_more (Some n) None is are = tt
one_more (Some n) (Some ns) is are = (is, are)

pub all_small : (words : List (List ℕ)) → AreSmall (numbers_of words)
all_small [] = tt
all_small (word ∷ words) = one_more (number_in_text word) (numbers_of words) (text_small word) (all_small words)

-- ---- the words that ranges name

one_kept : (found : Option ℕ) (numbers : List ℕ) → IsSmall found → AreWords numbers
    → AreWords (cons_option found numbers)
one_kept None numbers is are = are
one_kept (Some n) numbers is are = (is, are)

numbers_small : (values : List Data) → AreWords (numbers_in values)
numbers_small [] = tt
numbers_small (value ∷ values) =
    one_kept (number value) (numbers_in values) (number_small value) (numbers_small values)

-- what holds of what each table is holds of all
table_kept : {A : Type 0} (P : A → Type 0) (read : Members → A) (found : Option Members) (all : List A)
    → ((ms : Members) → P (read ms)) → AllByRecursion P all
    → AllByRecursion P (cons_option (option_map read found) all)
table_kept P read None all holds are = are
table_kept P read (Some ms) all holds are = (holds ms, are)

tables_kept : {A : Type 0} (P : A → Type 0) (read : Members → A) (values : List Data) → ((ms : Members) → P (read ms))
    → AllByRecursion P (tables_in read values)
tables_kept P read [] holds = tt
tables_kept P read (value ∷ values) holds =
    table_kept P read (as_table value) (tables_in read values) holds (tables_kept P read values holds)

range_small : (ms : Members) → NamesWords (range_of ms)
range_small ms = numbers_small (items_at (codes "init") ms)

by_link : (udp : Bool) (ms : Members) → LinkNamesWords (if udp then udp_of ms else sim_of ms)
by_link true ms = tt
by_link false ms = tables_kept NamesWords range_of (items_at (codes "ranges") ms) range_small

board_small : (ms : Members) → OpensOnWords (board_of ms)
board_small ms = by_link (is_udp ms) ms

pub opens_on_words : (document : Members) (session : Session) → IsSession document session
    → AllByRecursion OpensOnWords session.boards
opens_on_words document session is =
    subst (AllByRecursion OpensOnWords) (sym is.boards)
    (tables_kept OpensOnWords board_of (items_at (codes "board") document) board_small)
