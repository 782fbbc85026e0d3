-- The words of a text of values, as TOML reads them: headers, names in quotes and hexadecimal numbers.
use Rattle.std.proofs.Common.{◌≡◌, ℕ, zero, suc, ◌-◌, ◌<◌, ◌^◌, Bool, true, false, not, ◌==◌, pos, List, [], ◌∷◌}
use Rattle.std.proofs.Common.{◌++◌, length, replicate, codes, Some, None, refl, ap, ◌∙◌, arith, append_assoc}
use Rattle.std.proofs.Common.{length-append}
use Rattle.std.specs.Char.{is_digit}
use Rattle.std.specs.Fmt.{digits}
use Rattle.std.specs.List.{list_all, prefix_len}
use Rattle.std.specs.Str.Parse.{AllDigits, digits_value}
use Rattle.std.proofs.lemmas.Bool.{and_from, and_parts}
use Rattle.std.proofs.lemmas.Bool.Decides.{nat_tests}
use Rattle.std.proofs.lemmas.Fmt.{digits_is_IsNumeral}
use Rattle.toml_parser.specs.Lexical.{first, is_word, is_ws, skip_ws}
use Rattle.toml_parser.specs.Numbers.{number, plain_number, prefixed_integer, word_value}
use Rattle.toml_parser.specs.Strings.{body, key_after, one_line, simple_key, special}
use Rattle.toml_parser.specs.declared.scalar.Scalar.TheVariants.{Integer}
use Rattle.toml_parser.proofs.LexicalLemmas.{skip_ws_none, skip_ws_space}
use Rattle.toml_parser.proofs.NumbersLemmas.{filter_none, underscores_fit_none}
use Rattle.toml_parser.proofs.StringsLemmas.{body_plain, body_special, key_after_turn}
use Rattle.toml_writer.specs.Text.{key_text}
use Rattle.toml_writer.proofs.Scalars.{EndsWord, unquoted-word}
use Rattle.toml.specs.Data.{integer}
use Rattle.toml.specs.Parse.{atom, ends_line, expression, key_equals, line, read_map, scalar_data, val}
use Rattle.toml.specs.Tables.{key_value, std_table}
use Rattle.toml.proofs.Blanks.{skip_start}
use Rattle.toml.proofs.ReadLines.{Turn, line_turn}
use Rattle.toml.proofs.Turns.{keyval_ok, val_atom}
use Rattle.transcript.specs.Text.{hex_text}
use Rattle.node_tree.specs.Maps.{Name}
use Rattle.config_store.specs.Text.{heading, value_text}
use Rattle.config_laws.specs.ReadBack.{IsBareKey, is_quotable}

-- ---- hexadecimal digits

word_digit : (c : ℕ) → is_digit c 16 ≡ true → is_word c ≡ true
word_digit c is = grind (arith, nat_tests)

no_underscore : (c : ℕ) → is_digit c 16 ≡ true → not (c == 95) ≡ true
no_underscore c is = grind (arith, nat_tests)

pub pass_each : (p q : ℕ → Bool) → ((c : ℕ) → p c ≡ true → q c ≡ true) → (text : List ℕ) → list_all p text ≡ true
    → list_all q text ≡ true
pass_each p q leads [] all = refl
pass_each p q leads (c ∷ text) all =
    let (here, rest) = and_parts (p c) (list_all p text) all in
    and_from (q c) (list_all q text) (leads c here) (pass_each p q leads text rest)

digits_pass : (ds : List ℕ) → AllDigits 16 ds → list_all (λ c. is_digit c 16) ds ≡ true
digits_pass [] all = refl
digits_pass (c ∷ ds) all =
    let less = all.0 in
    let here : is_digit c 16 ≡ true = grind (arith, nat_tests) in
    and_from (is_digit c 16) (list_all (λ d. is_digit d 16) ds) here (digits_pass ds all.1)

zeros_all : (n : ℕ) (ds : List ℕ) → AllDigits 16 ds → AllDigits 16 (replicate n 48 ++ ds)
zeros_all zero ds all = all
zeros_all (suc n) ds all = (omega arith, zeros_all n ds all)

zeros_value : (n : ℕ) (ds : List ℕ) → digits_value 16 (replicate n 48 ++ ds) ≡ digits_value 16 ds
zeros_value zero ds = refl
zeros_value (suc n) ds = zeros_value n ds

-- the digits of a word
pub record IsHex (word : ℕ) (hex : List ℕ) : Type 0 where
  pub some : 0 < length hex
  pub digits' : list_all (λ c. is_digit c 16) hex ≡ true
  pub value' : digits_value 16 hex ≡ word

hex_is : (word : ℕ) → word < 2 ^ 32 → IsHex word (hex_text word)
hex_is word small =
    let ds = digits 16 false word in
    let is = digits_is_IsNumeral 16 false (omega arith) (omega arith) word (omega (arith, small)) in
    let long = length-append (replicate (8 - length ds) 48) ds in
    let some = is.0.0 in
    record {
      some = omega (arith, long, some);
      digits' = digits_pass (replicate (8 - length ds) 48 ++ ds) (zeros_all (8 - length ds) ds is.0.1);
      value' = zeros_value (8 - length ds) ds ∙ is.1;
    }

-- ---- a number

all_run : (p : ℕ → Bool) (text : List ℕ) → list_all p text ≡ true → length text ≡ prefix_len p text
all_run p [] all = refl
all_run p (c ∷ text) all =
    let (here, rest) = and_parts (p c) (list_all p text) all in
    let later = all_run p text rest in
    rw here (omega (arith, later))

plain_hex : (word : ℕ) (hex : List ℕ) → word < 2 ^ 32 → IsHex word hex
    → plain_number (48 ∷ 120 ∷ hex) ≡ Some (Integer (pos word))
unfolding plain_number prefixed_integer
plain_hex word hex small is =
    let some = is.some in
    let low : word < 2 ^ 63 = omega (arith, small) in
    rw (is.digits', is.value') (grind (arith, nat_tests))

number_hex : (word : ℕ) (hex : List ℕ) → word < 2 ^ 32 → IsHex word hex
    → number (48 ∷ 120 ∷ hex) ≡ Some (Integer (pos word))
unfolding number
number_hex word hex small is =
    let run = all_run (λ c. not (c == 95)) (48 ∷ 120 ∷ hex)
    (pass_each (λ c. is_digit c 16) (λ c. not (c == 95)) no_underscore hex is.digits') in
    rw (underscores_fit_none _ 0 (48 ∷ 120 ∷ hex) run, filter_none (48 ∷ 120 ∷ hex) run) (plain_hex word hex small is)

value_hex : (word : ℕ) (hex : List ℕ) → word < 2 ^ 32 → IsHex word hex
    → word_value (48 ∷ 120 ∷ hex) ≡ Some (Integer (pos word))
unfolding word_value
value_hex word hex small is = number_hex word hex small is

newline_ends : (rest : List ℕ) → EndsWord (10 ∷ rest)
newline_ends rest = (refl, refl)

atom_hex : (word : ℕ) (hex rest : List ℕ) → word < 2 ^ 32 → IsHex word hex
    → atom (48 ∷ 120 ∷ (hex ++ 10 ∷ rest)) ≡ Some (integer (pos word), 10 ∷ rest)
unfolding atom
atom_hex word hex rest small is =
    let all : list_all is_word (48 ∷ 120 ∷ hex) ≡ true =
    pass_each (λ c. is_digit c 16) is_word word_digit hex is.digits' in
    ap (read_map scalar_data)
    (unquoted-word (48 ∷ 120 ∷ hex) (10 ∷ rest) (Integer (pos word)) (omega arith) all (newline_ends rest)
    (value_hex word hex small is))

val_hex : (word : ℕ) (hex rest : List ℕ) → word < 2 ^ 32 → IsHex word hex
    → val 80 (48 ∷ 120 ∷ (hex ++ 10 ∷ rest)) ≡ Some (integer (pos word), 10 ∷ rest)
val_hex word hex rest small is =
    val_atom 80 (48 ∷ 120 ∷ (hex ++ 10 ∷ rest)) refl refl ∙ atom_hex word hex rest small is

-- ---- a name in quotes

special_quote : (rest : List ℕ) → special 34 false (34 ∷ rest) ≡ Some (None, rest)
unfolding special
special_quote rest = refl

body_quoted : (name rest : List ℕ) (n : ℕ) → list_all is_quotable name ≡ true → length name < n
    → body 34 false n (name ++ 34 ∷ rest) ≡ Some (name, rest)
body_quoted name rest zero all room = absurd (omega (arith, room))
body_quoted [] rest (suc n) all room =
    body_special 34 false n (34 ∷ rest) refl ∙ rw (special_quote rest) refl
body_quoted (c ∷ name) rest (suc n) all room =
    let (here, later) = and_parts (is_quotable c) (list_all is_quotable name) all in
    body_plain 34 false n c (name ++ 34 ∷ rest) here
    ∙ rw (body_quoted name rest n later (omega (arith, room))) refl

key_quoted : (name rest : List ℕ) → list_all is_quotable name ≡ true
    → simple_key (34 ∷ (name ++ 34 ∷ rest)) ≡ Some (name, rest)
unfolding simple_key one_line
key_quoted name rest all =
    let long = length-append name (34 ∷ rest) in
    body_quoted name rest (length (34 ∷ (name ++ 34 ∷ rest))) all (omega (arith, long))

equals_quoted : (name value_at : List ℕ) → list_all is_quotable name ≡ true → is_ws (first value_at) ≡ false
    → key_equals (34 ∷ (name ++ 34 ∷ (codes " = " ++ value_at))) ≡ Some (([], name), value_at)
unfolding key_equals
equals_quoted name value_at all not_ws =
    let t = 32 ∷ 61 ∷ 32 ∷ value_at in
    let after_key : skip_ws t ≡ 61 ∷ 32 ∷ value_at =
    skip_ws_space (61 ∷ 32 ∷ value_at) ∙ skip_ws_none (61 ∷ 32 ∷ value_at) refl in
    let read : key_after 80 [] (34 ∷ (name ++ 34 ∷ t)) ≡ Some (([], name), 61 ∷ 32 ∷ value_at) =
    key_after_turn 80 [] (34 ∷ (name ++ 34 ∷ t)) (omega arith) ∙ rw (key_quoted name t all, after_key) refl in
    rw (read, skip_ws_space value_at, skip_ws_none value_at not_ws) refl

-- ---- lines

newline_next : (rest : List ℕ) → ends_line (skip_ws (10 ∷ rest)) ≡ true
newline_next rest = rw (skip_ws_none (10 ∷ rest) refl) (grind (arith, nat_tests))

line_quoted : (name hex rest : List ℕ) (word : ℕ) → list_all is_quotable name ≡ true → word < 2 ^ 32 → IsHex word hex
    → line (34 ∷ (name ++ 34 ∷ (codes " = " ++ (48 ∷ 120 ∷ (hex ++ 10 ∷ rest)))))
    ≡ Some ((([], name), key_value (integer (pos word))), 10 ∷ rest)
unfolding line expression
line_quoted name hex rest word all small is =
    let at = 48 ∷ 120 ∷ (hex ++ 10 ∷ rest) in
    let pair = keyval_ok (val 80) (34 ∷ (name ++ 34 ∷ (codes " = " ++ at))) at (10 ∷ rest) ([], name)
    (integer (pos word)) (equals_quoted name at all refl) (val_hex word hex rest small is) in
    rw (pair, newline_next rest) refl

-- the line of a value
pub value_turn : (name : Name) (word : ℕ) (rest : List ℕ) → list_all is_quotable name ≡ true → word < 2 ^ 32
    → Turn ([], name) (key_value (integer (pos word))) (value_text name word ++ rest) rest
value_turn name word rest all small =
    let hex = hex_text word in
    let s = 34 ∷ (name ++ 34 ∷ (codes " = " ++ (48 ∷ 120 ∷ (hex ++ 10 ∷ rest)))) in
    let same : value_text name word ++ rest ≡ s = simp append_assoc refl in
    let name_long = length-append name (34 ∷ (codes " = " ++ (48 ∷ 120 ∷ (hex ++ 10 ∷ rest)))) in
    let hex_long = length-append hex (10 ∷ rest) in (
      s,
      rw same (skip_start s refl),
      line_quoted name hex rest word all small (hex_is word small),
      omega arith,
      omega (arith, name_long, hex_long),
      refl,
    )

bare_text : (name : Name) → IsBareKey name → key_text name ≡ name
unfolding key_text
bare_text name is =
    let some = is.some in
    rw is.bare (grind (arith, nat_tests))

-- the line of a board
pub heading_turn : (board : Name) (rest : List ℕ) → IsBareKey board
    → Turn (codes "state" ∷ [], board) std_table (heading board ++ rest) rest
heading_turn board rest is =
    line_turn false false (codes "state" ∷ [], board) std_table (heading board) rest
    (rw (bare_text board is, bare_text (codes "state") (record { some = omega arith; bare = refl })) refl) (omega arith)
