-- No line of a transcript has a line feed before its end.
use Rattle.std.proofs.Common.{◌≡◌, ℕ, zero, suc, ◌+◌, ◌-◌, ◌/◌, ◌%◌, nat_eq, nat_lt, Bool, true, false, cond, inl, inr}
use Rattle.std.proofs.Common.{List, [], ◌∷◌, ◌++◌, length, replicate, refl, sym, ap, ◌∙◌, arith, append_assoc, codes}
use Rattle.std.specs.Fmt.{decimal, digit_glyph, digits, digits_onto}
use Rattle.std.specs.List.{AllByRecursion}
use Rattle.std.proofs.lemmas.Bool.{cases_Bool}
use Rattle.std.proofs.lemmas.Bool.Decides.{nat_tests}
use Rattle.std.proofs.lemmas.List.Folds.{list_all-append}
use Rattle.board_specs.specs.declared.spec.BoardSpec.{BoardSpec}
use Rattle.script_steps.specs.declared.operation.Verb.{Verb}
use Rattle.script_steps.specs.declared.operation.Verb.TheVariants.{Read, Write, ReadBlock, WriteBlock, RmwBits, RmwSum}
use Rattle.transcript.specs.declared.line.BoardLine.{BoardLine}
use Rattle.transcript.specs.declared.line.BoardLine.TheVariants as board_lines
use Rattle.transcript.specs.declared.line.LateAnswer.{LateAnswer}
use Rattle.transcript.specs.declared.line.LateAnswer.TheVariants as late_answer
use Rattle.transcript.specs.declared.line.OpLine.{OpLine}
use Rattle.transcript.specs.declared.line.OpResult.{OpResult}
use Rattle.transcript.specs.declared.line.OpResult.TheVariants.{Value, Done, Was, Error, Skipped, TimedOut, Late}
use Rattle.transcript.specs.declared.line.OpResult.TheVariants.{Unsent, LinkLost, Garbled, Denied}
use Rattle.transcript.specs.Text.{answer_text, asked_text, board_text, error_text, heading, hex_text, line_text, more_places}
use Rattle.transcript.specs.Text.{place_text, places_text, result_text, verb_text, words_text}
use Rattle.transcript_reader.specs.Entries.{IsLineOf, name_at}
use Rattle.transcript_reader.specs.Shown.{IsOneLine, is_no_line_feed}

-- ---- texts without a line feed

two : (xs ys : List ℕ) → IsOneLine xs → IsOneLine ys → IsOneLine (xs ++ ys)
two xs ys one other = rw (list_all-append is_no_line_feed xs ys, one, other) refl

pub first_and_rest : (x : ℕ) (xs : List ℕ) → IsOneLine (x ∷ xs) → (nat_eq x 10 ≡ false) × IsOneLine xs
first_and_rest x xs all =
    elim (cases_Bool (nat_eq x 10)) [
      | inl feed ↦ (let e = rw feed at all in absurd cc)
      | inr none ↦ (none, rw none at all)
    ]

-- ---- numbers

glyph_by : (low upper : Bool) (d : ℕ) → is_no_line_feed (cond low (48 + d) (cond upper (55 + d) (87 + d))) ≡ true
glyph_by true upper d = grind (arith, nat_tests)
glyph_by false true d = grind (arith, nat_tests)
glyph_by false false d = grind (arith, nat_tests)

front_of : (x : ℕ) (xs : List ℕ) → is_no_line_feed x ≡ true → IsOneLine xs → IsOneLine (x ∷ xs)
front_of x xs here all = rw (here, all) refl

either : (b : Bool) (xs ys : List ℕ) → IsOneLine xs → IsOneLine ys → IsOneLine (cond b xs ys)
either true xs ys one other = one
either false xs ys one other = other

digits_by : (k base : ℕ) (upper : Bool) (n : ℕ) (acc : List ℕ) → IsOneLine acc
    → IsOneLine (digits_onto k base upper n acc)
digits_by zero base upper n acc all = all
digits_by (suc k) base upper n acc all =
    let more = front_of (digit_glyph upper (n % base)) acc (glyph_by (nat_lt (n % base) 10) upper (n % base)) all in
    either (nat_eq (n / base) 0) (digit_glyph upper (n % base) ∷ acc)
    (digits_onto k base upper (n / base) (digit_glyph upper (n % base) ∷ acc)) more
    (digits_by k base upper (n / base) (digit_glyph upper (n % base) ∷ acc) more)

digits_plain : (base : ℕ) (upper : Bool) (n : ℕ) → IsOneLine (digits base upper n)
unfolding digits
digits_plain base upper n = digits_by 64 base upper n [] refl

decimal_plain : (n : ℕ) → IsOneLine (decimal n)
decimal_plain n = digits_plain 10 false n

zeros_plain : (k : ℕ) (ds : List ℕ) → IsOneLine ds → IsOneLine (replicate k 48 ++ ds)
zeros_plain zero ds all = all
zeros_plain (suc k) ds all = zeros_plain k ds all

hex_plain : (w : ℕ) → IsOneLine (hex_text w)
hex_plain w = zeros_plain (8 - length (digits 16 false w)) (digits 16 false w) (digits_plain 16 false w)

-- ---- results

words_plain : (ws : List ℕ) → IsOneLine (words_text ws)
words_plain [] = refl
words_plain (w ∷ ws) = two (hex_text w) (words_text ws) (hex_plain w) (words_plain ws)

error_plain : (code after : ℕ) → IsOneLine (error_text code after)
error_plain code after = two (decimal code) (codes " after " ++ decimal after) (decimal_plain code) (decimal_plain after)

answer_plain : (answer : LateAnswer) → IsOneLine (answer_text answer)
answer_plain (late_answer.Value ws) = words_plain ws
answer_plain late_answer.Done = refl
answer_plain (late_answer.Was w) = hex_plain w
answer_plain (late_answer.Error code after) = error_plain code after
answer_plain late_answer.Skipped = refl
answer_plain late_answer.Garbled = refl

result_plain : (result : OpResult) → IsOneLine (result_text result)
result_plain (Value ws) = words_plain ws
result_plain Done = refl
result_plain (Was w) = hex_plain w
result_plain (Error code after) = error_plain code after
result_plain Skipped = refl
result_plain (TimedOut rounds) = two (decimal rounds) (codes " rounds, execution unknown") (decimal_plain rounds) refl
result_plain (Late rounds answer) =
    two (decimal rounds) (codes " rounds, answered late: " ++ answer_text answer) (decimal_plain rounds)
    (answer_plain answer)
result_plain Unsent = refl
result_plain LinkLost = refl
result_plain Garbled = refl
result_plain (Denied rule) = decimal_plain rule

place_plain : (place : ℕ × ℕ) → IsOneLine (place_text place)
place_plain (place, number) = two (decimal place) (codes "." ++ decimal number) (decimal_plain place) (decimal_plain number)

more_plain : (places : List (ℕ × ℕ)) → IsOneLine (more_places places)
more_plain [] = refl
more_plain (p ∷ ps) = two (place_text p) (more_places ps) (place_plain p) (more_plain ps)

places_plain : (places : List (ℕ × ℕ)) → IsOneLine (places_text places)
places_plain [] = refl
places_plain (p ∷ ps) = two (place_text p) (more_places ps) (place_plain p) (more_plain ps)

-- ---- lines

-- it ends with a line feed and has none before
unfoldable pub IsLine : List ℕ → Type 0
IsLine line = (front : List ℕ) × IsOneLine front × (line ≡ front ++ 10 ∷ [])

the_end : IsLine (codes "\n")
unfolding IsLine
the_end = ([], refl, refl)

in_line : (xs line : List ℕ) → IsOneLine xs → IsLine line → IsLine (xs ++ line)
unfolding IsLine
in_line xs line all (front, plain, is) = (
  xs ++ front,
  two xs front all plain,
  ap (λ (t : List ℕ). xs ++ t) is ∙ sym (append_assoc xs front (10 ∷ [])),
)

pub heading_line : (n : ℕ) → IsLine (heading n)
heading_line n = in_line (codes "client ") _ refl (in_line (decimal n) (codes "\n") (decimal_plain n) the_end)

verb_plain : (verb : Verb) → IsOneLine (verb_text verb)
verb_plain Read = refl
verb_plain Write = refl
verb_plain ReadBlock = refl
verb_plain WriteBlock = refl
verb_plain RmwBits = refl
verb_plain RmwSum = refl

asked_plain : (line : OpLine) → IsOneLine line.board → IsOneLine line.name → IsOneLine (asked_text line)
asked_plain line board name =
    two (decimal line.number) _ (decimal_plain line.number)
    (two (verb_text line.verb) _ (verb_plain line.verb)
    (two line.board (codes ":" ++ (line.name ++ codes " ")) board (two line.name (codes " ") name refl)))

pub operation_line : (line : OpLine) → IsOneLine line.board → IsOneLine line.name → IsLine (line_text line)
operation_line line board name =
    in_line (asked_text line) _ (asked_plain line board name)
    (in_line (result_text line.result) _ (result_plain line.result)
    (in_line (places_text line.places) (codes "\n") (places_plain line.places) the_end))

live_line : (name : List ℕ) (a b c d : ℕ) → IsOneLine name → IsLine (board_text (board_lines.Live name a b c d))
live_line name a b c d plain =
    in_line (codes "board ") _ refl (in_line name _ plain
    (in_line (codes " places ") _ refl (in_line (decimal a) _ (decimal_plain a)
    (in_line (codes " replied ") _ refl (in_line (decimal b) _ (decimal_plain b)
    (in_line (codes " timeout ") _ refl (in_line (decimal c) _ (decimal_plain c)
    (in_line (codes " lost ") _ refl (in_line (decimal d) (codes "\n") (decimal_plain d) the_end)))))))))

pub board_line : (spec : BoardSpec) (shown : BoardLine) → IsOneLine spec.name → IsLineOf spec shown
    → IsLine (board_text shown)
board_line spec (board_lines.Live name a b c d) plain is = live_line name a b c d (rw is.0 plain)
board_line spec (board_lines.Silent name) plain is =
    in_line (codes "board ") _ refl (in_line name _ (rw is plain) (in_line (codes " silent") (codes "\n") refl the_end))
board_line spec (board_lines.Down name) plain is =
    in_line (codes "board ") _ refl (in_line name _ (rw is plain) (in_line (codes " down") (codes "\n") refl the_end))

pub name_plain : (boards : List BoardSpec) (board : ℕ) → AllByRecursion (λ (spec : BoardSpec). IsOneLine spec.name) boards
    → IsOneLine (name_at boards board)
name_plain [] board all = refl
name_plain (spec ∷ boards) zero all = all.0
name_plain (spec ∷ boards) (suc board) all = name_plain boards board all.1
