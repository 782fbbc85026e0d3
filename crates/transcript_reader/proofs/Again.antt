-- What is written of a result and of places is read again.
use Rattle.std.proofs.Common.{◌≡◌, ◌⊎◌, ℕ, zero, suc, ◌-◌, ◌*◌, ◌<◌, ◌≤◌, ◌^◌, nat_lt, List, [], ◌∷◌, ◌++◌, length}
use Rattle.std.proofs.Common.{Some, None, refl, ap, ◌∙◌, arith, codes, replicate, false, true, inl, inr}
use Rattle.std.proofs.Common.{append_assoc}
use Rattle.std.specs.Fmt.{decimal, digits}
use Rattle.std.specs.List.{AllByRecursion}
use Rattle.std.specs.Str.Parse.{AllDigits, digits_value}
use Rattle.std.proofs.lemmas.Bool.Decides.{nat_tests}
use Rattle.std.proofs.lemmas.Fmt.{decimal_is_IsNumeral, digits_is_IsNumeral}
use Rattle.ipb_base.specs.Word.{AreWords, IsWord}
use Rattle.transcript.specs.declared.line.LateAnswer.{LateAnswer}
use Rattle.transcript.specs.declared.line.LateAnswer.TheVariants as late_answer
use Rattle.transcript.specs.declared.line.OpResult.{OpResult}
use Rattle.transcript.specs.declared.line.OpResult.TheVariants.{Value, Done, Was, Error, Skipped, TimedOut, Late}
use Rattle.transcript.specs.declared.line.OpResult.TheVariants.{Unsent, LinkLost, Garbled, Denied}
use Rattle.transcript.specs.Text.{hex_text, word_text, words_text, answer_text, result_text}
use Rattle.transcript.specs.Text.{place_text, more_places, places_text}
use Rattle.transcript.specs.Claims.{IsByte, IsPrinted, IsPrintedLate, IsPrintedPlace, rule_in}
use Rattle.ipb_base.specs.Fronts.{in_front, all_of, ◌>>=◌}
use Rattle.transcript_reader.specs.Reading.{digit_at, number_at, decimal_at, word_at, next_word_at, fault_at}
use Rattle.transcript_reader.specs.Reading.{plain_at, answer_at, rounds_at, timeout_at, result_at, place_at}
use Rattle.transcript_reader.specs.Reading.{next_place_at, showing_at}
use Rattle.ipb_base.proofs.Fronts.{all_step, all_stop}
use Rattle.transcript_reader.proofs.Numbers.{NoDigit, number_again}
use Rattle.transcript_reader.proofs.Texts.{words_shorten, places_shorten}

-- ---- numbers

passes : (m n : ℕ) → m < n → nat_lt m n ≡ true
passes m n low = grind (arith, nat_tests)

pub decimal_number : (n : ℕ) (rest : List ℕ) → n < 2 ^ 64 → NoDigit 10 rest
    → number_at 10 (decimal n ++ rest) ≡ Some (n, rest)
decimal_number n rest fits stop =
    let own = decimal_is_IsNumeral n fits in
    number_again 10 n (decimal n) rest (omega arith) fits own.0.1 own.1 stop

pub decimal_again : (most n : ℕ) (rest : List ℕ) → n < most → most ≤ 2 ^ 64 → NoDigit 10 rest
    → decimal_at most (decimal n ++ rest) ≡ Some (n, rest)
decimal_again most n rest fits few stop =
    let small : n < 2 ^ 64 = omega arith in
    rw (decimal_number n rest small stop, passes n most fits) refl

zeros_are_digits : (k : ℕ) (ds : List ℕ) → AllDigits 16 ds → AllDigits 16 (replicate k 48 ++ ds)
zeros_are_digits zero ds all = all
zeros_are_digits (suc k) ds all = (omega arith, zeros_are_digits k ds all)

zeros_value : (k : ℕ) (ds : List ℕ) → digits_value 16 (replicate k 48 ++ ds) ≡ digits_value 16 ds
zeros_value zero ds = refl
zeros_value (suc k) ds = zeros_value k ds

wide : (w : ℕ) → w < 2 ^ 32 → w < 16 ^ 64
wide w fits = omega arith

pub word_again : (w : ℕ) (rest : List ℕ) → IsWord w → NoDigit 16 rest
    → word_at (word_text w ++ rest) ≡ Some (w, rest)
unfolding word_at
word_again w rest fits stop =
    let own = digits_is_IsNumeral 16 false (omega arith) (omega arith) w (wide w fits) in
    let few : w < 2 ^ 64 = omega arith in
    let zeros = 8 - length (digits 16 false w) in
    rw (
      number_again 16 w (hex_text w) rest (omega arith) few (zeros_are_digits zeros (digits 16 false w) own.0.1)
          (zeros_value zeros (digits 16 false w) ∙ own.1) stop,
      passes w (2 ^ 32) fits,
    ) refl

-- ---- what follows a result: the end of the line, or places

pub Tail : List ℕ → Type 0
Tail s = ((rest : List ℕ) × (s ≡ 10 ∷ rest)) ⊎ ((rest : List ℕ) × (s ≡ 32 ∷ 64 ∷ rest))

pub tail_of : (places : List (ℕ × ℕ)) → Tail (places_text places ++ codes "\n")
unfolding Tail
tail_of [] = inl ([], refl)
tail_of (p ∷ ps) = inr (_, refl)

ends_word : (s : List ℕ) → Tail s → NoDigit 16 s
unfolding Tail digit_at
ends_word s (inl (rest, is)) = rw is refl
ends_word s (inr (rest, is)) = rw is refl

ends_decimal : (s : List ℕ) → Tail s → NoDigit 10 s
unfolding Tail digit_at
ends_decimal s (inl (rest, is)) = rw is refl
ends_decimal s (inr (rest, is)) = rw is refl

no_word : (s : List ℕ) → Tail s → next_word_at s ≡ None
unfolding Tail next_word_at word_at
no_word s (inl (rest, is)) = rw is refl
no_word s (inr (rest, is)) = rw is refl

words_end : (ws s : List ℕ) → Tail s → NoDigit 16 (words_text ws ++ s)
unfolding digit_at
words_end [] s tail = ends_word s tail
words_end (w ∷ ws) s tail = refl

next_word_again : (w : ℕ) (rest : List ℕ) → IsWord w → NoDigit 16 rest
    → next_word_at (32 ∷ (word_text w ++ rest)) ≡ Some (w, rest)
unfolding next_word_at
next_word_again w rest fits stop = word_again w rest fits stop

words_again : (ws s : List ℕ) → AreWords ws → Tail s → all_of next_word_at (words_text ws ++ s) ≡ (ws, s)
words_again [] s are tail = all_stop next_word_at words_shorten s (no_word s tail)
words_again (w ∷ ws) s are tail =
    let rest = words_text ws ++ s in
    ap (λ (t : List ℕ). all_of next_word_at (32 ∷ 48 ∷ 120 ∷ t)) (append_assoc (hex_text w) (words_text ws) s)
    ∙ (all_step next_word_at words_shorten (32 ∷ (word_text w ++ rest)) rest w
    (next_word_again w rest are.0 (words_end ws s tail))
    ∙ ap (in_front w) (words_again ws s are.1 tail))

-- ---- results

fault_again : (c a : ℕ) (s : List ℕ) → IsByte c → IsByte a → Tail s
    → fault_at ((decimal c ++ (codes " after " ++ decimal a)) ++ s) ≡ Some ((c, a), s)
unfolding fault_at digit_at
fault_again c a s fc fa tail =
    rw (
      append_assoc (decimal c) (codes " after " ++ decimal a) s,
      decimal_again (2 ^ 8) c ((codes " after " ++ decimal a) ++ s) fc (omega arith) refl,
      decimal_again (2 ^ 8) a s fa (omega arith) (ends_decimal s tail),
    ) refl

answer_again : (a : LateAnswer) (s : List ℕ) → IsPrintedLate a → Tail s
    → answer_at (answer_text a ++ s) ≡ Some (a, s)
unfolding answer_at plain_at
answer_again (late_answer.Value ws) s p tail = rw (words_again ws s p tail) refl
answer_again late_answer.Done s p tail = refl
answer_again (late_answer.Was w) s p tail = rw (word_again w s p (ends_word s tail)) refl
answer_again (late_answer.Error c a) s p tail = rw (fault_again c a s p.0 p.1 tail) refl
answer_again late_answer.Skipped s p tail = refl
answer_again late_answer.Garbled s p tail = refl

rounds_again : (r : ℕ) (rest : List ℕ) → IsByte r
    → rounds_at (decimal r ++ (codes " rounds, " ++ rest)) ≡ Some (r, rest)
unfolding rounds_at digit_at
rounds_again r rest fits =
    rw (decimal_again (2 ^ 8) r (codes " rounds, " ++ rest) fits (omega arith) refl) refl

timeout_again : (r : ℕ) (s : List ℕ) → IsByte r
    → timeout_at ((decimal r ++ codes " rounds, execution unknown") ++ s) ≡ Some (TimedOut r, s)
unfolding timeout_at
timeout_again r s fits =
    rw (
      append_assoc (decimal r) (codes " rounds, execution unknown") s,
      rounds_again r (codes "execution unknown" ++ s) fits,
    ) refl

late_again : (r : ℕ) (a : LateAnswer) (s : List ℕ) → IsByte r → IsPrintedLate a → Tail s
    → timeout_at ((decimal r ++ (codes " rounds, answered late: " ++ answer_text a)) ++ s) ≡ Some (Late r a, s)
unfolding timeout_at
late_again r a s fits p tail =
    rw (
      append_assoc (decimal r) (codes " rounds, answered late: " ++ answer_text a) s,
      rounds_again r ((codes "answered late: " ++ answer_text a) ++ s) fits,
      answer_again a s p tail,
    ) refl

pub result_again : (r : OpResult) (s : List ℕ) → IsPrinted r → rule_in r ≡ None → Tail s
    → result_at (result_text r ++ s) ≡ Some (r, s)
unfolding result_at
result_again (Value ws) s p free tail = rw (answer_again (late_answer.Value ws) s p tail) refl
result_again Done s p free tail = rw (answer_again late_answer.Done s p tail) refl
result_again (Was w) s p free tail = rw (answer_again (late_answer.Was w) s p tail) refl
result_again (Error c a) s p free tail = rw (answer_again (late_answer.Error c a) s p tail) refl
result_again Skipped s p free tail = rw (answer_again late_answer.Skipped s p tail) refl
result_again (TimedOut r) s p free tail = timeout_again r s p
result_again (Late r a) s p free tail = late_again r a s p.0 p.1 tail
result_again Unsent s p free tail = refl
result_again LinkLost s p free tail = refl
result_again Garbled s p free tail = rw (answer_again late_answer.Garbled s p tail) refl
result_again (Denied rule) s p free tail = absurd cc

-- ---- places

place_again : (p : ℕ × ℕ) (rest : List ℕ) → IsPrintedPlace p → NoDigit 10 rest
    → place_at (place_text p ++ rest) ≡ Some (p, rest)
unfolding place_at digit_at
place_again (place, number) rest fits stop =
    rw (
      append_assoc (decimal place) (codes "." ++ decimal number) rest,
      decimal_number place ((codes "." ++ decimal number) ++ rest) fits.0 refl,
      decimal_again (2 ^ 16) number rest fits.1 (omega arith) stop,
    ) refl

no_place : (rest : List ℕ) → next_place_at (10 ∷ rest) ≡ None
unfolding next_place_at
no_place rest = refl

places_end : (ps : List (ℕ × ℕ)) → NoDigit 10 (more_places ps ++ codes "\n")
unfolding digit_at
places_end [] = refl
places_end (p ∷ ps) = refl

next_place_again : (p : ℕ × ℕ) (rest : List ℕ) → IsPrintedPlace p → NoDigit 10 rest
    → next_place_at (44 ∷ (place_text p ++ rest)) ≡ Some (p, rest)
unfolding next_place_at
next_place_again p rest fits stop = place_again p rest fits stop

places_again : (ps : List (ℕ × ℕ)) → AllByRecursion IsPrintedPlace ps
    → all_of next_place_at (more_places ps ++ codes "\n") ≡ (ps, codes "\n")
places_again [] are = all_stop next_place_at places_shorten (codes "\n") (no_place [])
places_again (p ∷ ps) are =
    let rest = more_places ps ++ codes "\n" in
    ap (λ (t : List ℕ). all_of next_place_at (44 ∷ t)) (append_assoc (place_text p) (more_places ps) (codes "\n"))
    ∙ (all_step next_place_at places_shorten (44 ∷ (place_text p ++ rest)) rest p
    (next_place_again p rest are.0 (places_end ps))
    ∙ ap (in_front p) (places_again ps are.1))

-- what a line shows is read again
pub showing_again : (r : OpResult) (ps : List (ℕ × ℕ)) → IsPrinted r → rule_in r ≡ None
    → AllByRecursion IsPrintedPlace ps
    → showing_at (result_text r ++ (places_text ps ++ codes "\n")) ≡ Some (r, ps)
unfolding showing_at
showing_again r [] p free are = rw (result_again r (codes "\n") p free (tail_of [])) refl
showing_again r (first ∷ others) p free are =
    rw (
      result_again r (places_text (first ∷ others) ++ codes "\n") p free (tail_of (first ∷ others)),
      append_assoc (place_text first) (more_places others) (codes "\n"),
      place_again first (more_places others ++ codes "\n") are.0 (places_end others),
      places_again others are.1,
    ) refl
