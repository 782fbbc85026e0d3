-- A line's text tells the line.
use Rattle.std.proofs.Common.{◌≡◌, ◌⊎◌, ℕ, zero, suc, ◌-◌, ◌<◌, ◌^◌, nat_lt, not, Bool, true}
use Rattle.std.proofs.Common.{false, length, get_or, drop, replicate, List, [], ◌∷◌, ◌++◌}
use Rattle.std.proofs.Common.{refl, sym, ap, subst, ◌∙◌, inl, inr, arith, append_assoc, codes}
use Rattle.std.specs.Char.{digit_value}
use Rattle.std.specs.Fmt.{decimal, digits}
use Rattle.std.specs.List.{list_all, AllByRecursion}
use Rattle.std.specs.Str.Parse.{AllDigits, digits_value}
use Rattle.std.proofs.lemmas.Bool.{cases_Bool}
use Rattle.std.proofs.lemmas.Bool.Decides.{nat_tests}
use Rattle.std.proofs.lemmas.Fmt.{decimal_is_IsNumeral, decimal_injective, digits_is_IsNumeral}
use Rattle.ipb_base.specs.Word.{AreWords}
use Rattle.script_steps.specs.declared.operation.Verb.{Verb}
use Rattle.script_steps.specs.declared.operation.Verb.TheVariants.{Read, Write, ReadBlock, WriteBlock, RmwBits, RmwSum}
use Rattle.transcript.specs.declared.line.LateAnswer.{LateAnswer}
use Rattle.transcript.specs.declared.line.LateAnswer.TheVariants as late_answer
use Rattle.transcript.specs.declared.line.OpResult.{OpResult}
use Rattle.transcript.specs.declared.line.OpResult.TheVariants.{Value, Done, Was, Error, Skipped, TimedOut, Late}
use Rattle.transcript.specs.declared.line.OpResult.TheVariants.{Unsent, LinkLost, Garbled, Denied}
use Rattle.transcript.specs.declared.line.OpLine.{OpLine}
use Rattle.transcript.specs.Text.{hex_text, words_text, verb_text, denied_text, error_text, timeout_text, answer_text}
use Rattle.transcript.specs.Text.{late_text, result_text}
use Rattle.transcript.specs.Text.{place_text, more_places, places_text, line_text}
use Rattle.transcript.specs.Claims.{IsByte, IsPrinted, IsPrintedLate, IsPrintedPlace, IsPrintedLine, is_no_colon}
use Rattle.transcript.specs.Claims.{is_no_space}

-- ---- a front whose bytes pass a test, up to one that does not

stops : (ℕ → Bool) → List ℕ → Bool
stops p [] = true
stops p (x ∷ xs) = not (p x)

all_parts : (p : ℕ → Bool) (x : ℕ) (xs : List ℕ) → list_all p (x ∷ xs) ≡ true → (p x ≡ true) × (list_all p xs ≡ true)
all_parts p x xs all =
    elim (cases_Bool (p x)) [
      | inl here ↦ (here, rw here at all)
      | inr fails ↦ (let e = rw fails at all in cc)
    ]

goes_on : (p : ℕ → Bool) (y : ℕ) (ys rest : List ℕ) → p y ≡ true → stops p rest ≡ true → rest ≡ y ∷ ys → ⊥
unfolding stops
goes_on p y ys rest passes stop is =
    let at : not (p y) ≡ true = subst (λ l. stops p l ≡ true) is stop in
    let e = rw passes at at in cc

cut : (p : ℕ → Bool) (xs ys rest more : List ℕ) → list_all p xs ≡ true → list_all p ys ≡ true → stops p rest ≡ true
    → stops p more ≡ true → xs ++ rest ≡ ys ++ more → (xs ≡ ys) × (rest ≡ more)
cut p [] [] rest more a b s t e = (refl, e)
cut p [] (y ∷ ys) rest more a b s t e = absurd (goes_on p y (ys ++ more) rest (all_parts p y ys b).0 s e)
cut p (x ∷ xs) [] rest more a b s t e = absurd (goes_on p x (xs ++ rest) more (all_parts p x xs a).0 t (sym e))
cut p (x ∷ xs) (y ∷ ys) rest more a b s t e =
    let same : x ≡ y = cc in
    let tails : xs ++ rest ≡ ys ++ more = cc in
    let later = cut p xs ys rest more (all_parts p x xs a).1 (all_parts p y ys b).1 s t tails in
    (ap (λ z. z ∷ xs) same ∙ ap (λ zs. y ∷ zs) later.0, later.1)

-- ---- numbers

is_digit : ℕ → ℕ → Bool
is_digit radix c = nat_lt (digit_value c) radix

passes : (m n : ℕ) → m < n → nat_lt m n ≡ true
passes m n low = grind (arith, nat_tests)

digits_pass : (radix : ℕ) (ds : List ℕ) → AllDigits radix ds → list_all (is_digit radix) ds ≡ true
unfolding is_digit
digits_pass radix [] all = refl
digits_pass radix (d ∷ ds) all =
    let here : nat_lt (digit_value d) radix ≡ true = passes (digit_value d) radix all.0 in
    rw here (digits_pass radix ds all.1)

decimal_cut : (m n : ℕ) (rest more : List ℕ) → m < 2 ^ 64 → n < 2 ^ 64 → stops (is_digit 10) rest ≡ true
    → stops (is_digit 10) more ≡ true → decimal m ++ rest ≡ decimal n ++ more → (m ≡ n) × (rest ≡ more)
decimal_cut m n rest more fits fit s t e =
    let parts = cut (is_digit 10) (decimal m) (decimal n) rest more
    (digits_pass 10 (decimal m) (decimal_is_IsNumeral m fits).0.1)
    (digits_pass 10 (decimal n) (decimal_is_IsNumeral n fit).0.1) s t e in
    (decimal_injective m n fits fit parts.0, parts.1)

zeros_pass : (k : ℕ) (ds : List ℕ) → list_all (is_digit 16) ds ≡ true
    → list_all (is_digit 16) (replicate k 48 ++ ds) ≡ true
unfolding is_digit
zeros_pass zero ds all = all
zeros_pass (suc k) ds all = zeros_pass k ds all

zeros_value : (k : ℕ) (ds : List ℕ) → digits_value 16 (replicate k 48 ++ ds) ≡ digits_value 16 ds
zeros_value zero ds = refl
zeros_value (suc k) ds = zeros_value k ds

wide : (w : ℕ) → w < 2 ^ 32 → w < 16 ^ 64
wide w fits = omega arith

hex_passes : (w : ℕ) → w < 2 ^ 32 → list_all (is_digit 16) (hex_text w) ≡ true
hex_passes w fits =
    zeros_pass (8 - length (digits 16 false w)) (digits 16 false w) (digits_pass 16 (digits 16 false w)
    (digits_is_IsNumeral 16 false (omega arith) (omega arith) w (wide w fits)).0.1)

hex_value : (w : ℕ) → w < 2 ^ 32 → digits_value 16 (hex_text w) ≡ w
hex_value w fits =
    zeros_value (8 - length (digits 16 false w)) (digits 16 false w)
    ∙ (digits_is_IsNumeral 16 false (omega arith) (omega arith) w (wide w fits)).1

hex_cut : (w v : ℕ) (rest more : List ℕ) → w < 2 ^ 32 → v < 2 ^ 32 → stops (is_digit 16) rest ≡ true
    → stops (is_digit 16) more ≡ true → hex_text w ++ rest ≡ hex_text v ++ more → (w ≡ v) × (rest ≡ more)
hex_cut w v rest more fits fit s t e =
    let parts = cut (is_digit 16) (hex_text w) (hex_text v) rest more (hex_passes w fits) (hex_passes v fit) s t e in
    (sym (hex_value w fits) ∙ (ap (digits_value 16) parts.0 ∙ hex_value v fit), parts.1)

-- ---- what follows a result: the end of the line, or places

Tail : List ℕ → Type 0
Tail s = ((rest : List ℕ) × (s ≡ 10 ∷ rest)) ⊎ ((rest : List ℕ) × (s ≡ 32 ∷ 64 ∷ rest))

tail_of : (places : List (ℕ × ℕ)) → Tail (places_text places ++ codes "\n")
unfolding Tail
tail_of [] = inl ([], refl)
tail_of (p ∷ ps) = inr (_, refl)

hex_stops : (s : List ℕ) → Tail s → stops (is_digit 16) s ≡ true
unfolding Tail stops is_digit
hex_stops s (inl (rest, is)) = rw is
hex_stops s (inr (rest, is)) = rw is

decimal_stops : (s : List ℕ) → Tail s → stops (is_digit 10) s ≡ true
unfolding Tail stops is_digit
decimal_stops s (inl (rest, is)) = rw is
decimal_stops s (inr (rest, is)) = rw is

not_a_word : (s rest : List ℕ) → Tail s → s ≡ 32 ∷ 48 ∷ rest → ⊥
unfolding Tail
not_a_word s rest (inl (more, is)) e = let heads : ◌≡◌ {A = ℕ} 10 32 = ap (λ l. get_or l 0 0) (sym is ∙ e) in omega
    arith
not_a_word s rest (inr (more, is)) e = let heads : ◌≡◌ {A = ℕ} 64 48 = ap (λ l. get_or l 1 0) (sym is ∙ e) in omega
    arith

words_stop : (ws s : List ℕ) → Tail s → stops (is_digit 16) (words_text ws ++ s) ≡ true
unfolding stops is_digit
words_stop [] s tail = hex_stops s tail
words_stop (w ∷ ws) s tail = refl

words_cut : (ws vs s t : List ℕ) → AreWords ws → AreWords vs → Tail s → Tail t → words_text ws ++ s ≡ words_text vs ++ t
    → (ws ≡ vs) × (s ≡ t)
words_cut [] [] s t a b p q e = (refl, e)
words_cut [] (v ∷ vs) s t a b p q e = absurd (not_a_word s _ p e)
words_cut (w ∷ ws) [] s t a b p q e = absurd (not_a_word t _ q (sym e))
words_cut (w ∷ ws) (v ∷ vs) s t a b p q e =
    let hexes : hex_text w ++ (words_text ws ++ s) ≡ hex_text v ++ (words_text vs ++ t) =
    sym (append_assoc (hex_text w) (words_text ws) s) ∙ (ap (drop 3) e ∙ append_assoc (hex_text v) (words_text vs) t) in
    let one = hex_cut w v (words_text ws ++ s) (words_text vs ++ t) a.0 b.0 (words_stop ws s p) (words_stop vs t q)
    hexes in
    let more = words_cut ws vs s t a.1 b.1 p q one.1 in
    (ap (λ x. x ∷ ws) one.0 ∙ ap (λ xs. v ∷ xs) more.0, more.1)

-- ---- results

few_bits : (n : ℕ) → n < 2 ^ 8 → n < 2 ^ 64
few_bits n fits = omega arith

error_cut : (c a d b : ℕ) (s t : List ℕ) → IsByte c → IsByte a → IsByte d → IsByte b → Tail s → Tail t
    → error_text c a ++ s ≡ error_text d b ++ t → (c ≡ d) × ((a ≡ b) × (s ≡ t))
unfolding stops is_digit
error_cut c a d b s t fc fa fd fb p q e =
    let first = decimal_cut c d ((codes " after " ++ decimal a) ++ s) ((codes " after " ++ decimal b) ++ t)
    (few_bits c fc) (few_bits d fd) refl refl
    (sym (append_assoc (decimal c) (codes " after " ++ decimal a) s)
    ∙ (ap (drop 6) e ∙ append_assoc (decimal d) (codes " after " ++ decimal b) t)) in
    let second = decimal_cut a b s t (few_bits a fa) (few_bits b fb) (decimal_stops s p) (decimal_stops t q)
    (ap (drop 7) first.1) in
    (first.0, (second.0, second.1))

timeout_cut : (r u : ℕ) (s t : List ℕ) → IsByte r → IsByte u → timeout_text r ++ s ≡ timeout_text u ++ t
    → (TimedOut r ≡ TimedOut u) × (s ≡ t)
unfolding stops is_digit
timeout_cut r u s t fr fu e =
    let parts = decimal_cut r u (codes " rounds, execution unknown" ++ s) (codes " rounds, execution unknown" ++ t)
    (few_bits r fr) (few_bits u fu) refl refl
    (sym (append_assoc (decimal r) (codes " rounds, execution unknown") s)
    ∙ (ap (drop 14) e ∙ append_assoc (decimal u) (codes " rounds, execution unknown") t)) in
    (ap TimedOut parts.0, ap (drop 26) parts.1)

-- what a late answer shows
answer_cut : (a b : LateAnswer) (s t : List ℕ) → IsPrintedLate a → IsPrintedLate b → Tail s → Tail t
    → answer_text a ++ s ≡ answer_text b ++ t → (a ≡ b) × (s ≡ t)
answer_cut (late_answer.Value ws) (late_answer.Value vs) s t x y p q e =
    let c = words_cut ws vs s t x y p q (ap (drop 1) e) in (ap late_answer.Value c.0, c.1)
answer_cut late_answer.Done late_answer.Done s t x y p q e = (refl, ap (drop 4) e)
answer_cut (late_answer.Was w) (late_answer.Was v) s t x y p q e =
    let c = hex_cut w v s t x y (hex_stops s p) (hex_stops t q) (ap (drop 6) e) in (ap late_answer.Was c.0, c.1)
answer_cut (late_answer.Error c a) (late_answer.Error d b) s t x y p q e =
    let parts = error_cut c a d b s t x.0 x.1 y.0 y.1 p q e in
    (ap (λ n. late_answer.Error n a) parts.0 ∙ ap (λ n. late_answer.Error d n) parts.1.0, parts.1.1)
answer_cut late_answer.Skipped late_answer.Skipped s t x y p q e = (refl, ap (drop 7) e)
answer_cut late_answer.Garbled late_answer.Garbled s t x y p q e = (refl, ap (drop 7) e)
answer_cut a b s t x y p q e =
    let heads : get_or (answer_text a ++ s) 0 0 ≡ get_or (answer_text b ++ t) 0 0 = ap (λ l. get_or l 0 0) e in absurd
    (omega arith)

late_cut : (r u : ℕ) (a b : LateAnswer) (s t : List ℕ) → IsByte r → IsByte u → IsPrintedLate a → IsPrintedLate b
    → Tail s → Tail t → late_text r a ++ s ≡ late_text u b ++ t → (Late r a ≡ Late u b) × (s ≡ t)
unfolding stops is_digit
late_cut r u a b s t fr fu x y p q e =
    let parts = decimal_cut r u ((codes " rounds, answered late: " ++ answer_text a) ++ s)
    ((codes " rounds, answered late: " ++ answer_text b) ++ t) (few_bits r fr) (few_bits u fu) refl refl
    (sym (append_assoc (decimal r) (codes " rounds, answered late: " ++ answer_text a) s)
    ∙ (ap (drop 14) e ∙ append_assoc (decimal u) (codes " rounds, answered late: " ++ answer_text b) t)) in
    let answers = answer_cut a b s t x y p q (ap (drop 24) parts.1) in
    (ap (λ n. Late n a) parts.0 ∙ ap (Late u) answers.0, answers.1)

-- both begin with the timeout; `execution` and `answered` differ in the first letter
timeout_or_late : (r u : ℕ) (a : LateAnswer) (s t : List ℕ) → IsByte r → IsByte u
    → timeout_text r ++ s ≡ late_text u a ++ t → ⊥
unfolding stops is_digit
timeout_or_late r u a s t fr fu e =
    let parts = decimal_cut r u (codes " rounds, execution unknown" ++ s)
    ((codes " rounds, answered late: " ++ answer_text a) ++ t) (few_bits r fr) (few_bits u fu) refl refl
    (sym (append_assoc (decimal r) (codes " rounds, execution unknown") s)
    ∙ (ap (drop 14) e ∙ append_assoc (decimal u) (codes " rounds, answered late: " ++ answer_text a) t)) in
    let letters : ◌≡◌ {A = ℕ} 101 97 = ap (λ l. get_or l 9 0) parts.1 in omega arith

denied_cut : (r u : ℕ) (s t : List ℕ) → r < 2 ^ 32 → u < 2 ^ 32 → Tail s → Tail t
    → denied_text r ++ s ≡ denied_text u ++ t → (Denied r ≡ Denied u) × (s ≡ t)
denied_cut r u s t fr fu p q e =
    let parts = decimal_cut r u s t (omega arith) (omega arith) (decimal_stops s p) (decimal_stops t q) (ap (drop 15) e)
    in
    (ap Denied parts.0, parts.1)

-- `done` and `denied` differ in the second letter
done_or_denied : (rule : ℕ) (s t : List ℕ) → codes "done" ++ s ≡ denied_text rule ++ t → ⊥
done_or_denied rule s t e =
    let seconds : ◌≡◌ {A = ℕ} 111 101 = ap (λ l. get_or l 1 0) e in omega arith

result_cut : (a b : OpResult) (s t : List ℕ) → IsPrinted a → IsPrinted b → Tail s → Tail t
    → result_text a ++ s ≡ result_text b ++ t → (a ≡ b) × (s ≡ t)
result_cut (Value ws) (Value vs) s t x y p q e = let c = words_cut ws vs s t x y p q (ap (drop 1) e) in
    (ap Value c.0, c.1)
result_cut Done Done s t x y p q e = (refl, ap (drop 4) e)
result_cut (Was w) (Was v) s t x y p q e =
    let c = hex_cut w v s t x y (hex_stops s p) (hex_stops t q) (ap (drop 6) e) in (ap Was c.0, c.1)
result_cut (Error c a) (Error d b) s t x y p q e =
    let parts = error_cut c a d b s t x.0 x.1 y.0 y.1 p q e in
    (ap (λ n. Error n a) parts.0 ∙ ap (λ n. Error d n) parts.1.0, parts.1.1)
result_cut Skipped Skipped s t x y p q e = (refl, ap (drop 7) e)
result_cut (TimedOut r) (TimedOut u) s t x y p q e = timeout_cut r u s t x y e
result_cut (Late r a) (Late u b) s t x y p q e = late_cut r u a b s t x.0 y.0 x.1 y.1 p q e
result_cut (TimedOut r) (Late u a) s t x y p q e = absurd (timeout_or_late r u a s t x y.0 e)
result_cut (Late u a) (TimedOut r) s t x y p q e = absurd (timeout_or_late r u a t s y x.0 (sym e))
result_cut Unsent Unsent s t x y p q e = (refl, ap (drop 6) e)
result_cut LinkLost LinkLost s t x y p q e = (refl, ap (drop 9) e)
result_cut Garbled Garbled s t x y p q e = (refl, ap (drop 7) e)
result_cut (Denied r) (Denied u) s t x y p q e = denied_cut r u s t x y p q e
result_cut Done (Denied u) s t x y p q e = absurd (done_or_denied u s t e)
result_cut (Denied r) Done s t x y p q e = absurd (done_or_denied r t s (sym e))
result_cut a b s t x y p q e =
    let heads : get_or (result_text a ++ s) 0 0 ≡ get_or (result_text b ++ t) 0 0 = ap (λ l. get_or l 0 0) e in absurd
    (omega arith)

-- ---- places

place_cut : (p q : ℕ × ℕ) (s t : List ℕ) → IsPrintedPlace p → IsPrintedPlace q → stops (is_digit 10) s ≡ true
    → stops (is_digit 10) t ≡ true → place_text p ++ s ≡ place_text q ++ t → (p ≡ q) × (s ≡ t)
unfolding stops is_digit
place_cut (place, number) (other, also) s t fits fit stop ends e =
    let first = decimal_cut place other ((codes "." ++ decimal number) ++ s) ((codes "." ++ decimal also) ++ t) fits.0
    fit.0 refl refl
    (sym (append_assoc (decimal place) (codes "." ++ decimal number) s)
    ∙ (e ∙ append_assoc (decimal other) (codes "." ++ decimal also) t)) in
    let second = decimal_cut number also s t (omega (arith, fits.1)) (omega (arith, fit.1)) stop ends
    (ap (drop 1) first.1) in
    (ap (λ n. (n, number)) first.0 ∙ ap (λ n. (other, n)) second.0, second.1)

places_stop : (ps : List (ℕ × ℕ)) → stops (is_digit 10) (more_places ps ++ codes "\n") ≡ true
unfolding stops is_digit
places_stop [] = refl
places_stop (p ∷ ps) = refl

first_cut : (p q : ℕ × ℕ) (ps qs : List (ℕ × ℕ)) → AllByRecursion IsPrintedPlace (p ∷ ps)
    → AllByRecursion IsPrintedPlace (q ∷ qs)
    → (place_text p ++ more_places ps) ++ codes "\n" ≡ (place_text q ++ more_places qs) ++ codes "\n"
    → (p ≡ q) × (more_places ps ++ codes "\n" ≡ more_places qs ++ codes "\n")
first_cut p q ps qs a b e =
    place_cut p q (more_places ps ++ codes "\n") (more_places qs ++ codes "\n") a.0 b.0 (places_stop ps)
    (places_stop qs)
    (sym (append_assoc (place_text p) (more_places ps) (codes "\n"))
    ∙ (e ∙ append_assoc (place_text q) (more_places qs) (codes "\n")))

more_cut : (ps qs : List (ℕ × ℕ)) → AllByRecursion IsPrintedPlace ps → AllByRecursion IsPrintedPlace qs
    → more_places ps ++ codes "\n" ≡ more_places qs ++ codes "\n" → ps ≡ qs
more_cut [] [] a b e = refl
more_cut [] (q ∷ qs) a b e = let heads : ◌≡◌ {A = ℕ} 10 44 = ap (λ l. get_or l 0 0) e in absurd (omega arith)
more_cut (p ∷ ps) [] a b e = let heads : ◌≡◌ {A = ℕ} 44 10 = ap (λ l. get_or l 0 0) e in absurd (omega arith)
more_cut (p ∷ ps) (q ∷ qs) a b e =
    let parts = first_cut p q ps qs a b (ap (drop 1) e) in
    ap (λ x. x ∷ ps) parts.0 ∙ ap (λ xs. q ∷ xs) (more_cut ps qs a.1 b.1 parts.1)

places_cut : (ps qs : List (ℕ × ℕ)) → AllByRecursion IsPrintedPlace ps → AllByRecursion IsPrintedPlace qs
    → places_text ps ++ codes "\n" ≡ places_text qs ++ codes "\n" → ps ≡ qs
places_cut [] [] a b e = refl
places_cut [] (q ∷ qs) a b e = let heads : ◌≡◌ {A = ℕ} 10 32 = ap (λ l. get_or l 0 0) e in absurd (omega arith)
places_cut (p ∷ ps) [] a b e = let heads : ◌≡◌ {A = ℕ} 32 10 = ap (λ l. get_or l 0 0) e in absurd (omega arith)
places_cut (p ∷ ps) (q ∷ qs) a b e =
    let parts = first_cut p q ps qs a b (ap (drop 2) e) in
    ap (λ x. x ∷ ps) parts.0 ∙ ap (λ xs. q ∷ xs) (more_cut ps qs a.1 b.1 parts.1)

-- ---- verbs and lines

verb_passes : (v : Verb) → list_all is_no_space (verb_text v) ≡ true
verb_passes Read = refl
verb_passes Write = refl
verb_passes ReadBlock = refl
verb_passes WriteBlock = refl
verb_passes RmwBits = refl
verb_passes RmwSum = refl

one_verb : (a b : Verb) → length (verb_text a) ≡ length (verb_text b) → a ≡ b
one_verb Read Read e = refl
one_verb Write Write e = refl
one_verb ReadBlock ReadBlock e = refl
one_verb WriteBlock WriteBlock e = refl
one_verb RmwBits RmwBits e = refl
one_verb RmwSum RmwSum e = refl
one_verb a b e = absurd (omega arith)

line_with : ℕ → Verb → List ℕ → List ℕ → OpResult → List (ℕ × ℕ) → OpLine
line_with number verb board name came_to places =
    record { number = number; verb = verb; board = board; name = name; result = came_to; places = places }

same_line : (a b : OpLine) → a.number ≡ b.number → a.verb ≡ b.verb → a.board ≡ b.board → a.name ≡ b.name
    → a.result ≡ b.result → a.places ≡ b.places → a ≡ b
unfolding line_with
same_line a b number verb board name came_to places =
    ap (λ n. line_with n a.verb a.board a.name a.result a.places) number
    ∙ (ap (λ v. line_with b.number v a.board a.name a.result a.places) verb
    ∙ (ap (λ x. line_with b.number b.verb x a.name a.result a.places) board
    ∙ (ap (λ x. line_with b.number b.verb b.board x a.result a.places) name
    ∙ (ap (λ r. line_with b.number b.verb b.board b.name r a.places) came_to
    ∙ ap (λ ps. line_with b.number b.verb b.board b.name b.result ps) places))))

pub one_line : (a b : OpLine) → IsPrintedLine a → IsPrintedLine b → line_text a ≡ line_text b → a ≡ b
unfolding stops is_digit
one_line a b fits fit e =
    let R = result_text a.result ++ (places_text a.places ++ codes "\n") in
    let S = result_text b.result ++ (places_text b.places ++ codes "\n") in
    let av = verb_text a.verb in
    let bv = verb_text b.verb in
    let number = decimal_cut a.number b.number
    ((codes " " ++ (av ++ (codes " " ++ (a.board ++ (codes ":" ++ (a.name ++ codes " ")))))) ++ R)
    ((codes " " ++ (bv ++ (codes " " ++ (b.board ++ (codes ":" ++ (b.name ++ codes " ")))))) ++ S)
    (omega (arith, fits.number')) (omega (arith, fit.number')) refl refl
    (sym (append_assoc (decimal a.number) (codes " "
    ++ (av ++ (codes " " ++ (a.board ++ (codes ":" ++ (a.name ++ codes " ")))))) R)
    ∙ (e ∙ append_assoc (decimal b.number) (codes " "
    ++ (bv ++ (codes " " ++ (b.board ++ (codes ":" ++ (b.name ++ codes " ")))))) S)) in
    let verb = cut is_no_space av bv
    ((codes " " ++ (a.board ++ (codes ":" ++ (a.name ++ codes " ")))) ++ R)
    ((codes " " ++ (b.board ++ (codes ":" ++ (b.name ++ codes " ")))) ++ S)
    (verb_passes a.verb) (verb_passes b.verb) refl refl
    (sym (append_assoc av (codes " " ++ (a.board ++ (codes ":" ++ (a.name ++ codes " ")))) R)
    ∙ (ap (drop 1) number.1 ∙ append_assoc bv (codes " " ++ (b.board ++ (codes ":" ++ (b.name ++ codes " ")))) S)) in
    let board = cut is_no_colon a.board b.board ((codes ":" ++ (a.name ++ codes " ")) ++ R)
    ((codes ":" ++ (b.name ++ codes " ")) ++ S)
    fits.board' fit.board' refl refl
    (sym (append_assoc a.board (codes ":" ++ (a.name ++ codes " ")) R)
    ∙ (ap (drop 1) verb.1 ∙ append_assoc b.board (codes ":" ++ (b.name ++ codes " ")) S)) in
    let name = cut is_no_space a.name b.name (codes " " ++ R) (codes " " ++ S) fits.name' fit.name' refl refl
    (sym (append_assoc a.name (codes " ") R) ∙ (ap (drop 1) board.1 ∙ append_assoc b.name (codes " ") S)) in
    let came_to = result_cut a.result b.result (places_text a.places ++ codes "\n") (places_text b.places ++ codes "\n")
    fits.result' fit.result' (tail_of a.places) (tail_of b.places) (ap (drop 1) name.1) in
    same_line a b number.0 (one_verb a.verb b.verb (ap length verb.0)) board.0 name.0 came_to.0
    (places_cut a.places b.places fits.places' fit.places' came_to.1)
