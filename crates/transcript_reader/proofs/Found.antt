-- Lines that stand in their places are the text of what they show.
use Rattle.std.proofs.Common.{◌≡◌, ℕ, ◌+◌, List, [], ◌∷◌, ◌++◌, map, drop, get_or, nat_eq, Bool, true, false, cond, inl, inr}
use Rattle.std.proofs.Common.{refl, sym, ap, ◌∙◌, arith, append_assoc}
use Rattle.std.specs.Cmp.Lexicographic.{pointwise, same_text, other_text}
use Rattle.std.specs.List.{AllZip, flat_map}
use Rattle.std.proofs.lemmas.Bool.{cases_Bool}
use Rattle.board_specs.specs.declared.spec.BoardSpec.{BoardSpec}
use Rattle.script_plans.specs.declared.greeting.Greeting.{Greeting}
use Rattle.script_plans.specs.declared.greeting.Greeting.TheVariants as greeting
use Rattle.transcript.specs.declared.line.BoardLine.{BoardLine}
use Rattle.transcript.specs.declared.line.BoardLine.TheVariants.{Live, Silent, Down}
use Rattle.transcript.specs.declared.line.OpLine.{OpLine}
use Rattle.transcript.specs.Text.{board_text, boards_text, clients_text, down_text, heading, line_text, lines_text, silent_text}
use Rattle.transcript.specs.Text.{live_text}
use Rattle.transcript_reader.specs.Entries.{IsLineOf, lines_of, onto_first, told_by, told_from}
use Rattle.transcript_reader.specs.Shown.{greeting_in, greetings_in}
use Rattle.transcript_reader.specs.Walks.{client_texts}
use Rattle.transcript_reader.proofs.Told.{told_first}

-- ---- the text of lines

abbrev pub joined : List (List ℕ) → List ℕ
joined [] = []
joined (line ∷ lines) = line ++ joined lines

joined_first : (b : ℕ) (lines : List (List ℕ)) → joined (onto_first b lines) ≡ b ∷ joined lines
joined_first b [] = refl
joined_first b (line ∷ lines) = refl

joined_by : (b : ℕ) (test : Bool) (lines : List (List ℕ))
    → joined (cond test ((b ∷ []) ∷ lines) (onto_first b lines)) ≡ b ∷ joined lines
joined_by b true lines = refl
joined_by b false lines = joined_first b lines

pub lines_joined : (text : List ℕ) → joined (lines_of text) ≡ text
lines_joined [] = refl
lines_joined (b ∷ text) = joined_by b (nat_eq b 10) (lines_of text) ∙ ap (λ (t : List ℕ). b ∷ t) (lines_joined text)

joined_append : (xs ys : List (List ℕ)) → joined (xs ++ ys) ≡ joined xs ++ joined ys
joined_append [] ys = refl
joined_append (x ∷ xs) ys = ap (λ (t : List ℕ). x ++ t) (joined_append xs ys) ∙ sym (append_assoc x (joined xs) (joined ys))

joined_map : {A : Type 0} (f : A → List ℕ) (xs : List A) → joined (map f xs) ≡ flat_map f xs
joined_map f [] = refl
joined_map f (x ∷ xs) = ap (λ (t : List ℕ). f x ++ t) (joined_map f xs)

joined_clients : (n : ℕ) (clients : List (List OpLine)) → joined (client_texts n clients) ≡ clients_text n clients
joined_clients n [] = refl
joined_clients n (lines ∷ clients) =
    ap (λ (t : List ℕ). heading n ++ t)
    (joined_append (map line_text lines) (client_texts (n + 1) clients)
    ∙ (ap (λ (t : List ℕ). t ++ joined (client_texts (n + 1) clients)) (joined_map line_text lines)
    ∙ ap (λ (t : List ℕ). lines_text lines ++ t) (joined_clients (n + 1) clients)))
    ∙ sym (append_assoc (heading n) (lines_text lines) (clients_text (n + 1) clients))

pub text_of_lines : (text : List ℕ) (clients : List (List OpLine)) (shown : List BoardLine)
    → lines_of text ≡ client_texts 1 clients ++ map board_text shown
    → text ≡ clients_text 1 clients ++ boards_text shown
text_of_lines text clients shown parts =
    sym (lines_joined text)
    ∙ (ap joined parts
    ∙ (joined_append (client_texts 1 clients) (map board_text shown)
    ∙ (ap (λ (t : List ℕ). t ++ joined (map board_text shown)) (joined_clients 1 clients)
    ∙ ap (λ (t : List ℕ). clients_text 1 clients ++ t) (joined_map board_text shown))))

-- ---- what they tell

same_of : (xs : List ℕ) → pointwise nat_eq xs xs ≡ true
same_of xs = elim (cases_Bool (pointwise nat_eq xs xs)) [
  | inl same ↦ same
  | inr other ↦ absurd (other_text xs xs (sym other) refl)
]

other_of : (xs ys : List ℕ) → (xs ≡ ys → ⊥) → pointwise nat_eq xs ys ≡ false
other_of xs ys other = elim (cases_Bool (pointwise nat_eq xs ys)) [
  | inl same ↦ absurd (other (same_text xs ys (sym same)))
  | inr differ ↦ differ
]

cut_same : (front xs ys : List ℕ) → front ++ xs ≡ front ++ ys → xs ≡ ys
cut_same [] xs ys e = e
cut_same (b ∷ front) xs ys e = let tails : front ++ xs ≡ front ++ ys = cc in cut_same front xs ys tails

not_silent : (name : List ℕ) (a b c d : ℕ) → live_text name a b c d ≡ silent_text name → ⊥
not_silent name a b c d e =
    let tails = cut_same name _ _ (ap (drop 6) e) in
    let letters : ◌≡◌ {A = ℕ} 112 115 = ap (λ l. get_or l 1 0) tails in omega arith

not_down : (name : List ℕ) (a b c d : ℕ) → live_text name a b c d ≡ down_text name → ⊥
not_down name a b c d e =
    let tails = cut_same name _ _ (ap (drop 6) e) in
    let letters : ◌≡◌ {A = ℕ} 112 100 = ap (λ l. get_or l 1 0) tails in omega arith

down_not_silent : (name : List ℕ) → down_text name ≡ silent_text name → ⊥
down_not_silent name e =
    let tails = cut_same name _ _ (ap (drop 6) e) in
    let letters : ◌≡◌ {A = ℕ} 100 115 = ap (λ l. get_or l 1 0) tails in omega arith

told_line : (spec : BoardSpec) (shown : BoardLine) → IsLineOf spec shown
    → told_by spec (board_text shown) ≡ greeting_in spec shown
told_line spec (Live name a b c d) is = rw (
  is.0,
  other_of (live_text spec.name a b c d) (silent_text spec.name) (not_silent spec.name a b c d),
  other_of (live_text spec.name a b c d) (down_text spec.name) (not_down spec.name a b c d),
) refl
told_line spec (Silent name) is = rw (is, same_of (silent_text spec.name)) refl
told_line spec (Down name) is = rw (
  is,
  other_of (down_text spec.name) (silent_text spec.name) (down_not_silent spec.name),
  same_of (down_text spec.name),
) refl

pub told_lines : (specs : List BoardSpec) (shown : List BoardLine) → AllZip IsLineOf specs shown
    → told_from 0 specs (map board_text shown) ≡ greetings_in specs shown
told_lines [] [] can = refl
told_lines [] (s ∷ shown) can = absurd can
told_lines (b ∷ specs) [] can = absurd can
told_lines (b ∷ specs) (s ∷ shown) can =
    told_first b specs (board_text s) (map board_text shown)
    ∙ (ap (λ (g : Greeting). g ∷ told_from 0 specs (map board_text shown)) (told_line b s can.0)
    ∙ ap (λ (gs : List Greeting). greeting_in b s ∷ gs) (told_lines specs shown can.1))
