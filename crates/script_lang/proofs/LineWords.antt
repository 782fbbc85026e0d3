-- The words of a line, from its front.
use Rattle.std.proofs.Common.{◌≡◌, ℕ, zero, suc, ◌+◌, ◌<◌, ◌≤◌, List, [], ◌∷◌, length, take, drop, get_or, add-one}
use Rattle.std.proofs.Common.{Bool, true, false, not, ◌==◌, refl, sym, ap, ◌∙◌, arith, subst}
use Rattle.std.specs.List.{prefix_len, filter}
use Rattle.std.specs.Str.{IsCharBoundary, IsUtf8}
use Rattle.std.proofs.lemmas.Bool.Decides.{nat_tests}
use Rattle.std.proofs.lemmas.Str.{IsCharBoundary-start, IsCharBoundary-after_ascii}
use Rattle.std.proofs.lemmas.List.Sums.{prefix_len-le-length, prefix_len_passes, prefix_len_stops}
use Rattle.script_lang.specs.Lines.{is_blank, starts_blank, pieces, is_word, words}

abbrev pub in_word : ℕ → Bool
in_word byte = not (is_blank byte)

one_more : (n : ℕ) → 1 + n ≡ suc n
one_more n = omega arith

blank_low : (byte : ℕ) → is_blank byte ≡ true → byte < 128
blank_low byte h = grind (arith, nat_tests)

blanks-more : (byte : ℕ) (text : List ℕ) → is_blank byte ≡ true
    → prefix_len is_blank (byte ∷ text) ≡ suc (prefix_len is_blank text)
blanks-more byte text is = rw is (one_more (prefix_len is_blank text))

blanks-none : (byte : ℕ) (text : List ℕ) → is_blank byte ≡ false → prefix_len is_blank (byte ∷ text) ≡ 0
blanks-none byte text is = rw is refl

word-more : (byte : ℕ) (text : List ℕ) → is_blank byte ≡ false
    → prefix_len in_word (byte ∷ text) ≡ suc (prefix_len in_word text)
word-more byte text is = rw is (one_more (prefix_len in_word text))

word-none : (byte : ℕ) (text : List ℕ) → is_blank byte ≡ true → prefix_len in_word (byte ∷ text) ≡ 0
word-none byte text is = rw is refl

-- a fact of a byte and the text after it, by whether the byte is a blank
by_blank : (P : Type 0) (byte : ℕ) (b : Bool) → is_blank byte ≡ b → (is_blank byte ≡ true → P)
    → (is_blank byte ≡ false → P) → P
by_blank P byte true is blank other = blank is
by_blank P byte false is blank other = other is

words-past : (byte : ℕ) (text : List ℕ) → is_blank byte ≡ true → words text ≡ words (byte ∷ text)
words-past byte text is = rw is refl

-- blanks at the front are in no word
pub words-after_blanks : (text : List ℕ) → words (drop (prefix_len is_blank text) text) ≡ words text
words-after_blanks [] = refl
words-after_blanks (byte ∷ text) =
    by_blank (words (drop (prefix_len is_blank (byte ∷ text)) (byte ∷ text)) ≡ words (byte ∷ text)) byte
    (is_blank byte) refl
    (λ is. ap (λ n. words (drop n (byte ∷ text))) (blanks-more byte text is) ∙ words-after_blanks text
    ∙ words-past byte text is)
    (λ is. ap (λ n. words (drop n (byte ∷ text))) (blanks-none byte text is))

pub begun-after_blanks : (text : List ℕ) → starts_blank (drop (prefix_len is_blank text) text) ≡ false
begun-after_blanks [] = refl
begun-after_blanks (byte ∷ text) =
    by_blank (starts_blank (drop (prefix_len is_blank (byte ∷ text)) (byte ∷ text)) ≡ false) byte (is_blank byte) refl
    (λ is. ap (λ n. starts_blank (drop n (byte ∷ text))) (blanks-more byte text is) ∙ begun-after_blanks text)
    (λ is. ap (λ n. starts_blank (drop n (byte ∷ text))) (blanks-none byte text is) ∙ is)

boundary_at : (text : List ℕ) (n : ℕ) → IsUtf8 text → n ≡ prefix_len is_blank text → IsCharBoundary text n
boundary_at text zero utf8 is = IsCharBoundary-start text utf8
boundary_at text (suc n) utf8 is =
    let fits : prefix_len is_blank text ≤ length text = prefix_len-le-length is_blank text in
    let low : get_or text n 0 < 128 = blank_low (get_or text n 0) (prefix_len_passes is_blank text n 0 (omega arith)) in
    subst (IsCharBoundary text) (add-one n) (IsCharBoundary-after_ascii text n utf8 (omega arith) low)

-- the text may be cut after the blanks at its front
pub boundary-after_blanks : (text : List ℕ) → IsUtf8 text → IsCharBoundary text (prefix_len is_blank text)
boundary-after_blanks text utf8 = boundary_at text (prefix_len is_blank text) utf8 refl

no_word_low : (byte : ℕ) → in_word byte ≡ false → byte < 128
no_word_low byte h = grind (arith, nat_tests)

-- and before the first blank
pub boundary-after_word : (text : List ℕ) → IsCharBoundary text (prefix_len in_word text)
boundary-after_word text = (
  prefix_len-le-length in_word text,
  λ within high.
      let low : get_or text (prefix_len in_word text) 0 < 128 =
      no_word_low _ (prefix_len_stops in_word text 0 within) in
      absurd (omega arith),
)

-- the pieces that follow a blank
abbrev after : List ℕ → List (List ℕ)
after [] = []
after (byte ∷ text) = pieces text

blank_first : (byte : ℕ) (text : List ℕ) → is_blank byte ≡ true → pieces (byte ∷ text) ≡ [] ∷ pieces text
blank_first byte text is = rw is refl

word_first : (byte : ℕ) (text : List ℕ) → is_blank byte ≡ false
    → pieces text ≡ take (prefix_len in_word text) text ∷ after (drop (prefix_len in_word text) text)
    → pieces (byte ∷ text) ≡ (byte ∷ take (prefix_len in_word text) text) ∷ after (drop (prefix_len in_word text) text)
word_first byte text is others = rw (is, others) refl

kept_first : (byte : ℕ) (text : List ℕ) → prefix_len in_word (byte ∷ text) ≡ suc (prefix_len in_word text)
    → filter is_word (take (prefix_len in_word (byte ∷ text)) (byte ∷ text)
    ∷ after (drop (prefix_len in_word (byte ∷ text)) (byte ∷ text)))
    ≡ take (prefix_len in_word (byte ∷ text)) (byte ∷ text)
    ∷ filter is_word (after (drop (prefix_len in_word (byte ∷ text)) (byte ∷ text)))
kept_first byte text is =
    ap (λ n. filter is_word (take n (byte ∷ text) ∷ after (drop n (byte ∷ text)))) is
    ∙ ap (λ n. take n (byte ∷ text) ∷ filter is_word (after (drop n (byte ∷ text)))) (sym is)

pieces-first : (text : List ℕ)
    → pieces text ≡ take (prefix_len in_word text) text ∷ after (drop (prefix_len in_word text) text)
pieces-first [] = refl
pieces-first (byte ∷ text) =
    by_blank (pieces (byte ∷ text) ≡ take (prefix_len in_word (byte ∷ text)) (byte ∷ text)
    ∷ after (drop (prefix_len in_word (byte ∷ text)) (byte ∷ text))) byte (is_blank byte) refl
    (λ is. blank_first byte text is
    ∙ ap (λ n. take n (byte ∷ text) ∷ after (drop n (byte ∷ text))) (sym (word-none byte text is)))
    (λ is. word_first byte text is (pieces-first text)
    ∙ ap (λ n. take n (byte ∷ text) ∷ after (drop n (byte ∷ text))) (sym (word-more byte text is)))

words-rest : (text : List ℕ)
    → filter is_word (after (drop (prefix_len in_word text) text)) ≡ words (drop (prefix_len in_word text) text)
words-rest [] = refl
words-rest (byte ∷ text) =
    by_blank (filter is_word (after (drop (prefix_len in_word (byte ∷ text)) (byte ∷ text)))
    ≡ words (drop (prefix_len in_word (byte ∷ text)) (byte ∷ text))) byte (is_blank byte) refl
    (λ is. ap (λ n. filter is_word (after (drop n (byte ∷ text)))) (word-none byte text is) ∙ words-past byte text is
    ∙ ap (λ n. words (drop n (byte ∷ text))) (sym (word-none byte text is)))
    (λ is. ap (λ n. filter is_word (after (drop n (byte ∷ text)))) (word-more byte text is) ∙ words-rest text
    ∙ ap (λ n. words (drop n (byte ∷ text))) (sym (word-more byte text is)))

-- the first word of a text that begins with no blank
pub words-first : (text : List ℕ) → starts_blank text ≡ false → 0 < length text
    → words text ≡ take (prefix_len in_word text) text ∷ words (drop (prefix_len in_word text) text)
words-first [] begun some = absurd (omega arith)
words-first (byte ∷ text) begun some =
    ap (filter is_word) (pieces-first (byte ∷ text))
    ∙ kept_first byte text (word-more byte text begun)
    ∙ ap (λ ws. take (prefix_len in_word (byte ∷ text)) (byte ∷ text) ∷ ws) (words-rest (byte ∷ text))

pub some_bytes : (text : List ℕ) (empty : Bool) → empty ≡ (length text == 0) → empty ≡ false → 0 < length text
some_bytes [] empty is not_empty = cc
some_bytes (byte ∷ text) empty is not_empty = omega arith

-- the first word of a text that begins with no blank has a byte
pub word-some : (text : List ℕ) → starts_blank text ≡ false → 0 < length text → 0 < prefix_len in_word text
word-some [] begun some = absurd (omega arith)
word-some (byte ∷ text) begun some = rw (word-more byte text begun) (omega arith)
