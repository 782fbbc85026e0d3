-- Cutting a text at the first of a byte, one byte after the other.
use Rattle.std.proofs.Common.{◌≡◌, ℕ, ◌+◌, ◌<◌, ◌==◌, List, [], ◌∷◌, ◌++◌, length, take, drop, suc, Bool, true}
use Rattle.std.proofs.Common.{false, Option, Some, None, option_map, Bor, refl, ap, sym, subst, arith, ◌∙◌}
use Rattle.std.specs.List.{position_or_len, before_first, after_first}
use Rattle.std.specs.Option.{MatchOption}
use Rattle.std.proofs.lemmas.List.{append_assoc}
use Rattle.script_lang.specs.Texts.{cut_at}

-- the parts of what follows some bytes without the cut
abbrev pub behind : List ℕ → Option (List ℕ × List ℕ) → Option (List ℕ × List ℕ)
behind front parts = option_map (λ p. (front ++ p.0, p.1)) parts

one_longer : (front : List ℕ) (byte : ℕ) (parts : Option (List ℕ × List ℕ))
    → behind front (option_map (λ p. (byte ∷ p.0, p.1)) parts) ≡ behind (front ++ byte ∷ []) parts
one_longer front byte None = refl
one_longer front byte (Some parts) = ap (λ xs. Some (xs, parts.1)) (sym (append_assoc front (byte ∷ []) parts.0))

position-more : (cut byte : ℕ) (text : List ℕ) → (byte == cut) ≡ false
    → position_or_len (λ b. b == cut) (byte ∷ text) ≡ suc (position_or_len (λ b. b == cut) text)
position-more cut byte text other = rw other (omega arith)

position-here : (cut byte : ℕ) (text : List ℕ) → (byte == cut) ≡ true
    → position_or_len (λ b. b == cut) (byte ∷ text) ≡ 0
position-here cut byte text same = rw same refl

by_test : (P : Type 0) (test b : Bool) → test ≡ b → (test ≡ true → P) → (test ≡ false → P) → P
by_test P test true is here other = here is
by_test P test false is here other = other is

-- a text without the byte is not cut
cut_none : (cut : ℕ) (text : List ℕ) → position_or_len (λ b. b == cut) text ≡ length text → cut_at cut text ≡ None
cut_none cut [] h = refl
cut_none cut (byte ∷ text) h =
    by_test (cut_at cut (byte ∷ text) ≡ None) (byte == cut) (byte == cut) refl
    (λ same. let bad : 0 ≡ suc (length text) = sym (position-here cut byte text same) ∙ h in absurd (omega arith))
    (λ other.
    let moved : suc (position_or_len (λ b. b == cut) text) ≡ suc (length text) =
    sym (position-more cut byte text other) ∙ h in
    rw (other, cut_none cut text (omega arith)) refl)

here-cut : (cut byte : ℕ) (text : List ℕ) → (byte == cut) ≡ true
    → cut_at cut (byte ∷ text)
    ≡ Some (before_first (λ b. b == cut) (byte ∷ text), after_first (λ b. b == cut) (byte ∷ text))
here-cut cut byte text same =
    rw same refl ∙ ap (λ n. Some (take n (byte ∷ text), drop (n + 1) (byte ∷ text)))
    (sym (position-here cut byte text same))

later-cut : (cut byte : ℕ) (text : List ℕ) → (byte == cut) ≡ false
    → cut_at cut text ≡ Some (before_first (λ b. b == cut) text, after_first (λ b. b == cut) text)
    → cut_at cut (byte ∷ text)
    ≡ Some (before_first (λ b. b == cut) (byte ∷ text), after_first (λ b. b == cut) (byte ∷ text))
later-cut cut byte text other parts =
    let n = position_or_len (λ b. b == cut) text in
    let moved : suc (n + 1) ≡ suc n + 1 = omega arith in
    rw (other, parts) (ap (λ k. Some (byte ∷ take n text, drop k (byte ∷ text))) moved)
    ∙ ap (λ n. Some (take n (byte ∷ text), drop (n + 1) (byte ∷ text))) (sym (position-more cut byte text other))

-- the parts of a text round the first such byte
cut_some : (cut : ℕ) (text : List ℕ) → position_or_len (λ b. b == cut) text < length text
    → cut_at cut text ≡ Some (before_first (λ b. b == cut) text, after_first (λ b. b == cut) text)
cut_some cut [] h = absurd (omega arith)
cut_some cut (byte ∷ text) h =
    by_test (cut_at cut (byte ∷ text)
    ≡ Some (before_first (λ b. b == cut) (byte ∷ text), after_first (λ b. b == cut) (byte ∷ text))) (byte == cut)
    (byte == cut) refl
    (λ same. here-cut cut byte text same)
    (λ other.
    let moved : suc (position_or_len (λ b. b == cut) text) < suc (length text) =
    subst (λ n. n < suc (length text)) (position-more cut byte text other) h in
    later-cut cut byte text other (cut_some cut text (omega arith)))

-- what `split_once` gives at a byte below 128
pub cut_as : (cut : ℕ) (text : List ℕ) (r : Option (Bor (List ℕ) × Bor (List ℕ)))
    → MatchOption r (position_or_len (λ b. b == cut) text ≡ length text)
    (λ x. (position_or_len (λ b. b == cut) text < length text) × (x.0.now ≡ before_first (λ b. b == cut) text)
    × (x.1.now ≡ after_first (λ b. b == cut) text))
    → option_map (λ names. (names.0.now, names.1.now)) r ≡ cut_at cut text
cut_as cut text None h = sym (cut_none cut text h)
cut_as cut text (Some x) h = rw (h.1, h.2) (sym (cut_some cut text h.0))
