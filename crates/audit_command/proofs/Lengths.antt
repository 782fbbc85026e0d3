-- The first line of an input and the number that it tells.
use Rattle.std.proofs.Common.{◌≡◌, ◌∙◌, ◌≤◌, ◌<◌, ◌==◌, ℕ, ◌+◌, Bool, true, false, ◌&&◌, cond, List, [], ◌∷◌, ◌++◌}
use Rattle.std.proofs.Common.{length, drop, take, Some, None, nat_lt, refl, sym, ap, subst, arith, inl, inr, ◌-◌, get_or, length-append}
use Rattle.std.proofs.Math.Seq.{drop-append_seam, take-append_seam, drop-append-add}
use Rattle.std.proofs.lemmas.Bool.Decides.{eqb_tells}
use Rattle.std.proofs.lemmas.List.{drop_more, length-drop, take_all, take-append-drop}
use Rattle.std.proofs.lemmas.Option.{same_Some}
use Rattle.std.specs.List.{position_from}
use Rattle.ipb_base.specs.Digits.{are_digits, digit_value, digits_number}
use Rattle.session_input.specs.Numbers.{document_bytes}
use Rattle.audit_command.specs.Input.{HasLength, HasNoParts, HasParts, IsTooLong}
use Rattle.audit_command.specs.Numbers.{audit_bytes, length_digits}
use Rattle.audit_command.proofs.Digits.{has_digits}

abbrev pub ends : ℕ → Bool
ends byte = byte == 10

both : (a b : Bool) → (a && b) ≡ true → (a ≡ true) × (b ≡ true)
both true b all = (refl, all)
both false b all = absurd cc

-- a line feed is no digit
apart : (byte : ℕ) → nat_lt (digit_value byte) 10 ≡ true → ends byte ≡ false
unfolding digit_value
apart byte digit = elim (eqb_tells byte 10) [
  | inl p ↦
      let no : nat_lt (digit_value 10) 10 ≡ true = subst (λ n. nat_lt (digit_value n) 10 ≡ true) p.1 digit in
      absurd cc
  | inr p ↦ p.0
]

-- behind digits the first line feed is found
pub end_of : (line rest : List ℕ) (at : ℕ) → are_digits 10 line ≡ true
    → position_from ends at (line ++ (10 ∷ rest)) ≡ Some (at + length line)
end_of [] rest at digits = ap (λ (n : ℕ). Some n) (omega arith)
end_of (byte ∷ line) rest at digits =
    let parts = both (nat_lt (digit_value byte) 10) (are_digits 10 line) digits in
    ap (λ b. cond b (Some at) (position_from ends (at + 1) (line ++ (10 ∷ rest)))) (apart byte parts.0)
    ∙ (end_of line rest (at + 1) parts.1 ∙ ap (λ (n : ℕ). Some n) (omega arith))

-- so an input has one first line of digits
pub end_is : (bytes : List ℕ) (number : ℕ) (rest : List ℕ) (has : HasLength bytes number rest)
    → position_from ends 0 bytes ≡ Some (length has.line)
end_is bytes number rest has =
    ap (position_from ends 0) has.whole
    ∙ (end_of has.line rest 0 (has_digits has.line number has.told) ∙ ap (λ (n : ℕ). Some n) (omega arith))

pub line_is : (bytes : List ℕ) (number : ℕ) (rest : List ℕ) (has : HasLength bytes number rest) (end : ℕ)
    → position_from ends 0 bytes ≡ Some end → (has.line ≡ take end bytes) × (rest ≡ drop (end + 1) bytes)
line_is bytes number rest has end is =
    let same : length has.line ≡ end = same_Some (length has.line) end (sym (end_is bytes number rest has) ∙ is) in (
      sym (subst (λ n. take n bytes ≡ has.line) same
          (ap (take (length has.line)) has.whole ∙ take-append_seam has.line (10 ∷ rest))),
      sym (subst (λ n. drop (n + 1) bytes ≡ rest) same
          (ap (drop (length has.line + 1)) has.whole ∙ drop-append-add has.line (10 ∷ rest) 1)),
    )

pub no_line : (bytes : List ℕ) (number : ℕ) (rest : List ℕ) → position_from ends 0 bytes ≡ None
    → HasLength bytes number rest → ⊥
no_line bytes number rest none has = let is = end_is bytes number rest has in cc

-- and that line tells one number
pub told_by : (bytes : List ℕ) (number : ℕ) (rest : List ℕ) (has : HasLength bytes number rest) (end : ℕ)
    → position_from ends 0 bytes ≡ Some end → digits_number 10 length_digits (take end bytes) ≡ Some number
told_by bytes number rest has end is =
    subst (λ line. digits_number 10 length_digits line ≡ Some number) (line_is bytes number rest has end is).0 has.told

pub no_number : (bytes : List ℕ) (number : ℕ) (rest : List ℕ) (end : ℕ) → position_from ends 0 bytes ≡ Some end
    → digits_number 10 length_digits (take end bytes) ≡ None → HasLength bytes number rest → ⊥
no_number bytes number rest end is none has = let told = told_by bytes number rest has end is in cc

pub one_length : (bytes : List ℕ) (number other : ℕ) (rest more : List ℕ) → HasLength bytes number rest
    → HasLength bytes other more → (number ≡ other) × (rest ≡ more)
one_length bytes number other rest more has also =
    let end = length has.line in
    let is = end_is bytes number rest has in (
      same_Some number other (sym (told_by bytes number rest has end is) ∙ told_by bytes other more also end is),
      (line_is bytes number rest has end is).1 ∙ sym (line_is bytes other more also end is).1,
    )

-- the bytes behind a line, as a slice has them
pub behind : (n : ℕ) (xs : List ℕ) → take (length xs - n) (drop n xs) ≡ drop n xs
behind n xs =
    ap (λ m. take m (drop n xs)) (sym (length-drop n xs))
    ∙ take_all (length (drop n xs)) (drop n xs) (omega arith)

-- what is told of an input by its first line
pub not_long : (bytes : List ℕ) → length bytes ≤ audit_bytes
    → ((number : ℕ) (rest : List ℕ) → HasLength bytes number rest → number ≤ document_bytes) → IsTooLong bytes → ⊥
not_long bytes fits small (inl many) = omega (arith, fits, many)
not_long bytes fits small (inr tells) =
    let few = small tells.number tells.rest tells.line in
    let more = tells.more in omega (arith, few, more)

pub small_of : (bytes : List ℕ) (number : ℕ) (rest : List ℕ) → HasLength bytes number rest → number ≤ document_bytes
    → (other : ℕ) (more : List ℕ) → HasLength bytes other more → other ≤ document_bytes
small_of bytes number rest has few other more also =
    subst (λ n. n ≤ document_bytes) (one_length bytes number other rest more has also).0 few

pub too_few : (bytes : List ℕ) (number : ℕ) (rest : List ℕ) → HasLength bytes number rest → length rest < number
    → HasNoParts bytes
too_few bytes number rest has fewer document transcript parts =
    let same = one_length bytes number (length document) rest (document ++ transcript) has parts in
    let whole : length rest ≡ length document + length transcript =
    ap length same.1 ∙ length-append document transcript in
    let told = same.0 in omega (arith, fewer, whole, told)

pub one_parts : (bytes document transcript other more : List ℕ) → HasParts bytes document transcript
    → HasParts bytes other more → (document ≡ other) × (transcript ≡ more)
one_parts bytes document transcript other more has also =
    let same = one_length bytes (length document) (length other) (document ++ transcript) (other ++ more) has also in (
      sym (take-append_seam document transcript)
          ∙ (ap (take (length document)) same.1
          ∙ (ap (λ n. take n (other ++ more)) same.0 ∙ take-append_seam other more)),
      sym (drop-append_seam document transcript)
          ∙ (ap (drop (length document)) same.1
          ∙ (ap (λ n. drop n (other ++ more)) same.0 ∙ drop-append_seam other more)),
    )

-- a line that ends with a line feed, and tells a number
pub has_length : (bytes : List ℕ) (end number : ℕ) → end < length bytes → get_or bytes end 0 ≡ 10
    → digits_number 10 length_digits (take end bytes) ≡ Some number → HasLength bytes number (drop (end + 1) bytes)
has_length bytes end number within feed told = record {
  line = take end bytes;
  whole = sym (take-append-drop end bytes)
      ∙ ap (λ t. take end bytes ++ t)
      (drop_more bytes end 0 within ∙ ap (λ byte. byte ∷ drop (end + 1) bytes) feed);
  told = told;
}
