-- Numbers of 32 bits in a text, in decimal or hexadecimal digits. Profile.
use Rattle.std.specs.Prelude.{ℕ, ◌+◌, ◌-◌, ◌*◌, ◌^◌, Bool, ◌&&◌, nat_lt, nat_le, nat_eq}
use Rattle.std.specs.Prelude.{if◌then◌else◌, List, [], ◌∷◌, length, drop, codes, Option, Some, None}
use Rattle.std.specs.List.{list_all, starts_with}

abbrev pub is_between : ℕ → ℕ → ℕ → Bool
is_between low high n = nat_le low n && nat_le n high

-- the value of a digit's byte, of either case; 16 for a byte that is no digit in either base
unfoldable pub digit_value : ℕ → ℕ
digit_value byte =
    if is_between 48 57 byte then byte - 48
    else if is_between 97 102 byte then byte - 87
    else if is_between 65 70 byte then byte - 55
    else 16

-- each byte is a digit of the base
abbrev pub are_digits : ℕ → List ℕ → Bool
are_digits base text = list_all (λ byte. nat_lt (digit_value byte) base) text

-- what digits stand for in a base: each one counts as the power of the base with as many factors as digits follow
abbrev pub value_of_digits : ℕ → List ℕ → ℕ
value_of_digits base [] = 0
value_of_digits base (byte ∷ rest) = digit_value byte * base ^ length rest + value_of_digits base rest

-- a number, if it has 32 bits
abbrev pub word : ℕ → Option ℕ
word n = if nat_lt n (2 ^ 32) then Some n else None

-- the number of 32 bits that digits of a base stand for
abbrev pub digits_in_base : ℕ → List ℕ → Option ℕ
digits_in_base base text = if are_digits base text then word (value_of_digits base text) else None

-- the same, of 1 to `most` digits
abbrev pub digits_number : ℕ → ℕ → List ℕ → Option ℕ
digits_number base most text = if is_between 1 most (length text) then digits_in_base base text else None

-- `0x` and 1 to 8 hexadecimal digits, or 1 to 10 decimal digits
abbrev pub number_in_text : List ℕ → Option ℕ
number_in_text text =
    if starts_with nat_eq text (codes "0x") then digits_number 16 8 (drop 2 text) else digits_number 10 10 text
