use Rattle.std.proofs.Common.{◌≡◌, ℕ, ◌-◌, ◌^◌, List, [], ◌++◌, length, arith, false, replicate, append-nil}
use Rattle.std.specs.Fmt.{padded_integral, format_spec, char_count}

-- what `{:08x}` writes of the digits of a number
pub eight_digits : (xs : List ℕ)
    → padded_integral (format_spec 32 0 4 8 (2 ^ 64 - 1)) false [] xs ≡ replicate (8 - length xs) 48 ++ xs
unfolding padded_integral char_count
eight_digits xs = let e : 8 - length xs - 0 - 0 ≡ 8 - length xs = omega arith in rw (e, append-nil)
