-- The rules that the texts of a session document keep. Profile.
use Rattle.std.specs.Prelude.{ℕ, Bool, true, false, ◌&&◌, ◌||◌, ◌==◌, not, if◌then◌else◌, List, [], ◌∷◌, length, codes}
use Rattle.std.specs.Prelude.{Option, Some, None, is_some, option_map}
use Rattle.std.specs.List.{list_all}
use Rattle.address_table.specs.Kinds.{is_one_of}
use Rattle.ipb_base.specs.Digits.{is_between, number_in_text}
use Rattle.address_table.specs.Rules.{is_id}
use Rattle.std.specs.Str.{bytes_eq}
use Rattle.ipb_base.specs.Numbers.{greatest_port}
use Rattle.board_bus.specs.declared.kind.RangeKind.{RangeKind}
use Rattle.board_bus.specs.declared.kind.RangeKind.TheVariants.{Rw, Ro, Wo, Slow}
use Rattle.script_lang.specs.declared.keys.TextRule.{TextRule}
use Rattle.script_lang.specs.declared.keys.TextRule.TheVariants.{Any, Id, Link, RangeWord, Fates, Endpoint}

-- the value, if the test holds of it
abbrev pub checked_value : {A : Type 0} → (A → Bool) → Option A → Option A
checked_value test None = None
checked_value test (Some x) = if test x then Some x else None

-- `d`, `l`, `r`, or `1` to `9`
abbrev pub is_fate : ℕ → Bool
is_fate byte = (byte == 100 || (byte == 108 || byte == 114)) || is_between 49 57 byte

abbrev pub is_digit : ℕ → Bool
is_digit byte = is_between 48 57 byte

-- decimal digits, without a leading zero
abbrev pub is_decimal : List ℕ → Bool
is_decimal [] = false
is_decimal (byte ∷ rest) = (is_digit byte && list_all is_digit rest) && (not (byte == 48) || length rest == 0)

-- the number from `least` to `most` that such digits write
abbrev pub decimal_between : ℕ → ℕ → List ℕ → Option ℕ
decimal_between least most text =
    if is_decimal text then checked_value (is_between least most) (number_in_text text) else None

-- what stands before and after the first such byte
abbrev pub cut_at : ℕ → List ℕ → Option (List ℕ × List ℕ)
cut_at cut [] = None
cut_at cut (byte ∷ rest) =
    if byte == cut then Some ([], rest) else option_map (λ parts. (byte ∷ parts.0, parts.1)) (cut_at cut rest)

infixl 10 ◌>>=◌
abbrev pub ◌>>=◌ : {A B : Type 0} → Option A → (A → Option B) → Option B
None >>= f = None
(Some x) >>= f = f x

-- `A.B.C.D:PORT`: the four bytes of an IPv4 address and a port, all decimal.
unfoldable pub endpoint : List ℕ → Option (List ℕ × ℕ)
endpoint text = do
  parts ← cut_at 58 text
  first ← cut_at 46 parts.0
  second ← cut_at 46 first.1
  third ← cut_at 46 second.1
  a ← decimal_between 0 255 first.0
  b ← decimal_between 0 255 second.0
  c ← decimal_between 0 255 third.0
  d ← decimal_between 0 255 third.1
  port ← decimal_between 1 greatest_port parts.1
  Some (a ∷ b ∷ c ∷ d ∷ [], port)

-- the kinds of ranges
abbrev pub range_kind_named : List ℕ → Option RangeKind
range_kind_named word =
    if bytes_eq word (codes "rw") then Some Rw
    else if bytes_eq word (codes "ro") then Some Ro
    else if bytes_eq word (codes "wo") then Some Wo
    else if bytes_eq word (codes "slow") then Some Slow
    else None

-- a text keeps its rule
abbrev pub keeps : TextRule → List ℕ → Bool
keeps Any text = true
keeps Id text = is_id text
keeps Link text = is_one_of (codes "sim" ∷ codes "udp" ∷ []) text
keeps RangeWord text = is_some (range_kind_named text)
keeps Fates text = list_all is_fate text
keeps Endpoint text = is_some (endpoint text)
