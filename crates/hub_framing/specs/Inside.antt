-- How the code looks at the front of bytes. No public contract cites these.
use Rattle.std.specs.Prelude.{◌≡◌, ℕ, ◌+◌, ◌<◌, ◌≤◌, List, length}
use Rattle.hub_framing.specs.Frames.{least_length, greatest_length, length_field}

-- The first so many bytes, and no fewer, are a whole frame.
pub record IsWhole (count : ℕ) (bytes : List ℕ) : Type 0 where
  pub field : 4 ≤ length bytes
  pub least : least_length ≤ length_field bytes
  pub greatest : length_field bytes ≤ greatest_length
  pub counted : count ≡ 4 + length_field bytes
  pub within : count ≤ length bytes

-- No whole frame is at the front.
abbrev pub IsRest : List ℕ → Type 0
IsRest bytes = 4 ≤ length bytes → least_length ≤ length_field bytes → length_field bytes ≤ greatest_length
    → length bytes < 4 + length_field bytes
