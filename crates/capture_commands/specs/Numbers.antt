-- The numbers that a user sees. Profile.
use Rattle.std.specs.Prelude.{ℕ}

-- the most bytes of the text of a capture, and of a description
abbrev pub capture_bytes : ℕ
capture_bytes = 134217728
