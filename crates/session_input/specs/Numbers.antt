-- The numbers that a user sees. Profile.
use Rattle.std.specs.Prelude.{ℕ}

-- the most bytes of a session document
abbrev pub document_bytes : ℕ
document_bytes = 16777216
