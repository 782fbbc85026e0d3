-- The numbers that a user sees. Profile.
use Rattle.std.specs.Prelude.{ℕ}

-- the most bytes of an input: its first line, a session document and a transcript
abbrev pub audit_bytes : ℕ
audit_bytes = 134217728

-- the most digits of the first line
abbrev pub length_digits : ℕ
length_digits = 8
