-- The limits of a configuration. Profile.
use Rattle.std.specs.Prelude.{ℕ}

-- the most registers that the boards of a session keep together: as many writes and as many reads are the most
-- operations of a session
abbrev pub most_kept : ℕ
most_kept = 50000
