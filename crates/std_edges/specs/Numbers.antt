-- Numbers of the real outside that a user or a board meets. Profile.
use Rattle.std.specs.Prelude.{ℕ, ◌*◌, max}

-- so many datagrams from elsewhere, signals and errors that pass end one receive
abbrev pub most_from_elsewhere : ℕ
most_from_elsewhere = 64

-- after so many quiet receives in a row a board counts as silent
abbrev pub silent_after : ℕ
silent_after = 2

-- how many nanoseconds a receive waits that is to wait for so many milliseconds: the machine refuses a wait of 0, so
-- that is one of 1
abbrev pub wait_nanos : ℕ → ℕ
wait_nanos milliseconds = max 1 milliseconds * 1_000_000
