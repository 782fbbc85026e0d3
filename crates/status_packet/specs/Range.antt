-- What a board may tell of itself. Profile.
use Rattle.std.specs.Prelude.{ℕ, ◌≤◌}
use Rattle.ipb_base.specs.Numbers.{least_mtu, greatest_mtu}

-- an MTU in bytes
abbrev pub IsMtu : ℕ → Type 0
IsMtu n = (least_mtu ≤ n) × (n ≤ greatest_mtu)

-- the most response buffers of a board
abbrev pub most_buffers : ℕ
most_buffers = 64

-- a number of response buffers
abbrev pub IsBufferCount : ℕ → Type 0
IsBufferCount n = (1 ≤ n) × (n ≤ most_buffers)
