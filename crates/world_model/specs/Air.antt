-- The air between a hub and a board: every datagram ever sent, in order. What is lost is never heard, what is repeated
-- is heard again, and what is late is heard after others. Profile: how long a datagram may be under way.
use Rattle.std.specs.Prelude.{ℕ, ◌-◌, nat_le, Bool, true, false}
use Rattle.world_model.specs.declared.datagram.Datagram.{Datagram}
use Rattle.world_model.specs.declared.datagram.Direction.{Direction}
use Rattle.world_model.specs.declared.datagram.Direction.TheVariants.{ToBoard, ToHub}

-- the most further first sends to the board after which a datagram may still be heard
abbrev pub LIFETIME : ℕ
LIFETIME = 32768

-- a datagram that may be heard where there are `sent` first sends
abbrev pub is_alive : ℕ → Datagram → Bool
is_alive sent datagram = nat_le (sent - datagram.birth) LIFETIME

abbrev pub goes_to : Direction → Direction → Bool
goes_to ToBoard ToBoard = true
goes_to ToBoard ToHub = false
goes_to ToHub ToBoard = false
goes_to ToHub ToHub = true

-- a datagram that the hub sent
abbrev pub is_for_board : Datagram → Bool
is_for_board datagram = goes_to ToBoard datagram.direction
