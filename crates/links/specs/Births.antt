-- How many first sends there were when a datagram was sent.
use Rattle.std.specs.Prelude.{ℕ, ◌+◌, List, if◌then◌else◌}
use Rattle.world_model.specs.declared.datagram.Direction.TheVariants.{ToBoard}
use Rattle.world_model.specs.Links.{is_first_send}

-- the number of first sends after a datagram for the board
abbrev pub birth_after : ℕ → ℕ → List ℕ → ℕ
birth_after first count bytes = if is_first_send first count ToBoard bytes then count + 1 else count
