-- The exit statuses that a user of the program sees. Profile.
use Rattle.std.specs.Prelude.{◌≡◌, ◌⊎◌, ℕ, Bool, if◌then◌else◌}

-- The text is whole, and all that it tells went well: no operation failed or was denied, no registers overlap, and no
-- connection was ended otherwise than by its client, behind a whole frame.
abbrev pub done_status : ℕ
done_status = 0

-- the text is whole, and some line tells otherwise
abbrev pub not_all_done_status : ℕ
not_all_done_status = 1

-- the words are no command
abbrev pub usage_status : ℕ
usage_status = 2

-- the input was refused
abbrev pub refused_status : ℕ
refused_status = 3

-- the input could not be read
abbrev pub read_fault_status : ℕ
read_fault_status = 4

-- the output could not be written
abbrev pub write_fault_status : ℕ
write_fault_status = 5

-- memory ran out
abbrev pub no_memory_status : ℕ
no_memory_status = 6

-- a link could not be made
abbrev pub rack_fault_status : ℕ
rack_fault_status = 7

-- a port could not be listened to, or a connection not be accepted
abbrev pub door_fault_status : ℕ
door_fault_status = 8

-- those with which the text that the input deserves was written whole
abbrev pub IsDoneStatus : ℕ → Type 0
IsDoneStatus status = (status ≡ done_status) ⊎ (status ≡ not_all_done_status)

-- 0 where all that a text tells went well
abbrev pub told_status : Bool → ℕ
told_status all = if all then done_status else not_all_done_status
