-- How long the rest of a run takes. Profile.
use Rattle.std.specs.Prelude.{ℕ, ◌*◌, ◌/◌, ◌==◌, ◌^◌, nat_lt, if◌then◌else◌, Option, Some, None}

-- How long so many things take of which so many took so long: none where none is done, and where 64 bits cannot say the
-- product.
abbrev pub rest_of : ℕ → ℕ → ℕ → Option ℕ
rest_of left done took =
    if done == 0 then None else if nat_lt (left * took) (2 ^ 64) then Some (left * took / done) else None
