-- A document whose key is taken out and read by itself. Profile.
use Rattle.std.specs.Prelude.{ℕ, List, if◌then◌else◌}
use Rattle.toml.specs.Data.{Members, no_members, member, same_key}

-- the members under other keys, as they stand
abbrev pub without : List ℕ → Members → Members
without key no_members = no_members
without key (member name value ms) =
    if same_key key name then without key ms else member name value (without key ms)
