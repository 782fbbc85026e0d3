-- The names of a session's boards. Profile.
use Rattle.std.specs.Prelude.{◌≢◌, List}
use Rattle.std.specs.List.{AllPairs}
use Rattle.board_specs.specs.declared.spec.BoardSpec.{BoardSpec}

-- no two boards have one name
abbrev pub HaveOwnNames : List BoardSpec → Type 0
HaveOwnNames boards = AllPairs (λ (one other : BoardSpec). one.name ≢ other.name) boards
