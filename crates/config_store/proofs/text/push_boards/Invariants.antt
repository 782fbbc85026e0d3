use Rattle.std.proofs.Common.{◌≡◌, ◌++◌, drop, string_bytes}
use Rattle.config_store.specs.Text as spec
use Rattle.config_store.proofs.text.push_boards.Given as goal

-- the text so far, and the boards that are left
abbrev pub invariant-loop-board : goal.invariant-loop-board
invariant-loop-board l =
    string_bytes l.text ++ spec.state_text (drop l.board-index l.boards) l.lines
    ≡ string_bytes l.fn.text ++ spec.state_text l.boards l.lines
