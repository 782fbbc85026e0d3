use Rattle.std.proofs.Common.{◌≡◌, drop}
use Rattle.script_lang.specs.Operations.{board_from}
use Rattle.script_lang.proofs.compile.board_at.Given as goal

-- it stands among the boards that are left
abbrev pub invariant-loop-i : goal.invariant-loop-i
invariant-loop-i l = board_from l.i l.name (drop l.i l.boards) ≡ board_from 0 l.name l.boards
