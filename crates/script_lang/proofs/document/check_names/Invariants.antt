use Rattle.std.proofs.Common.{◌≡◌, [], take, drop}
use Rattle.script_lang.specs.Document.{duplicates}
use Rattle.script_lang.proofs.document.check_names.Given as goal

-- the faults are those of the boards that are left
abbrev pub invariant-loop-i : goal.invariant-loop-i
invariant-loop-i l = duplicates (take l.i l.boards) l.i (drop l.i l.boards) ≡ duplicates [] 0 l.boards
