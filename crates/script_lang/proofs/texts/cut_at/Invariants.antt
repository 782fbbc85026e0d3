use Rattle.std.proofs.Common.{◌≡◌, take, drop}
use Rattle.script_lang.specs.Texts.{cut_at}
use Rattle.script_lang.proofs.Cuts.{behind}
use Rattle.script_lang.proofs.texts.cut_at.Given as goal

-- the bytes so far are before the cut
abbrev pub invariant-loop-i : goal.invariant-loop-i
invariant-loop-i l = behind (take l.i l.text) (cut_at l.cut (drop l.i l.text)) ≡ cut_at l.cut l.text
