use Rattle.std.proofs.Common.{◌≡◌, ◌+◌, drop, not}
use Rattle.std.specs.List.{prefix_len}
use Rattle.script_lang.specs.Lines.{is_blank}
use Rattle.script_lang.proofs.line.word_len.Given as goal

abbrev pub invariant-loop-i : goal.invariant-loop-i
invariant-loop-i l =
    l.i + prefix_len (λ byte. not (is_blank byte)) (drop l.i l.text) ≡ prefix_len (λ byte. not (is_blank byte)) l.text
