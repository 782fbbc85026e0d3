use Rattle.std.proofs.Common.{◌≡◌, ◌++◌, string_bytes, drop}
use Rattle.script_lang.specs.Paths.{tail}
use Rattle.script_lang.proofs.steps.push_tail.Given as goal

-- the text so far and the steps that are left
abbrev pub invariant-loop-step : goal.invariant-loop-step
invariant-loop-step l =
    string_bytes l.text ++ tail (drop l.step-index l.steps) ≡ string_bytes l.initial.text ++ tail l.steps
