use Rattle.std.proofs.Common.{map, take}
use Rattle.std.specs.List.{AllByRecursion}
use Rattle.run_audit.specs.Steps.{asking}
use Rattle.run_audit.specs.Unreplayed.{AgreesBy}
use Rattle.run_audit.proofs.unreplayed.first_unreplayed.Given as goal

-- the lines so far agree with what their operations came to
abbrev pub invariant-loop-ask : goal.invariant-loop-ask
invariant-loop-ask l =
    AllByRecursion (AgreesBy l.session.settings.rounds l.runs) (take l.ask-index (map asking l.asked))
