use Rattle.std.proofs.Common.{◌≡◌, ◌+◌, length, take, drop}
use Rattle.std.specs.List.{AllByRecursion}
use Rattle.script_steps.specs.Packing.{CanBePacked}
use Rattle.script_steps.specs.Rulings.{asked_operations}
use Rattle.transcript_reader.specs.Walks.{AreOperations}
use Rattle.transcript_reader.proofs.reading.Reader.read_operations.Given as goal

-- the operations of the steps so far were read
abbrev pub invariant-loop-step : goal.invariant-loop-step
invariant-loop-step l = record {
  progress : AreOperations l.session.boards.now l.session.told.now (asked_operations (take l.step-index l.steps)) l.fn.self l.self
      l.shows.items;
  numbered : l.number ≡ 1 + length (asked_operations (take l.step-index l.steps));
  packed : AllByRecursion CanBePacked (drop l.step-index l.steps);
}
