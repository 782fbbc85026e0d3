use Rattle.std.proofs.Common.{take, drop}
use Rattle.std.specs.List.{AllByRecursion}
use Rattle.script_steps.specs.Packing.{CanBePacked}
use Rattle.transcript_reader.specs.Walks.{AreClients}
use Rattle.transcript_reader.proofs.reading.Reader.read_clients.Given as goal

-- the lines of the clients so far were read
abbrev pub invariant-loop-i : goal.invariant-loop-i
invariant-loop-i l = record {
  progress : AreClients l.session.boards.now l.session.told.now (take l.i l.scripts) l.fn.self l.self l.clients.items;
  packed : AllByRecursion (AllByRecursion CanBePacked) (drop l.i l.scripts);
}
