use Rattle.std.proofs.Common.{◌≤◌, drop}
use Rattle.capture_reader.proofs.Places.{Walk}
use Rattle.capture_reader.proofs.executed.proved.Given as goal

-- what the datagrams so far prove, and what those that are left do
abbrev pub invariant-loop-item : goal.invariant-loop-item
invariant-loop-item l = record {
  few : l.sent ≤ l.item-index;
  walk : Walk l.capture.first l.capture.items l.sent l.place (drop l.item-index l.capture.items);
}
