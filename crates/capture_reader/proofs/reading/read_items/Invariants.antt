use Rattle.std.proofs.Common.{◌≡◌, ◌++◌, length}
use Rattle.capture_reader.specs.CaptureText.{AreItems, items_text}
use Rattle.capture_reader.proofs.reading.read_items.Given as goal

-- the datagrams so far, and the text that is left
abbrev pub invariant-loop-rest : goal.invariant-loop-rest
invariant-loop-rest l = record {
  ranges : AreItems l.items.items;
  parts : l.text ≡ items_text l.items.items ++ l.rest;
}

abbrev pub decreases-loop-rest : goal.decreases-loop-rest
decreases-loop-rest l = length l.rest
