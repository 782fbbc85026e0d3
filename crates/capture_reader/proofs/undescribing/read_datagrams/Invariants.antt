use Rattle.std.proofs.Common.{◌≡◌, ◌++◌, length}
use Rattle.capture_reader.specs.CaptureText.{AreItems}
use Rattle.ipb_base.specs.Fronts.{all_of}
use Rattle.capture_reader.specs.Parsing.{datagram_at}
use Rattle.capture_reader.proofs.undescribing.read_datagrams.Given as goal

-- the datagrams so far, and those of the text that is left
abbrev pub invariant-datagrams : goal.invariant-datagrams
invariant-datagrams l = record {
  ranges : AreItems l.items.items;
  read : l.items.items ++ (all_of datagram_at l.rest).0 ≡ (all_of datagram_at l.text).0;
}

abbrev pub decreases-datagrams : goal.decreases-datagrams
decreases-datagrams l = length l.rest
