use Rattle.std.proofs.Common.{arith}
use Rattle.node_tree.proofs.OverlapLemmas.{plain}
use Rattle.node_tree.proofs.NotingLemmas.{get-plain}
use Rattle.node_tree.proofs.overlapping.events.begins_with.Goals as goal

pub returns : goal.returns
returns c = record {
  one = plain c.index-entries-later.result;
  other = plain c.index-entries-earlier.result;
  one_there =
      get-plain c.args.entries.now c.args.later c.index-entries-later.result c.requires.within c.index-entries-later.is;
  other_there =
      get-plain c.args.entries.now c.args.earlier c.index-entries-earlier.result
      (omega arith) c.index-entries-earlier.is;
  is = c.name_begins_with.ensures;
}
