use Rattle.std.proofs.Common.{subst, refl}
use Rattle.std.proofs.lemmas.List.{take_all}
use Rattle.node_tree.specs.Named.{named_entries}
use Rattle.node_tree.specs.OverlapSearch.{IsNoted}
use Rattle.node_tree.proofs.NotingLemmas.{noted-none, noted-more}
use Rattle.node_tree.proofs.overlapping.noting.note_each.Goals as goal

pub loop-place-init : goal.loop-place-init
loop-place-init c = noted-none (named_entries c.args.entries.now) c.args.firsts.now c.args.later

pub loop-place-preserved : goal.loop-place-preserved
loop-place-preserved c =
    noted-more (named_entries c.args.entries.now) c.args.firsts.now c.loop-place.firsts c.note.new.firsts c.args.earlier.now
    c.loop-place.place-index c.args.later _ c.loop-place-test.true refl
    c.loop-place.invariant c.note.ensures.lowers c.note.ensures.settled

pub returns : goal.returns
returns c =
    subst (λ places. IsNoted (named_entries c.args.entries.now) c.args.firsts.now c.loop-place.firsts places c.args.later)
    (take_all c.loop-place.place-index c.args.earlier.now c.loop-place-test.false) c.loop-place.invariant
