use Rattle.std.proofs.Common.{length, sym, ◌∙◌, arith}
use Rattle.std.proofs.lemmas.Result.{IfOk-weaker}
use Rattle.node_tree.specs.Named.{named_entries}
use Rattle.node_tree.proofs.NamedLemmas.{length-named}
use Rattle.node_tree.proofs.TimelineLemmas.{firsts-found, event-places}
use Rattle.node_tree.proofs.overlapping.lower_firsts.Goals as goal

pub settle-requires-clause-places : goal.settle-requires-clause-places
settle-requires-clause-places c =
    event-places (named_entries c.args.entries.now) c.in_ok-events.events.items (length c.events_of.new.firsts)
    (length-named c.args.entries.now ∙ sym c.requires.lengths ∙ sym c.events_of.auto.firsts) c.in_ok-events.ensures.each

pub returns : goal.returns
returns c =
    let es = named_entries c.args.entries.now in
    let n = length-named c.args.entries.now in
    IfOk-weaker c.settle.result _ _
    (λ _ settles. firsts-found es c.in_ok-events.events.items c.args.firsts.now c.events_of.new.firsts
    c.settle.new.firsts c.requires.registers (c.requires.lengths ∙ sym n)
    (λ b within. c.requires.none b 0 (omega (arith, c.requires.lengths, n)) ∙ sym n) c.in_ok-events.ensures settles)
    c.settle.ensures
