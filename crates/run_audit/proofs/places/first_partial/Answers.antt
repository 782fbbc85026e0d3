use Rattle.std.proofs.Common.{map, arith, sym, ◌∙◌}
use Rattle.std.proofs.lemmas.Bool.{false≢true}
use Rattle.std.proofs.lemmas.List.{length-map}
use Rattle.run_audit.specs.Steps.{asking}
use Rattle.run_audit.proofs.PartialLines.{none_more, partial_found, partial_none}
use Rattle.run_audit.proofs.Walking.{read_here}
use Rattle.run_audit.proofs.places.first_partial.Goals as goal

pub returns-then-is_partial : goal.returns-then-is_partial
returns-then-is_partial c = λ boards scripts shown are.
    let i = c.loop-ask.ask-index in
    let lines = map asking c.args.asked.now in
    let at = read_here asking c.args.asked.now i c.ask-item.result c.loop-ask-test.true c.ask-item.is in
    let told = c.is_partial.ensures.0 c.if-is_partial.true in
    partial_found boards scripts shown c.args.plans.now lines are i (asking c.ask-item.result) at c.loop-ask.invariant
    (told.0, rw (← c.pieces_at.ensures.planned) told.1)

pub loop-ask-preserved : goal.loop-ask-preserved
loop-ask-preserved c =
    let i = c.loop-ask.ask-index in
    let at = read_here asking c.args.asked.now i c.ask-item.result c.loop-ask-test.true c.ask-item.is in
    none_more c.args.plans.now (map asking c.args.asked.now) i (asking c.ask-item.result) c.loop-ask.invariant at
    (λ partial. false≢true (sym c.if-is_partial.false ∙ c.is_partial.ensures.1
    (partial.0, rw c.pieces_at.ensures.planned partial.1)))

pub returns : goal.returns
returns c = λ boards scripts shown are.
    partial_none boards scripts shown c.args.plans.now (map asking c.args.asked.now) are c.loop-ask.ask-index
    (omega (arith, length-map c.args.asked.now asking, c.loop-ask-test.false)) c.loop-ask.invariant
