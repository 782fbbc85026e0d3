use Rattle.std.proofs.Common.{◌∙◌, ℕ, List, Option, Err, ap, arith}
use Rattle.std.proofs.lemmas.Grind.{common_steps}
use Rattle.hub_session.specs.declared.served.SessionEnd.TheVariants as ends
use Rattle.hub_session.specs.Inside.{ComesToEnd, standing}
use Rattle.hub_session.proofs.Connections.{bad_by}
use Rattle.hub_session.proofs.Results.{at_only_error}
use Rattle.hub_session.proofs.session.answer_waiting.Goals as goal

pub returns-in-Ok-None-clause-ends : goal.returns-in-Ok-None-clause-ends
returns-in-Ok-None-clause-ends g c =
    let map = c.args.boards.now.map.now in
    let was = c.args.progress.now in
    let now = c.loop.progress in
    let after = c.write_replies.new.progress in
    at_only_error (λ end. (left : Option (List ℕ)) → ComesToEnd map
    (standing c.args.seat.now left (g.O.Sink.written c.args.sink.now) was.framer was)
    (standing c.loop.seat left (g.O.Sink.written c.write_replies.new.sink) after.framer after) end)
    ends.WriteFault c.write_replies.result c.write_replies.ensures.ends c.write_replies.ensures.only
    (λ on left start s. on map c.loop.seat left now.framer start (c.loop.invariant.3 left start s))

pub returns-in-Err-clause-ends : goal.returns-in-Err-clause-ends
returns-in-Err-clause-ends g c = λ left start s.
    let map = c.args.boards.now.map.now in
    let now = c.loop.progress in
    c.end_at_bad_frame.ensures.ends map c.loop.seat left now.framer
    (bad_by c.in-Err._refusal now.framer (λ e. c.in-Err.ensures.too_long.0 (ap Err e))
    (λ e. c.in-Err.ensures.too_short.0 (ap Err e))) start (c.loop.invariant.3 left start s)

pub loop-init : goal.loop-init
loop-init g c = grind (arith, common_steps)

pub returns-in-Err-answer_next-clause-settled : goal.returns-in-Err-answer_next-clause-settled
returns-in-Err-answer_next-clause-settled g c = grind (arith, common_steps)

pub returns-in-Err-answer_next-clause-goes_on : goal.returns-in-Err-answer_next-clause-goes_on
returns-in-Err-answer_next-clause-goes_on g c = tt

pub returns-in-Err-answer_next-clause-ends : goal.returns-in-Err-answer_next-clause-ends
returns-in-Err-answer_next-clause-ends g c = grind (arith, common_steps)

pub returns-in-Err-answer_next-clause-faults : goal.returns-in-Err-answer_next-clause-faults
returns-in-Err-answer_next-clause-faults g c = grind (arith, common_steps)

pub loop-preserved : goal.loop-preserved
loop-preserved g c = grind (arith, common_steps)

pub returns-in-Ok-None-clause-settled : goal.returns-in-Ok-None-clause-settled
returns-in-Ok-None-clause-settled g c = λ _. c.loop.invariant.2

pub returns-in-Ok-None-clause-goes_on : goal.returns-in-Ok-None-clause-goes_on
returns-in-Ok-None-clause-goes_on g c = grind (arith, common_steps)

pub returns-in-Ok-None-clause-faults : goal.returns-in-Ok-None-clause-faults
returns-in-Ok-None-clause-faults g c = grind (arith, common_steps)

pub returns-in-Err-clause-settled : goal.returns-in-Err-clause-settled
returns-in-Err-clause-settled g c = λ _. c.loop.invariant.2

pub returns-in-Err-clause-goes_on : goal.returns-in-Err-clause-goes_on
returns-in-Err-clause-goes_on g c = tt

pub returns-in-Err-clause-faults : goal.returns-in-Err-clause-faults
returns-in-Err-clause-faults g c = grind (arith, common_steps)

pub returns-in-Err-answer_next-clause-same : goal.returns-in-Err-answer_next-clause-same
returns-in-Err-answer_next-clause-same g c = (
  c.answer_next.ensures.same.0 ∙ c.loop.invariant.1.0,
  c.answer_next.ensures.same.1 ∙ c.loop.invariant.1.1,
)

pub returns-in-Err-answer_next-clause-begun : goal.returns-in-Err-answer_next-clause-begun
returns-in-Err-answer_next-clause-begun g c = tt

pub returns-in-Err-answer_next-clause-waits : goal.returns-in-Err-answer_next-clause-waits
returns-in-Err-answer_next-clause-waits g c = tt

pub returns-in-Err-answer_next-clause-not_read : goal.returns-in-Err-answer_next-clause-not_read
returns-in-Err-answer_next-clause-not_read g c = grind (arith, common_steps)

pub loop-smaller : goal.loop-smaller
loop-smaller g c = grind (arith, common_steps)

pub returns-in-Ok-None-clause-same : goal.returns-in-Ok-None-clause-same
returns-in-Ok-None-clause-same g c = c.loop.invariant.1

pub returns-in-Ok-None-clause-begun : goal.returns-in-Ok-None-clause-begun
returns-in-Ok-None-clause-begun g c = grind (arith, common_steps)

pub returns-in-Ok-None-clause-waits : goal.returns-in-Ok-None-clause-waits
returns-in-Ok-None-clause-waits g c = c.write_replies.ensures.waits

pub returns-in-Ok-None-clause-not_read : goal.returns-in-Ok-None-clause-not_read
returns-in-Ok-None-clause-not_read g c = grind (arith, common_steps)

pub returns-in-Err-clause-same : goal.returns-in-Err-clause-same
returns-in-Err-clause-same g c = c.loop.invariant.1

pub returns-in-Err-clause-begun : goal.returns-in-Err-clause-begun
returns-in-Err-clause-begun g c = tt

pub returns-in-Err-clause-waits : goal.returns-in-Err-clause-waits
returns-in-Err-clause-waits g c = tt

pub returns-in-Err-clause-not_read : goal.returns-in-Err-clause-not_read
returns-in-Err-clause-not_read g c = grind (arith, common_steps)
