use Rattle.std.proofs.Common.{rules, refl, arith}
use Rattle.std.proofs.lemmas.Grind.{common_steps}
use Rattle.hub_session.proofs.session.serve_to_end.Goals as goal

pub loop-init : goal.loop-init
loop-init g c = (
  (tt, tt),
  (refl, refl),
  c.requires.settled,
  c.requires.begun,
  c.requires.waits,
  λ start s. s,
  refl,
  refl,
  search rules,
)

pub returns-in-Err-clause-ends : goal.returns-in-Err-clause-ends
returns-in-Err-clause-ends g c = λ start s.
    c.in-Err.ensures.ends c.args.boards.now.map.now c.loop.seat (g.O.Sink.written c.loop.sink) start
    (c.loop.invariant.5 start s)

pub returns-in-Err-answer_waiting-clause-ends : goal.returns-in-Err-answer_waiting-clause-ends
returns-in-Err-answer_waiting-clause-ends g c = λ start s.
    c.in-Err-answer_waiting.ensures.ends (g.S.Source.left c.read_piece.new.src) start
    (c.in_default.ensures.goes_on c.args.boards.now.map.now c.loop.seat (g.O.Sink.written c.loop.sink) start
    (c.loop.invariant.5 start s))

pub returns-in-Err-clause-settled : goal.returns-in-Err-clause-settled
returns-in-Err-clause-settled g c = grind (arith, common_steps)

pub returns-in-Err-clause-read_faults : goal.returns-in-Err-clause-read_faults
returns-in-Err-clause-read_faults g c = grind (arith, common_steps)

pub returns-in-Err-clause-write_faults : goal.returns-in-Err-clause-write_faults
returns-in-Err-clause-write_faults g c = grind (arith, common_steps)

pub loop-preserved : goal.loop-preserved
loop-preserved g c = grind (arith, common_steps)
