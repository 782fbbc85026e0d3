use Rattle.std.proofs.Common.{refl, subst, sym}
use Rattle.hub_session.specs.declared.served.SessionEnd.{SessionEnd}
use Rattle.hub_session.specs.Inside.{ComesToEnd, standing}
use Rattle.hub_session.proofs.Connections.{ends_badly}
use Rattle.hub_session.proofs.session.end_at_bad_frame.Goals as goal

pub returns-in-Ok-clause-ends : goal.returns-in-Ok-clause-ends
returns-in-Ok-clause-ends g c = λ map seat left held bad start s.
    let new = standing seat left (g.O.Sink.written c.write_replies.new.sink) held c.write_replies.new.progress in
    ends_badly map new new bad c.in-Ok.ensures.waits refl refl refl refl start
    (c.in-Ok.ensures.goes_on map seat left held start s)

pub returns-in-Err-clause-ends : goal.returns-in-Err-clause-ends
returns-in-Err-clause-ends g c = λ map seat left held bad.
    subst (λ (end : SessionEnd). ComesToEnd map
    (standing seat left (g.O.Sink.written c.args.sink.now) held c.args.progress.now)
    (standing seat left (g.O.Sink.written c.write_replies.new.sink) held c.write_replies.new.progress) end)
    (sym c.in-Err.ensures.only) (c.in-Err.ensures.ends map seat left held)
