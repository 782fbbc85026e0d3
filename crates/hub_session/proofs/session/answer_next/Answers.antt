use Rattle.std.proofs.Common.{ℕ, List, Option, ◌++◌, sym, subst}
use Rattle.hub_framing.specs.Frames.{frame_bytes}
use Rattle.hub_session.specs.declared.served.SessionEnd.{SessionEnd}
use Rattle.hub_session.specs.Inside.{ComesToEnd, IsServing, standing}
use Rattle.hub_session.proofs.Results.{if_err_follows, on_ok_follows}
use Rattle.hub_session.proofs.session.answer_next.Goals as goal

pub returns-in-Err-clause-ends : goal.returns-in-Err-clause-ends
returns-in-Err-clause-ends g c = λ left.
    let map = c.args.boards.now.map.now in
    let now = c.args.progress.now in
    let after = c.write_before_waiting.new.progress in
    let seat = c.args.seat.now in
    let held = frame_bytes c.args.frame.now ++ now.framer in
    subst (λ (end : SessionEnd). ComesToEnd map (standing seat left (g.O.Sink.written c.args.sink.now) held now)
    (standing seat left (g.O.Sink.written c.write_before_waiting.new.sink) after.framer after) end)
    (sym c.in-Err.ensures.only) (c.in-Err.ensures.ends map seat left held)

pub returns-clause-goes_on : goal.returns-clause-goes_on
returns-clause-goes_on g c =
    let map = c.args.boards.now.map.now in
    let now = c.args.progress.now in
    let after = c.write_before_waiting.new.progress in
    let seat = c.args.seat.now in
    let front = frame_bytes c.args.frame.now in
    on_ok_follows c.answer_one.result c.answer_one.ensures.goes_on (λ on left start s.
    on left start (subst (λ (held : List ℕ). IsServing map start
    (standing seat left (g.O.Sink.written c.write_before_waiting.new.sink) (front ++ held) after))
    (sym c.write_before_waiting.ensures.held)
    (c.in_default.ensures.goes_on map seat left (front ++ now.framer) start s)))

pub returns-clause-ends : goal.returns-clause-ends
returns-clause-ends g c =
    let map = c.args.boards.now.map.now in
    let now = c.args.progress.now in
    let after = c.write_before_waiting.new.progress in
    let seat = c.args.seat.now in
    let front = frame_bytes c.args.frame.now in
    let new = c.answer_one.new.progress in
    if_err_follows (λ end. (left : Option (List ℕ)) → ComesToEnd map
    (standing seat left (g.O.Sink.written c.write_before_waiting.new.sink) (front ++ after.framer) after)
    (standing c.answer_one.new.seat left (g.O.Sink.written c.answer_one.new.sink) new.framer new) end)
    (λ end. (left : Option (List ℕ)) → ComesToEnd map
    (standing seat left (g.O.Sink.written c.args.sink.now) (front ++ now.framer) now)
    (standing c.answer_one.new.seat left (g.O.Sink.written c.answer_one.new.sink) new.framer new) end)
    c.answer_one.result c.answer_one.ensures.ends (λ end on left start s.
    on left start (subst (λ (held : List ℕ). IsServing map start
    (standing seat left (g.O.Sink.written c.write_before_waiting.new.sink) (front ++ held) after))
    (sym c.write_before_waiting.ensures.held)
    (c.in_default.ensures.goes_on map seat left (front ++ now.framer) start s)))
