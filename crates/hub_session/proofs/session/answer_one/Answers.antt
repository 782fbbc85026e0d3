use Rattle.std.proofs.Common.{◌≡◌, ℕ, List, Option, ◌++◌, refl, sym, ap}
use Rattle.hub_framing.specs.Frames.{frame_bytes}
use Rattle.hub_session.specs.declared.served.SessionEnd.TheVariants as ends
use Rattle.hub_session.specs.Inside.{ComesToEnd, Connection, standing}
use Rattle.hub_session.proofs.Connections.{answered_one, ends_unanswered}
use Rattle.hub_session.proofs.Results.{at_only_error, on_ok_follows}
use Rattle.hub_session.proofs.session.answer_one.Goals as goal

pub returns-then-len-lt-MOST_WAITING-clause-goes_on : goal.returns-then-len-lt-MOST_WAITING-clause-goes_on
returns-then-len-lt-MOST_WAITING-clause-goes_on g c = λ left start s.
    let now = c.args.progress.now in
    let frame = c.args.frame.now in
    let written = g.O.Sink.written c.args.sink.now in
    let was = standing c.args.seat.now left written (frame_bytes frame ++ now.framer) now in
    let is : Connection = record {
      seat = c.push_answer.new.seat;
      left = left;
      written = written;
      held = now.framer;
      replies = c.push_answer.new.replies;
      frames = now.frames;
    } in
    answered_one c.args.boards.now.map.now start was is frame s c.requires.frame refl refl refl refl
    c.in-Ok.ensures.answered

pub returns-else-len-lt-MOST_WAITING-clause-goes_on : goal.returns-else-len-lt-MOST_WAITING-clause-goes_on
returns-else-len-lt-MOST_WAITING-clause-goes_on g c =
    let now = c.args.progress.now in
    let frame = c.args.frame.now in
    let written = g.O.Sink.written c.args.sink.now in
    let after = c.write_replies.new.progress in
    let front : frame_bytes frame ++ now.framer ≡ frame_bytes frame ++ after.framer =
    ap (λ (l : List ℕ). frame_bytes frame ++ l) (sym c.write_replies.ensures.held) in
    on_ok_follows c.write_replies.result c.write_replies.ensures.goes_on (λ on left start s.
    let was = standing c.args.seat.now left written (frame_bytes frame ++ now.framer) now in
    let is : Connection = record {
      seat = c.push_answer.new.seat;
      left = left;
      written = written;
      held = after.framer;
      replies = c.push_answer.new.replies;
      frames = now.frames;
    } in
    on c.args.boards.now.map.now c.push_answer.new.seat left after.framer start
    (answered_one c.args.boards.now.map.now start was is frame s c.requires.frame front refl refl refl
    c.in-Ok.ensures.answered))

pub returns-else-len-lt-MOST_WAITING-clause-ends : goal.returns-else-len-lt-MOST_WAITING-clause-ends
returns-else-len-lt-MOST_WAITING-clause-ends g c =
    let map = c.args.boards.now.map.now in
    let now = c.args.progress.now in
    let after = c.write_replies.new.progress in
    let frame = c.args.frame.now in
    let written = g.O.Sink.written c.args.sink.now in
    let front : frame_bytes frame ++ now.framer ≡ frame_bytes frame ++ after.framer =
    ap (λ (l : List ℕ). frame_bytes frame ++ l) (sym c.write_replies.ensures.held) in
    at_only_error (λ end. (left : Option (List ℕ)) → ComesToEnd map
    (standing c.args.seat.now left written (frame_bytes frame ++ now.framer) now)
    (standing c.push_answer.new.seat left (g.O.Sink.written c.write_replies.new.sink) after.framer after) end)
    ends.WriteFault c.write_replies.result c.write_replies.ensures.ends c.write_replies.ensures.only
    (λ on left start s.
    let was = standing c.args.seat.now left written (frame_bytes frame ++ now.framer) now in
    let is : Connection = record {
      seat = c.push_answer.new.seat;
      left = left;
      written = written;
      held = after.framer;
      replies = c.push_answer.new.replies;
      frames = now.frames;
    } in
    on map c.push_answer.new.seat left after.framer start
    (answered_one map start was is frame s c.requires.frame front refl refl refl c.in-Ok.ensures.answered))

pub returns-in-Err-clause-ends : goal.returns-in-Err-clause-ends
returns-in-Err-clause-ends g c = λ left.
    let now = c.args.progress.now in
    let frame = c.args.frame.now in
    let written = g.O.Sink.written c.args.sink.now in
    let was = standing c.args.seat.now left written (frame_bytes frame ++ now.framer) now in
    let is : Connection = record {
      seat = c.push_answer.new.seat;
      left = left;
      written = written;
      held = now.framer;
      replies = c.push_answer.new.replies;
      frames = now.frames;
    } in
    ends_unanswered c.args.boards.now.map.now was is frame now.framer c.requires.frame refl refl refl refl
    c.in-Err.ensures.stands
