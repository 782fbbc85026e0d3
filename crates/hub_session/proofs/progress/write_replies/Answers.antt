use Rattle.std.proofs.Common.{◌≡◌, ◌<◌, ◌+◌, ◌-◌, ◌^◌, min, ℕ, List, length, rules, refl, ap, subst, take, ◌∙◌}
use Rattle.std.specs.Io.KnownBytes.{append_known}
use Rattle.hub_session.specs.Inside.{AreWholeIn, Connection, standing}
use Rattle.hub_session.proofs.Connections.{all_written, ends_unwritten}
use Rattle.hub_session.proofs.progress.write_replies.Goals as goal

pub returns-in-Ok-clause-goes_on : goal.returns-in-Ok-clause-goes_on
returns-in-Ok-clause-goes_on g c = λ map seat left held start s.
    let now = c.args.progress.now in
    let new : Connection = record {
      seat = seat;
      left = left;
      written = g.O.Sink.written c.write_counted.new.sink;
      held = held;
      replies = record { bytes = c.clear.new.self; lengths = c.clear-in-Ok.new.self };
      frames = c.saturating_add-progress.result;
    } in
    let frames : c.saturating_add-progress.result ≡ min (now.frames + length now.replies.lengths.items) (2 ^ 64 - 1) =
    search rules in
    all_written map start (standing seat left (g.O.Sink.written c.args.sink.now) held now) new s refl refl refl
    (c.in-Ok.ensures.whole ∙ ap (append_known (g.O.Sink.written c.args.sink.now)) c.as_slice.ensures.value) frames
    c.clear.ensures.items c.clear-in-Ok.ensures.items

pub returns-in-Err-clause-ends : goal.returns-in-Err-clause-ends
returns-in-Err-clause-ends g c = λ map seat left held.
    let now = c.args.progress.now in
    let done = c.in-Err.done in
    let whole = c.whole_in-whole.result in
    let new : Connection = record {
      seat = seat;
      left = left;
      written = g.O.Sink.written c.write_counted.new.sink;
      held = held;
      replies = now.replies;
      frames = c.saturating_add-progress-in-Err.result;
    } in
    ends_unwritten map (standing seat left (g.O.Sink.written c.args.sink.now) held now) new done whole refl refl
    (subst (λ (l : List ℕ). done < length l) c.as_slice.ensures.value c.in-Err.ensures.part.0)
    (subst (λ (l : List ℕ). AreWholeIn l done whole) c.as_slice-in-Err.ensures.value c.whole_in-whole.ensures)
    (c.in-Err.ensures.part.1
    ∙ ap (λ (l : List ℕ). append_known (g.O.Sink.written c.args.sink.now) (take done l)) c.as_slice.ensures.value)
    c.saturating_add-progress-in-Err.ensures
