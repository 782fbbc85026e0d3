use Rattle.std.proofs.Common.{◌≡◌, ◌<◌, length, rules, sym, refl, ap, subst, Ok, take, ℕ}
use Rattle.std.specs.Io.KnownBytes.{prepend_known}
use Rattle.hub_session.specs.Inside.{standing}
use Rattle.hub_session.proofs.Connections.{ends_unfed, ends_unread, ends_with_input, fed_more, input_at, none_taken}
use Rattle.hub_session.proofs.session.read_piece.Goals as goal

pub returns-in-Ok-feed-clause-goes_on : goal.returns-in-Ok-feed-clause-goes_on
returns-in-Ok-feed-clause-goes_on g c = λ map seat written start s.
    let now = c.args.progress.now in
    fed_more map start (standing seat (g.S.Source.left c.args.src.now) written now.framer now)
    (standing seat (g.S.Source.left c.read.new.self) written c.feed.new.self now)
    (take c.in-Ok.count c.read.new.buf) s c.in-Ok.ensures.taken c.in-Ok-feed.ensures.fed refl refl refl refl

pub returns-in-Err-feed-clause-ends : goal.returns-in-Err-feed-clause-ends
returns-in-Err-feed-clause-ends g c = λ map seat written.
    let now = c.args.progress.now in
    ends_unfed map (standing seat (g.S.Source.left c.args.src.now) written now.framer now)
    (standing seat (g.S.Source.left c.read.new.self) written c.feed.new.self now)
    (take c.in-Ok.count c.read.new.buf) c.in-Ok.ensures.taken refl refl refl

pub returns-in-Err-clause-ends : goal.returns-in-Err-clause-ends
returns-in-Err-clause-ends g c = λ map seat written.
    let now = c.args.progress.now in
    ends_unread map (standing seat (g.S.Source.left c.args.src.now) written now.framer now)
    (standing seat (g.S.Source.left c.read.new.self) written now.framer now)
    c.requires.begun c.requires.waits c.in-Err.ensures.taken refl refl refl

pub returns-in-Ok-eq0-clause-ends : goal.returns-in-Ok-eq0-clause-ends
returns-in-Ok-eq0-clause-ends g c = λ map seat written.
    let now = c.args.progress.now in
    let taken = subst (λ (n : ℕ). g.S.Source.left c.args.src.now
    ≡ prepend_known (take n c.read.new.buf) (g.S.Source.left c.read.new.self)) c.in-Ok-eq0.field-0-test
    c.in-Ok-eq0.ensures.taken in
    let long : length c.read.new.buf ≡ length c.args.buf.now = search rules in
    let room : 0 < length c.read.new.buf = subst (λ (n : ℕ). 0 < n) (sym long) c.requires.room in
    ends_with_input map (standing seat (g.S.Source.left c.args.src.now) written now.framer now)
    (standing seat (g.S.Source.left c.read.new.self) written now.framer now) c.end_of_input.result
    c.requires.begun c.requires.waits
    (none_taken c.read.new.buf (g.S.Source.left c.args.src.now) (g.S.Source.left c.read.new.self) taken) refl refl refl
    c.end_of_input.ensures.input c.end_of_input.ensures.ends
    (input_at (g.S.Source.left c.read.new.self) c.end_of_input.result c.end_of_input.ensures.input
    (c.in-Ok-eq0.ensures.at_end (ap Ok c.in-Ok-eq0.field-0-test) room))
