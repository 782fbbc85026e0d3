use Rattle.std.proofs.Common.{length, map, Ok, Err, ap, refl, subst}
use Rattle.std.specs.List.{AllByRecursion}
use Rattle.board_history.specs.Links.{IsUntouched}
use Rattle.board_greeting.specs.Reports.{shown_by}
use Rattle.board_greeting.specs.Links.{AreMadeFor}
use Rattle.session_serve.specs.Boards.{AreLinksTo}
use Rattle.session_serve.specs.Serving.{AreServed}
use Rattle.command_terms.proofs.Leaving.{at_links}
use Rattle.command_terms.proofs.Pairs.{with_links}
use Rattle.script_lang.specs.declared.session.Session.{Session}
use Rattle.serve_command.specs.Steps.{ServeLeaves}
use Rattle.serve_command.proofs.Ports.{failed_once}
use Rattle.serve_command.proofs.Services.{no_memory_is_no_rack, serve_failed, served_done}
use Rattle.serve_command.proofs.serve.served.Goals as goal

pub returns-in_err-report-clause-leaves : goal.returns-in_err-report-clause-leaves
returns-in_err-report-clause-leaves g c =
    let shown = shown_by g.R.L.Link in
    let made = g.R.Rack.made c.args.rack.now in
    let makes = g.R.Rack.made c.serve_session.new.rack in
    let left = c.serve_session.ensures.links in
    let links = map shown left.0 in
    let back = c.serve_session.ensures.pairs in (
      left.0,
      left.1,
      (
        back.0,
        back.1,
        back.2,
        back.3,
        serve_failed c.args.session.now c.args.count made makes
            c.from_residual.result c.in_err-report.field-0.0 _
            (subst (λ boards. AreLinksTo boards links) c.as_slice-boards.ensures left.2.0)
            (subst (λ boards. AreMadeFor boards links made makes) c.as_slice-boards.ensures left.2.1) back.4
            c.from_residual.ensures.0 c.from_residual.ensures.1
            (λ rack. at_links shown _ _ left.0 left.1 (AllByRecursion IsUntouched)
            (c.in_err-report.ensures.untouched (ap Err rack))),
      ),
    )

pub returns-in_err-printed-clause-leaves : goal.returns-in_err-printed-clause-leaves
returns-in_err-printed-clause-leaves g c =
    let shown = shown_by g.R.L.Link in
    let made = g.R.Rack.made c.args.rack.now in
    let makes = g.R.Rack.made c.serve_session.new.rack in
    let left = c.serve_session.ensures.links in
    let links = map shown left.0 in
    let back = c.serve_session.ensures.pairs in (
      left.0,
      left.1,
      (
        back.0,
        back.1,
        back.2,
        back.3,
        serve_failed c.args.session.now c.args.count made makes c.from_residual-in_err-printed.result _ _
            (subst (λ boards. AreLinksTo boards links) c.as_slice-boards.ensures left.2.0)
            (subst (λ boards. AreMadeFor boards links made makes) c.as_slice-boards.ensures left.2.1) back.4
            c.from_residual-in_err-printed.ensures.0 c.from_residual-in_err-printed.ensures.1
            (λ rack. absurd (no_memory_is_no_rack _ refl rack)),
      ),
    )

pub returns-clause-leaves : goal.returns-clause-leaves
returns-clause-leaves g c =
    let shown = shown_by g.R.L.Link in
    let made = g.R.Rack.made c.args.rack.now in
    let makes = g.R.Rack.made c.serve_session.new.rack in
    let session : Session = c.args.session.now in
    let boards = c.as_slice-boards.result.now in
    let answer = c.in_ok-printed.field-0 in
    let connections = c.in_ok-report.report.connections.items in
    let lines = c.in_ok-report.report.boards.items in
    with_links shown g.D.Incoming.Source g.D.Outgoing.Sink _ _ _ _ _ _
    (λ links. AreLinksTo boards links × AreMadeFor boards links made makes)
    (λ given. AreServed session.settings boards given.links given.came given.back connections lines)
    (ServeLeaves session c.args.count made makes (Ok answer))
    (λ given of_links served. served_done session c.args.count made makes boards c.as_slice-boards.ensures answer
    connections lines given of_links.0 of_links.1 served c.in_ok-report.ensures.all c.in_ok-report.ensures.had_memory
    c.in_ok-printed.ensures.text c.in_ok-printed.ensures.status)
    c.serve_session.ensures.links c.in_ok-report.ensures.served

pub returns-in_err-report-clause-listens : goal.returns-in_err-report-clause-listens
returns-in_err-report-clause-listens g c =
    failed_once c.args.port (g.D.Door.ports c.args.door.now) (g.D.Door.ports c.serve_session.new.door)
    c.from_residual.result c.from_residual.ensures.0 c.serve_session.ensures.listens.1

pub returns-in_err-printed-clause-listens : goal.returns-in_err-printed-clause-listens
returns-in_err-printed-clause-listens g c =
    failed_once c.args.port (g.D.Door.ports c.args.door.now) (g.D.Door.ports c.serve_session.new.door)
    c.from_residual-in_err-printed.result c.from_residual-in_err-printed.ensures.0 c.serve_session.ensures.listens.1

pub returns-clause-listens : goal.returns-clause-listens
returns-clause-listens g c = (λ done. c.in_ok-report.ensures.listens.0 refl, c.serve_session.ensures.listens.1)

pub returns-in_err-report-clause-in_frames : goal.returns-in_err-report-clause-in_frames
returns-in_err-report-clause-in_frames g c = c.serve_session.ensures.in_frames

pub returns-in_err-printed-clause-in_frames : goal.returns-in_err-printed-clause-in_frames
returns-in_err-printed-clause-in_frames g c = c.serve_session.ensures.in_frames

pub returns-clause-in_frames : goal.returns-clause-in_frames
returns-clause-in_frames g c = c.serve_session.ensures.in_frames
