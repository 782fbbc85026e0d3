use Rattle.std.proofs.Common.{[], append-nil, inl, refl, sym}
use Rattle.session_input.specs.Deserved.{BreaksInServe, Deserves}
use Rattle.board_greeting.specs.Reports.{shown_by}
use Rattle.session_serve.specs.declared.report.ServeFault.TheVariants.{NoMemory, Rack}
use Rattle.session_serve.specs.Faults.{IsServeFailure}
use Rattle.session_serve.specs.Executed.{CameInFrames}
use Rattle.session_serve.specs.Serving.{AreBack}
use Rattle.session_serve.proofs.Executing.{none_executed}
use Rattle.session_serve.proofs.Standing.{none_served}
use Rattle.command_terms.specs.Documents.{IsRefusedDocument}
use Rattle.command_terms.specs.Leaving.{Leaves}
use Rattle.command_terms.proofs.Leaving.{error_left, failure_left, refusal_left}
use Rattle.command_terms.proofs.Pairs.{therefore, without_pairs}
use Rattle.serve_command.specs.Steps.{ServeLeaves}
use Rattle.serve_command.specs.Terms.{serve_terms}
use Rattle.serve_command.proofs.Leaving.{serve_leaves}
use Rattle.serve_command.proofs.Ports.{answered_listens, failed_listens}
use Rattle.serve_command.proofs.Ready.{may_serve}
use Rattle.serve_command.proofs.Services.{not_refused}
use Rattle.serve_command.proofs.serve.serve_document.Goals as goal

pub served-requires-after_bounds : goal.served-requires-after_bounds
served-requires-after_bounds g c κs within =
    may_serve c.the_ranges_of_a_session_name_words.ensures c.args.bytes.now c.in-Ok.session
    c.in-Ok.ensures.servable c.in-Ok.ensures.within

pub returns-in_err-refused-in-Err-Refused-clause-leaves : goal.returns-in_err-refused-in-Err-Refused-clause-leaves
returns-in_err-refused-in-Err-Refused-clause-leaves g c =
    let shown = shown_by g.R.L.Link in
    let made = g.R.Rack.made c.args.rack.now in
    without_pairs shown g.D.Incoming.Source g.D.Outgoing.Sink _ _ _ _ _ _ refl refl
    (Leaves AreBack IsServeFailure Rack (serve_terms c.args.count) c.args.bytes.now made made c.from_residual.result)
    (failure_left AreBack none_served IsServeFailure Rack shown _ (serve_terms c.args.count) c.args.bytes.now _
    c.from_residual.result NoMemory c.from_residual.ensures.0 c.from_residual.ensures.1 (λ failed. failed))

pub returns-in-Ok-clause-leaves : goal.returns-in-Ok-clause-leaves
returns-in-Ok-clause-leaves g c =
    let shown = shown_by g.R.L.Link in
    let made = g.R.Rack.made c.args.rack.now in
    let makes = g.R.Rack.made c.served.new.rack in
    therefore shown g.D.Incoming.Source g.D.Outgoing.Sink _ _ _ _ _ _
    (ServeLeaves c.in-Ok.session c.args.count made makes c.served.result)
    (Leaves AreBack IsServeFailure Rack (serve_terms c.args.count) c.args.bytes.now made makes c.served.result)
    (λ given leaves. serve_leaves c.serve_laws.ensures c.args.count c.args.bytes.now c.in-Ok.session
    made makes c.served.result given c.in-Ok.ensures.servable leaves)
    c.served.ensures.leaves

pub returns-in-Ok-clause-refused : goal.returns-in-Ok-clause-refused
returns-in-Ok-clause-refused g c =
    let shown = shown_by g.R.L.Link in
    not_refused shown g.D.Incoming.Source g.D.Outgoing.Sink _ _ _ _ _ _ c.in-Ok.session c.args.count
    (g.R.Rack.made c.args.rack.now) (g.R.Rack.made c.served.new.rack) _ c.served.result c.served.ensures.leaves

pub returns-in_ok-refused-in-Err-Refused-clause-leaves : goal.returns-in_ok-refused-in-Err-Refused-clause-leaves
returns-in_ok-refused-in-Err-Refused-clause-leaves g c =
    let shown = shown_by g.R.L.Link in
    let made = g.R.Rack.made c.args.rack.now in
    let deserved : Deserves BreaksInServe c.args.bytes.now c.in-Err-Refused.refusal =
    rw c.in-Err-Refused.field-0-is at c.in-Err-Refused.ensures.refused in
    let answer = c.in_ok-refused-in-Err-Refused.field-0 in
    let refused : IsRefusedDocument BreaksInServe c.args.bytes.now answer.text.items =
    record {
      refusal = c.in-Err-Refused.refusal;
      deserved = deserved;
      spelled = c.in_ok-refused-in-Err-Refused.ensures.text;
    } in
    without_pairs shown g.D.Incoming.Source g.D.Outgoing.Sink _ _ _ _ _ _ refl refl
    (Leaves AreBack IsServeFailure Rack (serve_terms c.args.count) c.args.bytes.now made made _)
    (refusal_left AreBack none_served IsServeFailure Rack shown _ (serve_terms c.args.count) c.args.bytes.now _
    answer refused c.in_ok-refused-in-Err-Refused.ensures.status)

pub returns-in-Err-NoMemory-clause-leaves : goal.returns-in-Err-NoMemory-clause-leaves
returns-in-Err-NoMemory-clause-leaves g c =
    let shown = shown_by g.R.L.Link in
    let made = g.R.Rack.made c.args.rack.now in
    without_pairs shown g.D.Incoming.Source g.D.Outgoing.Sink _ _ _ _ _ _ refl refl
    (Leaves AreBack IsServeFailure Rack (serve_terms c.args.count) c.args.bytes.now made made _)
    (error_left AreBack none_served IsServeFailure Rack shown _ (serve_terms c.args.count) c.args.bytes.now _ NoMemory
    (λ failed. failed))

pub returns-in-Ok-clause-listens : goal.returns-in-Ok-clause-listens
returns-in-Ok-clause-listens g c =
    answered_listens c.args.port (g.D.Door.ports c.args.door.now) (g.D.Door.ports c.served.new.door) c.served.result
    c.served.ensures.listens

pub returns-in_ok-refused-in-Err-Refused-clause-listens : goal.returns-in_ok-refused-in-Err-Refused-clause-listens
returns-in_ok-refused-in-Err-Refused-clause-listens g c =
    (λ done. absurd (done c.in_ok-refused-in-Err-Refused.ensures.status), inl refl)

pub returns-in_err-refused-in-Err-Refused-clause-listens : goal.returns-in_err-refused-in-Err-Refused-clause-listens
returns-in_err-refused-in-Err-Refused-clause-listens g c =
    let ports = g.D.Door.ports c.args.door.now in
    failed_listens c.args.port ports ports c.from_residual.result c.from_residual.ensures.0 (inl refl)

pub returns-in_err-refused-in-Err-Refused-clause-in_frames : goal.returns-in_err-refused-in-Err-Refused-clause-in_frames
returns-in_err-refused-in-Err-Refused-clause-in_frames g c =
    let shown = shown_by g.R.L.Link in
    without_pairs shown g.D.Incoming.Source g.D.Outgoing.Sink _ _ _ _ _ _ refl refl
    (λ given. CameInFrames given.links given.came given.back) ([], sym (append-nil _), none_executed [] tt)

pub returns-in_ok-refused-in-Err-Refused-clause-in_frames : goal.returns-in_ok-refused-in-Err-Refused-clause-in_frames
returns-in_ok-refused-in-Err-Refused-clause-in_frames g c =
    let shown = shown_by g.R.L.Link in
    without_pairs shown g.D.Incoming.Source g.D.Outgoing.Sink _ _ _ _ _ _ refl refl
    (λ given. CameInFrames given.links given.came given.back) ([], sym (append-nil _), none_executed [] tt)

pub returns-in-Err-NoMemory-clause-in_frames : goal.returns-in-Err-NoMemory-clause-in_frames
returns-in-Err-NoMemory-clause-in_frames g c =
    let shown = shown_by g.R.L.Link in
    without_pairs shown g.D.Incoming.Source g.D.Outgoing.Sink _ _ _ _ _ _ refl refl
    (λ given. CameInFrames given.links given.came given.back) ([], sym (append-nil _), none_executed [] tt)

pub returns-in-Ok-clause-in_frames : goal.returns-in-Ok-clause-in_frames
returns-in-Ok-clause-in_frames g c = c.served.ensures.in_frames
