use Rattle.std.proofs.Common.{Ok, sym, subst}
use Rattle.session_serve.specs.Faults.{IsServeFailure}
use Rattle.session_serve.specs.Serving.{AreBack}
use Rattle.session_serve.specs.declared.report.ServeFault.TheVariants as serve
use Rattle.std.specs.Result.{IsOkAnd}
use Rattle.ipb_outside.specs.Doors.{Listens}
use Rattle.board_greeting.specs.Reports.{shown_by}
use Rattle.command_terms.specs.Leaving.{Leaves}
use Rattle.command_terms.proofs.Leaving.{done_as, failed_as}
use Rattle.command_terms.proofs.Pairs.{therefore}
use Rattle.ipbus_program.specs.Commands.{terms_of}
use Rattle.ipbus_program.specs.declared.no_answer.NoAnswer.TheVariants.{RackFault}
use Rattle.ipbus_program.specs.Steps.{IsFailure, no_answer_served}
use Rattle.serve_command.proofs.Ports.{IsNoRefusal, failed_listens}
use Rattle.ipbus_program.proofs.Answered.{ran_answered, ran_failed}
use Rattle.ipbus_program.proofs.Faults.{one_port, run_alone, run_keeps_door, run_no_door, run_no_read, run_rises}
use Rattle.ipbus_program.proofs.Faults.{serve_behind, serve_door_rises, serve_rack, serve_rack_rises}
use Rattle.ipbus_program.proofs.answering.answer_to.Goals as goal

pub returns-in_err-serve_document-in-Serve-clause-leaves : goal.returns-in_err-serve_document-in-Serve-clause-leaves
returns-in_err-serve_document-in-Serve-clause-leaves g c =
    let shown = shown_by g.R.L.Link in
    let made = g.R.Rack.made c.args.rack.now in
    let makes = g.R.Rack.made c.serve_document.new.rack in
    let result = c.from_residual.result in
    therefore shown g.D.Incoming.Source g.D.Outgoing.Sink _ _ _ _ _ _
    (Leaves AreBack IsServeFailure serve.Rack _ c.args.bytes.now made makes _)
    (Leaves AreBack IsFailure RackFault (terms_of c.args.command.now) c.args.bytes.now made makes result)
    (λ given leaves. subst (λ command. Leaves AreBack IsFailure RackFault (terms_of command) c.args.bytes.now made makes
    result given) (sym c.in-Serve.is)
    (failed_as AreBack AreBack (λ came back served. served) IsServeFailure serve.Rack IsFailure RackFault _
    c.args.bytes.now made makes given
    no_answer_served c.in_err-serve_document-in-Serve.field-0.0 result (serve_behind _) (serve_rack _)
    c.from_residual.ensures.0 c.from_residual.ensures.1
    leaves))
    c.in_err-serve_document-in-Serve.ensures.leaves

pub returns-in_ok-serve_document-in-Serve-clause-leaves : goal.returns-in_ok-serve_document-in-Serve-clause-leaves
returns-in_ok-serve_document-in-Serve-clause-leaves g c =
    let shown = shown_by g.R.L.Link in
    let made = g.R.Rack.made c.args.rack.now in
    let makes = g.R.Rack.made c.serve_document.new.rack in
    let answer = c.in_ok-serve_document-in-Serve.field-0 in
    therefore shown g.D.Incoming.Source g.D.Outgoing.Sink _ _ _ _ _ _
    (Leaves AreBack IsServeFailure serve.Rack _ c.args.bytes.now made makes (Ok answer))
    (Leaves AreBack IsFailure RackFault (terms_of c.args.command.now) c.args.bytes.now made makes (Ok answer))
    (λ given leaves. subst (λ command. Leaves AreBack IsFailure RackFault (terms_of command) c.args.bytes.now made makes
    (Ok answer) given) (sym c.in-Serve.is)
    (done_as AreBack AreBack (λ came back served. served) IsServeFailure serve.Rack IsFailure RackFault _
    c.args.bytes.now made makes given answer leaves))
    c.in_ok-serve_document-in-Serve.ensures.leaves

pub returns-in_err-serve_document-in-Serve-clause-listens : goal.returns-in_err-serve_document-in-Serve-clause-listens
returns-in_err-serve_document-in-Serve-clause-listens g c port count asked =
    let result = c.from_residual.result in
    let ports = g.D.Door.ports c.args.door.now in
    let ports_now = g.D.Door.ports c.serve_document.new.door in
    subst (λ p. Listens p (IsOkAnd result IsNoRefusal) ports ports_now)
    (one_port c.args.command.now port count _ _ c.in-Serve.is asked)
    (failed_listens _ ports ports_now result c.from_residual.ensures.0
    c.in_err-serve_document-in-Serve.ensures.listens.1)

pub returns-in_ok-serve_document-in-Serve-clause-listens : goal.returns-in_ok-serve_document-in-Serve-clause-listens
returns-in_ok-serve_document-in-Serve-clause-listens g c port count asked =
    let answer = c.in_ok-serve_document-in-Serve.field-0 in
    let ports = g.D.Door.ports c.args.door.now in
    let ports_now = g.D.Door.ports c.serve_document.new.door in
    subst (λ p. Listens p (IsNoRefusal answer) ports ports_now)
    (one_port c.args.command.now port count _ _ c.in-Serve.is asked) c.in_ok-serve_document-in-Serve.ensures.listens

pub returns-in_err-serve_document-in-Serve-clause-in_frames :
    goal.returns-in_err-serve_document-in-Serve-clause-in_frames
returns-in_err-serve_document-in-Serve-clause-in_frames g c port count asked = c.serve_document.ensures.in_frames

pub returns-in_ok-serve_document-in-Serve-clause-in_frames : goal.returns-in_ok-serve_document-in-Serve-clause-in_frames
returns-in_ok-serve_document-in-Serve-clause-in_frames g c port count asked = c.serve_document.ensures.in_frames

pub returns-in_err-serve_document-in-Serve-clause-rack_faults :
    goal.returns-in_err-serve_document-in-Serve-clause-rack_faults
returns-in_err-serve_document-in-Serve-clause-rack_faults g c =
    serve_rack_rises c.in_err-serve_document-in-Serve.field-0.0 c.from_residual.result c.from_residual.ensures.0
    c.from_residual.ensures.1 c.in_err-serve_document-in-Serve.ensures.rack_faults

pub returns-in_err-serve_document-in-Serve-clause-door_faults :
    goal.returns-in_err-serve_document-in-Serve-clause-door_faults
returns-in_err-serve_document-in-Serve-clause-door_faults g c =
    serve_door_rises c.in_err-serve_document-in-Serve.field-0.0 c.from_residual.result c.from_residual.ensures.0
    c.from_residual.ensures.1 c.in_err-serve_document-in-Serve.ensures.door_faults

-- ---- a command that lets nobody in

pub answer_without_door-requires-clause-no_server : goal.answer_without_door-requires-clause-no_server
answer_without_door-requires-clause-no_server g c κs within = c.in_default.not-Serve

pub returns-in_err-answer_without_door-in_default-clause-leaves :
    goal.returns-in_err-answer_without_door-in_default-clause-leaves
returns-in_err-answer_without_door-in_default-clause-leaves g c =
    let failed = c.in_err-answer_without_door-in_default in
    let told = c.from_residual-in_err-answer_without_door-in_default in
    ran_failed (shown_by g.R.L.Link) g.D.Incoming.Source g.D.Outgoing.Sink _ _ _ _ c.args.command.now c.args.bytes.now _
    _ failed.field-0.0 told.result told.ensures.0 told.ensures.1 failed.ensures.leaves

pub returns-in_ok-answer_without_door-in_default-clause-leaves :
    goal.returns-in_ok-answer_without_door-in_default-clause-leaves
returns-in_ok-answer_without_door-in_default-clause-leaves g c =
    let answered = c.in_ok-answer_without_door-in_default in
    ran_answered (shown_by g.R.L.Link) g.D.Incoming.Source g.D.Outgoing.Sink _ _ _ _ c.args.command.now
    c.args.bytes.now _ _ answered.field-0 answered.ensures.leaves

pub returns-in_err-answer_without_door-in_default-clause-alone :
    goal.returns-in_err-answer_without_door-in_default-clause-alone
returns-in_err-answer_without_door-in_default-clause-alone g c =
    let failed = c.in_err-answer_without_door-in_default in
    let told = c.from_residual-in_err-answer_without_door-in_default in
    run_alone (terms_of c.args.command.now) failed.field-0.0 told.result told.ensures.0 told.ensures.1 _ _ _
    failed.ensures.unmade

pub returns-in_err-answer_without_door-in_default-clause-serves :
    goal.returns-in_err-answer_without_door-in_default-clause-serves
returns-in_err-answer_without_door-in_default-clause-serves g c door =
    let told = c.from_residual-in_err-answer_without_door-in_default in
    absurd (run_no_door c.in_err-answer_without_door-in_default.field-0.0 told.result told.ensures.1 door)

pub returns-in_err-answer_without_door-in_default-clause-not_read_fault :
    goal.returns-in_err-answer_without_door-in_default-clause-not_read_fault
returns-in_err-answer_without_door-in_default-clause-not_read_fault g c =
    let told = c.from_residual-in_err-answer_without_door-in_default in
    run_no_read c.in_err-answer_without_door-in_default.field-0.0 told.result told.ensures.1

pub returns-in_err-answer_without_door-in_default-clause-rack_faults :
    goal.returns-in_err-answer_without_door-in_default-clause-rack_faults
returns-in_err-answer_without_door-in_default-clause-rack_faults g c =
    let failed = c.in_err-answer_without_door-in_default in
    let told = c.from_residual-in_err-answer_without_door-in_default in
    run_rises failed.field-0.0 told.result told.ensures.0 told.ensures.1 failed.ensures.rack_faults

pub returns-in_err-answer_without_door-in_default-clause-door_faults :
    goal.returns-in_err-answer_without_door-in_default-clause-door_faults
returns-in_err-answer_without_door-in_default-clause-door_faults g c =
    let told = c.from_residual-in_err-answer_without_door-in_default in
    run_keeps_door c.in_err-answer_without_door-in_default.field-0.0 told.result told.ensures.1
    (g.D.Door.faults c.args.door.now)
