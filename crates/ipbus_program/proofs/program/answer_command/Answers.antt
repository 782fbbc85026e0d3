use Rattle.std.proofs.Common.{[], inl, refl, ap, subst, Ok, Err}
use Rattle.std.specs.Prelude.{IfNone, IfSome}
use Rattle.board_greeting.specs.Reports.{shown_by}
use Rattle.session_serve.specs.Serving.{AreBack}
use Rattle.command_terms.specs.Leaving.{Leaves}
use Rattle.command_terms.specs.Outside.{no_pairs}
use Rattle.command_terms.proofs.Pairs.{therefore, without_pairs}
use Rattle.serve_command.proofs.Ports.{failed_listens}
use Rattle.ipbus_program.specs.Commands.{terms_of}
use Rattle.ipbus_program.specs.declared.no_answer.NoAnswer.TheVariants.{NoMemory, RackFault}
use Rattle.ipbus_program.specs.Steps.{InputLeaves, IsFailure, IsInputOf, IsTooLong}
use Rattle.ipbus_program.proofs.Answered.{none_in_frames}
use Rattle.ipbus_program.proofs.Causes.{long_answered}
use Rattle.ipbus_program.proofs.Reading.{failure_untouched, input_left, input_untouched}
use Rattle.ipbus_program.proofs.program.answer_command.Goals as goal

pub returns-in-Some-clause-leaves : goal.returns-in-Some-clause-leaves
returns-in-Some-clause-leaves g c =
    let shown = shown_by g.R.L.Link in
    let before = g.S.Source.left c.args.input.now in
    let now = g.S.Source.left c.input_for.new.input in
    let made = g.R.Rack.made c.args.rack.now in
    let makes = g.R.Rack.made c.answer_to.new.rack in
    let terms = terms_of c.args.command.now in
    let whole : IsInputOf terms before now c.in-Some.bytes.items =
    subst (λ read. IfSome read (λ bytes. IsInputOf terms before now bytes.items)) c.in-Some.is
    c.in_ok-bytes.ensures.whole in
    therefore shown g.D.Incoming.Source g.D.Outgoing.Sink _ _ _ _ _ _
    (Leaves AreBack IsFailure RackFault terms c.deref.result.now made makes c.answer_to.result)
    (InputLeaves terms before now made makes c.answer_to.result)
    (λ given leaves. input_left terms before now c.input_for.ensures.taken (c.terms_are_terms.ensures c.args.command.now)
    c.in-Some.bytes.items whole made makes given c.answer_to.result
    c.answer_to.ensures.not_read_fault c.answer_to.ensures.serves
    (subst (λ bytes. Leaves AreBack IsFailure RackFault terms bytes made makes c.answer_to.result given)
    c.deref.ensures.value leaves))
    c.answer_to.ensures.leaves

pub returns-in_ok-too_long-in-None-clause-leaves : goal.returns-in_ok-too_long-in-None-clause-leaves
returns-in_ok-too_long-in-None-clause-leaves g c =
    let shown = shown_by g.R.L.Link in
    let before = g.S.Source.left c.args.input.now in
    let now = g.S.Source.left c.input_for.new.input in
    let made = g.R.Rack.made c.args.rack.now in
    let terms = terms_of c.args.command.now in
    let answer = c.in_ok-too_long-in-None.field-0 in
    let long : IsTooLong terms before now =
    subst (λ read. IfNone read (IsTooLong terms before now)) c.in-None.is c.in_ok-bytes.ensures.too_long in
    without_pairs shown g.D.Incoming.Source g.D.Outgoing.Sink _ _ _ _ _ _ refl refl
    (InputLeaves terms before now made made (Ok answer))
    (input_untouched terms before now c.input_for.ensures.taken shown _ _ (Ok answer)
    (long_answered terms (c.terms_are_terms.ensures c.args.command.now) before now (no_pairs []) answer.status
    answer.text.items long c.in_ok-too_long-in-None.ensures.status c.in_ok-too_long-in-None.ensures.text)
    (λ failed. absurd cc) (λ fault never. absurd cc))

pub returns-in_err-too_long-in-None-clause-leaves : goal.returns-in_err-too_long-in-None-clause-leaves
returns-in_err-too_long-in-None-clause-leaves g c =
    let shown = shown_by g.R.L.Link in
    let before = g.S.Source.left c.args.input.now in
    let now = g.S.Source.left c.input_for.new.input in
    let made = g.R.Rack.made c.args.rack.now in
    let terms = terms_of c.args.command.now in
    let result = c.from_residual-in_err-too_long-in-None.result in
    without_pairs shown g.D.Incoming.Source g.D.Outgoing.Sink _ _ _ _ _ _ refl refl
    (InputLeaves terms before now made made result)
    (failure_untouched terms before now c.input_for.ensures.taken shown _ _ result NoMemory
    c.from_residual-in_err-too_long-in-None.ensures.0 c.from_residual-in_err-too_long-in-None.ensures.1
    (λ failed. failed) (λ same. absurd cc))

pub returns-in_err-bytes-clause-leaves : goal.returns-in_err-bytes-clause-leaves
returns-in_err-bytes-clause-leaves g c =
    let shown = shown_by g.R.L.Link in
    let before = g.S.Source.left c.args.input.now in
    let now = g.S.Source.left c.input_for.new.input in
    let made = g.R.Rack.made c.args.rack.now in
    let terms = terms_of c.args.command.now in
    let why = c.in_err-bytes.field-0.0 in
    without_pairs shown g.D.Incoming.Source g.D.Outgoing.Sink _ _ _ _ _ _ refl refl
    (InputLeaves terms before now made made c.from_residual.result)
    (failure_untouched terms before now c.input_for.ensures.taken shown _ _ c.from_residual.result why
    c.from_residual.ensures.0 c.from_residual.ensures.1
    c.in_err-bytes.ensures.no_failure (λ same. c.in_err-bytes.ensures.reads (ap Err same)))

pub returns-in_ok-too_long-in-None-clause-listens : goal.returns-in_ok-too_long-in-None-clause-listens
returns-in_ok-too_long-in-None-clause-listens g c port count asked =
    (λ done. absurd (done c.in_ok-too_long-in-None.ensures.status), inl refl)

pub returns-in_err-too_long-in-None-clause-listens : goal.returns-in_err-too_long-in-None-clause-listens
returns-in_err-too_long-in-None-clause-listens g c port count asked =
    let ports = g.D.Door.ports c.args.door.now in
    failed_listens port ports ports c.from_residual-in_err-too_long-in-None.result
    c.from_residual-in_err-too_long-in-None.ensures.0 (inl refl)

pub returns-in_err-bytes-clause-listens : goal.returns-in_err-bytes-clause-listens
returns-in_err-bytes-clause-listens g c port count asked =
    let ports = g.D.Door.ports c.args.door.now in
    failed_listens port ports ports c.from_residual.result c.from_residual.ensures.0 (inl refl)

pub returns-in_ok-too_long-in-None-clause-in_frames : goal.returns-in_ok-too_long-in-None-clause-in_frames
returns-in_ok-too_long-in-None-clause-in_frames g c port count asked =
    none_in_frames (shown_by g.R.L.Link) g.D.Incoming.Source g.D.Outgoing.Sink _ _ _

pub returns-in_err-too_long-in-None-clause-in_frames : goal.returns-in_err-too_long-in-None-clause-in_frames
returns-in_err-too_long-in-None-clause-in_frames g c port count asked =
    none_in_frames (shown_by g.R.L.Link) g.D.Incoming.Source g.D.Outgoing.Sink _ _ _

pub returns-in_err-bytes-clause-in_frames : goal.returns-in_err-bytes-clause-in_frames
returns-in_err-bytes-clause-in_frames g c port count asked =
    none_in_frames (shown_by g.R.L.Link) g.D.Incoming.Source g.D.Outgoing.Sink _ _ _

pub returns-in-Some-clause-input_faults : goal.returns-in-Some-clause-input_faults
returns-in-Some-clause-input_faults g c =
    let faults = c.in_ok-bytes.ensures.faults in
    (λ failed. absurd (c.answer_to.ensures.not_read_fault failed), faults.1, λ calm. faults.2 (λ never. cc))

pub returns-in-Some-clause-rack_faults : goal.returns-in-Some-clause-rack_faults
returns-in-Some-clause-rack_faults g c = c.answer_to.ensures.rack_faults

pub returns-in-Some-clause-door_faults : goal.returns-in-Some-clause-door_faults
returns-in-Some-clause-door_faults g c = c.answer_to.ensures.door_faults

pub returns-in-Some-clause-in_frames : goal.returns-in-Some-clause-in_frames
returns-in-Some-clause-in_frames g c = c.answer_to.ensures.in_frames

pub returns-in-Some-clause-alone : goal.returns-in-Some-clause-alone
returns-in-Some-clause-alone g c = c.answer_to.ensures.alone

pub returns-in-Some-clause-listens : goal.returns-in-Some-clause-listens
returns-in-Some-clause-listens g c = c.answer_to.ensures.listens

pub returns-in-Some-clause-unread : goal.returns-in-Some-clause-unread
returns-in-Some-clause-unread g c = c.input_for.ensures.unread
