use Rattle.std.proofs.Common.{IfErr, inl, inr}
use Rattle.session_input.specs.Deserved.{Deserves, BreaksInRun, Tells}
use Rattle.session_input.specs.Recording.{BreaksInRecord, TellsNotOne}
use Rattle.session_input.proofs.Told.{handed_on, told_by}
use Rattle.session_input.proofs.recording.read_for_record.Goals as goal

pub returns-in_err-check_boards-clause-refused : goal.returns-in_err-check_boards-clause-refused
returns-in_err-check_boards-clause-refused c =
    let stated = c.in_ok-stated.stated in
    let session = stated.session in
    let told : IfErr c.from_residual-in_err-check_boards.result (Tells (TellsNotOne session.boards)) =
    handed_on (Tells (TellsNotOne session.boards)) c.from_residual-in_err-check_boards.result c.in_err-check_boards.field-0.0
    c.from_residual-in_err-check_boards.ensures.1 c.in_err-check_boards.ensures.refused in
    told_by c.from_residual-in_err-check_boards.result (TellsNotOne session.boards)
    (Deserves BreaksInRecord c.args.bytes.now)
    (λ r broken. inr (record {
      fits = c.in_ok-stated.ensures.fits;
      session = session;
      policy = stated.policy;
      stands = c.in_ok-stated.ensures.stands;
      broken = inl broken;
    }))
    told

pub returns-clause-refused : goal.returns-clause-refused
returns-clause-refused c =
    let stated = c.in_ok-stated.stated in
    told_by c.with_steps.result (BreaksInRun stated.session stated.policy) (Deserves BreaksInRecord c.args.bytes.now)
    (λ r broken. inr (record {
      fits = c.in_ok-stated.ensures.fits;
      session = stated.session;
      policy = stated.policy;
      stands = c.in_ok-stated.ensures.stands;
      broken = inr (c.in_ok-check_boards.ensures.one, broken);
    }))
    c.with_steps.ensures.refused
