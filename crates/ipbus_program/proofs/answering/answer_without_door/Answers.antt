use Rattle.std.proofs.Common.{◌∙◌, ap, sym}
use Rattle.board_greeting.specs.Reports.{shown_by}
use Rattle.command_words.specs.declared.command.Command.TheVariants.{Check}
use Rattle.ipbus_program.proofs.Answered.{told_answered, told_failed}
use Rattle.ipbus_program.proofs.answering.answer_without_door.Goals as goal

-- ---- commands that run over links

pub returns-in-Run : goal.returns-in-Run
returns-in-Run g c = record {
  leaves = rw c.in-Run.is c.run_document.ensures.leaves;
  refused = c.run_document.ensures.refused;
  unmade = λ none. absurd (let never = rw c.in-Run.is at none in cc);
  rack_faults = c.run_document.ensures.rack_faults;
}

pub returns-in-Load-clause-leaves : goal.returns-in-Load-clause-leaves
returns-in-Load-clause-leaves g c = rw c.in-Load.is (c.answer_load.ensures.leaves c.args.bytes.now)

pub returns-in-Load-clause-unmade : goal.returns-in-Load-clause-unmade
returns-in-Load-clause-unmade g c none = absurd (let never = rw c.in-Load.is at none in cc)

pub returns-in-Load-clause-rack_faults : goal.returns-in-Load-clause-rack_faults
returns-in-Load-clause-rack_faults g c = c.answer_load.ensures.rack_faults

pub returns-in-Record : goal.returns-in-Record
returns-in-Record g c = record {
  leaves = rw c.in-Record.is c.record_document.ensures.leaves;
  refused = c.record_document.ensures.refused;
  unmade = λ none. absurd (let never = rw c.in-Record.is at none in cc);
  rack_faults = c.record_document.ensures.rack_faults;
}

pub returns-in-Save : goal.returns-in-Save
returns-in-Save g c = record {
  leaves = rw c.in-Save.is c.save_document.ensures.leaves;
  refused = c.save_document.ensures.refused;
  unmade = λ none. absurd (let never = rw c.in-Save.is at none in cc);
  rack_faults = c.save_document.ensures.rack_faults;
}

pub returns-in-Apply : goal.returns-in-Apply
returns-in-Apply g c = record {
  leaves = rw c.in-Apply.is c.apply_document.ensures.leaves;
  refused = c.apply_document.ensures.refused;
  unmade = λ none. absurd (let never = rw c.in-Apply.is at none in cc);
  rack_faults = c.apply_document.ensures.rack_faults;
}

-- ---- commands that make none

pub returns-in_ok-check_document-in-Check-clause-leaves : goal.returns-in_ok-check_document-in-Check-clause-leaves
returns-in_ok-check_document-in-Check-clause-leaves g c =
    let answered = c.in_ok-check_document-in-Check in
    let is = c.in-Check.is ∙ sym (ap Check c.as_str.ensures) in
    told_answered (shown_by g.R.L.Link) _ c.args.command.now c.args.bytes.now _ _ is answered.field-0
    answered.ensures.owed

pub returns-in_err-check_document-in-Check-clause-leaves : goal.returns-in_err-check_document-in-Check-clause-leaves
returns-in_err-check_document-in-Check-clause-leaves g c =
    let told = c.from_residual in
    told_failed (shown_by g.R.L.Link) _ c.args.command.now c.args.bytes.now _ told.result told.ensures.0 told.ensures.1

pub returns-in_ok-audit_answer-in-Audit-clause-leaves : goal.returns-in_ok-audit_answer-in-Audit-clause-leaves
returns-in_ok-audit_answer-in-Audit-clause-leaves g c =
    let answered = c.in_ok-audit_answer-in-Audit in
    told_answered (shown_by g.R.L.Link) _ c.args.command.now c.args.bytes.now _ _ c.in-Audit.is answered.field-0
    answered.ensures.owed

pub returns-in_err-audit_answer-in-Audit-clause-leaves : goal.returns-in_err-audit_answer-in-Audit-clause-leaves
returns-in_err-audit_answer-in-Audit-clause-leaves g c =
    let told = c.from_residual-in_err-audit_answer-in-Audit in
    told_failed (shown_by g.R.L.Link) _ c.args.command.now c.args.bytes.now _ told.result told.ensures.0 told.ensures.1

pub returns-in_ok-describe_answer-in-Describe-clause-leaves :
    goal.returns-in_ok-describe_answer-in-Describe-clause-leaves
returns-in_ok-describe_answer-in-Describe-clause-leaves g c =
    let answered = c.in_ok-describe_answer-in-Describe in
    told_answered (shown_by g.R.L.Link) _ c.args.command.now c.args.bytes.now _ _ c.in-Describe.is answered.field-0
    answered.ensures.owed

pub returns-in_err-describe_answer-in-Describe-clause-leaves :
    goal.returns-in_err-describe_answer-in-Describe-clause-leaves
returns-in_err-describe_answer-in-Describe-clause-leaves g c =
    let told = c.from_residual-in_err-describe_answer-in-Describe in
    told_failed (shown_by g.R.L.Link) _ c.args.command.now c.args.bytes.now _ told.result told.ensures.0 told.ensures.1

pub returns-in_ok-undescribe_answer-in-Undescribe-clause-leaves :
    goal.returns-in_ok-undescribe_answer-in-Undescribe-clause-leaves
returns-in_ok-undescribe_answer-in-Undescribe-clause-leaves g c =
    let answered = c.in_ok-undescribe_answer-in-Undescribe in
    told_answered (shown_by g.R.L.Link) _ c.args.command.now c.args.bytes.now _ _ c.in-Undescribe.is answered.field-0
    answered.ensures.owed

pub returns-in_err-undescribe_answer-in-Undescribe-clause-leaves :
    goal.returns-in_err-undescribe_answer-in-Undescribe-clause-leaves
returns-in_err-undescribe_answer-in-Undescribe-clause-leaves g c =
    let told = c.from_residual-in_err-undescribe_answer-in-Undescribe in
    told_failed (shown_by g.R.L.Link) _ c.args.command.now c.args.bytes.now _ told.result told.ensures.0 told.ensures.1
