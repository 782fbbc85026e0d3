use Rattle.std.proofs.Common.{◌≤◌, length, ap, inr, ◌∙◌}
use Rattle.std.specs.List.{AllByRecursion}
use Rattle.access_policy.specs.Decisions.{names_of, ruled_scripts}
use Rattle.script_lang.specs.declared.script_refusal.TheConstants.{MAX_LINES}
use Rattle.script_lang.specs.Scripts.{script_faults}
use Rattle.script_steps.specs.Packing.{CanBePacked, HaveFewPieces}
use Rattle.session_input.specs.Deserved.{Tells, TellsLine}
use Rattle.session_input.proofs.Ruled.{all_still, short_still}
use Rattle.session_input.proofs.Told.{handed_on, told_by}
use Rattle.audit_command.specs.Boards.{BreaksInAudit}
use Rattle.audit_command.proofs.Sessions.{each_simulated, have_buses}
use Rattle.audit_command.proofs.reading.audited_steps.Goals as goal

pub returns-clause-packed : goal.returns-clause-packed
returns-clause-packed c =
    all_still (AllByRecursion CanBePacked) c.what_is_denied_asks_for_less.ensures.packed c.args.policy
    (names_of c.args.session.now.boards) c.in_ok-steps.steps.items c.in_ok-under_policy.field-0.items
    c.in_ok-under_policy.ensures c.in_ok-steps.ensures.packed

pub returns-clause-few : goal.returns-clause-few
returns-clause-few c =
    all_still HaveFewPieces c.what_is_denied_asks_for_less.ensures.few c.args.policy
    (names_of c.args.session.now.boards) c.in_ok-steps.steps.items c.in_ok-under_policy.field-0.items
    c.in_ok-under_policy.ensures c.in_ok-steps.ensures.few

pub returns-clause-short : goal.returns-clause-short
returns-clause-short c =
    all_still (λ steps. length steps ≤ MAX_LINES)
    (short_still c.what_is_denied_asks_for_less.ensures.count MAX_LINES) c.args.policy
    (names_of c.args.session.now.boards) c.in_ok-steps.steps.items c.in_ok-under_policy.field-0.items
    c.in_ok-under_policy.ensures c.in_ok-steps.ensures.short

pub returns-clause-simulated : goal.returns-clause-simulated
returns-clause-simulated c =
    each_simulated c.args.session.now.boards (rw c.as_slice-boards.ensures at c.in_ok-check_boards.ensures.taken)

pub returns-clause-runs : goal.returns-clause-runs
returns-clause-runs c =
    let session = c.args.session.now in
    let shown = c.as_slice-boards.ensures in
    let steps = c.in_ok-steps.ensures in record {
      registers = c.in_ok-indexes.indexes.items;
      boards = have_buses session c.in_ok-indexes.indexes.items (rw shown at c.in_ok-indexes.ensures.compile)
          (rw shown at c.in_ok-indexes.ensures.indexes) (rw shown at c.in_ok-check_boards.ensures.taken);
      faultless = rw c.deref.ensures.value at steps.faultless;
      meant = c.in_ok-under_policy.ensures
          ∙ ap (ruled_scripts c.args.policy (names_of session.boards)) (rw c.deref.ensures.value at steps.meant);
    }

pub returns-in_err-steps-clause-refused : goal.returns-in_err-steps-clause-refused
returns-in_err-steps-clause-refused c =
    let session = c.args.session.now in
    let indexes = c.in_ok-indexes.indexes.items in
    let shown = c.as_slice-boards.ensures in
    let taken = rw shown at c.in_ok-check_boards.ensures.taken in
    let TellsFaulty = TellsLine (script_faults session.boards indexes session.scripts) in
    told_by c.from_residual-in_err-steps.result TellsFaulty (BreaksInAudit session c.args.policy)
    (λ r first. inr (inr (
      each_simulated session.boards taken,
      record {
        indexes = indexes;
        boards = have_buses session indexes (rw shown at c.in_ok-indexes.ensures.compile)
            (rw shown at c.in_ok-indexes.ensures.indexes) taken;
        first = first;
      },
    )))
    (handed_on (Tells TellsFaulty) c.from_residual-in_err-steps.result c.in_err-steps.field-0.0
    c.from_residual-in_err-steps.ensures.1 (rw c.deref.ensures.value at c.in_err-steps.ensures.refused))
