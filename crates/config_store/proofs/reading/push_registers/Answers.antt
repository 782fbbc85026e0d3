use Rattle.std.proofs.Common.{◌≡◌, ◌∷◌, ◌++◌, ◌∙◌, [], string_bytes, refl, sym, subst, ap, append_assoc}
use Rattle.toml.specs.View.{view, members_view, table_view}
use Rattle.config_store.specs.Refusals.{TellsFirst}
use Rattle.config_store.specs.States as spec
use Rattle.config_store.proofs.Faults.{front_fault, handed_on}
use Rattle.config_store.proofs.InOrder.{board_in_order}
use Rattle.config_store.proofs.reading.push_registers.Goals as goal

pub returns-in_err-push_register-clause-first : goal.returns-in_err-push_register-clause-first
returns-in_err-push_register-clause-first c =
    let refusal = c.in_err-push_register.field-0.0 in
    let board = c.args.board.now in
    let name = string_bytes c.in-Some.name.now in
    let told : TellsFirst (spec.number_fault board name (view c.in-Some.value.now)) refusal =
    subst (λ name'. TellsFirst (spec.number_fault board name' (view c.in-Some.value.now)) refusal) c.as_str.ensures.value
    c.in_err-push_register.ensures.first in
    let first : TellsFirst (spec.number_faults board (members_view c.loop-name.name-iterator)) refusal =
    rw c.in-Some.ensures.steps
    (front_fault (spec.number_fault board name (view c.in-Some.value.now))
    (spec.number_faults board (members_view c.next.new.self)) refusal told) in
    handed_on (TellsFirst (spec.number_faults board (table_view c.args.registers.now))) c.from_residual.result refusal
    c.from_residual.ensures.1
    (subst (λ faults. TellsFirst faults refusal) c.loop-name.invariant.faults first)

pub loop-name-preserved : goal.loop-name-preserved
loop-name-preserved c =
    let board = c.args.board.now in
    let name = c.in-Some.name.now in
    let value = c.in-Some.value.now in
    let rest = c.next.new.self in
    let steps = c.in-Some.ensures.steps in
    let none : spec.number_fault board (string_bytes name) (view value) ≡ [] =
    subst (λ name'. spec.number_fault board name' (view value) ≡ []) c.as_str.ensures.value
    c.in_ok-push_register.ensures.none in
    let left : spec.number_faults board (members_view ((name, value) ∷ rest))
    ≡ spec.number_faults board (table_view c.args.registers.now) =
    subst (λ es. spec.number_faults board (members_view es) ≡ spec.number_faults board (table_view c.args.registers.now))
    steps c.loop-name.invariant.faults in
    record {
      read = rw (c.in_ok-push_register.ensures.read, c.as_str.ensures.value, append_assoc)
          (subst (λ es. c.loop-name.entries.items ++ spec.board_entries board (members_view es)
          ≡ c.args.entries.now.items ++ spec.board_entries board (table_view c.args.registers.now)) steps
          c.loop-name.invariant.read);
      faults = sym (ap (λ front. front ++ spec.number_faults board (members_view rest)) none) ∙ left;
    }

pub returns-clause-ordered : goal.returns-clause-ordered
returns-clause-ordered c =
    board_in_order c.args.board.now c.args.registers.now.entries c.iter-name-items.ensures.ordered
