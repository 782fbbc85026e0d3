use Rattle.std.specs.List.Sorted.{IsStrictlySortedBy}
use Rattle.std.specs.String.{string_cmp}
use Rattle.std.proofs.Common.{◌≡◌, ◌∷◌, string_bytes, refl, subst, sym, ◌∙◌}
use Rattle.address_table.specs.Tables.{table_fault}
use Rattle.toml.specs.View.{view, table_view, members_view}
use Rattle.script_lang.specs.Document.{TellsFault, tables_faults}
use Rattle.script_lang.specs.Reading.{table_fault_list}
use Rattle.script_lang.proofs.TableLists.{ArePending, names_of, are_pending, ordered_parts, next_pending, first-table}
use Rattle.script_lang.proofs.TableLists.{past-table}
use Rattle.script_lang.proofs.tables.each_table.Goals as goal

pub loop-name-init : goal.loop-name-init
loop-name-init c =
    rw (c.into_iter-name-iterator.ensures.into_iter_gives, c.iter-name-items.ensures.rest, c.new-tables.ensures)
    (record {
      pending = are_pending c.args.format (table_view c.args.members.now);
      ordered = c.iter-name-items.ensures.ordered;
      faults = refl;
    })

pub loop-name-preserved : goal.loop-name-preserved
loop-name-preserved c =
    let name = c.in-Some.name.now in
    let value = c.in-Some.value.now in
    let rest = c.next.new.self in
    let format = c.args.format in
    let all = table_view c.args.members.now in
    let steps = c.in-Some.ensures.steps in
    let pending : ArePending format (members_view ((name, value) ∷ rest)) all c.loop-name.tables =
    subst (λ es. ArePending format (members_view es) all c.loop-name.tables) steps c.loop-name.invariant.pending in
    let ordered =
    ordered_parts name value rest
    (subst (λ es. IsStrictlySortedBy string_cmp (names_of es)) steps c.loop-name.invariant.ordered) in
    let faults : tables_faults format (members_view ((name, value) ∷ rest)) ≡ tables_faults format all =
    subst (λ es. tables_faults format (members_view es) ≡ tables_faults format all) steps c.loop-name.invariant.faults in
    record {
      pending =
          rw (c.in_ok-put-in-Ok.ensures.ok, c.as_str.ensures.value)
          (next_pending format name value rest all c.loop-name.tables c.in-Ok.table ordered.0 c.in-Ok.ensures.read
          pending);
      ordered = ordered.1;
      faults = sym (past-table format name value rest c.in-Ok.ensures.accepted) ∙ faults;
    }

pub returns-in-Err-clause-first : goal.returns-in-Err-clause-first
returns-in-Err-clause-first c =
    let format = c.args.format in
    let fault = table_fault format (view c.in-Some.value.now) in
    let told : TellsFault (table_fault_list (string_bytes c.in-Some.name.now) fault) c.refused_table.result =
    subst (λ name. TellsFault (table_fault_list name fault) c.refused_table.result) c.as_str-in-Err.ensures.value
    (c.refused_table.ensures fault c.in-Err.ensures.refused) in
    let first : TellsFault (tables_faults format (members_view c.loop-name.name-iterator)) c.refused_table.result =
    rw c.in-Some.ensures.steps
    (first-table format c.in-Some.name.now c.in-Some.value.now c.next.new.self c.refused_table.result told) in
    subst (λ faults. TellsFault faults c.refused_table.result) c.loop-name.invariant.faults first
