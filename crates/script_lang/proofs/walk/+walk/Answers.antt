use Rattle.std.proofs.Common.{◌≡◌, ◌<◌, ◌≤◌, get_or, length, string_bytes, subst, ap, ◌∙◌, arith}
use Rattle.toml.specs.Data.{depth, items_depth}
use Rattle.toml.specs.View.{view, array_view, members_view, table_view}
use Rattle.script_lang.specs.Forms.{form_keys}
use Rattle.script_lang.specs.Keys.{kind_at}
use Rattle.script_lang.specs.Reading.{TellsFirst}
use Rattle.script_lang.specs.Walk.{below, keys_faults, missing, table_faults, value_faults}
use Rattle.script_lang.specs.declared.steps.PathStep.TheVariants.{Key}
use Rattle.script_lang.proofs.Faults.{is_table, first-front, first-item, first-key, depth-item}
use Rattle.script_lang.proofs.HandedOn.{handed_on}
use Rattle.script_lang.proofs.walk.+walk.Goals as goal

pub check_item-returns-in-Some-clause-none : goal.check_item-returns-in-Some-clause-none
check_item-returns-in-Some-clause-none t c =
    rw (c.in-Table.is, is_table _ _ c.in-Some.ensures, ← c.form_of.ensures) c.check_table.ensures.none

pub check_items-check_item-requires : goal.check_items-check_item-requires
check_items-check_item-requires t c =
    let within : c.loop-i.i < length c.args.items.now.items =
    subst (λ vs. c.loop-i.i < length vs) c.deref-item-items.ensures.value c.loop-i-test.true in
    let here : c.item-item.result ≡ get_or c.args.items.now.items c.loop-i.i c.item-item.result =
    c.item-item.is ∙ ap (λ vs. get_or vs c.loop-i.i c.item-item.result) c.deref-item-items.ensures.value in
    let shallower : depth (view c.item-item.result) ≤ items_depth (array_view c.args.items.now) =
    depth-item _ _ _ within here in
    (omega arith, tt)

pub check_items-returns-in-Err-clause-first : goal.check_items-returns-in-Err-clause-first
check_items-returns-in-Err-clause-first t c =
    let within : c.loop-i.i < length c.args.items.now.items =
    subst (λ vs. c.loop-i.i < length vs) c.deref-item-items.ensures.value c.loop-i-test.true in
    let here : c.item-item.result ≡ get_or c.args.items.now.items c.loop-i.i c.item-item.result =
    c.item-item.is ∙ ap (λ vs. get_or vs c.loop-i.i c.item-item.result) c.deref-item-items.ensures.value in
    subst (λ ways. TellsFirst ways c.below_item.result) c.loop-i.invariant
    (first-item _ _ _ _ c.below_item.result within here (c.below_item.ensures _ c.in-Err.ensures.first))

pub check_keys-returns-in-Err-clause-first : goal.check_keys-returns-in-Err-clause-first
check_keys-returns-in-Err-clause-first t c =
    let faults =
    value_faults (kind_at (form_keys c.args.form) (string_bytes c.in-Some.name.now)) (view c.in-Some.value.now) in
    let found : TellsFirst faults c.in-Err.misfit =
    rw (← c.as_str.ensures.value, ← c.kind_at.ensures) c.in-Err.ensures.first in
    let told : TellsFirst (below (Key (string_bytes c.in-Some.name.now)) faults) c.below_key.result =
    subst (λ name. TellsFirst (below (Key name) faults) c.below_key.result) c.as_str-in-Err.ensures.value
    (c.below_key.ensures faults found) in
    let first : TellsFirst
    (keys_faults (form_keys c.args.form) (members_view c.loop-name.name-iterator)) c.below_key.result = rw
    c.in-Some.ensures.steps
    (first-key (form_keys c.args.form) c.in-Some.name.now c.in-Some.value.now c.next.new.self c.below_key.result
    told) in
    subst (λ ways. TellsFirst ways c.below_key.result) c.loop-name.invariant.faults first

pub check_table-returns-in_err-check_keys-clause-first : goal.check_table-returns-in_err-check_keys-clause-first
check_table-returns-in_err-check_keys-clause-first t c =
    let keys = form_keys c.args.form in
    let members = table_view c.args.members.now in
    let broken = c.in_err-check_keys in
    handed_on (TellsFirst (table_faults keys members)) c.from_residual.result broken.field-0.0 c.from_residual.ensures.1
    (first-front (keys_faults keys members) (missing keys members) broken.field-0.0 broken.ensures.first)

pub check_table-returns-clause-none : goal.check_table-returns-clause-none
check_table-returns-clause-none t c = rw c.in_ok-check_keys.ensures.none c.check_missing.ensures.none

pub check_table-returns-clause-first : goal.check_table-returns-clause-first
check_table-returns-clause-first t c = rw c.in_ok-check_keys.ensures.none c.check_missing.ensures.first
