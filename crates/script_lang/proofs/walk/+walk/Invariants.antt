use Rattle.std.proofs.Common.{◌≡◌, ◌≤◌, ◌+◌, ◌*◌, drop}
use Rattle.toml.specs.Data.{depth, items_depth, members_depth}
use Rattle.toml.specs.View.{view, items_view, members_view, array_view, table_view}
use Rattle.script_lang.specs.Forms.{form_keys}
use Rattle.script_lang.specs.Walk.{items_faults, keys_faults}
use Rattle.script_lang.proofs.walk.+walk.Given as goal

-- a value is as deep as what it holds and one level more
abbrev pub decreases-check_value : goal.decreases-check_value
decreases-check_value l = 6 * depth (view l.value.now) + 3

abbrev pub decreases-check_items : goal.decreases-check_items
decreases-check_items l = 6 * items_depth (array_view l.items.now) + 6

abbrev pub decreases-check_item : goal.decreases-check_item
decreases-check_item l = 6 * depth (view l.value.now) + 5

abbrev pub decreases-check_table : goal.decreases-check_table
decreases-check_table l = 6 * members_depth (table_view l.members.now) + 5

abbrev pub decreases-check_keys : goal.decreases-check_keys
decreases-check_keys l = 6 * members_depth (table_view l.members.now) + 4

-- the faults are those of what is left
abbrev pub invariant-check_items-loop-i : goal.invariant-check_items-loop-i
invariant-check_items-loop-i l =
    items_faults l.kind l.i (items_view (drop l.i l.items.items)) ≡ items_faults l.kind 0 (array_view l.items)

abbrev pub invariant-check_keys-loop-name : goal.invariant-check_keys-loop-name
invariant-check_keys-loop-name l = record {
  faults : keys_faults (form_keys l.form) (members_view l.name-iterator)
      ≡ keys_faults (form_keys l.form) (table_view l.members);
  shallow : members_depth (members_view l.name-iterator) ≤ members_depth (table_view l.members);
}
