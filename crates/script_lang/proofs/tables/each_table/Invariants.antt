use Rattle.std.proofs.Common.{◌≡◌}
use Rattle.std.specs.List.Sorted.{IsStrictlySortedBy}
use Rattle.std.specs.String.{string_cmp}
use Rattle.toml.specs.View.{members_view, table_view}
use Rattle.script_lang.specs.Document.{tables_faults}
use Rattle.script_lang.proofs.TableLists.{ArePending, names_of}
use Rattle.script_lang.proofs.tables.each_table.Given as goal

-- the tables so far, and those that are left
abbrev pub invariant-loop-name : goal.invariant-loop-name
invariant-loop-name l = record {
  pending : ArePending l.format (members_view l.name-iterator) (table_view l.members) l.tables;
  ordered : IsStrictlySortedBy string_cmp (names_of l.name-iterator);
  faults : tables_faults l.format (members_view l.name-iterator) ≡ tables_faults l.format (table_view l.members);
}
