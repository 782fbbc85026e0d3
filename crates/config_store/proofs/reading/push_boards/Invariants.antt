use Rattle.std.proofs.Common.{◌≡◌, ◌++◌}
use Rattle.std.specs.List.Sorted.{IsStrictlySortedBy}
use Rattle.std.specs.String.{string_cmp}
use Rattle.script_lang.proofs.TableLists.{names_of}
use Rattle.toml.specs.View.{members_view, table_view}
use Rattle.config_store.specs.Order.{AreInOrder}
use Rattle.config_store.specs.States as spec
use Rattle.config_store.proofs.reading.push_boards.Given as goal

-- the values so far and those of the boards that are left, the faults of these, and that all are in order if these are
abbrev pub invariant-loop-board : goal.invariant-loop-board
invariant-loop-board l = record {
  read : l.entries.items ++ spec.boards_entries (members_view l.board-iterator)
      ≡ l.fn.entries.items ++ spec.boards_entries (table_view l.boards);
  faults : spec.board_faults (members_view l.board-iterator) ≡ spec.board_faults (table_view l.boards);
  rising : IsStrictlySortedBy string_cmp (names_of l.board-iterator);
  ordered : AreInOrder (spec.boards_entries (members_view l.board-iterator))
      → AreInOrder (spec.boards_entries (table_view l.boards));
}
