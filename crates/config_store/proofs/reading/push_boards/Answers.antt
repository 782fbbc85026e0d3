use Rattle.std.proofs.Common.{◌≡◌, ◌∷◌, ◌++◌, ◌∙◌, [], string_bytes, refl, sym, subst, ap, append_assoc}
use Rattle.std.specs.List.Sorted.{IsStrictlySortedBy}
use Rattle.std.specs.String.{string_cmp}
use Rattle.toml.specs.View.{view, members_view, table_view}
use Rattle.script_lang.proofs.TableLists.{names_of, ordered_parts}
use Rattle.config_store.specs.Order.{AreInOrder}
use Rattle.config_store.specs.Refusals.{TellsFirst}
use Rattle.config_store.specs.States as spec
use Rattle.config_store.proofs.Faults.{front_fault, handed_on}
use Rattle.config_store.proofs.InOrder.{next_board, none_in_order}
use Rattle.config_store.proofs.reading.push_boards.Goals as goal

pub returns-in_err-push_board-clause-first : goal.returns-in_err-push_board-clause-first
returns-in_err-push_board-clause-first c =
    let refusal = c.in_err-push_board.field-0.0 in
    let board = string_bytes c.in-Some.board.now in
    let told : TellsFirst (spec.table_faults board (view c.in-Some.value.now)) refusal =
    subst (λ name. TellsFirst (spec.table_faults name (view c.in-Some.value.now)) refusal) c.as_str.ensures.value
    c.in_err-push_board.ensures.first in
    let first : TellsFirst (spec.board_faults (members_view c.loop-board.board-iterator)) refusal =
    rw c.in-Some.ensures.steps
    (front_fault (spec.table_faults board (view c.in-Some.value.now)) (spec.board_faults (members_view c.next.new.self))
    refusal told) in
    handed_on (TellsFirst (spec.board_faults (table_view c.args.boards.now))) c.from_residual.result refusal
    c.from_residual.ensures.1
    (subst (λ faults. TellsFirst faults refusal) c.loop-board.invariant.faults first)

pub loop-board-init : goal.loop-board-init
loop-board-init c =
    rw (c.into_iter-board-iterator.ensures.into_iter_gives, c.iter-board-items.ensures.rest)
    (record { read = refl; faults = refl; rising = c.iter-board-items.ensures.ordered; ordered = λ h. h })

pub loop-board-preserved : goal.loop-board-preserved
loop-board-preserved c =
    let board = c.in-Some.board.now in
    let value = c.in-Some.value.now in
    let rest = c.next.new.self in
    let steps = c.in-Some.ensures.steps in
    let rising : IsStrictlySortedBy string_cmp (names_of ((board, value) ∷ rest)) =
    subst (λ es. IsStrictlySortedBy string_cmp (names_of es)) steps c.loop-board.invariant.rising in
    let parts = ordered_parts board value rest rising in
    let all : AreInOrder (spec.boards_entries (members_view ((board, value) ∷ rest)))
    → AreInOrder (spec.boards_entries (table_view c.args.boards.now)) =
    subst (λ es. AreInOrder (spec.boards_entries (members_view es)) → AreInOrder (spec.boards_entries (table_view c.args.boards.now)))
    steps c.loop-board.invariant.ordered in
    let here : AreInOrder (spec.table_entries (string_bytes board) (view value)) =
    subst (λ name. AreInOrder (spec.table_entries name (view value))) c.as_str.ensures.value c.in_ok-push_board.ensures.ordered in
    let none : spec.table_faults (string_bytes board) (view value) ≡ [] =
    subst (λ name. spec.table_faults name (view value) ≡ []) c.as_str.ensures.value c.in_ok-push_board.ensures.none in
    let left : spec.board_faults (members_view ((board, value) ∷ rest)) ≡ spec.board_faults (table_view c.args.boards.now) =
    subst (λ es. spec.board_faults (members_view es) ≡ spec.board_faults (table_view c.args.boards.now)) steps
    c.loop-board.invariant.faults in
    record {
      read = rw (c.in_ok-push_board.ensures.read, c.as_str.ensures.value, append_assoc)
          (subst (λ es. c.loop-board.entries.items ++ spec.boards_entries (members_view es)
          ≡ c.args.entries.now.items ++ spec.boards_entries (table_view c.args.boards.now)) steps
          c.loop-board.invariant.read);
      faults = sym (ap (λ front. front ++ spec.board_faults (members_view rest)) none) ∙ left;
      rising = parts.1;
      ordered = λ later. all (next_board board value rest parts.0 here later);
    }

pub returns-clause-ordered : goal.returns-clause-ordered
returns-clause-ordered c =
    c.loop-board.invariant.ordered
    (subst (λ es. AreInOrder (spec.boards_entries (members_view es))) (sym c.in-None.ensures.steps.0) none_in_order)
