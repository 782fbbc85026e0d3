-- The names of a session's boards, and those of the registers of its tables, have no line feed.
use Rattle.std.proofs.Common.{◌≡◌, true, List, [], ◌∷◌, Some}
use Rattle.std.specs.List.{AllByRecursion, AllZip}
use Rattle.std.specs.FinMap.{get}
use Rattle.ipb_base.proofs.AllLemmas.{all-map}
use Rattle.toml.specs.Data.{Members}
use Rattle.address_table.specs.Rules.{is_id}
use Rattle.board_specs.specs.declared.spec.BoardSpec.{BoardSpec}
use Rattle.node_tree.specs.Maps.{AreValidTables, Name, RegisterMap, TableMap}
use Rattle.node_tree.specs.declared.register.Register.{Register}
use Rattle.script_lang.specs.Document.{IsSession}
use Rattle.script_lang.specs.declared.session.Session.{Session}
use Rattle.script_lang.proofs.BoardIds.{boards_have_ids}
use Rattle.script_lang.proofs.ValidTables.{valid_tables}
use Rattle.session_input.specs.Deserved.{HasIndex}
use Rattle.transcript_reader.specs.Shown.{IsOneLine}
use Rattle.audit_laws.proofs.SessionNames.{id_line, register_line}

-- ---- names of boards

pub session_named : (document : Members) (session : Session) → IsSession document session
    → AllByRecursion (λ (spec : BoardSpec). IsOneLine spec.name) session.boards
session_named document session is =
    all-map (λ (spec : BoardSpec). is_id spec.name ≡ true) (λ (spec : BoardSpec). IsOneLine spec.name) session.boards
    (λ spec. id_line spec.name) (boards_have_ids document session is)

-- ---- names of registers

-- no name of an index has a line feed
abbrev pub HasLineNames : RegisterMap → Type 0
HasLineNames index = (name : Name) (r : Register) → get index name ≡ Some r → IsOneLine name

indexes_named : (tables : TableMap) → AreValidTables tables → (boards : List BoardSpec) (indexes : List RegisterMap)
    → AllZip (HasIndex tables) boards indexes → AllByRecursion HasLineNames indexes
indexes_named tables valid [] [] are = tt
indexes_named tables valid [] (index ∷ indexes) are = absurd are
indexes_named tables valid (board ∷ boards) [] are = absurd are
indexes_named tables valid (board ∷ boards) (index ∷ indexes) are = (
  λ name r there. register_line tables board.table index name r valid are.0 there,
  indexes_named tables valid boards indexes are.1,
)

pub session_indexes : (document : Members) (session : Session) (indexes : List RegisterMap)
    → IsSession document session → AllZip (HasIndex session.tables) session.boards indexes
    → AllByRecursion HasLineNames indexes
session_indexes document session indexes is are =
    indexes_named session.tables (valid_tables document session is) session.boards indexes are
