-- The tables of a session are valid.
use Rattle.std.proofs.Common.{◌≡◌, ℕ, Option, Some, None, subst}
use Rattle.std.specs.FinMap.{get}
use Rattle.std.proofs.lemmas.Option.{same_Some}
use Rattle.toml.specs.Data.{Data, array, Members, get_member}
use Rattle.address_table.specs.Tables.{IsTable}
use Rattle.address_table.specs.Valid.{IsValid}
use Rattle.address_table.specs.declared.nodes.Table.{Table}
use Rattle.address_table.proofs.ValidNodes.{nodes-valid}
use Rattle.node_tree.specs.Maps.{AreValidTables}
use Rattle.script_lang.specs.Document.{IsSession, IsTableAt}
use Rattle.script_lang.specs.Sessions.{format_of, tables_of}
use Rattle.script_lang.specs.declared.session.Session.{Session}

table_valid : (format : ℕ) (value : Data) (t : Table) → IsTable format value t → IsValid t
table_valid format (array ds) t is = nodes-valid format ds t.nodes.items is
table_valid format value t is = absurd is

valid_at : (format : ℕ) (value : Option Data) (found : Option Table) (t : Table) → IsTableAt format value found
    → found ≡ Some t → IsValid t
valid_at format None None t is there = absurd cc
valid_at format None (Some u) t is there = absurd is
valid_at format (Some value) None t is there = absurd is
valid_at format (Some value) (Some u) t is there =
    subst IsValid (same_Some u t there) (table_valid format value u is)

pub valid_tables : (document : Members) (session : Session) → IsSession document session → AreValidTables session.tables
valid_tables document session is name t there =
    valid_at (format_of document) (get_member name (tables_of document)) (get session.tables name) t (is.tables name) there
