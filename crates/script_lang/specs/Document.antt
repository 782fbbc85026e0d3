-- The bytes of a session document, TOML in UTF-8, the session that they stand for, and the first fault of those that
-- stand for none. Profile.
use Rattle.std.specs.Prelude.{◌≡◌, ℕ, ◌+◌, nat_lt, ◌==◌, List, [], ◌∷◌, ◌++◌, length, map, codes, Option, Some, None}
use Rattle.std.specs.Prelude.{if◌then◌else◌}
use Rattle.std.specs.List.{slice_get, list_any}
use Rattle.std.specs.Option.{option_map_or}
use Rattle.std.specs.FinMap.{get}
use Rattle.std.specs.Str.{bytes_eq, IsUtf8}
use Rattle.toml.specs.Data.{Data, Members, no_members, member, get_member}
use Rattle.toml.specs.Parse.{parse_document}
use Rattle.address_table.specs.Tables.{IsTable, SameTable, table_fault}
use Rattle.address_table.specs.declared.nodes.Table.{Table}
use Rattle.address_table.specs.declared.refusal.TableWhy.{TableWhy}
use Rattle.address_table.specs.declared.refusal.TableRefusal.TheVariants.{At}
use Rattle.address_table.specs.declared.refusal.TableRefusal.TheVariants as table_refusal
use Rattle.board_specs.specs.declared.spec.BoardSpec.{BoardSpec}
use Rattle.node_tree.specs.Maps.{Name}
use Rattle.script_lang.specs.declared.refusal.DocWhy.{DocWhy}
use Rattle.script_lang.specs.declared.refusal.DocWhy.TheVariants.{NotToml, Shape, NoBoards, ManyBoards, ManyClients}
use Rattle.script_lang.specs.declared.refusal.DocWhy.TheVariants.{DuplicateBoard}
use Rattle.script_lang.specs.declared.refusal.SessionRefusal.{SessionRefusal}
use Rattle.script_lang.specs.declared.refusal.SessionRefusal.TheVariants as refusal
use Rattle.script_lang.specs.declared.refusal.TheConstants.{MAX_BOARDS, MAX_CLIENTS}
use Rattle.script_lang.specs.declared.session.Session.{Session}
use Rattle.script_lang.specs.declared.steps.PathStep.TheVariants.{Key, Item}
use Rattle.script_lang.specs.Walk.{shape_faults}
use Rattle.script_lang.specs.Paths.{path}
use Rattle.script_lang.specs.Fields.{items_at}
use Rattle.script_lang.specs.Sessions.{settings_of, format_of, boards_of, scripts_of, tables_of}

-- A fault of a document: a rule and the path of what breaks it, or, in the table of a name, a rule of nodes and the
-- positions that lead to the node.
pub data Fault : Type 0 where
  in_document : List ℕ → DocWhy → Fault
  in_table : Name → List ℕ → TableWhy → Fault

-- the places where a value is not what it should be
abbrev pub misfits : Members → List Fault
misfits document = map (λ way. in_document (path way) Shape) (shape_faults document)

-- a document as a whole breaks a rule
abbrev pub breaks : DocWhy → List Fault
breaks why = in_document [] why ∷ []

-- there is no board, or there are too many boards or clients
abbrev pub count_faults : ℕ → ℕ → List Fault
count_faults boards clients =
    (if boards == 0 then breaks NoBoards else [])
    ++ (if nat_lt MAX_BOARDS boards then breaks ManyBoards else [])
    ++ (if nat_lt MAX_CLIENTS clients then breaks ManyClients else [])

abbrev pub size_faults : Members → List Fault
size_faults document =
    count_faults (length (items_at (codes "board") document)) (length (items_at (codes "client") document))

-- the name of the board at a position is that of an earlier one
abbrev pub duplicate_at : ℕ → Fault
duplicate_at i = in_document (path (Key (codes "board") ∷ Item i ∷ Key (codes "name") ∷ [])) DuplicateBoard

-- each board, from a position on, that has the name of an earlier one
abbrev pub duplicates : List BoardSpec → ℕ → List BoardSpec → List Fault
duplicates earlier i [] = []
duplicates earlier i (board ∷ boards) =
    (if list_any (λ other. bytes_eq other.name board.name) earlier then duplicate_at i ∷ [] else [])
    ++ duplicates (earlier ++ board ∷ []) (i + 1) boards

-- the first fault of each table that has one, in byte order of the names
abbrev pub tables_faults : ℕ → Members → List Fault
tables_faults format no_members = []
tables_faults format (member name value ms) =
    option_map_or (λ fault. in_table name fault.0 fault.1 ∷ []) (table_fault format value) []
    ++ tables_faults format ms

-- What is wrong with a document, in the order in which it is told. The list counts up to its first fault: behind a
-- value that is not what it should be, the rest is read as if that value were left out.
abbrev pub faults : Members → List Fault
faults document =
    misfits document
    ++ size_faults document
    ++ duplicates [] 0 (boards_of document)
    ++ tables_faults (format_of document) (tables_of document)

-- the value under a name is written in a format so that it is the table of that name; a name without a value has no
-- table
abbrev pub IsTableAt : ℕ → Option Data → Option Table → Type 0
IsTableAt format None None = Unit {0}
IsTableAt format (Some value) (Some t) = IsTable format value t
IsTableAt format _ _ = ⊥

-- a document stands for a session
pub record IsSession (document : Members) (session : Session) : Type 0 where
  pub faultless : faults document ≡ []
  pub settings : session.settings ≡ settings_of document
  pub tables : (name : Name)
      → IsTableAt (format_of document) (get_member name (tables_of document)) (get session.tables name)
  pub boards : session.boards ≡ boards_of document
  pub scripts : session.scripts ≡ scripts_of document

-- the bytes are the TOML text of this document
abbrev pub IsToml : List ℕ → Members → Type 0
IsToml bytes document = IsUtf8 bytes × (parse_document bytes ≡ Some document)

-- the bytes are no TOML text
abbrev pub IsNotToml : List ℕ → Type 0
IsNotToml bytes = (document : Members) → ¬ IsToml bytes document

-- the bytes are a document that stands for this session
abbrev pub StandsFor : List ℕ → Session → Type 0
StandsFor bytes session = (document : Members) × IsToml bytes document × IsSession document session

-- the bytes are a document whose first fault is this one
abbrev pub HasFirstFault : List ℕ → Fault → Type 0
HasFirstFault bytes fault = (document : Members) × IsToml bytes document × (slice_get (faults document) 0 ≡ Some fault)

-- A refusal of a document tells the first of these faults, want of memory aside.
abbrev pub TellsFault : List Fault → SessionRefusal → Type 0
TellsFault faults (refusal.Document path NotToml) = ⊥
TellsFault faults (refusal.Document path why) = slice_get faults 0 ≡ Some (in_document path why)
TellsFault faults (refusal.Table name (At path why)) = slice_get faults 0 ≡ Some (in_table name path why)
TellsFault faults (refusal.Table name table_refusal.NoMemory) = ⊥
TellsFault faults refusal.NoMemory = Unit {0}

-- A refusal of bytes says that they are no TOML text, want of memory aside.
abbrev pub TellsNotToml : List ℕ → SessionRefusal → Type 0
TellsNotToml bytes (refusal.Document path NotToml) = (path ≡ []) × IsNotToml bytes
TellsNotToml bytes refusal.NoMemory = Unit {0}
TellsNotToml bytes _ = ⊥

-- A refusal tells the first fault of the bytes, want of memory aside.
abbrev pub IsRefusal : List ℕ → SessionRefusal → Type 0
IsRefusal bytes (refusal.Document path NotToml) = (path ≡ []) × IsNotToml bytes
IsRefusal bytes (refusal.Document path why) = HasFirstFault bytes (in_document path why)
IsRefusal bytes (refusal.Table name (At path why)) = HasFirstFault bytes (in_table name path why)
IsRefusal bytes (refusal.Table name table_refusal.NoMemory) = ⊥
IsRefusal bytes refusal.NoMemory = Unit {0}

-- the same table, or none in both
abbrev pub SameTableAt : Option Table → Option Table → Type 0
SameTableAt None None = Unit {0}
SameTableAt (Some t) (Some u) = SameTable t u
SameTableAt _ _ = ⊥

-- two sessions are the same, node for node
pub record SameSession (s t : Session) : Type 0 where
  pub settings : s.settings ≡ t.settings
  pub tables : (name : Name) → SameTableAt (get s.tables name) (get t.tables name)
  pub boards : s.boards ≡ t.boards
  pub scripts : s.scripts ≡ t.scripts
