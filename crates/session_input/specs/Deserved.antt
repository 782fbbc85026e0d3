-- What the bytes of a document are to a command: what it runs or lists, or the first rule that they break. Profile.
use Rattle.std.specs.Prelude.{◌≡◌, ◌⊎◌, ℕ, ◌≤◌, ◌<◌, List, [], ◌∷◌, length, map, codes, Option, Some, None}
use Rattle.std.specs.List.{AllByRecursion, AllZip, slice_get}
use Rattle.toml.specs.Data.{Data, Members, get_member}
use Rattle.board_bus.specs.declared.range.Range.{Range}
use Rattle.board_bus.specs.Ranges.{refusal_of}
use Rattle.board_specs.specs.declared.spec.LinkSpec.{LinkSpec}
use Rattle.board_specs.specs.declared.spec.LinkSpec.TheVariants.{Sim, Udp}
use Rattle.board_specs.specs.declared.spec.BoardSpec.{BoardSpec}
use Rattle.node_tree.specs.declared.refusal.CompileRefusal.TheVariants.{At}
use Rattle.node_tree.specs.Maps.{Name, TableMap, RegisterMap}
use Rattle.node_tree.specs.Names.{IsIndexOf}
use Rattle.node_tree.specs.Refusals.{KeepsRules, IsRefusal}
use Rattle.script_steps.specs.Rulings.{Asked, asked_operations}
use Rattle.script_steps.specs.declared.operation.Step.{Step}
use Rattle.script_lang.specs.declared.refusal.DocWhy.TheVariants.{NotToml}
use Rattle.script_lang.specs.declared.session.Session.{Session}
use Rattle.script_lang.specs.Aside.{without}
use Rattle.script_lang.specs.Document.{IsNotToml, IsSession, IsToml, faults, in_document, in_table}
use Rattle.script_lang.specs.Paths.{path as path_text}
use Rattle.script_lang.specs.Scripts.{LineFault, script_faults, steps_of}
use Rattle.access_policy.specs.declared.policy.Rule.{Rule}
use Rattle.access_policy.specs.Decisions.{names_of, ruled_scripts}
use Rattle.access_policy.specs.Reading.{policy_faults, policy_of}
use Rattle.session_input.specs.declared.refusal.Refusal.{Refusal}
use Rattle.session_input.specs.declared.refusal.Refusal.TheVariants.{TooLong, Document, Table, Policy, NoServe}
use Rattle.session_input.specs.declared.refusal.Refusal.TheVariants.{Compile, Board, Script}
use Rattle.session_input.specs.declared.refusal.Unread.{Unread}
use Rattle.session_input.specs.declared.refusal.Unread.TheVariants as unread
use Rattle.session_input.specs.Numbers.{document_bytes}

-- ---- a document and its policy

-- the key that has the policy
abbrev pub policy_key : List ℕ
policy_key = codes "policy"

-- the document that is read as a session
abbrev pub session_part : Members → Members
session_part document = without policy_key document

-- no value, and no policy; or a value without faults, and the rules that it stands for
abbrev pub IsPolicyOf : Option Data → Option (List Rule) → Type 0
IsPolicyOf None None = Unit {0}
IsPolicyOf (Some value) (Some rules) = (policy_faults value ≡ []) × (rules ≡ policy_of value)
IsPolicyOf _ _ = ⊥

abbrev pub HasPolicy : Members → Option (List Rule) → Type 0
HasPolicy document policy = IsPolicyOf (get_member policy_key document) policy

-- the bytes are a document that stands for this session, and for this policy where it has one
pub record StandsForSession (bytes : List ℕ) (session : Session) (policy : Option (List Rule)) : Type 0 where
  pub document : Members
  pub toml : IsToml bytes document
  pub is_session : IsSession (session_part document) session
  pub has_policy : HasPolicy document policy

-- ---- boards and scripts

-- this is told of a board, and every board before it is right
abbrev pub IsToldFirst : (BoardSpec → Type 0) → (BoardSpec → Type 0) → List BoardSpec → Type 0
IsToldFirst IsRight IsTold [] = ⊥
IsToldFirst IsRight IsTold (board ∷ boards) = IsTold board ⊎ (IsRight board × IsToldFirst IsRight IsTold boards)

-- the ranges of a simulated board
abbrev pub ranges_of : LinkSpec → List Range
ranges_of (Sim mtu buffers first ranges fates) = ranges
ranges_of (Udp address port wait) = []

-- the board's table is one of these and compiles; the index that it compiles into
abbrev pub Compiles : TableMap → BoardSpec → Type 0
Compiles tables board = KeepsRules tables board.table

abbrev pub HasIndex : TableMap → BoardSpec → RegisterMap → Type 0
HasIndex tables board index = IsIndexOf tables board.table index

-- the board's ranges are those of a bus
abbrev pub HasBus : BoardSpec → Type 0
HasBus board = refusal_of (ranges_of board.link) ≡ None

-- every board's table compiles, into these indexes
pub record AreCompiled (session : Session) (indexes : List RegisterMap) : Type 0 where
  pub compile : AllByRecursion (Compiles session.tables) session.boards
  pub each_index : AllZip (HasIndex session.tables) session.boards indexes

-- and every board's ranges are a bus
pub record HaveBuses (session : Session) (indexes : List RegisterMap) : Type 0 where
  pub compiled : AreCompiled session indexes
  pub buses : AllByRecursion HasBus session.boards

-- and no line of a script breaks a rule; then the session can be run, and under the policy the scripts are these steps
pub record AreSteps (session : Session) (policy : Option (List Rule)) (steps : List (List Step)) : Type 0 where
  pub registers : List RegisterMap
  pub boards : HaveBuses session registers
  pub faultless : script_faults session.boards registers session.scripts ≡ []
  pub meant : steps
      ≡ ruled_scripts policy (names_of session.boards) (steps_of session.boards registers session.scripts)

-- what refusals tell of one board, or of one table: the rule that it breaks
abbrev pub TellsCompile : TableMap → Name → Refusal → Type 0
TellsCompile tables root (Compile table path why) = IsRefusal tables root (At table path why)
TellsCompile tables root _ = ⊥

abbrev pub TellsBus : BoardSpec → Refusal → Type 0
TellsBus board (Board name why) = (name ≡ board.name) × (refusal_of (ranges_of board.link) ≡ Some why)
TellsBus board _ = ⊥

-- the first faulty line
abbrev pub TellsLine : List LineFault → Refusal → Type 0
TellsLine faults (Script client line why) = slice_get faults 0 ≡ Some (client, line, why)
TellsLine faults _ = ⊥

-- The first rule that a session breaks that is to be run: some table does not compile; or all do, and some board has no
-- bus; or all have one, and a line of a script is faulty.
abbrev pub BreaksCompiling : TableMap → List BoardSpec → Refusal → Type 0
BreaksCompiling tables boards refusal =
    IsToldFirst (Compiles tables) (λ board. TellsCompile tables board.table refusal) boards

abbrev pub TellsFirstBus : List BoardSpec → Refusal → Type 0
TellsFirstBus boards refusal = IsToldFirst HasBus (λ board. TellsBus board refusal) boards

pub record BreaksBuses (session : Session) (refusal : Refusal) : Type 0 where
  pub indexes : List RegisterMap
  pub compiled : AreCompiled session indexes
  pub first : TellsFirstBus session.boards refusal

pub record BreaksScripts (session : Session) (refusal : Refusal) : Type 0 where
  pub indexes : List RegisterMap
  pub boards : HaveBuses session indexes
  pub first : TellsLine (script_faults session.boards indexes session.scripts) refusal

abbrev pub BreaksInRun : Session → Option (List Rule) → Refusal → Type 0
BreaksInRun session policy refusal =
    BreaksCompiling session.tables session.boards refusal
    ⊎ BreaksBuses session refusal
    ⊎ BreaksScripts session refusal

-- The same of a session that is to be served. A session with a policy is not served, since a policy binds scripts
-- alone.
abbrev pub BreaksInServe : Session → Option (List Rule) → Refusal → Type 0
BreaksInServe session (Some rules) refusal = refusal ≡ NoServe
BreaksInServe session None refusal = BreaksInRun session None refusal

-- the first rule that the tables of a session break for a listing of this one
abbrev pub BreaksInCheck : Name → Session → Option (List Rule) → Refusal → Type 0
BreaksInCheck root session policy refusal = TellsCompile session.tables root refusal

-- this is the path of the first faulty place of a policy
abbrev pub BreaksPolicy : Option Data → List ℕ → Type 0
BreaksPolicy None path = ⊥
BreaksPolicy (Some value) path = slice_get (map path_text (policy_faults value)) 0 ≡ Some path

-- The first rule that is broken by what is read as a session, or else by the value of the policy beside it.
abbrev pub BreaksParts : Members → Option Data → Refusal → Type 0
BreaksParts rest value (Document path NotToml) = ⊥
BreaksParts rest value (Document path why) = slice_get (faults rest) 0 ≡ Some (in_document path why)
BreaksParts rest value (Table table path why) = slice_get (faults rest) 0 ≡ Some (in_table table path why)
BreaksParts rest value (Policy path) = (faults rest ≡ []) × BreaksPolicy value path
BreaksParts rest value _ = ⊥

abbrev pub BreaksDocument : Members → Refusal → Type 0
BreaksDocument document refusal = BreaksParts (session_part document) (get_member policy_key document) refusal

-- the bytes are a document that breaks this rule first
abbrev pub HasFirstRefusal : List ℕ → Refusal → Type 0
HasFirstRefusal bytes refusal = (document : Members) × IsToml bytes document × BreaksDocument document refusal

-- The bytes are not the text of a document, since they are too many or no TOML.
abbrev pub IsNoText : List ℕ → Refusal → Type 0
IsNoText bytes TooLong = document_bytes < length bytes
IsNoText bytes (Document path NotToml) = (length bytes ≤ document_bytes) × (path ≡ []) × IsNotToml bytes
IsNoText bytes _ = ⊥

-- The bytes are no document of a session: the first rule that they break.
abbrev pub DeservesUnread : List ℕ → Refusal → Type 0
DeservesUnread bytes TooLong = document_bytes < length bytes
DeservesUnread bytes (Document path NotToml) = (length bytes ≤ document_bytes) × (path ≡ []) × IsNotToml bytes
DeservesUnread bytes refusal = (length bytes ≤ document_bytes) × HasFirstRefusal bytes refusal

-- the bytes are the document of a session and its policy, which break a rule of a command first
pub record BreaksRule (Breaks : Session → Option (List Rule) → Refusal → Type 0) (bytes : List ℕ) (refusal : Refusal)
    : Type 0 where
  pub fits : length bytes ≤ document_bytes
  pub session : Session
  pub policy : Option (List Rule)
  pub stands : StandsForSession bytes session policy
  pub broken : Breaks session policy refusal

-- The bytes deserve a refusal: that of the first rule of the document that they break, or else of the command.
abbrev pub Deserves : (Session → Option (List Rule) → Refusal → Type 0) → List ℕ → Refusal → Type 0
Deserves Breaks bytes refusal = DeservesUnread bytes refusal ⊎ BreaksRule Breaks bytes refusal

-- each operation of a client, denied or not, is on one of so many boards
abbrev pub AreOnBoards : ℕ → List Step → Type 0
AreOnBoards boards steps = AllByRecursion (λ (ask : Asked). ask.op.board < boards) (asked_operations steps)

-- the bytes stand for a session that can be run, by these steps under its policy
pub record IsRunnable (bytes : List ℕ) (session : Session) (steps : List (List Step)) : Type 0 where
  pub fits : length bytes ≤ document_bytes
  pub policy : Option (List Rule)
  pub stands : StandsForSession bytes session policy
  pub runs : AreSteps session policy steps

-- the bytes stand for a session without a policy that can be run
pub record IsServable (bytes : List ℕ) (session : Session) : Type 0 where
  pub fits : length bytes ≤ document_bytes
  pub stands : StandsForSession bytes session None
  pub steps : List (List Step)
  pub runs : AreSteps session None steps

-- the bytes stand for a session, of which this is the index of a table
pub record IsListed (bytes root : List ℕ) (index : RegisterMap) : Type 0 where
  pub fits : length bytes ≤ document_bytes
  pub session : Session
  pub policy : Option (List Rule)
  pub stands : StandsForSession bytes session policy
  pub compiles : KeepsRules session.tables root
  pub is_index : IsIndexOf session.tables root index

-- a refusal is told, or memory ran out
abbrev pub Tells : (Refusal → Type 0) → Unread → Type 0
Tells Deserved (unread.Refused refusal) = Deserved refusal
Tells Deserved unread.NoMemory = Unit {0}
