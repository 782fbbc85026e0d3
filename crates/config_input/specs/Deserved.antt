-- What the bytes of a document are to a command on the configuration of boards: the steps that it runs, or the first
-- rule that they break. Profile.
use Rattle.std.specs.Prelude.{◌≡◌, ◌⊎◌, ℕ, ◌≤◌, List, [], ◌∷◌, length, Option, Some}
use Rattle.std.specs.List.{slice_get}
use Rattle.toml.specs.Data.{Members}
use Rattle.access_policy.specs.declared.policy.Rule.{Rule}
use Rattle.access_policy.specs.Decisions.{names_of, ruled_scripts}
use Rattle.node_tree.specs.Maps.{RegisterMap}
use Rattle.script_steps.specs.declared.operation.Step.{Step}
use Rattle.script_lang.specs.declared.session.Session.{Session}
use Rattle.script_lang.specs.Document.{IsSession, IsToml}
use Rattle.script_lang.specs.Scripts.{script_faults, steps_of}
use Rattle.session_input.specs.declared.refusal.Refusal.{Refusal}
use Rattle.session_input.specs.declared.refusal.Unread.{Unread}
use Rattle.session_input.specs.declared.refusal.Unread.TheVariants as session
use Rattle.session_input.specs.Deserved.{BreaksBuses, BreaksCompiling, BreaksDocument, HasPolicy, HaveBuses, IsNoText}
use Rattle.session_input.specs.Deserved.{TellsLine, session_part}
use Rattle.session_input.specs.Numbers.{document_bytes}
use Rattle.config_store.specs.declared.refusal.StoreRefusal.{StoreRefusal}
use Rattle.config_store.specs.declared.refusal.StoreRefusal.TheVariants as store
use Rattle.config_store.specs.Kept.{indexed_boards}
use Rattle.config_store.specs.Order.{AreInOrder}
use Rattle.config_store.specs.States.{StoreFault}
use Rattle.config_input.specs.declared.refusal.ConfigRefusal.{ConfigRefusal}
use Rattle.config_input.specs.declared.refusal.ConfigRefusal.TheVariants.{OfSession, OfState}
use Rattle.config_input.specs.declared.refusal.ConfigUnread.{ConfigUnread}
use Rattle.config_input.specs.declared.refusal.ConfigUnread.TheVariants as unread
use Rattle.config_input.specs.Work.{ConfigCommand, Work, apply_command, save_command}

-- ---- refusals

-- a rule of session documents is told, or one of configurations
abbrev pub TellsSession : (Refusal → Type 0) → ConfigRefusal → Type 0
TellsSession Told (OfSession refusal) = Told refusal
TellsSession Told (OfState board name why) = ⊥

abbrev pub TellsState : (StoreFault → Type 0) → ConfigRefusal → Type 0
TellsState Told (OfSession refusal) = ⊥
TellsState Told (OfState board name why) = Told (board, name, why)

-- a refusal is told, or memory ran out
abbrev pub Tells : (ConfigRefusal → Type 0) → ConfigUnread → Type 0
Tells Deserved (unread.Refused refusal) = Deserved refusal
Tells Deserved unread.NoMemory = Unit {0}

-- what reading a session tells, and what making a script does
abbrev pub of_session : Unread → ConfigUnread
of_session (session.Refused refusal) = unread.Refused (OfSession refusal)
of_session session.NoMemory = unread.NoMemory

abbrev pub of_store : StoreRefusal → ConfigUnread
of_store (store.At board name why) = unread.Refused (OfState board name why)
of_store store.NoMemory = unread.NoMemory

-- ---- a session

-- the document stands for this session, and for this policy where it has one
pub record Stands (document : Members) (session : Session) (policy : Option (List Rule)) : Type 0 where
  pub is_session : IsSession (session_part document) session
  pub has_policy : HasPolicy document policy

-- The session breaks no rule, and these are the steps of the one client: those of the script, under the policy. The
-- values stand in byte order of their boards and registers, so that no register has two. The scripts of the session
-- itself have to be right and are not run.
pub record IsAsked (work : Work) (session : Session) (policy : Option (List Rule)) (steps : List (List Step)) : Type 0
  where
    pub registers : List RegisterMap
    pub boards : HaveBuses session registers
    pub right : work.faults (indexed_boards session.boards registers) ≡ []
    pub ordered : AreInOrder work.values
    pub faultless : script_faults session.boards registers session.scripts ≡ []
    pub meant : steps ≡ ruled_scripts policy (names_of session.boards)
        (steps_of session.boards registers (work.script (indexed_boards session.boards registers) ∷ []))

-- some board's table does not compile; or all do, and some board's ranges are no bus
abbrev pub BreaksBoards : Session → Refusal → Type 0
BreaksBoards session refusal = BreaksCompiling session.tables session.boards refusal ⊎ BreaksBuses session refusal

-- every board's table compiles and its ranges are a bus, and this is the first fault of the configuration
pub record IsFirstFault (work : Work) (session : Session) (fault : StoreFault) : Type 0 where
  pub indexes : List RegisterMap
  pub boards : HaveBuses session indexes
  pub first : slice_get (work.faults (indexed_boards session.boards indexes)) 0 ≡ Some fault

-- there is no such fault, and a line of the session's own scripts is faulty
pub record BreaksOwnScripts (work : Work) (session : Session) (refusal : Refusal) : Type 0 where
  pub indexes : List RegisterMap
  pub boards : HaveBuses session indexes
  pub right : work.faults (indexed_boards session.boards indexes) ≡ []
  pub first : TellsLine (script_faults session.boards indexes session.scripts) refusal

-- The first rule that a session breaks: of the tables, of the ranges, of the configuration, and then of the scripts.
abbrev pub BreaksInWork : Work → Session → ConfigRefusal → Type 0
BreaksInWork work session refusal =
    TellsSession (BreaksBoards session) refusal
    ⊎ TellsState (IsFirstFault work session) refusal
    ⊎ TellsSession (BreaksOwnScripts work session) refusal

-- ---- a document

-- the document stands for a session that breaks no rule of a command, and these are the steps that the command runs
pub record IsAskedBy (command : ConfigCommand) (document : Members) (session : Session) (steps : List (List Step))
    : Type 0 where
  pub policy : Option (List Rule)
  pub stands : Stands (command.part document) session policy
  pub asks : IsAsked (command.work document) session policy steps

-- it stands for a session that breaks one
pub record BreaksRule (command : ConfigCommand) (document : Members) (refusal : ConfigRefusal) : Type 0 where
  pub session : Session
  pub policy : Option (List Rule)
  pub stands : Stands (command.part document) session policy
  pub broken : BreaksInWork (command.work document) session refusal

-- The first rule that a document breaks: of what is read of it, or else of the command.
abbrev pub BreaksCommand : ConfigCommand → Members → ConfigRefusal → Type 0
BreaksCommand command document refusal =
    TellsSession (BreaksDocument (command.part document)) refusal ⊎ BreaksRule command document refusal

-- ---- bytes

-- the bytes are a document of which this holds
pub record IsDocument (Holds : Members → Type 0) (bytes : List ℕ) : Type 0 where
  pub fits : length bytes ≤ document_bytes
  pub document : Members
  pub toml : IsToml bytes document
  pub holds : Holds document

-- The bytes stand for a session by which a command runs these steps.
abbrev pub IsReadFor : ConfigCommand → List ℕ → Session → List (List Step) → Type 0
IsReadFor command bytes session steps = IsDocument (λ document. IsAskedBy command document session steps) bytes

-- The bytes deserve a refusal: they are no document, or one that breaks this rule first.
abbrev pub Deserves : ConfigCommand → List ℕ → ConfigRefusal → Type 0
Deserves command bytes refusal =
    TellsSession (IsNoText bytes) refusal ⊎ IsDocument (λ document. BreaksCommand command document refusal) bytes

-- of `save`: a session whose configuration is read
abbrev pub IsSavable : List ℕ → Session → List (List Step) → Type 0
IsSavable = IsReadFor save_command

abbrev pub BreaksInSave : List ℕ → ConfigRefusal → Type 0
BreaksInSave = Deserves save_command

-- of `apply`: a session and values that are written to it
abbrev pub IsApplicable : List ℕ → Session → List (List Step) → Type 0
IsApplicable = IsReadFor apply_command

abbrev pub BreaksInApply : List ℕ → ConfigRefusal → Type 0
BreaksInApply = Deserves apply_command
