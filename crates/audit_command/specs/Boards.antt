-- Which sessions an audit takes, or the first rule that a session breaks that is to be audited. Profile.
use Rattle.std.specs.Prelude.{◌⊎◌, List, Option}
use Rattle.std.specs.List.{AllByRecursion}
use Rattle.access_policy.specs.declared.policy.Rule.{Rule}
use Rattle.board_specs.specs.declared.spec.BoardSpec.{BoardSpec}
use Rattle.node_tree.specs.Maps.{RegisterMap}
use Rattle.script_lang.specs.declared.session.Session.{Session}
use Rattle.session_input.specs.declared.refusal.Refusal.{Refusal}
use Rattle.session_input.specs.Deserved.{AreCompiled, BreaksCompiling, BreaksScripts, HasBus, IsToldFirst, TellsBus}
use Rattle.session_input.specs.Recording.{IsSimulated, TellsNotSim}

-- the board's ranges are those of a bus, and it is a board of this process
pub record IsAuditable (board : BoardSpec) : Type 0 where
  pub bus : HasBus board
  pub simulated : IsSimulated board.link

-- its ranges are no bus; or they are one, and it is on a network
abbrev pub TellsBoard : BoardSpec → Refusal → Type 0
TellsBoard board refusal = TellsBus board refusal ⊎ (HasBus board × TellsNotSim board.link board.name refusal)

-- each board is one of this process
abbrev pub AreSimulated : List BoardSpec → Type 0
AreSimulated boards = AllByRecursion (λ (board : BoardSpec). IsSimulated board.link) boards

-- what is told of the first board that an audit does not take
abbrev pub TellsFirstBoard : List BoardSpec → Refusal → Type 0
TellsFirstBoard boards refusal = IsToldFirst IsAuditable (λ board. TellsBoard board refusal) boards

-- each table compiles, and some board is not taken
pub record BreaksBoards (session : Session) (refusal : Refusal) : Type 0 where
  pub indexes : List RegisterMap
  pub compiled : AreCompiled session indexes
  pub first : TellsFirstBoard session.boards refusal

-- The first rule that a session breaks that is to be audited: some table does not compile; or all do, and some board is
-- not taken; or all are, and a line of a script is faulty.
abbrev pub BreaksInAudit : Session → Option (List Rule) → Refusal → Type 0
BreaksInAudit session policy refusal =
    BreaksCompiling session.tables session.boards refusal
    ⊎ BreaksBoards session refusal
    ⊎ (AreSimulated session.boards × BreaksScripts session refusal)
