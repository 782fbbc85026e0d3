-- What the bytes of a document are to a command that records the traffic of its board. Profile.
use Rattle.std.specs.Prelude.{◌≡◌, ◌⊎◌, ℕ, List, [], ◌∷◌, Option}
use Rattle.board_specs.specs.declared.spec.BoardSpec.{BoardSpec}
use Rattle.board_specs.specs.declared.spec.LinkSpec.{LinkSpec}
use Rattle.board_specs.specs.declared.spec.LinkSpec.TheVariants.{Sim, Udp}
use Rattle.script_steps.specs.declared.operation.Step.{Step}
use Rattle.script_lang.specs.declared.session.Session.{Session}
use Rattle.access_policy.specs.declared.policy.Rule.{Rule}
use Rattle.session_input.specs.declared.refusal.Refusal.{Refusal}
use Rattle.session_input.specs.declared.refusal.Refusal.TheVariants.{OneBoard, NotSim}
use Rattle.session_input.specs.Deserved.{BreaksInRun, IsRunnable}

-- a board of this process, and no other
abbrev pub IsSimulated : LinkSpec → Type 0
IsSimulated (Sim mtu buffers first ranges fates) = Unit {0}
IsSimulated (Udp address port wait) = ⊥

abbrev pub IsOneSimulated : List BoardSpec → Type 0
IsOneSimulated [] = ⊥
IsOneSimulated (board ∷ []) = IsSimulated board.link
IsOneSimulated (board ∷ other ∷ boards) = ⊥

-- what is told of a board on a network
abbrev pub TellsNotSim : LinkSpec → List ℕ → Refusal → Type 0
TellsNotSim (Sim mtu buffers first ranges fates) name refusal = ⊥
TellsNotSim (Udp address port wait) name refusal = refusal ≡ NotSim name

-- and of boards that are not one alone: of several, since a session has one at least
abbrev pub TellsNotOne : List BoardSpec → Refusal → Type 0
TellsNotOne [] refusal = refusal ≡ OneBoard
TellsNotOne (board ∷ []) refusal = TellsNotSim board.link board.name refusal
TellsNotOne (board ∷ other ∷ boards) refusal = refusal ≡ OneBoard

-- The first rule that a session breaks whose board is to be recorded: it has several boards, or one on a network; or it
-- has one that is simulated, and breaks a rule of sessions that are to be run.
abbrev pub BreaksInRecord : Session → Option (List Rule) → Refusal → Type 0
BreaksInRecord session policy refusal =
    TellsNotOne session.boards refusal ⊎ (IsOneSimulated session.boards × BreaksInRun session policy refusal)

-- the bytes stand for a session of one simulated board that can be run, by these steps under its policy
pub record IsRecordable (bytes : List ℕ) (session : Session) (steps : List (List Step)) : Type 0 where
  pub runnable : IsRunnable bytes session steps
  pub one : IsOneSimulated session.boards
