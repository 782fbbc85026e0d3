-- How the steps of the call work together: what its private functions promise one another. No public clause speaks of
-- these.
use Rattle.std.specs.Prelude.{◌≡◌, ◌⊎◌, ℕ, List, [], ◌++◌, ◌≤◌, length, Option, Result, Err, IfOk, true, false}
use Rattle.std.specs.List.{AllByRecursion}
use Rattle.ipb_outside.specs.Told.{TakesAtMost, TakesCount}
use Rattle.board_specs.specs.declared.spec.LinkSpec.{LinkSpec}
use Rattle.board_history.specs.Links.{AreInOrderMade, IsUntouched}
use Rattle.session_run.specs.declared.session.RunFault.{RunFault}
use Rattle.session_run.specs.declared.session.RunFault.TheVariants as run
use Rattle.session_serve.specs.declared.report.ServeFault.{ServeFault}
use Rattle.session_serve.specs.declared.report.ServeFault.TheVariants as serve
use Rattle.session_serve.specs.Serving.{AreBack}
use Rattle.command_terms.specs.declared.answer.Answer.{Answer}
use Rattle.command_terms.specs.Numbers.{refused_status, read_fault_status, no_memory_status, rack_fault_status}
use Rattle.command_terms.specs.Numbers.{door_fault_status}
use Rattle.command_terms.specs.Outside.{GivenBack}
use Rattle.command_terms.specs.Terms.{Reads, Terms, most_bytes}
use Rattle.ipbus_program.specs.declared.no_answer.NoAnswer.{NoAnswer}
use Rattle.ipbus_program.specs.declared.no_answer.NoAnswer.TheVariants.{NoMemory, ReadFault, RackFault, DoorFault}
use Rattle.ipbus_program.specs.Owed.{AnswersInput, IsReadBy, UsedFrom}

-- faults that come of boards and connections, so of an input that breaks no rule
abbrev pub IsFailure : NoAnswer → Type 0
IsFailure ReadFault = ⊥
IsFailure RackFault = Unit {0}
IsFailure DoorFault = Unit {0}
IsFailure NoMemory = ⊥

-- a fault of running and one of serving as the call's
abbrev pub no_answer_of : RunFault → NoAnswer
no_answer_of run.Rack = RackFault
no_answer_of run.NoMemory = NoMemory

abbrev pub no_answer_served : ServeFault → NoAnswer
no_answer_served serve.Rack = RackFault
no_answer_served serve.Door = DoorFault
no_answer_served serve.NoMemory = NoMemory

-- the status of a call that has no answer
abbrev pub status_of : NoAnswer → ℕ
status_of ReadFault = read_fault_status
status_of RackFault = rack_fault_status
status_of DoorFault = door_fault_status
status_of NoMemory = no_memory_status

-- these bytes were read whole for a command of these terms
pub record IsInputOf (terms : Terms) (before now : Option (List ℕ)) (bytes : List ℕ) : Type 0 where
  pub read : IsReadBy terms.limit before now bytes
  pub no_more : length bytes ≤ most_bytes terms

-- the input has more bytes than a command of these terms reads
pub record IsTooLong (terms : Terms) (before now : Option (List ℕ)) : Type 0 where
  pub reads : Reads terms
  pub took : TakesCount (most_bytes terms) before now

-- What a command left by an input.
pub record InputLeaves (terms : Terms) (before now : Option (List ℕ)) (made makes : List LinkSpec)
    (result : Result Answer NoAnswer) (given : GivenBack) : Type 0 where
  pub specs : List LinkSpec
  pub grown : makes ≡ made ++ specs
  pub counted : length specs ≡ length given.links
  pub in_order : AreInOrderMade (length made) given.links
  pub used : (given.links ≡ []) ⊎ UsedFrom terms before now specs given.links
  pub back : AreBack given.came given.back
  pub taken : TakesAtMost (most_bytes terms) before now
  pub owed : IfOk result (λ answer. AnswersInput terms before now given answer.status answer.text.items)
  pub reads : result ≡ Err ReadFault → Reads terms
  pub behind : (fault : NoAnswer) → result ≡ Err fault → IsFailure fault → UsedFrom terms before now specs given.links
  pub untouched : result ≡ Err RackFault → AllByRecursion IsUntouched given.links
  pub serves : result ≡ Err DoorFault → terms.lets_in ≡ true

-- What it left alone of a rack and of a door, at a refusal, at a fault of the input or of the rack, and by a command
-- that makes no link or lets nobody in.
abbrev pub LeavesAlone : {R D : Type 0} → Terms → Result Answer NoAnswer → R → R → D → D → Type 0
LeavesAlone terms result rack rack_now door door_now =
    IfOk result (λ answer. answer.status ≡ refused_status → (rack_now ≡ rack) × (door_now ≡ door))
    × (result ≡ Err ReadFault → rack_now ≡ rack)
    × (terms.makes_links ≡ false → rack_now ≡ rack)
    × (terms.lets_in ≡ false → door_now ≡ door)
    × ((result ≡ Err ReadFault) ⊎ (result ≡ Err RackFault) → door_now ≡ door)
