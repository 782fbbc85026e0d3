-- Faults of running and of serving as the call's, and the port of a server.
use Rattle.std.proofs.Common.{◌≡◌, ◌∙◌, ℕ, Result, Ok, Err, ap, false, refl, sym, arith}
use Rattle.std.specs.Result.{IsErr, IsErrAnd}
use Rattle.ipb_outside.specs.Faults.{RisesExactlyIf}
use Rattle.session_run.specs.Faults.{IsRunFailure}
use Rattle.session_run.specs.declared.session.RunFault.{RunFault}
use Rattle.session_run.specs.declared.session.RunFault.TheVariants.{Rack, NoMemory}
use Rattle.session_serve.specs.Faults.{IsServeFailure}
use Rattle.session_serve.specs.declared.report.ServeFault.{ServeFault}
use Rattle.session_serve.specs.declared.report.ServeFault.TheVariants as serve
use Rattle.command_words.specs.declared.command.Command.{Command}
use Rattle.command_words.specs.declared.command.Command.TheVariants.{Serve}
use Rattle.command_terms.specs.declared.answer.Answer.{Answer}
use Rattle.command_terms.specs.Terms.{Terms}
use Rattle.ipbus_program.specs.declared.no_answer.NoAnswer.{NoAnswer}
use Rattle.ipbus_program.specs.declared.no_answer.NoAnswer.TheVariants.{DoorFault, RackFault, ReadFault}
use Rattle.ipbus_program.specs.Steps.{IsFailure, LeavesAlone, no_answer_of, no_answer_served}

pub run_behind : (fault : RunFault) → IsFailure (no_answer_of fault) → IsRunFailure fault
run_behind Rack failed = tt
run_behind NoMemory failed = failed

pub run_rack : (fault : RunFault) → no_answer_of fault ≡ RackFault → fault ≡ Rack
run_rack Rack is = refl
run_rack NoMemory is = absurd cc

pub run_no_door : (fault : RunFault) (result : Result Answer NoAnswer)
    → IsErrAnd result (λ why. why ≡ no_answer_of fault)
    → result ≡ Err DoorFault → ⊥
run_no_door fault (Ok answer) is door = absurd cc
run_no_door Rack (Err why) is door = absurd cc
run_no_door NoMemory (Err why) is door = absurd cc

pub run_no_read : (fault : RunFault) (result : Result Answer NoAnswer)
    → IsErrAnd result (λ why. why ≡ no_answer_of fault)
    → result ≡ Err ReadFault → ⊥
run_no_read fault (Ok answer) is read = absurd cc
run_no_read Rack (Err why) is read = absurd cc
run_no_read NoMemory (Err why) is read = absurd cc

-- so of a rack that failed no fault is passed over, and no other is told
pub run_rises : (fault : RunFault) (result : Result Answer NoAnswer) → IsErr result
    → IsErrAnd result (λ why. why ≡ no_answer_of fault) → {before now : ℕ}
    → RisesExactlyIf (◌≡◌ {A = Result Answer RunFault} (Err fault) (Err Rack)) before now
    → RisesExactlyIf (result ≡ Err RackFault) before now
run_rises fault (Ok answer) fails is rises = absurd cc
run_rises Rack (Err why) fails is rises = (λ failed. rises.0 refl, rises.1, λ calm. absurd (calm (ap Err is)))
run_rises NoMemory (Err why) fails is rises = (λ failed. absurd cc, rises.1, λ calm. rises.2 (λ never. cc))

-- the door was not called
pub run_keeps_door : (fault : RunFault) (result : Result Answer NoAnswer)
    → IsErrAnd result (λ why. why ≡ no_answer_of fault) → (faults : ℕ)
    → RisesExactlyIf (result ≡ Err DoorFault) faults faults
run_keeps_door fault result is faults =
    (λ door. absurd (run_no_door fault result is door), omega arith, λ calm. refl)

pub run_alone : {R D : Type 0} (terms : Terms) (fault : RunFault) (result : Result Answer NoAnswer) → IsErr result
    → IsErrAnd result (λ why. why ≡ no_answer_of fault) → (rack rack_now : R) (door : D)
    → (terms.makes_links ≡ false → rack_now ≡ rack) → LeavesAlone terms result rack rack_now door door
run_alone terms fault (Ok answer) fails is rack rack_now door unmade = absurd cc
run_alone terms fault (Err why) fails is rack rack_now door unmade =
    (tt, λ read. absurd (run_no_read fault (Err why) is read), unmade, λ none. refl, λ failed. refl)

pub serve_behind : (fault : ServeFault) → IsFailure (no_answer_served fault) → IsServeFailure fault
serve_behind serve.Rack failed = tt
serve_behind serve.Door failed = tt
serve_behind serve.NoMemory failed = failed

pub serve_rack : (fault : ServeFault) → no_answer_served fault ≡ RackFault → fault ≡ serve.Rack
serve_rack serve.Rack is = refl
serve_rack serve.Door is = absurd cc
serve_rack serve.NoMemory is = absurd cc

pub serve_rack_rises : (fault : ServeFault) (result : Result Answer NoAnswer) → IsErr result
    → IsErrAnd result (λ why. why ≡ no_answer_served fault) → {before now : ℕ}
    → RisesExactlyIf (◌≡◌ {A = Result Answer ServeFault} (Err fault) (Err serve.Rack)) before now
    → RisesExactlyIf (result ≡ Err RackFault) before now
serve_rack_rises fault (Ok answer) fails is rises = absurd cc
serve_rack_rises serve.Rack (Err why) fails is rises =
    (λ failed. rises.0 refl, rises.1, λ calm. absurd (calm (ap Err is)))
serve_rack_rises serve.Door (Err why) fails is rises =
    (λ failed. absurd cc, rises.1, λ calm. rises.2 (λ never. cc))
serve_rack_rises serve.NoMemory (Err why) fails is rises =
    (λ failed. absurd cc, rises.1, λ calm. rises.2 (λ never. cc))

pub serve_door_rises : (fault : ServeFault) (result : Result Answer NoAnswer) → IsErr result
    → IsErrAnd result (λ why. why ≡ no_answer_served fault) → {before now : ℕ}
    → RisesExactlyIf (◌≡◌ {A = Result Answer ServeFault} (Err fault) (Err serve.Door)) before now
    → RisesExactlyIf (result ≡ Err DoorFault) before now
serve_door_rises fault (Ok answer) fails is rises = absurd cc
serve_door_rises serve.Door (Err why) fails is rises =
    (λ failed. rises.0 refl, rises.1, λ calm. absurd (calm (ap Err is)))
serve_door_rises serve.Rack (Err why) fails is rises =
    (λ failed. absurd cc, rises.1, λ calm. rises.2 (λ never. cc))
serve_door_rises serve.NoMemory (Err why) fails is rises =
    (λ failed. absurd cc, rises.1, λ calm. rises.2 (λ never. cc))

-- a command names one port
pub one_port : (command : Command) (port count other others : ℕ) → command ≡ Serve other others
    → command ≡ Serve port count → other ≡ port
one_port command port count other others is asked = let same = sym is ∙ asked in cc
