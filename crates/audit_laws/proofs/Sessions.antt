-- What audits rest on holds of every session that can be run.
use Rattle.std.proofs.Common.{◌≡◌, ℕ, ◌≤◌, ◌<◌, ◌^◌, suc, ◌+◌, List, [], ◌∷◌, length, codes, Option, Some, None}
use Rattle.std.proofs.Common.{refl, ap, ◌∙◌, arith}
use Rattle.std.specs.List.{AllByRecursion}
use Rattle.std.specs.Option.{option_and_then}
use Rattle.std.proofs.lemmas.List.{length-map}
use Rattle.toml.specs.Data.{Members, get_member}
use Rattle.access_policy.specs.Decisions.{names_of, ruled_from, ruled_scripts}
use Rattle.access_policy.specs.declared.policy.Rule.{Rule}
use Rattle.address_table.specs.Numbers.{number}
use Rattle.script_lang.specs.Document.{IsSession}
use Rattle.script_lang.specs.Limits.{IsWithin}
use Rattle.script_lang.specs.Scripts.{steps_of}
use Rattle.script_lang.specs.Sessions.{settings_of}
use Rattle.script_lang.specs.declared.script_refusal.TheConstants.{MAX_LINES}
use Rattle.script_lang.specs.declared.session.Session.{Session}
use Rattle.script_lang.proofs.FewPieces.{few_pieces, short_steps}
use Rattle.script_lang.proofs.Numbers.{between-checked}
use Rattle.script_steps.specs.Executable.{AreExecutable, CanBeDone}
use Rattle.script_steps.specs.Packing.{CanBePacked, HaveFewPieces}
use Rattle.script_steps.specs.Rulings.{steps_under_policy}
use Rattle.script_steps.specs.declared.operation.Decision.{Decision}
use Rattle.script_steps.specs.declared.operation.Step.{Step}
use Rattle.script_steps.specs.declared.operation.Step.TheVariants.{Do, Denied, Dispatch}
use Rattle.session_input.specs.Deserved.{IsRunnable, session_part}
use Rattle.session_input.proofs.Ruled.{all_still, short_still}
use Rattle.transcript_reader.specs.Shown.{HaveNames}
use Rattle.run_audit.specs.Verdicts.{CanBeAudited}
use Rattle.audit_command.specs.Boards.{AreSimulated}
use Rattle.audit_command.proofs.Sessions.{all_here, few_lines}
use Rattle.audit_laws.proofs.SessionAsks.{HasLineName, all_asked, scripts_named, steps_ruled}
use Rattle.audit_laws.proofs.SessionBoards.{session_indexes, session_named}

-- ---- names

pub have_names : (bytes : List ℕ) (session : Session) (steps : List (List Step)) → IsRunnable bytes session steps
    → HaveNames session.boards steps
have_names bytes session steps runnable =
    let document = session_part runnable.stands.document in
    let is = runnable.stands.is_session in
    let runs = runnable.runs in
    let indexes = session_indexes document session runs.registers is runs.boards.compiled.each_index in
    record {
      boards' = session_named document session is;
      registers' = all_asked steps
          (all_still (AllByRecursion HasLineName) steps_ruled runnable.policy (names_of session.boards)
          (steps_of session.boards runs.registers session.scripts) steps runs.meant
          (scripts_named session.boards runs.registers indexes session.scripts));
    }

-- ---- packing

step_packed : (step : Step) → CanBeDone step → CanBePacked step
step_packed (Do op) done = done.cut'
step_packed (Denied rule op) done = tt
step_packed Dispatch done = tt

steps_packed : (steps : List Step) → AreExecutable steps → AllByRecursion CanBePacked steps
steps_packed [] are = tt
steps_packed (step ∷ steps) are = (step_packed step are.0, steps_packed steps are.1)

all_packed : (scripts : List (List Step)) → AllByRecursion AreExecutable scripts
    → AllByRecursion (AllByRecursion CanBePacked) scripts
all_packed [] are = tt
all_packed (steps ∷ scripts) are = (steps_packed steps are.0, all_packed scripts are.1)

-- ---- under a policy

abbrev pub LeavesFewPieces : Type 0
LeavesFewPieces = (steps : List Step) (said : List Decision) → HaveFewPieces steps → HaveFewPieces (steps_under_policy steps said)

abbrev pub LeavesTheCount : Type 0
LeavesTheCount = (steps : List Step) (said : List Decision) → length (steps_under_policy steps said) ≡ length steps

abbrev pub KeepsLimits : Type 0
KeepsLimits = (document : Members) (session : Session) → IsSession document session → IsWithin session

module _ (limits : KeepsLimits) (few : LeavesFewPieces) (count : LeavesTheCount) where
  pub can_be_audited : (bytes : List ℕ) (session : Session) (steps : List (List Step)) → IsRunnable bytes session steps
      → AreSimulated session.boards → AllByRecursion AreExecutable steps → CanBeAudited session steps
  can_be_audited bytes session steps runnable simulated executable =
      let within = limits (session_part runnable.stands.document) session runnable.stands.is_session in
      let runs = runnable.runs in
      let names = names_of session.boards in
      let meant = steps_of session.boards runs.registers session.scripts in
      let short : AllByRecursion (λ steps. length steps ≤ MAX_LINES) steps =
      all_still (λ steps. length steps ≤ MAX_LINES) (short_still count MAX_LINES) runnable.policy names meant steps
      runs.meant (short_steps session.boards runs.registers session.scripts runs.faultless) in
      record {
        boards' = all_here session.boards within.boards runs.boards.buses simulated;
        packed = all_packed steps executable;
        few = all_still HaveFewPieces few runnable.policy names meant steps runs.meant
            (few_pieces session.boards runs.registers session.scripts runs.faultless);
        executable = executable;
        lines' = few_lines session runnable.policy steps within runs short;
      }

-- ---- numbers

rounds_of : (document : Members) → (settings_of document).rounds < 2 ^ 8
rounds_of document =
    let both =
    between-checked 1 255 8 (option_and_then number (get_member (codes "rounds") document)) (omega arith) (omega arith)
    in omega (arith, both.1)

pub few_rounds : (bytes : List ℕ) (session : Session) (steps : List (List Step)) → IsRunnable bytes session steps
    → session.settings.rounds < 2 ^ 8
few_rounds bytes session steps runnable =
    rw runnable.stands.is_session.settings (rounds_of (session_part runnable.stands.document))

-- a policy leaves as many scripts as there were
from_count : (rules : List Rule) (names : List (List ℕ)) (client : ℕ) (scripts : List (List Step))
    → length (ruled_from rules names client scripts) ≡ length scripts
from_count rules names client [] = refl
from_count rules names client (steps ∷ scripts) = ap suc (from_count rules names (client + 1) scripts)

ruled_count : (policy : Option (List Rule)) (names : List (List ℕ)) (scripts : List (List Step))
    → length (ruled_scripts policy names scripts) ≡ length scripts
ruled_count None names scripts = refl
ruled_count (Some rules) names scripts = from_count rules names 1 scripts

module _ (limits : KeepsLimits) where
  pub few_clients : (bytes : List ℕ) (session : Session) (steps : List (List Step)) → IsRunnable bytes session steps
      → length steps < 2 ^ 32
  few_clients bytes session steps runnable =
      let within = limits (session_part runnable.stands.document) session runnable.stands.is_session in
      let most = within.few_clients in
      let count : length steps ≡ length session.scripts =
      ap length runnable.runs.meant ∙ ruled_count runnable.policy _ _ ∙ length-map session.scripts _ in
      omega (arith, most, count)
