-- WHAT `apply` PROMISES of the text that it writes with status 0 or 1. Profile.
use Rattle.std.specs.Prelude.{◌≡◌, ℕ, List, [], ◌∷◌}
use Rattle.board_history.specs.Links.{LinkReport}
use Rattle.node_tree.specs.Maps.{RegisterMap}
use Rattle.script_steps.specs.declared.operation.Step.{Step}
use Rattle.script_lang.specs.declared.session.Session.{Session}
use Rattle.session_input.specs.Deserved.{AreCompiled}
use Rattle.config_store.specs.declared.state.StateEntry.{StateEntry}
use Rattle.config_store.specs.Kept.{indexed_boards, kept_of}
use Rattle.config_laws.specs.Applied.{AreAmong, AreApplied}
use Rattle.config_laws.specs.Saved.{saved_text}
use Rattle.config_input.specs.Deserved.{IsApplicable}
use Rattle.config_input.specs.Work.{apply_command}
use Rattle.config_commands.specs.Written.{AllTell, IsWritten}

-- The text has a value of each kept register of each board: the one that the state gives for it, or else the one that the
-- board opens with; and each value of the state is in it.
pub record IsAppliedText (session : Session) (state : List StateEntry) (text : List ℕ) : Type 0 where
  -- the registers of the boards' tables, the values of those that are kept, and their text
  pub registers : List RegisterMap
  pub compiled : AreCompiled session registers
  pub entries : List StateEntry
  pub applied : AreApplied session.boards state (kept_of (indexed_boards session.boards registers)) entries
  pub among : AreAmong state entries
  pub spelled : text ≡ saved_text session.boards entries

-- Of the bytes of the input, what the links that were given back show, the status and the text:
pub record IsAppliedBy (bytes : List ℕ) (links : List LinkReport) (status : ℕ) (text : List ℕ) : Type 0 where
  -- the bytes stand for a session and, under the key `state`, for values that can be written to its registers; these steps
  -- write each value, await the writes, and then read every kept register, under the policy
  pub session : Session
  pub steps : List Step
  pub applicable : IsApplicable bytes session (steps ∷ [])
  -- the text is that of what a run of these steps shows
  pub written : IsWritten session steps links status text
  -- at status 0, where the links tell, it shows each value of the state, and every other kept register as its board opens
  -- with it, whatever the links lost, repeated, delayed or reordered
  pub applied : status ≡ 0 → AllTell links
      → IsAppliedText session (apply_command.work applicable.document).values text
