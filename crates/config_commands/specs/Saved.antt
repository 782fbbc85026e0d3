-- WHAT `save` PROMISES of the text that it writes with status 0 or 1. Profile.
use Rattle.std.specs.Prelude.{◌≡◌, ℕ, List, [], ◌∷◌}
use Rattle.board_history.specs.Links.{LinkReport}
use Rattle.node_tree.specs.Maps.{RegisterMap}
use Rattle.script_steps.specs.declared.operation.Step.{Step}
use Rattle.script_lang.specs.declared.session.Session.{Session}
use Rattle.session_input.specs.Deserved.{AreCompiled}
use Rattle.config_store.specs.declared.state.StateEntry.{StateEntry}
use Rattle.config_store.specs.Kept.{indexed_boards, kept_of}
use Rattle.config_laws.specs.Saved.{AreSaved, saved_text}
use Rattle.config_input.specs.Deserved.{IsSavable}
use Rattle.config_commands.specs.Written.{AllTell, IsWritten}

-- The text has the value of each kept register of each board: the field under its mask of the word at its address on the
-- bus that the board opens with.
pub record IsOpeningText (session : Session) (text : List ℕ) : Type 0 where
  -- the registers of the boards' tables, the values of those that are kept, and their text
  pub registers : List RegisterMap
  pub compiled : AreCompiled session registers
  pub entries : List StateEntry
  pub saved : AreSaved session.boards (kept_of (indexed_boards session.boards registers)) entries
  pub spelled : text ≡ saved_text session.boards entries

-- Of the bytes of the input, what the links that were given back show, the status and the text:
pub record IsSavedBy (bytes : List ℕ) (links : List LinkReport) (status : ℕ) (text : List ℕ) : Type 0 where
  -- the bytes stand for a session whose configuration can be saved, and these steps read every kept register, under its
  -- policy
  pub session : Session
  pub steps : List Step
  pub savable : IsSavable bytes session (steps ∷ [])
  -- the text is that of what a run of these steps shows
  pub written : IsWritten session steps links status text
  -- at status 0, where the links tell, it is that of the configuration that the boards open with, whatever the links
  -- lost, repeated, delayed or reordered
  pub opening : status ≡ 0 → AllTell links → IsOpeningText session text
