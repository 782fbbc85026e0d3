-- THE END OF A CALL: what holds of everything outside when the program ends, at every status, and what more by the
-- status; and which words and inputs end in which. It is one record, `Ended`. Profile.
use Rattle.std.specs.Prelude.{◌≡◌, ◌⊎◌, ℕ, List, [], ◌++◌, length, Option, None, true, false, String}
use Rattle.std.specs.declared.alloc.Global.{Global}
use Rattle.std.specs.List.{AllByRecursion}
use Rattle.ipb_base.specs.Faults.{Rose}
use Rattle.ipb_outside.specs.Told.{TakesAtMost}
use Rattle.board_specs.specs.declared.spec.LinkSpec.{LinkSpec}
use Rattle.board_history.specs.Links.{AreInOrderMade, IsUntouched}
use Rattle.board_history.specs.Machine.{RanAsMachine}
use Rattle.session_serve.specs.Serving.{AreBack}
use Rattle.command_words.specs.declared.command.Command.{Command}
use Rattle.command_terms.specs.Numbers.{IsDoneStatus, done_status, not_all_done_status, usage_status, refused_status}
use Rattle.command_terms.specs.Numbers.{read_fault_status, write_fault_status, no_memory_status, rack_fault_status}
use Rattle.command_terms.specs.Numbers.{door_fault_status}
use Rattle.command_terms.specs.Terms.{Reads, Terms, most_bytes}
use Rattle.ipbus_program.specs.Commands.{terms_of}
use Rattle.ipbus_program.specs.Outside.{Outside}
use Rattle.ipbus_program.specs.Owed.{AreCommand, OwesDone, OwesRefusal, OwesText, OwesUsage, ServedSome, UsedSome}
use Rattle.ipbus_program.specs.Owed.{Wrote, WroteOwed, WroteOwedPart}

-- the statuses that there are
abbrev pub IsStatus : ℕ → Type 0
IsStatus status =
    (status ≡ done_status) ⊎ (status ≡ not_all_done_status) ⊎ (status ≡ usage_status) ⊎ (status ≡ refused_status)
    ⊎ (status ≡ read_fault_status) ⊎ (status ≡ write_fault_status) ⊎ (status ≡ no_memory_status)
    ⊎ (status ≡ rack_fault_status) ⊎ (status ≡ door_fault_status)

-- Of the words, the outside and the status:
pub record Ended (words : List (String Global)) (outside : Outside) (status : ℕ) : Type 0 where
  -- it is one of these nine
  pub known : IsStatus status
  -- the rack made links of these specs in this call, and was given back each
  pub specs : List LinkSpec
  pub grown : outside.made_now ≡ outside.made ++ specs
  pub counted : length specs ≡ length outside.given_back.links
  -- each link stands where the spec does that it was made of: it is the one that was made as the first, the second ..
  pub in_order : AreInOrderMade (length outside.made) outside.given_back.links
  -- the specs and the links are those of the first boards of a session that the command uses, board by board, and where
  -- its scripts were run, what was sent to each board, and so what it executed, is a merge of bodies that they ask of
  -- it; or there are none
  pub used : (outside.given_back.links ≡ [])
      ⊎ UsedSome words outside.left outside.left_now specs outside.given_back.links
  -- each pair that came was served and went back
  pub served : AreBack outside.given_back.came outside.given_back.back
  -- no more was taken of the input than the command reads
  pub taken : (command : Command) → AreCommand words command
      → TakesAtMost (most_bytes (terms_of command)) outside.left outside.left_now
  -- 0 and 1: what the command makes of the whole input over these links and pairs was written, and nothing else
  pub done : IsDoneStatus status
      → WroteOwed (OwesDone words outside.left outside.left_now outside.given_back status)
      outside.written outside.written_now
  -- and over each link on which a board told its status passed what the hub's machine does with bodies of clients,
  -- whether the link tells or not; that they are those which the command asks is said by what is owed
  pub over_any_link : IsDoneStatus status → AllByRecursion RanAsMachine outside.given_back.links
  -- 2: the words are no command, and the usage line was written
  pub usage : status ≡ usage_status
      → WroteOwed (OwesUsage words outside.left outside.left_now) outside.written outside.written_now
  -- 3: the line of the first rule that the input breaks was written
  pub refused : status ≡ refused_status
      → WroteOwed (OwesRefusal words outside.left outside.left_now) outside.written outside.written_now
  -- 4: the words are a command that reads
  pub reads : status ≡ read_fault_status → (command : Command) × AreCommand words command × Reads (terms_of command)
  -- 5: a part of a text that is owed was written
  pub cut : status ≡ write_fault_status
      → WroteOwedPart (OwesText words outside.left outside.left_now outside.given_back)
      outside.written outside.written_now
  -- 7: these are links of such a session, and their boards executed nothing
  pub unreached : status ≡ rack_fault_status
      → UsedSome words outside.left outside.left_now specs outside.given_back.links
      × AllByRecursion IsUntouched outside.given_back.links
  -- 8: the words are a command that lets clients in, and these are the links of its boards
  pub unserved : status ≡ door_fault_status
      → ServedSome words outside.left outside.left_now specs outside.given_back.links

-- ---- what is left alone

-- the words are no command that reads its input
abbrev pub AreNoReader : List (String Global) → Type 0
AreNoReader words = (command : Command) → AreCommand words command → (terms_of command).limit ≡ None

-- none that lets clients in
abbrev pub AreNoServer : List (String Global) → Type 0
AreNoServer words = (command : Command) → AreCommand words command → (terms_of command).lets_in ≡ false

-- none that makes links
abbrev pub AreNoLinker : List (String Global) → Type 0
AreNoLinker words = (command : Command) → AreCommand words command → (terms_of command).makes_links ≡ false

-- the statuses with which nothing was written
abbrev pub IsTextless : ℕ → Type 0
IsTextless status =
    (status ≡ read_fault_status) ⊎ (status ≡ no_memory_status) ⊎ (status ≡ rack_fault_status)
    ⊎ (status ≡ door_fault_status)

-- those with which no session was come by
abbrev pub IsSessionless : ℕ → Type 0
IsSessionless status = (status ≡ usage_status) ⊎ (status ≡ refused_status) ⊎ (status ≡ read_fault_status)

-- no link was made
abbrev pub MakesNoLink : List (String Global) → ℕ → Type 0
MakesNoLink words status = AreNoLinker words ⊎ IsSessionless status

-- the door was not called
abbrev pub CallsNoDoor : List (String Global) → ℕ → Type 0
CallsNoDoor words status = AreNoServer words ⊎ IsSessionless status ⊎ (status ≡ rack_fault_status)

-- ---- what is owed to a right input

-- the counts of faults of the input, the rack and the door did not rise, as far as the command uses them
abbrev pub IsCalm : Terms → ℕ → ℕ → ℕ → ℕ → ℕ → ℕ → Type 0
IsCalm terms input input_now rack rack_now door door_now =
    (Reads terms → ¬ Rose input input_now) × (terms.makes_links ≡ true → ¬ Rose rack rack_now)
    × (terms.lets_in ≡ true → ¬ Rose door door_now)

-- the text was written whole with one of the statuses 0 and 1, or memory ran out
abbrev pub IsWhole : ℕ → Type 0
IsWhole status = IsDoneStatus status ⊎ (status ≡ no_memory_status)

-- this line of a refusal was written and its status answered, or memory ran out
abbrev pub RefusesWith : List ℕ → ℕ → Option (List ℕ) → Option (List ℕ) → Type 0
RefusesWith line status old new = ((status ≡ refused_status) × Wrote old new line) ⊎ (status ≡ no_memory_status)
