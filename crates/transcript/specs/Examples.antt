-- Sessions worked by hand: what each line of a transcript looks like. One board with an MTU of 1500, unless it is said
-- otherwise. Profile.
use Rattle.std.specs.Prelude.{ℕ, List, [], ◌∷◌, ◌++◌, codes, replicate, Option, Some, None}
use Rattle.transaction_codec.specs.declared.request.Op.{Op}
use Rattle.transaction_codec.specs.declared.request.Op.TheVariants as ops
use Rattle.address_table.specs.declared.kinds.Permission.{Permission}
use Rattle.address_table.specs.declared.kinds.Permission.TheVariants.{R, Rw}
use Rattle.address_table.specs.declared.kinds.Mode.{Mode}
use Rattle.address_table.specs.declared.kinds.Mode.TheVariants.{Single, Block}
use Rattle.node_tree.specs.declared.register.Register.{Register}
use Rattle.node_tree.specs.Maps.{Name}
use Rattle.script_steps.specs.declared.operation.Verb.{Verb}
use Rattle.script_steps.specs.declared.operation.Verb.TheVariants as verb
use Rattle.script_steps.specs.declared.operation.Decision.TheVariants as decision
use Rattle.script_steps.specs.declared.operation.Step.{Step}
use Rattle.script_steps.specs.declared.operation.Step.TheVariants.{Do, Dispatch}
use Rattle.script_steps.specs.Rulings.{steps_under_policy, ruled_step}
use Rattle.lane_record.specs.declared.outcome.Outcome.{Outcome}
use Rattle.lane_record.specs.declared.outcome.Outcome.TheVariants.{Replied, TimedOut, Unsent, LinkLost}
use Rattle.script_plans.specs.declared.greeting.Greeting.{Greeting}
use Rattle.script_plans.specs.declared.greeting.Greeting.TheVariants.{Live}
use Rattle.script_plans.specs.Runs.{BoardFate}
use Rattle.transcript.specs.Session.{transcript}
use Rattle.transcript.specs.Text.{transcript_text}

abbrev pub full_mask : ℕ
full_mask = 0xffffffff

-- an operation on the one board
abbrev pub ask : Verb → List ℕ → ℕ → Op → Step
ask kind name mask op = Do (record { line = 1; verb = kind; board = 0; name = name; mask = mask; op = op })

abbrev pub read_id : Step
read_id = ask verb.Read (codes "sys.id") full_mask (ops.Read 4 1)

abbrev pub read_mem : ℕ → Step
read_mem count = ask verb.ReadBlock (codes "mem") full_mask (ops.Read 0x100 count)

abbrev pub write_a : Step
write_a = ask verb.Write (codes "a") full_mask (ops.Write 8 (1 ∷ []))

abbrev pub read_a : Step
read_a = ask verb.Read (codes "a") full_mask (ops.Read 8 1)

abbrev pub sum_a : Step
sum_a = ask verb.RmwSum (codes "a") full_mask (ops.RmwSum 8 1)

-- the top bit of `a`
abbrev pub write_top : Step
write_top = ask verb.Write (codes "a.top") 0x80000000 (ops.RmwBits 8 0x7fffffff 0x80000000)

abbrev pub read_top : Step
read_top = ask verb.Read (codes "a.top") 0x80000000 (ops.Read 8 1)

-- a write between two reads, which this rule denies
abbrev pub denied_write : ℕ → List Step
denied_write rule =
    steps_under_policy (read_a ∷ write_a ∷ read_id ∷ []) (decision.Allowed ∷ decision.Denied rule ∷ decision.Allowed ∷ [])

-- the board's part in one client's run, with what came late
abbrev pub told_late : Greeting → List (List Outcome) → List (Option (List ℕ)) → List BoardFate
told_late greeting outcomes lates =
    record { name = codes "b0"; greeting = greeting; outcomes = outcomes ∷ []; lates = lates ∷ [] } ∷ []

-- where nothing came late
abbrev pub fates_told : Greeting → List (List Outcome) → List BoardFate
fates_told greeting outcomes = told_late greeting outcomes []

-- what is printed of one client
abbrev pub printed_late : List Step → Greeting → List (List Outcome) → List (Option (List ℕ)) → List ℕ
printed_late steps greeting outcomes lates =
    transcript_text (transcript (steps ∷ []) (told_late greeting outcomes lates))

abbrev pub printed_text : List Step → Greeting → List (List Outcome) → List ℕ
printed_text steps greeting outcomes = printed_late steps greeting outcomes []

-- the payload of an MTU of 1500 bytes, and of 92
abbrev pub live : Greeting
live = Live 368

abbrev pub narrow : Greeting
narrow = Live 16

-- what is printed of one body that timed out at place 1 after 2 rounds and was answered late with these words
abbrev pub answered_late : List Step → List ℕ → List ℕ
answered_late steps words = printed_late steps live ((TimedOut 1 2 ∷ []) ∷ []) (Some words ∷ [])

-- the reply to a block read of so many words, with this identifier
abbrev pub zeros_read : ℕ → ℕ → List ℕ
zeros_read header count = header ∷ replicate count 0

-- one dispatch in which a block read ends past the last word of its range, and then one for each other end
abbrev pub every_step : List Step
every_step =
    read_id ∷ write_a ∷ sum_a ∷ read_mem 10 ∷ read_id ∷ Dispatch ∷ read_id ∷ Dispatch ∷ read_id ∷ Dispatch ∷ read_id
    ∷ Dispatch ∷ read_id ∷ Dispatch ∷ read_id ∷ ruled_step write_a (decision.Denied 3) ∷ []

abbrev pub every_outcome : List (List Outcome)
every_outcome =
    (Replied 1 ((0x20000100 ∷ 0xabcd ∷ 0x20010110 ∷ 0x20020150 ∷ 1 ∷ []) ++ zeros_read 0x20030804 8) ∷ [])
    ∷ (Replied 2 (0x20010100 ∷ 0xabcd ∷ []) ∷ []) ∷ (TimedOut 3 2 ∷ []) ∷ (TimedOut 4 2 ∷ []) ∷ (Unsent ∷ [])
    ∷ (LinkLost (Some 5) ∷ []) ∷ []

-- the second of the bodies that timed out was answered late
abbrev pub every_late : List (Option (List ℕ))
every_late = None ∷ None ∷ None ∷ Some (0x20000100 ∷ 0xabcd ∷ []) ∷ []

-- ---- registers

abbrev pub register : ℕ → ℕ → Permission → Mode → ℕ → Register
register address mask permission mode size =
    record { address = address; mask = mask; permission = permission; mode = mode; size = size }

abbrev pub channel_registers : List (Name × Register)
channel_registers =
    (codes "buffer", register 0x10 full_mask Rw Block 16)
    ∷ (codes "ctrl", register 0 full_mask Rw Single 1)
    ∷ (codes "ctrl.enable", register 0 1 Rw Single 1)
    ∷ (codes "ctrl.gain", register 0 0xf0 Rw Single 1)
    ∷ (codes "status", register 1 full_mask R Single 1)
    ∷ []

abbrev pub overlapping_registers : List (Name × Register)
overlapping_registers = (codes "x", register 0 0xff Rw Single 1) ∷ (codes "y", register 0 1 Rw Single 1) ∷ []
