-- How the code reads what stands at the front of a text, where memory may run out. The private functions speak of it
-- and no public clause does.
use Rattle.std.specs.Prelude.{◌≡◌, ℕ, nat_lt, if◌then◌else◌, List, length, Option, Some, None}
use Rattle.std.specs.Prelude.{Result, Ok, Err}
use Rattle.ipb_base.specs.Fronts.{Front}
use Rattle.capture_reader.specs.declared.refusal.Unread.{Unread}
use Rattle.capture_reader.specs.declared.refusal.Unread.TheVariants.{Other, NoMemory}

-- what was found, and the text behind it
abbrev pub with_rest : {A : Type 0} → Option A → List ℕ → Front A
with_rest (Some a) rest = Some (a, rest)
with_rest None rest = None

abbrev pub with_text : {A : Type 0} → A → Option (List ℕ) → Front A
with_text a (Some rest) = Some (a, rest)
with_text a None = None

-- what was read, if it was taken off the text
abbrev pub shorter : {A : Type 0} → List ℕ → Front A → Front A
shorter text None = None
shorter text (Some read) = if nat_lt (length read.1) (length text) then Some read else None

-- what a function found, seen by `view`, unless memory ran out
abbrev pub Gives : {X Y : Type 0} → (X → Y) → Result X Unread → Option Y → Type 0
Gives view (Ok x) read = read ≡ Some (view x)
Gives view (Err Other) read = read ≡ None
Gives view (Err NoMemory) read = Unit {0}
