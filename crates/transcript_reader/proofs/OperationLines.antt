-- The line of an operation is its front and what it shows.
use Rattle.std.proofs.Common.{◌≡◌, ℕ, List, ◌++◌, Option, Some, None, slice_get, Result, Ok, Err, IfOk, refl, sym, ap, subst, ◌∙◌, ◌<◌, length, get_or}
use Rattle.std.proofs.lemmas.Option.{slice_get-get_or}
use Rattle.ipb_base.specs.declared.no_memory.NoMemory.{NoMemory}
use Rattle.board_specs.specs.declared.spec.BoardSpec.{BoardSpec}
use Rattle.script_steps.specs.Rulings.{Asked}
use Rattle.script_plans.specs.declared.greeting.Greeting.{Greeting}
use Rattle.transcript.specs.Lines.{Showing, line_with, never_sent}
use Rattle.transcript.specs.Text.{asked_text, line_text}
use Rattle.transcript_reader.specs.Entries.{line_under, name_at}
use Rattle.ipb_base.specs.Fronts.{behind}
use Rattle.transcript_reader.specs.Results.{CanShowUnless}
use Rattle.transcript_reader.specs.Walks.{ReadsOperation, ReadsShown, shows_text}
use Rattle.ipb_base.proofs.FrontWords.{behind_again}

-- what stands before the result
abbrev pub front_of : List BoardSpec → ℕ → Asked → List ℕ
front_of boards number ask = asked_text (line_with number ask.op (name_at boards ask.op.board) never_sent)

pub line_parts : (boards : List BoardSpec) (number : ℕ) (ask : Asked) (shows : Showing)
    → line_text (line_under boards number ask shows) ≡ front_of boards number ask ++ shows_text shows
line_parts boards number ask shows = refl

pub no_front : (boards : List BoardSpec) (number : ℕ) (ask : Asked) (line : List ℕ) (shows : Showing)
    → behind (front_of boards number ask) line ≡ None → line ≡ line_text (line_under boards number ask shows) → ⊥
no_front boards number ask line shows none e =
    let again = behind_again (front_of boards number ask) (shows_text shows) in
    let parts = line_parts boards number ask shows in
    cc

same_tail : (front text other : List ℕ) → front ++ text ≡ front ++ other → text ≡ other
same_tail front text other e =
    let one = behind_again front text in
    let two = behind_again front other in
    cc

same_greeting : (told : List Greeting) (board : ℕ) (other greeting : Greeting) → slice_get told board ≡ Some other
    → slice_get told board ≡ Some greeting → other ≡ greeting
same_greeting told board other greeting has got = cc

read_by : (boards : List BoardSpec) (told : List Greeting) (number : ℕ) (ask : Asked) (line text : List ℕ)
    (greeting : Greeting) → slice_get told ask.op.board ≡ Some greeting → line ≡ front_of boards number ask ++ text
    → (found : Option Showing) → ReadsShown ask.denied greeting ask.op text found
    → ReadsOperation boards told number ask line found
read_by boards told number ask line text greeting got parts (Some shows) reads = (
  (greeting, got, reads.0),
  parts ∙ (ap (λ (t : List ℕ). front_of boards number ask ++ t) reads.1 ∙ sym (line_parts boards number ask shows)),
)
read_by boards told number ask line text greeting got parts None reads = λ shows can e.
    let one = same_greeting told ask.op.board can.0 greeting can.1 got in
    reads shows (subst (λ (g : Greeting). CanShowUnless ask.denied g ask.op shows) one can.2)
    (same_tail (front_of boards number ask) text (shows_text shows) (sym parts ∙ (e ∙ line_parts boards number ask shows)))

pub read_line : (boards : List BoardSpec) (told : List Greeting) (number : ℕ) (ask : Asked) (line text : List ℕ)
    (greeting : Greeting) → slice_get told ask.op.board ≡ Some greeting → line ≡ front_of boards number ask ++ text
    → (found : Result (Option Showing) NoMemory) → IfOk found (ReadsShown ask.denied greeting ask.op text)
    → IfOk found (ReadsOperation boards told number ask line)
read_line boards told number ask line text greeting got parts (Ok found) reads =
    read_by boards told number ask line text greeting got parts found reads
read_line boards told number ask line text greeting got parts (Err error) reads = tt

-- what stands at a position that was looked up
pub looked_up : (told : List Greeting) (board : ℕ) (greeting : Greeting) → board < length told
    → greeting ≡ get_or told board greeting → slice_get told board ≡ Some greeting
looked_up told board greeting low is = slice_get-get_or told board greeting low ∙ ap Some (sym is)
