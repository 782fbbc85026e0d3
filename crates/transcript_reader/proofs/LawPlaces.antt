-- Each line of a transcript stands in its place.
use Rattle.std.proofs.Common.{◌≡◌, ℕ, zero, suc, ◌<◌, List, [], ◌∷◌, ◌++◌, length, map, drop, slice_get}
use Rattle.std.proofs.Common.{Some, inl, inr, refl, sym, ap, subst, ◌∙◌, arith}
use Rattle.std.specs.List.{AllZip}
use Rattle.std.proofs.Math.Seq.{drop-append_seam}
use Rattle.std.proofs.lemmas.Slice.Zip.{AllZip-long}
use Rattle.board_specs.specs.declared.spec.BoardSpec.{BoardSpec}
use Rattle.script_steps.specs.declared.operation.Step.{Step}
use Rattle.script_plans.specs.declared.greeting.Greeting.{Greeting}
use Rattle.transcript.specs.declared.line.BoardLine.{BoardLine}
use Rattle.transcript.specs.Lines.{Showing}
use Rattle.transcript.specs.Text.{board_text}
use Rattle.transcript_reader.specs.declared.shown.Shown.{Shown}
use Rattle.transcript_reader.specs.Entries.{Board, Entry, IsLineOf, MayStand, clients_from, entries, lines_of}
use Rattle.transcript_reader.specs.Entries.{told_boards, told_from}
use Rattle.transcript_reader.specs.Faults.{IsFaultAt, IsRightAt}
use Rattle.transcript_reader.specs.Shown.{CanShowAll, HaveNames, IsShownBy, clients_under, greetings_in}
use Rattle.transcript_reader.specs.Walks.{client_texts}
use Rattle.transcript_reader.proofs.Found.{told_lines}
use Rattle.transcript_reader.proofs.Told.{told_past}
use Rattle.transcript_reader.proofs.Walked.{boards_stand, clients_stand, zip_append}
use Rattle.transcript_reader.proofs.LawCuts.{lines_shown}

-- ---- what the lines of boards tell

past : {A : Type 0} (n : ℕ) (front more : List A) → length front ≡ n → drop n (front ++ more) ≡ more
past n front more long = rw (← long) (drop-append_seam front more)

told_behind : (boards : List BoardSpec) (scripts : List (List Step)) (front : List (List ℕ)) (shown : List BoardLine)
    → length front ≡ length (clients_from 1 scripts) → AllZip IsLineOf boards shown
    → told_boards boards scripts (front ++ map board_text shown) ≡ greetings_in boards shown
told_behind boards scripts front shown long are =
    let at = length (clients_from 1 scripts) in
    sym (told_past at boards (front ++ map board_text shown))
    ∙ (ap (told_from 0 boards) (past at front (map board_text shown) long) ∙ told_lines boards shown are)

-- ---- each in its place

module _ (boards : List BoardSpec) (told : List Greeting) where
  Stands : List Entry → List (List ℕ) → ℕ → Type 0
  Stands es ls at =
      (entry : Entry) × (line : List ℕ) × (slice_get es at ≡ Some entry) × (slice_get ls at ≡ Some line)
      × MayStand boards told entry line

  stands_at : (es : List Entry) (ls : List (List ℕ)) (at : ℕ) → AllZip (MayStand boards told) es ls → at < length es
      → Stands es ls at
  unfolding Stands
  stands_at [] ls at stand low = absurd (omega arith)
  stands_at (e ∷ es) [] at stand low = absurd stand
  stands_at (e ∷ es) (l ∷ ls) zero stand low = (e, l, refl, refl, stand.0)
  stands_at (e ∷ es) (l ∷ ls) (suc at) stand low = stands_at es ls at stand.1 (omega arith)

-- the headings and operations have as many lines, whatever they show
pub as_many : (boards : List BoardSpec) (told : List Greeting) (scripts : List (List Step)) (clients : List (List Showing))
    → AllZip (CanShowAll told) scripts clients
    → length (client_texts 1 (clients_under boards scripts clients)) ≡ length (clients_from 1 scripts)
as_many boards told scripts clients can =
    AllZip-long (MayStand boards told) (clients_from 1 scripts) (client_texts 1 (clients_under boards scripts clients))
    (clients_stand boards told 1 scripts clients can)

module _ (boards : List BoardSpec) (scripts : List (List Step)) (shown : Shown)
    (can : AllZip (CanShowAll (greetings_in boards shown.boards)) scripts shown.clients)
    (are : AllZip IsLineOf boards shown.boards) where
  own_lines : List (List ℕ)
  own_lines = client_texts 1 (clients_under boards scripts shown.clients) ++ map board_text shown.boards

  all_stand : AllZip (MayStand boards (greetings_in boards shown.boards)) (entries boards scripts) own_lines
  unfolding own_lines
  all_stand =
      let told = greetings_in boards shown.boards in
      zip_append (MayStand boards told) (clients_from 1 scripts) (map Board boards)
      (client_texts 1 (clients_under boards scripts shown.clients)) (map board_text shown.boards)
      (clients_stand boards told 1 scripts shown.clients can) (boards_stand boards told boards shown.boards are)

  all_told : told_boards boards scripts own_lines ≡ greetings_in boards shown.boards
  unfolding own_lines
  all_told =
      told_behind boards scripts (client_texts 1 (clients_under boards scripts shown.clients)) shown.boards
      (as_many boards (greetings_in boards shown.boards) scripts shown.clients can) are

  right_at : (at : ℕ) → at < length (entries boards scripts) → IsRightAt boards scripts own_lines at
  unfolding Stands
  right_at at low =
      let told = greetings_in boards shown.boards in
      let right = stands_at boards told (entries boards scripts) own_lines at all_stand low in
      record {
        entry = right.0;
        line = right.1;
        expected = right.2;
        there = right.3;
        stands = subst (λ (gs : List Greeting). MayStand boards gs right.0 right.1) (sym all_told) right.4;
      }

  long : length own_lines ≡ length (entries boards scripts)
  long =
      AllZip-long (MayStand boards (greetings_in boards shown.boards)) (entries boards scripts) own_lines all_stand

pub without_fault : (boards : List BoardSpec) (scripts : List (List Step)) (text : List ℕ) (shown : Shown) (line : ℕ)
    → HaveNames boards scripts → IsShownBy boards scripts text shown → IsFaultAt boards scripts text line → ⊥
unfolding own_lines
without_fault boards scripts text shown line names is fault =
    let cut : lines_of text ≡ own_lines boards scripts shown is.clients' is.boards' =
    lines_shown boards scripts text shown names is in
    let many = long boards scripts shown is.clients' is.boards' in
    let low : fault.at < length (entries boards scripts) = elim fault.within [
      | inl low ↦ low
      | inr low ↦ omega (arith, ap length cut)
    ] in
    fault.wrong (subst (λ (ls : List (List ℕ)). IsRightAt boards scripts ls fault.at) (sym cut)
    (right_at boards scripts shown is.clients' is.boards' fault.at low))
