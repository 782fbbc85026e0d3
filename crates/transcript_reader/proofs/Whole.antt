-- The lines of clients and then those of boards are the whole text.
use Rattle.std.proofs.Common.{◌≡◌, ℕ, ◌+◌, ◌<◌, List, [], ◌∷◌, ◌++◌, length, map, drop, sym, ap, subst, ◌∙◌, arith}
use Rattle.std.proofs.Common.{append_assoc, append-nil, length-append}
use Rattle.std.specs.List.{AllZip}
use Rattle.std.proofs.lemmas.Slice.Zip.{AllZip-long}
use Rattle.std.proofs.Math.Seq.{drop-append_seam}
use Rattle.board_specs.specs.declared.spec.BoardSpec.{BoardSpec}
use Rattle.script_steps.specs.declared.operation.Step.{Step}
use Rattle.script_plans.specs.declared.greeting.Greeting.{Greeting}
use Rattle.transcript.specs.declared.line.BoardLine.{BoardLine}
use Rattle.transcript.specs.Lines.{Showing}
use Rattle.transcript.specs.Text.{board_text}
use Rattle.transcript_reader.specs.declared.reading.Reader.{Reader}
use Rattle.transcript_reader.specs.declared.shown.Unshown.{Unshown}
use Rattle.transcript_reader.specs.declared.shown.Unshown.TheVariants.{At, NoMemory}
use Rattle.transcript_reader.specs.Entries.{Board, IsLineOf, MayStand, clients_from, entries, lines_of, told_boards, told_from}
use Rattle.transcript_reader.specs.Faults.{IsUnshown}
use Rattle.transcript_reader.specs.Shown.{CanShowAll, IsShownBy, clients_under, greetings_in}
use Rattle.transcript_reader.specs.Walks.{AreBoards, AreClients, IsLeftOver, IsStuckBehind, client_texts}
use Rattle.transcript_reader.proofs.Faulted.{is_unshown, left_over}
use Rattle.transcript_reader.proofs.Found.{text_of_lines, told_lines}
use Rattle.transcript_reader.proofs.Told.{told_past}
use Rattle.transcript_reader.proofs.Walked.{behind_after, behind_more, boards_stand, clients_stand, mapped, zip_append}

module _ (boards : List BoardSpec) (scripts : List (List Step)) (text : List ℕ) (told : List Greeting) (old mid : Reader)
    (clients : List (List Showing)) (is : told ≡ told_boards boards scripts (lines_of text))
    (begins : lines_of old.text.now ≡ lines_of text) (none : old.line ≡ 0) where
  unshown : (u : Unshown) → IsStuckBehind boards told (entries boards scripts) (lines_of old.text.now) old.line u
      → IsUnshown boards scripts text u
  unshown u stuck =
      is_unshown boards scripts text u
      (subst (λ (n : ℕ). IsStuckBehind boards (told_boards boards scripts (lines_of text)) (entries boards scripts)
      (lines_of text) n u) none
      (subst (λ (ls : List (List ℕ)). IsStuckBehind boards (told_boards boards scripts (lines_of text))
      (entries boards scripts) ls old.line u) begins
      (subst (λ (t : List Greeting). IsStuckBehind boards t (entries boards scripts) (lines_of old.text.now) old.line u) is
      stuck)))

  pub clients_unshown : (u : Unshown)
      → IsStuckBehind boards told (clients_from 1 scripts) (lines_of old.text.now) old.line u
      → IsUnshown boards scripts text u
  clients_unshown u stuck =
      unshown u (behind_more boards told (clients_from 1 scripts) (map Board boards) (lines_of old.text.now) old.line u stuck)

  pub boards_unshown : (u : Unshown) → AreClients boards told scripts old mid clients
      → IsStuckBehind boards told (map Board boards) (lines_of mid.text.now) mid.line u
      → IsUnshown boards scripts text u
  boards_unshown u read stuck =
      unshown u (behind_after boards told (clients_from 1 scripts) (map Board boards) (lines_of old.text.now)
      (client_texts 1 (clients_under boards scripts clients)) (lines_of mid.text.now) old.line mid.line u
      (clients_stand boards told 1 scripts clients read.can) read.spelled read.counted stuck)

  both : (new : Reader) (shown : List BoardLine) → AreClients boards told scripts old mid clients
      → AreBoards boards mid new shown → lines_of text
      ≡ (client_texts 1 (clients_under boards scripts clients) ++ map board_text shown) ++ lines_of new.text.now
  both new shown read lines =
      sym begins
      ∙ (read.spelled
      ∙ (ap (λ (ls : List (List ℕ)). client_texts 1 (clients_under boards scripts clients) ++ ls) lines.spelled
      ∙ sym (append_assoc (client_texts 1 (clients_under boards scripts clients)) (map board_text shown)
      (lines_of new.text.now))))

  all_stand : (shown : List BoardLine) → AllZip (CanShowAll told) scripts clients → AllZip IsLineOf boards shown
      → AllZip (MayStand boards told) (entries boards scripts)
      (client_texts 1 (clients_under boards scripts clients) ++ map board_text shown)
  all_stand shown can lines =
      zip_append (MayStand boards told) (clients_from 1 scripts) (map Board boards)
      (client_texts 1 (clients_under boards scripts clients)) (map board_text shown)
      (clients_stand boards told 1 scripts clients can) (boards_stand boards told boards shown lines)

  pub left_unshown : (new : Reader) (shown : List BoardLine) (u : Unshown) → AreClients boards told scripts old mid clients
      → AreBoards boards mid new shown → IsLeftOver new u → IsUnshown boards scripts text u
  left_unshown new shown (At line) read lines left =
      let front = client_texts 1 (clients_under boards scripts clients) ++ map board_text shown in
      let stand = all_stand shown read.can lines.can in
      let long : length (entries boards scripts) ≡ length (clients_from 1 scripts) + length boards =
      omega (arith, length-append (clients_from 1 scripts) (map Board boards), mapped boards) in
      left_over boards scripts text line front (lines_of new.text.now)
      (subst (λ (t : List Greeting). AllZip (MayStand boards t) (entries boards scripts) front) is stand)
      (both new shown read lines) left.0
      (AllZip-long (MayStand boards told) (entries boards scripts) front stand)
      (omega (arith, left.1, lines.counted, read.counted))
  left_unshown new shown NoMemory read lines left = tt

  pub found : (new : Reader) (shown : List BoardLine) → AreClients boards told scripts old mid clients
      → AreBoards boards mid new shown → lines_of new.text.now ≡ []
      → IsShownBy boards scripts text (record { clients = clients; boards = shown })
  found new shown read lines done =
      let T = client_texts 1 (clients_under boards scripts clients) in
      let M = map board_text shown in
      let parts : lines_of text ≡ T ++ M =
      both new shown read lines ∙ (ap (λ (ls : List (List ℕ)). (T ++ M) ++ ls) done ∙ append-nil (T ++ M)) in
      let long : length T ≡ length (clients_from 1 scripts) =
      AllZip-long (MayStand boards told) (clients_from 1 scripts) T (clients_stand boards told 1 scripts clients read.can) in
      let behind : drop (length (clients_from 1 scripts)) (lines_of text) ≡ M =
      ap (λ (n : ℕ). drop n (lines_of text)) (sym long)
      ∙ (ap (λ (ls : List (List ℕ)). drop (length T) ls) parts ∙ drop-append_seam T M) in
      let greetings : told ≡ greetings_in boards shown =
      is ∙ (sym (told_past (length (clients_from 1 scripts)) boards (lines_of text))
      ∙ (ap (told_from 0 boards) behind ∙ told_lines boards shown lines.can)) in
      record {
        spelled = text_of_lines text (clients_under boards scripts clients) shown parts;
        clients' = subst (λ (t : List Greeting). AllZip (CanShowAll t) scripts clients) greetings read.can;
        boards' = lines.can;
      }
