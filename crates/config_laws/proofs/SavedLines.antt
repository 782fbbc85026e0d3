-- The lines of the script that saves, and the configuration that boards open with.
use Rattle.std.proofs.Common.{◌≡◌, ℕ, zero, suc, ◌+◌, Bool, true, false, List, [], ◌∷◌, ◌++◌, length, Option, Some, None}
use Rattle.std.proofs.Common.{Ok, option_to_list, refl, sym, ap, ◌∙◌, subst, arith, append_assoc, if◌then◌else◌}
use Rattle.std.specs.List.{AllByRecursion, AllZip, filter, flat_map, slice_get, zip}
use Rattle.std.specs.Option.{option_map}
use Rattle.std.specs.Str.{bytes_eq}
use Rattle.std.proofs.lemmas.Option.{same_Some}
use Rattle.masked_fields.specs.Field.{field}
use Rattle.board_bus.specs.Cells.{read_word}
use Rattle.board_specs.specs.declared.spec.BoardSpec.{BoardSpec}
use Rattle.world_model.specs.Settings.{Limits}
use Rattle.node_tree.specs.Maps.{Name, RegisterMap}
use Rattle.script_steps.specs.declared.operation.Step.{Step}
use Rattle.script_steps.specs.Rulings.{Asked, asked_operations}
use Rattle.script_plans.specs.declared.board_run.BoardRun.{BoardRun}
use Rattle.transcript.specs.declared.line.OpLine.{OpLine}
use Rattle.transcript.specs.declared.line.OpResult.{OpResult}
use Rattle.transcript.specs.declared.line.OpResult.TheVariants.{Value}
use Rattle.transcript.specs.Lines.{client_lines, line_of, lines_behind}
use Rattle.board_history.specs.Runs.{opens_with}
use Rattle.board_history.specs.Links.{LinkReport}
use Rattle.board_history.specs.LinkRuns.{AreRunsOver}
use Rattle.config_store.specs.declared.state.StateEntry.{StateEntry}
use Rattle.config_store.specs.Kept.{IndexedBoard, KeptRegister, indexed_boards}
use Rattle.config_store.specs.Meanings.{Reads, read_of}
use Rattle.config_store.specs.Text.{by_value, heading, is_read_on, register_text, registers_text, state_text}
use Rattle.config_store.specs.Text.{value_of}
use Rattle.config_laws.specs.Reads.{ReadSingleWords, ReadsOneWord, ShowsOpeningWord, base_of}
use Rattle.config_laws.specs.Saved.{AreSaved, entry_text, is_on, saved_board, saved_text, values_text}

-- ---- the steps

pub single_words : (boards : List IndexedBoard) (kept : List KeptRegister) (steps : List Step)
    → AllZip (Reads boards) kept steps → ReadSingleWords steps
single_words boards [] [] reads = tt
single_words boards [] (step ∷ steps) reads = absurd reads
single_words boards (r ∷ kept) [] reads = absurd reads
single_words boards (r ∷ kept) (step ∷ steps) reads =
    let is = reads.0 in (
      subst ReadsOneWord (sym is.is) (record { verb' = refl; one_word = refl }),
      single_words boards kept steps reads.1,
    )

-- ---- the boards

-- the run of the board at a position
pub record RunAt (runs : List BoardRun) (k : ℕ) (spec : BoardSpec) : Type 0 where
  pub run : BoardRun
  pub there : slice_get runs k ≡ Some run
  pub named : run.name ≡ spec.name

pub run_at : (settings : Limits) (first : ℕ) (specs : List BoardSpec) (scripts : List (List Step)) (runs : List BoardRun)
    (links : List LinkReport) → AreRunsOver settings first specs scripts runs links → (k : ℕ) (spec : BoardSpec)
    → slice_get specs k ≡ Some spec → RunAt runs k spec
run_at settings first [] scripts runs links is k spec at = absurd cc
run_at settings first (s ∷ specs) scripts [] links is k spec at = absurd is
run_at settings first (s ∷ specs) scripts (r ∷ runs) [] is k spec at = absurd is
run_at settings first (s ∷ specs) scripts (r ∷ runs) (l ∷ links) is zero spec at =
    record { run = r; there = refl; named = is.0.scripts'.name ∙ ap (λ (x : BoardSpec). x.name) (same_Some s spec at) }
run_at settings first (s ∷ specs) scripts (r ∷ runs) (l ∷ links) is (suc k) spec at =
    let later = run_at settings (first + 1) specs scripts runs links is.1 k spec at in
    record { run = later.run; there = later.there; named = later.named }

pub first_of : {A B : Type 0} (xs : List A) (ys : List B) (k : ℕ) (pair : A × B) → slice_get (zip xs ys) k ≡ Some pair
    → slice_get xs k ≡ Some pair.0
first_of [] ys k pair at = absurd cc
first_of (x ∷ xs) [] k pair at = absurd cc
first_of (x ∷ xs) (y ∷ ys) zero pair at = ap (λ p. Some p.0) (same_Some (x, y) pair at)
first_of (x ∷ xs) (y ∷ ys) (suc k) pair at = first_of xs ys k pair at

behind : {T : Type 0} (before later : List T) (x : T) → slice_get (before ++ x ∷ later) (length before) ≡ Some x
behind [] later x = refl
behind (y ∷ before) later x = behind before later x

-- ---- a line more

pub more_text : (test : Bool) (line : OpLine) (lines : List OpLine) (entry : StateEntry) (entries : List StateEntry)
    → register_text line ≡ entry_text entry → registers_text lines ≡ flat_map entry_text entries
    → registers_text (if test then line ∷ lines else lines)
    ≡ flat_map entry_text (if test then entry ∷ entries else entries)
more_text true line lines entry entries one rest =
    ap (λ (text : List ℕ). text ++ registers_text lines) one ∙ ap (λ (text : List ℕ). entry_text entry ++ text) rest
more_text false line lines entry entries one rest = rest

record SavedLines (specs : List BoardSpec) (kept : List KeptRegister) (lines : List OpLine) : Type 0 where
  entries : List StateEntry
  saved : AreSaved specs kept entries
  text : (board : Name) → registers_text (filter (is_read_on board) lines) ≡ values_text entries board

module _ (specs : List BoardSpec) (indexes : List RegisterMap) (steps : List Step) (runs : List BoardRun)
    (over : (k : ℕ) (spec : BoardSpec) → slice_get specs k ≡ Some spec → RunAt runs k spec) where
  -- the line of a read that shows the opening word
  line_saved : (r : KeptRegister) (kept : List KeptRegister) (rest : List OpLine) (before : List Asked)
      (later : List Asked) (line place : ℕ) (board : IndexedBoard) (run : BoardRun)
      → let ask : Asked = record { op = read_of line place r.name r.register; denied = None } in
      slice_get specs place ≡ Some board.0 → board.0.name ≡ r.board → run.name ≡ board.0.name
      → before ++ ask ∷ later ≡ asked_operations steps → ShowsOpeningWord specs steps (line_of 0 before ask run)
      → SavedLines specs kept rest → SavedLines specs (r ∷ kept) (line_of 0 before ask run ∷ rest)
  line_saved r kept rest before later line place board run on called named asks shows saved =
      let ask : Asked = record { op = read_of line place r.name r.register; denied = None } in
      let shown_line = line_of 0 before ask run in
      let number : length before ≡ shows.place = omega (arith, shows.number') in
      let here : slice_get (asked_operations steps) shows.place ≡ Some ask =
      subst (λ n. slice_get (asked_operations steps) n ≡ Some ask) number
      (subst (λ (xs : List Asked). slice_get xs (length before) ≡ Some ask) asks (behind before later ask)) in
      let same : shows.ask ≡ ask = same_Some shows.ask ask (sym shows.asked' ∙ here) in
      let spec : shows.spec ≡ board.0 = same_Some shows.spec board.0
      (sym shows.on ∙ (ap (λ (a : Asked). slice_get specs a.op.board) same ∙ on)) in
      let opened : read_word (opens_with board.0.link) r.register.address ≡ Ok shows.word =
      subst (λ (s : BoardSpec). read_word (opens_with s.link) r.register.address ≡ Ok shows.word) spec
      (subst (λ (a : Asked). read_word (opens_with shows.spec.link) (base_of a.op.op) ≡ Ok shows.word) same
      shows.opened) in
      let value = field shows.word r.register.mask in
      let entry : StateEntry = record { board = r.board; name = r.name; value = value } in
      let result : shown_line.result ≡ Value (value ∷ []) =
      shows.shown ∙ ap (λ (a : Asked). Value (field shows.word a.op.mask ∷ [])) same in
      record {
        entries = entry ∷ saved.entries;
        saved = (
          record {
            board' = refl;
            name' = refl;
            place = place;
            spec = board.0;
            on = on;
            called = called;
            word = shows.word;
            opened = opened;
            value' = refl;
          },
          saved.saved,
        );
        text = λ name.
            let lines = filter (is_read_on name) rest in
            ap (λ (board_name : Name).
            registers_text (if bytes_eq board_name name then shown_line ∷ lines else lines)) (named ∙ called)
            ∙ more_text (bytes_eq r.board name) shown_line lines entry (filter (is_on name) saved.entries)
            (ap (λ (res : OpResult). by_value r.name res (value_of res)) result) (saved.text name);
      }

  read_saved : (r : KeptRegister) (kept : List KeptRegister) (later : List Step) (before : List Asked) (line place : ℕ)
      (board : IndexedBoard)
      → let ask : Asked = record { op = read_of line place r.name r.register; denied = None } in
      slice_get (indexed_boards specs indexes) place ≡ Some board → board.0.name ≡ r.board
      → before ++ ask ∷ asked_operations later ≡ asked_operations steps
      → (AllByRecursion (ShowsOpeningWord specs steps) (lines_behind runs 0 (before ++ ask ∷ []) (asked_operations later))
      → SavedLines specs kept (lines_behind runs 0 (before ++ ask ∷ []) (asked_operations later)))
      → AllByRecursion (ShowsOpeningWord specs steps) (lines_behind runs 0 before (ask ∷ asked_operations later))
      → SavedLines specs (r ∷ kept) (lines_behind runs 0 before (ask ∷ asked_operations later))
  read_saved r kept later before line place board there called asks rest =
      let ask : Asked = record { op = read_of line place r.name r.register; denied = None } in
      let on = first_of specs indexes place board there in
      let found = over place board.0 on in
      let others = lines_behind runs 0 (before ++ ask ∷ []) (asked_operations later) in
      subst (λ (o : Option BoardRun).
      AllByRecursion (ShowsOpeningWord specs steps) (option_to_list (option_map (line_of 0 before ask) o) ++ others)
      → SavedLines specs (r ∷ kept) (option_to_list (option_map (line_of 0 before ask) o) ++ others)) (sym found.there)
      (λ shows. line_saved r kept others before (asked_operations later) line place board found.run on called found.named asks
      shows.0 (rest shows.1))

  lines_saved : (kept : List KeptRegister) (later : List Step) (before : List Asked)
      → AllZip (Reads (indexed_boards specs indexes)) kept later → before ++ asked_operations later ≡ asked_operations steps
      → AllByRecursion (ShowsOpeningWord specs steps) (lines_behind runs 0 before (asked_operations later))
      → SavedLines specs kept (lines_behind runs 0 before (asked_operations later))
  lines_saved [] [] before reads asks shows = record { entries = []; saved = tt; text = λ name. refl }
  lines_saved [] (step ∷ later) before reads asks shows = absurd reads
  lines_saved (r ∷ kept) [] before reads asks shows = absurd reads
  lines_saved (r ∷ kept) (step ∷ later) before reads asks shows =
      let is = reads.0 in
      let ask : Asked = record { op = read_of is.line is.place r.name r.register; denied = None } in
      subst (λ (s : Step). before ++ asked_operations (s ∷ later) ≡ asked_operations steps
      → AllByRecursion (ShowsOpeningWord specs steps) (lines_behind runs 0 before (asked_operations (s ∷ later)))
      → SavedLines specs (r ∷ kept) (lines_behind runs 0 before (asked_operations (s ∷ later)))) (sym is.is)
      (λ all good. read_saved r kept later before is.line is.place is.board is.there is.called all
      (λ rest. lines_saved kept later (before ++ ask ∷ []) reads.1
      (append_assoc before (ask ∷ []) (asked_operations later) ∙ all) rest) good)
      asks shows

-- ---- the text

pub same_text : (lines : List OpLine) (entries : List StateEntry) (boards : List BoardSpec)
    → ((board : Name) → registers_text (filter (is_read_on board) lines) ≡ values_text entries board)
    → state_text boards lines ≡ saved_text boards entries
same_text lines entries [] same = refl
same_text lines entries (board ∷ boards) same =
    ap (λ (text : List ℕ). (heading board.name ++ text) ++ state_text boards lines) (same board.name)
    ∙ ap (λ (text : List ℕ). saved_board entries board ++ text) (same_text lines entries boards same)

pub saved_text_is : (settings : Limits) (specs : List BoardSpec) (indexes : List RegisterMap) (kept : List KeptRegister)
    (steps : List Step) (runs : List BoardRun) (links : List LinkReport)
    → AreRunsOver settings 0 specs (steps ∷ []) runs links → AllZip (Reads (indexed_boards specs indexes)) kept steps
    → AllByRecursion (ShowsOpeningWord specs steps) (client_lines runs 0 steps)
    → (entries : List StateEntry) × AreSaved specs kept entries
    × (state_text specs (client_lines runs 0 steps) ≡ saved_text specs entries)
saved_text_is settings specs indexes kept steps runs links is reads shows =
    let saved = lines_saved specs indexes steps runs (run_at settings 0 specs (steps ∷ []) runs links is) kept steps []
    reads refl shows in
    (saved.entries, saved.saved, same_text (client_lines runs 0 steps) saved.entries specs saved.text)
