-- The lines of the script that applies values, and the configuration that they show.
use Rattle.std.proofs.Common.{◌≡◌, ℕ, Bool, false, ◌&&◌, if◌then◌else◌, List, [], ◌∷◌, ◌++◌, None}
use Rattle.std.proofs.Common.{Result, Ok, Err, refl, sym, ap, ◌∙◌, subst}
use Rattle.std.specs.List.{AllZip, filter}
use Rattle.std.specs.Result.{ok_prefix}
use Rattle.std.specs.Str.{bytes_eq}
use Rattle.std.proofs.lemmas.Option.{same_Some}
use Rattle.transaction_codec.specs.declared.request.Op.TheVariants.{Read}
use Rattle.masked_fields.specs.Field.{field}
use Rattle.board_bus.specs.declared.fault.BusFault.{BusFault}
use Rattle.board_bus.specs.Cells.{CellMap, read_word}
use Rattle.board_bus.specs.Transactions.{first_fault, outcome}
use Rattle.board_specs.specs.declared.spec.BoardSpec.{BoardSpec}
use Rattle.board_specs.specs.declared.spec.LinkSpec.{LinkSpec}
use Rattle.node_tree.specs.Maps.{Name, RegisterMap}
use Rattle.script_steps.specs.Rulings.{Asked, asked_operations}
use Rattle.script_steps.specs.declared.operation.RegOp.{RegOp}
use Rattle.script_steps.specs.declared.operation.Step.{Step}
use Rattle.script_steps.specs.declared.operation.Verb.{Verb}
use Rattle.script_steps.specs.declared.operation.Verb.TheVariants as verb
use Rattle.transcript.specs.declared.line.OpLine.{OpLine}
use Rattle.transcript.specs.declared.line.OpResult.{OpResult}
use Rattle.transcript.specs.declared.line.OpResult.TheVariants.{Value}
use Rattle.transcript.specs.Results.{shown_result}
use Rattle.config_store.specs.declared.state.StateEntry.{StateEntry}
use Rattle.config_store.specs.Kept.{IndexedBoard, KeptRegister, indexed_boards}
use Rattle.config_store.specs.Meanings.{read_of, write_of}
use Rattle.config_store.specs.Text.{by_value, is_read, is_read_on, register_text, registers_text, value_of, value_text}
use Rattle.config_laws.specs.Applied.{AreApplied, IsApplied}
use Rattle.config_laws.specs.Saved.{entry_text, is_on, values_text}
use Rattle.config_laws.specs.Turns.{ShowTurns, bus_behind}
use Rattle.config_laws.proofs.Givens.{IsGiven, IsRead}
use Rattle.config_laws.proofs.SavedLines.{first_of, more_text}
use Rattle.config_laws.proofs.TurnLines.{undenied}
use Rattle.config_laws.proofs.TurnsDone.{bus_read}

-- ---- the lines of writes

-- the line of an operation that is no read is not of the text
none_first : (specs : List BoardSpec) (name : Name) (op : RegOp) (before asks : List Asked) (lines : List OpLine)
    → op.verb ≡ verb.Write → ShowTurns specs before (undenied op ∷ asks) lines
    → ((rest : List OpLine) → ShowTurns specs (before ++ undenied op ∷ []) asks rest → filter (is_read_on name) rest ≡ [])
    → filter (is_read_on name) lines ≡ []
none_first specs name op before asks [] writes turns later = absurd turns
none_first specs name op before asks (line ∷ rest) writes turns later =
    let others = filter (is_read_on name) rest in
    let test : is_read_on name line ≡ false =
    ap (λ (v : Verb). is_read v && bytes_eq line.board name) (turns.0.verb' ∙ writes) in
    ap (λ (b : Bool). if b then line ∷ others else others) test ∙ later rest turns.1

pub none_read : (specs : List BoardSpec) (boards : List IndexedBoard) (name : Name) (entries : List StateEntry)
    (steps : List Step) → AllZip (IsGiven boards) entries steps → (before : List Asked) (lines : List OpLine)
    → ShowTurns specs before (asked_operations steps) lines → filter (is_read_on name) lines ≡ []
none_read specs boards name [] [] given before [] turns = refl
none_read specs boards name [] [] given before (line ∷ lines) turns = absurd turns
none_read specs boards name [] (step ∷ steps) given before lines turns = absurd given
none_read specs boards name (e ∷ entries) [] given before lines turns = absurd given
none_read specs boards name (e ∷ entries) (step ∷ steps) given before lines turns =
    let is = given.0 in
    none_first specs name (write_of is.line is.place e.name is.register e.value) before (asked_operations steps) lines refl
    (subst (λ (s : Step). ShowTurns specs before (asked_operations (s ∷ steps)) lines) is.is turns)
    (λ rest shows. none_read specs boards name entries steps given.1
    (before ++ undenied (write_of is.line is.place e.name is.register e.value) ∷ []) rest shows)

-- ---- the lines of reads

-- a read of one word that was done
read_done : (cells : CellMap) (address : ℕ) → (outcome cells (Read address 1)).fault ≡ None
    → (word : ℕ) × (read_word cells address ≡ Ok word) × ((outcome cells (Read address 1)).values ≡ word ∷ [])
read_done cells address none = elim (read_word cells address) as
    (λ (r : Result ℕ BusFault). read_word cells address ≡ r → first_fault (r ∷ []) ≡ None
    → (word : ℕ) × (read_word cells address ≡ Ok word) × ((outcome cells (Read address 1)).values ≡ word ∷ [])) [
      | Ok word ↦ λ is fine. (word, is, ap (λ (r : Result ℕ BusFault). ok_prefix (r ∷ [])) is)
      | Err f ↦ λ is fine. absurd cc
    ] refl none

-- what a register shows whose word is this one
pub record IsShown (specs : List BoardSpec) (state : List StateEntry) (r : KeptRegister) (word : ℕ) : Type 0 where
  pub entry : StateEntry
  pub applied : IsApplied specs state r entry
  pub board' : entry.board ≡ r.board
  pub name' : entry.name ≡ r.name
  pub value' : entry.value ≡ field word r.register.mask

pub record IsAppliedText (specs : List BoardSpec) (state : List StateEntry) (kept : List KeptRegister)
    (lines : List OpLine) : Type 0 where
  pub entries : List StateEntry
  pub applied : AreApplied specs state kept entries
  pub text : (board : Name) → registers_text (filter (is_read_on board) lines) ≡ values_text entries board

module _ (specs : List BoardSpec) (indexes : List RegisterMap) (state : List StateEntry) (writes : List Asked)
    (shows : (r : KeptRegister) (step : Step) (is : IsRead (indexed_boards specs indexes) r step) (word : ℕ)
    → read_word (bus_behind is.board.0.link is.place writes) r.register.address ≡ Ok word → IsShown specs state r word)
  where
    abbrev SameBus : List Asked → Type 0
    SameBus before = (link : LinkSpec) (board : ℕ) → bus_behind link board before ≡ bus_behind link board writes

    read_text : (r : KeptRegister) (kept : List KeptRegister) (step : Step) (is : IsRead (indexed_boards specs indexes) r step)
        (before asks : List Asked) (lines : List OpLine) → SameBus before
        → ShowTurns specs before (undenied (read_of is.line is.place r.name r.register) ∷ asks) lines
        → ((rest : List OpLine)
        → ShowTurns specs (before ++ undenied (read_of is.line is.place r.name r.register) ∷ []) asks rest
        → IsAppliedText specs state kept rest)
        → IsAppliedText specs state (r ∷ kept) lines
    read_text r kept step is before asks [] bus turns later = absurd turns
    read_text r kept step is before asks (line ∷ rest) bus turns later =
        let turn = turns.0 in
        let op = Read r.register.address 1 in
        let spec : turn.spec ≡ is.board.0 = same_Some turn.spec is.board.0
        (sym turn.on ∙ first_of specs indexes is.place is.board is.there) in
        let same : bus_behind turn.spec.link is.place before ≡ bus_behind is.board.0.link is.place writes =
        ap (λ (s : BoardSpec). bus_behind s.link is.place before) spec ∙ bus is.board.0.link is.place in
        let fine : (outcome (bus_behind is.board.0.link is.place writes) op).fault ≡ None =
        subst (λ (c : CellMap). (outcome c op).fault ≡ None) same turn.done in
        let read = read_done (bus_behind is.board.0.link is.place writes) r.register.address fine in
        let value = field read.0 r.register.mask in
        let it = shows r step is read.0 read.1 in
        let result : line.result ≡ Value (value ∷ []) =
        turn.result' ∙ ap (λ (c : CellMap). shown_result verb.Read r.register.mask (outcome c op).values) same
        ∙ ap (shown_result verb.Read r.register.mask) read.2 in
        let one : register_text line ≡ entry_text it.entry =
        ap (λ (n : Name). by_value n line.result (value_of line.result)) turn.name'
        ∙ ap (λ (res : OpResult). by_value r.name res (value_of res)) result
        ∙ ap (λ (n : Name). value_text n value) (sym it.name') ∙ ap (value_text it.entry.name) (sym it.value') in
        let named : line.board ≡ it.entry.board =
        turn.board' ∙ ap (λ (s : BoardSpec). s.name) spec ∙ is.called ∙ sym it.board' in
        let others = later rest turns.1 in
        record {
          entries = it.entry ∷ others.entries;
          applied = (it.applied, others.applied);
          text = λ board.
              let lines = filter (is_read_on board) rest in
              let test : is_read_on board line ≡ bytes_eq it.entry.board board =
              ap (λ (v : Verb). is_read v && bytes_eq line.board board) turn.verb'
              ∙ ap (λ (n : Name). bytes_eq n board) named in
              ap (λ (b : Bool). registers_text (if b then line ∷ lines else lines)) test
              ∙ more_text (bytes_eq it.entry.board board) line lines it.entry (filter (is_on board) others.entries) one
              (others.text board);
        }

    pub reads_text : (kept : List KeptRegister) (steps : List Step) → AllZip (IsRead (indexed_boards specs indexes)) kept steps
        → (before : List Asked) (lines : List OpLine) → SameBus before → ShowTurns specs before (asked_operations steps) lines
        → IsAppliedText specs state kept lines
    reads_text [] [] reads before [] bus turns = record { entries = []; applied = tt; text = λ board. refl }
    reads_text [] [] reads before (line ∷ lines) bus turns = absurd turns
    reads_text [] (step ∷ steps) reads before lines bus turns = absurd reads
    reads_text (r ∷ kept) [] reads before lines bus turns = absurd reads
    reads_text (r ∷ kept) (step ∷ steps) reads before lines bus turns =
        let is = reads.0 in
        let op = read_of is.line is.place r.name r.register in
        read_text r kept step is before (asked_operations steps) lines bus
        (subst (λ (s : Step). ShowTurns specs before (asked_operations (s ∷ steps)) lines) is.is turns)
        (λ rest shows. reads_text kept steps reads.1 (before ++ undenied op ∷ []) rest
        (λ link board. bus_read link board before op r.register.address 1 refl ∙ bus link board) shows)
