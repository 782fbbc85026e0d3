-- The configuration that boards show after values were applied.
use Rattle.std.proofs.Common.{◌≡◌, ℕ, ◌<◌, ◌^◌, nat_lt, Bool, true, false, List, [], ◌∷◌, ◌++◌, map, Some}
use Rattle.std.proofs.Common.{None, Ok, Result, if◌then◌else◌, inl, inr, refl, sym, ap, ◌∙◌, subst}
use Rattle.std.specs.Prelude.{IfSome}
use Rattle.std.specs.List.{AllByRecursion, AllZip, Contains, filter, slice_get}
use Rattle.std.specs.FinMap.Entries.{find}
use Rattle.std.specs.Ordering.{nat_cmp}
use Rattle.std.proofs.lemmas.List.Elements.{filter-append, filter_map-append}
use Rattle.std.proofs.lemmas.Option.{get_or_from_slice_get, slice_get_within}
use Rattle.ipb_base.specs.Word.{IsWord}
use Rattle.masked_fields.specs.Field.{field}
use Rattle.board_bus.specs.declared.fault.BusFault.{BusFault}
use Rattle.board_bus.specs.Cells.{Cell, CellMap, HoldsWords, cell_at, read_word}
use Rattle.board_bus.proofs.Openings.{opening-words}
use Rattle.board_bus.proofs.WordsKept.{read-word}
use Rattle.board_specs.specs.declared.spec.BoardSpec.{BoardSpec}
use Rattle.board_specs.specs.declared.spec.LinkSpec.{LinkSpec}
use Rattle.board_specs.specs.declared.spec.LinkSpec.TheVariants.{Sim, Udp}
use Rattle.board_specs.specs.OpeningWords.{LinkNamesWords, OpensOnWords}
use Rattle.node_tree.specs.Maps.{Name, RegisterMap}
use Rattle.node_tree.specs.declared.register.Register.{Register}
use Rattle.script_lang.specs.OwnNames.{HaveOwnNames}
use Rattle.script_steps.specs.Rulings.{Asked, allowed_operations, asked_operations, asked_in}
use Rattle.script_steps.specs.declared.operation.Step.{Step}
use Rattle.script_steps.specs.declared.operation.Step.TheVariants.{Dispatch}
use Rattle.script_plans.specs.Plan.{ops_on}
use Rattle.transcript.specs.declared.line.OpLine.{OpLine}
use Rattle.board_history.specs.Runs.{opens_with}
use Rattle.board_history.proofs.Lists.{all_at}
use Rattle.config_store.specs.declared.state.StateEntry.{StateEntry}
use Rattle.config_store.specs.Kept.{KeptRegister, indexed_boards}
use Rattle.config_store.specs.Meanings.{HasWord}
use Rattle.config_store.specs.Puts.{AreApartFrom}
use Rattle.config_store.specs.Refusals.{keeping_faults}
use Rattle.config_store.specs.Text.{is_read_on, registers_text, state_text}
use Rattle.config_laws.specs.Applied.{AreApplied}
use Rattle.config_laws.specs.Fields.{HaveFields}
use Rattle.config_laws.specs.Saved.{saved_text, values_text}
use Rattle.config_laws.specs.Turns.{ShowTurns, after_ops, bus_behind}
use Rattle.config_laws.specs.Writes.{AreDone, CanBeWritten, ValueFor, after_writes, puts_at}
use Rattle.config_laws.proofs.AllWrites.{Elsewhere}
use Rattle.config_laws.proofs.Apart.{OverlapInABit, none_overlaps}
use Rattle.config_laws.proofs.AppliedLines.{IsAppliedText, IsShown, none_read, reads_text}
use Rattle.config_laws.proofs.Givens.{IsGiven, IsRead}
use Rattle.config_laws.proofs.Opening.{WrittenHere, readable_before}
use Rattle.config_laws.proofs.SavedLines.{first_of, same_text}
use Rattle.config_laws.proofs.TurnOps.{AreAllDone}
use Rattle.config_laws.proofs.TurnsDone.{parted, turns_done}
use Rattle.config_laws.proofs.Written.{IsLeft, IsWritten, after_same, all_can, done_same, op_for, ops_written}
use Rattle.config_laws.proofs.Written.{written_on, written_or_left}

-- ---- the words that boards open with

nothing_there : (address : ℕ) → IfSome (cell_at [] address) (λ (cell : Cell). IsWord cell.word)
nothing_there address = by_test (nat_lt address (2 ^ 32)) where
  by_test : (b : Bool)
      → IfSome (if b then find nat_cmp address [] else None) (λ (cell : Cell). IsWord cell.word)
  by_test true = tt
  by_test false = tt

pub opens : (link : LinkSpec) → LinkNamesWords link → HoldsWords (opens_with link)
opens (Sim mtu buffers first ranges fates) words = opening-words ranges words
opens (Udp address port wait) words = nothing_there

-- ---- what was written, and what was not

abbrev pub OwnShows : Type 0
OwnShows = (cells : CellMap) (before after : List ValueFor) (write : ValueFor) (word : ℕ)
    → AllByRecursion CanBeWritten (before ++ write ∷ after) → AreDone cells (before ++ write ∷ after)
    → AreApartFrom write.register.mask (puts_at write.register.address after) → word < 2 ^ 32
    → read_word cells write.register.address ≡ Ok word → (now : ℕ)
    × (read_word (after_writes cells (before ++ write ∷ after)) write.register.address ≡ Ok now)
    × (field now write.register.mask ≡ write.value)

abbrev pub OthersStay : Type 0
OthersStay = (cells : CellMap) (writes : List ValueFor) (r : Register) (word : ℕ)
    → AllByRecursion CanBeWritten writes → AreDone cells writes → AreApartFrom r.mask (puts_at r.address writes)
    → r.mask < 2 ^ 32 → word < 2 ^ 32 → read_word cells r.address ≡ Ok word → (now : ℕ)
    × (read_word (after_writes cells writes) r.address ≡ Ok now) × (field now r.mask ≡ field word r.mask)

same_Ok : (x y : ℕ) (r : Result ℕ BusFault) → r ≡ Ok x → r ≡ Ok y → x ≡ y
same_Ok x y r one other = let both = sym one ∙ other in cc

pub contains : {T : Type 0} (xs : List T) (k : ℕ) (x : T) → slice_get xs k ≡ Some x → Contains xs x
contains xs k x at = (k, slice_get_within xs k x at, get_or_from_slice_get xs k x x at)

module _ (own_shows : OwnShows) (others_stay : OthersStay) (here : WrittenHere) (elsewhere : Elsewhere)
    (law : OverlapInABit) (specs : List BoardSpec) (indexes : List RegisterMap) (own : HaveOwnNames specs)
    (fields : HaveFields (indexed_boards specs indexes)) (none : keeping_faults (indexed_boards specs indexes) ≡ [])
    (words : AllByRecursion OpensOnWords specs) (state : List StateEntry) (values : AllByRecursion HasWord state)
    (writes : List Step) (given : AllZip (IsGiven (indexed_boards specs indexes)) state writes) (lines : List OpLine)
    (shows : ShowTurns specs [] (asked_operations writes) lines) where
  module _ (r : KeptRegister) (step : Step) (is : IsRead (indexed_boards specs indexes) r step) (word : ℕ)
      (read : read_word (bus_behind is.board.0.link is.place (asked_operations writes)) r.register.address ≡ Ok word) where
    abbrev cells : CellMap
    cells = opens_with is.board.0.link

    abbrev vs : List ValueFor
    vs = written_on (indexed_boards specs indexes) is.place state writes given

    on : slice_get specs is.place ≡ Some is.board.0
    on = first_of specs indexes is.place is.board is.there

    ops : ops_on is.place (allowed_operations (asked_operations writes)) ≡ map op_for vs
    ops = ops_written (indexed_boards specs indexes) is.place state writes given

    bus : bus_behind is.board.0.link is.place (asked_operations writes) ≡ after_writes cells vs
    bus = ap (after_ops cells) ops ∙ after_same cells vs

    done : AreDone cells vs
    done = done_same cells vs
        (subst (AreAllDone cells) ops (turns_done specs is.place is.board.0 on [] (asked_operations writes) lines shows))

    can : AllByRecursion CanBeWritten vs
    can = all_can (indexed_boards specs indexes) fields is.place state writes given values

    now : read_word (after_writes cells vs) r.register.address ≡ Ok word
    now = subst (λ (c : CellMap). read_word c r.register.address ≡ Ok word) bus read

    was : (w : ℕ) × (read_word cells r.register.address ≡ Ok w)
    was = readable_before here elsewhere cells vs r.register.address word done now

    small : was.0 < 2 ^ 32
    small = read-word cells r.register.address was.0
        (opens is.board.0.link (all_at OpensOnWords specs is.place is.board.0 words on)) was.1

    given_value : IsWritten r vs state → IsShown specs state r word
    given_value it =
        let write : ValueFor = record { register = r.register; value = it.entry.value } in
        let shown = own_shows cells it.before it.after write was.0
        (subst (AllByRecursion CanBeWritten) it.split can) (subst (AreDone cells) it.split done) it.apart small was.1 in
        let same : shown.0 ≡ word = same_Ok shown.0 word
        (read_word (after_writes cells (it.before ++ write ∷ it.after)) r.register.address) shown.1
        (subst (λ (ws : List ValueFor). read_word (after_writes cells ws) r.register.address ≡ Ok word) it.split now) in
        record {
          entry = it.entry;
          applied = inl (contains state it.place it.entry it.there, it.for');
          board' = it.for'.board';
          name' = it.for'.name';
          value' = sym shown.2 ∙ ap (λ n. field n r.register.mask) same;
        }

    opening_value : IsLeft r vs state → IsShown specs state r word
    opening_value it =
        let has = fields is.place is.board r.name r.register is.there is.kept'.found in
        let shown = others_stay cells vs r.register was.0 can done it.apart has.mask' small was.1 in
        let same : shown.0 ≡ word = same_Ok shown.0 word (read_word (after_writes cells vs) r.register.address) shown.1
        now in
        record {
          entry = record { board = r.board; name = r.name; value = field was.0 r.register.mask };
          applied = inr (
            it.none,
            record {
              board' = refl;
              name' = refl;
              place = is.place;
              spec = is.board.0;
              on = on;
              called = is.called;
              word = was.0;
              opened = was.1;
              value' = refl;
            },
          );
          board' = refl;
          name' = refl;
          value' = sym shown.2 ∙ ap (λ n. field n r.register.mask) same;
        }

    register_shown : IsShown specs state r word
    register_shown = elim (written_or_left law specs indexes own fields is.place is.board is.there
        (none_overlaps (indexed_boards specs indexes) is.place is.board none is.there) r is.called is.kept' state writes given
        values) [
          | inl it ↦ given_value it
          | inr it ↦ opening_value it
        ]

  reads_shown : (kept : List KeptRegister) (reads : List Step)
      → AllZip (IsRead (indexed_boards specs indexes)) kept reads → (others : List OpLine)
      → ShowTurns specs (asked_operations writes) (asked_operations reads) others → IsAppliedText specs state kept others
  reads_shown kept reads are others turns =
      reads_text specs indexes state (asked_operations writes) register_shown kept reads are (asked_operations writes) others
      (λ link board. refl) turns

-- ---- the whole

asked_both : (xs ys : List Step) → asked_operations (xs ++ Dispatch ∷ ys) ≡ asked_operations xs ++ asked_operations ys
asked_both xs ys = filter_map-append asked_in xs (Dispatch ∷ ys)

pub applied_text : OwnShows → OthersStay → WrittenHere → Elsewhere → OverlapInABit → (specs : List BoardSpec)
    (indexes : List RegisterMap) → HaveOwnNames specs → HaveFields (indexed_boards specs indexes)
    → keeping_faults (indexed_boards specs indexes) ≡ [] → AllByRecursion OpensOnWords specs → (state : List StateEntry)
    → AllByRecursion HasWord state → (kept : List KeptRegister) (writes reads : List Step)
    → AllZip (IsGiven (indexed_boards specs indexes)) state writes → AllZip (IsRead (indexed_boards specs indexes)) kept reads
    → (lines : List OpLine) → ShowTurns specs [] (asked_operations (writes ++ Dispatch ∷ reads)) lines
    → (shown : List StateEntry) × AreApplied specs state kept shown × (state_text specs lines ≡ saved_text specs shown)
applied_text own_shows others_stay here elsewhere law specs indexes own fields none words state values kept writes reads
    given are lines turns =
    let parts = parted specs [] (asked_operations writes) (asked_operations reads) lines
    (subst (λ (asks : List Asked). ShowTurns specs [] asks lines) (asked_both writes reads) turns) in
    let it = reads_shown own_shows others_stay here elsewhere law specs indexes own fields none words state values writes
    given parts.front parts.first kept reads are parts.back parts.second in
    let text : (board : Name) → registers_text (filter (is_read_on board) lines) ≡ values_text it.entries board =
    λ board.
    ap (λ (ls : List OpLine). registers_text (filter (is_read_on board) ls)) parts.parts
    ∙ ap registers_text (filter-append (is_read_on board) parts.front parts.back)
    ∙ ap (λ (ls : List OpLine). registers_text (ls ++ filter (is_read_on board) parts.back))
    (none_read specs (indexed_boards specs indexes) board state writes given [] parts.front parts.first)
    ∙ it.text board in
    (it.entries, it.applied, same_text lines it.entries specs text)
