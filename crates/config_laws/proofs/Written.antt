-- The values that a script writes on each board, and the registers that show them.
use Rattle.std.proofs.Common.{◌≡◌, ◌≢◌, ◌⊎◌, ℕ, zero, suc, ◌==◌, if◌then◌else◌, Bool, true, false, List, [], ◌∷◌}
use Rattle.std.proofs.Common.{◌++◌, map, Some, bit_and, inl, inr, refl, sym, ap, ◌∙◌, subst}
use Rattle.std.specs.List.{AllByRecursion, AllZip, slice_get}
use Rattle.std.specs.Str.{bytes_eq}
use Rattle.std.specs.FinMap.{get}
use Rattle.std.proofs.lemmas.Bool.{cases_Bool, eq-eqb, eqb-true}
use Rattle.std.proofs.lemmas.Option.{same_Some}
use Rattle.std.proofs.lemmas.Slice.Eq.{bytes_eq-Decides}
use Rattle.transaction_codec.specs.declared.request.Op.{Op}
use Rattle.board_bus.specs.Cells.{CellMap}
use Rattle.board_bus.specs.Transactions.{outcome}
use Rattle.board_specs.specs.declared.spec.BoardSpec.{BoardSpec}
use Rattle.node_tree.specs.Maps.{RegisterMap}
use Rattle.node_tree.specs.declared.register.Register.{Register}
use Rattle.script_lang.specs.Operations.{write_op}
use Rattle.script_lang.specs.OwnNames.{HaveOwnNames}
use Rattle.script_steps.specs.Rulings.{allowed_operations, asked_operations}
use Rattle.script_steps.specs.declared.operation.RegOp.{RegOp}
use Rattle.script_steps.specs.declared.operation.Step.{Step}
use Rattle.script_plans.specs.Plan.{ops_on}
use Rattle.world_model.proofs.Lists.{either}
use Rattle.config_store.specs.declared.state.StateEntry.{StateEntry}
use Rattle.config_store.specs.Kept.{IndexedBoard, IsKept, KeptRegister, indexed_boards, registers_kept}
use Rattle.config_store.specs.Meanings.{HasWord, write_of}
use Rattle.config_store.specs.Overlaps.{overlapping_names}
use Rattle.config_store.specs.Puts.{AreApartFrom, CanBePut}
use Rattle.config_laws.specs.Applied.{IsFor}
use Rattle.config_laws.specs.Fields.{HaveFields}
use Rattle.config_laws.specs.Turns.{after_ops}
use Rattle.config_laws.specs.Writes.{AreDone, CanBeWritten, ValueFor, after_writes, puts_at}
use Rattle.config_laws.proofs.Apart.{OverlapInABit, masks_apart}
use Rattle.config_laws.proofs.Givens.{IsGiven, one_board}
use Rattle.config_laws.proofs.TurnOps.{AreAllDone}

abbrev pub op_for : ValueFor → Op
op_for write = write_op write.register (write.value ∷ [])

-- ---- on a bus

pub after_same : (cells : CellMap) (writes : List ValueFor) → after_ops cells (map op_for writes) ≡ after_writes cells writes
after_same cells [] = refl
after_same cells (write ∷ writes) = after_same (outcome cells (op_for write)).cells writes

pub done_same : (cells : CellMap) (writes : List ValueFor) → AreAllDone cells (map op_for writes) → AreDone cells writes
done_same cells [] done = tt
done_same cells (write ∷ writes) done = (done.0, done_same (outcome cells (op_for write)).cells writes done.1)

-- ---- on a board

one_op : (board : ℕ) (it : RegOp) (ops : List RegOp) (write : ValueFor) (writes : List ValueFor) → it.op ≡ op_for write
    → ops_on board ops ≡ map op_for writes
    → ops_on board (it ∷ ops) ≡ map op_for (if it.board == board then write ∷ writes else writes)
one_op board it ops write writes same rest = elim (cases_Bool (it.board == board)) [
  | inl here ↦
      rw here (ap (λ (o : Op). o ∷ ops_on board ops) same ∙ ap (λ (os : List Op). op_for write ∷ os) rest)
  | inr away ↦ rw away rest
]

-- the same list, or with this value before it
split_more : (test : Bool) (write it : ValueFor) (writes before after : List ValueFor) → writes ≡ before ++ it ∷ after
    → (if test then write ∷ writes else writes) ≡ (if test then write ∷ before else before) ++ it ∷ after
split_more true write it writes before after same = ap (λ (ws : List ValueFor). write ∷ ws) same
split_more false write it writes before after same = same

module _ (boards : List IndexedBoard) where
  abbrev pub value_of : (entry : StateEntry) (step : Step) → IsGiven boards entry step → ValueFor
  value_of entry step is = record { register = is.register; value = entry.value }

  -- the values that are written on the board at a place, in order
  abbrev pub written_on : (board : ℕ) (entries : List StateEntry) (steps : List Step)
      → AllZip (IsGiven boards) entries steps → List ValueFor
  written_on board [] [] given = []
  written_on board [] (step ∷ steps) given = []
  written_on board (e ∷ entries) [] given = []
  written_on board (e ∷ entries) (step ∷ steps) given =
      if given.0.place == board then value_of e step given.0 ∷ written_on board entries steps given.1
      else written_on board entries steps given.1

  pub ops_written : (board : ℕ) (entries : List StateEntry) (steps : List Step) (given : AllZip (IsGiven boards) entries steps)
      → ops_on board (allowed_operations (asked_operations steps)) ≡ map op_for (written_on board entries steps given)
  ops_written board [] [] given = refl
  ops_written board [] (step ∷ steps) given = absurd given
  ops_written board (e ∷ entries) [] given = absurd given
  ops_written board (e ∷ entries) (step ∷ steps) given =
      let is = given.0 in
      ap (λ (s : Step). ops_on board (allowed_operations (asked_operations (s ∷ steps)))) is.is
      ∙ one_op board (write_of is.line is.place e.name is.register e.value) (allowed_operations (asked_operations steps)) (value_of e step is)
      (written_on board entries steps given.1) refl (ops_written board entries steps given.1)

  can_more : (test : Bool) (write : ValueFor) (writes : List ValueFor) → CanBeWritten write
      → AllByRecursion CanBeWritten writes → AllByRecursion CanBeWritten (if test then write ∷ writes else writes)
  can_more true write writes one rest = (one, rest)
  can_more false write writes one rest = rest

  pub all_can : HaveFields boards → (board : ℕ) (entries : List StateEntry) (steps : List Step)
      (given : AllZip (IsGiven boards) entries steps) → AllByRecursion HasWord entries
      → AllByRecursion CanBeWritten (written_on board entries steps given)
  all_can fields board [] [] given values = tt
  all_can fields board [] (step ∷ steps) given values = absurd given
  all_can fields board (e ∷ entries) [] given values = absurd given
  all_can fields board (e ∷ entries) (step ∷ steps) given values =
      let is = given.0 in
      let has = fields is.place is.board e.name is.register is.there is.kept'.found in
      can_more (is.place == board) (value_of e step is) (written_on board entries steps given.1)
      (record { some = has.some; mask = has.mask'; value = values.0; fits = is.fits })
      (all_can fields board entries steps given.1 values.1)

-- ---- the value for a register

-- the values are apart from a register, or so with one more
apart_more : (test : Bool) (write : ValueFor) (writes : List ValueFor) (r : Register)
    → (test ≡ true → write.register.address ≡ r.address
    → CanBePut (write.register.mask, write.value) × (bit_and write.register.mask r.mask ≡ 0))
    → AreApartFrom r.mask (puts_at r.address writes)
    → AreApartFrom r.mask (puts_at r.address (if test then write ∷ writes else writes))
apart_more false write writes r one rest = rest
apart_more true write writes r one rest =
    either (AreApartFrom r.mask) (write.register.address == r.address)
    ((write.register.mask, write.value) ∷ puts_at r.address writes) (puts_at r.address writes)
    (λ same. (one refl (eqb-true write.register.address r.address same), rest)) (λ differ. rest)

-- a value of the state is written to the register, and no later one shares a bit with it
pub record IsWritten (r : KeptRegister) (writes : List ValueFor) (state : List StateEntry) : Type 0 where
  pub entry : StateEntry
  pub place : ℕ
  pub there : slice_get state place ≡ Some entry
  pub for' : IsFor r entry
  pub before : List ValueFor
  pub after : List ValueFor
  pub split : writes ≡ before ++ record { register = r.register; value = entry.value } ∷ after
  pub apart : AreApartFrom r.register.mask (puts_at r.register.address after)

-- no value of the state is for the register, and none of them shares a bit with it
pub record IsLeft (r : KeptRegister) (writes : List ValueFor) (state : List StateEntry) : Type 0 where
  pub none : AllByRecursion (λ (given : StateEntry). ¬ IsFor r given) state
  pub apart : AreApartFrom r.register.mask (puts_at r.register.address writes)

bytes_cases : (xs ys : List ℕ) → (xs ≡ ys) ⊎ (xs ≢ ys)
bytes_cases xs ys = elim (cases_Bool (bytes_eq xs ys)) [
  | inl same ↦ inl ((bytes_eq-Decides xs ys).0 same)
  | inr differ ↦ inr (λ e. let both : true ≡ false = sym ((bytes_eq-Decides xs ys).1 e) ∙ differ in absurd cc)
]

module _ (law : OverlapInABit) (specs : List BoardSpec) (indexes : List RegisterMap) (own : HaveOwnNames specs)
    (fields : HaveFields (indexed_boards specs indexes)) (board : ℕ) (b : IndexedBoard)
    (at : slice_get (indexed_boards specs indexes) board ≡ Some b) (none : overlapping_names [] (registers_kept b.1) ≡ [])
    (r : KeptRegister) (called : b.0.name ≡ r.board) (is_kept : IsKept b.1 r.name r.register) where
  -- a value that is written on this board goes to a register of its table
  on_this : (entry : StateEntry) (step : Step) (is : IsGiven (indexed_boards specs indexes) entry step) → is.place ≡ board
      → IsKept b.1 entry.name is.register
  on_this entry step is same =
      let one : is.board ≡ b =
      same_Some is.board b (sym is.there ∙ (ap (slice_get (indexed_boards specs indexes)) same ∙ at)) in
      subst (λ (x : IndexedBoard). IsKept x.1 entry.name is.register) one is.kept'

  -- a value that is for the register is written on this board
  goes_here : (entry : StateEntry) (step : Step) (is : IsGiven (indexed_boards specs indexes) entry step) → IsFor r entry
      → is.place ≡ board
  goes_here entry step is for_it =
      (one_board specs indexes own is.place board is.board b is.there at
      (is.called ∙ (for_it.board' ∙ sym called))).0

  -- another register of this board shares no bit with it
  shares_no_bit : (entry : StateEntry) (step : Step) (is : IsGiven (indexed_boards specs indexes) entry step)
      → AllByRecursion HasWord (entry ∷ []) → entry.name ≢ r.name → (is.place == board) ≡ true
      → is.register.address ≡ r.register.address
      → CanBePut (is.register.mask, entry.value) × (bit_and is.register.mask r.register.mask ≡ 0)
  shares_no_bit entry step is values differ here same =
      let place : is.place ≡ board = eqb-true is.place board here in
      let has = fields is.place is.board entry.name is.register is.there is.kept'.found in (
        record { some = has.some; word = has.mask'; fits = is.fits },
        masks_apart law b.1 entry.name r.name is.register r.register none (on_this entry step is place) is_kept differ
            same,
      )

  abbrev writes_of : (state : List StateEntry) (steps : List Step) → AllZip (IsGiven (indexed_boards specs indexes)) state steps
      → List ValueFor
  writes_of state steps given = written_on (indexed_boards specs indexes) board state steps given

  -- the first value is for the register, and none of the later ones
  written_first : (e : StateEntry) (state : List StateEntry) (step : Step) (steps : List Step)
      (given : AllZip (IsGiven (indexed_boards specs indexes)) (e ∷ state) (step ∷ steps))
      → IsLeft r (writes_of state steps given.1) state → e.name ≡ r.name → given.0.place ≡ board
      → IsWritten r (writes_of (e ∷ state) (step ∷ steps) given) (e ∷ state)
  written_first e state step steps given left same place =
      let is = given.0 in
      let here : (is.place == board) ≡ true = eq-eqb is.place board place in
      let found : get b.1 r.name ≡ Some is.register =
      subst (λ name. get b.1 name ≡ Some is.register) same (on_this e step is place).found in
      let register : is.register ≡ r.register = same_Some is.register r.register (sym found ∙ is_kept.found) in
      let board_same : is.board ≡ b =
      same_Some is.board b (sym is.there ∙ (ap (slice_get (indexed_boards specs indexes)) place ∙ at)) in
      record {
        entry = e;
        place = zero;
        there = refl;
        for' = record {
          board' = sym is.called ∙ (ap (λ (x : IndexedBoard). x.0.name) board_same ∙ called);
          name' = same;
        };
        before = [];
        after = writes_of state steps given.1;
        split = ap (λ (t : Bool). if t then value_of (indexed_boards specs indexes) e step is ∷ writes_of state steps given.1
            else writes_of state steps given.1) here
            ∙ ap (λ (x : Register). record { register = x; value = e.value } ∷ writes_of state steps given.1) register;
        apart = left.apart;
      }

  left_first : (e : StateEntry) (state : List StateEntry) (step : Step) (steps : List Step)
      (given : AllZip (IsGiven (indexed_boards specs indexes)) (e ∷ state) (step ∷ steps))
      → IsLeft r (writes_of state steps given.1) state → ¬ IsFor r e
      → ((given.0.place == board) ≡ true → given.0.register.address ≡ r.register.address
      → CanBePut (given.0.register.mask, e.value) × (bit_and given.0.register.mask r.register.mask ≡ 0))
      → IsLeft r (writes_of (e ∷ state) (step ∷ steps) given) (e ∷ state)
  left_first e state step steps given left no_value one = record {
    none = (no_value, left.none);
    apart = apart_more (given.0.place == board) (value_of (indexed_boards specs indexes) e step given.0)
        (writes_of state steps given.1) r.register one left.apart;
  }

  first_of_all : (e : StateEntry) (state : List StateEntry) (step : Step) (steps : List Step)
      (given : AllZip (IsGiven (indexed_boards specs indexes)) (e ∷ state) (step ∷ steps))
      → AllByRecursion HasWord (e ∷ state) → IsLeft r (writes_of state steps given.1) state
      → IsWritten r (writes_of (e ∷ state) (step ∷ steps) given) (e ∷ state)
      ⊎ IsLeft r (writes_of (e ∷ state) (step ∷ steps) given) (e ∷ state)
  first_of_all e state step steps given values left = elim (bytes_cases e.name r.name) [
    | inl same ↦ elim (cases_Bool (given.0.place == board)) [
      | inl here ↦ inl (written_first e state step steps given left same (eqb-true given.0.place board here))
      | inr away ↦ inr (left_first e state step steps given left
          (λ for_it.
          let both : true ≡ false =
          sym (eq-eqb given.0.place board (goes_here e step given.0 for_it)) ∙ away in absurd cc)
          (λ here address. let both : true ≡ false = sym here ∙ away in absurd cc))
    ]
    | inr differ ↦ inr (left_first e state step steps given left (λ for_it. differ for_it.name')
        (λ here address. shares_no_bit e step given.0 (values.0, tt) differ here address))
  ]

  pub written_or_left : (state : List StateEntry) (steps : List Step)
      (given : AllZip (IsGiven (indexed_boards specs indexes)) state steps) → AllByRecursion HasWord state
      → IsWritten r (writes_of state steps given) state ⊎ IsLeft r (writes_of state steps given) state
  written_or_left [] [] given values = inr (record { none = tt; apart = tt })
  written_or_left [] (step ∷ steps) given values = absurd given
  written_or_left (e ∷ state) [] given values = absurd given
  written_or_left (e ∷ state) (step ∷ steps) given values = elim (written_or_left state steps given.1 values.1) [
    | inl is ↦ inl (record {
      entry = is.entry;
      place = suc is.place;
      there = is.there;
      for' = is.for';
      before = if given.0.place == board then value_of (indexed_boards specs indexes) e step given.0 ∷ is.before else is.before;
      after = is.after;
      split = split_more (given.0.place == board) (value_of (indexed_boards specs indexes) e step given.0)
          (record { register = r.register; value = is.entry.value }) (writes_of state steps given.1) is.before is.after
          is.split;
      apart = is.apart;
    })
    | inr left ↦ first_of_all e state step steps given values left
  ]
