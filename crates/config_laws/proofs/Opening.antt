-- A word that can be read after writes could be read before them.
use Rattle.std.proofs.Common.{◌≡◌, ℕ, ◌==◌, true, false, if◌then◌else◌, List, [], ◌∷◌, Option, Some, None, Result, Ok, Err}
use Rattle.std.proofs.Common.{inl, inr, refl, sym, ap, ◌∙◌, subst}
use Rattle.std.specs.Int.{w32, bit_not}
use Rattle.std.proofs.lemmas.Bool.{cases_Bool, eqb-true}
use Rattle.masked_fields.specs.Field.{shifted_value}
use Rattle.transaction_codec.specs.declared.request.Op.TheVariants.{Write}
use Rattle.board_bus.specs.declared.fault.BusFault.{BusFault}
use Rattle.board_bus.specs.Cells.{Cell, CellMap, cell_at, read_cell, read_fault, read_word, unless, write_cell, write_word}
use Rattle.board_bus.specs.Transactions.{◌>>=◌, Modified, masked_word, modify, of_modifying, of_writing, outcome}
use Rattle.node_tree.specs.declared.register.Register.{Register}
use Rattle.script_lang.specs.Operations.{is_full, masked_write, write_op}
use Rattle.config_laws.specs.Writes.{AreDone, ValueFor, after_writes, write_outcome}
use Rattle.config_laws.proofs.AllWrites.{Elsewhere, apart}
use Rattle.config_laws.proofs.BusWrites.{after_write, changed}

abbrev pub WrittenHere : Type 0
WrittenHere = (cells after : CellMap) (address word : ℕ) (cell : Cell) → write_word cells address word ≡ Ok after
    → cell_at cells address ≡ Some cell → cell_at after address ≡ Some (record { kind = cell.kind; word = word })

refused_again : (found : Option BusFault) (x y : ℕ) (f : BusFault) → unless found x ≡ Err f → unless found y ≡ Err f
refused_again None x y f is = absurd cc
refused_again (Some g) x y f is = is

-- what refuses to be read still does after a word was written there
still_refused : WrittenHere → (cells after : CellMap) (address word : ℕ) (f : BusFault) (found : Option Cell)
    → cell_at cells address ≡ found → write_word cells address word ≡ Ok after → read_word cells address ≡ Err f
    → read_word after address ≡ Err f
still_refused here cells after address word f None at wrote read =
    let none : write_word cells address word ≡ write_cell cells address word None =
    ap (write_cell cells address word) at in
    let both = sym none ∙ wrote in absurd cc
still_refused here cells after address word f (Some cell) at wrote read =
    let was : unless (read_fault cell.kind) cell.word ≡ Err f = sym (ap read_cell at) ∙ read in
    ap read_cell (here cells after address word cell wrote at)
    ∙ refused_again (read_fault cell.kind) cell.word word f was

plain_refused : WrittenHere → (cells : CellMap) (base value : ℕ) (f : BusFault) → read_word cells base ≡ Err f
    → (outcome cells (Write base (value ∷ []))).fault ≡ None
    → read_word (outcome cells (Write base (value ∷ []))).cells base ≡ Err f
plain_refused here cells base value f read = elim (write_word cells base value) as
    (λ w. write_word cells base value ≡ w → (of_writing (after_write cells w)).fault ≡ None
    → read_word (of_writing (after_write cells w)).cells base ≡ Err f) [
      | Ok after ↦ λ is fine. still_refused here cells after base value f (cell_at cells base) refl is read
      | Err g ↦ λ is fine. absurd cc
    ] refl

change_refused : (cells : CellMap) (base : ℕ) (change : ℕ → ℕ) (f : BusFault) → read_word cells base ≡ Err f
    → (of_modifying cells (modify cells base change)).fault ≡ None → ⊥
change_refused cells base change f read fine =
    let same : modify cells base change ≡ Err f =
    ap (λ (r : Result ℕ BusFault). r >>= (λ (before : ℕ). changed before (write_word cells base (change before)))) read in
    let bad : Some f ≡ None = sym (ap (λ (m : Result Modified BusFault). (of_modifying cells m).fault) same) ∙ fine in
    absurd cc

write_refused : WrittenHere → (cells : CellMap) (r : Register) (value : ℕ) (f : BusFault)
    → read_word cells r.address ≡ Err f → (outcome cells (write_op r (value ∷ []))).fault ≡ None
    → read_word (outcome cells (write_op r (value ∷ []))).cells r.address ≡ Err f
write_refused here cells r value f read = elim (is_full r.mask) as
    (λ b. is_full r.mask ≡ b
    → (outcome cells (if b then Write r.address (value ∷ []) else masked_write r.address r.mask value)).fault ≡ None
    → read_word (outcome cells (if b then Write r.address (value ∷ []) else masked_write r.address r.mask value)).cells
    r.address ≡ Err f) [
      | true ↦ λ is fine. plain_refused here cells r.address value f read fine
      | false ↦ λ is fine.
          absurd (change_refused cells r.address (masked_word (bit_not w32 r.mask) (shifted_value r.mask value)) f read fine)
    ] refl

one_refused : WrittenHere → Elsewhere → (cells : CellMap) (write : ValueFor) (address : ℕ) (f : BusFault)
    → read_word cells address ≡ Err f → (write_outcome cells write).fault ≡ None
    → read_word (write_outcome cells write).cells address ≡ Err f
one_refused here elsewhere cells write address f read fine =
    elim (cases_Bool (write.register.address == address)) [
      | inl same ↦
          let at : write.register.address ≡ address = eqb-true write.register.address address same in
          subst (λ n. read_word (write_outcome cells write).cells n ≡ Err f) at
          (write_refused here cells write.register write.value f
          (subst (λ n. read_word cells n ≡ Err f) (sym at) read) fine)
      | inr differ ↦
          elsewhere cells write.register write.value address (apart write.register.address address differ) ∙ read
    ]

all_refused : WrittenHere → Elsewhere → (cells : CellMap) (writes : List ValueFor) (address : ℕ) (f : BusFault)
    → read_word cells address ≡ Err f → AreDone cells writes → read_word (after_writes cells writes) address ≡ Err f
all_refused here elsewhere cells [] address f read done = read
all_refused here elsewhere cells (write ∷ writes) address f read done =
    all_refused here elsewhere (write_outcome cells write).cells writes address f
    (one_refused here elsewhere cells write address f read done.0) done.1

pub readable_before : WrittenHere → Elsewhere → (cells : CellMap) (writes : List ValueFor) (address word : ℕ)
    → AreDone cells writes → read_word (after_writes cells writes) address ≡ Ok word
    → (was : ℕ) × (read_word cells address ≡ Ok was)
readable_before here elsewhere cells writes address word done read = elim (read_word cells address) as
    (λ r. read_word cells address ≡ r → (was : ℕ) × (read_word cells address ≡ Ok was)) [
      | Ok was ↦ λ is. (was, is)
      | Err f ↦ λ is.
          let both = sym (all_refused here elsewhere cells writes address f is done) ∙ read in absurd cc
    ] refl
