-- One write of a value to a register.
use Rattle.std.proofs.Common.{◌≡◌, ◌⊎◌, ℕ, ◌<◌, ◌^◌, true, false, [], ◌∷◌, None, Result, Ok, Err}
use Rattle.std.proofs.Common.{refl, sym, ap, ◌∙◌, subst, if◌then◌else◌}
use Rattle.std.specs.Prelude.{IsOk}
use Rattle.std.specs.Int.{w32, bit_not}
use Rattle.std.proofs.lemmas.Bool.{eqb-true}
use Rattle.masked_fields.specs.Field.{FitsMask, put_field, shifted_value}
use Rattle.masked_fields.proofs.Masks.{joined}
use Rattle.transaction_codec.specs.declared.request.Op.TheVariants.{Write}
use Rattle.board_bus.specs.declared.fault.BusFault.{BusFault}
use Rattle.board_bus.specs.Cells.{CellMap, read_word, write_word}
use Rattle.board_bus.specs.Transactions.{◌>>=◌, Modified, Writing, masked_word, modify, of_modifying, of_writing, outcome}
use Rattle.board_bus.specs.Transactions.{write_on, write_words}
use Rattle.node_tree.specs.declared.register.Register.{Register}
use Rattle.script_lang.specs.Operations.{is_full, masked_write, write_op}

abbrev pub ReadAgain : Type 0
ReadAgain = (cells after : CellMap) (address word : ℕ) → write_word cells address word ≡ Ok after
    → IsOk (read_word cells address) → read_word after address ≡ Ok word

abbrev pub ReadElsewhere : Type 0
ReadElsewhere = (cells after : CellMap) (address other word : ℕ) → write_word cells address word ≡ Ok after
    → (other < address) ⊎ (address < other) → read_word after other ≡ read_word cells other

abbrev pub FullPut : Type 0
FullPut = (word value : ℕ) → word < 2 ^ 32 → value < 2 ^ 32 → put_field word 0xffffffff value ≡ value

-- ---- a plain write

abbrev pub after_write : CellMap → Result CellMap BusFault → Writing
after_write cells written = write_on cells written (λ after. write_words after [])

plain : ReadAgain → (cells : CellMap) (base value word : ℕ) → read_word cells base ≡ Ok word
    → (outcome cells (Write base (value ∷ []))).fault ≡ None
    → read_word (outcome cells (Write base (value ∷ []))).cells base ≡ Ok value
plain again cells base value word read = elim (write_word cells base value) as
    (λ w. write_word cells base value ≡ w → (of_writing (after_write cells w)).fault ≡ None
    → read_word (of_writing (after_write cells w)).cells base ≡ Ok value) [
      | Ok after ↦ λ is fine. again cells after base value is (subst IsOk (sym read) refl)
      | Err f ↦ λ is fine. absurd cc
    ] refl

plain_elsewhere : ReadElsewhere → (cells : CellMap) (base value other : ℕ) → (other < base) ⊎ (base < other)
    → read_word (outcome cells (Write base (value ∷ []))).cells other ≡ read_word cells other
plain_elsewhere elsewhere cells base value other apart = elim (write_word cells base value) as
    (λ w. write_word cells base value ≡ w
    → read_word (of_writing (after_write cells w)).cells other ≡ read_word cells other) [
      | Ok after ↦ λ is. elsewhere cells after base other value is apart
      | Err f ↦ λ is. refl
    ] refl

-- ---- a change of one word

abbrev pub changed : ℕ → Result CellMap BusFault → Result Modified BusFault
changed before written = written >>= (λ (after : CellMap). Ok (record { before = before; cells = after }))

modify_is : (cells : CellMap) (base word : ℕ) (change : ℕ → ℕ) → read_word cells base ≡ Ok word
    → modify cells base change ≡ changed word (write_word cells base (change word))
modify_is cells base word change read =
    ap (λ (r : Result ℕ BusFault). r >>= (λ (before : ℕ). changed before (write_word cells base (change before)))) read

change_here : ReadAgain → (cells : CellMap) (base word : ℕ) (change : ℕ → ℕ) → read_word cells base ≡ Ok word
    → (of_modifying cells (modify cells base change)).fault ≡ None
    → read_word (of_modifying cells (modify cells base change)).cells base ≡ Ok (change word)
change_here again cells base word change read =
    subst (λ (m : Result Modified BusFault). (of_modifying cells m).fault ≡ None
    → read_word (of_modifying cells m).cells base ≡ Ok (change word)) (sym (modify_is cells base word change read))
    (elim (write_word cells base (change word)) as (λ w. write_word cells base (change word) ≡ w
    → (of_modifying cells (changed word w)).fault ≡ None
    → read_word (of_modifying cells (changed word w)).cells base ≡ Ok (change word)) [
      | Ok after ↦ λ is fine. again cells after base (change word) is (subst IsOk (sym read) refl)
      | Err f ↦ λ is fine. absurd cc
    ] refl)

change_elsewhere : ReadElsewhere → (cells : CellMap) (base other : ℕ) (change : ℕ → ℕ)
    → (other < base) ⊎ (base < other)
    → read_word (of_modifying cells (modify cells base change)).cells other ≡ read_word cells other
change_elsewhere elsewhere cells base other change apart = elim (read_word cells base) as
    (λ r. read_word cells base ≡ r
    → read_word (of_modifying cells (r >>= (λ before. changed before (write_word cells base (change before))))).cells
    other ≡ read_word cells other) [
      | Err f ↦ λ _. refl
      | Ok word ↦ λ _. elim (write_word cells base (change word)) as (λ w. write_word cells base (change word) ≡ w
          → read_word (of_modifying cells (changed word w)).cells other ≡ read_word cells other) [
            | Ok after ↦ λ is. elsewhere cells after base other (change word) is apart
            | Err f ↦ λ is. refl
          ] refl
    ] refl

-- ---- a write to a register

pub write_here : ReadAgain → FullPut → (cells : CellMap) (r : Register) (value word : ℕ) → r.mask < 2 ^ 32
    → FitsMask r.mask value → value < 2 ^ 32 → word < 2 ^ 32 → read_word cells r.address ≡ Ok word
    → (outcome cells (write_op r (value ∷ []))).fault ≡ None
    → read_word (outcome cells (write_op r (value ∷ []))).cells r.address ≡ Ok (put_field word r.mask value)
write_here again full cells r value word small fits value_small word_small read = elim (is_full r.mask) as
    (λ b. is_full r.mask ≡ b
    → (outcome cells (if b then Write r.address (value ∷ []) else masked_write r.address r.mask value)).fault ≡ None
    → read_word (outcome cells (if b then Write r.address (value ∷ []) else masked_write r.address r.mask value)).cells
    r.address ≡ Ok (put_field word r.mask value)) [
      | true ↦ λ is fine.
          plain again cells r.address value word read fine
          ∙ ap (λ v. Ok v) (sym (ap (λ m. put_field word m value) (eqb-true r.mask 0xffffffff is)
          ∙ full word value word_small value_small))
      | false ↦ λ is fine.
          change_here again cells r.address word (masked_word (bit_not w32 r.mask) (shifted_value r.mask value)) read fine
          ∙ ap (λ v. Ok v) (joined r.mask word (shifted_value r.mask value) small fits)
    ] refl

pub write_elsewhere : ReadElsewhere → (cells : CellMap) (r : Register) (value other : ℕ)
    → (other < r.address) ⊎ (r.address < other)
    → read_word (outcome cells (write_op r (value ∷ []))).cells other ≡ read_word cells other
write_elsewhere elsewhere cells r value other apart = elim (is_full r.mask) as
    (λ b. is_full r.mask ≡ b
    → read_word (outcome cells (if b then Write r.address (value ∷ []) else masked_write r.address r.mask value)).cells
    other ≡ read_word cells other) [
      | true ↦ λ _. plain_elsewhere elsewhere cells r.address value other apart
      | false ↦ λ _.
          change_elsewhere elsewhere cells r.address other (masked_word (bit_not w32 r.mask) (shifted_value r.mask value)) apart
    ] refl
