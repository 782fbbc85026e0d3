-- The fields of registers after values were written.
use Rattle.std.proofs.Common.{◌≡◌, ℕ, ◌<◌, ◌^◌, ◌==◌, List, [], ◌∷◌, ◌++◌, Ok, refl, ap, ◌∙◌}
use Rattle.std.specs.List.{AllByRecursion}
use Rattle.std.proofs.lemmas.Bool.{eq-eqb}
use Rattle.masked_fields.specs.Field.{field}
use Rattle.board_bus.specs.Cells.{CellMap, read_word}
use Rattle.world_model.proofs.Lists.{either}
use Rattle.config_store.specs.Puts.{AreApartFrom, CanAllBePut, CanBePut, put_all}
use Rattle.config_laws.specs.Writes.{AreDone, CanBeWritten, ValueFor, after_writes, puts_at}
use Rattle.config_laws.proofs.PlanReads.{both_all}

abbrev pub PutThere : Type 0
PutThere = (cells : CellMap) (writes : List ValueFor) (address word : ℕ) → AllByRecursion CanBeWritten writes
    → AreDone cells writes → word < 2 ^ 32 → read_word cells address ≡ Ok word
    → read_word (after_writes cells writes) address ≡ Ok (put_all word (puts_at address writes))

abbrev pub OwnField : Type 0
OwnField = (word : ℕ) (before after : List (ℕ × ℕ)) (put : ℕ × ℕ) → word < 2 ^ 32 → CanAllBePut before → CanBePut put
    → AreApartFrom put.0 after → field (put_all word (before ++ put ∷ after)) put.0 ≡ put.1

abbrev put_of : ValueFor → ℕ × ℕ
put_of write = (write.register.mask, write.value)

can_put : (write : ValueFor) → CanBeWritten write → CanBePut (put_of write)
can_put write can = record { some = can.some; word = can.mask; fits = can.fits }

all_can : (address : ℕ) (writes : List ValueFor) → AllByRecursion CanBeWritten writes
    → CanAllBePut (puts_at address writes)
all_can address [] can = tt
all_can address (write ∷ writes) can =
    either CanAllBePut (write.register.address == address) (put_of write ∷ puts_at address writes)
    (puts_at address writes) (λ _. (can_put write can.0, all_can address writes can.1))
    (λ _. all_can address writes can.1)

puts_append : (address : ℕ) (xs ys : List ValueFor)
    → puts_at address (xs ++ ys) ≡ puts_at address xs ++ puts_at address ys
puts_append address [] ys = refl
puts_append address (x ∷ xs) ys = either
    (λ (ps : List (ℕ × ℕ)). puts_at address ((x ∷ xs) ++ ys) ≡ ps ++ puts_at address ys)
    (x.register.address == address) (put_of x ∷ puts_at address xs) (puts_at address xs)
    (λ same. rw same (ap (λ (ps : List (ℕ × ℕ)). put_of x ∷ ps) (puts_append address xs ys)))
    (λ differ. rw differ (puts_append address xs ys))

pub own_field : PutThere → OwnField → (cells : CellMap) (before after : List ValueFor) (write : ValueFor) (word : ℕ)
    → AllByRecursion CanBeWritten (before ++ write ∷ after) → AreDone cells (before ++ write ∷ after)
    → AreApartFrom write.register.mask (puts_at write.register.address after) → word < 2 ^ 32
    → read_word cells write.register.address ≡ Ok word → (now : ℕ)
    × (read_word (after_writes cells (before ++ write ∷ after)) write.register.address ≡ Ok now)
    × (field now write.register.mask ≡ write.value)
own_field there own cells before after write word can done apart small read =
    let r = write.register in
    let puts = puts_at r.address before in
    let parts = both_all CanBeWritten before (write ∷ after) can in
    let here : puts_at r.address (write ∷ after) ≡ put_of write ∷ puts_at r.address after =
    rw (eq-eqb r.address r.address refl) refl in
    let split : puts_at r.address (before ++ write ∷ after) ≡ puts ++ put_of write ∷ puts_at r.address after =
    puts_append r.address before (write ∷ after) ∙ ap (λ (ps : List (ℕ × ℕ)). puts ++ ps) here in (
      put_all word (puts_at r.address (before ++ write ∷ after)),
      there cells (before ++ write ∷ after) r.address word can done small read,
      ap (λ (ps : List (ℕ × ℕ)). field (put_all word ps) r.mask) split
          ∙ own word puts (puts_at r.address after) (put_of write) small (all_can r.address before parts.0)
          (can_put write parts.1.0) apart,
    )
