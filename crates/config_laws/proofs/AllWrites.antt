-- Values that are written one after another.
use Rattle.std.proofs.Common.{◌≡◌, ◌⊎◌, ℕ, ◌<◌, ◌^◌, true, false, ◌==◌, List, [], ◌∷◌, None, Ok, inl, inr, sym}
use Rattle.std.proofs.Common.{◌∙◌, subst, arith}
use Rattle.std.specs.List.{AllByRecursion}
use Rattle.std.proofs.lemmas.Bool.{cases_Bool, cases_lt, eq-eqb, eqb-true}
use Rattle.masked_fields.specs.Field.{FitsMask, put_field}
use Rattle.board_bus.specs.Cells.{CellMap, read_word}
use Rattle.board_bus.specs.Transactions.{outcome}
use Rattle.node_tree.specs.declared.register.Register.{Register}
use Rattle.script_lang.specs.Operations.{write_op}
use Rattle.config_store.specs.Puts.{put_all}
use Rattle.config_laws.specs.Writes.{AreDone, CanBeWritten, ValueFor, after_writes, puts_at, write_outcome}

abbrev pub Here : Type 0
Here = (cells : CellMap) (r : Register) (value word : ℕ) → r.mask < 2 ^ 32 → FitsMask r.mask value → value < 2 ^ 32
    → word < 2 ^ 32 → read_word cells r.address ≡ Ok word → (outcome cells (write_op r (value ∷ []))).fault ≡ None
    → read_word (outcome cells (write_op r (value ∷ []))).cells r.address ≡ Ok (put_field word r.mask value)

abbrev pub Elsewhere : Type 0
Elsewhere = (cells : CellMap) (r : Register) (value other : ℕ) → (other < r.address) ⊎ (r.address < other)
    → read_word (outcome cells (write_op r (value ∷ []))).cells other ≡ read_word cells other

abbrev pub StaysWord : Type 0
StaysWord = (word mask value : ℕ) → 0 < mask → mask < 2 ^ 32 → word < 2 ^ 32 → FitsMask mask value
    → put_field word mask value < 2 ^ 32

pub apart : (a b : ℕ) → (a == b) ≡ false → (b < a) ⊎ (a < b)
apart a b differ = elim (cases_lt b a) [
  | inl less ↦ inl less
  | inr more ↦ elim (cases_lt a b) [
    | inl less ↦ inr less
    | inr few ↦
        let same : a ≡ b = omega (arith, more, few) in
        let both : true ≡ false = sym (eq-eqb a b same) ∙ differ in absurd cc
  ]
]

pub puts_there : Here → Elsewhere → StaysWord → (cells : CellMap) (writes : List ValueFor) (address word : ℕ)
    → AllByRecursion CanBeWritten writes → AreDone cells writes → word < 2 ^ 32 → read_word cells address ≡ Ok word
    → read_word (after_writes cells writes) address ≡ Ok (put_all word (puts_at address writes))
puts_there here elsewhere stays cells [] address word can done small read = read
puts_there here elsewhere stays cells (write ∷ writes) address word can done small read =
    let r = write.register in
    let next = (write_outcome cells write).cells in
    elim (cases_Bool (r.address == address)) [
      | inl same ↦
          let at : r.address ≡ address = eqb-true r.address address same in
          let put : read_word next address ≡ Ok (put_field word r.mask write.value) =
          subst (λ n. read_word next n ≡ Ok (put_field word r.mask write.value)) at
          (here cells r write.value word (can.0).mask (can.0).fits (can.0).value small
          (subst (λ n. read_word cells n ≡ Ok word) (sym at) read) done.0) in
          rw same (puts_there here elsewhere stays next writes address (put_field word r.mask write.value) can.1 done.1
          (stays word r.mask write.value (can.0).some (can.0).mask small (can.0).fits) put)
      | inr differ ↦
          rw differ (puts_there here elsewhere stays next writes address word can.1 done.1 small
          (elsewhere cells r write.value address (apart r.address address differ) ∙ read))
    ]
