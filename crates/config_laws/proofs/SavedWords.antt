-- Values that were saved have 32 bits.
use Rattle.std.proofs.Common.{ℕ, ◌<◌, ◌≤◌, ◌^◌, ◌/◌, List, [], ◌∷◌, bit_and, sym, subst, arith}
use Rattle.std.specs.List.{AllByRecursion}
use Rattle.std.proofs.Math.Nat.{div-le_self}
use Rattle.std.proofs.lemmas.Nat.{and_le_l}
use Rattle.masked_fields.specs.Field.{field, shift}
use Rattle.board_bus.proofs.WordsKept.{read-word}
use Rattle.board_specs.specs.declared.spec.BoardSpec.{BoardSpec}
use Rattle.board_specs.specs.OpeningWords.{OpensOnWords}
use Rattle.board_history.specs.Runs.{opens_with}
use Rattle.board_history.proofs.Lists.{all_at}
use Rattle.config_store.specs.declared.state.StateEntry.{StateEntry}
use Rattle.config_store.specs.Kept.{KeptRegister}
use Rattle.config_store.specs.Meanings.{HasWord}
use Rattle.config_laws.specs.Saved.{AreSaved, IsSaved}
use Rattle.config_laws.proofs.AppliedValues.{opens}

field_small : (word mask : ℕ) → word < 2 ^ 32 → field word mask < 2 ^ 32
field_small word mask small =
    let low = and_le_l word mask in
    let less : bit_and word mask / 2 ^ shift mask ≤ bit_and word mask = div-le_self (bit_and word mask) (2 ^ shift mask) in
    omega (arith, low, less, small)

saved_word : (specs : List BoardSpec) → AllByRecursion OpensOnWords specs → (r : KeptRegister) (e : StateEntry)
    → IsSaved specs r e → HasWord e
saved_word specs words r e is =
    let small = read-word (opens_with is.spec.link) r.register.address is.word
    (opens is.spec.link (all_at OpensOnWords specs is.place is.spec words is.on)) is.opened in
    subst (λ n. n < 2 ^ 32) (sym is.value') (field_small is.word r.register.mask small)

pub saved_words : (specs : List BoardSpec) (kept : List KeptRegister) (entries : List StateEntry)
    → AllByRecursion OpensOnWords specs → AreSaved specs kept entries → AllByRecursion HasWord entries
saved_words specs [] [] words saved = tt
saved_words specs [] (e ∷ entries) words saved = absurd saved
saved_words specs (r ∷ kept) [] words saved = absurd saved
saved_words specs (r ∷ kept) (e ∷ entries) words saved =
    (saved_word specs words r e saved.0, saved_words specs kept entries words saved.1)
