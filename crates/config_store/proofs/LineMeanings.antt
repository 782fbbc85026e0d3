-- What the lines of a configuration's script mean.
use Rattle.std.proofs.Common.{◌≡◌, ◌≢◌, ℕ, zero, suc, ◌+◌, ◌<◌, ◌^◌, List, [], ◌∷◌, length, get_or, Bool, true, false}
use Rattle.std.proofs.Common.{◌||◌, nat_le, codes, Some, Ok, slice_get, refl, sym, ap, ◌∙◌, subst, arith}
use Rattle.std.specs.Fmt.{decimal}
use Rattle.std.specs.Str.{bytes_eq}
use Rattle.std.proofs.lemmas.Bool.Decides.{nat_tests}
use Rattle.std.proofs.lemmas.Option.{slice_get_within, get_or_from_slice_get}
use Rattle.std.proofs.lemmas.Slice.Eq.{bytes_eq-Decides}
use Rattle.board_specs.specs.declared.spec.BoardSpec.{BoardSpec}
use Rattle.node_tree.specs.Maps.{Name, RegisterMap}
use Rattle.node_tree.specs.declared.register.Register.{Register}
use Rattle.script_lang.specs.Lines.{words, command_of}
use Rattle.script_lang.specs.Operations.{board_from, meaning, fits_mask, step_of}
use Rattle.script_lang.specs.OwnNames.{HaveOwnNames}
use Rattle.script_steps.specs.declared.operation.Step.TheVariants.{Do}
use Rattle.config_store.specs.Kept.{IndexedBoard, indexed_boards, IsKept}
use Rattle.config_store.specs.Lines.{place_text, read_text, write_text}
use Rattle.config_store.specs.Meanings.{IsBoardWord, IsOneWord, read_of, write_of}
use Rattle.config_store.proofs.LineWords.{cut_place, decimal_word, first_piece, number_read, one_piece, place_word}
use Rattle.config_store.proofs.LineWords.{some_place}

-- ---- words

pub read_words : (board name : Name) → IsBoardWord board → IsOneWord name
    → words (read_text board name) ≡ codes "read" ∷ place_text board name ∷ []
read_words board name one other =
    rw (one_piece (place_text board name) (place_word board name one.0 other), some_place board name) refl

pub write_words : (board name : Name) (value : ℕ) → IsBoardWord board → IsOneWord name → value < 2 ^ 32
    → words (write_text board name value) ≡ codes "write" ∷ place_text board name ∷ decimal value ∷ []
write_words board name value one other small =
    let (digits, some) = decimal_word value small in
    rw (
      first_piece (place_text board name) (decimal value) (place_word board name one.0 other),
      one_piece (decimal value) digits,
      some_place board name,
      some,
    ) refl

-- ---- the board of a name

bytes_same : (xs ys : List ℕ) → bytes_eq xs ys ≡ true → xs ≡ ys
bytes_same xs ys h = (bytes_eq-Decides xs ys).0 h

bytes_itself : (xs : List ℕ) → bytes_eq xs xs ≡ true
bytes_itself xs = (bytes_eq-Decides xs xs).1 refl

not_same : (xs ys : List ℕ) (b : Bool) → bytes_eq xs ys ≡ b → xs ≢ ys → bytes_eq xs ys ≡ false
not_same xs ys true is other = absurd (other (bytes_same xs ys is))
not_same xs ys false is other = is

board_here : (k i : ℕ) (boards : List BoardSpec) (b : BoardSpec) → HaveOwnNames boards → slice_get boards i ≡ Some b
    → board_from k b.name boards ≡ Some (k + i)
board_here k i [] b own at = let bad : ⊥ = cc in absurd bad
board_here k zero (x ∷ boards) b own at =
    let same : x ≡ b = cc in
    let named : bytes_eq x.name b.name ≡ true = subst (λ y. bytes_eq y.name b.name ≡ true) (sym same)
    (bytes_itself b.name) in
    let sum : k ≡ k + 0 = omega arith in
    rw named (ap (λ n. Some n) sum)
board_here k (suc i) (x ∷ boards) b own at =
    let within : i < length boards = slice_get_within boards i b at in
    let there : get_or boards i x ≡ b = get_or_from_slice_get boards i b x at in
    let other : x.name ≢ b.name = subst (λ y. x.name ≢ y.name) there (own zero (suc i) x (omega arith) (omega arith)) in
    let sum : k + 1 + i ≡ k + suc i = omega arith in
    rw (not_same x.name b.name (bytes_eq x.name b.name) refl other)
    (board_here (k + 1) i boards b (λ m n d less in'. own (suc m) (suc n) d (omega arith) (omega arith)) at
    ∙ ap (λ n. Some n) sum)

-- the board and the index at a place
parts_at : (boards : List BoardSpec) (indexes : List RegisterMap) (i : ℕ) (b : IndexedBoard)
    → slice_get (indexed_boards boards indexes) i ≡ Some b → (slice_get boards i ≡ Some b.0) × (slice_get indexes i ≡ Some b.1)
parts_at [] indexes i b at = let bad : ⊥ = cc in absurd bad
parts_at (x ∷ boards) [] i b at = let bad : ⊥ = cc in absurd bad
parts_at (x ∷ boards) (y ∷ indexes) zero b at = (cc, cc)
parts_at (x ∷ boards) (y ∷ indexes) (suc i) b at = parts_at boards indexes i b at

-- ---- the rules

none_before : (i : ℕ) → 0 + i ≡ i
none_before i = omega arith

fits_none : (size : ℕ) (b : Bool) → (nat_le 0 size || b) ≡ true
fits_none size b = grind (arith, nat_tests)

module _ (boards : List BoardSpec) (indexes : List RegisterMap) (own : HaveOwnNames boards) (i line : ℕ)
    (b : IndexedBoard) (at : slice_get (indexed_boards boards indexes) i ≡ Some b) (board_word : IsBoardWord b.0.name)
    (name : Name) (r : Register) (word : IsOneWord name) (is : IsKept b.1 name r) where
  first : board_from 0 b.0.name boards ≡ Some i
  first = board_here 0 i boards b.0 own (parts_at boards indexes i b at).0 ∙ ap (λ n. Some n) (none_before i)

  pub read_means : meaning boards indexes line (read_text b.0.name name) ≡ Ok (Some (Do (read_of line i name r)))
  read_means =
      ap (λ ws. step_of boards indexes line (command_of ws)) (read_words b.0.name name board_word word)
      ∙ rw (
        cut_place b.0.name name board_word.1,
        first,
        (parts_at boards indexes i b at).1,
        is.found,
        is.both_ways,
        is.one_word,
        fits_none r.size _,
      ) refl

  pub write_means : (value : ℕ) → value < 2 ^ 32 → fits_mask r.mask value ≡ true
      → meaning boards indexes line (write_text b.0.name name value) ≡ Ok (Some (Do (write_of line i name r value)))
  write_means value small fits =
      ap (λ ws. step_of boards indexes line (command_of ws)) (write_words b.0.name name value board_word word small)
      ∙ rw (
        cut_place b.0.name name board_word.1,
        number_read value small,
        first,
        (parts_at boards indexes i b at).1,
        is.found,
        is.both_ways,
        is.one_word,
        fits_none r.size _,
        fits,
      ) refl
