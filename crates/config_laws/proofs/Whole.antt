-- Values that are given for each kept register are those that are shown.
use Rattle.std.proofs.Common.{◌≡◌, ℕ, zero, suc, ◌+◌, List, [], ◌∷◌, ◌++◌, length, map, Some, Less, Equal, nat_cmp}
use Rattle.std.proofs.Common.{Ordering, inl, inr, refl, sym, ap, ◌∙◌, subst}
use Rattle.std.specs.Cmp.Lexicographic.{slice_cmp}
use Rattle.std.specs.List.{AllZip, Contains, slice_get}
use Rattle.std.specs.List.Sorted.{IsStrictlySortedBy}
use Rattle.std.specs.Option.{option_map}
use Rattle.std.specs.Ordering.{ordering_then}
use Rattle.std.proofs.lemmas.Option.{same_Some, slice_get-map, slice_get_read}
use Rattle.world_model.proofs.Lists.{get_front}
use Rattle.access_policy.specs.Decisions.{names_of}
use Rattle.board_specs.specs.declared.spec.BoardSpec.{BoardSpec}
use Rattle.node_tree.specs.Maps.{Name, RegisterMap}
use Rattle.node_tree.specs.declared.register.Register.{Register}
use Rattle.script_steps.specs.declared.operation.Step.{Step}
use Rattle.board_history.proofs.Asking.{heads}
use Rattle.board_history.proofs.Lists.{all_at, get_back}
use Rattle.config_store.specs.declared.state.StateEntry.{StateEntry}
use Rattle.config_store.specs.Kept.{IndexedBoard, KeptRegister, indexed_boards, registers_kept, kept_of, kept_on, kept_register}
use Rattle.config_store.specs.Order.{AreInOrder, entry_cmp}
use Rattle.config_store.specs.Text.{heading}
use Rattle.config_store.proofs.InOrder.{same_name}
use Rattle.config_store.proofs.KeptMeaning.{kept_place}
use Rattle.config_laws.specs.Applied.{AreAmong, AreApplied, AreFor, IsApplied, IsFor}
use Rattle.config_laws.specs.Saved.{AreSaved, saved_board, saved_text, values_text}
use Rattle.config_laws.proofs.AppliedValues.{contains}
use Rattle.config_laws.proofs.Givens.{IsGiven}

-- ---- a state has one value for each register

not_less : (a b : StateEntry) → entry_cmp a b ≡ Less → a.board ≡ b.board → a.name ≡ b.name → ⊥
not_less a b less board name =
    let same : entry_cmp a b ≡ Equal =
    ap (λ (n : Name). ordering_then (slice_cmp nat_cmp n b.board) (slice_cmp nat_cmp a.name b.name)) board
    ∙ ap (λ (o : Ordering). ordering_then o (slice_cmp nat_cmp a.name b.name)) (same_name b.board)
    ∙ ap (λ (n : Name). slice_cmp nat_cmp n b.name) name ∙ same_name b.name in
    let both : Less ≡ Equal = sym less ∙ same in absurd cc

one_value : (state : List StateEntry) → AreInOrder state → (i j : ℕ) (x y : StateEntry) → slice_get state i ≡ Some x
    → slice_get state j ≡ Some y → x.board ≡ y.board → x.name ≡ y.name → x ≡ y
unfolding IsStrictlySortedBy
one_value [] order i j x y at there board name = absurd cc
one_value (e ∷ state) order zero zero x y at there board name = same_Some x y (sym at ∙ there)
one_value (e ∷ state) order zero (suc j) x y at there board name =
    let first : e ≡ x = same_Some e x at in
    let less = all_at (λ (z : StateEntry). entry_cmp e z ≡ Less) state j y order.0 there in
    absurd (not_less e y less (ap (λ (z : StateEntry). z.board) first ∙ board)
    (ap (λ (z : StateEntry). z.name) first ∙ name))
one_value (e ∷ state) order (suc i) zero x y at there board name =
    let first : e ≡ y = same_Some e y there in
    let less = all_at (λ (z : StateEntry). entry_cmp e z ≡ Less) state i x order.0 at in
    absurd (not_less e x less (ap (λ (z : StateEntry). z.board) first ∙ sym board)
    (ap (λ (z : StateEntry). z.name) first ∙ sym name))
one_value (e ∷ state) order (suc i) (suc j) x y at there board name = one_value state order.1 i j x y at there board name

-- a place of what is contained
pub at_place : {T : Type 0} (xs : List T) (x : T) → Contains xs x → (k : ℕ) × (slice_get xs k ≡ Some x)
at_place xs x has = (has.0, slice_get_read xs (length xs) has.0 x refl has.1 (sym has.2))

only_value : (state : List StateEntry) → AreInOrder state → (r : KeptRegister) (x y : StateEntry) → Contains state x
    → Contains state y → IsFor r x → IsFor r y → x ≡ y
only_value state order r x y has also one other =
    let at = at_place state x has in
    let there = at_place state y also in
    one_value state order at.0 there.0 x y at.1 there.1 (one.board' ∙ sym other.board') (one.name' ∙ sym other.name')

-- ---- what is shown of a value that is given

shown_value : (specs : List BoardSpec) (state : List StateEntry) → AreInOrder state → (r : KeptRegister)
    (shown entry : StateEntry) → IsApplied specs state r shown → IsFor r entry → Contains state entry → shown ≡ entry
shown_value specs state order r shown entry (inl (has, is)) for_it also =
    only_value state order r shown entry has also is for_it
shown_value specs state order r shown entry (inr (none, saved)) for_it also =
    let at = at_place state entry also in
    absurd (all_at (λ (given : StateEntry). ¬ IsFor r given) state at.0 entry none at.1 for_it)

pub shown_as_given : (specs : List BoardSpec) (kept : List KeptRegister) (state entries shown : List StateEntry)
    → AreInOrder state → AreApplied specs state kept shown → AreFor kept entries → AreAmong entries state
    → shown ≡ entries
shown_as_given specs [] state [] [] order applied are among = refl
shown_as_given specs [] state [] (x ∷ shown) order applied are among = absurd applied
shown_as_given specs [] state (e ∷ entries) shown order applied are among = absurd are
shown_as_given specs (r ∷ kept) state [] shown order applied are among = absurd are
shown_as_given specs (r ∷ kept) state (e ∷ entries) [] order applied are among = absurd applied
shown_as_given specs (r ∷ kept) state (e ∷ entries) (x ∷ shown) order applied are among =
    ap (λ (first : StateEntry). first ∷ shown) (shown_value specs state order r x e applied.0 are.0 among.0)
    ∙ ap (λ (rest : List StateEntry). e ∷ rest)
    (shown_as_given specs kept state entries shown order applied.1 are.1 among.1)

-- ---- each value that is given is shown

in_kept : (boards : List IndexedBoard) (place : ℕ) (b : IndexedBoard) → slice_get boards place ≡ Some b → (m : ℕ)
    (e : Name × Register) → slice_get (registers_kept b.1) m ≡ Some e → (n : ℕ)
    × (slice_get (kept_of boards) n ≡ Some (kept_register b.0.name e))
in_kept [] place b at m e there = absurd cc
in_kept (x ∷ boards) zero b at m e there =
    let same : x ≡ b = same_Some x b at in
    let here : slice_get (kept_on b) m ≡ Some (kept_register b.0.name e) =
    slice_get-map (kept_register b.0.name) (registers_kept b.1) m ∙ ap (option_map (kept_register b.0.name)) there in (
      m,
      get_front (kept_on x) (kept_of boards) m (kept_register b.0.name e)
          (subst (λ (y : IndexedBoard). slice_get (kept_on y) m ≡ Some (kept_register b.0.name e)) (sym same) here),
    )
in_kept (x ∷ boards) (suc place) b at m e there =
    let rest = in_kept boards place b at m e there in
    (length (kept_on x) + rest.0, get_back (kept_on x) (kept_of boards) rest.0 (kept_register b.0.name e) rest.1)

zip_get : {A B : Type 0} (R : A → B → Type 0) (xs : List A) (ys : List B) → AllZip R xs ys → (k : ℕ) (x : A)
    → slice_get xs k ≡ Some x → (y : B) × (slice_get ys k ≡ Some y) × R x y
zip_get R [] ys all k x at = absurd cc
zip_get R (z ∷ xs) [] all k x at = absurd all
zip_get R (z ∷ xs) (y ∷ ys) all zero x at = (y, refl, subst (λ w. R w y) (same_Some z x at) all.0)
zip_get R (z ∷ xs) (y ∷ ys) all (suc k) x at = zip_get R xs ys all.1 k x at

given_shown : (specs : List BoardSpec) (boards : List IndexedBoard) (state shown : List StateEntry) → AreInOrder state
    → AreApplied specs state (kept_of boards) shown → (entry : StateEntry) (step : Step) → Contains state entry
    → IsGiven boards entry step → Contains shown entry
given_shown specs boards state shown order applied entry step has is =
    let place = kept_place is.board.1 entry.name is.register is.kept' in
    let found = in_kept boards is.place is.board is.there place.0 (entry.name, is.register) place.1 in
    let r = kept_register is.board.0.name (entry.name, is.register) in
    let at = zip_get (IsApplied specs state) (kept_of boards) shown applied found.0 r found.1 in
    let same : at.0 ≡ entry =
    shown_value specs state order r at.0 entry at.2 (record { board' = sym is.called; name' = refl }) has in
    contains shown found.0 entry (subst (λ (e : StateEntry). slice_get shown found.0 ≡ Some e) same at.1)

pub all_shown : (specs : List BoardSpec) (boards : List IndexedBoard) (state shown entries : List StateEntry)
    (steps : List Step) → AreInOrder state → AreApplied specs state (kept_of boards) shown
    → ((k : ℕ) (e : StateEntry) → slice_get entries k ≡ Some e → Contains state e)
    → AllZip (IsGiven boards) entries steps → AreAmong entries shown
all_shown specs boards state shown [] [] order applied has given = tt
all_shown specs boards state shown [] (step ∷ steps) order applied has given = absurd given
all_shown specs boards state shown (e ∷ entries) [] order applied has given = absurd given
all_shown specs boards state shown (e ∷ entries) (step ∷ steps) order applied has given = (
  given_shown specs boards state shown order applied e step (has zero e refl) given.0,
  all_shown specs boards state shown entries steps order applied (λ k x at. has (suc k) x at) given.1,
)

-- ---- boards of the same names and tables

pub kept_same : (specs others : List BoardSpec) (indexes : List RegisterMap) → names_of specs ≡ names_of others
    → kept_of (indexed_boards specs indexes) ≡ kept_of (indexed_boards others indexes)
kept_same [] [] indexes same = refl
kept_same [] (o ∷ others) indexes same = absurd cc
kept_same (s ∷ specs) [] indexes same = absurd cc
kept_same (s ∷ specs) (o ∷ others) [] same = refl
kept_same (s ∷ specs) (o ∷ others) (index ∷ indexes) same =
    let both = heads s.name o.name (names_of specs) (names_of others) same in
    ap (λ (n : Name). map (kept_register n) (registers_kept index) ++ kept_of (indexed_boards specs indexes)) both.head
    ∙ ap (λ (rest : List KeptRegister). map (kept_register o.name) (registers_kept index) ++ rest)
    (kept_same specs others indexes both.tail)

pub text_same : (specs others : List BoardSpec) (entries : List StateEntry) → names_of specs ≡ names_of others
    → saved_text specs entries ≡ saved_text others entries
text_same [] [] entries same = refl
text_same [] (o ∷ others) entries same = absurd cc
text_same (s ∷ specs) [] entries same = absurd cc
text_same (s ∷ specs) (o ∷ others) entries same =
    let both = heads s.name o.name (names_of specs) (names_of others) same in
    ap (λ (n : Name). (heading n ++ values_text entries n) ++ saved_text specs entries) both.head
    ∙ ap (λ (rest : List ℕ). saved_board entries o ++ rest) (text_same specs others entries both.tail)

pub saved_for : (specs : List BoardSpec) (kept : List KeptRegister) (entries : List StateEntry)
    → AreSaved specs kept entries → AreFor kept entries
saved_for specs [] [] saved = tt
saved_for specs [] (e ∷ entries) saved = absurd saved
saved_for specs (r ∷ kept) [] saved = absurd saved
saved_for specs (r ∷ kept) (e ∷ entries) saved =
    (record { board' = saved.0.board'; name' = saved.0.name' }, saved_for specs kept entries saved.1)
