-- The kept registers of a session's boards have names of their own, so that a text of their values is read back.
use Rattle.std.proofs.Common.{◌≡◌, ◌≢◌, ℕ, zero, suc, ◌+◌, ◌<◌, Bool, List, [], ◌∷◌, ◌++◌, map}
use Rattle.std.proofs.Common.{Some, Less, Equal, T, inl, inr, refl, sym, ap, ◌∙◌, subst, arith}
use Rattle.std.specs.FinMap.{entries, entries_sorted, is_sorted}
use Rattle.std.specs.List.{AllByRecursion, AllZip, filter, slice_get}
use Rattle.std.proofs.lemmas.Bool.{cases_Bool}
use Rattle.ipb_base.proofs.AllLemmas.{AllByRecursion-append}
use Rattle.toml.specs.Data.{Members}
use Rattle.board_specs.specs.declared.spec.BoardSpec.{BoardSpec}
use Rattle.node_tree.specs.Maps.{Name, RegisterMap}
use Rattle.node_tree.specs.Names.{IsIndexOf}
use Rattle.node_tree.specs.declared.register.Register.{Register}
use Rattle.node_tree.proofs.NamedLemmas.{by_bytes}
use Rattle.node_tree.proofs.TimelineLemmas.{rises}
use Rattle.script_lang.specs.Document.{IsSession}
use Rattle.script_lang.specs.Limits.{IsWithin}
use Rattle.script_lang.specs.OwnNames.{HaveOwnNames}
use Rattle.script_lang.specs.declared.session.Session.{Session}
use Rattle.config_store.specs.declared.state.StateEntry.{StateEntry}
use Rattle.config_store.specs.Kept.{KeptRegister, indexed_boards, is_kept, registers_kept, kept_of, kept_register}
use Rattle.config_store.specs.Meanings.{HasWord}
use Rattle.config_store.proofs.InOrder.{same_name}
use Rattle.config_store.proofs.KeptLines.{IsKeptOf, kept_of_has}
use Rattle.config_store.proofs.NameSearch.{Registers}
use Rattle.config_laws.specs.Applied.{AreFor, IsFor}
use Rattle.config_laws.specs.ReadBack.{AreApart, CanBeReadBack, CanBeSpelled, IsApartFrom, IsOfSomeBoard}
use Rattle.config_laws.proofs.SavedLines.{first_of}
use Rattle.script_lang.proofs.ValidTables.{valid_tables}
use Rattle.config_laws.proofs.SessionBoards.{zip_at}
use Rattle.config_laws.proofs.TextNames.{IsQuotable, boards_bare, register_quotable}
use Rattle.config_laws.proofs.TextNodes.{BoardsApart, boards_apart}

-- ---- the names of a table

abbrev NamesApart : Registers → Type 0
NamesApart [] = Unit {0}
NamesApart (e ∷ es) = AllByRecursion (λ (o : Name × Register). e.0 ≢ o.0) es × NamesApart es

not_itself : (a b : Name) → by_bytes a b ≡ Less → a ≡ b → ⊥
not_itself a b less same =
    let equal : by_bytes a b ≡ Equal = ap (λ (n : Name). by_bytes n b) same ∙ same_name b in
    let both : Less ≡ Equal = sym less ∙ equal in absurd cc

-- the names behind a place of a list in order are others
others_apart : (all : Registers) → T (is_sorted by_bytes all) → (i : ℕ) (e : Name × Register) → slice_get all i ≡ Some e
    → (j : ℕ) → i < j → (es : Registers)
    → ((k : ℕ) (o : Name × Register) → slice_get es k ≡ Some o → slice_get all (j + k) ≡ Some o)
    → AllByRecursion (λ (o : Name × Register). e.0 ≢ o.0) es
others_apart all order i e at j less [] there = tt
others_apart all order i e at j less (o ∷ es) there =
    let here = there zero o refl in (
      not_itself e.0 o.0 (rises all i (j + 0) e o order (omega (arith, less)) at here),
      others_apart all order i e at (j + 1) (omega (arith, less)) es (λ k x is.
          let next : j + suc k ≡ j + 1 + k = omega arith in
          subst (λ n. slice_get all n ≡ Some x) next (there (suc k) x is)),
    )

names_apart : (all : Registers) → T (is_sorted by_bytes all) → (i : ℕ) (es : Registers)
    → ((k : ℕ) (o : Name × Register) → slice_get es k ≡ Some o → slice_get all (i + k) ≡ Some o) → NamesApart es
names_apart all order i [] there = tt
names_apart all order i (e ∷ es) there =
    let first : i + 0 ≡ i = omega arith in
    let behind : (k : ℕ) (o : Name × Register) → slice_get es k ≡ Some o → slice_get all (i + 1 + k) ≡ Some o =
    λ k o is.
    let next : i + suc k ≡ i + 1 + k = omega arith in
    subst (λ n. slice_get all n ≡ Some o) next (there (suc k) o is) in (
      others_apart all order i e (subst (λ n. slice_get all n ≡ Some e) first (there zero e refl)) (i + 1) (omega arith) es
          behind,
      names_apart all order (i + 1) es behind,
    )

filter_others : (p : Name × Register → Bool) (name : Name) (es : Registers)
    → AllByRecursion (λ (o : Name × Register). name ≢ o.0) es
    → AllByRecursion (λ (o : Name × Register). name ≢ o.0) (filter p es)
filter_others p name [] apart = tt
filter_others p name (e ∷ es) apart = elim (cases_Bool (p e)) [
  | inl here ↦ rw here (apart.0, filter_others p name es apart.1)
  | inr away ↦ rw away (filter_others p name es apart.1)
]

filter_apart : (p : Name × Register → Bool) (es : Registers) → NamesApart es → NamesApart (filter p es)
filter_apart p [] apart = tt
filter_apart p (e ∷ es) apart = elim (cases_Bool (p e)) [
  | inl here ↦ rw here (filter_others p e.0 es apart.0, filter_apart p es apart.1)
  | inr away ↦ rw away (filter_apart p es apart.1)
]

kept_apart : (index : RegisterMap) → NamesApart (registers_kept index)
kept_apart index =
    filter_apart (is_kept (entries index)) (entries index)
    (names_apart (entries index) (entries_sorted index) 0 (entries index) (λ k o is.
    let same : k ≡ 0 + k = omega arith in
    subst (λ n. slice_get (entries index) n ≡ Some o) same is))

-- ---- the registers of all boards

pub record IsAnother (r o : KeptRegister) : Type 0 where
  pub differ : r.board ≡ o.board → r.name ≡ o.name → ⊥

abbrev RegistersApart : List KeptRegister → Type 0
RegistersApart [] = Unit {0}
RegistersApart (r ∷ rs) = AllByRecursion (IsAnother r) rs × RegistersApart rs

abbrev IsOfOther : Name → KeptRegister → Type 0
IsOfOther board o = board ≢ o.board

on_board : (board : Name) (e : Name × Register) (es : Registers) → AllByRecursion (λ (o : Name × Register). e.0 ≢ o.0) es
    → AllByRecursion (IsAnother (kept_register board e)) (map (kept_register board) es)
on_board board e [] apart = tt
on_board board e (o ∷ es) apart = (record { differ = λ same name. apart.0 name }, on_board board e es apart.1)

of_others : (r : KeptRegister) (rs : List KeptRegister) → AllByRecursion (IsOfOther r.board) rs
    → AllByRecursion (IsAnother r) rs
of_others r [] apart = tt
of_others r (o ∷ rs) apart = (record { differ = λ same name. apart.0 same }, of_others r rs apart.1)

board_apart : (board : Name) (es : Registers) → NamesApart es → (rs : List KeptRegister)
    → AllByRecursion (IsOfOther board) rs → RegistersApart rs
    → RegistersApart (map (kept_register board) es ++ rs)
board_apart board [] apart rs others later = later
board_apart board (e ∷ es) apart rs others later = (
  AllByRecursion-append (IsAnother (kept_register board e)) (map (kept_register board) es) rs
      (on_board board e es apart.0) (of_others (kept_register board e) rs others),
  board_apart board es apart.1 rs others later,
)

same_board : (board : Name) (name : Name) (es : Registers) (rs : List KeptRegister) → name ≢ board
    → AllByRecursion (IsOfOther name) rs → AllByRecursion (IsOfOther name) (map (kept_register board) es ++ rs)
same_board board name [] rs differ later = later
same_board board name (e ∷ es) rs differ later = (differ, same_board board name es rs differ later)

later_boards : (name : Name) (specs : List BoardSpec) (indexes : List RegisterMap)
    → AllByRecursion (λ (o : BoardSpec). name ≢ o.name) specs
    → AllByRecursion (IsOfOther name) (kept_of (indexed_boards specs indexes))
later_boards name [] indexes apart = tt
later_boards name (s ∷ specs) [] apart = tt
later_boards name (s ∷ specs) (index ∷ indexes) apart =
    same_board s.name name (registers_kept index) (kept_of (indexed_boards specs indexes)) apart.0 (later_boards name specs indexes apart.1)

all_apart : (specs : List BoardSpec) (indexes : List RegisterMap) → BoardsApart specs
    → RegistersApart (kept_of (indexed_boards specs indexes))
all_apart [] indexes apart = tt
all_apart (s ∷ specs) [] apart = tt
all_apart (s ∷ specs) (index ∷ indexes) apart =
    board_apart s.name (registers_kept index) (kept_apart index) (kept_of (indexed_boards specs indexes))
    (later_boards s.name specs indexes apart.0) (all_apart specs indexes apart.1)

-- ---- values for them

entry_apart : (r : KeptRegister) (e : StateEntry) (rs : List KeptRegister) (es : List StateEntry) → IsFor r e
    → AllByRecursion (IsAnother r) rs → AreFor rs es → AllByRecursion (IsApartFrom e) es
entry_apart r e [] [] is apart are = tt
entry_apart r e [] (o ∷ es) is apart are = absurd are
entry_apart r e (s ∷ rs) [] is apart are = absurd are
entry_apart r e (s ∷ rs) (o ∷ es) is apart are = (
  record {
    differ = λ board name.
        apart.0.differ (sym is.board' ∙ board ∙ are.0.board') (sym is.name' ∙ name ∙ are.0.name');
  },
  entry_apart r e rs es is apart.1 are.1,
)

entries_apart : (rs : List KeptRegister) (es : List StateEntry) → RegistersApart rs → AreFor rs es → AreApart es
entries_apart [] [] apart are = tt
entries_apart [] (o ∷ es) apart are = absurd are
entries_apart (r ∷ rs) [] apart are = absurd are
entries_apart (r ∷ rs) (e ∷ es) apart are =
    (entry_apart r e rs es are.0 apart.0 are.1, entries_apart rs es apart.1 are.1)

module _ (specs : List BoardSpec) (indexes : List RegisterMap)
    (quotable : (r : KeptRegister) → IsKeptOf (indexed_boards specs indexes) r → IsQuotable r.name) where
  entries_spelled : (rs : List KeptRegister) (es : List StateEntry)
      → ((k : ℕ) (r : KeptRegister) → slice_get rs k ≡ Some r → IsKeptOf (indexed_boards specs indexes) r) → AreFor rs es
      → AllByRecursion HasWord es
      → AllByRecursion CanBeSpelled es × AllByRecursion (IsOfSomeBoard specs) es
  entries_spelled [] [] each are words = (tt, tt)
  entries_spelled [] (o ∷ es) each are words = absurd are
  entries_spelled (r ∷ rs) [] each are words = absurd are
  entries_spelled (r ∷ rs) (e ∷ es) each are words =
      let is = each zero r refl in
      let rest = entries_spelled rs es (λ k x at. each (suc k) x at) are.1 words.1 in (
        (
          record { quotable = subst IsQuotable (sym are.0.name') (quotable r is); word = words.0 },
          rest.0,
        ),
        (
          record {
            place = is.place;
            spec = is.board.0;
            there = first_of specs indexes is.place is.board is.there;
            called = is.called ∙ sym are.0.board';
          },
          rest.1,
        ),
      )

-- ---- a session

abbrev pub KeepsLimits : Type 0
KeepsLimits = (document : Members) (session : Session) → IsSession document session → IsWithin session

abbrev pub OwnBoards : Type 0
OwnBoards = (document : Members) (session : Session) → IsSession document session → HaveOwnNames session.boards

pub can_be_read_back : KeepsLimits → OwnBoards → (document : Members) (session : Session) (indexes : List RegisterMap)
    (entries : List StateEntry) → IsSession document session
    → AllZip (λ (b : BoardSpec) (index : RegisterMap). IsIndexOf session.tables b.table index) session.boards indexes
    → AreFor (kept_of (indexed_boards session.boards indexes)) entries → AllByRecursion HasWord entries
    → CanBeReadBack session.boards entries
can_be_read_back limits own document session indexes entries is indexes_are are words =
    let specs = session.boards in
    let boards = indexed_boards specs indexes in
    let apart = boards_apart specs (own document session is) in
    let quotable : (r : KeptRegister) → IsKeptOf boards r → IsQuotable r.name =
    λ r of.
    register_quotable session.tables of.board.0.table of.board.1 r.name r.register (valid_tables document session is)
    (zip_at (λ (b : BoardSpec) (index : RegisterMap). IsIndexOf session.tables b.table index) specs indexes of.place
    of.board indexes_are of.there) of.is.found in
    let both = entries_spelled specs indexes quotable (kept_of boards) entries (λ k r at. kept_of_has boards k r at) are
    words in
    record {
      some = (limits document session is).some_boards;
      own = own document session is;
      boards = boards_bare document session is;
      spelled = both.0;
      apart = entries_apart (kept_of boards) entries (all_apart specs indexes apart) are;
      on = both.1;
    }
