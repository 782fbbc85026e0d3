-- The boards of a document without faults have names of their own.
use Rattle.std.proofs.Common.{◌≡◌, ◌≢◌, ℕ, zero, suc, ◌+◌, ◌<◌, List, [], ◌∷◌, ◌++◌, length, get_or, Bool, true, false}
use Rattle.std.proofs.Common.{if◌then◌else◌, sym, subst, arith}
use Rattle.std.specs.List.{Any, list_any}
use Rattle.std.specs.Str.{bytes_eq}
use Rattle.std.proofs.lemmas.List.Folds.{list_any-from_Any}
use Rattle.std.proofs.lemmas.Slice.Eq.{bytes_eq-Decides}
use Rattle.mtu_packer.proofs.AnyLemmas.{any_same, any_front, any_back, any_here}
use Rattle.toml.specs.Data.{Members}
use Rattle.board_specs.specs.declared.spec.BoardSpec.{BoardSpec}
use Rattle.script_lang.specs.declared.session.Session.{Session}
use Rattle.script_lang.specs.Document.{duplicates, duplicate_at, Fault, misfits, size_faults, IsSession}
use Rattle.script_lang.specs.OwnNames.{HaveOwnNames}
use Rattle.script_lang.specs.Sessions.{boards_of}
use Rattle.script_lang.proofs.Kept.{parts_none}

abbrev IsCalled : List ℕ → BoardSpec → Type 0
IsCalled name board = board.name ≡ name

some_fault : (found : Bool) (f : Fault) → found ≡ true → (if found then f ∷ [] else []) ≡ [] → ⊥
some_fault true f is none = cc
some_fault false f is none = cc

-- a name that an earlier board has is told
repeated : (earlier : List BoardSpec) (i : ℕ) (board : BoardSpec) (boards : List BoardSpec)
    → duplicates earlier i (board ∷ boards) ≡ [] → Any (IsCalled board.name) earlier → ⊥
repeated earlier i board boards none any =
    let found = list_any-from_Any (λ (other : BoardSpec). bytes_eq other.name board.name) earlier
    (any_same (IsCalled board.name) (λ (other : BoardSpec). bytes_eq other.name board.name ≡ true) earlier
    (λ other is. (bytes_eq-Decides other.name board.name).1 is) any) in
    some_fault (list_any (λ (other : BoardSpec). bytes_eq other.name board.name) earlier) (duplicate_at i) found
    (parts_none _ (duplicates (earlier ++ board ∷ []) (i + 1) boards) none).0

later_none : (earlier : List BoardSpec) (i : ℕ) (board : BoardSpec) (boards : List BoardSpec)
    → duplicates earlier i (board ∷ boards) ≡ [] → duplicates (earlier ++ board ∷ []) (i + 1) boards ≡ []
later_none earlier i board boards none =
    (parts_none (if list_any (λ (other : BoardSpec). bytes_eq other.name board.name) earlier then duplicate_at i ∷ []
    else []) (duplicates (earlier ++ board ∷ []) (i + 1) boards) none).1

new_name : (earlier : List BoardSpec) (i : ℕ) (boards : List BoardSpec) → duplicates earlier i boards ≡ [] → (j : ℕ)
    (d : BoardSpec) → j < length boards → Any (IsCalled (get_or boards j d).name) earlier → ⊥
new_name earlier i [] none j d within any = absurd (omega arith)
new_name earlier i (board ∷ boards) none zero d within any = repeated earlier i board boards none any
new_name earlier i (board ∷ boards) none (suc j) d within any =
    new_name (earlier ++ board ∷ []) (i + 1) boards (later_none earlier i board boards none) j d (omega arith)
    (any_front (IsCalled (get_or boards j d).name) earlier (board ∷ []) any)

own_from : (earlier : List BoardSpec) (first : ℕ) (boards : List BoardSpec) → duplicates earlier first boards ≡ []
    → (i j : ℕ) (d : BoardSpec) → i < j → j < length boards → (get_or boards i d).name ≢ (get_or boards j d).name
own_from earlier first [] none i j d less within same = absurd (omega arith)
own_from earlier first (board ∷ boards) none i zero d less within same = absurd (omega arith)
own_from earlier first (board ∷ boards) none zero (suc j) d less within same =
    new_name (earlier ++ board ∷ []) (first + 1) boards (later_none earlier first board boards none) j d (omega arith)
    (any_back (IsCalled (get_or boards j d).name) earlier (board ∷ [])
    (any_here (IsCalled (get_or boards j d).name) board [] same))
own_from earlier first (board ∷ boards) none (suc i) (suc j) d less within same =
    own_from (earlier ++ board ∷ []) (first + 1) boards (later_none earlier first board boards none) i j d (omega arith)
    (omega arith) same

pub own_names : (document : Members) (session : Session) → IsSession document session
    → HaveOwnNames session.boards
own_names document session is =
    let named = parts_none (misfits document ++ size_faults document ++ duplicates [] 0 (boards_of document)) _
    is.faultless in
    let none = (parts_none (misfits document ++ size_faults document) _ named.0).1 in
    subst HaveOwnNames (sym is.boards) (own_from [] 0 (boards_of document) none)
