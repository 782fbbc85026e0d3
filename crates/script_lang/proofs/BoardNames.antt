-- Boards of one name, one board after another.
use Rattle.std.proofs.Common.{◌≡◌, ℕ, ◌+◌, ◌<◌, List, [], ◌∷◌, ◌++◌, length, take, drop, get_or, true, false}
use Rattle.std.proofs.Common.{if◌then◌else◌, refl, sym, subst, ◌∙◌}
use Rattle.std.specs.List.{list_any}
use Rattle.std.specs.Str.{bytes_eq}
use Rattle.std.proofs.lemmas.List.{drop_more, take_more}
use Rattle.board_specs.specs.declared.spec.BoardSpec.{BoardSpec}
use Rattle.script_lang.specs.declared.refusal.SessionRefusal.{SessionRefusal}
use Rattle.script_lang.specs.Document.{duplicates, duplicate_at, TellsFault}
use Rattle.script_lang.proofs.FaultLists.{front_fault}

-- the faults from a board on
from_board : (bs : List BoardSpec) (i : ℕ) (b : BoardSpec) → i < length bs → b ≡ get_or bs i b
    → duplicates (take i bs) i (drop i bs)
    ≡ (if list_any (λ other. bytes_eq other.name b.name) (take i bs) then duplicate_at i ∷ [] else [])
    ++ duplicates (take (i + 1) bs) (i + 1) (drop (i + 1) bs)
from_board bs i b within here = rw (drop_more bs i b within, take_more bs i b within, ← here) refl

-- a board whose name is new leaves those of the later ones
pub past_board : (bs : List BoardSpec) (i : ℕ) (b : BoardSpec) → i < length bs → b ≡ get_or bs i b
    → list_any (λ other. bytes_eq other.name b.name) (take i bs) ≡ false
    → duplicates (take i bs) i (drop i bs) ≡ duplicates (take (i + 1) bs) (i + 1) (drop (i + 1) bs)
past_board bs i b within here new = from_board bs i b within here ∙ rw new refl

-- a board whose name is not new is the first fault from it on
pub first_board : (bs : List BoardSpec) (i : ℕ) (b : BoardSpec) (r : SessionRefusal) → i < length bs → b ≡ get_or bs i b
    → list_any (λ other. bytes_eq other.name b.name) (take i bs) ≡ true
    → TellsFault (duplicate_at i ∷ []) r → TellsFault (duplicates (take i bs) i (drop i bs)) r
first_board bs i b r within here old told =
    let rest = duplicates (take (i + 1) bs) (i + 1) (drop (i + 1) bs) in
    let same : duplicates (take i bs) i (drop i bs) ≡ (duplicate_at i ∷ []) ++ rest =
    from_board bs i b within here ∙ rw old refl in
    subst (λ faults. TellsFault faults r) (sym same) (front_fault (duplicate_at i ∷ []) rest r told)
