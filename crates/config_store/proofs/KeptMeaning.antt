-- What it is to be kept.
use Rattle.std.proofs.Common.{◌≡◌, ℕ, zero, suc, [], ◌∷◌, length, Bool, true, false, not, cond}
use Rattle.std.proofs.Common.{Some, slice_get, refl, sym, ap, ◌∙◌, subst}
use Rattle.std.specs.FinMap.{entries, get}
use Rattle.std.specs.List.{AllByRecursion, Contains, filter, list_any}
use Rattle.std.proofs.lemmas.Bool.{and_from, and_parts, false≢true}
use Rattle.std.proofs.lemmas.Option.{slice_get_read, slice_get_within, get_or_from_slice_get}
use Rattle.address_table.specs.declared.kinds.Mode.{Mode}
use Rattle.address_table.specs.declared.kinds.Mode.TheVariants.{Single, Block, Port, Hierarchical}
use Rattle.address_table.specs.declared.kinds.Permission.{Permission}
use Rattle.address_table.specs.declared.kinds.Permission.TheVariants.{R, W, Rw}
use Rattle.node_tree.specs.Maps.{Name, RegisterMap}
use Rattle.node_tree.specs.Overlaps.{is_dotted_prefix}
use Rattle.node_tree.specs.declared.register.Register.{Register}
use Rattle.node_tree.proofs.EntryLemmas.{all-get, get-at}
use Rattle.config_store.specs.Kept.{has_below, is_kept, is_rw, is_rw_word, is_single, IsKept, registers_kept}
use Rattle.config_store.proofs.KeptLemmas.{kept_parts}
use Rattle.config_store.proofs.NameSearch.{Registers}
use Rattle.config_store.proofs.Places.{any_has, filter_has, none_has}

single : (m : Mode) → is_single m ≡ true → m ≡ Single
single Single h = refl
single Block h = absurd (false≢true h)
single Port h = absurd (false≢true h)
single Hierarchical h = absurd (false≢true h)

both_ways : (p : Permission) → is_rw p ≡ true → p ≡ Rw
both_ways R h = absurd (false≢true h)
both_ways W h = absurd (false≢true h)
both_ways Rw h = refl

-- an entry that stands at a place of a list
HasPlace : Registers → Name × Register → Type 0
HasPlace es e = (k : ℕ) × (slice_get es k ≡ Some e)

all-places : (all es : Registers) → ((k : ℕ) (e : Name × Register) → slice_get es k ≡ Some e → HasPlace all e)
    → AllByRecursion (HasPlace all) es
all-places all [] at = tt
all-places all (e ∷ es) at = (at zero e refl, all-places all es (λ k x here. at (suc k) x here))

-- what a name has is at a place
pub place_of : (index : RegisterMap) (name : Name) (r : Register) → get index name ≡ Some r
    → (k : ℕ) × (slice_get (entries index) k ≡ Some (name, r))
unfolding HasPlace
place_of index name r is =
    all-get (HasPlace (entries index)) index name r
    (all-places (entries index) (entries index) (λ k e at. (k, at))) is

filter_keeps : (p : Name × Register → Bool) (es : Registers) (k : ℕ) (e : Name × Register) → slice_get es k ≡ Some e
    → p e ≡ true → HasPlace (filter p es) e
unfolding HasPlace
filter_keeps p [] k e at passes = let bad : ⊥ = cc in absurd bad
filter_keeps p (x ∷ es) zero e at passes =
    let same : x ≡ e = cc in
    let here : p x ≡ true = subst (λ y. p y ≡ true) (sym same) passes in
    (zero, rw here (ap (λ y. Some y) same))
filter_keeps p (x ∷ es) (suc k) e at passes = later (p x) (filter_keeps p es k e at passes)
  where
    later : (b : Bool) → (m : ℕ) × (slice_get (filter p es) m ≡ Some e)
        → (m : ℕ) × (slice_get (cond b (x ∷ filter p es) (filter p es)) m ≡ Some e)
    later true (m, there) = (suc m, there)
    later false (m, there) = (m, there)

any_false : (p : Name × Register → Bool) (es : Registers) (b : Bool) → list_any p es ≡ b
    → (list_any p es ≡ true → ⊥) → list_any p es ≡ false
any_false p es true is bad = absurd (bad is)
any_false p es false is bad = is

contains_place : (es : Registers) (e : Name × Register) → Contains es e → HasPlace es e
unfolding HasPlace
contains_place es e (k, within, here) = (k, slice_get_read es (length es) k e refl within (sym here))

place_contains : (es : Registers) (e : Name × Register) (k : ℕ) → slice_get es k ≡ Some e → Contains es e
place_contains es e k at = (k, slice_get_within es k e at, get_or_from_slice_get es k e e at)

-- a register that is there and passes the test is kept
pub kept_is : (index : RegisterMap) (name : Name) (r : Register) → get index name ≡ Some r
    → is_kept (entries index) (name, r) ≡ true → IsKept index name r
kept_is index name r found passes =
    let (word, lowest) = kept_parts (entries index) (name, r) passes in
    let (one, other) = and_parts (is_single r.mode) (is_rw r.permission) word in
    record {
      found = found;
      one_word = single r.mode one;
      both_ways = both_ways r.permission other;
      lowest = λ longer below is.
          let (i, stands) = place_of index longer below is in
          none_has (λ x. is_dotted_prefix name x.0) (entries index) i (longer, below) lowest stands;
    }

-- what stands among the kept registers
pub is_kept_at : (index : RegisterMap) (k : ℕ) (name : Name) (r : Register) → slice_get (registers_kept index) k ≡ Some (name, r)
    → IsKept index name r
is_kept_at index k name r at =
    let (passes, (m, place)) = filter_has (is_kept (entries index)) (entries index) k (name, r) at in
    kept_is index name r (get-at index m name r place) passes

pub is_kept_so : (index : RegisterMap) (name : Name) (r : Register) → Contains (registers_kept index) (name, r)
    → IsKept index name r
unfolding HasPlace
is_kept_so index name r there =
    let (k, at) = contains_place (registers_kept index) (name, r) there in
    is_kept_at index k name r at

pub kept_so : (index : RegisterMap) (name : Name) (r : Register) → IsKept index name r → is_kept (entries index) (name, r)
    ≡ true
kept_so index name r is =
    let es = entries index in
    let word : is_rw_word r ≡ true = rw (is.one_word, is.both_ways) refl in
    let none : has_below es name ≡ false =
    any_false (λ x. is_dotted_prefix name x.0) es (has_below es name) refl (λ some.
    let (k, e, at, begins) = any_has (λ x. is_dotted_prefix name x.0) es some in
    false≢true (sym (is.lowest e.0 e.1 (get-at index k e.0 e.1 at)) ∙ begins)) in
    and_from (is_rw_word r) (not (has_below es name)) word (ap not none)

-- where a kept register stands among those that are
pub kept_place : (index : RegisterMap) (name : Name) (r : Register) → IsKept index name r
    → (m : ℕ) × (slice_get (registers_kept index) m ≡ Some (name, r))
unfolding HasPlace
kept_place index name r is =
    let (k, at) = place_of index name r is.found in
    filter_keeps (is_kept (entries index)) (entries index) k (name, r) at (kept_so index name r is)

pub so_is_kept : (index : RegisterMap) (name : Name) (r : Register) → IsKept index name r → Contains (registers_kept index) (name, r)
so_is_kept index name r is =
    let (m, there) = kept_place index name r is in place_contains (registers_kept index) (name, r) m there
