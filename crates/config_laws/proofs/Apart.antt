-- Kept registers of a board that do not overlap share no bit of a word.
use Rattle.std.proofs.Common.{◌≡◌, ◌≢◌, ◌↔◌, ℕ, zero, suc, ◌<◌, Bool, true, false, if◌then◌else◌, List, [], ◌∷◌}
use Rattle.std.proofs.Common.{◌++◌, length, Some, bit_and, inl, inr, refl, sym, ap, ◌∙◌, subst, arith}
use Rattle.std.specs.List.{flat_map, list_any, slice_get}
use Rattle.std.proofs.lemmas.Bool.{cases_lt}
use Rattle.std.proofs.lemmas.Bool.Decides.{eqb_tells}
use Rattle.std.proofs.lemmas.Nat.{and_comm}
use Rattle.std.proofs.lemmas.Option.{same_Some}
use Rattle.world_model.proofs.Lists.{get_front, get_seam}
use Rattle.node_tree.specs.Maps.{Name, RegisterMap}
use Rattle.node_tree.specs.Overlaps.{overlap}
use Rattle.node_tree.specs.declared.register.Register.{Register}
use Rattle.script_lang.proofs.Kept.{mapped_none}
use Rattle.config_store.specs.Kept.{IndexedBoard, IsKept, registers_kept, kept_of}
use Rattle.config_store.specs.Overlaps.{overlapping_name, overlapping_names}
use Rattle.config_store.specs.Refusals.{count_faults, keeping_faults, overlap_faults}
use Rattle.config_store.proofs.KeptLines.{no_more}
use Rattle.config_store.proofs.KeptMeaning.{kept_place}
use Rattle.config_store.proofs.Places.{none_has}

abbrev Entries : Type 0
Entries = List (Name × Register)

-- ---- pairs

not_any : (found : Bool) (name : Name) → (if found then name ∷ [] else []) ≡ [] → found ≡ false
not_any true name none = absurd cc
not_any false name none = refl

later_apart : (before es : Entries) → overlapping_names before es ≡ [] → (i j : ℕ) (x y : Name × Register)
    → slice_get before i ≡ Some x → slice_get es j ≡ Some y → overlap x y ≡ false
later_apart before [] none i j x y at there = absurd cc
later_apart before (e ∷ es) none i zero x y at there =
    let both = no_more (overlapping_name before e) (overlapping_names (before ++ e ∷ []) es) none in
    let fine = not_any (list_any (λ a. overlap a e) before) e.0 both.0 in
    subst (λ z. overlap x z ≡ false) (same_Some e y there) (none_has (λ a. overlap a e) before i x fine at)
later_apart before (e ∷ es) none i (suc j) x y at there =
    let both = no_more (overlapping_name before e) (overlapping_names (before ++ e ∷ []) es) none in
    later_apart (before ++ e ∷ []) es both.1 i j x y (get_front before (e ∷ []) i x at) there

pair_apart : (before es : Entries) → overlapping_names before es ≡ [] → (i j : ℕ) (x y : Name × Register) → i < j
    → slice_get es i ≡ Some x → slice_get es j ≡ Some y → overlap x y ≡ false
pair_apart before [] none i j x y less at there = absurd cc
pair_apart before (e ∷ es) none zero zero x y less at there = absurd (omega (arith, less))
pair_apart before (e ∷ es) none zero (suc j) x y less at there =
    let both = no_more (overlapping_name before e) (overlapping_names (before ++ e ∷ []) es) none in
    later_apart (before ++ e ∷ []) es both.1 (length before) j x y (get_seam before [] e ∙ at) there
pair_apart before (e ∷ es) none (suc i) zero x y less at there = absurd (omega (arith, less))
pair_apart before (e ∷ es) none (suc i) (suc j) x y less at there =
    let both = no_more (overlapping_name before e) (overlapping_names (before ++ e ∷ []) es) none in
    pair_apart (before ++ e ∷ []) es both.1 i j x y (omega (arith, less)) at there

-- ---- boards

flat_none : {X Y : Type 0} (f : X → List Y) (xs : List X) (k : ℕ) (x : X) → flat_map f xs ≡ [] → slice_get xs k ≡ Some x
    → f x ≡ []
flat_none f [] k x none at = absurd cc
flat_none f (y ∷ xs) zero x none at =
    subst (λ z. f z ≡ []) (same_Some y x at) (no_more (f y) (flat_map f xs) none).0
flat_none f (y ∷ xs) (suc k) x none at = flat_none f xs k x (no_more (f y) (flat_map f xs) none).1 at

-- no kept register of a board overlaps another
pub none_overlaps : (boards : List IndexedBoard) (k : ℕ) (b : IndexedBoard) → keeping_faults boards ≡ []
    → slice_get boards k ≡ Some b → overlapping_names [] (registers_kept b.1) ≡ []
none_overlaps boards k b none at =
    let both = no_more (flat_map overlap_faults boards) (count_faults (length (kept_of boards))) none in
    mapped_none _ (overlapping_names [] (registers_kept b.1)) (flat_none overlap_faults boards k b both.0 at)

abbrev pub OverlapInABit : Type 0
OverlapInABit = (index : RegisterMap) (name other : Name) (r s : Register) → IsKept index name r → IsKept index other s
    → (overlap (name, r) (other, s) ≡ true) ↔ ((r.address ≡ s.address) × (bit_and r.mask s.mask ≢ 0))

no_bits : OverlapInABit → (index : RegisterMap) (name other : Name) (r s : Register) → IsKept index name r
    → IsKept index other s → overlap (name, r) (other, s) ≡ false → r.address ≡ s.address → bit_and r.mask s.mask ≡ 0
no_bits law index name other r s is also apart same = elim (eqb_tells (bit_and r.mask s.mask) 0) [
  | inl none ↦ none.1
  | inr some ↦
      let both : true ≡ false = sym ((law index name other r s is also).1 (same, some.1)) ∙ apart in absurd cc
]

-- the masks of kept registers of two names at one address share no bit
pub masks_apart : OverlapInABit → (index : RegisterMap) (name other : Name) (r s : Register)
    → overlapping_names [] (registers_kept index) ≡ [] → IsKept index name r → IsKept index other s → name ≢ other
    → r.address ≡ s.address → bit_and r.mask s.mask ≡ 0
masks_apart law index name other r s none is also differ same =
    let at = kept_place index name r is in
    let there = kept_place index other s also in
    elim (cases_lt at.0 there.0) [
      | inl less ↦
          no_bits law index name other r s is also
          (pair_apart [] (registers_kept index) none at.0 there.0 (name, r) (other, s) less at.1 there.1) same
      | inr more ↦ elim (cases_lt there.0 at.0) [
        | inl less ↦
            and_comm r.mask s.mask
            ∙ no_bits law index other name s r also is
            (pair_apart [] (registers_kept index) none there.0 at.0 (other, s) (name, r) less there.1 at.1) (sym same)
        | inr few ↦
            let place : at.0 ≡ there.0 = omega (arith, more, few) in
            let one : (name, r) ≡ (other, s) =
            same_Some (name, r) (other, s) (sym at.1 ∙ (ap (slice_get (registers_kept index)) place ∙ there.1)) in
            absurd (differ (ap (λ (e : Name × Register). e.0) one))
      ]
    ]
