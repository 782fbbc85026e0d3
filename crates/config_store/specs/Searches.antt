-- What the searches among the registers of a table keep. No public clause speaks of it. Profile.
use Rattle.std.specs.Prelude.{◌≡◌, ℕ, ◌<◌, ◌≤◌, Bool, true, false, not, ◌&&◌, ◌==◌, List, bit_and, bit_or, Some}
use Rattle.std.specs.Prelude.{if◌then◌else◌}
use Rattle.std.specs.Prelude.{unwrap_or}
use Rattle.std.specs.List.{list_any, slice_get}
use Rattle.std.specs.Ordering.{nat_cmp, is_lt}
use Rattle.std.specs.Cmp.Lexicographic.{slice_cmp}
use Rattle.std.specs.BTreeMap.{BTreeMap, get}
use Rattle.node_tree.specs.Maps.{Name}
use Rattle.node_tree.specs.Overlaps.{is_dotted_prefix}
use Rattle.node_tree.specs.declared.register.Register.{Register}
use Rattle.config_store.specs.Kept.{is_rw_word}

-- a name is before another in byte order
abbrev pub is_before : Name → Name → Bool
is_before name other = is_lt (slice_cmp nat_cmp name other)

-- while the place is looked for: those before the first place are before the name, and those from the second on are not
pub record IsSplitAt (es : List (Name × Register)) (name : Name) (low high : ℕ) : Type 0 where
  pub before : (k : ℕ) (e : Name × Register) → k < low → slice_get es k ≡ Some e → is_before e.0 name ≡ true
  pub after : (k : ℕ) (e : Name × Register) → high ≤ k → slice_get es k ≡ Some e → is_before e.0 name ≡ false

-- the names at the places before this one are before a name, and the others are not
abbrev pub IsFirstFrom : List (Name × Register) → Name → ℕ → Type 0
IsFirstFrom es name place = IsSplitAt es name place place

-- each is one word, and no name is another's up to a dot
pub record AreWords (es : List (Name × Register)) : Type 0 where
  pub each : (i : ℕ) (e : Name × Register) → slice_get es i ≡ Some e → is_rw_word e.1 ≡ true
  pub apart : (i j : ℕ) (a b : Name × Register) → slice_get es i ≡ Some a → slice_get es j ≡ Some b
      → is_dotted_prefix a.0 b.0 ≡ false

-- the register has this address and shares a bit with the mask
abbrev pub takes_bit : ℕ → ℕ → Name × Register → Bool
takes_bit address mask e = (e.1.address == address) && not (bit_and e.1.mask mask == 0)

-- the bits that are taken at an address
abbrev pub taken_at : BTreeMap ℕ ℕ → ℕ → ℕ
taken_at masks address = unwrap_or (get nat_cmp masks address) 0

-- at each address the bits are taken that registers there have
abbrev pub AreTaken : BTreeMap ℕ ℕ → List (Name × Register) → Type 0
AreTaken masks es =
    (address mask : ℕ) → not (bit_and (taken_at masks address) mask == 0) ≡ list_any (takes_bit address mask) es

-- the same after a register took its bits
abbrev pub taken_with : BTreeMap ℕ ℕ → Register → ℕ → ℕ
taken_with masks r address =
    if address == r.address then bit_or (taken_at masks r.address) r.mask else taken_at masks address

abbrev pub Takes : Register → BTreeMap ℕ ℕ → BTreeMap ℕ ℕ → Type 0
Takes r old new = (address : ℕ) → taken_at new address ≡ taken_with old r address
