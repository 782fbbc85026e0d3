-- Why the configuration of the boards of a session is not saved or applied, rule by rule. Profile.
use Rattle.std.specs.Prelude.{◌≡◌, ℕ, ◌<◌, nat_le, Bool, true, false, not, List, [], ◌∷◌, ◌++◌, length, map, Option, Some}
use Rattle.std.specs.Prelude.{None, is_none, option_map, if◌then◌else◌}
use Rattle.std.specs.Option.{option_and_then, option_map_or}
use Rattle.std.specs.List.{filter, flat_map, slice_get}
use Rattle.std.specs.FinMap.{get, entries}
use Rattle.std.specs.Str.{bytes_eq}
use Rattle.node_tree.specs.Maps.{Name, RegisterMap}
use Rattle.node_tree.specs.declared.register.Register.{Register}
use Rattle.script_lang.specs.Operations.{fits_mask}
use Rattle.config_store.specs.declared.state.StateEntry.{StateEntry}
use Rattle.config_store.specs.declared.refusal.StoreWhy.{StoreWhy}
use Rattle.config_store.specs.declared.refusal.StoreWhy.TheVariants.{Shape, Overlap, TooMany, UnknownBoard, UnknownName}
use Rattle.config_store.specs.declared.refusal.StoreWhy.TheVariants.{NotKept, BitsOutside}
use Rattle.config_store.specs.declared.refusal.StoreRefusal.{StoreRefusal}
use Rattle.config_store.specs.declared.refusal.StoreRefusal.TheVariants.{At, NoMemory}
use Rattle.config_store.specs.Kept.{IndexedBoard, is_kept, registers_kept, kept_of}
use Rattle.config_store.specs.Limits.{most_kept}
use Rattle.config_store.specs.Overlaps.{overlapping_names}
use Rattle.config_store.specs.States.{StoreFault}

-- a refusal tells the first of these faults, want of memory aside
abbrev pub TellsFirst : List StoreFault → StoreRefusal → Type 0
TellsFirst faults (At board name why) = slice_get faults 0 ≡ Some (board, name, why)
TellsFirst faults NoMemory = Unit {0}

-- a refusal tells this board, register and rule, want of memory aside
abbrev pub IsAt : Name → Name → StoreWhy → StoreRefusal → Type 0
IsAt board name why (At b n w) = (b ≡ board) × (n ≡ name) × (w ≡ why)
IsAt board name why NoMemory = Unit {0}

-- ---- of what is kept

-- the kept registers of a board that overlap an earlier one
abbrev pub overlap_faults : IndexedBoard → List StoreFault
overlap_faults board = map (λ name. (board.0.name, name, Overlap)) (overlapping_names [] (registers_kept board.1))

abbrev pub count_faults : ℕ → List StoreFault
count_faults count = if nat_le count most_kept then [] else ([], [], TooMany) ∷ []

-- the overlaps, board by board, and then that there are too many
abbrev pub keeping_faults : List IndexedBoard → List StoreFault
keeping_faults boards = flat_map overlap_faults boards ++ count_faults (length (kept_of boards))

-- ---- of the values that are to be written

-- the registers of the first board of a name
abbrev pub index_of : Name → List IndexedBoard → Option RegisterMap
index_of name [] = None
index_of name (board ∷ boards) = if bytes_eq board.0.name name then Some board.1 else index_of name boards

-- the register that a value is for, with those of its board's table
abbrev pub register_of : List IndexedBoard → StateEntry → Option (RegisterMap × Register)
register_of boards entry = option_and_then (λ index. option_map (λ r. (index, r)) (get index entry.name))
    (index_of entry.board boards)

abbrev pub is_absent_in : StateEntry → RegisterMap → Bool
is_absent_in entry index = is_none (get index entry.name)

abbrev pub is_not_kept : StateEntry → RegisterMap × Register → Bool
is_not_kept entry found = not (is_kept (entries found.0) (entry.name, found.1))

abbrev pub has_bits_outside : StateEntry → RegisterMap × Register → Bool
has_bits_outside entry found = not (fits_mask found.1.mask entry.value)

-- A value breaks a rule: no board has the name; the board's table has no such register; the register is not kept; the
-- value has a bit outside its mask. The other rules are on no value.
abbrev pub breaks : List IndexedBoard → StoreWhy → StateEntry → Bool
breaks boards UnknownBoard entry = is_none (index_of entry.board boards)
breaks boards UnknownName entry = option_map_or (is_absent_in entry) (index_of entry.board boards) false
breaks boards NotKept entry = option_map_or (is_not_kept entry) (register_of boards entry) false
breaks boards BitsOutside entry = option_map_or (has_bits_outside entry) (register_of boards entry) false
breaks boards Shape entry = false
breaks boards Overlap entry = false
breaks boards TooMany entry = false

abbrev pub fault_by : StoreWhy → StateEntry → StoreFault
fault_by why entry = (entry.board, entry.name, why)

-- the values that break a rule, in their order
abbrev pub faults_by : List IndexedBoard → List StateEntry → StoreWhy → List StoreFault
faults_by boards entries why = map (fault_by why) (filter (breaks boards why) entries)

-- the rules on values, in the order in which they are judged
abbrev pub value_rules : List StoreWhy
value_rules = UnknownBoard ∷ UnknownName ∷ NotKept ∷ BitsOutside ∷ []

-- Each rule is judged over all values before the next: so what is told first is the lowest rule that any value breaks,
-- at the first value that breaks it.
abbrev pub entry_faults : List IndexedBoard → List StateEntry → List StoreFault
entry_faults boards entries = flat_map (faults_by boards entries) value_rules

-- The fault of some values by rules in their order: a value breaks this rule, no value before it does, and none at all
-- breaks a rule before this one.
pub record IsLowest (rules : List StoreWhy) (boards : List IndexedBoard) (entries : List StateEntry) (fault : StoreFault)
    : Type 0 where
  pub rule : ℕ
  pub why : slice_get rules rule ≡ Some fault.2
  pub place : ℕ
  pub entry : StateEntry
  pub there : slice_get entries place ≡ Some entry
  pub named : fault ≡ fault_by fault.2 entry
  pub broken : breaks boards fault.2 entry ≡ true
  pub first : (i : ℕ) (earlier : StateEntry) → i < place → slice_get entries i ≡ Some earlier
      → breaks boards fault.2 earlier ≡ false
  pub lowest : (i j : ℕ) (why : StoreWhy) (other : StateEntry) → i < rule → slice_get rules i ≡ Some why
      → slice_get entries j ≡ Some other → breaks boards why other ≡ false

-- what is kept is judged before what is to be written
abbrev pub applying_faults : List IndexedBoard → List StateEntry → List StoreFault
applying_faults boards entries = keeping_faults boards ++ entry_faults boards entries
