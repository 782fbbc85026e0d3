-- The entries of a berth tell its greetings.
use Rattle.std.proofs.Common.{◌≡◌, ◌∙◌, ℕ, ◌+◌, List, [], ◌∷◌, ◌++◌, map, refl, sym, ap}
use Rattle.turn_pass.specs.Record.{Recorded}
use Rattle.lane_record.specs.declared.item.Item.{Item}
use Rattle.lane_record.specs.declared.item.What.{What}
use Rattle.lane_record.specs.declared.item.What.TheVariants.{Plan, Seal, Ask, Took}
use Rattle.lane_record.specs.Coding.{Head, as_recorded, head_numbers, kind_of}
use Rattle.board_berth.specs.Records.{GREETED, Stretch, entries_from, greeted_entry}

abbrev pub OneHead : Type 0
OneHead = (head other : Head) → head_numbers head ≡ head_numbers other → head ≡ other

abbrev pub OneItem : Type 0
OneItem = (item other : Item) → as_recorded item ≡ as_recorded other → item ≡ other

-- no entry of a lane has the kind of the entry in front
other_kind : (what : What) → kind_of what ≡ GREETED → ⊥
other_kind (Plan body) is = cc
other_kind Seal is = cc
other_kind (Ask give_ups) is = cc
other_kind (Took outcome give_ups) is = cc

apart : (before : ℕ) (some : List Stretch) (x : Item) (rest : List Recorded)
    → entries_from before some ≡ as_recorded x ∷ rest → ⊥
apart before [] x rest is = cc
apart before (s ∷ some) x rest is =
    let first : as_recorded x ≡ greeted_entry before s = cc in
    other_kind x.what (ap (λ (r : Recorded). r.entry.kind) first)

-- entries of a lane end where the next greeting begins
pub record AreSplit (xs ys : List Item) (before : ℕ) (some other : List Stretch) : Type 0 where
  pub items : xs ≡ ys
  pub later : entries_from before some ≡ entries_from before other

split : OneItem → (before : ℕ) (some other : List Stretch) (xs ys : List Item)
    → map as_recorded xs ++ entries_from before some ≡ map as_recorded ys ++ entries_from before other
    → AreSplit xs ys before some other
split one before some other [] [] is = record { items = refl; later = is }
split one before some other [] (y ∷ ys) is = absurd (apart before some y _ is)
split one before some other (x ∷ xs) [] is = absurd (apart before other x _ (sym is))
split one before some other (x ∷ xs) (y ∷ ys) is =
    let first : as_recorded x ≡ as_recorded y = cc in
    let rest : map as_recorded xs ++ entries_from before some ≡ map as_recorded ys ++ entries_from before other = cc in
    let later = split one before some other xs ys rest in
    let same = one x y first in
    record { items = ap (λ (z : Item). z ∷ xs) same ∙ ap (λ (zs : List Item). y ∷ zs) later.items; later = later.later }

same_stretch : (s t : Stretch) → s.by ≡ t.by → s.head ≡ t.head → s.items ≡ t.items → s ≡ t
same_stretch s t by head items =
    ap (λ (n : ℕ). let r : Stretch = record { by = n; head = s.head; items = s.items } in r) by
    ∙ (ap (λ (h : Head). let r : Stretch = record { by = t.by; head = h; items = s.items } in r) head
    ∙ ap (λ (xs : List Item). let r : Stretch = record { by = t.by; head = t.head; items = xs } in r) items)

pub tells_greetings : OneHead → OneItem → (before : ℕ) (some other : List Stretch)
    → entries_from before some ≡ entries_from before other → some ≡ other
tells_greetings head item before [] [] is = refl
tells_greetings head item before [] (t ∷ other) is = absurd cc
tells_greetings head item before (s ∷ some) [] is = absurd cc
tells_greetings head item before (s ∷ some) (t ∷ other) is =
    let first : greeted_entry before s ≡ greeted_entry before t = cc in
    let rest : map as_recorded s.items ++ entries_from (before + 1) some
    ≡ map as_recorded t.items ++ entries_from (before + 1) other = cc in
    let by : s.by ≡ t.by = ap (λ (r : Recorded). r.entry.maker) first in
    let numbers : head_numbers s.head ≡ head_numbers t.head = ap (λ (r : Recorded). r.content) first in
    let two = split item (before + 1) some other s.items t.items rest in
    ap (λ (one : Stretch). one ∷ some) (same_stretch s t by (head s.head t.head numbers) two.items)
    ∙ ap (λ (later : List Stretch). t ∷ later) (tells_greetings head item (before + 1) some other two.later)
