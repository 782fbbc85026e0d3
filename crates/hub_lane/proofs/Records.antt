-- The record of a lane tells the lane.
use Rattle.std.proofs.Common.{◌≡◌, ℕ, List, [], ◌∷◌, map, Option, refl, ap, ◌∙◌}
use Rattle.turn_pass.specs.Record.{Record}
use Rattle.world_model.specs.Settings.{Limits}
use Rattle.links.specs.Telling.{Telling}
use Rattle.lane_record.specs.declared.item.Item.{Item}
use Rattle.lane_record.specs.Coding.{Head, head_numbers, as_recorded}
use Rattle.hub_lane.specs.Lanes.{BoardStatus, opening_of}
use Rattle.hub_lane.specs.Records.{head_of, record_shown}

abbrev pub HeadLaw : Type 0
HeadLaw = (head other : Head) → head_numbers head ≡ head_numbers other → head ≡ other

abbrev pub EntryLaw : Type 0
EntryLaw = (item other : Item) → as_recorded item ≡ as_recorded other → item ≡ other

same_items : EntryLaw → (xs ys : List Item) → map as_recorded xs ≡ map as_recorded ys → xs ≡ ys
same_items law [] [] e = refl
same_items law [] (y ∷ ys) e = absurd cc
same_items law (x ∷ xs) [] e = absurd cc
same_items law (x ∷ xs) (y ∷ ys) e =
    let first : as_recorded x ≡ as_recorded y = cc in
    let later : map as_recorded xs ≡ map as_recorded ys = cc in
    ap (λ (z : Item). z ∷ xs) (law x y first) ∙ ap (λ (zs : List Item). y ∷ zs) (same_items law xs ys later)

abbrev limits_in : Head → Limits
limits_in head = record { rounds = head.rounds; window = head.window }

abbrev status_in : Head → BoardStatus
status_in head = record { mtu = head.mtu; buffers = head.buffers; next = head.first }

pub told_by_record : HeadLaw → EntryLaw → (number other_number : ℕ) (settings other_settings : Limits)
    (status other_status : BoardStatus) (telling other_telling : Option Telling) (items other_items : List Item)
    → record_shown number settings status telling items
    ≡ record_shown other_number other_settings other_status other_telling other_items
    → (settings ≡ other_settings) × (status ≡ other_status) × (opening_of telling ≡ opening_of other_telling)
    × (items ≡ other_items) × (number ≡ other_number)
told_by_record heads entries number other_number settings other_settings status other_status telling other_telling items
    other_items e =
    let head = heads (head_of number settings status telling) (head_of other_number other_settings other_status other_telling)
    (ap (λ (r : Record). r.head) e) in (
      ap limits_in head,
      ap status_in head,
      ap (λ (h : Head). h.opening) head,
      same_items entries items other_items (ap (λ (r : Record). r.entries) e),
      ap (λ (h : Head). h.link) head,
    )
