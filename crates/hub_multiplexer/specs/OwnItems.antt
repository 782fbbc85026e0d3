-- What a pass knows of its own client's bodies, whatever other clients do meanwhile. Profile.
use Rattle.std.specs.Prelude.{◌≡◌, ◌==◌, ℕ, List, ◌++◌, IfSome}
use Rattle.std.specs.List.{filter, filter_map, slice_get}
use Rattle.turn_pass.specs.Record.{made_by}
use Rattle.turn_pass.specs.Pass.{Knowledge}
use Rattle.lane_record.specs.declared.item.Item.{Item}
use Rattle.lane_record.specs.Coding.{item_from}
use Rattle.lane_record.specs.Items.{asked_count, planned_count}
use Rattle.hub_multiplexer.specs.Seats.{SeatState}
use Rattle.lane_tables.specs.Taken.{HasTakenAll, IsOldest}

-- The entries of the pass's client in the lane's record: those of the opening, and those that the pass added itself.
-- Nobody else adds any, so they are all, also in a record that the pass has not seen.
abbrev pub own_items : Knowledge → List Item
own_items k = filter_map item_from (made_by k.number k.opening.entries ++ k.mine)

-- how many bodies the client planned, and how many it asked
abbrev pub planned_by : Knowledge → ℕ
planned_by k = planned_count k.number (own_items k)

abbrev pub asked_by : Knowledge → ℕ
asked_by k = asked_count k.number (own_items k)

-- the client's oldest asked and untaken body, and whether it has none
abbrev pub IsOldestOf : Knowledge → ℕ → Type 0
IsOldestOf k seq = IsOldest (own_items k) k.number seq

abbrev pub HasTakenAllOf : Knowledge → Type 0
HasTakenAllOf k = HasTakenAll (own_items k) k.number

-- the entries of one client
abbrev pub of_client : ℕ → List Item → List Item
of_client client items = filter (λ x. x.client == client) items

-- of the bodies that stand planned on this board for the client of the seat, none is still to be asked
abbrev pub HasAskedAll : SeatState → ℕ → Type 0
HasAskedAll seat board = IfSome (slice_get seat.knows board) (λ k. asked_by k ≡ planned_by k)
