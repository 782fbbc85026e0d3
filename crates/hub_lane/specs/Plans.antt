-- What may be planned on a lane. Profile.
use Rattle.std.specs.Prelude.{◌≡◌, ℕ, ◌+◌, ◌<◌, ◌≤◌, true, false, List, length}
use Rattle.ipb_base.specs.Numbers.{payload_of}
use Rattle.transaction_codec.specs.Answer.{reply_room}
use Rattle.lane_record.specs.declared.item.Item.{Item}
use Rattle.lane_record.specs.NextEntry.{plan_of}
use Rattle.lane_record.specs.Items.{is_sealed, planned_count}
use Rattle.lane_tables.specs.Planned.{IsFull}
use Rattle.hub_lane.specs.Lanes.{FitsBoard, LaneState, with_item}
use Rattle.hub_lane.specs.declared.answers.PlanRefusal.{PlanRefusal}
use Rattle.hub_lane.specs.declared.answers.PlanRefusal.TheVariants.{Sealed, TooLong, ReplyTooLong, Overfull, NoMemory}

-- a body that may be planned
pub record CanPlan (items : List Item) (payload : ℕ) (body : List ℕ) : Type 0 where
  pub unsealed : is_sealed items ≡ false
  pub fits : FitsBoard payload body
  pub few : ¬ IsFull items (length body) (reply_room body)

-- the first rule that a body breaks; want of memory may come at any time
abbrev pub IsRefused : List Item → ℕ → List ℕ → PlanRefusal → Type 0
IsRefused items payload body Sealed = is_sealed items ≡ true
IsRefused items payload body TooLong = (is_sealed items ≡ false) × (payload < length body + 1)
IsRefused items payload body ReplyTooLong =
    (is_sealed items ≡ false) × (length body + 1 ≤ payload) × (payload < reply_room body + 1)
IsRefused items payload body Overfull = (is_sealed items ≡ false) × FitsBoard payload body × IsFull items (length
    body) (reply_room body)
IsRefused items payload body NoMemory = Unit {0}

-- the body has the next number of its client, and its Plan is the next entry
pub record Plans {L : Type 0} (old : LaneState L) (client : ℕ) (body : List ℕ) (new : LaneState L) (seq : ℕ)
    : Type 0 where
  pub number : seq ≡ planned_count client old.items
  pub can : CanPlan old.items (payload_of old.status.mtu) body
  pub entry : new ≡ with_item old (plan_of client seq body)
