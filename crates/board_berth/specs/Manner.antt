-- What a pass finds in the turn of a board that is served in greetings, and the manner in which a berth tells of itself.
-- Profile.
use Rattle.std.specs.Prelude.{◌≡◌, ◌⊎◌, ℕ, List, [], ◌∷◌, ◌++◌, map, length, Option}
use Rattle.std.specs.List.{AllByRecursion}
use Rattle.ipb_base.specs.Numbers.{payload_of}
use Rattle.turn_pass.specs.Record.{Recorded}
use Rattle.turn_pass.specs.Pass.{Knowledge}
use Rattle.lane_record.specs.declared.outcome.Outcome.{Outcome}
use Rattle.lane_record.specs.declared.item.Item.{Item}
use Rattle.lane_record.specs.Coding.{Head, as_recorded}
use Rattle.lane_record.specs.Items.{planned_count}
use Rattle.lane_record.specs.Legal.{IsLegal}
use Rattle.lane_record.specs.NextEntry.{plan_of}
use Rattle.lane_tables.specs.Taken.{IsAllTaken}
use Rattle.hub_lane.specs.Plans.{IsRefused}
use Rattle.hub_lane.specs.declared.answers.PlanRefusal.{PlanRefusal}
use Rattle.hub_lane.specs.declared.answers.PlanRefusal.TheVariants as refusals
use Rattle.hub_multiplexer.specs.OwnItems.{of_client}
use Rattle.hub_multiplexer.specs.Manner.{FoundLane, Manner}
use Rattle.board_berth.specs.declared.answers.BerthRefusal.{BerthRefusal}
use Rattle.board_berth.specs.declared.answers.BerthRefusal.TheVariants as refuses
use Rattle.board_berth.specs.Records.{Stretch, entries_from, greeted_entry}

-- ---- what is found

-- A past greeting, as it stands in front of what is found: over a link of the same board with the same settings, its
-- record is legal, each body that was planned in it was asked, and what became of it was taken.
pub record IsOverBefore (head : Head) (s : Stretch) : Type 0 where
  pub rounds : s.head.rounds ≡ head.rounds
  pub window : s.head.window ≡ head.window
  pub link : s.head.link ≡ head.link
  pub outcomes : List (Option Outcome)
  pub legal : IsLegal s.items outcomes
  pub over : IsAllTaken s.items

-- The board answered the present greeting: the entry of that stands behind those of the past ones.
pub record IsAnsweredAt (past : List Stretch) (lane : FoundLane) : Type 0 where
  pub by : ℕ
  pub front : lane.front ≡ entries_from 0 past
      ++ greeted_entry (length past) (record { by = by; head = lane.head; items = [] }) ∷ []

-- The board did not answer the present greeting: no entry is of it.
pub record IsUnansweredAt (past : List Stretch) (lane : FoundLane) : Type 0 where
  pub front : lane.front ≡ entries_from 0 past
  pub none : lane.items ≡ []

-- What holds of all that a pass finds: the entries of the past greetings, of which nothing is open, and the legal record
-- of the present one behind them.
pub record IsFoundBerth (lane : FoundLane) : Type 0 where
  pub past : List Stretch
  pub over : AllByRecursion (IsOverBefore lane.head) past
  pub present : IsAnsweredAt past lane ⊎ IsUnansweredAt past lane
  pub legal : IsLegal lane.items lane.outcomes

-- ---- why a body was not submitted

-- The lane of the present greeting refused it by the first rule that the body breaks there. After want of memory the body
-- may stand planned and not asked.
abbrev pub RefusedByLane : Knowledge → List ℕ → PlanRefusal → FoundLane → List Item → Type 0
RefusedByLane k body refusals.NoMemory lane added = (added ≡ [])
    ⊎ (added ≡ plan_of k.number (planned_count k.number (of_client k.number lane.items)) body ∷ [])
RefusedByLane k body why lane added = (added ≡ []) × IsRefused lane.items (payload_of lane.head.mtu) body why

abbrev pub BerthRefused : Knowledge → List ℕ → BerthRefusal → FoundLane → List Item → Type 0
BerthRefused k body refuses.Silent lane added = (added ≡ []) × (past : List Stretch) × IsUnansweredAt past lane
BerthRefused k body refuses.Down lane added = (added ≡ []) × (past : List Stretch) × IsUnansweredAt past lane
BerthRefused k body refuses.Later lane added = (added ≡ []) × ¬ IsAllTaken lane.items
BerthRefused k body (refuses.ByLane why) lane added = RefusedByLane k body why lane added

-- ---- another greeting

-- A greeting began: nothing of the one before was open, its entries are past, and the new one has none yet, but the one
-- in front where the board answered.
pub record IsBegun (lane : FoundLane) (added : List Recorded) (next : FoundLane) : Type 0 where
  pub over : IsAllTaken lane.items
  pub past : next.front ≡ (lane.front ++ map as_recorded lane.items) ++ added
  pub told : (added ≡ []) ⊎ ((before by : ℕ)
      × (added ≡ greeted_entry before (record { by = by; head = next.head; items = [] }) ∷ []))
  pub none : next.items ≡ []
  pub no_outcomes : next.outcomes ≡ []

-- ---- the manner

-- A berth's record is the settings and the number of its links, the entries of the past greetings, and those of the
-- present one. A call goes by the entries that the client has in the present greeting alone: its bodies count from 0 in
-- each.
abbrev pub berth_manner : Manner BerthRefusal
berth_manner = record {
  shows = λ lane. record {
    head = lane.head.rounds ∷ lane.head.window ∷ lane.head.link ∷ [];
    entries = lane.front ++ map as_recorded lane.items;
  };
  legal = IsFoundBerth;
  own = λ k lane. of_client k.number lane.items;
  refuses = BerthRefused;
  begins = λ lane added next. ((added ≡ []) × (next ≡ lane)) ⊎ IsBegun lane added next;
}
