-- The records of a lane on which the hub came to something for bodies. Profile.
use Rattle.std.specs.Prelude.{◌≡◌, ℕ, ◌+◌, List, [], ◌∷◌, ◌++◌, length, Some}
use Rattle.ipb_base.specs.Numbers.{payload_of}
use Rattle.turn_pass.specs.Record.{Begins, Record}
use Rattle.lane_record.specs.declared.item.Item.{Item}
use Rattle.lane_record.specs.Coding.{Head, record_of}
use Rattle.lane_record.specs.Items.{planned_count}
use Rattle.lane_record.specs.NextEntry.{plan_of}
use Rattle.hub_lane.specs.Plans.{CanPlan, IsRefused}
use Rattle.hub_lane.specs.declared.answers.BoardState.{BoardState}
use Rattle.hub_session.specs.declared.got.Got.{Got}
use Rattle.hub_session.specs.declared.got.Got.TheVariants.{NotAsked, Refused, Came}
use Rattle.hub_session.specs.Exchanges.{Exchange, plan_refusal, request_of, submissions_on}

-- Behind these entries of a lane a body is refused by the first rule that it breaks, and is planned where it breaks
-- none.
abbrev pub IsDecidedBehind : List Item → ℕ → List ℕ → Got → Type 0
IsDecidedBehind items payload body NotAsked = ⊥
IsDecidedBehind items payload body (Refused why) = IsRefused items payload body (plan_refusal why)
IsDecidedBehind items payload body (Came outcome) = CanPlan items payload body

-- what is added behind them then: the Plan of a body that was not refused, which has this number among the client's
abbrev pub plan_behind : ℕ → ℕ → List ℕ → Got → List Item
plan_behind client seq body NotAsked = []
plan_behind client seq body (Refused why) = []
plan_behind client seq body (Came outcome) = plan_of client seq body ∷ []

-- What the hub came to for a body of a client who planned so many before was decided behind entries of its lane which,
-- with the Plan of the body if there is one, begin this record.
pub record WasDecidedIn (later : Record) (client before : ℕ) (body : List ℕ) (got : Got) : Type 0 where
  pub head : Head
  pub items : List Item
  pub own : planned_count client items ≡ before
  pub begins : Begins (record_of head (items ++ plan_behind client before body got)) later
  pub decided : IsDecidedBehind items (payload_of head.mtu) body got

-- so of the body that a frame has for this lane, if it has one
abbrev pub IsFrameDecidedIn : Record → ℕ → ℕ → List BoardState → ℕ → Exchange → Type 0
IsFrameDecidedIn later client before boards lane e = (body : List ℕ)
    → request_of boards e.frame ≡ Some (record { lane = lane; body = body })
    → WasDecidedIn later client before body e.got

-- so of each of these exchanges, one after the other
abbrev pub AreFramesDecidedIn : Record → ℕ → ℕ → List BoardState → ℕ → List Exchange → Type 0
AreFramesDecidedIn later client before boards lane [] = Unit {0}
AreFramesDecidedIn later client before boards lane (e ∷ exchanges) =
    IsFrameDecidedIn later client before boards lane e
    × AreFramesDecidedIn later client (before + length (submissions_on boards lane (e ∷ []))) boards lane exchanges
