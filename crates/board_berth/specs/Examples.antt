-- Values for worked examples.
use Rattle.std.specs.Prelude.{ℕ, List, [], ◌∷◌, Option, None}
use Rattle.links.specs.Telling.{Telling}
use Rattle.turn_pass.specs.Record.{Recorded}
use Rattle.world_model.specs.Settings.{Limits}
use Rattle.lane_record.specs.declared.item.Item.{Item}
use Rattle.lane_record.specs.declared.outcome.Outcome.TheVariants.{Replied}
use Rattle.lane_record.specs.NextEntry.{ask_of, plan_of, took_of}
use Rattle.hub_lane.specs.Lanes.{LaneState, new_lane}
use Rattle.board_berth.specs.declared.greeting.Greeting.TheVariants.{Answered, Silent}
use Rattle.board_berth.specs.Berths.{BerthState}

abbrev pub four_rounds : Limits
four_rounds = record { rounds = 4; window = 2 }

-- a lane over the link of number 3, which tells nothing, to a board that expected this identifier first
abbrev pub lane_from : ℕ → List Item → LaneState (Unit {0})
lane_from next items =
    record (new_lane 3 tt four_rounds (record { mtu = 1500; buffers = 4; next = next })) { items = items }

-- Client 1 reads in the first greeting. Then the board was reset: one greeting was in vain, and client 2 began the one in
-- which it has planned its first body.
abbrev pub reset_once : BerthState (Unit {0})
reset_once = record {
  settings = four_rounds;
  number = 3;
  past = Answered 0 (lane_from 9 (plan_of 1 0 (7 ∷ []) ∷ ask_of 1 0 0 ∷ took_of 1 0 (Replied 1 (8 ∷ [])) 0 ∷ []))
      ∷ Silent tt ∷ [];
  present = Answered 2 (lane_from 1 (plan_of 2 0 (7 ∷ []) ∷ []));
}

abbrev pub tells_nothing : Unit {0} → Option Telling
tells_nothing link = None

abbrev pub entry_with : ℕ → ℕ → ℕ → List ℕ → Recorded
entry_with maker kind seq content =
    record { entry = record { maker = maker; kind = kind; seq = seq }; content = content }
