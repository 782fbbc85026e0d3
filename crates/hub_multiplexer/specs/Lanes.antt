-- What the calls of a lane do to its record, and what that means to a pass of the client. Profile.
use Rattle.std.specs.Prelude.{◌≡◌, ℕ, ◌<◌, List, [], ◌∷◌, ◌++◌, Option}
use Rattle.turn_pass.specs.Record.{Record}
use Rattle.turn_pass.specs.Pass.{Knowledge}
use Rattle.lane_record.specs.declared.item.Item.{Item}
use Rattle.lane_record.specs.Items.{asked_count, planned_count}
use Rattle.lane_record.specs.NextEntry.{ask_of, took_of}
use Rattle.lane_record.specs.Outcomes.{IsShort}
use Rattle.hub_lane.specs.Calls.{AsksAs}
use Rattle.hub_lane.specs.Lanes.{LaneState}
use Rattle.hub_lane.specs.Records.{record_shown}
use Rattle.lane_tables.specs.Taken.{HasTakenAll, IsOldest}
use Rattle.links.specs.Telling.{Telling}
use Rattle.hub_multiplexer.specs.Manner.{FoundLane}
use Rattle.hub_multiplexer.specs.AnyCalls.{GrewAs, MeansAs}
use Rattle.hub_multiplexer.specs.Calls.{lane_manner}
use Rattle.hub_lane.specs.declared.answers.Asked.{Asked}
use Rattle.hub_lane.specs.declared.answers.Asked.TheVariants as asks
use Rattle.hub_lane.specs.declared.step.Stepped.{Stepped}
use Rattle.hub_lane.specs.declared.step.Stepped.TheVariants as steps

-- the record of a lane, whose link tells this
abbrev pub shown_record : {L : Type 0} → (L → Option Telling) → LaneState L → Record
shown_record telling lane = record_shown lane.number lane.settings lane.status (telling lane.link) lane.items

-- an Ask of the client's next planned body is added, or all were asked
abbrev pub AsksOn : List Item → ℕ → Asked → List Item → Type 0
AsksOn items client (asks.Asked seq) after = (seq ≡ asked_count client items) × (seq < planned_count client items)
    × (give_ups : ℕ) × (after ≡ items ++ ask_of client seq give_ups ∷ [])
AsksOn items client asks.Nothing after = (asked_count client items ≡ planned_count client items) × (after ≡ items)

-- a Took of the client's oldest asked and untaken body is added, or nothing became of it yet, or there is none
abbrev pub StepsOn : List Item → ℕ → Stepped → List Item → Type 0
StepsOn items client (steps.Ready outcome) after = (seq : ℕ) × IsOldest items client seq × IsShort outcome
    × (give_ups : ℕ) × (after ≡ items ++ took_of client seq outcome give_ups ∷ [])
StepsOn items client (steps.NotYet turned) after = ((seq : ℕ) × IsOldest items client seq) × (after ≡ items)
StepsOn items client steps.Nothing after = HasTakenAll items client × (after ≡ items)

-- the client's next planned body was asked
pub record IsAskedNext {L : Type 0} (old : LaneState L) (client : ℕ) (new : LaneState L) : Type 0 where
  pub seq : ℕ
  pub as_next : AsksAs old client new (asks.Asked seq)

-- a legal record of a lane grew by these entries of a client
abbrev pub Grew : ℕ → Record → List Item → Record → Type 0
Grew = GrewAs lane_manner

-- The record grew by entries that have a meaning for every pass of the client that finds it.
abbrev pub Means : ℕ → Record → (Knowledge → FoundLane → List Item → Type 0) → Record → Type 0
Means = MeansAs lane_manner
