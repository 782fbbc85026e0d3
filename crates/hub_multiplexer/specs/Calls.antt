-- What the calls of a hub do to what a pass knows, where a lane stands in the board's turn. Profile.
use Rattle.std.specs.Prelude.{◌≡◌, ◌⊎◌, ℕ, List, [], ◌∷◌}
use Rattle.turn_pass.specs.Pass.{Knowledge}
use Rattle.lane_record.specs.declared.outcome.Outcome.{Outcome}
use Rattle.lane_record.specs.declared.item.Item.{Item}
use Rattle.lane_record.specs.Coding.{record_of}
use Rattle.lane_record.specs.Legal.{IsLegal}
use Rattle.lane_record.specs.NextEntry.{plan_of}
use Rattle.ipb_base.specs.Numbers.{payload_of}
use Rattle.hub_lane.specs.Plans.{IsRefused}
use Rattle.hub_lane.specs.declared.answers.PlanRefusal.{PlanRefusal}
use Rattle.hub_lane.specs.declared.answers.PlanRefusal.TheVariants as refusals
use Rattle.hub_lane.specs.declared.answers.Asked.{Asked}
use Rattle.hub_lane.specs.declared.step.Stepped.{Stepped}
use Rattle.hub_multiplexer.specs.OwnItems.{own_items, planned_by}
use Rattle.hub_multiplexer.specs.AnyCalls.{AddsAs, AskMeansAs, AskTriedAs, HasAskedOf, HasNothingYetOf, HasSubmittedAs}
use Rattle.hub_multiplexer.specs.AnyCalls.{HasTakenOf, MadeAs, MadeInTimeAs, PerformMeansAs, StepMeansAs, StepTriedAs}
use Rattle.hub_multiplexer.specs.Manner.{Manner}
pub use Rattle.hub_multiplexer.specs.Manner.{FoundLane}
pub use Rattle.hub_multiplexer.specs.AnyCalls.{IsNone}
use Rattle.hub_multiplexer.specs.declared.answers.AskTry.{AskTry}
use Rattle.hub_multiplexer.specs.declared.answers.StepTry.{StepTry}
use Rattle.hub_multiplexer.specs.declared.answers.Performed.{Performed}

-- What a refusal means: the first rule that the body breaks on the record that the pass found, and nothing was added.
-- After want of memory the body may stand planned and not asked.
abbrev pub SubmitRefused : Knowledge → List ℕ → PlanRefusal → FoundLane → List Item → Type 0
SubmitRefused k body refusals.Sealed lane added =
    (added ≡ []) × IsRefused lane.items (payload_of lane.head.mtu) body refusals.Sealed
SubmitRefused k body refusals.TooLong lane added =
    (added ≡ []) × IsRefused lane.items (payload_of lane.head.mtu) body refusals.TooLong
SubmitRefused k body refusals.ReplyTooLong lane added =
    (added ≡ []) × IsRefused lane.items (payload_of lane.head.mtu) body refusals.ReplyTooLong
SubmitRefused k body refusals.Overfull lane added =
    (added ≡ []) × IsRefused lane.items (payload_of lane.head.mtu) body refusals.Overfull
SubmitRefused k body refusals.NoMemory lane added =
    (added ≡ []) ⊎ (added ≡ plan_of k.number (planned_by k) body ∷ [])

-- A lane tells of itself alone: its record is its head and its entries, and the entries of a pass's client are those
-- that the pass knows. It is greeted once.
abbrev pub lane_manner : Manner PlanRefusal
lane_manner = record {
  shows = λ lane. record_of lane.head lane.items;
  legal = λ lane. IsLegal lane.items lane.outcomes;
  own = λ k lane. own_items k;
  refuses = SubmitRefused;
  begins = λ lane added next. (added ≡ []) × (next ≡ lane);
}

-- The pass took the lane, added these entries, and gave it back. The record that it found begins with all that it had
-- seen, it is legal with what was added, and what was added is the pass's own.
abbrev pub Adds : Knowledge → FoundLane → List Item → Knowledge → Type 0
Adds = AddsAs lane_manner

-- By one exchange, which was not in vain, the pass added entries of which this holds.
abbrev pub Made : Knowledge → (FoundLane → List Item → Type 0) → Knowledge → Type 0
Made = MadeAs lane_manner

-- The same of a call that waits: there may have been exchanges in vain before.
abbrev pub MadeInTime : Knowledge → (FoundLane → List Item → Type 0) → Knowledge → Type 0
MadeInTime = MadeInTimeAs lane_manner

-- the client's next planned body was asked
abbrev pub HasAsked : Knowledge → ℕ → List Item → Type 0
HasAsked k seq added = HasAskedOf (own_items k) k.number seq added

-- what an answer means of the entries that were added: all planned bodies were asked before where it is Nothing
abbrev pub AskMeans : Knowledge → Asked → FoundLane → List Item → Type 0
AskMeans = AskMeansAs lane_manner

-- how a try to ask went
abbrev pub AskTried : Knowledge → AskTry → Knowledge → Type 0
AskTried = AskTriedAs lane_manner

-- what became of the client's oldest asked and untaken body was taken; the words of a reply fit a packet
abbrev pub HasTaken : Knowledge → Outcome → List Item → Type 0
HasTaken k outcome added = HasTakenOf (own_items k) k.number outcome added

-- nothing became of it yet
abbrev pub HasNothingYet : Knowledge → List Item → Type 0
HasNothingYet k added = HasNothingYetOf (own_items k) k.number added

-- what a step means of the entries that were added
abbrev pub StepMeans : Knowledge → Stepped → FoundLane → List Item → Type 0
StepMeans = StepMeansAs lane_manner

-- how a try to step went
abbrev pub StepTried : Knowledge → StepTry → Knowledge → Type 0
StepTried = StepTriedAs lane_manner

-- what was performed
abbrev pub PerformMeans : Knowledge → Performed → FoundLane → List Item → Type 0
PerformMeans = PerformMeansAs lane_manner

-- the client's next body was planned, as it may be, and asked
abbrev pub HasSubmitted : Knowledge → List ℕ → ℕ → FoundLane → List Item → Type 0
HasSubmitted = HasSubmittedAs lane_manner
