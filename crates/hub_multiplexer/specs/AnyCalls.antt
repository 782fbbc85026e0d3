-- What the calls of a hub do to what a pass knows, in the manner of what stands in the board's turn. Profile.
use Rattle.std.specs.Prelude.{◌≡◌, ℕ, ◌<◌, ◌≤◌, List, [], ◌∷◌, ◌++◌, map, Option, None, Some}
use Rattle.std.specs.List.{AllByRecursion, filter_map}
use Rattle.ipb_base.specs.Numbers.{payload_of}
use Rattle.turn_pass.specs.Record.{GrowsBy, Record}
use Rattle.turn_pass.specs.Pass.{Knowledge, Told, in_vain}
use Rattle.lane_record.specs.declared.outcome.Outcome.{Outcome}
use Rattle.lane_record.specs.declared.item.Item.{Item}
use Rattle.lane_record.specs.Coding.{as_recorded, item_from}
use Rattle.lane_record.specs.Items.{asked_count, planned_count}
use Rattle.lane_record.specs.NextEntry.{ask_of, plan_of, took_of}
use Rattle.lane_record.specs.Outcomes.{IsShort}
use Rattle.lane_tables.specs.Taken.{HasTakenAll, IsOldest}
use Rattle.hub_lane.specs.Plans.{CanPlan}
use Rattle.hub_lane.specs.declared.answers.Asked.{Asked}
use Rattle.hub_lane.specs.declared.answers.Asked.TheVariants as asks
use Rattle.hub_lane.specs.declared.step.Stepped.{Stepped}
use Rattle.hub_lane.specs.declared.step.Stepped.TheVariants as steps
use Rattle.hub_multiplexer.specs.Manner.{FoundLane, Manner, with_more}
use Rattle.hub_multiplexer.specs.declared.answers.AskTry.{AskTry}
use Rattle.hub_multiplexer.specs.declared.answers.AskTry.TheVariants as ask_tries
use Rattle.hub_multiplexer.specs.declared.answers.StepTry.{StepTry}
use Rattle.hub_multiplexer.specs.declared.answers.StepTry.TheVariants as step_tries
use Rattle.hub_multiplexer.specs.declared.answers.Performed.{Performed}
use Rattle.hub_multiplexer.specs.declared.answers.Performed.TheVariants as performs

-- ---- what a pass knows after it took the value of a turn

-- The pass took the value, added these entries, and gave it back. The record that it found begins with all that it had
-- seen, it is legal with what was added, and what was added is the pass's own.
pub record AddsAs {R : Type 0} (m : Manner R) (k : Knowledge) (lane : FoundLane) (added : List Item)
    (after : Knowledge) : Type 0 where
  pub found : Told k (m.shows lane)
  pub legal : m.legal (with_more lane added)
  pub seen_now : after.seen ≡ m.shows (with_more lane added)
  pub mine_now : after.mine ≡ k.mine ++ map as_recorded added
  pub rest_same : after ≡ record k { seen = after.seen; mine = after.mine; vain = after.vain }

-- By one exchange, which was not in vain, the pass added entries of which this holds.
pub record MadeAs {R : Type 0} (m : Manner R) (k : Knowledge) (P : FoundLane → List Item → Type 0)
    (after : Knowledge) : Type 0 where
  pub lane : FoundLane
  pub added : List Item
  pub meaning : P lane added
  pub adds : AddsAs m k lane added after
  pub same_vain : after.vain ≡ k.vain

-- The same of a call that waits: there may have been exchanges in vain before.
pub record MadeInTimeAs {R : Type 0} (m : Manner R) (k : Knowledge) (P : FoundLane → List Item → Type 0)
    (after : Knowledge) : Type 0 where
  pub lane : FoundLane
  pub added : List Item
  pub meaning : P lane added
  pub adds : AddsAs m k lane added after
  pub more_vain : k.vain ≤ after.vain

-- it looked, and added nothing
abbrev pub IsNone : FoundLane → List Item → Type 0
IsNone lane added = added ≡ []

-- ---- what a call adds, by the entries that a client has

-- the client's next planned body was asked
pub record HasAskedOf (own : List Item) (client seq : ℕ) (added : List Item) : Type 0 where
  pub next : seq ≡ asked_count client own
  pub is_planned : seq < planned_count client own
  pub give_ups : ℕ
  pub entry : added ≡ ask_of client seq give_ups ∷ []

-- what became of the client's oldest asked and untaken body was taken; the words of a reply fit a packet
pub record HasTakenOf (own : List Item) (client : ℕ) (outcome : Outcome) (added : List Item) : Type 0 where
  pub seq : ℕ
  pub oldest : IsOldest own client seq
  pub short : IsShort outcome
  pub give_ups : ℕ
  pub entry : added ≡ took_of client seq outcome give_ups ∷ []

-- nothing became of it yet
pub record HasNothingYetOf (own : List Item) (client : ℕ) (added : List Item) : Type 0 where
  pub seq : ℕ
  pub oldest : IsOldest own client seq
  pub none : added ≡ []

-- the client's next body was planned, as it may be, and asked
pub record HasSubmittedOf (own : List Item) (client : ℕ) (body : List ℕ) (seq : ℕ) (lane : FoundLane)
    (added : List Item) : Type 0 where
  pub next : seq ≡ planned_count client own
  pub can : CanPlan lane.items (payload_of lane.head.mtu) body
  pub give_ups : ℕ
  pub entries : added ≡ plan_of client seq body ∷ ask_of client seq give_ups ∷ []

-- what an answer to an ask means: all planned bodies were asked before where it is Nothing
abbrev pub AskMeansOf : List Item → ℕ → Asked → List Item → Type 0
AskMeansOf own client (asks.Asked seq) added = HasAskedOf own client seq added
AskMeansOf own client asks.Nothing added = (asked_count client own ≡ planned_count client own) × (added ≡ [])

-- what a step came to
abbrev pub StepMeansOf : List Item → ℕ → Stepped → List Item → Type 0
StepMeansOf own client (steps.Ready outcome) added = HasTakenOf own client outcome added
StepMeansOf own client (steps.NotYet turned) added = HasNothingYetOf own client added
StepMeansOf own client steps.Nothing added = HasTakenAll own client × (added ≡ [])

-- what was performed
abbrev pub PerformMeansOf : List Item → ℕ → Performed → List Item → Type 0
PerformMeansOf own client (performs.Ready outcome) added = HasTakenOf own client outcome added
PerformMeansOf own client performs.Nothing added = HasTakenAll own client × (added ≡ [])

-- what was performed, or nothing became of the body yet
abbrev pub FindMeansOf : List Item → ℕ → Option Performed → List Item → Type 0
FindMeansOf own client (Some performed) added = PerformMeansOf own client performed added
FindMeansOf own client None added = added ≡ []

-- ---- the same by what the pass knows and finds

abbrev pub AskMeansAs : {R : Type 0} → Manner R → Knowledge → Asked → FoundLane → List Item → Type 0
AskMeansAs m k asked lane added = AskMeansOf (m.own k lane) k.number asked added

abbrev pub StepMeansAs : {R : Type 0} → Manner R → Knowledge → Stepped → FoundLane → List Item → Type 0
StepMeansAs m k stepped lane added = StepMeansOf (m.own k lane) k.number stepped added

abbrev pub PerformMeansAs : {R : Type 0} → Manner R → Knowledge → Performed → FoundLane → List Item → Type 0
PerformMeansAs m k performed lane added = PerformMeansOf (m.own k lane) k.number performed added

abbrev pub FindMeansAs : {R : Type 0} → Manner R → Knowledge → Option Performed → FoundLane → List Item → Type 0
FindMeansAs m k found lane added = FindMeansOf (m.own k lane) k.number found added

abbrev pub HasSubmittedAs : {R : Type 0} → Manner R → Knowledge → List ℕ → ℕ → FoundLane → List Item → Type 0
HasSubmittedAs m k body seq lane added = HasSubmittedOf (m.own k lane) k.number body seq lane added

-- how a try to ask went
abbrev pub AskTriedAs : {R : Type 0} → Manner R → Knowledge → AskTry → Knowledge → Type 0
AskTriedAs m k ask_tries.Busy after = after ≡ in_vain k
AskTriedAs m k (ask_tries.Asked seq) after = MadeAs m k (AskMeansAs m k (asks.Asked seq)) after
AskTriedAs m k ask_tries.Nothing after = MadeAs m k (AskMeansAs m k asks.Nothing) after

-- how a try to step went
abbrev pub StepTriedAs : {R : Type 0} → Manner R → Knowledge → StepTry → Knowledge → Type 0
StepTriedAs m k step_tries.Busy after = after ≡ in_vain k
StepTriedAs m k (step_tries.NotYet turned) after = MadeAs m k (StepMeansAs m k (steps.NotYet turned)) after
StepTriedAs m k (step_tries.Ready outcome) after = MadeAs m k (StepMeansAs m k (steps.Ready outcome)) after
StepTriedAs m k step_tries.Nothing after = MadeAs m k (StepMeansAs m k steps.Nothing) after

-- ---- what a call does to the value

-- a legal record grew by these entries of a client
pub record GrewAs {R : Type 0} (m : Manner R) (client : ℕ) (before : Record) (added : List Item) (after : Record)
    : Type 0 where
  pub lane : FoundLane
  pub was : before ≡ m.shows lane
  pub now : after ≡ m.shows (with_more lane added)
  pub legal : m.legal (with_more lane added)
  pub makers : AllByRecursion (λ x. x.client ≡ client) added

-- The record grew by entries that have a meaning for every pass of the client that finds it.
pub record MeansAs {R : Type 0} (m : Manner R) (client : ℕ) (before : Record)
    (P : Knowledge → FoundLane → List Item → Type 0) (after : Record) : Type 0 where
  pub added : List Item
  pub grew : GrewAs m client before added after
  pub to_finder : (k : Knowledge) → Told k before → k.number ≡ client → P k grew.lane added

-- ---- begin

-- Another greeting of the board began, or none was due: the record grew by entries of this client alone, none of which
-- is of a body.
pub record BeginsAs {R : Type 0} (m : Manner R) (client : ℕ) (before after : Record) : Type 0 where
  pub lane : FoundLane
  pub next : FoundLane
  pub was : before ≡ m.shows lane
  pub now : after ≡ m.shows next
  pub legal : m.legal next
  pub grew : GrowsBy client before after
  pub no_body : filter_map item_from grew.added ≡ []
  pub begins : m.begins lane grew.added next

-- The pass took the value, another greeting began there or none was due, and it gave the value back. What was added is
-- the pass's own.
pub record BegunAs {R : Type 0} (m : Manner R) (k after : Knowledge) : Type 0 where
  pub lane : FoundLane
  pub next : FoundLane
  pub found : Told k (m.shows lane)
  pub legal : m.legal next
  pub grew : GrowsBy k.number (m.shows lane) (m.shows next)
  pub no_body : filter_map item_from grew.added ≡ []
  pub begins : m.begins lane grew.added next
  pub seen_now : after.seen ≡ m.shows next
  pub mine_now : after.mine ≡ k.mine ++ grew.added
  pub rest_same : after ≡ record k { seen = after.seen; mine = after.mine; vain = after.vain }
  pub more_vain : k.vain ≤ after.vain
