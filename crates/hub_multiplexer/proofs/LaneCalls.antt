-- What the calls of a lane do to its record.
use Rattle.std.proofs.Common.{◌≡◌, ◌<◌, ℕ, Bool, true, false, if◌then◌else◌, List, [], ◌∷◌, ◌++◌, Option, Some, ap, ◌∙◌}
use Rattle.links.specs.Telling.{Telling}
use Rattle.lane_record.specs.declared.outcome.Outcome.{Outcome}
use Rattle.lane_record.specs.declared.item.Item.{Item}
use Rattle.lane_record.specs.Coding.{Head}
use Rattle.lane_record.specs.Items.{told_by_first, plan_in, planned_count}
use Rattle.lane_record.specs.Legal.{IsLegal}
use Rattle.lane_record.specs.NextEntry.{ask_of, took_of}
use Rattle.hub_lane.specs.declared.answers.Asked.{Asked}
use Rattle.hub_lane.specs.declared.answers.Asked.TheVariants as asks
use Rattle.hub_lane.specs.declared.step.Stepped.{Stepped}
use Rattle.hub_lane.specs.declared.step.Stepped.TheVariants as steps
use Rattle.hub_lane.specs.Calls.{Asks, AsksAs, asked_in_vain, with_offer}
use Rattle.hub_lane.specs.Lanes.{LaneState, opening_of}
use Rattle.hub_lane.specs.Records.{head_of}
use Rattle.hub_lane.specs.Step.{StepsAs}
use Rattle.hub_multiplexer.specs.Lanes.{AsksOn, StepsOn}

-- in a legal record whatever has a Plan is planned
abbrev pub IsPlanLaw : Type 0
IsPlanLaw = (items : List Item) (outcomes : List (Option Outcome)) (client seq : ℕ) (body : List ℕ)
    → IsLegal items outcomes → told_by_first plan_in client seq items ≡ Some body → seq < planned_count client items

module _ {L : Type 0} (telling : L → Option Telling) where
  abbrev pub head : LaneState L → Head
  head lane = head_of lane.number lane.settings lane.status (telling lane.link)

  pub same_head : (old new : LaneState L) → new.number ≡ old.number → new.settings ≡ old.settings
      → new.status ≡ old.status → opening_of (telling new.link) ≡ opening_of (telling old.link) → head new ≡ head old
  same_head old new number settings status opening = λ i. record {
    rounds = (settings i).rounds;
    window = (settings i).window;
    mtu = (status i).mtu;
    buffers = (status i).buffers;
    first = (status i).next;
    link = number i;
    opening = opening i;
  }

  -- what an Ask leaves of a lane, before the lane sends
  record Offered (old asked : LaneState L) (client seq : ℕ) : Type 0 where
    number : asked.number ≡ old.number
    settings : asked.settings ≡ old.settings
    status : asked.status ≡ old.status
    items : asked.items ≡ old.items ++ ask_of client seq old.give_ups ∷ []

  offered_either : (old asked : LaneState L) (client seq : ℕ) (body : List ℕ) (b : Bool)
      → asked ≡ (if b then asked_in_vain old client seq else with_offer old client seq body)
      → Offered old asked client seq
  offered_either old asked client seq body true e = record {
    number = ap (λ (l : LaneState L). l.number) e;
    settings = ap (λ (l : LaneState L). l.settings) e;
    status = ap (λ (l : LaneState L). l.status) e;
    items = ap (λ (l : LaneState L). l.items) e;
  }
  offered_either old asked client seq body false e = record {
    number = ap (λ (l : LaneState L). l.number) e;
    settings = ap (λ (l : LaneState L). l.settings) e;
    status = ap (λ (l : LaneState L). l.status) e;
    items = ap (λ (l : LaneState L). l.items) e;
  }

  offered_by : (old new : LaneState L) (client seq : ℕ) (a : Asks old client seq new)
      → Offered old a.asked client seq
  offered_by old new client seq a =
      offered_either old a.asked client seq a.offers.body old.down a.offers.became

  pub ask_head : (old new : LaneState L) (client : ℕ) (answer : Asked)
      → opening_of (telling new.link) ≡ opening_of (telling old.link) → AsksAs old client new answer
      → head new ≡ head old
  ask_head old new client (asks.Asked seq) opening a =
      let offers = offered_by old new client seq a in
      same_head old new (a.same.number ∙ offers.number) (a.same.settings ∙ offers.settings)
      (a.same.status ∙ offers.status) opening
  ask_head old new client asks.Nothing opening a = ap head a.0

  pub asks_on : IsPlanLaw → (old new : LaneState L) (client : ℕ) (answer : Asked) → IsLegal old.items old.outcomes
      → AsksAs old client new answer → AsksOn old.items client answer new.items
  asks_on law old new client (asks.Asked seq) legal a = (
    a.offers.next.number,
    law old.items old.outcomes client seq a.offers.body legal a.offers.next.planned_there,
    old.give_ups,
    a.same.items ∙ (offered_by old new client seq a).items,
  )
  asks_on law old new client asks.Nothing legal a = (a.1, ap (λ (l : LaneState L). l.items) a.0)

pub steps_same : {L : Type 0} (old new : LaneState L) (client : ℕ) (answer : Stepped) → StepsAs old client new answer
    → (new.number ≡ old.number) × (new.settings ≡ old.settings) × (new.status ≡ old.status)
steps_same {L} old new client (steps.Ready outcome) s = (
  ap (λ (l : LaneState L). l.number) s.takes.entry ∙ s.same.number,
  ap (λ (l : LaneState L). l.settings) s.takes.entry ∙ s.same.settings,
  ap (λ (l : LaneState L). l.status) s.takes.entry ∙ s.same.status,
)
steps_same old new client (steps.NotYet turned) s = (s.same.number, s.same.settings, s.same.status)
steps_same {L} old new client steps.Nothing s = (
  ap (λ (l : LaneState L). l.number) s.0,
  ap (λ (l : LaneState L). l.settings) s.0,
  ap (λ (l : LaneState L). l.status) s.0,
)

pub steps_on : {L : Type 0} (old new : LaneState L) (client : ℕ) (answer : Stepped) → StepsAs old client new answer
    → StepsOn old.items client answer new.items
steps_on {L} old new client (steps.Ready outcome) s = (
  s.seq,
  s.oldest,
  s.takes.short,
  s.pumped.give_ups,
  ap
      (λ (l : LaneState L). l.items) s.takes.entry
      ∙ ap (λ l. l ++ took_of client s.seq outcome s.pumped.give_ups ∷ []) s.same.items,
)
steps_on old new client (steps.NotYet turned) s = ((s.seq, s.oldest), s.same.items)
steps_on {L} old new client steps.Nothing s = (s.1, ap (λ (l : LaneState L). l.items) s.0)
