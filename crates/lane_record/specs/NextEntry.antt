-- What an entry needs of those before it, so that a legal record stays legal with it. Profile.
use Rattle.std.specs.Prelude.{◌≡◌, ℕ, ◌≤◌, ◌<◌, true, false, List, Option}
use Rattle.lane_record.specs.declared.outcome.Outcome.{Outcome}
use Rattle.lane_record.specs.declared.item.Item.{Item}
use Rattle.lane_record.specs.declared.item.What.TheVariants.{Plan, Seal, Ask, Took}
use Rattle.lane_record.specs.Outcomes.{is_given_up}
use Rattle.lane_record.specs.Items.{planned_count, asked_count, is_sealed}
use Rattle.lane_record.specs.Legal.{TakesOf}
use Rattle.lane_record.specs.Bounds.{AreWithin}

-- the entries of a client, and the Seal
abbrev pub plan_of : ℕ → ℕ → List ℕ → Item
plan_of client seq body = record { client = client; seq = seq; what = Plan body }

abbrev pub ask_of : ℕ → ℕ → ℕ → Item
ask_of client seq give_ups = record { client = client; seq = seq; what = Ask give_ups }

abbrev pub took_of : ℕ → ℕ → Outcome → ℕ → Item
took_of client seq outcome give_ups = record { client = client; seq = seq; what = Took outcome give_ups }

abbrev pub the_seal : Item
the_seal = record { client = 0; seq = 0; what = Seal }

-- a client plans its next body, before planning is closed
pub record MayPlan (items : List Item) (client seq : ℕ) : Type 0 where
  pub some_client : 1 ≤ client
  pub next : seq ≡ planned_count client items
  pub unsealed : is_sealed items ≡ false

-- a client asks its next planned body
pub record MayAsk (items : List Item) (client seq now : ℕ) : Type 0 where
  pub some_client : 1 ≤ client
  pub next : seq ≡ asked_count client items
  pub is_planned : seq < planned_count client items
  pub within : AreWithin now items

-- a client takes what became of a body that it asked and did not take yet
pub record MayTook (items : List Item) (outcomes : List (Option Outcome)) (client seq : ℕ) (outcome : Outcome)
    (now : ℕ) : Type 0 where
  pub takes : TakesOf items outcomes client seq outcome
  pub within : AreWithin now items
  pub later : is_given_up outcome ≡ true → takes.claim.give_ups < now
