-- The codes of what became of bodies, and counts of them.
use Rattle.std.proofs.Common.{◌≡◌, ◌≢◌, ℕ, ◌≤◌, ◌==◌, Bool, true, None, refl, arith}
use Rattle.std.specs.Prelude.{is_some}
use Rattle.packet_codec.specs.declared.packet.Order.{Order}
use Rattle.lane_record.specs.declared.outcome.Outcome.{Outcome}
use Rattle.lane_record.specs.declared.outcome.Outcome.TheVariants.{Replied, TimedOut, Unsent, LinkLost}
use Rattle.lane_record.specs.Outcomes.{is_replied, is_timed_out, place_of}
use Rattle.hub_session.specs.Answers.{reply_of_outcome}
use Rattle.hub_session.specs.Codes.{link_lost_code, replied_code, timed_out_code, unsent_code}

-- a code is that of the outcomes of one kind
pub record IsCodeOf (kind : Outcome → Bool) (code : ℕ) : Type 0 where
  pub near : code ≤ 3
  pub of_outcome : (board : ℕ) (order : Order) (id : ℕ) (o : Outcome)
      → ((reply_of_outcome board order id o).code == code) ≡ kind o

replied_outcomes : (board : ℕ) (order : Order) (id : ℕ) (o : Outcome)
    → ((reply_of_outcome board order id o).code == replied_code) ≡ is_replied o
replied_outcomes board order id (Replied place words) = refl
replied_outcomes board order id (TimedOut place rounds) = refl
replied_outcomes board order id Unsent = refl
replied_outcomes board order id (LinkLost place) = refl

pub replied_is : IsCodeOf is_replied replied_code
replied_is = record { near = omega arith; of_outcome = replied_outcomes }

timed_out_outcomes : (board : ℕ) (order : Order) (id : ℕ) (o : Outcome)
    → ((reply_of_outcome board order id o).code == timed_out_code) ≡ is_timed_out o
timed_out_outcomes board order id (Replied place words) = refl
timed_out_outcomes board order id (TimedOut place rounds) = refl
timed_out_outcomes board order id Unsent = refl
timed_out_outcomes board order id (LinkLost place) = refl

pub timed_out_is : IsCodeOf is_timed_out timed_out_code
timed_out_is = record { near = omega arith; of_outcome = timed_out_outcomes }

-- ---- the codes of bodies that have a place

pub record IsPlacing (code : ℕ) : Type 0 where
  pub near : code ≤ 3
  pub not_unsent : code ≢ unsent_code
  pub not_lost : code ≢ link_lost_code
  pub placed : (board id : ℕ) (order : Order) (o : Outcome)
      → ((reply_of_outcome board order id o).code == code) ≡ true → is_some (place_of o) ≡ true

replied_placed : (board id : ℕ) (order : Order) (o : Outcome)
    → ((reply_of_outcome board order id o).code == replied_code) ≡ true → is_some (place_of o) ≡ true
replied_placed board id order (Replied place words) coded = refl
replied_placed board id order (TimedOut place rounds) coded = refl
replied_placed board id order Unsent coded = absurd cc
replied_placed board id order (LinkLost place) coded = absurd cc

pub replied_places : IsPlacing replied_code
replied_places = record {
  near = omega arith;
  not_unsent = λ same. absurd cc;
  not_lost = λ same. absurd cc;
  placed = replied_placed;
}

timed_out_placed : (board id : ℕ) (order : Order) (o : Outcome)
    → ((reply_of_outcome board order id o).code == timed_out_code) ≡ true → is_some (place_of o) ≡ true
timed_out_placed board id order (Replied place words) coded = refl
timed_out_placed board id order (TimedOut place rounds) coded = refl
timed_out_placed board id order Unsent coded = absurd cc
timed_out_placed board id order (LinkLost place) coded = absurd cc

pub timed_out_places : IsPlacing timed_out_code
timed_out_places = record {
  near = omega arith;
  not_unsent = λ same. absurd cc;
  not_lost = λ same. absurd cc;
  placed = timed_out_placed;
}

pub unsent_unplaced : (board id : ℕ) (order : Order) (o : Outcome)
    → ((reply_of_outcome board order id o).code == unsent_code) ≡ true → place_of o ≡ None
unsent_unplaced board id order (Replied place words) coded = absurd cc
unsent_unplaced board id order (TimedOut place rounds) coded = absurd cc
unsent_unplaced board id order Unsent coded = refl
unsent_unplaced board id order (LinkLost place) coded = absurd cc
