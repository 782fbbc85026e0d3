-- What the connections of a door exchanged with the boards. Profile.
use Rattle.std.specs.Prelude.{◌≡◌, ◌≢◌, ℕ, ◌+◌, true, List, [], ◌∷◌, ◌++◌, None}
use Rattle.ipb_base.specs.Faults.{Rose}
use Rattle.ipb_outside.specs.Pairs.{PairReport}
use Rattle.lane_record.specs.Submissions.{Submission}
use Rattle.hub_lane.specs.declared.answers.BoardState.{BoardState}
use Rattle.hub_lane.specs.declared.answers.BoardState.TheVariants.{Lane, Silent, Down}
use Rattle.hub_multiplexer.specs.Seats.{SeatState}
use Rattle.hub_session.specs.declared.served.Served.{Served}
use Rattle.hub_session.specs.declared.served.SessionEnd.TheVariants as ends
use Rattle.hub_session.specs.Exchanges.{Exchange, submissions_on}
use Rattle.hub_session.specs.Serving.{IsServed}

-- The exchanges of a connection: those whose answers were written whole, in order, and then those whose answers were
-- not.
pub record Conversation : Type 0 where
  pub answered : List Exchange
  pub cut_off : List Exchange

-- all of them, in order
abbrev pub exchanges_of : Conversation → List Exchange
exchanges_of c = c.answered ++ c.cut_off

-- The faults of a connection: it ended with one of reading only where its source met it, and with one of writing only
-- where its sink met it; no other count rose.
pub record HasFaultsOf (served : Served) (came back : PairReport) : Type 0 where
  pub read_fault : served.end ≡ ends.ReadFault → Rose came.read_faults back.read_faults
  pub write_fault : served.end ≡ ends.WriteFault → Rose came.write_faults back.write_faults
  pub read_unfaulted : served.end ≢ ends.ReadFault → back.read_faults ≡ came.read_faults
  pub write_unfaulted : served.end ≢ ends.WriteFault → back.write_faults ≡ came.write_faults

-- A connection was served under a seat of the hub: this is what it came to, by its pair as it came and as it went back,
-- where the boards stand so.
pub record IsServedUnder (boards : List BoardState) (before after : SeatState) (came back : PairReport)
    (served : Served) : Type 0 where
  pub as_served : IsServed boards before after came.left back.left came.written back.written served
  pub faults : HasFaultsOf served came back
  pub ended : back.ended ≡ true
  pub same_client : after.client ≡ before.client
  pub same_turns : after.turns ≡ before.turns

-- It was served so under the seat of this client. No caller sees the seat: of what it knows before and after, nothing
-- but the number of its client is tied to anything else here.
pub record WasServed (boards : List BoardState) (client : ℕ) (came back : PairReport) (served : Served) : Type 0 where
  pub before : SeatState
  pub after : SeatState
  pub client' : before.client ≡ client
  pub under : IsServedUnder boards before after came back served

-- This is all that it exchanged with the boards.
pub record HasExchanged (boards : List BoardState) (client : ℕ) (conversation : Conversation) (came back : PairReport)
    (served : Served) : Type 0 where
  pub was_served : WasServed boards client came back served
  pub answered' : was_served.under.as_served.answered ≡ conversation.answered
  pub cut_off' : was_served.under.as_served.unwritten ≡ conversation.cut_off
  pub none_else : was_served.under.as_served.unanswered ≡ None

-- so of each connection, in order, the first of which has this number
abbrev pub WereServed : List BoardState → ℕ → List PairReport → List PairReport → List Served → Type 0
WereServed boards client [] [] [] = Unit {0}
WereServed boards client (came ∷ cames) (back ∷ backs) (served ∷ serveds) =
    WasServed boards client came back served × WereServed boards (client + 1) cames backs serveds
WereServed boards client cames backs serveds = ⊥

abbrev pub HaveExchanged : List BoardState → ℕ → List Conversation → List PairReport → List PairReport → List Served
    → Type 0
HaveExchanged boards client [] [] [] [] = Unit {0}
HaveExchanged boards client (c ∷ conversations) (came ∷ cames) (back ∷ backs) (served ∷ serveds) =
    HasExchanged boards client c came back served × HaveExchanged boards (client + 1) conversations cames backs serveds
HaveExchanged boards client conversations cames backs serveds = ⊥

-- ---- what they submitted to a board that stands so

abbrev pub submissions_to : List BoardState → BoardState → Conversation → List Submission
submissions_to boards (Lane lane) conversation = submissions_on boards lane (exchanges_of conversation)
submissions_to boards Silent conversation = []
submissions_to boards Down conversation = []
