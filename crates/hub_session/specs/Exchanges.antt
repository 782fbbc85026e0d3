-- Request frames and what the hub came to for each of them. Profile.
use Rattle.std.specs.Prelude.{◌≡◌, ◌==◌, ℕ, ⊤, if◌then◌else◌, List, [], ◌∷◌, ◌++◌, map, Option, Some, None}
use Rattle.std.specs.List.{filter_map, flat_map, slice_get}
use Rattle.packet_codec.specs.declared.packet.Packet.{Packet}
use Rattle.ipb_base.specs.Numbers.{payload_of}
use Rattle.turn_pass.specs.Record.{Begins}
use Rattle.turn_pass.specs.Pass.{Knowledge}
use Rattle.lane_record.specs.declared.outcome.Outcome.{Outcome}
use Rattle.lane_record.specs.declared.item.Item.{Item}
use Rattle.lane_record.specs.Coding.{Head, record_of, as_recorded}
use Rattle.lane_record.specs.Items.{planned_count}
use Rattle.lane_record.specs.NextEntry.{ask_of, plan_of, took_of}
use Rattle.lane_record.specs.Outcomes.{IsShort}
use Rattle.lane_record.specs.Submissions.{Submission}
use Rattle.hub_lane.specs.Plans.{CanPlan, IsRefused}
use Rattle.hub_lane.specs.declared.answers.PlanRefusal.{PlanRefusal}
use Rattle.hub_lane.specs.declared.answers.PlanRefusal.TheVariants as refusals
use Rattle.hub_lane.specs.declared.answers.BoardState.{BoardState}
use Rattle.hub_lane.specs.declared.answers.BoardState.TheVariants.{Lane, Silent, Down}
use Rattle.hub_multiplexer.specs.OwnItems.{planned_by}
use Rattle.hub_multiplexer.specs.Seats.{ChangesAt, SeatState}
use Rattle.hub_framing.specs.Frames.{RequestFrame}
use Rattle.hub_session.specs.declared.got.BodyRefusal.{BodyRefusal}
use Rattle.hub_session.specs.declared.got.BodyRefusal.TheVariants.{Sealed, TooLong, ReplyTooLong, Overfull}
use Rattle.hub_session.specs.declared.got.Got.{Got}
use Rattle.hub_session.specs.declared.got.Got.TheVariants.{NotAsked, Refused, Came}
use Rattle.hub_session.specs.Answers.{answer, control_packet}

-- a request frame, and what the hub came to for it
pub record Exchange : Type 0 where
  pub frame : RequestFrame
  pub got : Got

-- the frames of exchanges, and the answers to them, in order
abbrev pub frames_of : List Exchange → List RequestFrame
frames_of exchanges = map (λ e. e.frame) exchanges

abbrev pub answers : List BoardState → List Exchange → List ℕ
answers boards exchanges = flat_map (λ (e : Exchange). answer boards e.frame e.got) exchanges

-- ---- which frames are for a lane

-- a body for a lane
pub record LaneRequest : Type 0 where
  pub lane : ℕ
  pub body : List ℕ

abbrev pub request_to : List ℕ → Option BoardState → Option LaneRequest
request_to body None = None
request_to body (Some Silent) = None
request_to body (Some Down) = None
request_to body (Some (Lane lane)) = Some (record { lane = lane; body = body })

abbrev pub request_in : Option Packet → Option BoardState → Option LaneRequest
request_in None state = None
request_in (Some packet) state = request_to packet.body state

-- the body that a frame has for a lane: there is one where the frame has a control packet and its board has a lane
abbrev pub request_of : List BoardState → RequestFrame → Option LaneRequest
request_of boards frame = request_in (control_packet frame.packet) (slice_get boards frame.board)

-- The hub was asked where there is such a body, and nowhere else. It refused the body by a rule, or something became of
-- it, and a reply fits a packet.
abbrev pub IsGotFor : Option LaneRequest → Got → Type 0
IsGotFor None NotAsked = ⊤
IsGotFor None (Refused why) = ⊥
IsGotFor None (Came outcome) = ⊥
IsGotFor (Some request) NotAsked = ⊥
IsGotFor (Some request) (Refused why) = ⊤
IsGotFor (Some request) (Came outcome) = IsShort outcome

abbrev pub IsExchange : List BoardState → Exchange → Type 0
IsExchange boards e = IsGotFor (request_of boards e.frame) e.got

-- ---- what became of the bodies for one lane

abbrev pub submission_in : ℕ → Option LaneRequest → Got → Option Submission
submission_in lane None got = None
submission_in lane (Some request) NotAsked = None
submission_in lane (Some request) (Refused why) = None
submission_in lane (Some request) (Came outcome) =
    if request.lane == lane then Some (record { body = request.body; outcome = outcome }) else None

-- the bodies of these exchanges that were submitted to a lane, in order
abbrev pub submissions_on : List BoardState → ℕ → List Exchange → List Submission
submissions_on boards lane exchanges =
    filter_map (λ (e : Exchange). submission_in lane (request_of boards e.frame) e.got) exchanges

-- ---- what an exchange does to what the seat knows

-- The pass of the seat on a lane saw the record again, and added these entries. What it had seen before begins the
-- record that it has then seen.
pub record GrewBy (added : List Item) (k after : Knowledge) : Type 0 where
  pub begins : Begins k.seen after.seen
  pub mine_now : after.mine ≡ k.mine ++ map as_recorded added
  pub rest_same : after ≡ record k { seen = after.seen; mine = after.mine; vain = after.vain }

-- what a lane tells where it refuses a body so
abbrev pub plan_refusal : BodyRefusal → PlanRefusal
plan_refusal Sealed = refusals.Sealed
plan_refusal TooLong = refusals.TooLong
plan_refusal ReplyTooLong = refusals.ReplyTooLong
plan_refusal Overfull = refusals.Overfull

-- The body may not be planned on the record that the pass has then seen, by the first rule that it breaks there. Of the
-- client's Plans the record has those of the pass. No entry was added.
pub record WasRefused (body : List ℕ) (why : BodyRefusal) (k after : Knowledge) : Type 0 where
  pub head : Head
  pub items : List Item
  pub seen_now : after.seen ≡ record_of head items
  pub own : planned_count k.number items ≡ planned_by k
  pub refused : IsRefused items (payload_of head.mtu) body (plan_refusal why)
  pub grew : GrewBy [] k after

-- The body was planned, was asked, and what became of it was taken: these are the entries that were added. The body has
-- the next number of the client. It could be planned on the record that the pass found then, which begins with what the
-- pass had seen; the Plan and the Ask stand next behind it in what the pass has seen at last. Of the client's Plans the
-- record that was found has those of the pass.
pub record HasCome (body : List ℕ) (outcome : Outcome) (k after : Knowledge) : Type 0 where
  pub head : Head
  pub items : List Item
  pub found : Begins k.seen (record_of head items)
  pub own : planned_count k.number items ≡ planned_by k
  pub can : CanPlan items (payload_of head.mtu) body
  pub asked_at : ℕ
  pub stays : Begins (record_of head (items ++ plan_of k.number (planned_by k) body
      ∷ ask_of k.number (planned_by k) asked_at ∷ [])) after.seen
  pub took_at : ℕ
  pub grew : GrewBy (plan_of k.number (planned_by k) body ∷ ask_of k.number (planned_by k) asked_at
      ∷ took_of k.number (planned_by k) outcome took_at ∷ []) k after
  pub short : IsShort outcome

-- A frame without a body for a lane changes nothing. Any other changes what the seat knows of that lane alone.
abbrev pub ExchangesFor : Option LaneRequest → Got → SeatState → SeatState → Type 0
ExchangesFor None NotAsked old new = new ≡ old
ExchangesFor None (Refused why) old new = ⊥
ExchangesFor None (Came outcome) old new = ⊥
ExchangesFor (Some request) NotAsked old new = ⊥
ExchangesFor (Some request) (Refused why) old new = ChangesAt request.lane old new (WasRefused request.body why)
ExchangesFor (Some request) (Came outcome) old new = ChangesAt request.lane old new (HasCome request.body outcome)

-- one exchange, and exchanges one after the other
abbrev pub Exchanges : List BoardState → Exchange → SeatState → SeatState → Type 0
Exchanges boards e old new = ExchangesFor (request_of boards e.frame) e.got old new

abbrev pub ExchangesAll : List BoardState → List Exchange → SeatState → SeatState → Type 0
ExchangesAll boards [] old new = new ≡ old
ExchangesAll boards (e ∷ later) old new =
    (between : SeatState) × Exchanges boards e old between × ExchangesAll boards later between new
