-- What a frame is to the board at one position: a body was submitted there for it, or nothing.
use Rattle.std.proofs.Common.{◌≡◌, ℕ, ◌≤◌, ◌==◌, ◌&&◌, Bool, true, false, if◌then◌else◌}
use Rattle.std.proofs.Common.{List, Option, Some, None, refl, sym, ap, ◌∙◌, inl, inr, arith}
use Rattle.std.proofs.lemmas.Bool.{and_right}
use Rattle.std.proofs.lemmas.Bool.Decides.{eqb_tells}
use Rattle.packet_codec.specs.declared.packet.Packet.{Packet}
use Rattle.lane_record.specs.declared.outcome.Outcome.{Outcome}
use Rattle.lane_record.specs.Submissions.{Submission}
use Rattle.hub_lane.specs.declared.answers.BoardState.{BoardState}
use Rattle.hub_lane.specs.declared.answers.BoardState.TheVariants.{Lane, Silent, Down}
use Rattle.hub_session.specs.declared.got.BodyRefusal.{BodyRefusal}
use Rattle.hub_session.specs.declared.got.BodyRefusal.TheVariants as refusal
use Rattle.hub_session.specs.declared.got.Got.{Got}
use Rattle.hub_session.specs.declared.got.Got.TheVariants.{NotAsked, Refused, Came}
use Rattle.hub_session.specs.Answers.{refusal_code, reply_of_packet}
use Rattle.hub_session.specs.Exchanges.{Exchange, LaneRequest, request_in, request_of, submission_in}
use Rattle.serve_command.specs.Frames.{place_in}

-- the hub was asked where there is a body for a lane, and nowhere else
abbrev pub IsAskedFor : Option LaneRequest → Got → Type 0
IsAskedFor None NotAsked = Unit {0}
IsAskedFor None (Refused why) = ⊥
IsAskedFor None (Came outcome) = ⊥
IsAskedFor (Some request) NotAsked = ⊥
IsAskedFor (Some request) (Refused why) = Unit {0}
IsAskedFor (Some request) (Came outcome) = Unit {0}

abbrev pub IsAsked : List BoardState → Exchange → Type 0
IsAsked boards e = IsAskedFor (request_of boards e.frame) e.got

-- its place, where it is for the board at the position
abbrev place_if : Bool → Got → Option ℕ
place_if b got = if b then place_in got else None

-- whether it is answered by a code, and for the board at the position
abbrev answered_if : Bool → ℕ → ℕ → Option Packet → Option BoardState → Got → Bool
answered_if b code board packet state got = b && ((reply_of_packet board packet state got).code == code)

-- nothing was submitted for it: it has no place, and no code of what became of a body
pub record IsNothing (b : Bool) (board : ℕ) (packet : Option Packet) (state : Option BoardState) (got : Got) : Type 0
  where
    pub no_place : place_if b got ≡ None
    pub no_code : (code : ℕ) → code ≤ 3 → answered_if b code board packet state got ≡ false

-- a body was submitted to the board for it, and became so
pub record HasBecome (b : Bool) (lane : ℕ) (packet : Option Packet) (state : Option BoardState) (got : Got)
    (s : Submission) : Type 0 where
  pub is_for : b ≡ true
  pub request : Packet
  pub packet' : packet ≡ Some request
  pub state' : state ≡ Some (Lane lane)
  pub body' : request.body ≡ s.body
  pub got' : got ≡ Came s.outcome

abbrev pub Became : (b : Bool) (board lane : ℕ) (packet : Option Packet) (state : Option BoardState) (got : Got)
    → Option Submission → Type 0
Became b board lane packet state got None = IsNothing b board packet state got
Became b board lane packet state got (Some s) = HasBecome b lane packet state got s

none_if : (b : Bool) (got : Got) → place_in got ≡ None → place_if b got ≡ None
none_if true got none = none
none_if false got none = refl

pub far_code : (b : Bool) (c code : ℕ) → 4 ≤ c → code ≤ 3 → (b && (c == code)) ≡ false
far_code b c code far near = elim (eqb_tells c code) [
  | inl same ↦ (let equal = same.1 in absurd (omega (arith, far, near, equal)))
  | inr apart ↦ ap (λ (x : Bool). b && x) apart.0 ∙ and_right b false refl
]

far_refusal : (why : BodyRefusal) → 4 ≤ refusal_code why
far_refusal refusal.Sealed = omega arith
far_refusal refusal.TooLong = omega arith
far_refusal refusal.ReplyTooLong = omega arith
far_refusal refusal.Overfull = omega arith

module _ (board lane : ℕ) where
  -- where the frame is for the board at the position, that board has the lane, and no other board has it
  lane_became : (b : Bool) (l : ℕ) (packet : Packet) (outcome : Outcome) (found : Bool) → (l == lane) ≡ found
      → found ≡ b
      → Became b board lane (Some packet) (Some (Lane l)) (Came outcome)
      (if found then Some (record { body = packet.body; outcome = outcome }) else None)
  lane_became b l packet outcome true test same = elim (eqb_tells l lane) [
    | inl equal ↦ record {
      is_for = sym same;
      request = packet;
      packet' = refl;
      state' = ap (λ (n : ℕ). Some (Lane n)) equal.1;
      body' = refl;
      got' = refl;
    }
    | inr apart ↦ (let e = sym test ∙ apart.0 in absurd cc)
  ]
  lane_became true l packet outcome false test same = absurd cc
  lane_became false l packet outcome false test same = record { no_place = refl; no_code = λ code near. refl }

  at_state : (b : Bool) (packet : Packet) (state : Option BoardState) (got : Got)
      → IsAskedFor (request_in (Some packet) state) got → (b ≡ true → state ≡ Some (Lane lane))
      → ((l : ℕ) → state ≡ Some (Lane l) → (l == lane) ≡ b)
      → Became b board lane (Some packet) state got (submission_in lane (request_in (Some packet) state) got)
  at_state b packet None NotAsked asked is tells =
      record { no_place = none_if b NotAsked refl; no_code = λ code near. far_code b 5 code (omega arith) near }
  at_state b packet None (Refused why) asked is tells = absurd asked
  at_state b packet None (Came outcome) asked is tells = absurd asked
  at_state true packet (Some Silent) got asked is tells = let e = is refl in absurd cc
  at_state false packet (Some Silent) NotAsked asked is tells = record { no_place = refl; no_code = λ code near. refl }
  at_state false packet (Some Silent) (Refused why) asked is tells = absurd asked
  at_state false packet (Some Silent) (Came outcome) asked is tells = absurd asked
  at_state true packet (Some Down) got asked is tells = let e = is refl in absurd cc
  at_state false packet (Some Down) NotAsked asked is tells = record { no_place = refl; no_code = λ code near. refl }
  at_state false packet (Some Down) (Refused why) asked is tells = absurd asked
  at_state false packet (Some Down) (Came outcome) asked is tells = absurd asked
  at_state b packet (Some (Lane l)) NotAsked asked is tells = absurd asked
  at_state b packet (Some (Lane l)) (Refused why) asked is tells = record {
    no_place = none_if b (Refused why) refl;
    no_code = λ code near. far_code b (refusal_code why) code (far_refusal why) near;
  }
  at_state b packet (Some (Lane l)) (Came outcome) asked is tells =
      lane_became b l packet outcome (l == lane) refl (tells l refl)

  pub at_packet : (b : Bool) (packet : Option Packet) (state : Option BoardState) (got : Got)
      → IsAskedFor (request_in packet state) got → (b ≡ true → state ≡ Some (Lane lane))
      → ((l : ℕ) → state ≡ Some (Lane l) → (l == lane) ≡ b)
      → Became b board lane packet state got (submission_in lane (request_in packet state) got)
  at_packet b None state NotAsked asked is tells =
      record { no_place = none_if b NotAsked refl; no_code = λ code near. far_code b 4 code (omega arith) near }
  at_packet b None state (Refused why) asked is tells = absurd asked
  at_packet b None state (Came outcome) asked is tells = absurd asked
  at_packet b (Some packet) state got asked is tells = at_state b packet state got asked is tells
