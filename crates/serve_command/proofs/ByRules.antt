-- The codes of frames that the rules of planning decide.
use Rattle.std.proofs.Common.{◌≡◌, ◌≢◌, ◌↔◌, ℕ, ◌+◌, ◌<◌, ◌≤◌, List, [], ◌∷◌, length, Option, Some, refl, sym, ap}
use Rattle.std.proofs.Common.{◌∙◌, subst, arith}
use Rattle.std.specs.List.{AllByRecursion, slice_get}
use Rattle.packet_codec.specs.declared.packet.Order.{Order}
use Rattle.packet_codec.specs.declared.packet.Packet.{Packet}
use Rattle.transaction_codec.specs.Answer.{reply_room}
use Rattle.lane_record.specs.declared.outcome.Outcome.{Outcome}
use Rattle.lane_record.specs.declared.outcome.Outcome.TheVariants.{Replied, TimedOut, Unsent, LinkLost}
use Rattle.lane_record.specs.Submissions.{Submission}
use Rattle.hub_lane.specs.Lanes.{FitsBoard}
use Rattle.hub_lane.specs.declared.answers.BoardState.{BoardState}
use Rattle.hub_lane.specs.declared.answers.BoardState.TheVariants.{Lane}
use Rattle.hub_session.specs.declared.got.BodyRefusal.TheVariants as refusal
use Rattle.hub_session.specs.declared.got.Got.{Got}
use Rattle.hub_session.specs.declared.got.Got.TheVariants.{NotAsked, Refused, Came}
use Rattle.hub_session.specs.Answers.{reply_of_lane, reply_of_outcome, reply_of_packet, reply_to}
use Rattle.hub_session.specs.Codes.{body_too_long_code, overfull_code, reply_too_long_code}
use Rattle.hub_session.specs.Exchanges.{Exchange, request_in, request_of}
use Rattle.hub_framing.specs.Frames.{ReplyFrame}
use Rattle.client_history.specs.Boards.{ServedBoard}
use Rattle.client_history.specs.Planned.{HaveFilledLane}
use Rattle.session_serve.specs.Boards.{IsLiveAt, states_of}
use Rattle.session_serve.specs.Connections.{Conversation, exchanges_of}
use Rattle.session_serve.specs.Refusals.{AreFramesByRules, IsDecidedByRules, IsFrameByRules}
use Rattle.serve_command.specs.Frames.{OfEachFrame}
use Rattle.serve_command.specs.Ruled.{AreCodedByRules, IsCodedByRules}

-- what the codes of a frame for a lane tell, by the rules
pub record IsRuledCode (payload : ℕ) (connections : List (List Submission)) (body : List ℕ) (code : ℕ) : Type 0 where
  pub too_long : (code ≡ body_too_long_code) ↔ (payload < length body + 1)
  pub reply_too_long : (code ≡ reply_too_long_code) ↔ ((length body + 1 ≤ payload) × (payload < reply_room body + 1))
  pub overfull : code ≡ overfull_code → FitsBoard payload body × HaveFilledLane connections body

module _ (payload : ℕ) (connections : List (List Submission)) (body : List ℕ) where
  abbrev Coded : ℕ → Type 0
  Coded code = IsRuledCode payload connections body code

  never_long : FitsBoard payload body → payload < length body + 1 → ⊥
  never_long fits long = let short = fits.short in omega (arith, short, long)

  never_long_reply : FitsBoard payload body → (length body + 1 ≤ payload) × (payload < reply_room body + 1) → ⊥
  never_long_reply fits long = let short = fits.reply_short in let more = long.1 in omega (arith, short, more)

  -- a body that fits, and so does its reply
  fitting : (code : ℕ) → FitsBoard payload body → code ≢ body_too_long_code → code ≢ reply_too_long_code
      → (code ≡ overfull_code → HaveFilledLane connections body) → Coded code
  fitting code fits not_long not_reply filled = record {
    too_long = (λ is. absurd (not_long is), λ long. absurd (never_long fits long));
    reply_too_long = (λ is. absurd (not_reply is), λ long. absurd (never_long_reply fits long));
    overfull = λ is. (fits, filled is);
  }

  of_outcome : (board id : ℕ) (order : Order) (o : Outcome) → FitsBoard payload body
      → Coded (reply_of_outcome board order id o).code
  of_outcome board id order (Replied place words) fits =
      fitting 0 fits (λ e. absurd cc) (λ e. absurd cc) (λ e. absurd cc)
  of_outcome board id order (TimedOut place rounds) fits =
      fitting 1 fits (λ e. absurd cc) (λ e. absurd cc) (λ e. absurd cc)
  of_outcome board id order Unsent fits = fitting 2 fits (λ e. absurd cc) (λ e. absurd cc) (λ e. absurd cc)
  of_outcome board id order (LinkLost place) fits =
      fitting 3 fits (λ e. absurd cc) (λ e. absurd cc) (λ e. absurd cc)

  of_lane : (board id : ℕ) (order : Order) (got : Got) → IsDecidedByRules payload connections body got
      → Coded (reply_of_lane board order id got).code
  of_lane board id order NotAsked is = absurd is
  of_lane board id order (Refused refusal.Sealed) is = absurd is
  of_lane board id order (Refused refusal.TooLong) is = record {
    too_long = (λ e. is, λ e. refl);
    reply_too_long = (
      λ e. absurd cc,
      λ other. let short = other.0 in absurd (omega (arith, is, short)),
    );
    overfull = λ e. absurd cc;
  }
  of_lane board id order (Refused refusal.ReplyTooLong) is = record {
    too_long = (
      λ e. absurd cc,
      λ other. let short = is.0 in absurd (omega (arith, other, short)),
    );
    reply_too_long = (λ e. is, λ e. refl);
    overfull = λ e. absurd cc;
  }
  of_lane board id order (Refused refusal.Overfull) is =
      fitting 8 is.0 (λ e. absurd cc) (λ e. absurd cc) (λ e. is.1)
  of_lane board id order (Came o) is = of_outcome board id order o is

module _ (boards : List BoardState) (position lane payload : ℕ) (connections : List (List Submission))
    (here : slice_get boards position ≡ Some (Lane lane)) where
  one_coded : (e : Exchange) → IsFrameByRules payload connections boards lane e
      → IsCodedByRules payload connections position boards e
  one_coded e by_rules = λ request at is.
      let there : slice_get boards e.frame.board ≡ Some (Lane lane) = ap (slice_get boards) at ∙ here in
      let for_lane : request_of boards e.frame ≡ Some (record { lane = lane; body = request.body }) =
      ap (λ (p : Option Packet). request_in p (slice_get boards e.frame.board)) is
      ∙ ap (λ (s : Option BoardState). request_in (Some request) s) there in
      let reply : reply_to boards e.frame e.got ≡ reply_of_lane e.frame.board request.order request.id e.got =
      ap (λ (p : Option Packet). reply_of_packet e.frame.board p (slice_get boards e.frame.board) e.got) is
      ∙ ap (λ (s : Option BoardState). reply_of_packet e.frame.board (Some request) s e.got) there in
      let coded = subst (IsRuledCode payload connections request.body) (sym (ap (λ (r : ReplyFrame). r.code) reply))
      (of_lane payload connections request.body e.frame.board request.id request.order e.got
      (by_rules request.body for_lane)) in
      record { body_too_long = coded.too_long; reply_too_long = coded.reply_too_long; overfull = coded.overfull }

  each_coded : (es : List Exchange) → AllByRecursion (IsFrameByRules payload connections boards lane) es
      → AllByRecursion (IsCodedByRules payload connections position boards) es
  each_coded [] by_rules = tt
  each_coded (e ∷ es) by_rules = (one_coded e by_rules.0, each_coded es by_rules.1)

  all_coded : (cs : List Conversation) → AreFramesByRules payload connections boards lane cs
      → OfEachFrame (IsCodedByRules payload connections position boards) cs
  all_coded [] by_rules = tt
  all_coded (c ∷ cs) by_rules = (each_coded (exchanges_of c) by_rules.0, all_coded cs by_rules.1)

pub coded_by_rules : (boards : List ServedBoard) (cs : List Conversation)
    → ((position payload lane : ℕ) (board : ServedBoard) → IsLiveAt boards position payload lane board
    → AreFramesByRules payload board.connections (states_of boards) lane cs)
    → (position : ℕ) → AreCodedByRules boards cs position
coded_by_rules boards cs by_rules position = λ payload lane board live.
    all_coded (states_of boards) position lane payload board.connections live.lane' cs
    (by_rules position payload lane board live)
