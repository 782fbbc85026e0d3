-- By which rules the hub came to something for the bodies of connections. Profile.
use Rattle.std.specs.Prelude.{◌≡◌, ℕ, ◌+◌, ◌<◌, ◌≤◌, List, ◌∷◌, ◌++◌, length, Some}
use Rattle.std.specs.List.{AllByRecursion, slice_get, slice_set}
use Rattle.transaction_codec.specs.Answer.{reply_room}
use Rattle.lane_record.specs.Submissions.{Submission}
use Rattle.hub_lane.specs.Lanes.{FitsBoard}
use Rattle.hub_lane.specs.declared.answers.BoardState.{BoardState}
use Rattle.hub_session.specs.declared.got.BodyRefusal.TheVariants.{Sealed, TooLong, ReplyTooLong, Overfull}
use Rattle.hub_session.specs.declared.got.Got.{Got}
use Rattle.hub_session.specs.declared.got.Got.TheVariants.{NotAsked, Refused, Came}
use Rattle.hub_session.specs.Exchanges.{Exchange, request_of, submissions_on}
use Rattle.client_history.specs.Planned.{HaveFilledLane}
use Rattle.session_serve.specs.Connections.{Conversation, exchanges_of}

-- What the hub came to for a body for the lane of a board with this payload, in words. `connections` are all bodies
-- that each connection submitted to that lane, before this one or after it. The hub was asked. It refused the body only
-- where the payload is too short for it, or for its longest reply, or where the connections filled the lane.
abbrev pub IsDecidedByRules : ℕ → List (List Submission) → List ℕ → Got → Type 0
IsDecidedByRules payload connections body NotAsked = ⊥
IsDecidedByRules payload connections body (Refused TooLong) = payload < length body + 1
IsDecidedByRules payload connections body (Refused ReplyTooLong) =
    (length body + 1 ≤ payload) × (payload < reply_room body + 1)
IsDecidedByRules payload connections body (Refused Overfull) =
    FitsBoard payload body × HaveFilledLane connections body
IsDecidedByRules payload connections body (Refused Sealed) = ⊥
IsDecidedByRules payload connections body (Came outcome) = FitsBoard payload body

-- so of the body that a frame has for this lane, if it has one
abbrev pub IsFrameByRules : ℕ → List (List Submission) → List BoardState → ℕ → Exchange → Type 0
IsFrameByRules payload connections boards lane e = (body : List ℕ)
    → request_of boards e.frame ≡ Some (record { lane = lane; body = body })
    → IsDecidedByRules payload connections body e.got

-- so of all that connections exchanged
abbrev pub AreFramesByRules : ℕ → List (List Submission) → List BoardState → ℕ → List Conversation → Type 0
AreFramesByRules payload connections boards lane conversations = AllByRecursion (λ (c : Conversation).
    AllByRecursion (IsFrameByRules payload connections boards lane) (exchanges_of c)) conversations

-- Each frame that was refused by a full lane was refused when it was filled: of the bodies that its own connection
-- submitted there those before the frame count, and of those of the other connections all.
abbrev pub AreFilledBefore : List (List Submission) → List BoardState → ℕ → List Conversation → Type 0
AreFilledBefore connections boards lane conversations = (index : ℕ) (c : Conversation) (earlier later : List Exchange)
    (e : Exchange) (body : List ℕ) → slice_get conversations index ≡ Some c
    → exchanges_of c ≡ earlier ++ e ∷ later → request_of boards e.frame ≡ Some (record { lane = lane; body = body })
    → e.got ≡ Refused Overfull
    → HaveFilledLane (slice_set connections index (submissions_on boards lane earlier)) body
