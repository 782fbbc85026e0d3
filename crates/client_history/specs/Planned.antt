-- How much connections plan on a lane. Profile.
use Rattle.std.specs.Prelude.{◌≡◌, ◌⊎◌, ℕ, ◌+◌, ◌<◌, ◌≤◌, false, List, [], ◌∷◌, ◌++◌, length, sum_by}
use Rattle.ipb_base.specs.Lists.{IsPrefix}
use Rattle.transaction_codec.specs.Answer.{reply_room}
use Rattle.lane_record.specs.declared.item.Item.{Item}
use Rattle.lane_record.specs.Items.{is_sealed, planned_count}
use Rattle.lane_record.specs.NextEntry.{plan_of}
use Rattle.lane_record.specs.Submissions.{Submission}
use Rattle.hub_lane.specs.Plans.{CanPlan}
use Rattle.lane_tables.specs.Planned.{most_bodies, most_words, planned_bodies, planned_words}

-- the words of a submitted body and of its longest reply
abbrev pub words_in : Submission → ℕ
words_in s = length s.body + reply_room s.body

-- how many bodies connections submitted to a lane, and how many words they and their longest replies have
abbrev pub bodies_submitted : List (List Submission) → ℕ
bodies_submitted connections = sum_by (λ (submissions : List Submission). length submissions) connections

abbrev pub words_submitted : List (List Submission) → ℕ
words_submitted connections = sum_by (λ (submissions : List Submission). sum_by words_in submissions) connections

-- Connections submitted to a lane as many bodies as may be planned there, or so many words that those of this body and
-- of its longest reply would be too many.
abbrev pub HaveFilledLane : List (List Submission) → List ℕ → Type 0
HaveFilledLane connections body = (most_bodies ≤ bodies_submitted connections)
    ⊎ (most_words < words_submitted connections + length body + reply_room body)

-- Planning was not closed by these entries of a lane, and what is planned by them is among what connections submitted.
pub record IsAmongSubmitted (connections : List (List Submission)) (items : List Item) : Type 0 where
  pub unsealed : is_sealed items ≡ false
  pub bodies : planned_bodies items ≤ bodies_submitted connections
  pub words : planned_words items ≤ words_submitted connections

-- Connections submitted to a lane no more than may be planned there: neither more bodies nor more words.
pub record KeepLimits (connections : List (List Submission)) : Type 0 where
  pub bodies : bodies_submitted connections ≤ most_bodies
  pub words : words_submitted connections ≤ most_words

-- Of a client who submitted so many bodies to a lane, the last one was planned behind a front of these entries, where
-- it might be planned.
pub record WasPlannedLast (client many : ℕ) (items : List Item) : Type 0 where
  pub front : List Item
  pub payload : ℕ
  pub body : List ℕ
  pub own : planned_count client front + 1 ≡ many
  pub next : IsPrefix (front ++ plan_of client (planned_count client front) body ∷ []) items
  pub can : CanPlan front payload body

-- so of each connection that submitted any, the first of which is this client
abbrev pub WerePlannedLast : ℕ → List (List Submission) → List Item → Type 0
WerePlannedLast client [] items = Unit {0}
WerePlannedLast client (submissions ∷ connections) items =
    (1 ≤ length submissions → WasPlannedLast client (length submissions) items)
    × WerePlannedLast (client + 1) connections items
