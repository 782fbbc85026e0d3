-- How much was planned on a lane, and how much may be. Profile.
use Rattle.std.specs.Prelude.{◌⊎◌, ℕ, ◌+◌, ◌<◌, ◌≤◌, List, [], ◌∷◌, length, Option, Some, None}
use Rattle.transaction_codec.specs.Answer.{reply_room}
use Rattle.lane_record.specs.declared.item.Item.{Item}
use Rattle.lane_record.specs.Items.{plan_in}

-- the most bodies that are planned on a lane, and the most words of all their bodies and longest replies
abbrev pub most_bodies : ℕ
most_bodies = 200000

abbrev pub most_words : ℕ
most_words = 33554432

-- the words of a body and of its longest reply
abbrev pub words_with : Option (List ℕ) → ℕ → ℕ
words_with None later = later
words_with (Some body) later = length body + reply_room body + later

abbrev pub one_with : Option (List ℕ) → ℕ → ℕ
one_with None later = later
one_with (Some body) later = 1 + later

-- how many bodies were planned, by all clients, and how many words they and their longest replies have
abbrev pub planned_bodies : List Item → ℕ
planned_bodies [] = 0
planned_bodies (x ∷ xs) = one_with (plan_in x.what) (planned_bodies xs)

abbrev pub planned_words : List Item → ℕ
planned_words [] = 0
planned_words (x ∷ xs) = words_with (plan_in x.what) (planned_words xs)

-- so many words of a body and of its longest reply would be too much
abbrev pub IsFull : List Item → ℕ → ℕ → Type 0
IsFull items body reply =
    (most_bodies ≤ planned_bodies items) ⊎ (most_words < planned_words items + body + reply)

-- so many bodies more, and so many words more of bodies and of their longest replies, are not too much
pub record LeavesRoom (items : List Item) (bodies words : ℕ) : Type 0 where
  pub bodies_fit : planned_bodies items + bodies ≤ most_bodies
  pub words_fit : planned_words items + words ≤ most_words
