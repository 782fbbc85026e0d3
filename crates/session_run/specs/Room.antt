-- The room that a lane has left for plans. What private functions promise one another; no public clause speaks of it.
use Rattle.std.specs.Prelude.{ℕ, ◌+◌, ◌≤◌, List, length, sum_by}
use Rattle.lane_record.specs.declared.item.Item.{Item}
use Rattle.mtu_packer.specs.Packed.{words_with_answer}
use Rattle.lane_tables.specs.Planned.{most_bodies, most_words, planned_bodies, planned_words}

-- a lane with these entries has room to plan these bodies
pub record HasRoomFor (items : List Item) (bodies : List (List ℕ)) : Type 0 where
  pub few : planned_bodies items + length bodies ≤ most_bodies
  pub short : planned_words items + sum_by words_with_answer bodies ≤ most_words
