-- The replies that a link that tells has handed out. Profile.
use Rattle.std.specs.Prelude.{◌≡◌, ℕ, ◌+◌, ◌<◌, ◌≤◌, List, Some}
use Rattle.std.specs.List.{Contains, slice_get}
use Rattle.packet_ids.specs.Identifier.{identifier_at}
use Rattle.world_model.specs.declared.datagram.Direction.TheVariants as goes
use Rattle.world_model.specs.Facts.{MOST_HELD, MOST_OPEN}
use Rattle.world_model.specs.Messages.{Reply, to_hub}
use Rattle.links.specs.Telling.{Telling}

-- A reply of this place, with these words, was handed out. Places with its identifier lie 65,535 apart, and a reply is
-- given when its place was sent and at most 79 first sends later: so it is of no other place.
pub record WasHanded (t : Telling) (place : ℕ) (words : List ℕ) : Type 0 where
  pub number : ℕ
  pub birth : ℕ
  pub bytes : List ℕ
  pub handed : Contains t.handed number
  pub there : slice_get t.told.air number ≡ Some (record { direction = goes.ToHub; bytes = bytes; birth = birth })
  pub reply : to_hub bytes ≡ Some (Reply (identifier_at t.told.board.first place) words)
  pub sent : place ≤ birth
  pub recent : birth < place + (MOST_OPEN + MOST_HELD)
