-- The log of a board.
use Rattle.std.specs.Prelude.{ℕ, ◌+◌, ◌≤◌, length}
use Rattle.ipb_base.specs.Word.{AreWords}
use Rattle.ipb_base.specs.Numbers.{payload_of}
use Rattle.transaction_codec.specs.Answer.{reply_room}
use Rattle.world_model.specs.declared.heard.LogEntry.{LogEntry}

-- an entry of the log of a board with this MTU: words, and neither they nor their longest reply are too long, each
-- with its header
pub record IsLoggable (mtu : ℕ) (entry : LogEntry) : Type 0 where
  pub words : AreWords entry.body
  pub body : length entry.body + 1 ≤ payload_of mtu
  pub room : reply_room entry.body + 1 ≤ payload_of mtu
