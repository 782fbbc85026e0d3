-- What the bus of the worked examples answers to a read.
use Rattle.std.proofs.Common.{◌≡◌, ℕ, [], ◌∷◌, Some, refl}
use Rattle.std.specs.List.{slice_get}
use Rattle.transaction_codec.specs.Request.{request_at}
use Rattle.board_bus.specs.Bodies.{replay}
use Rattle.board_history.specs.Examples.{seven, read_body}

pub answered : slice_get (replay seven (read_body ∷ [])).replies 0 ≡ Some (0x20000100 ∷ 7 ∷ [])
unfolding request_at
answered = refl

-- answers that are alike carry one word
pub apart : (a b : ℕ) → Some (0x20000100 ∷ a ∷ []) ≡ Some (0x20000100 ∷ b ∷ []) → a ≡ b
apart a b e = cc
