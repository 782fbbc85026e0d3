-- What a call answers that hears a datagram.
use Rattle.std.specs.Prelude.{◌≡◌, ℕ, List, [], Option, Some, None, Result, MatchResult}
use Rattle.world_model.specs.declared.heard.Heard.{Heard}
use Rattle.world_model.specs.Board.{Board, Hearing}
use Rattle.ipb_base.specs.declared.no_memory.NoMemory.{NoMemory}

-- the bytes of an answer, and none where there is no answer
abbrev pub answer_bytes : Option (List ℕ) → List ℕ
answer_bytes None = []
answer_bytes (Some bytes) = bytes

-- What was done, the board after it and the bytes that it answers are those of a hearing. Or memory ran out: the board
-- is as it was, and nothing is answered.
abbrev pub IsHeard : Hearing → Board → Board → List ℕ → Result Heard NoMemory → Type 0
IsHeard hearing old new out result = MatchResult result
    (λ heard. (heard ≡ hearing.heard) × (new ≡ hearing.board) × (out ≡ answer_bytes hearing.answer))
    (λ _. (new ≡ old) × (out ≡ []))
