-- What a waiter finds of the next datagram of its link, and when the link's receive can answer at once. Profile.
use Rattle.std.specs.Prelude.{ℕ, ◌+◌, ◌-◌, ◌%◌, ◌^◌, ◌==◌, Bool, true, false, if◌then◌else◌}
use Rattle.links.specs.declared.found.Found.{Found}
use Rattle.links.specs.declared.found.Found.TheVariants.{Nothing, Arrival, Silence}

-- a whole wait was quiet, and the link, which has sent so many datagrams, has sent none since it began
abbrev pub is_silence : Found → ℕ → Bool
is_silence Nothing sends = false
is_silence Arrival sends = false
is_silence (Silence before) sends = before == sends

-- a datagram of the board or an error is there, or there was such a wait
abbrev pub is_ready : Found → ℕ → Bool
is_ready Nothing sends = false
is_ready Arrival sends = true
is_ready (Silence before) sends = before == sends

-- the word of 64 bits that stands for what was found
abbrev pub word_of : Found → ℕ
word_of Nothing = 0
word_of Arrival = 2 ^ 64 - 1
word_of (Silence sends) = (sends + 1) % 2 ^ 64

abbrev pub found_in : ℕ → Found
found_in word = if word == 0 then Nothing else (if word == 2 ^ 64 - 1 then Arrival else Silence (word - 1))
