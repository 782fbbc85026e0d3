-- What becomes of each datagram that is sent on a simulated link. Profile throughout.
use Rattle.std.specs.Prelude.{ℕ, ◌+◌, ◌-◌, ◌%◌, ◌==◌, ◌&&◌, nat_le, nat_lt, if◌then◌else◌, List, Option, Some, None}
use Rattle.std.specs.List.{slice_get}
use Rattle.rand_core.specs.Steps.{first_words}
use Rattle.rand_pcg.specs.Lcg.{Lcg, started, increment_of}
use Rattle.rand_pcg.specs.Pcg.{multiplier_64, pcg32}
use Rattle.board_specs.specs.declared.spec.Fates.{Fates}
use Rattle.board_specs.specs.declared.spec.Fates.TheVariants.{Text, Noise}
use Rattle.lossy_network.specs.declared.fates.DatagramFate.{DatagramFate}
use Rattle.lossy_network.specs.declared.fates.DatagramFate.TheVariants.{Delivered, Lost, Repeated, Delayed}

-- The fate that a character spells: `l` is lost, `r` is repeated, `1` to `9` is delayed by so many datagrams. `d`, and
-- any other character, delivers.
abbrev pub fate_of_character : ℕ → DatagramFate
fate_of_character character =
    if character == 108 then Lost
    else if character == 114 then Repeated
    else if nat_le 49 character && nat_le character 57 then Delayed (character - 48)
    else Delivered

-- past the end of a text each datagram is delivered
abbrev pub fate_of_letter : Option ℕ → DatagramFate
fate_of_letter None = Delivered
fate_of_letter (Some character) = fate_of_character character

-- the fate that a random word draws, by its last four bits
abbrev pub fate_of_bits : ℕ → DatagramFate
fate_of_bits bits =
    if nat_lt bits 10 then Delivered
    else if nat_lt bits 12 then Lost
    else if nat_lt bits 14 then Repeated
    else if bits == 14 then Delayed 2
    else Delayed 5

abbrev pub fate_of_word : Option ℕ → DatagramFate
fate_of_word None = Delivered
fate_of_word (Some word) = fate_of_bits (word % 16)

-- The generator of a noise and its first words: PCG's XSH RR 64/32 from this state, on the stream 54 of its reference
-- code.
abbrev pub generator_of : ℕ → Lcg
generator_of noise = started 64 multiplier_64 noise (increment_of 64 54)

abbrev pub words_of : ℕ → ℕ → List ℕ
words_of noise count = first_words pcg32 count (generator_of noise)

-- The fate of the datagram at this place of the air, from 0: that of the character at this place of the text, or of the
-- random word at this place.
abbrev pub fate_at : Fates → ℕ → DatagramFate
fate_at (Text text) place = fate_of_letter (slice_get text place)
fate_at (Noise noise) place = fate_of_word (slice_get (words_of noise (place + 1)) place)
