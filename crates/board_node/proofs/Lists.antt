-- Bytes.
use Rattle.std.proofs.Common.{ℕ, suc, ◌<◌, List, [], ◌∷◌, get_or}
use Rattle.packet_codec.specs.Packet.{AreBytes}

-- a list whose items are all below 256 is one of bytes
pub are_bytes : (bytes : List ℕ) → ((i : ℕ) → get_or bytes i 0 < 256) → AreBytes bytes
are_bytes [] fits = tt
are_bytes (byte ∷ bytes) fits = (fits 0, are_bytes bytes (λ i. fits (suc i)))
