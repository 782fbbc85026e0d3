-- How many datagrams of an air are first sends.
use Rattle.std.proofs.Common.{◌≡◌, ℕ, ◌+◌, List, [], ◌∷◌, ◌++◌, refl, if◌then◌else◌}
use Rattle.world_model.specs.declared.datagram.Datagram.{Datagram}
use Rattle.world_model.specs.Links.{first_sends_from, is_first_send}

-- one datagram more counts where it is a first send
pub count_more : (first count : ℕ) (air : List Datagram) (datagram : Datagram)
    → first_sends_from first count (air ++ datagram ∷ [])
    ≡ (if is_first_send first (first_sends_from first count air) datagram.direction datagram.bytes
    then first_sends_from first count air + 1 else first_sends_from first count air)
count_more first count [] datagram = refl
count_more first count (d ∷ air) datagram =
    count_more first (if is_first_send first count d.direction d.bytes then count + 1 else count) air datagram
