-- A rack of simulated links. Profile.
use Rattle.std.specs.Prelude.{ℕ, ◌==◌, ◌||◌, Bool, List, [], ◌∷◌, ◌++◌, length, Option, Some, None, is_none, Result, Ok, Err}
use Rattle.std.specs.List.{list_any}
use Rattle.ipb_base.specs.Faults.{one_more}
use Rattle.board_specs.specs.declared.spec.LinkSpec.{LinkSpec}
use Rattle.board_specs.specs.declared.spec.LinkSpec.TheVariants.{Sim, Udp}
use Rattle.links.specs.declared.rack.RackFault.{RackFault}
use Rattle.links.specs.declared.rack.RackFault.TheVariants.{Failed, NoMemory}
use Rattle.links.specs.Racks.{fresh_board}
use Rattle.lossy_network.specs.Network.{Network, new_network, with_number}

-- A rack of simulated links: the numbers, from 1, of the makes that fail, and of the calls that fail on each link; the
-- makes so far, the specs that links were made of, in order, the faults, and the links given back, in order.
pub record RackState : Type 0 where
  pub fail_makes : List ℕ
  pub fail_calls : List ℕ
  pub makes : ℕ
  pub made : List LinkSpec
  pub faults : ℕ
  pub kept : List Network

abbrev pub new_rack : List ℕ → List ℕ → RackState
new_rack fail_makes fail_calls =
    record { fail_makes = fail_makes; fail_calls = fail_calls; makes = 0; made = []; faults = 0; kept = [] }

-- the link that is made for a simulated board, after so many others; none is made here for one on a network
abbrev pub link_for : ℕ → List ℕ → LinkSpec → Option Network
link_for others fail (Sim mtu buffers first ranges fates) =
    Some (with_number others (new_network (fresh_board mtu buffers first ranges) fates fail))
link_for others fail (Udp address port wait) = None

-- A make fails where its number is named, and for a board on a network.
abbrev pub is_named : RackState → Bool
is_named rack = list_any (λ number. number == one_more rack.makes) rack.fail_makes

abbrev pub fails_to_make : RackState → LinkSpec → Bool
fails_to_make rack spec = is_named rack || is_none (link_for (length rack.made) rack.fail_calls spec)

-- a make is counted, and its spec put down where a link was made, or a fault counted
abbrev pub after_make : Result Network RackFault → LinkSpec → RackState → RackState
after_make (Ok link) spec rack = record rack { makes = one_more rack.makes; made = rack.made ++ spec ∷ [] }
after_make (Err Failed) spec rack = record rack { makes = one_more rack.makes; faults = one_more rack.faults }
after_make (Err NoMemory) spec rack = record rack { makes = one_more rack.makes }

-- a link given back stands behind the others
abbrev pub after_keep : Network → RackState → RackState
after_keep link rack = record rack { kept = rack.kept ++ link ∷ [] }
