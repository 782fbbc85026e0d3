-- Why a rack makes no link.
use Rattle.std.proofs.Common.{◌≡◌, ℕ, ◌<◌, ◌^◌, Bool, true, false, List, Result, Ok, Err, refl, is_none}
use Rattle.std.proofs.Common.{arith}
use Rattle.board_specs.specs.declared.spec.LinkSpec.{LinkSpec}
use Rattle.board_specs.specs.declared.spec.LinkSpec.TheVariants.{Sim, Udp}
use Rattle.ipb_outside.specs.Faults.{RisesExactlyIf}
use Rattle.links.specs.declared.rack.RackFault.{RackFault}
use Rattle.links.specs.declared.rack.RackFault.TheVariants.{Failed, NoMemory}
use Rattle.lossy_network.specs.Network.{Network}
use Rattle.lossy_network.specs.Racks.{RackState, after_make, fails_to_make, is_named, link_for}

pub none_fails : (rack : RackState) (spec : LinkSpec) (others : ℕ) (fail : List ℕ) → is_named rack ≡ false
    → is_none (link_for others fail spec) ≡ false → fails_to_make rack spec ≡ false
none_fails rack (Sim mtu buffers first ranges fates) others fail named simulated = rw named refl
none_fails rack (Udp address port wait) others fail named simulated = absurd cc

-- an answer that is no failure, where none is due
pub no_failure : {A : Type 0} (fails : Bool) (result : Result A RackFault) → fails ≡ false
    → (result ≡ Err Failed → ⊥) → (result ≡ Err Failed → fails ≡ true) × (fails ≡ true → result ≡ Err Failed)
no_failure fails result none other = (λ e. absurd (other e), λ t. absurd cc)

-- the faults rise where it fails
pub faults_count : (result : Result Network RackFault) (spec : LinkSpec) (rack : RackState) → rack.faults < 2 ^ 64
    → RisesExactlyIf (result ≡ Err Failed) rack.faults (after_make result spec rack).faults
faults_count (Ok link) spec rack small = (λ failed. absurd cc, omega arith, λ other. refl)
faults_count (Err Failed) spec rack small = (λ failed. omega arith, omega arith, λ other. absurd (other refl))
faults_count (Err NoMemory) spec rack small = (λ failed. absurd cc, omega arith, λ other. refl)
