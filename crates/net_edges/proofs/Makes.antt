-- What a make leaves of a rack.
use Rattle.std.proofs.Common.{◌≡◌, Result, Ok, Err, refl, arith}
use Rattle.ipb_base.specs.Faults.{Rose}
use Rattle.board_specs.specs.declared.spec.LinkSpec.{LinkSpec}
use Rattle.links.specs.declared.rack.RackFault.{RackFault}
use Rattle.links.specs.declared.rack.RackFault.TheVariants.{Failed, NoMemory}
use Rattle.links.specs.Racks.{made_after}
use Rattle.net_edges.specs.declared.any_link.AnyLink.{AnyLink}
use Rattle.net_edges.specs.Links.{RealRackState, after_make}

pub kept_still : (result : Result AnyLink RackFault) (spec : LinkSpec) (rack : RealRackState)
    → (after_make result spec rack).kept ≡ rack.kept
kept_still (Ok link) spec rack = refl
kept_still (Err Failed) spec rack = refl
kept_still (Err NoMemory) spec rack = refl

pub put_down : (result : Result AnyLink RackFault) (spec : LinkSpec) (rack : RealRackState)
    → (after_make result spec rack).made ≡ made_after result spec rack.made
put_down (Ok link) spec rack = refl
put_down (Err Failed) spec rack = refl
put_down (Err NoMemory) spec rack = refl

pub faults_rise : (result : Result AnyLink RackFault) (spec : LinkSpec) (rack : RealRackState) → result ≡ Err Failed
    → Rose rack.faults (after_make result spec rack).faults
faults_rise (Ok link) spec rack is = absurd cc
faults_rise (Err Failed) spec rack is = omega arith
faults_rise (Err NoMemory) spec rack is = absurd cc

pub faults_stay : (result : Result AnyLink RackFault) (spec : LinkSpec) (rack : RealRackState)
    → (result ≡ Err Failed → ⊥) → (after_make result spec rack).faults ≡ rack.faults
faults_stay (Ok link) spec rack other = refl
faults_stay (Err Failed) spec rack other = absurd (other refl)
faults_stay (Err NoMemory) spec rack other = refl
