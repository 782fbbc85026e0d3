use Rattle.std.proofs.Common.{◌≡◌, Err, subst, sym}
use Rattle.ipb_outside.specs.Faults.{RisesExactlyIf}
use Rattle.links.specs.declared.rack.RackFault.TheVariants.{Failed}
use Rattle.lossy_network.specs.Racks.{RackState}
use Rattle.lossy_network.proofs.Makes.{faults_count}
use Rattle.lossy_network.proofs.sim_rack.SimRackRack.make.Goals as goal

pub returns-clause-faults : goal.returns-clause-faults
returns-clause-faults c =
    subst (λ (rack : RackState). RisesExactlyIf (c.make.result ≡ Err Failed) c.args.self.now.faults rack.faults)
    (sym c.make.ensures.rack) (faults_count c.make.result c.args.spec.now.link c.args.self.now c.counts_fit.ensures.faults)
