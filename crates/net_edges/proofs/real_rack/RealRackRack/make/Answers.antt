use Rattle.std.proofs.Common.{◌∙◌, ap, subst, sym}
use Rattle.ipb_base.specs.Faults.{Rose}
use Rattle.net_edges.specs.Links.{RealRackState}
use Rattle.net_edges.proofs.Makes.{faults_rise, faults_stay, kept_still, put_down}
use Rattle.net_edges.proofs.real_rack.RealRackRack.make.Goals as goal

pub returns-clause-kept : goal.returns-clause-kept
returns-clause-kept g c =
    ap (λ (rack : RealRackState). rack.kept) c.make.ensures.rack
    ∙ kept_still c.make.result c.args.spec.now.link c.args.self.now

pub returns-clause-made : goal.returns-clause-made
returns-clause-made g c =
    ap (λ (rack : RealRackState). rack.made) c.make.ensures.rack
    ∙ put_down c.make.result c.args.spec.now.link c.args.self.now

pub returns-clause-faults : goal.returns-clause-faults
returns-clause-faults g c =
    let spec = c.args.spec.now.link in (
      λ failed. subst (λ (rack : RealRackState). Rose c.args.self.now.faults rack.faults) (sym c.make.ensures.rack)
          (faults_rise c.make.result spec c.args.self.now failed),
      c.make.ensures.later,
      λ other. ap (λ (rack : RealRackState). rack.faults) c.make.ensures.rack
          ∙ faults_stay c.make.result spec c.args.self.now other,
    )
