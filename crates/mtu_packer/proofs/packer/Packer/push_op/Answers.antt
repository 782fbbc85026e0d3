use Rattle.std.proofs.Common.{◌≡◌, ◌∙◌, ap, arith, length}
use Rattle.mtu_packer.specs.Cutting as spec
use Rattle.mtu_packer.specs.Progress.{step}
use Rattle.mtu_packer.proofs.Steps.{run_more, step-payload, step-places}
use Rattle.mtu_packer.proofs.packer.Packer.push_op.Goals as goal

pub loop-k-preserved : goal.loop-k-preserved
loop-k-preserved c =
    let done = c.in_ok-push.ensures in
    let stepped : c.push.new.self ≡ step c.loop-k.self (spec.piece c.self.inside.payload c.args.op.now c.loop-k.k) =
    done.stepped ∙ ap (step c.loop-k.self) c.piece.ensures in
    let before = c.loop-k.invariant in
    record {
      taken = run_more c.args.self.now c.loop-k.self c.push.new.self c.self.inside.payload c.args.op.now c.loop-k.k
          before.taken stepped;
      payload = ap (λ p. p.payload) stepped ∙ step-payload c.loop-k.self _ ∙ before.payload;
      count = ap (λ p. length p.places) stepped
          ∙ omega (
            arith,
            step-places c.loop-k.self (spec.piece c.self.inside.payload c.args.op.now c.loop-k.k),
            before.count,
          );
      within = done.within;
    }
