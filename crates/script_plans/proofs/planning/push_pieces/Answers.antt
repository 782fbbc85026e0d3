use Rattle.std.proofs.Common.{append_assoc, ap, map}
use Rattle.script_plans.specs.Plan as spec
use Rattle.script_plans.proofs.Lookups.{drop_at}
use Rattle.script_plans.proofs.planning.push_pieces.Goals as goal

pub loop-op-preserved : goal.loop-op-preserved
loop-op-preserved c =
    let rest =
    ap (map (λ pieces. map (spec.piece_behind c.args.first) pieces))
    (drop_at c.args.packed.now.pieces c.loop-op.op _ c.pieces.ensures) in
    rw (c.in_ok-push.ensures, append_assoc) (rw rest at c.loop-op.invariant)
