use Rattle.std.proofs.Common.{List, ℕ, arith, subst}
use Rattle.capture_reader.specs.Proved.{ProvesByReply, ProvesByStatus}
use Rattle.capture_reader.specs.Describing.{IsGreatest}
use Rattle.capture_reader.proofs.Places.{both_greatest}
use Rattle.capture_reader.proofs.executed.shown_by.Goals as goal

pub returns : goal.returns
returns c =
    both_greatest c.args.first c.args.sent c.shown_by_reply.result c.shown_by_status.result c.max.result
    c.args.item.now c.if-item.false
    (subst (λ (bytes : List ℕ). IsGreatest (ProvesByReply c.args.first c.args.sent bytes) c.shown_by_reply.result)
    c.as_slice-bytes.ensures c.shown_by_reply.ensures)
    (subst (λ (bytes : List ℕ). IsGreatest (ProvesByStatus c.args.first c.args.sent bytes) c.shown_by_status.result)
    c.as_slice-bytes.ensures c.shown_by_status.ensures)
    (omega (arith, c.max.ensures))
