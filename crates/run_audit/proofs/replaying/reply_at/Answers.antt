use Rattle.std.proofs.Common.{arith, ltb, rules, ◌∙◌}
use Rattle.std.proofs.lemmas.List.Sorted.{IsPartitionPoint-from_clause}
use Rattle.run_audit.proofs.Replays.{partitioned, replies_end, reply_found, reply_missed}
use Rattle.run_audit.proofs.replaying.reply_at.Goals as goal

pub returns-then-at-replies : goal.returns-then-at-replies
returns-then-at-replies c =
    let point = IsPartitionPoint-from_clause (λ r. ltb r.place c.args.place) _ _ c.partition_point-at.ensures.partitioned
    (partitioned c.args.replies.now c.args.place c.requires) (λ a r q k. search rules) in
    replies_end c.args.replies.now c.args.place _ c.requires point (omega arith)

pub returns-then-first-place : goal.returns-then-first-place
returns-then-first-place c =
    let point = IsPartitionPoint-from_clause (λ r. ltb r.place c.args.place) _ _ c.partition_point-at.ensures.partitioned
    (partitioned c.args.replies.now c.args.place c.requires) (λ a r q k. search rules) in
    reply_missed c.args.replies.now c.args.place c.partition_point-at.result c.index-replies-at.result c.requires point
    c.if-at-replies.false c.index-replies-at.is c.if-first-place.true

pub returns : goal.returns
returns c =
    let point = IsPartitionPoint-from_clause (λ r. ltb r.place c.args.place) _ _ c.partition_point-at.ensures.partitioned
    (partitioned c.args.replies.now c.args.place c.requires) (λ a r q k. search rules) in
    c.as_slice.ensures
    ∙ reply_found c.args.replies.now c.args.place c.partition_point-at.result c.index-replies-at.result point
    c.if-at-replies.false c.index-replies-at.is c.if-first-place.false
