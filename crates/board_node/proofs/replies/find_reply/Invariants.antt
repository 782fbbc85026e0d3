use Rattle.std.proofs.Common.{◌≡◌, drop}
use Rattle.world_model.specs.Board.{with_id}
use Rattle.board_node.proofs.replies.find_reply.Given as goal

-- what is looked for is found in what is left
abbrev pub invariant-loop-reply : goal.invariant-loop-reply
invariant-loop-reply l = with_id l.id (drop l.reply-index l.replies) ≡ with_id l.id l.replies
