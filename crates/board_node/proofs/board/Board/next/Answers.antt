use Rattle.std.proofs.Common.{◌+◌, ◌∙◌, ℕ, ap, arith}
use Rattle.packet_ids.specs.Identifier.{identifier_at}
use Rattle.world_model.specs.Board.{expected_identifier}
use Rattle.world_model.proofs.BoardLogs.{numbered_most}
use Rattle.board_node.proofs.board.Board.next.Goals as goal

pub overflow_add-self-inside : goal.overflow_add-self-inside
overflow_add-self-inside c =
    let i = c.self.inside in
    omega (arith, c.self.invariant.count, numbered_most i.log.items, i.log.ok, i.log.small)

pub id_at-requires-clause-up_to_end : goal.id_at-requires-clause-up_to_end
id_at-requires-clause-up_to_end c =
    let i = c.self.inside in
    omega (arith, c.self.invariant.count, numbered_most i.log.items, i.log.ok, i.log.small)

pub returns : goal.returns
returns c =
    let i = c.self.inside in
    c.id_at.ensures.identifier ∙ (ap (λ (k : ℕ). identifier_at i.first (k + 1)) c.self.invariant.count
    ∙ ap expected_identifier c.self.view_is)
