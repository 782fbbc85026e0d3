use Rattle.std.proofs.Common.{◌+◌, ◌∙◌, ap, ℕ, true, [], ◌∷◌}
use Rattle.packet_ids.specs.Identifier.{identifier_at}
use Rattle.world_model.specs.Board.{Hearing, numbered_count}
use Rattle.world_model.specs.Hearings.{after}
use Rattle.world_model.proofs.BoardSteps.{grew, numbered_more, same_first}
use Rattle.world_model.proofs.BoardTurns.{entry_of, numbered_heard, was_expected}
use Rattle.world_model.proofs.laws.boards.the_numbered_entries_make_the_expected_identifier.Goals as goal

pub returns-clause-expected : goal.returns-clause-expected
returns-clause-expected c = λ board datagrams.
    ap (λ (f : ℕ). identifier_at f (numbered_count (after board datagrams).log + 1))
    (same_first board (after board datagrams) (grew board datagrams))

pub returns-clause-in_turn : goal.returns-clause-in_turn
returns-clause-in_turn c = λ board datagram order id body said not heard.
    let w = was_expected board datagram order id body said not heard in
    let h = numbered_heard board datagram order id body said w.short w.next in
    (w.next, ap (λ (x : Hearing). numbered_count x.board.log) h ∙ numbered_more board.log (entry_of true order body ∷ []))
