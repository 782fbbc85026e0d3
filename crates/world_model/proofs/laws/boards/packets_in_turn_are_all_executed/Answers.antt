use Rattle.std.proofs.Common.{◌+◌, ◌∙◌, ap, ℕ, arith}
use Rattle.std.proofs.lemmas.List.{length-map}
use Rattle.packet_ids.specs.Identifier.{identifier_at}
use Rattle.world_model.specs.Board.{body_of, numbered_count}
use Rattle.world_model.specs.Hearings.{after}
use Rattle.world_model.proofs.BoardSteps.{grew, same_first}
use Rattle.world_model.proofs.BoardTurns.{went_on}
use Rattle.world_model.proofs.laws.boards.packets_in_turn_are_all_executed.Goals as goal

pub returns-clause-replied : goal.returns-clause-replied
returns-clause-replied c = λ board datagrams all. (went_on board datagrams all).replied

pub returns-clause-executed : goal.returns-clause-executed
returns-clause-executed c = λ board datagrams all.
    omega (
      arith,
      (went_on board datagrams all).executed,
      length-map board.log body_of,
      length-map
          (after board datagrams).log body_of,
    )

pub returns-clause-next : goal.returns-clause-next
returns-clause-next c = λ board datagrams all.
    ap (λ (f : ℕ). identifier_at f (numbered_count (after board datagrams).log + 1))
    (same_first board (after board datagrams) (grew board datagrams))
    ∙ ap (λ (k : ℕ). identifier_at board.first (k + 1)) (went_on board datagrams all).count
