use Rattle.std.proofs.Common.{arith}
use Rattle.std.proofs.lemmas.Grind.{common_steps}
use Rattle.board_greeting.proofs.Standings.{lane_fits, one_more_state}
use Rattle.board_greeting.proofs.standing.states_of.Goals as goal

pub loop-board-preserved : goal.loop-board-preserved
loop-board-preserved g c =
    let i = c.loop-board.invariant in
    let test = c.loop-board-test.true in
    let end = c.loop-board.auto.board-index-end in
    let len = c.push_reserved.ensures.len in
    let many = i.many in
    record {
      so_far = one_more_state c.args.boards.now c.loop-board.board-index c.loop-board.lane c.state_of-state.result.1
          c.board-item.result c.loop-board.states.items c.push_reserved.new.self.items c.state_of-state.result.0
          i.so_far
          (omega (arith, test, end)) c.board-item.is c.state_of-state.ensures.state c.state_of-state.ensures.next
          c.push_reserved.ensures.items;
      few = lane_fits c.loop-board.lane c.state_of-state.result.1 c.loop-board.board-index c.board-item.result i.few
          c.state_of-state.ensures.next;
      many = omega (arith, len, many);
      room = (let cap = c.push_reserved.ensures.capacity in let room = i.room in omega (arith, cap, room));
    }

pub loop-board-init : goal.loop-board-init
loop-board-init g c = grind (arith, common_steps)

pub returns : goal.returns
returns g c = grind (arith, common_steps)

pub push_reserved-requires : goal.push_reserved-requires
push_reserved-requires g c = grind (arith, common_steps)

pub state_of-state-requires : goal.state_of-state-requires
state_of-state-requires g c = grind (arith, common_steps)
