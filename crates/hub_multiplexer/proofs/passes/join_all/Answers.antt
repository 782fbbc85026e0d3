use Rattle.std.proofs.Common.{sym, ◌∙◌, arith}
use Rattle.std.proofs.lemmas.Grind.{common_steps}
use Rattle.hub_multiplexer.proofs.Joins.{board_inside, board_joined, last_idle, last_turn, same_length}
use Rattle.hub_multiplexer.proofs.passes.join_all.Goals as goal

pub loop-other-preserved : goal.loop-other-preserved
loop-other-preserved g c =
    let long = same_length c.args.firsts.now.items c.args.others.items
    (c.requires.turns ∙ sym c.requires.other_turns) in
    let inside = board_inside c.args.firsts.now.items c.args.others.items c.loop-other.others.items c.pop.new.self.items
    c.in-Some.other c.in-Some.ensures.items c.loop-other.invariant.0 long in
    board_joined c.args.firsts.now.items c.args.others.items c.loop-other.others.items c.loop-other.firsts.items
    c.pop.new.self.items c.len-board.result c.index_mut.result.now c.in-Some.other c.join.new.pass
    c.in-Some.ensures.items c.loop-other.invariant.0 c.loop-other.invariant.1 inside
    (c.len-board.ensures ∙ c.pop.new.self.ok.0) c.index_mut.ensures.value c.join.ensures

pub loop-other-init : goal.loop-other-init
loop-other-init g c = grind (arith, common_steps)

pub offset_bounds-turns-board : goal.offset_bounds-turns-board
offset_bounds-turns-board g c = grind (arith, common_steps)

pub bounds-turns-board : goal.bounds-turns-board
bounds-turns-board g c = grind (arith, common_steps)

pub index_mut-requires : goal.index_mut-requires
index_mut-requires g c = grind (arith, common_steps)

pub join-requires-clause-turn : goal.join-requires-clause-turn
join-requires-clause-turn g c κs within = grind (arith, common_steps)

pub join-requires-clause-idle : goal.join-requires-clause-idle
join-requires-clause-idle g c κs within = grind (arith, common_steps)

pub join-requires-clause-other_idle : goal.join-requires-clause-other_idle
join-requires-clause-other_idle g c κs within =
    (last_idle c.args.client c.args.others.items c.loop-other.others.items c.pop.new.self.items c.in-Some.other
    c.in-Some.ensures.items c.loop-other.invariant.0 c.requires.others).holds_nothing

pub join-requires-clause-not_first : goal.join-requires-clause-not_first
join-requires-clause-not_first g c κs within =
    let number = (last_idle c.args.client c.args.others.items c.loop-other.others.items c.pop.new.self.items
    c.in-Some.other c.in-Some.ensures.items c.loop-other.invariant.0 c.requires.others).has_number in
    let client = c.requires.client in
    λ first. absurd (omega (arith, number, client, first))

pub join-requires-clause-other_turn : goal.join-requires-clause-other_turn
join-requires-clause-other_turn g c κs within =
    last_turn c.args.others.items c.loop-other.others.items c.pop.new.self.items c.in-Some.other c.args.turns.now
    c.len-board.result c.index-turns-board.result c.in-Some.ensures.items c.loop-other.invariant.0
    c.requires.other_turns (c.len-board.ensures ∙ c.pop.new.self.ok.0) c.index-turns-board.is
