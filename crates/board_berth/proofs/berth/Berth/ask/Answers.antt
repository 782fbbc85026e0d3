use Rattle.std.proofs.Common.{subst}
use Rattle.turn_pass.specs.Record.{GrowsBy}
use Rattle.board_berth.specs.Berths.{BerthState, berth_record}
use Rattle.board_berth.proofs.Growing.{record_grows, state_with}
use Rattle.board_berth.proofs.berth.Berth.ask.Goals as goal

pub returns-clause-grows : goal.returns-clause-grows
returns-clause-grows g c =
    let b = c.self.inside in
    let tells = g.L.Link.telling in
    let after = state_with tells g.L.Link.number b.settings b.past c.ask_in.new.greeting in
    subst (λ (v : BerthState _). GrowsBy c.args.client (berth_record tells v) (berth_record tells after)) c.self.view_is
    (record_grows tells g.L.Link.number c.args.client b.settings b.past b.present c.ask_in.new.greeting
    c.ask_in.ensures.grows)
