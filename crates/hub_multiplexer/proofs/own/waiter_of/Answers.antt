use Rattle.std.proofs.Common.{Option, ap, ◌∙◌}
use Rattle.links.specs.Telling.{Telling}
use Rattle.hub_lane.specs.Records.{record_shown}
use Rattle.hub_multiplexer.specs.Lanes.{shown_record}
use Rattle.hub_multiplexer.proofs.own.waiter_of.Goals as goal

pub returns : goal.returns
returns g c =
    let old = c.args.lane.now in
    ap (shown_record g.L.Link.telling) c.waiter.ensures.lane
    ∙ ap (λ (t : Option Telling). record_shown old.number old.settings old.status t old.items) c.waiter.ensures.shows.telling
