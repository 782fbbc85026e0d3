use Rattle.std.proofs.Common.{[], refl, sym, append-nil}
use Rattle.hub_multiplexer.specs.Lanes.{shown_record}
use Rattle.hub_multiplexer.specs.Manner.{FoundLane}
use Rattle.hub_multiplexer.proofs.LaneCalls.{head}
use Rattle.hub_multiplexer.proofs.own.is_greeted_once.Goals as goal

pub returns : goal.returns
returns g c client =
    let lane = c.args.lane.now in
    let found : FoundLane = record {
      head = head g.L.Link.telling lane;
      items = lane.items;
      outcomes = lane.outcomes;
      front = [];
    } in
    record {
      lane = found;
      next = found;
      was = refl;
      now = refl;
      legal = c.tells_its_own.ensures.legal;
      grew = record {
        head = refl;
        added = [];
        entries = sym (append-nil (shown_record g.L.Link.telling lane).entries);
        makers = tt;
      };
      no_body = refl;
      begins = (refl, refl);
    }
