use Rattle.std.proofs.Common.{refl}
use Rattle.board_berth.proofs.Beginnings.{begins_either, none_begins}
use Rattle.board_berth.proofs.for_client.begin_for.Goals as goal

pub returns-then-not-wants_greeting : goal.returns-then-not-wants_greeting
returns-then-not-wants_greeting g c = none_begins g.L.Link c.args.client c.args.berth.now c.args.berth.now
    c.is_sound.ensures refl

pub returns : goal.returns
returns g c = begins_either g.L.Link c.args.client c.args.berth.now c.begin-begun.new.self c.begin-begun.result
    c.is_sound.ensures c.is_sound-2.ensures c.begin-begun.ensures.begun c.begin-begun.ensures.same
