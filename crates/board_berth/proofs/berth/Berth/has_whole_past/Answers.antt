use Rattle.board_berth.proofs.Past.{have_whole_records}
use Rattle.board_berth.proofs.berth.Berth.has_whole_past.Goals as goal

pub returns : goal.returns
returns g c =
    let b = c.args.self.now in
    have_whole_records g.L.Link c.a_finished_lane_is_whole.ensures b.settings b.number b.past c.is_sound.ensures.of_past
