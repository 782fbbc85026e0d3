use Rattle.board_berth.proofs.Past.{have_records}
use Rattle.board_berth.proofs.berth.Berth.has_records.Goals as goal

pub returns : goal.returns
returns g c =
    let b = c.args.self.now in
    have_records g.L.Link c.a_lane_over_a_link_that_tells_is_true.ensures b.settings b.number b.past b.present
    c.is_sound.ensures.of_past c.is_sound.ensures.of_present
