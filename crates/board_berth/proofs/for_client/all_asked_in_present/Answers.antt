use Rattle.board_berth.proofs.Submitting.{all_asked_there}
use Rattle.board_berth.proofs.for_client.all_asked_in_present.Goals as goal

pub returns : goal.returns
returns g c = all_asked_there g.L.Link c.an_entry_is_spelled_by_numbers.ensures.read c.args.client c.args.berth.now
    c.is_sound.ensures c.requires.all_asked
