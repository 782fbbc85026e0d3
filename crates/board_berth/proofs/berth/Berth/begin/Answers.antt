use Rattle.board_berth.proofs.Beginning.{begun_so, result_grows, same_grows}
use Rattle.board_berth.proofs.berth.Berth.begin.Goals as goal

pub returns-in-Ok-clause-begun : goal.returns-in-Ok-clause-begun
returns-in-Ok-clause-begun g c = begun_so g.L.Link c.args.self.now c.next_link.new.self c.args.client
    c.begin_over.new.self c.begin_over.result c.next_link.ensures.same c.begin_over.ensures.follows

pub returns-in-Ok-clause-grows : goal.returns-in-Ok-clause-grows
returns-in-Ok-clause-grows g c = result_grows g.L.Link c.args.self.now c.next_link.new.self c.args.client
    c.begin_over.new.self c.begin_over.result c.next_link.ensures.same c.begin_over.ensures.follows
    c.begin_over.ensures.same

pub returns-in-Err-clause-grows : goal.returns-in-Err-clause-grows
returns-in-Err-clause-grows g c = same_grows g.L.Link c.args.client c.args.self.now c.next_link.new.self
    c.next_link.ensures.same
