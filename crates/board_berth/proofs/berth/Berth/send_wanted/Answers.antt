use Rattle.std.proofs.Common.{◌≡◌, subst}
use Rattle.board_berth.specs.Berths.{BerthState, berth_record}
use Rattle.board_berth.proofs.Beginning.{number_stays, record_stays}
use Rattle.board_berth.proofs.Growing.{state_with}
use Rattle.board_berth.proofs.berth.Berth.send_wanted.Goals as goal

pub returns-clause-record : goal.returns-clause-record
returns-clause-record g c =
    let b = c.self.inside in
    let seen = g.L.Link in
    let after = c.send_in.new.greeting in
    subst (λ (v : BerthState _). berth_record seen.telling (state_with seen.telling seen.number b.settings b.past after)
    ≡ berth_record seen.telling v) c.self.view_is
    (record_stays seen b.settings _ _ b.past b.present after
    (number_stays seen.number _ _ b.present after (λ lane now is. is.number) c.send_in.ensures.same)
    c.send_in.ensures.stretch)
