use Rattle.std.proofs.Common.{ap, length, arith}
use Rattle.board_berth.specs.Berths.{BerthState, berth_record}
use Rattle.board_berth.proofs.Beginning.{on_any_ok, record_stays, same_number_in, same_stretch}
use Rattle.board_berth.proofs.berth.Berth.next_link.Goals as goal

pub returns-clause-few : goal.returns-clause-few
returns-clause-few g c =
    let b = c.self.inside in
    let seen = g.L.Link in
    let after = c.another_link.new.self in
    let same = record_stays seen b.settings _ _ b.past b.present after
    (same_number_in seen b.present after c.another_link.ensures.same) (same_stretch seen b.present after
    c.another_link.ensures.same) in
    let before = ap (λ (v : BerthState _). length (berth_record seen.telling v).entries) c.self.view_is in
    let now = ap (λ r. length r.entries) same in
    on_any_ok c.match-another_link.result
    (omega (arith, now, before, c.entry_count.ensures, c.if-entry_count-ge-MAX_ENTRIES.false))
