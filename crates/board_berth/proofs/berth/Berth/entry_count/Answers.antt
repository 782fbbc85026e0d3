use Rattle.std.proofs.Common.{◌≡◌, ◌∙◌, ◌+◌, ap, length, length-append, subst, arith}
use Rattle.board_berth.specs.Berths.{BerthState, berth_record}
use Rattle.board_berth.specs.Records.{entries_from, stretch_of, stretches}
use Rattle.board_berth.proofs.Growing.{all_entries}
use Rattle.board_berth.proofs.berth.Berth.entry_count.Goals as goal

pub returns : goal.returns
returns g c =
    let b = c.self.inside in
    let tells = g.L.Link.telling in
    let front = entries_from 0 (stretches tells b.past) in
    let last = entries_from (length (stretches tells b.past)) (stretch_of tells b.present) in
    let longer = ap (λ es. length es) (all_entries tells b.past b.present) ∙ length-append front last in
    let entries = c.self.invariant.entries_are in
    let count = c.count.ensures.count (length (stretches tells b.past)) in
    subst (λ (v : BerthState _). b.entries + c.count.result ≡ length (berth_record tells v).entries) c.self.view_is
    (omega (arith, longer, entries, count))
