use Rattle.std.proofs.Common.{◌∙◌, ◌<◌, ◌^◌, List, ap, sym, length, subst, arith}
use Rattle.board_berth.specs.declared.greeting.Greeting.{Greeting}
use Rattle.board_berth.specs.Berths.{BerthState, IsKept, berth_record}
use Rattle.board_berth.specs.Greetings.{IsMet, IsOver, number_in}
use Rattle.board_berth.proofs.Beginning.{kept_on}
use Rattle.board_berth.proofs.berth.Berth.put.Goals as goal

pub invariant_of-self : goal.invariant_of-self
invariant_of-self g c =
    let b = c.self.inside in
    let seen = g.L.Link in
    let next = c.args.greeting in
    let number = number_in seen.number b.present in
    let met = subst (λ (v : BerthState _). IsMet seen v.settings v.number next) (sym c.self.view_is) c.requires.met in
    let over = subst (λ (v : BerthState _). IsOver v.present) (sym c.self.view_is) c.requires.over in
    let counted = c.entry_count-self-inside.ensures
    ∙ ap (λ (v : BerthState _). length (berth_record seen.telling v).entries) (sym c.self.view_is) in
    let fewer = subst (λ (v : BerthState _). length (berth_record seen.telling v).entries < 2 ^ 62) (sym c.self.view_is)
    c.requires.few in
    subst (λ (past : List (Greeting _)). IsKept seen b.settings (number_in seen.number next) past next
    c.entry_count-self-inside.result c.saturating_add-self-inside.result) (sym c.add.ensures)
    (kept_on seen b.settings number b.past b.present next b.entries b.greetings c.entry_count-self-inside.result
    c.saturating_add-self-inside.result c.self.invariant c.keeps_all.ensures over met counted
    (omega (arith, counted, fewer)) c.saturating_add-self-inside.ensures)
