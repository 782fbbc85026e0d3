use Rattle.std.proofs.Common.{List, ap, sym, ◌∙◌, arith}
use Rattle.world_model.specs.declared.offered.OpenPlace.{OpenPlace}
use Rattle.world_model.specs.Hub.{least, places}
use Rattle.world_model.proofs.Places.{rising_end}
use Rattle.reliable_engine.specs.declared.slots.TheConstants.{SLOTS}
use Rattle.reliable_engine.specs.Slots.{open_from}
use Rattle.reliable_engine.proofs.InSlots.{least_any, none_between}
use Rattle.reliable_engine.proofs.open_places.OpenPlaces.low.Goals as goal

pub returns-then-self : goal.returns-then-self
returns-then-self c =
    let i = c.self.inside in
    let os = open_from i.slots i.low SLOTS in
    sym (least_any i.low i.end c.args.next (places os) c.self.invariant.lowest c.if-self.true)
    ∙ ap (λ (qs : List OpenPlace). least (places qs) c.args.next) c.self.view_is

pub returns-else-self : goal.returns-else-self
returns-else-self c =
    let i = c.self.inside in
    let os = open_from i.slots i.low SLOTS in
    let from = rising_end i.low i.end (places os) c.self.invariant.ends.rising in
    let none = none_between i.low i.end os c.self.invariant.ends.rising (omega arith) in
    ap (λ (qs : List OpenPlace). least (places qs) c.args.next) (sym none ∙ c.self.view_is)
