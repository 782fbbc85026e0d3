use Rattle.std.proofs.Common.{◌+◌, List, sym, subst}
use Rattle.std.specs.List.{AllByRecursion}
use Rattle.turn_pass.specs.Pass.{PassState}
use Rattle.hub_multiplexer.specs.Seats.{knows_of}
use Rattle.hub_multiplexer.specs.Ends.{HasJoinedBelow, HasTakenIn, IsMaster}
use Rattle.hub_multiplexer.proofs.Seats.{knows_after_split, master_split}
use Rattle.hub_multiplexer.proofs.Everyone.{still_taken_in}
use Rattle.hub_multiplexer.proofs.master.Master.seat.Goals as goal

pub invariant_of-self : goal.invariant_of-self
invariant_of-self g c =
    subst (λ passes. IsMaster (c.self.inside.seats + 1) passes c.self.inside.room) (sym c.split_all.ensures.firsts)
    (master_split c.self.inside.seats c.self.inside.passes.items c.self.inside.room c.self.invariant)

pub returns-clause-taken_in : goal.returns-clause-taken_in
returns-clause-taken_in g c n below =
    let passes = c.self.inside.passes.items in
    let before : AllByRecursion (HasJoinedBelow n) (knows_of passes) = subst (HasTakenIn n)
    (sym c.self.view_is) below in
    let after = subst (AllByRecursion (HasJoinedBelow n)) (sym (knows_after_split passes))
    (still_taken_in n (knows_of passes) before) in
    subst (λ (ps : List PassState). AllByRecursion (HasJoinedBelow n) (knows_of ps))
    (sym c.split_all.ensures.firsts) after
