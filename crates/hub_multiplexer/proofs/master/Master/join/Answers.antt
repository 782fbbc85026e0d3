use Rattle.std.proofs.Common.{◌≡◌, ◌+◌, ◌∷◌, List, sym, ap, subst, ◌∙◌}
use Rattle.std.specs.List.{AllByRecursion}
use Rattle.turn_pass.specs.Pass.{PassState}
use Rattle.hub_multiplexer.specs.Seats.{MasterState, SeatState, knows_of, turns_of}
use Rattle.hub_multiplexer.specs.Ends.{HasJoinedBelow, HasJoinedEach, HasTakenIn, HasTakenInEach, IsMaster}
use Rattle.hub_multiplexer.proofs.Seats.{knows_joined, master_joined}
use Rattle.hub_multiplexer.proofs.Everyone.{seat_joined, seat_taken_in}
use Rattle.hub_multiplexer.proofs.master.Master.join.Goals as goal

pub invariant_of-self : goal.invariant_of-self
invariant_of-self g c =
    subst (λ passes. IsMaster c.self.inside.seats passes c.self.inside.room) (sym c.join_all.ensures)
    (master_joined c.self.inside.seats c.self.inside.passes.items c.seat.inside.passes.items c.self.inside.room
    c.self.invariant)

pub returns-clause-taken_in : goal.returns-clause-taken_in
returns-clause-taken_in g c below =
    let passes = c.self.inside.passes.items in
    let others = c.seat.inside.passes.items in
    let client = c.seat.inside.client in
    let same : turns_of others ≡ turns_of passes = ap (λ (s : SeatState). s.turns) c.seat.view_is
    ∙ (c.requires.seat ∙ (sym c.requires.hub.0 ∙ ap (λ (m : MasterState). m.turns) (sym c.self.view_is))) in
    let before : AllByRecursion (HasJoinedBelow client) (knows_of passes) = subst (HasTakenIn client)
    (sym c.self.view_is) (subst (λ (s : SeatState). HasTakenIn s.client c.args.self.now) (sym c.seat.view_is) below)
    in
    let after = subst (AllByRecursion (HasJoinedBelow (client + 1))) (sym (knows_joined passes others))
    (seat_taken_in client passes others same c.seat.invariant.1 before) in
    let taken = subst (λ (ps : List PassState). AllByRecursion (HasJoinedBelow (client + 1)) (knows_of ps))
    (sym c.join_all.ensures) after in
    subst (λ (s : SeatState). AllByRecursion (HasJoinedBelow (s.client + 1)) (knows_of c.join_all.new.firsts.items))
    c.seat.view_is taken

pub returns-clause-in_any_order : goal.returns-clause-in_any_order
returns-clause-in_any_order g c clients each =
    let passes = c.self.inside.passes.items in
    let others = c.seat.inside.passes.items in
    let client = c.seat.inside.client in
    let same : turns_of others ≡ turns_of passes = ap (λ (s : SeatState). s.turns) c.seat.view_is
    ∙ (c.requires.seat ∙ (sym c.requires.hub.0 ∙ ap (λ (m : MasterState). m.turns) (sym c.self.view_is))) in
    let before : AllByRecursion (HasJoinedEach clients) (knows_of passes) =
    subst (HasTakenInEach clients) (sym c.self.view_is) each in
    let after = subst (AllByRecursion (HasJoinedEach (client ∷ clients))) (sym (knows_joined passes others))
    (seat_joined clients client passes others same c.seat.invariant.1 before) in
    let taken = subst (λ (ps : List PassState). AllByRecursion (HasJoinedEach (client ∷ clients)) (knows_of ps))
    (sym c.join_all.ensures) after in
    subst (λ (s : SeatState). AllByRecursion (HasJoinedEach (s.client ∷ clients)) (knows_of c.join_all.new.firsts.items))
    c.seat.view_is taken
