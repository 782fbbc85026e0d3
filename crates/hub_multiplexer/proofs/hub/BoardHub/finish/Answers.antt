use Rattle.std.proofs.Common.{◌+◌, ◌∙◌, ap, arith, length, map, refl, sym, subst}
use Rattle.std.proofs.lemmas.Grind.{common_steps}
use Rattle.std.proofs.lemmas.List.{length-map}
use Rattle.turn_pass.specs.Pass.{PassState}
use Rattle.hub_multiplexer.specs.Ends.{AreEnded, HasTakenIn}
use Rattle.hub_multiplexer.specs.Seats.{HubState, MasterState}
use Rattle.hub_multiplexer.proofs.Everyone.{all_taken_in}
use Rattle.hub_multiplexer.proofs.Openings.{room_enough}
use Rattle.hub_multiplexer.proofs.Seats.{last_of}
use Rattle.hub_multiplexer.proofs.hub.BoardHub.finish.Goals as goal

pub close_all-requires-clause-last : goal.close_all-requires-clause-last
close_all-requires-clause-last g c κs within =
    let master = c.master.invariant in
    last_of (c.master.inside.seats + 1) c.master.inside.passes.items master.firsts master.no_entries
    (all_taken_in c.master.inside.seats c.master.inside.passes.items master.firsts
    (subst (λ (m : MasterState). HasTakenIn (m.seats + 1) m) (sym c.master.view_is) c.requires.joined))

pub close-requires-clause-turn : goal.close-requires-clause-turn
close-requires-clause-turn g c κs within =
    ap (λ (m : MasterState). m.room) c.master.view_is
    ∙ (c.requires.hub.1 ∙ sym (ap (λ (h : HubState). h.room) c.self.view_is))

pub close-requires-clause-idle : goal.close-requires-clause-idle
close-requires-clause-idle g c κs within = grind (arith, common_steps)

pub close_all-requires-clause-turns : goal.close_all-requires-clause-turns
close_all-requires-clause-turns g c κs within =
    ap (λ (m : MasterState). m.turns) c.master.view_is
    ∙ (c.requires.hub.0 ∙ sym (ap (λ (h : HubState). h.turns) c.self.view_is))

pub close_all-requires-clause-room : goal.close_all-requires-clause-room
close_all-requires-clause-room g c κs within =
    let passes = c.master.inside.passes.items in
    let turns = c.self.inside.turns in
    let many = ap (λ l. length l) (close_all-requires-clause-turns g c κs within) in
    let each = length-map passes (λ (pass : PassState). pass.turn) in
    let enough = room_enough (length passes) c.master.inside.room _ c.close.result c.master.invariant.room_fits
    c.close.ensures refl in
    let long = turns.ok.0 in
    let capacity = c.into_vec-lanes.ensures.capacity in
    omega (arith, many, each, enough, long, capacity)

pub close_all-requires-clause-empty : goal.close_all-requires-clause-empty
close_all-requires-clause-empty g c κs within = c.into_vec-lanes.ensures.empty

pub returns : goal.returns
returns g c =
    subst (λ (m : MasterState). AreEnded m.knows (map g.V.Chronicle.entries c.close_all.new.values.items))
    c.master.view_is c.close_all.ensures
