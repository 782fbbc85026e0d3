use Rattle.std.proofs.Common.{rules, ◌≡◌, length, map, vec_len, ap, sym, arith, ◌∙◌}
use Rattle.std.proofs.lemmas.Grind.{common_steps, elements}
use Rattle.std.proofs.lemmas.List.{length-map}
use Rattle.turn_pass.specs.Pass.{first_knowledge}
use Rattle.hub_multiplexer.specs.Seats.{MasterState}
use Rattle.hub_multiplexer.proofs.Openings.{knows_opened, master_opened, turns_opened}
use Rattle.hub_multiplexer.proofs.hub.BoardHub.new.Goals as goal

pub returns-clause-master : goal.returns-clause-master
returns-clause-master g c = ap (λ (m : MasterState). m.knows) c.of.ensures
    ∙ (knows_opened _ _ _ c.in-Ok-open_all.ensures.opened ∙ ap (map first_knowledge) c.bells_of.ensures.shown)

pub of-requires : goal.of-requires
of-requires g c =
    let many : vec_len c.args.lanes ≡ length c.args.lanes.items = search rules in
    let long = length-map c.args.lanes.items g.V.Chronicle.entries in
    master_opened _ _ _ _ c.len.result c.in-Ok-open_all.ensures.opened c.in-Ok.ensures.room
    (c.len.ensures ∙ (many ∙ (sym long ∙ sym (ap length c.bells_of.ensures.shown))))

pub returns-clause-boards : goal.returns-clause-boards
returns-clause-boards g c =
    turns_opened _ _ _ c.in-Ok-open_all.ensures.opened
    ∙ (ap length c.bells_of.ensures.shown ∙ length-map c.args.lanes.items g.V.Chronicle.entries)

pub invariant_of-hub : goal.invariant_of-hub
invariant_of-hub g c =
    c.in-Ok-bells_of.ensures.bells
    ∙ sym (turns_opened _ _ _ c.in-Ok-open_all.ensures.opened
    ∙ (ap length c.bells_of.ensures.shown ∙ length-map c.args.lanes.items g.V.Chronicle.entries))

pub returns-clause-hub : goal.returns-clause-hub
returns-clause-hub g c = grind (arith, common_steps)

pub returns-clause-returned : goal.returns-clause-returned
returns-clause-returned g c = grind (arith, common_steps)

pub returns-clause-no_seats : goal.returns-clause-no_seats
returns-clause-no_seats g c = grind (arith, elements)
