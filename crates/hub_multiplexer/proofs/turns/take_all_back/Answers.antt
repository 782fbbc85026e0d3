use Rattle.std.proofs.Common.{◌≡◌, ◌++◌, ◌∷◌, [], is_some, true, map, reverse, ap, subst, ◌∙◌, arith}
use Rattle.std.proofs.lemmas.List.{map-append}
use Rattle.turn_pass.specs.Pass.{Knowledge}
use Rattle.hub_multiplexer.specs.Openings.{openings_of}
use Rattle.hub_multiplexer.proofs.Openings.{last_fresh, one_back}
use Rattle.hub_multiplexer.proofs.turns.take_all_back.Goals as goal

pub loop-turn-preserved : goal.loop-turn-preserved
loop-turn-preserved g c =
    let entries = g.V.Chronicle.entries in
    let popped = c.in-Some-Some in
    let back = one_back _ _ _ _ _ _ (map entries c.loop-turn.values.items)
    (entries c.in-Some.value) c.loop-turn.invariant.0 popped.ensures.items popped.ensures'.items
    c.in-Some.ensures.told in
    let records : map entries c.push_reserved.new.self.items ≡ map entries c.loop-turn.values.items ++ entries
    c.in-Some.value ∷ [] =
    ap (map entries) c.push_reserved.ensures.items
    ∙ map-append entries c.loop-turn.values.items (c.in-Some.value ∷ []) in (
      back.0,
      ap (λ l. l ++ reverse (openings_of c.pop-in-loop-turn.new.self.items)) records
          ∙ (back.1 ∙ c.loop-turn.invariant.1),
      omega (
        arith,
        c.push_reserved.ensures.len,
        c.push_reserved.ensures.capacity,
        popped.ensures.len,
        c.loop-turn.invariant.2,
      ),
    )

pub take_back-requires-clause-turn : goal.take_back-requires-clause-turn
take_back-requires-clause-turn g c κs within =
    let popped = c.in-Some-Some in
    (last_fresh _ _ _ _ _ _ c.loop-turn.invariant.0 popped.ensures.items popped.ensures'.items).0

pub take_back-requires-clause-idle : goal.take_back-requires-clause-idle
take_back-requires-clause-idle g c κs within =
    let popped = c.in-Some-Some in
    (last_fresh _ _ _ _ _ _ c.loop-turn.invariant.0 popped.ensures.items popped.ensures'.items).1.holds_nothing

pub unreachable-requires : goal.unreachable-requires
unreachable-requires g c =
    let popped = c.in-Some-Some in
    let fresh = (last_fresh _ _ _ _ _ _ c.loop-turn.invariant.0 popped.ensures.items popped.ensures'.items).1 in
    let some = subst (λ there. is_some there ≡ true) c.in_default-take_back.is (c.take_back.ensures.only
    (ap (λ (k : Knowledge). k.number) fresh.knows_opening) (ap (λ (k : Knowledge). k.made) fresh.knows_opening)) in
    absurd cc
