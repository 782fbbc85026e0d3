use Rattle.std.proofs.Common.{rules, ◌≡◌, ◌<◌, ◌++◌, ◌∷◌, [], map, length, ap, sym, subst, ◌∙◌, arith, vec_len}
use Rattle.std.proofs.lemmas.Grind.{common_steps}
use Rattle.std.proofs.lemmas.List.{map-append}
use Rattle.hub_multiplexer.specs.Ends.{AreEnded}
use Rattle.hub_multiplexer.proofs.Ends.{one_closed}
use Rattle.hub_multiplexer.proofs.turns.close_all.Goals as goal

pub loop-turns-preserved : goal.loop-turns-preserved
loop-turns-preserved g c =
    let entries = g.V.Chronicle.entries in
    let inv = c.loop-turns.invariant in
    let long : vec_len c.loop-turns.turns ≡ length c.loop-turns.turns.items = search rules in
    let busy : 0 < length c.loop-turns.turns.items = omega (arith, long, c.remove-turn.ensures.len) in
    let all = one_closed _ inv.3.0 _ _ _ _ c.remove-turn.result c.remove-pass.result
    (map entries c.loop-turns.values.items) (entries c.close_turn.result)
    inv.0 inv.1 inv.3.1 inv.3.2 busy c.remove-turn.ensures.value c.remove-turn.ensures.items c.remove-pass.ensures.value
    c.remove-pass.ensures.items c.close_turn.ensures in
    let finals : map entries c.push_reserved.new.self.items ≡ map entries c.loop-turns.values.items ++ entries
    c.close_turn.result ∷ [] =
    ap (map entries) c.push_reserved.ensures.items
    ∙ map-append entries c.loop-turns.values.items (c.close_turn.result ∷ []) in (
      all.0,
      all.1,
      omega (arith, c.push_reserved.ensures.len, c.push_reserved.ensures.capacity, c.remove-turn.ensures.len, inv.2),
      (all.2.0, all.2.1, subst (AreEnded all.2.0) (sym finals) all.2.2),
    )

pub remove-pass-requires : goal.remove-pass-requires
remove-pass-requires g c = grind (arith, common_steps)
