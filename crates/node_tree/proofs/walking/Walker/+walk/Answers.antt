use Rattle.std.proofs.Common.{◌≡◌, ◌<◌, ◌+◌, ◌-◌, ◌++◌, [], Ok, IfErr, rules, sym, ◌∙◌, subst, arith}
use Rattle.std.proofs.Common.{take}
use Rattle.std.proofs.lemmas.Result.{IfErr-weaker}
use Rattle.address_table.specs.declared.nodes.Node.{out-Node}
use Rattle.node_tree.specs.Limits.{most_ids}
use Rattle.node_tree.specs.Names.{last_index, name_at, plain_name, register_at}
use Rattle.node_tree.specs.Walk.{walk, siblings, twin_text}
use Rattle.node_tree.specs.Run.{each_index, run, visit_next, IsStop}
use Rattle.node_tree.proofs.Runs.{stopped_at, stopped_below, past_both, no_index_left, stopped_node, past_node}
use Rattle.node_tree.proofs.Runs.{none_left, below_is}
use Rattle.node_tree.proofs.walking.Walker.+walk.Goals as goal

pub walk-returns-in_err-walk_node-clause-stopped : goal.walk-returns-in_err-walk_node-clause-stopped
walk-returns-in_err-walk_node-clause-stopped t c =
    let below = walk c.args.tables.now (most_ids + 1 - c.args.level.ids) (c.args.level.ids + 1) in
    let done = take c.loop-node.node-index c.args.nodes.now in
    let stop = c.in_err-walk_node.ensures.stopped done in
    let told : IfErr c.from_residual.result
    (IsStop (run (each_index c.args.tables.now c.args.level.ids c.args.above.now c.args.level.base
    c.node-item.result done) c.loop-node.self.found)) = search (rules, stop) in
    IfErr-weaker c.from_residual.result _ _
    (λ fault here. subst (λ r. IsStop r fault) c.loop-node.invariant
    (stopped_node below _ _ _ _ _ _ _ _ fault c.loop-node-test.true c.node-item.is here)) told

pub walk-loop-node-preserved : goal.walk-loop-node-preserved
walk-loop-node-preserved t c =
    let below = walk c.args.tables.now (most_ids + 1 - c.args.level.ids) (c.args.level.ids + 1) in
    sym (past_node below _ _ _ _ _ _ _ _ _ c.loop-node-test.true c.node-item.is
    (c.in_ok-walk_node.ensures.walked (take c.loop-node.node-index c.args.nodes.now)))
    ∙ c.loop-node.invariant

pub walk-returns-clause-walked : goal.walk-returns-clause-walked
walk-returns-clause-walked t c = sym c.loop-node.invariant ∙ none_left _ _ _ _ _ _ _ _ c.loop-node-test.false

pub walk_node-returns-in_err-address-clause-stopped : goal.walk_node-returns-in_err-address-clause-stopped
walk_node-returns-in_err-address-clause-stopped t c =
    let below = walk c.args.tables.now (most_ids + 1 - c.args.level.ids) (c.args.level.ids + 1) in
    let n = c.args.node.now in
    let i = c.loop-index.index in
    let found = c.loop-index.self.found in
    let register = register_at c.args.level.base n i in
    let within : i < last_index n + 1 =
    omega (arith, c.loop-index-test.true, c.index_count-index-end.ensures, c.loop-index.auto.index-end) in
    let called : c.as_str-name.result.now ≡ name_at c.args.above.now n i =
    c.as_str-name.ensures.value ∙ c.in_ok-set.ensures.name in
    let twin : c.as_str.result.now ≡ plain_name c.args.above.now n ++ twin_text (out-Node n).count =
    c.as_str.ensures.value ∙ c.in_ok-set.ensures.twin in
    let told : IfErr c.from_residual-in_err-address.result
    (IsStop (visit_next found c.as_str-name.result.now c.as_str.result.now
    c.args.level.ids register)) = search rules in
    IfErr-weaker c.from_residual-in_err-address.result _ _
    (λ fault stop earlier. subst (λ r. IsStop r fault) (c.loop-index.invariant earlier)
    (stopped_at below c.args.tables.now c.args.level.ids c.args.above.now c.args.level.base earlier n i
    (last_index n + 1) found fault within
    (subst (λ y. IsStop (visit_next found (name_at c.args.above.now n i) y c.args.level.ids register) fault) twin
    (subst (λ x. IsStop (visit_next found x c.as_str.result.now c.args.level.ids register) fault)
    called stop)))) told

pub walk_node-returns-in_err-walk-clause-stopped : goal.walk_node-returns-in_err-walk-clause-stopped
walk_node-returns-in_err-walk-clause-stopped t c =
    let below = walk c.args.tables.now (most_ids + 1 - c.args.level.ids) (c.args.level.ids + 1) in
    let n = c.args.node.now in
    let i = c.loop-index.index in
    let found = c.loop-index.self.found in
    let next = c.visit.new.self.found in
    let register = register_at c.args.level.base n i in
    let within : i < last_index n + 1 =
    omega (arith, c.loop-index-test.true, c.index_count-index-end.ensures, c.loop-index.auto.index-end) in
    let called : c.as_str-name.result.now ≡ name_at c.args.above.now n i =
    c.as_str-name.ensures.value ∙ c.in_ok-set.ensures.name in
    let twin : c.as_str.result.now ≡ plain_name c.args.above.now n ++ twin_text (out-Node n).count =
    c.as_str.ensures.value ∙ c.in_ok-set.ensures.twin in
    let visited =
    subst (λ y. visit_next found (name_at c.args.above.now n i) y c.args.level.ids register ≡ Ok next) twin
    (subst (λ x. visit_next found x c.as_str.result.now c.args.level.ids register ≡ Ok next)
    called c.in_ok-address.ensures.visited) in
    let deep =
    below_is c.args.tables.now c.args.level.ids _ _ _ _ _ _ c.in_ok-address.ensures.shallow called
    c.in_ok-address.ensures.address c.children-below.ensures in
    let deeper =
    siblings (walk c.args.tables.now (most_ids + 1 - (c.args.level.ids + 1)) (c.args.level.ids + 1 + 1))
    c.args.tables.now (c.args.level.ids + 1) c.as_str-name.result.now c.in_ok-address.address []
    c.children-below.result.now in
    let told : IfErr c.from_residual-in_err-walk.result (IsStop (run deeper next)) = search rules in
    IfErr-weaker c.from_residual-in_err-walk.result _ _
    (λ fault stop earlier. subst (λ r. IsStop r fault) (c.loop-index.invariant earlier)
    (stopped_below below c.args.tables.now c.args.level.ids c.args.above.now c.args.level.base earlier n i
    (last_index n + 1) found next fault within visited
    (subst (λ vs. IsStop (run vs next) fault) deep stop))) told

pub walk_node-loop-index-preserved : goal.walk_node-loop-index-preserved
walk_node-loop-index-preserved t c =
    let below = walk c.args.tables.now (most_ids + 1 - c.args.level.ids) (c.args.level.ids + 1) in
    let n = c.args.node.now in
    let i = c.loop-index.index in
    let found = c.loop-index.self.found in
    let next = c.visit.new.self.found in
    let register = register_at c.args.level.base n i in
    let within : i < last_index n + 1 =
    omega (arith, c.loop-index-test.true, c.index_count-index-end.ensures, c.loop-index.auto.index-end) in
    let called : c.as_str-name.result.now ≡ name_at c.args.above.now n i =
    c.as_str-name.ensures.value ∙ c.in_ok-set.ensures.name in
    let twin : c.as_str.result.now ≡ plain_name c.args.above.now n ++ twin_text (out-Node n).count =
    c.as_str.ensures.value ∙ c.in_ok-set.ensures.twin in
    let visited =
    subst (λ y. visit_next found (name_at c.args.above.now n i) y c.args.level.ids register ≡ Ok next) twin
    (subst (λ x. visit_next found x c.as_str.result.now c.args.level.ids register ≡ Ok next)
    called c.in_ok-address.ensures.visited) in
    let deep =
    below_is c.args.tables.now c.args.level.ids _ _ _ _ _ _ c.in_ok-address.ensures.shallow called
    c.in_ok-address.ensures.address c.children-below.ensures in
    let walked = subst (λ vs. run vs next ≡ Ok c.walk.new.self.found) deep c.in_ok-walk.ensures.walked in
    λ earlier. sym (past_both below c.args.tables.now c.args.level.ids c.args.above.now c.args.level.base earlier n i
    (last_index n + 1) found next c.walk.new.self.found within visited walked)
    ∙ c.loop-index.invariant earlier

pub walk_node-returns-clause-walked : goal.walk_node-returns-clause-walked
walk_node-returns-clause-walked t c =
    let below = walk c.args.tables.now (most_ids + 1 - c.args.level.ids) (c.args.level.ids + 1) in
    let n = c.args.node.now in
    λ earlier. sym (c.loop-index.invariant earlier)
    ∙ no_index_left below c.args.tables.now c.args.level.ids c.args.above.now c.args.level.base earlier n
    c.loop-index.index (last_index n + 1) c.loop-index.self.found
    (omega (arith, c.loop-index-test.false, c.index_count-index-end.ensures, c.loop-index.auto.index-end))
