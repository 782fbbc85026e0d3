use Rattle.std.proofs.Common.{◌≡◌, Some, ap, sym, ◌∙◌}
use Rattle.address_table.specs.declared.nodes.Node.{out-Node}
use Rattle.node_tree.proofs.ReachLemmas.{opens-as}
use Rattle.node_tree.proofs.cycles.reaching.reach_module.Goals as goal

pub returns-in-Some : goal.returns-in-Some
returns-in-Some c =
    opens-as _ _ _ _ (λ m. c.as_str.result.now ≡ m) (λ m. (out-Node c.args.node.now).«module» ≡ Some m)
    (λ m same. c.in-Some.is ∙ ap Some (sym c.as_str.ensures ∙ same))
    (λ m is. let name : c.in-Some.name ≡ m = cc in c.as_str.ensures ∙ name)
    c.in_ok-reach.ensures
