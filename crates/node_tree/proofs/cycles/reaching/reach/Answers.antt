use Rattle.std.proofs.Common.{◌≡◌, sym, ap, ◌∙◌, subst}
use Rattle.std.specs.FinMap.{insert}
use Rattle.node_tree.specs.Modules.{IsIn}
use Rattle.node_tree.specs.CycleSearch.{OpensAll, names_of}
use Rattle.node_tree.proofs.ReachLemmas.{opens-one, opens-same, names-push}
use Rattle.node_tree.proofs.cycles.reaching.reach.Goals as goal

pub returns-then-contains : goal.returns-then-contains
returns-then-contains c =
    opens-same c.args.reached.now (names_of c.args.pending.now.items) (λ m. c.args.name.now ≡ m)
    (λ m same. subst (IsIn c.args.reached.now) same (sym c.if-contains.ensures))

pub returns : goal.returns
returns c =
    let set = c.args.reached.now in
    let name = c.args.name.now in
    let texts = c.args.pending.now.items in
    rw c.in_ok-insert.ensures.ok
    (subst (λ names. OpensAll set (insert set name tt) (names_of texts) names (λ m. name ≡ m))
    (sym (ap names_of c.in_ok-push.ensures.items ∙ names-push texts c.args.name))
    (opens-one set name (names_of texts) (sym c.if-contains.ensures)))
