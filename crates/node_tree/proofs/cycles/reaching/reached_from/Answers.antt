use Rattle.std.proofs.Common.{◌≡◌, length, arith, ap, ◌∙◌, subst, length-append}
use Rattle.node_tree.specs.Modules.{Mentions}
use Rattle.node_tree.specs.CycleSearch.{names_of}
use Rattle.node_tree.proofs.CycleLemmas.{known-module}
use Rattle.node_tree.proofs.ReachLemmas.{Searches, searches-first, searches-more, searches-all, names-push}
use Rattle.node_tree.proofs.ReachLemmas.{length-names}
use Rattle.node_tree.proofs.cycles.reaching.reached_from.Goals as goal

pub reaching-init : goal.reaching-init
reaching-init c =
    searches-first _ _ _ _
    (rw (c.new-reached.ensures, c.new-pending.ensures.items, c.nodes_of.ensures) at c.in_ok-reach_modules.ensures)

pub reaching-smaller : goal.reaching-smaller
reaching-smaller c =
    let tables = c.args.tables.now in
    let fewer =
    c.in_ok-reach_modules-2.ensures.opens.fewer tables
    (λ m mention. known-module tables c.in-Some.next.now m c.requires
    (subst (λ ns. Mentions ns m) c.nodes_of-in-Some.ensures mention)) in
    let popped = simp length-append at (ap length c.in-Some.ensures.items) in
    omega (
      arith,
      fewer,
      popped,
      length-names c.pop.new.self.items,
      length-names c.reach_modules-in-Some.new.pending.items,
    )

pub reaching-preserved : goal.reaching-preserved
reaching-preserved c =
    let tables = c.args.tables.now in
    let name = c.args.name.now in
    let rest = c.pop.new.self.items in
    searches-more tables name c.reaching.reached c.reach_modules-in-Some.new.reached (names_of rest) c.in-Some.next.now
    (names_of c.reach_modules-in-Some.new.pending.items)
    (subst (Searches tables name c.reaching.reached)
    (ap names_of c.in-Some.ensures.items ∙ names-push rest c.in-Some.next) c.reaching.invariant)
    (rw c.nodes_of-in-Some.ensures at c.in_ok-reach_modules-2.ensures)

pub returns : goal.returns
returns c =
    let none : length (names_of c.reaching.pending.items) ≡ 0 =
    omega (arith, length-names c.reaching.pending.items, c.in_default.ensures.cases.0) in
    record {
      all =
          λ m reach. searches-all c.args.tables.now c.args.name.now c.reaching.reached
          (names_of c.reaching.pending.items) m none c.reaching.invariant reach;
      only = c.reaching.invariant.sound;
    }
