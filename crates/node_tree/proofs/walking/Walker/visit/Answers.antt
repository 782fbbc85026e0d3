use Rattle.std.proofs.Common.{◌≤◌, ◌^◌, sym, subst, arith, ◌∙◌}
use Rattle.node_tree.specs.Names.{register_at}
use Rattle.node_tree.specs.Walk.{last_address}
use Rattle.node_tree.specs.Run.{IsStop}
use Rattle.node_tree.proofs.Visits.{too_many, too_deep, duplicate, past_the_end, visited}
use Rattle.node_tree.proofs.walking.Walker.visit.Goals as goal

pub returns-then-self-ge-MAX_NODES-clause-stopped : goal.returns-then-self-ge-MAX_NODES-clause-stopped
returns-then-self-ge-MAX_NODES-clause-stopped c =
    subst (λ r. IsStop r c.fault_at.result) (sym (too_many _ _ _ _ _ c.if-self-ge-MAX_NODES.true)) c.fault_at.ensures

pub returns-then-level-gt-MAX_IDS-clause-stopped : goal.returns-then-level-gt-MAX_IDS-clause-stopped
returns-then-level-gt-MAX_IDS-clause-stopped c =
    subst (λ r. IsStop r c.fault_at-then-level-gt-MAX_IDS.result)
    (sym (too_deep _ _ _ _ _ c.if-self-ge-MAX_NODES.false c.if-level-gt-MAX_IDS.true))
    c.fault_at-then-level-gt-MAX_IDS.ensures

pub returns-in_default-clause-stopped : goal.returns-in_default-clause-stopped
returns-in_default-clause-stopped c =
    let past : 2 ^ 32 ≤ last_address (register_at c.args.level.base c.args.node.now c.args.index) =
    omega (arith, c.in_default.ensures) in
    subst (λ r. IsStop r c.fault_at-in_default.result)
    (sym (past_the_end _ _ _ _ _ _ c.if-self-ge-MAX_NODES.false c.if-level-gt-MAX_IDS.false past
    c.why_past_end.ensures)) c.fault_at-in_default.ensures

pub returns-then-branch-clause-stopped : goal.returns-then-branch-clause-stopped
returns-then-branch-clause-stopped c =
    subst (λ r. IsStop r c.fault_at-then-branch.result)
    (sym (duplicate _ _ _ _ _ c.if-self-ge-MAX_NODES.false c.if-level-gt-MAX_IDS.false
    (sym c.in_ok-is_taken.ensures.taken ∙ c.if-branch.true))) c.fault_at-then-branch.ensures

pub returns-clause-visited : goal.returns-clause-visited
returns-clause-visited c =
    rw (c.in_ok-is_taken.ensures.kept c.if-branch.false, c.is_taken.ensures.count, c.in-Some.ensures.1)
    (visited _ _ _ _ _ c.if-self-ge-MAX_NODES.false c.if-level-gt-MAX_IDS.false
    (sym c.in_ok-is_taken.ensures.taken ∙ c.if-branch.false) c.in-Some.ensures.0)
