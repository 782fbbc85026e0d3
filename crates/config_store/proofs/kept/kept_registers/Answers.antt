use Rattle.std.proofs.Common.{◌≤◌, ◌++◌, ◌∙◌, length, arith, ap, sym, subst, append-nil}
use Rattle.std.proofs.Math.ListN.{drop_of_length-le}
use Rattle.std.specs.FinMap as map
use Rattle.std.specs.List.{filter}
use Rattle.config_store.specs.Kept as spec
use Rattle.config_store.specs.Searches.{AreWords}
use Rattle.config_store.proofs.KeptLemmas.{kept_words}
use Rattle.config_store.proofs.Places.{keep_step, skip_step}
use Rattle.config_store.proofs.kept.kept_registers.Goals.{then-branch+in_ok-copy_of+in_ok-push, else-branch}
use Rattle.config_store.proofs.kept.kept_registers.Goals as goal

pub loop-i-preserved : goal.loop-i-preserved
loop-i-preserved c =
    let es = map.entries c.args.index.now in
    let all = spec.registers_kept c.args.index.now in
    let found = c.loop-i.found.items in
    let entry = c.at.ensures.entry in
    elim c.if-branch.branch [
      | then-branch+in_ok-copy_of+in_ok-push w ↦
          rw (w.found-is, w.in_ok-push.ensures.items, w.in_ok-copy_of.ensures)
          (keep_step (spec.is_kept es) es found all c.loop-i.i _ entry (sym c.in_ok-is_kept.ensures ∙ w.if-branch.true)
          c.loop-i.invariant)
      | else-branch w ↦
          rw w.found-is
          (skip_step (spec.is_kept es) es found all c.loop-i.i _ entry (sym c.in_ok-is_kept.ensures ∙ w.if-branch.false)
          c.loop-i.invariant)
    ]

pub returns-clause-kept : goal.returns-clause-kept
returns-clause-kept c =
    let es = map.entries c.args.index.now in
    let all : length es ≤ c.loop-i.i = omega (arith, c.len-i-end.ensures.registers, map.len-entries c.args.index.now) in
    sym (append-nil _) ∙ (ap (λ rest. c.loop-i.found.items ++ filter (spec.is_kept es) rest)
    (sym (drop_of_length-le es all)) ∙ c.loop-i.invariant)

pub returns-clause-words : goal.returns-clause-words
returns-clause-words c =
    subst AreWords (sym (returns-clause-kept c)) (kept_words (map.entries c.args.index.now))
