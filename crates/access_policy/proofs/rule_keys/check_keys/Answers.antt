use Rattle.std.proofs.Common.{◌≡◌, [], ◌∷◌, false, string_bytes, ap, subst, sym, ◌∙◌}
use Rattle.script_lang.specs.declared.steps.PathStep.TheVariants.{Key}
use Rattle.toml.specs.View.{members_view, view}
use Rattle.access_policy.specs.Cutting.{TellsFirst}
use Rattle.access_policy.specs.Reading.{keys_faults, may_stand}
use Rattle.access_policy.proofs.RuleFaults.{first-key}
use Rattle.access_policy.proofs.rule_keys.check_keys.Goals as goal

pub returns-then-not-branch-clause-first : goal.returns-then-not-branch-clause-first
returns-then-not-branch-clause-first c =
    let bad : may_stand (string_bytes c.in-Some.key.now) (view c.in-Some.value.now) ≡ false =
    ap (λ key. may_stand key (view c.in-Some.value.now)) (sym c.as_str.ensures.value) ∙ sym c.in_ok-may_stand.ensures
    ∙ c.if-not-branch.true in
    let told : TellsFirst ((Key (string_bytes c.in-Some.key.now) ∷ []) ∷ []) c.misfit_at.result =
    subst (λ key. TellsFirst ((Key key ∷ []) ∷ []) c.misfit_at.result) c.as_str-then-not-branch.ensures.value
    c.misfit_at.ensures in
    let first : TellsFirst (keys_faults (members_view c.loop-key.key-iterator)) c.misfit_at.result = rw
    c.in-Some.ensures.steps
    (first-key c.in-Some.key.now c.in-Some.value.now c.next.new.self c.misfit_at.result bad told) in
    subst (λ ways. TellsFirst ways c.misfit_at.result) c.loop-key.invariant first
