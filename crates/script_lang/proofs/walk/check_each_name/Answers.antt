use Rattle.std.proofs.Common.{◌≡◌, false, string_bytes, subst}
use Rattle.address_table.specs.Rules.{is_id}
use Rattle.script_lang.specs.Reading.{TellsFirst}
use Rattle.script_lang.specs.Walk.{here, names_faults, below}
use Rattle.script_lang.specs.declared.steps.PathStep.TheVariants.{Key}
use Rattle.toml.specs.View.{members_view}
use Rattle.script_lang.proofs.Faults.{first-name}
use Rattle.script_lang.proofs.walk.check_each_name.Goals as goal

pub returns-then-not-is_id-clause-first : goal.returns-then-not-is_id-clause-first
returns-then-not-is_id-clause-first c =
    let bad : is_id (string_bytes c.in-Some.name.now) ≡ false = cc in
    let told : TellsFirst (below (Key (string_bytes c.in-Some.name.now)) here) c.below_key.result =
    rw (← c.as_str.ensures.value) (c.below_key.ensures here c.misfit_here.ensures) in
    let first : TellsFirst (names_faults (members_view c.loop-name.name-iterator)) c.below_key.result =
    rw c.in-Some.ensures.steps
    (first-name c.in-Some.name.now c.in-Some._value.now c.next.new.self c.below_key.result bad told) in
    subst (λ ways. TellsFirst ways c.below_key.result) c.loop-name.invariant first
