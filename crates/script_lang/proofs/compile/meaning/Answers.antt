use Rattle.std.proofs.Common.{◌≡◌, Some, arith, sym, ap, ◌∙◌}
use Rattle.std.proofs.lemmas.Grind.{common_steps}
use Rattle.script_lang.specs.declared.call.Command.TheVariants.{Ask}
use Rattle.script_lang.specs.Lines.{words, command_of}
use Rattle.script_lang.proofs.Asking.{takes_asked}
use Rattle.script_lang.proofs.compile.meaning.Goals as goal

pub asked-requires-clause-taken : goal.asked-requires-clause-taken
asked-requires-clause-taken c =
    let at = c.in-Ok-Some-Ask in
    let said : Some (Ask at.call) ≡ command_of (words c.args.text.now) =
    sym (ap Some at.field-0-0-is) ∙ (sym at.field-0-is ∙ at.ensures) in
    takes_asked (words c.args.text.now) at.call said

pub returns-in-Ok-Some-Ask-clause-meaning : goal.returns-in-Ok-Some-Ask-clause-meaning
returns-in-Ok-Some-Ask-clause-meaning c = grind (arith, common_steps)

pub returns-in-Ok-Some-Dispatch-clause-meaning : goal.returns-in-Ok-Some-Dispatch-clause-meaning
returns-in-Ok-Some-Dispatch-clause-meaning c = grind (arith, common_steps)

pub returns-in-Ok-Some-Nothing-clause-meaning : goal.returns-in-Ok-Some-Nothing-clause-meaning
returns-in-Ok-Some-Nothing-clause-meaning c = grind (arith, common_steps)

pub returns-in-Ok-None-clause-meaning : goal.returns-in-Ok-None-clause-meaning
returns-in-Ok-None-clause-meaning c = grind (arith, common_steps)
