use Rattle.std.proofs.Common.{List, ◌++◌, ◌∙◌, ap, ap₂, map}
use Rattle.std.proofs.lemmas.Result.{IfOk-weaker}
use Rattle.clap.specs.Words.{App, new_app}
use Rattle.command_words.specs.Forms.{names_alone}
use Rattle.command_words.proofs.Below.{with_all, added_in_turn}
use Rattle.command_words.proofs.line.command.Goals as goal

pub returns : goal.returns
returns c =
    let all = c.with_alone-commands in
    let apps = all.ensures.apps ∙ ap (λ (apps : List App). apps ++ map new_app names_alone) c.in_ok-worded.ensures.apps in
    IfOk-weaker c.subcommands.result _ _
    (λ r adds. added_in_turn c.bare.result r all.result.items (all.ensures.below c.in_ok-worded.ensures.below) adds
    ∙ ap₂ with_all c.bare.ensures apps)
    c.subcommands.ensures
