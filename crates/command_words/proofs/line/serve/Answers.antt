use Rattle.std.proofs.Common.{◌∙◌, ◌||◌, ap₂, codes}
use Rattle.std.proofs.lemmas.Result.{IfOk-weaker}
use Rattle.clap.specs.Simple.{new_app, with_rule}
use Rattle.command_words.specs.App.{needed_word}
use Rattle.command_words.proofs.Below.{word_added}
use Rattle.command_words.proofs.line.serve.Goals as goal

pub returns-clause-app : goal.returns-clause-app
returns-clause-app c =
    let serve = new_app (codes "serve") in
    let port = needed_word (codes "port") in
    let with_port = c.in_ok-with_port.with_port in
    let port_is = word_added c.new.result with_port serve port c.in_ok-with_port.ensures c.new.ensures.app in
    IfOk-weaker c.with_word-2.result _ _
    (λ r added. word_added with_port r (with_rule serve port) (needed_word (codes "count")) added port_is)
    c.with_word-2.ensures

pub returns-clause-below : goal.returns-clause-below
returns-clause-below c =
    let added = c.in_ok-with_port.ensures in
    let local = added.3.globals ∙ ap₂ ◌||◌ c.new.ensures.local added.2 in
    IfOk-weaker c.with_word-2.result _ _
    (λ r more old new below. below.shape (more.3.globals ∙ ap₂ ◌||◌ local more.2)) c.with_word-2.ensures
