use Rattle.std.proofs.Common.{rules, ◌≡◌, ◌∙◌, sym, subst, ap, ap₂, true, []}
use Rattle.clap.specs.Words.{app_of, takes, is_simple, kind_of, subcommand_of, fault_of, is_simple_and_free, App}
use Rattle.clap.specs.declared.error.kind.ErrorKind.TheVariants.{OutOfMemory}
use Rattle.command_words.specs.Forms.{ArePlain, texts}
use Rattle.command_words.specs.App.{ipbus}
use Rattle.command_words.proofs.Walks as walks
use Rattle.command_words.proofs.Strays as strays
use Rattle.command_words.proofs.line.matches_for.Goals as goal

pub returns-in-Ok-try_get_matches_from-clause-ok : goal.returns-in-Ok-try_get_matches_from-clause-ok
returns-in-Ok-try_get_matches_from-clause-ok c =
    let app_is : app_of c.in-Ok.command ≡ ipbus = c.in-Ok.ensures in
    let none : fault_of ipbus (texts c.args.words.now)
    ≡ [] = ap (λ (a : App). fault_of a (texts c.args.words.now)) (sym app_is)
    ∙ c.in-Ok-try_get_matches_from.ensures.kinds (ap is_simple_and_free app_is ∙ strays.is_free) in
    let said = strays.says (texts c.args.words.now) c.requires.plain none in (
      said.0,
      said.1,
      said.2,
      (c.in-Ok-try_get_matches_from.ensures.matches (ap is_simple app_is ∙ walks.simple)).1
          ∙ ap₂ subcommand_of app_is said.2 ∙ walks.entered said.0 said.1 (subst ArePlain said.2 c.requires.plain),
    )

pub returns-clause-usage : goal.returns-clause-usage
returns-clause-usage c = λ _ s named e.
    let app_is : app_of c.in-Ok.command ≡ ipbus = c.in-Ok.ensures in
    let taken : takes (app_of c.in-Ok.command) (texts c.args.words.now) ≡ true =
    ap₂ takes app_is e ∙ walks.taken s named (subst ArePlain e c.requires.plain) in
    let oom : kind_of c.in-Err.error ≡ OutOfMemory = c.in-Err.ensures.passes taken in
    let wrong : ⊥ = search (rules, oom) in
    absurd wrong
