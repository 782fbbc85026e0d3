use Rattle.std.proofs.Common.{[], ◌∷◌, ◌∙◌, ◌||◌, ap, ap₂, codes, map, subst, sym}
use Rattle.std.specs.List.{AllByRecursion}
use Rattle.std.proofs.lemmas.Result.{IfOk-weaker}
use Rattle.clap.specs.Simple.{new_app}
use Rattle.clap.specs.Words.{app_of}
use Rattle.command_words.specs.App.{HasShapeBelow, check_app, load_app, needed_word, serve_app}
use Rattle.command_words.proofs.Below.{apps_behind, shapes_behind, word_added}
use Rattle.command_words.proofs.line.worded.Goals as goal

pub returns-clause-apps : goal.returns-clause-apps
returns-clause-apps c =
    let check = IfOk-weaker c.with_word-check.result _ _
    (λ r added. word_added c.new.result r (new_app (codes "check")) (needed_word (codes "table")) added c.new.ensures.app)
    c.with_word-check.ensures in
    let load = IfOk-weaker c.with_word-load.result _ _
    (λ r added. word_added c.new-2.result r (new_app (codes "load")) (needed_word (codes "count")) added c.new-2.ensures.app)
    c.with_word-load.ensures in
    let with_check = c.in_ok-with_check.with_check.items in
    let with_serve = c.in_ok-with_serve.with_serve.items in
    let none = c.in_ok-none.none.items in
    let first = apps_behind [] check_app none c.with_word-check.result with_check
    (ap (map app_of) c.in_ok-none.ensures.items) check c.in_ok-with_check.ensures.behind in
    let second = apps_behind (check_app ∷ []) serve_app with_check c.serve.result with_serve first c.serve.ensures.app
    c.in_ok-with_serve.ensures.behind in
    IfOk-weaker c.with_made-3.result _ _
    (λ r behind. apps_behind (check_app ∷ serve_app ∷ []) load_app with_serve c.with_word-load.result r.items second load
    behind)
    c.with_made-3.ensures.behind

pub returns-clause-below : goal.returns-clause-below
returns-clause-below c =
    let check = IfOk-weaker c.with_word-check.result _ HasShapeBelow
    (λ r made old new added. added.shape (made.3.globals ∙ ap₂ ◌||◌ c.new.ensures.local made.2))
    c.with_word-check.ensures in
    let load = IfOk-weaker c.with_word-load.result _ HasShapeBelow
    (λ r made old new added. added.shape (made.3.globals ∙ ap₂ ◌||◌ c.new-2.ensures.local made.2))
    c.with_word-load.ensures in
    let with_check = c.in_ok-with_check.with_check.items in
    let with_serve = c.in_ok-with_serve.with_serve.items in
    let none = c.in_ok-none.none.items in
    let first = shapes_behind none c.with_word-check.result with_check
    (subst (AllByRecursion HasShapeBelow) (sym c.in_ok-none.ensures.items) tt) check
    c.in_ok-with_check.ensures.behind in
    let second = shapes_behind with_check c.serve.result with_serve first c.serve.ensures.below
    c.in_ok-with_serve.ensures.behind in
    IfOk-weaker c.with_made-3.result _ _
    (λ r behind. shapes_behind with_serve c.with_word-load.result r.items second load behind)
    c.with_made-3.ensures.behind
