use Rattle.std.proofs.Common.{◌≡◌, ◌∙◌, ◌∷◌, [], ℕ, ap, subst, sym, arith}
use Rattle.std.proofs.lemmas.Grind.{common_steps}
use Rattle.script_plans.specs.declared.board_run.BoardRun.{BoardRun}
use Rattle.board_history.specs.Links.{LinkReport}
use Rattle.board_history.specs.LinkRuns.{IsRunOver, ShowsLates, ShowsScripts}
use Rattle.board_greeting.specs.Reports.{shown_by}
use Rattle.board_greeting.specs.Boards.{IsIdleBoard}
use Rattle.board_greeting.specs.Standings.{number_in}
use Rattle.board_greeting.specs.declared.standing.Standing.{Standing}
use Rattle.script_plans.specs.declared.greeting.Greeting.TheVariants as greeting
use Rattle.session_run.specs.Places.{IsCameOf}
use Rattle.session_run.proofs.Idle.{idle_over, of_three}
use Rattle.session_run.proofs.finish.finish_board.Goals as goal

pub returns-in-Silent-clause-ran : goal.returns-in-Silent-clause-ran
returns-in-Silent-clause-ran g c =
    let shows = shown_by g.L.Link in
    let settings = c.args.settings in
    let spec = c.args.spec.now in
    let position = c.args.position in
    let scripts = c.args.scripts.now in
    let told = greeting.Silent in
    let shown = shows c.in-Silent.link in
    let came : IsIdleBoard settings spec told shown =
    subst (λ one. IsCameOf shows settings scripts position spec one c.args.parts) c.in-Silent.is c.requires.came in
    of_three c.run_idle.result (ShowsScripts spec position scripts) (λ run. run.greeting ≡ told)
    (λ (run : BoardRun). (link : LinkReport) → ShowsLates run link)
    (λ run. IsRunOver settings spec position scripts run shown)
    (λ run here greeted late. idle_over settings spec position scripts run shown told came here greeted (late shown))
    c.run_idle.ensures.scripts c.run_idle.ensures.greeting c.run_idle.ensures.lates

pub returns-in-Silent-clause-left : goal.returns-in-Silent-clause-left
returns-in-Silent-clause-left g c =
    let shows = shown_by g.L.Link in
    let spec = c.args.spec.now in
    let scripts = c.args.scripts.now in
    let came : IsIdleBoard c.args.settings spec greeting.Silent (shows c.in-Silent.link) =
    subst (λ one. IsCameOf shows c.args.settings scripts c.args.position spec one c.args.parts) c.in-Silent.is
    c.requires.came in
    c.a_fresh_link_is_left.ensures c.args.settings spec c.args.position scripts (shows c.in-Silent.link) came.fresh

pub returns-in-Down-clause-ran : goal.returns-in-Down-clause-ran
returns-in-Down-clause-ran g c =
    let shows = shown_by g.L.Link in
    let settings = c.args.settings in
    let spec = c.args.spec.now in
    let position = c.args.position in
    let scripts = c.args.scripts.now in
    let told = greeting.Down in
    let shown = shows c.in-Down.link in
    let came : IsIdleBoard settings spec told shown =
    subst (λ one. IsCameOf shows settings scripts position spec one c.args.parts) c.in-Down.is c.requires.came in
    of_three c.run_idle-in-Down.result (ShowsScripts spec position scripts) (λ run. run.greeting ≡ told)
    (λ (run : BoardRun). (link : LinkReport) → ShowsLates run link)
    (λ run. IsRunOver settings spec position scripts run shown)
    (λ run here greeted late. idle_over settings spec position scripts run shown told came here greeted (late shown))
    c.run_idle-in-Down.ensures.scripts c.run_idle-in-Down.ensures.greeting c.run_idle-in-Down.ensures.lates

pub returns-in-Down-clause-left : goal.returns-in-Down-clause-left
returns-in-Down-clause-left g c =
    let shows = shown_by g.L.Link in
    let spec = c.args.spec.now in
    let scripts = c.args.scripts.now in
    let came : IsIdleBoard c.args.settings spec greeting.Down (shows c.in-Down.link) =
    subst (λ one. IsCameOf shows c.args.settings scripts c.args.position spec one c.args.parts) c.in-Down.is
    c.requires.came in
    c.a_fresh_link_is_left.ensures c.args.settings spec c.args.position scripts (shows c.in-Down.link) came.fresh

pub finish_live-requires-clause-stopped : goal.finish_live-requires-clause-stopped
finish_live-requires-clause-stopped g c = grind (arith, common_steps)

pub finish_live-requires-clause-ran : goal.finish_live-requires-clause-ran
finish_live-requires-clause-ran g c = grind (arith, common_steps)

pub returns-in-Live-clause-ran : goal.returns-in-Live-clause-ran
returns-in-Live-clause-ran g c = grind (arith, common_steps)

pub returns-in-Live-clause-left : goal.returns-in-Live-clause-left
returns-in-Live-clause-left g c = grind (arith, common_steps)

pub returns-in-Live-clause-number : goal.returns-in-Live-clause-number
returns-in-Live-clause-number g c =
    ap (λ (n : ℕ). n ∷ []) c.finish_live.ensures.number
    ∙ sym (ap (λ (one : Standing _). number_in g.L.Link.number one) c.in-Live.is)

pub returns-in-Silent-clause-number : goal.returns-in-Silent-clause-number
returns-in-Silent-clause-number g c = sym (ap (λ (one : Standing _). number_in g.L.Link.number one) c.in-Silent.is)

pub returns-in-Down-clause-number : goal.returns-in-Down-clause-number
returns-in-Down-clause-number g c = sym (ap (λ (one : Standing _). number_in g.L.Link.number one) c.in-Down.is)
