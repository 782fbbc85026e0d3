use Rattle.std.proofs.Common.{ℕ, [], ◌∷◌, List, ap, sym, ◌∙◌}
use Rattle.script_plans.specs.declared.greeting.Greeting.{Greeting}
use Rattle.transcript_reader.specs.Entries.{lines_of, told_from}
use Rattle.transcript_reader.proofs.Told.{told_first, told_without}
use Rattle.transcript_reader.proofs.greeting.told_first.Goals as goal

pub returns-in_ok-told_by-in-Some-clause-greeting :
    goal.returns-in_ok-told_by-in-Some-clause-greeting
returns-in_ok-told_by-in-Some-clause-greeting c boards =
    ap (λ (lines : List (List ℕ)). told_from 0 (c.args.board.now ∷ boards) lines) c.in-Some.ensures
    ∙ (told_first c.args.board.now boards c.in-Some.line.now (lines_of c.in-Some.rest.now)
    ∙ ap (λ (told : Greeting). told ∷ told_from 0 boards (lines_of c.in-Some.rest.now))
    (sym c.in_ok-told_by-in-Some.ensures.greeting))

pub returns-in-None-clause-greeting : goal.returns-in-None-clause-greeting
returns-in-None-clause-greeting c boards =
    ap (λ (lines : List (List ℕ)). told_from 0 (c.args.board.now ∷ boards) lines) c.in-None.ensures
    ∙ (told_without c.args.board.now boards
    ∙ (ap (λ (told : Greeting). told ∷ told_from 0 boards []) (sym c.greeting_of.ensures.greeting)
    ∙ ap (λ (lines : List (List ℕ)). c.greeting_of.result ∷ told_from 0 boards lines) (sym c.in-None.ensures)))
