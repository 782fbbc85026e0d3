use Rattle.std.proofs.Common.{ap, subst}
use Rattle.std.proofs.lemmas.Result.{IfOk-weaker}
use Rattle.transcript.specs.Lines.{Showing}
use Rattle.run_audit.specs.Agreeing.{IsAnswer}
use Rattle.run_audit.specs.Steps.{asking}
use Rattle.run_audit.proofs.UnreplayedLines.{answer_by, is_answer}
use Rattle.run_audit.proofs.unreplayed.is_replayed.Goals as goal

pub returns-in-Value : goal.returns-in-Value
returns-in-Value c =
    let answer = subst IsAnswer (ap (λ (s : Showing). s.0) c.shown.view_is) (is_answer c.shown.inside.result c.in-Value.is) in
    let both = answer_by c.args.rounds c.args.runs.now (asking c.args.ask.now) c.args.ends.now c.ends_at-bodies.result.now
    c.requires c.ends_at-bodies.ensures.ends answer in
    IfOk-weaker c.shows_answer.result _ _ (λ is told. (λ yes. both.0 (told.0 yes), λ agrees. told.1 (both.1 agrees)))
    c.shows_answer.ensures
