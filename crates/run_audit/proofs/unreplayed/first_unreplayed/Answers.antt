use Rattle.std.proofs.Common.{arith, map, subst, sym, take, ◌∙◌, [], ◌∷◌}
use Rattle.std.specs.List.{AllByRecursion}
use Rattle.std.proofs.lemmas.Bool.{false≢true}
use Rattle.std.proofs.lemmas.List.{length-map, take_all}
use Rattle.ipb_base.proofs.AllLemmas.{AllByRecursion-append}
use Rattle.run_audit.specs.Steps.{asking}
use Rattle.run_audit.specs.Unreplayed.{AgreesBy}
use Rattle.run_audit.proofs.Misplacing.{take_next}
use Rattle.run_audit.proofs.UnreplayedWalk.{first_found, none_found}
use Rattle.run_audit.proofs.Walking.{read_here}
use Rattle.run_audit.proofs.unreplayed.first_unreplayed.Goals as goal

pub returns-then-not-branch : goal.returns-then-not-branch
returns-then-not-branch c = λ shown are.
    let lines = map asking c.args.asked.now in
    let i = c.loop-ask.ask-index in
    let line = asking c.ask-item.result in
    let at = read_here asking c.args.asked.now i c.ask-item.result c.loop-ask-test.true c.ask-item.is in
    first_found c.args.session.now.settings.rounds c.args.session.now.boards c.args.scripts.now shown c.args.runs.now
    lines are i line at c.loop-ask.invariant
    (λ agrees. false≢true (sym c.if-not-branch.true ∙ c.in_ok-is_replayed.ensures.1
    (subst (λ r. AgreesBy r c.args.runs.now line) (sym c.rounds-rounds.ensures.value) agrees)))

pub loop-ask-preserved : goal.loop-ask-preserved
loop-ask-preserved c =
    let lines = map asking c.args.asked.now in
    let i = c.loop-ask.ask-index in
    let line = asking c.ask-item.result in
    let at = read_here asking c.args.asked.now i c.ask-item.result c.loop-ask-test.true c.ask-item.is in
    let Agrees = AgreesBy c.args.session.now.settings.rounds c.args.runs.now in
    subst (AllByRecursion Agrees) (sym (take_next lines i line at))
    (AllByRecursion-append Agrees (take i lines) (line ∷ []) c.loop-ask.invariant (
      subst (λ r. AgreesBy r c.args.runs.now line) c.rounds-rounds.ensures.value
          (c.in_ok-is_replayed.ensures.0 c.if-not-branch.false),
      tt,
    ))

pub returns : goal.returns
returns c = λ shown are.
    let lines = map asking c.args.asked.now in
    let i = c.loop-ask.ask-index in
    none_found c.args.session.now.settings.rounds c.args.session.now.boards c.args.scripts.now shown c.args.runs.now
    lines are i (take_all i lines (omega (arith, length-map c.args.asked.now asking, c.loop-ask-test.false)))
    c.loop-ask.invariant
