use Rattle.std.proofs.Common.{◌≡◌, ◌∙◌, ap, map, subst}
use Rattle.std.proofs.lemmas.Result.{IfOk-weaker}
use Rattle.run_audit.specs.Replaying.{pieces_in, runs_among, shown_from}
use Rattle.run_audit.specs.Steps.{AreOf, asking}
use Rattle.run_audit.proofs.Replays.{all_runs}
use Rattle.run_audit.proofs.replaying.replayed_runs.Goals as goal

pub returns : goal.returns
returns c =
    λ scripts shown of.
    let lines = map asking c.args.asked.now in
    let told : map pieces_in c.in_ok-pieces.pieces.items
    ≡ shown_from c.args.boards.now scripts lines 0 c.args.plans.items =
    subst (λ p. AreOf c.args.boards.now scripts shown p lines
    → map pieces_in c.in_ok-pieces.pieces.items ≡ shown_from c.args.boards.now scripts lines 0 p) c.as_slice.ensures.value
    (c.in_ok-pieces.ensures c.args.boards.now scripts shown) of in
    IfOk-weaker c.runs_of.result _ _ (λ runs made.
    all_runs c.args.boards.now scripts shown lines c.args.plans.items
    (map pieces_in c.in_ok-pieces.pieces.items) runs.items of told
    (made ∙ ap (λ p. runs_among c.args.boards.now c.args.plans.items (map pieces_in p)) c.as_slice-2.ensures.value))
    c.runs_of.ensures
