use Rattle.std.proofs.lemmas.Grind.{common_steps}
use Rattle.std.proofs.Common.{◌≡◌, ℕ, ◌-◌, ◌++◌, ◌∷◌, [], List, Some, None, arith, get_or, length, map, take, ap}
use Rattle.std.proofs.Common.{subst, refl, ◌∙◌, ◌≤◌, Vec, Global, not}
use Rattle.std.specs.List.{slice_get}
use Rattle.std.proofs.lemmas.List.{map_push}
use Rattle.std.proofs.lemmas.Option.{slice_get_past, slice_get_read}
use Rattle.script_steps.specs.Rulings.{Asked, asked_operations, asked_in, allowed_operations}
use Rattle.script_plans.specs.Plan.{count_on}
use Rattle.run_audit.specs.declared.asking.AskedOp.{AskedOp}
use Rattle.run_audit.specs.Steps.{asking}
use Rattle.run_audit.proofs.Walking as walk
use Rattle.run_audit.proofs.asking.push_client.Goals as goal
use Rattle.run_audit.proofs.asking.push_client.Goals.{in-Some-get+in_ok-push, in_default-get}
use Rattle.run_audit.proofs.asking.push_client.Goals.{then-is_none+in_ok-count_one, else-is_none}

pub loop-step-preserved-in_default : goal.loop-step-preserved-in_default
loop-step-preserved-in_default c =
    walk.walked_past c.args.client c.args.first c.args.steps.now c.args.shows.now _ c.loop-step.step-index _ _ _
    c.loop-step.invariant c.step-item.result c.loop-step-test.true c.step-item.is c.in_default.ensures

pub overflow_add-line : goal.overflow_add-line
overflow_add-line c =
    let steps = c.args.steps.now in
    let i = c.loop-step.step-index in
    let ask : Asked = record { op = c.in-Some.op.now; denied = c.in-Some.denied } in
    let some : asked_in c.step-item.result ≡ Some ask = c.in-Some.ensures in
    let there = walk.asked_before steps i c.step-item.result c.loop-step-test.true c.step-item.is ask some in
    omega (arith, there, c.loop-step.invariant.line', c.requires)

pub loop-step-preserved : goal.loop-step-preserved
loop-step-preserved c =
    let steps = c.args.steps.now in
    let shows = c.args.shows.now in
    let i = c.loop-step.step-index in
    let ask : Asked = record { op = c.in-Some.op.now; denied = c.in-Some.denied } in
    let some : asked_in c.step-item.result ≡ Some ask = c.in-Some.ensures in
    let so_far = c.loop-step.invariant in
    let k : ℕ = length (asked_operations (take i steps)) in
    let at : c.loop-step.line - c.args.first ≡ k = omega (arith, so_far.line') in
    record {
      lines = elim c.match-get.branch [
        | in-Some-get+in_ok-push w ↦
            let there : slice_get shows (c.loop-step.line - c.args.first) ≡ Some w.in-Some-get.shown.now =
            slice_get_read shows (length shows) _ w.in-Some-get.shown.now refl w.in-Some-get.ensures.lookup.3.0
            w.in-Some-get.ensures.lookup.1 in
            let number : w.count_at-number.result ≡ count_on ask.op.board (allowed_operations (asked_operations (take i steps))) =
            w.count_at-number.ensures ∙ (ap (λ (ns : List ℕ). get_or ns ask.op.board 0) w.as_slice.ensures.value
            ∙ so_far.counts' ask.op.board) in
            let pushed : map asking c.match-get.all.items ≡ map asking c.loop-step.all.items
            ++ walk.line_of c.args.client c.args.first steps shows _ i _ c.loop-step.line _ so_far c.step-item.result
            c.loop-step-test.true c.step-item.is ask some w.in-Some-get.shown.now ∷ [] =
            ap (λ (v : Vec AskedOp Global). map asking v.items) w.all-is
            ∙ (ap (map asking) w.in_ok-push.ensures.items ∙ (map_push asking c.loop-step.all.items _
            ∙ ap (λ n. map asking c.loop-step.all.items ++ walk.line_with c.loop-step.line c.args.client n ask
            w.in-Some-get.shown.now ∷ []) number)) in
            rw pushed (walk.shown_more c.args.client c.args.first steps shows _ i _ c.loop-step.line _ so_far
            c.step-item.result c.loop-step-test.true c.step-item.is ask some w.in-Some-get.shown.now
            (subst (λ n. slice_get shows n ≡ Some w.in-Some-get.shown.now) at there))
        | in_default-get w ↦
            let over : length shows ≤ c.loop-step.line - c.args.first = omega (arith, w.in_default-get.ensures.lookup) in
            let there : slice_get shows (c.loop-step.line - c.args.first) ≡ None = slice_get_past shows _ over in
            rw w.all-is (walk.unshown_more c.args.client c.args.first steps shows _ i _ c.loop-step.line _ so_far
            c.step-item.result c.loop-step-test.true c.step-item.is ask some
            (subst (λ n. slice_get shows n ≡ None) at there))
      ];
      line' = walk.next_line c.args.client c.args.first steps shows _ i _ c.loop-step.line _ so_far c.step-item.result
          c.loop-step-test.true c.step-item.is ask some;
      counts' = elim c.if-is_none.branch [
        | then-is_none+in_ok-count_one w ↦
            let free : ask.denied ≡ None = walk.no_rule ask.denied (c.is_none.ensures ∙ ap not w.if-is_none.true) in
            rw w.counts-is (walk.allowed_more c.args.client c.args.first steps shows _ i _ c.loop-step.line _ so_far
            c.step-item.result c.loop-step-test.true c.step-item.is ask some _ free w.in_ok-count_one.ensures)
        | else-is_none w ↦
            let denied : (rule : ℕ) × (ask.denied ≡ Some rule) =
            walk.some_rule ask.denied (c.is_none.ensures ∙ ap not w.if-is_none.false) in
            rw w.counts-is (walk.denied_more c.args.client c.args.first steps shows _ i _ c.loop-step.line _ so_far
            c.step-item.result c.loop-step-test.true c.step-item.is ask some denied.0 denied.1)
      ];
    }

pub returns-clause-lines : goal.returns-clause-lines
returns-clause-lines c = grind (arith, common_steps)

pub returns-clause-next : goal.returns-clause-next
returns-clause-next c = grind (arith, common_steps)
