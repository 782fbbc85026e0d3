use Rattle.std.proofs.Common.{◌≡◌, ◌+◌, ◌-◌, suc, Some, Result, Ok, Err, sym, ap, ◌∙◌, arith}
use Rattle.std.specs.Result.{IsErrAnd, result_err}
use Rattle.board_bus.specs.declared.fault.BusFault.{BusFault}
use Rattle.board_bus.proofs.Progress.{reads_more, reads_fit, reads_stop}
use Rattle.board_bus.proofs.bus.Bus.read_words.Goals as goal

-- the fault that `?` hands on
err_is : (handed : Result (Unit {0}) BusFault) (fault : BusFault) → IsErrAnd handed (λ e. e ≡ fault)
    → result_err handed ≡ Some fault
err_is (Ok done) fault is = absurd is
err_is (Err e) fault is = ap Some is

pub push_within-requires : goal.push_within-requires
push_within-requires c =
    let more : c.args.count - c.loop-done.done ≡ suc (c.args.count - (c.loop-done.done + 1)) = omega arith in
    let fits = reads_fit _ _ _ _ _ _ _ _ c.loop-done.invariant.on _ _ c.step-step.ensures.value more
    _ (sym c.read_at.ensures ∙ c.in_ok-word.was) in
    omega (arith, fits, c.requires.room, c.loop-done.invariant.room, c.loop-done.out.ok, c.args.out.now.ok)

pub returns-in_err-word-clause-words : goal.returns-in_err-word-clause-words
returns-in_err-word-clause-words c =
    let more : c.args.count - c.loop-done.done ≡ suc (c.args.count - (c.loop-done.done + 1)) = omega arith in
    (reads_stop _ _ _ _ _ _ _ _ c.loop-done.invariant.on _ _ c.step-step.ensures.value more _ (sym c.read_at.ensures
    ∙ c.in_err-word.was)).0

pub returns-in_err-word-clause-fault : goal.returns-in_err-word-clause-fault
returns-in_err-word-clause-fault c =
    let more : c.args.count - c.loop-done.done ≡ suc (c.args.count - (c.loop-done.done + 1)) = omega arith in
    let stop = (reads_stop _ _ _ _ _ _ _ _ c.loop-done.invariant.on _ _ c.step-step.ensures.value more
    _ (sym c.read_at.ensures ∙ c.in_err-word.was)).1 in
    err_is c.from_residual.result c.in_err-word.field-0.0 c.from_residual.ensures.1 ∙ stop

pub loop-done-preserved : goal.loop-done-preserved
loop-done-preserved c =
    let more : c.args.count - c.loop-done.done ≡ suc (c.args.count - (c.loop-done.done + 1)) = omega arith in
    record {
      on = rw c.push_within.ensures.items
          (reads_more _ _ _ _ _ _ _ _ c.loop-done.invariant.on _ _ c.step-step.ensures.value more _
          (sym c.read_at.ensures ∙ c.in_ok-word.was));
      room = omega (arith, c.loop-done.invariant.room, c.push_within.ensures.capacity);
      near = omega (arith, c.loop-done.invariant.near, c.step-step.ensures.small);
    }
