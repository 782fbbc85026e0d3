use Rattle.std.proofs.Common.{◌+◌, ◌-◌, ◌<◌, ◌≡◌, length, arith}
use Rattle.std.proofs.lemmas.List.{get_or_default}
use Rattle.board_bus.specs.declared.range.Span.{Span}
use Rattle.board_bus.proofs.range.any_meets_next.Goals as goal

pub returns-then-spans-i : goal.returns-then-spans-i
returns-then-spans-i c =
    let spans = c.args.spans.now in
    let none : Span = record { base = 0; «end» = 0 } in
    let next : c.loop-i.i - 1 + 1 ≡ c.loop-i.i = omega arith in
    let within : c.loop-i.i < length spans = omega arith in
    let before : c.loop-i.i - 1 < length spans = omega arith in (
      c.loop-i.i - 1,
      omega arith,
      λ d. rw (
        next,
        get_or_default spans c.loop-i.i d none within,
        get_or_default spans (c.loop-i.i - 1) d none before,
      ) c.if-spans-i.true,
    )
