use Rattle.std.proofs.Common.{◌≡◌, ◌-◌, ap, arith, eq-eqb, get_or, length, sym, ◌∙◌}
use Rattle.std.proofs.lemmas.Bool.{false≢true}
use Rattle.std.proofs.lemmas.Grind.{common_steps}
use Rattle.access_policy.proofs.Closed.{no_index}
use Rattle.access_policy.proofs.names.is_closed.Goals as goal

pub returns-then-not-is_empty : goal.returns-then-not-is_empty
returns-then-not-is_empty c = λ other.
    no_index c.args.text.now
    (λ some last.
    let bytes = c.as_bytes-bytes.result.now in
    let at : get_or bytes (length bytes - 1) 0 ≡ 93 =
    ap (λ text. get_or text (length text - 1) 0) c.as_bytes-bytes.ensures.value ∙ last in
    false≢true (sym other ∙ eq-eqb (get_or bytes (length bytes - 1) 0) 93 at))

pub returns-else-not-is_empty : goal.returns-else-not-is_empty
returns-else-not-is_empty c = λ other. no_index c.args.text.now (λ some last. grind (arith, common_steps))
