use Rattle.std.proofs.Common.{◌≡◌, ◌++◌, codes, ap, ◌∙◌, refl, arith}
use Rattle.std.specs.Fmt.{decimal}
use Rattle.std.proofs.lemmas.Fmt.{decimal_digit, decimal_step}
use Rattle.node_tree.proofs.laws.indexes_stand_behind_ids.Goals as goal

zero_text : decimal 0 ≡ codes "0"
zero_text = decimal_digit 0 (omega arith)

eleven_text : decimal 11 ≡ codes "11"
eleven_text = decimal_step 11 (omega arith) (omega arith) ∙ ap (λ ds. ds ++ codes "1") (decimal_digit 1 (omega arith))

pub returns-clause-first : goal.returns-clause-first
returns-clause-first c = λ n named counted. rw (named, counted, zero_text) refl

pub returns-clause-two_digits : goal.returns-clause-two_digits
returns-clause-two_digits c = λ n named counted. rw (named, counted, eleven_text) refl
