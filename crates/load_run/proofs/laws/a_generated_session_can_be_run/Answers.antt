use Rattle.std.proofs.Common.{arith}
use Rattle.load_run.specs.Generated.{shares}
use Rattle.load_run.proofs.Shares.{all-shares}
use Rattle.load_run.proofs.Ready.{all-executable, all-few, all-packed, all-short, all-within}
use Rattle.load_run.proofs.laws.a_generated_session_can_be_run.Goals as goal

pub returns-clause-packed : goal.returns-clause-packed
returns-clause-packed c = λ count. all-packed (shares count)

pub returns-clause-few : goal.returns-clause-few
returns-clause-few c = λ count small.
    all-few c.few_words_are_few_pieces.ensures (shares count) (omega (arith, all-shares count))

pub returns-clause-executable : goal.returns-clause-executable
returns-clause-executable c = λ count. all-executable (shares count)

pub returns-clause-within : goal.returns-clause-within
returns-clause-within c = λ count small. all-within count small

pub returns-clause-short : goal.returns-clause-short
returns-clause-short c = λ count small. all-short (shares count) (omega (arith, all-shares count))
