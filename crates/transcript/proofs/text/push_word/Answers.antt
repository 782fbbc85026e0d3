use Rattle.transcript.proofs.Hex.{eight_digits}
use Rattle.transcript.proofs.text.push_word.Goals as goal

pub returns : goal.returns
returns c = rw eight_digits at (rw (c.laid_out.ensures, c.in_radix.ensures) at c.in_ok-write.ensures.bytes)
