use Rattle.std.proofs.Common.{arith}
use Rattle.script_lang.proofs.LineWords.{words-after_blanks, begun-after_blanks, boundary-after_blanks}
use Rattle.script_lang.proofs.line.trimmed.Goals as goal

pub split_at-requires : goal.split_at-requires
split_at-requires c =
    rw (c.blank_len.ensures, c.as_bytes.ensures.value) (boundary-after_blanks c.args.text.now c.utf8.text)

pub returns-clause-same : goal.returns-clause-same
returns-clause-same c =
    rw (c.split_at.ensures.back, c.blank_len.ensures, c.as_bytes.ensures.value) (words-after_blanks c.args.text.now)

pub returns-clause-begun : goal.returns-clause-begun
returns-clause-begun c =
    rw (c.split_at.ensures.back, c.blank_len.ensures, c.as_bytes.ensures.value) (begun-after_blanks c.args.text.now)

pub returns-clause-shorter : goal.returns-clause-shorter
returns-clause-shorter c = omega (arith, c.split_at.ensures.back_len)
