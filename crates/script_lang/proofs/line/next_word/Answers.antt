use Rattle.std.proofs.Common.{◌<◌, length, sym, ◌∙◌, arith}
use Rattle.script_lang.proofs.LineWords.{words-first, word-some, some_bytes, boundary-after_word}
use Rattle.script_lang.proofs.line.next_word.Goals as goal

pub split_at-requires : goal.split_at-requires
split_at-requires c = rw (c.word_len.ensures, c.as_bytes.ensures.value) (boundary-after_word c.trimmed-text.result.now)

pub returns-clause-words : goal.returns-clause-words
returns-clause-words c =
    let some : 0 < length c.trimmed-text.result.now = some_bytes _ _ c.is_empty.ensures c.if-is_empty.false in
    rw (c.split_at.ensures.front, c.split_at.ensures.back, c.word_len.ensures, c.as_bytes.ensures.value)
    (sym c.trimmed-text.ensures.same ∙ words-first c.trimmed-text.result.now c.trimmed-text.ensures.begun some)

pub returns-clause-shorter : goal.returns-clause-shorter
returns-clause-shorter c =
    let some : 0 < length c.trimmed-text.result.now = some_bytes _ _ c.is_empty.ensures c.if-is_empty.false in
    let byte : 0 < c.word_len.result =
    rw (c.word_len.ensures, c.as_bytes.ensures.value)
    (word-some c.trimmed-text.result.now c.trimmed-text.ensures.begun some) in
    omega (arith, c.split_at.ensures.back_len, c.trimmed-text.ensures.shorter)
