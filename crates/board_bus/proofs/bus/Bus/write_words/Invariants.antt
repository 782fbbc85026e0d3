use Rattle.board_bus.proofs.Progress.{WritingLoop}
use Rattle.board_bus.proofs.bus.Bus.write_words.Given as goal

abbrev pub invariant-loop-word : goal.invariant-loop-word
invariant-loop-word l = WritingLoop l.initial.self l.self l.fn.addressing l.base l.address l.done l.word-index l.words
