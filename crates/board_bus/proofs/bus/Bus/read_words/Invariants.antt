use Rattle.std.specs.Vec.{vec_capacity}
use Rattle.board_bus.proofs.Progress.{ReadingLoop}
use Rattle.board_bus.proofs.bus.Bus.read_words.Given as goal

abbrev pub invariant-loop-done : goal.invariant-loop-done
invariant-loop-done l =
    ReadingLoop l.self l.initial.out.items l.out.items (vec_capacity l.initial.out) (vec_capacity l.out) l.fn.addressing
    l.base l.address l.count l.done
