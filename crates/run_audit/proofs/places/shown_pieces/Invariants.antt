use Rattle.std.proofs.Common.{◌≡◌, ◌++◌, drop, map}
use Rattle.run_audit.specs.Steps.{asking, planned_shown, piece_kept}
use Rattle.run_audit.proofs.places.shown_pieces.Given as goal

-- those so far, and the operations that are left
abbrev pub invariant-loop-ask : goal.invariant-loop-ask
invariant-loop-ask l =
    map piece_kept l.all.items ++ planned_shown l.plans l.board (map asking (drop l.ask-index l.asked))
    ≡ planned_shown l.plans l.board (map asking l.asked)
