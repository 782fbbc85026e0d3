-- What lines tell of bodies: what private functions promise one another. No public clause speaks of these.
use Rattle.std.specs.Prelude.{ℕ, List, [], ◌∷◌, map, Option, Some, None, Vec, slice_index_or}
use Rattle.std.specs.Option.{option_map_or}
use Rattle.std.specs.declared.alloc.Global.{Global}
use Rattle.std.specs.BTreeMap as tree
use Rattle.std.specs.BTreeMap.{BTreeMap}
use Rattle.std.specs.Ordering.{nat_cmp, ordering_then}
use Rattle.std.specs.declared.cmp.Ordering.{Ordering}
use Rattle.script_plans.specs.Plan.{ClientBodies}
use Rattle.script_plans.specs.declared.planned.PieceAt.{PieceAt}
use Rattle.script_plans.specs.declared.board_run.BoardRun.{BoardRun}
use Rattle.script_plans.specs.declared.board_run.ClientPart.{ClientPart}
use Rattle.run_audit.specs.declared.fate.Fate.{Fate}
use Rattle.run_audit.specs.AskedLines.{AskedLine}
use Rattle.run_audit.specs.Steps.{planned_pieces}

-- a body: its board, its client, and its number among the bodies of that client there
abbrev pub Body : Type 0
Body = ℕ × ℕ × ℕ

-- what was told first of bodies, by their boards and clients and by their numbers
abbrev pub Fates : Type 0
Fates = BTreeMap (ℕ × ℕ) (Vec (Option Fate) Global)

abbrev pub row_cmp : ℕ × ℕ → ℕ × ℕ → Ordering
row_cmp one other = ordering_then (nat_cmp one.0 other.0) (nat_cmp one.1 other.1)

abbrev pub fate_in : List (Option Fate) → ℕ → Option Fate
fate_in row body = slice_index_or row body None

-- what was told of a body
abbrev pub fate_of : Fates → Body → Option Fate
fate_of told body = option_map_or (λ row. fate_in row.items body.2) (tree.get row_cmp told (body.0, body.1)) None

-- what the clients asked of the boards of these runs
abbrev pub plans_in : List BoardRun → List (List ClientBodies)
plans_in runs = map (λ (run : BoardRun). map (λ (part : ClientPart). part.planned) run.parts) runs

-- the body of an operation that has these pieces, where it is one alone
abbrev pub only_body : AskedLine → List PieceAt → Option Body
only_body asking [] = None
only_body asking (piece ∷ []) = Some (asking.ask.op.board, asking.client, piece.body)
only_body asking (piece ∷ (other ∷ pieces)) = None

-- the same of an operation, by these runs
abbrev pub body_in : List BoardRun → AskedLine → Option Body
body_in runs asking = only_body asking (planned_pieces (plans_in runs) asking)
