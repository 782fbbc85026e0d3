-- Operations of one word that a client asks of its boards, and lines that show what a bus gives them one after another.
-- IPbus 2.0, transactions; uHAL for what a line shows.
use Rattle.std.specs.Prelude.{◌≡◌, ℕ, ◌+◌, List, [], ◌∷◌, ◌++◌, length, Some, None}
use Rattle.std.specs.List.{AllByRecursion, slice_get}
use Rattle.transaction_codec.specs.declared.request.Op.{Op}
use Rattle.transaction_codec.specs.Request.{op_count}
use Rattle.board_bus.specs.Cells.{CellMap}
use Rattle.board_bus.specs.Transactions.{outcome}
use Rattle.board_specs.specs.declared.spec.BoardSpec.{BoardSpec}
use Rattle.board_specs.specs.declared.spec.LinkSpec.{LinkSpec}
use Rattle.script_steps.specs.declared.operation.RegOp.{RegOp}
use Rattle.script_steps.specs.declared.operation.Step.{Step}
use Rattle.script_steps.specs.Rulings.{Asked, allowed_operations}
use Rattle.script_plans.specs.Plan.{operations, ops_on}
use Rattle.transcript.specs.declared.line.OpLine.{OpLine}
use Rattle.transcript.specs.Results.{shown_result}
use Rattle.board_history.specs.Runs.{opens_with}

-- ---- what is asked

-- one word is read, written or changed
abbrev pub IsOfOneWord : RegOp → Type 0
IsOfOneWord op = op_count op.op ≡ 1

-- so of each operation of a client that no rule denies
abbrev pub AreOfOneWord : List Step → Type 0
AreOfOneWord steps = AllByRecursion IsOfOneWord (operations steps)

-- ---- on a bus

-- the bus after operations one after another
abbrev pub after_ops : CellMap → List Op → CellMap
after_ops cells [] = cells
after_ops cells (op ∷ ops) = after_ops (outcome cells op).cells ops

-- what the bus of a board is that did these operations of a client, and nothing else
abbrev pub bus_behind : LinkSpec → ℕ → List Asked → CellMap
bus_behind link board before = after_ops (opens_with link) (ops_on board (allowed_operations before))

-- ---- what is shown

-- The line of an operation behind others of its client shows what the bus of its board gives, which did those before it
-- on this board: it is done, and the line shows the words that it carries, as its verb shows them.
pub record ShowsTurn (specs : List BoardSpec) (before : List Asked) (ask : Asked) (line : OpLine) : Type 0 where
  pub allowed' : ask.denied ≡ None
  pub spec : BoardSpec
  pub on : slice_get specs ask.op.board ≡ Some spec
  pub number' : line.number ≡ length before + 1
  pub verb' : line.verb ≡ ask.op.verb
  pub board' : line.board ≡ spec.name
  pub name' : line.name ≡ ask.op.name
  pub done : (outcome (bus_behind spec.link ask.op.board before) ask.op.op).fault ≡ None
  pub result' : line.result
      ≡ shown_result ask.op.verb ask.op.mask (outcome (bus_behind spec.link ask.op.board before) ask.op.op).values

-- so of each of these operations: there is one line for each, in order
abbrev pub ShowTurns : List BoardSpec → List Asked → List Asked → List OpLine → Type 0
ShowTurns specs before [] [] = Unit {0}
ShowTurns specs before (ask ∷ asks) (line ∷ lines) =
    ShowsTurn specs before ask line × ShowTurns specs (before ++ ask ∷ []) asks lines
ShowTurns specs before asks lines = ⊥
