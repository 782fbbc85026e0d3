-- What lines show of operations one after another, of each board and of some lines and the others.
use Rattle.std.proofs.Common.{◌≡◌, ℕ, ◌==◌, List, [], ◌∷◌, ◌++◌, Option, Some, None, inl, inr, refl, sym, ap}
use Rattle.std.proofs.Common.{◌∙◌, subst, append_assoc, append-nil}
use Rattle.std.specs.List.{slice_get}
use Rattle.std.proofs.lemmas.Bool.{cases_Bool, eqb-true}
use Rattle.std.proofs.lemmas.Option.{same_Some}
use Rattle.transaction_codec.specs.declared.request.Op.{Op}
use Rattle.transaction_codec.specs.declared.request.Op.TheVariants.{Read}
use Rattle.board_bus.specs.Cells.{CellMap}
use Rattle.board_bus.specs.Transactions.{outcome}
use Rattle.board_specs.specs.declared.spec.BoardSpec.{BoardSpec}
use Rattle.board_specs.specs.declared.spec.LinkSpec.{LinkSpec}
use Rattle.script_steps.specs.Rulings.{Asked, allowed_operations}
use Rattle.script_steps.specs.declared.operation.RegOp.{RegOp}
use Rattle.script_plans.specs.Plan.{ops_on}
use Rattle.transcript.specs.declared.line.OpLine.{OpLine}
use Rattle.transcript.proofs.Allowed.{allowed-append}
use Rattle.board_history.specs.Runs.{opens_with}
use Rattle.config_laws.specs.Turns.{ShowTurns, ShowsTurn, after_ops, bus_behind}
use Rattle.config_laws.proofs.TurnLines.{on_away, on_here, undenied}
use Rattle.config_laws.proofs.TurnPlans.{ops_append}
use Rattle.config_laws.proofs.TurnOps.{AreAllDone, after_append}

-- ---- the bus behind one operation more

bus_more : (link : LinkSpec) (board : ℕ) (before : List Asked) (it : RegOp)
    → bus_behind link board (before ++ undenied it ∷ [])
    ≡ after_ops (bus_behind link board before) (ops_on board (it ∷ []))
bus_more link board before it =
    ap (λ (ops : List RegOp). after_ops (opens_with link) (ops_on board ops)) (allowed-append before (undenied it ∷ []))
    ∙ ap (after_ops (opens_with link)) (ops_append board (allowed_operations before) (it ∷ []))
    ∙ after_append (opens_with link) (ops_on board (allowed_operations before)) (ops_on board (it ∷ []))

-- a read leaves it as it is
read_leaves : (cells : CellMap) (board : ℕ) (it : RegOp) (base count : ℕ) → it.op ≡ Read base count
    → after_ops cells (ops_on board (it ∷ [])) ≡ cells
read_leaves cells board it base count is = elim (cases_Bool (it.board == board)) [
  | inl here ↦
      ap (after_ops cells) (on_here board it [] here) ∙ ap (λ (op : Op). (outcome cells op).cells) is
  | inr away ↦ ap (after_ops cells) (on_away board it [] away)
]

pub bus_read : (link : LinkSpec) (board : ℕ) (before : List Asked) (it : RegOp) (base count : ℕ) → it.op ≡ Read base count
    → bus_behind link board (before ++ undenied it ∷ []) ≡ bus_behind link board before
bus_read link board before it base count is =
    bus_more link board before it ∙ read_leaves (bus_behind link board before) board it base count is

-- ---- the operations on a board were done

module _ (specs : List BoardSpec) (board : ℕ) (spec : BoardSpec) (on : slice_get specs board ≡ Some spec) where
  one_done : (before : List Asked) (op : RegOp) (denied : Option ℕ) (asks : List Asked) (line : OpLine)
      → ShowsTurn specs before (record { op = op; denied = denied }) line
      → AreAllDone (bus_behind spec.link board (before ++ record { op = op; denied = denied } ∷ []))
      (ops_on board (allowed_operations asks))
      → AreAllDone (bus_behind spec.link board before)
      (ops_on board (allowed_operations (record { op = op; denied = denied } ∷ asks)))
  one_done before op None asks line turn later =
      let cells = bus_behind spec.link board before in
      elim (cases_Bool (op.board == board)) [
        | inl here ↦
            let place : op.board ≡ board = eqb-true op.board board here in
            let same : turn.spec ≡ spec =
            same_Some turn.spec spec (sym turn.on ∙ (ap (slice_get specs) place ∙ on)) in
            let fine : (outcome cells op.op).fault ≡ None =
            subst (λ n. (outcome (bus_behind spec.link n before) op.op).fault ≡ None) place
            (subst (λ (s : BoardSpec). (outcome (bus_behind s.link op.board before) op.op).fault ≡ None) same turn.done)
            in
            let next : bus_behind spec.link board (before ++ undenied op ∷ []) ≡ (outcome cells op.op).cells =
            bus_more spec.link board before op ∙ ap (after_ops cells) (on_here board op [] here) in
            subst (AreAllDone cells) (sym (on_here board op (allowed_operations asks) here))
            (fine, subst (λ (c : CellMap). AreAllDone c (ops_on board (allowed_operations asks))) next later)
        | inr away ↦
            let next : bus_behind spec.link board (before ++ undenied op ∷ []) ≡ cells =
            bus_more spec.link board before op ∙ ap (after_ops cells) (on_away board op [] away) in
            subst (AreAllDone cells) (sym (on_away board op (allowed_operations asks) away))
            (subst (λ (c : CellMap). AreAllDone c (ops_on board (allowed_operations asks))) next later)
      ]
  one_done before op (Some rule) asks line turn later = let bad : Some rule ≡ None = turn.allowed' in absurd cc

  pub turns_done : (before asks : List Asked) (lines : List OpLine) → ShowTurns specs before asks lines
      → AreAllDone (bus_behind spec.link board before) (ops_on board (allowed_operations asks))
  turns_done before [] lines turns = tt
  turns_done before (ask ∷ asks) [] turns = absurd turns
  turns_done before (ask ∷ asks) (line ∷ lines) turns =
      one_done before ask.op ask.denied asks line turns.0 (turns_done (before ++ ask ∷ []) asks lines turns.1)

-- ---- some operations and the others

pub record IsParted (specs : List BoardSpec) (before xs ys : List Asked) (lines : List OpLine) : Type 0 where
  pub front : List OpLine
  pub back : List OpLine
  pub parts : lines ≡ front ++ back
  pub first : ShowTurns specs before xs front
  pub second : ShowTurns specs (before ++ xs) ys back

pub parted : (specs : List BoardSpec) (before xs ys : List Asked) (lines : List OpLine)
    → ShowTurns specs before (xs ++ ys) lines → IsParted specs before xs ys lines
parted specs before [] ys lines turns = record {
  front = [];
  back = lines;
  parts = refl;
  first = tt;
  second = subst (λ (asks : List Asked). ShowTurns specs asks ys lines) (sym (append-nil before)) turns;
}
parted specs before (x ∷ xs) ys [] turns = absurd turns
parted specs before (x ∷ xs) ys (line ∷ lines) turns =
    let rest = parted specs (before ++ x ∷ []) xs ys lines turns.1 in
    record {
      front = line ∷ rest.front;
      back = rest.back;
      parts = ap (λ (ls : List OpLine). line ∷ ls) rest.parts;
      first = (turns.0, rest.first);
      second = subst (λ (asks : List Asked). ShowTurns specs asks ys rest.back) (append_assoc before (x ∷ []) xs)
          rest.second;
    }
