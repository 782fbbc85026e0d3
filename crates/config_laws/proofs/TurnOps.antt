-- Operations on a bus one after another, and what is told of each.
use Rattle.std.proofs.Common.{◌≡◌, ◌≢◌, ℕ, not, ◌==◌, if◌then◌else◌, List, [], ◌∷◌, ◌++◌, length}
use Rattle.std.proofs.Common.{Option, Some, None, refl, ap, ◌∙◌, arith, append-nil}
use Rattle.std.specs.List.{slice_get}
use Rattle.transaction_codec.specs.declared.request.Op.{Op}
use Rattle.transaction_codec.specs.declared.request.Op.TheVariants.{Read, ReadPort, Write, WritePort, RmwBits, RmwSum}
use Rattle.transaction_codec.specs.declared.info_code.TheConstants.{SUCCESS}
use Rattle.transaction_codec.specs.Header.{is_write}
use Rattle.transaction_codec.specs.Request.{op_kind}
use Rattle.board_bus.specs.declared.fault.BusFault.{BusFault}
use Rattle.board_bus.specs.declared.fault.BusFault.TheVariants.{ReadError, WriteError, ReadTimeout, WriteTimeout}
use Rattle.board_bus.specs.Fault.{fault_code, info_code}
use Rattle.board_bus.specs.Cells.{CellMap}
use Rattle.board_bus.specs.Transactions.{outcome, transact}
use Rattle.reply_join.specs.declared.answer.Answer.{Answer}
use Rattle.reply_join.specs.declared.answer.Answer.TheVariants.{Values, Done, Fault}
use Rattle.reply_join.specs.Joining.{answer_of}
use Rattle.script_steps.specs.declared.operation.Verb.{Verb}
use Rattle.transcript.specs.declared.line.OpResult.{OpResult}
use Rattle.transcript.specs.Ends.{answer_result}
use Rattle.transcript.specs.Results.{combined_result, shown_result}
use Rattle.config_laws.specs.Turns.{after_ops}

-- ---- what is told of an operation

abbrev pub told_turn : CellMap → Op → OpResult
told_turn cells op = answer_result (Some (answer_of (transact cells (record { tid = 0; op = op })).reply))

-- what is told of operations one after another
abbrev pub turns : CellMap → List Op → List OpResult
turns cells [] = []
turns cells (op ∷ ops) = told_turn cells op ∷ turns (outcome cells op).cells ops

-- no operation of them is refused
abbrev pub AreAllDone : CellMap → List Op → Type 0
AreAllDone cells [] = Unit {0}
AreAllDone cells (op ∷ ops) = ((outcome cells op).fault ≡ None) × AreAllDone (outcome cells op).cells ops

pub fault_is_no_success : (f : BusFault) → fault_code f ≢ SUCCESS
fault_is_no_success ReadError e = omega (arith, e)
fault_is_no_success WriteError e = omega (arith, e)
fault_is_no_success ReadTimeout e = omega (arith, e)
fault_is_no_success WriteTimeout e = omega (arith, e)

pub no_fault : (found : Option BusFault) → info_code found ≡ SUCCESS → found ≡ None
no_fault None e = refl
no_fault (Some f) e = absurd (fault_is_no_success f e)

-- by the refusal, if there was one
abbrev answer_by : Option BusFault → ℕ → ℕ → List ℕ → Answer
answer_by found count kind values =
    if not (info_code found == SUCCESS) then Fault (info_code found) count
    else if is_write kind then Done
    else Values values

-- an operation that was done shows the words that it carries
pub shown_done : (cells : CellMap) (op : Op) (verb : Verb) (mask : ℕ) → (outcome cells op).fault ≡ None
    → combined_result verb mask (told_turn cells op ∷ []) ≡ shown_result verb mask (outcome cells op).values
shown_done cells op verb mask none =
    ap (λ (f : Option BusFault). combined_result verb mask
    (answer_result (Some (answer_by f (outcome cells op).count (op_kind op) (outcome cells op).values)) ∷ [])) none
    ∙ by_kind cells op verb mask where
      carried : (verb : Verb) (mask : ℕ) (values : List ℕ) → shown_result verb mask (values ++ []) ≡ shown_result verb mask values
      carried verb mask values = ap (shown_result verb mask) (append-nil values)

      by_kind : (cells : CellMap) (op : Op) (verb : Verb) (mask : ℕ)
          → combined_result verb mask
          (answer_result (Some (answer_by None (outcome cells op).count (op_kind op) (outcome cells op).values)) ∷ [])
          ≡ shown_result verb mask (outcome cells op).values
      by_kind cells (Read base count) verb mask = carried verb mask (outcome cells (Read base count)).values
      by_kind cells (ReadPort base count) verb mask = carried verb mask (outcome cells (ReadPort base count)).values
      by_kind cells (Write base words) verb mask = refl
      by_kind cells (WritePort base words) verb mask = refl
      by_kind cells (RmwBits base and_term or_term) verb mask =
          carried verb mask (outcome cells (RmwBits base and_term or_term)).values
      by_kind cells (RmwSum base addend) verb mask = carried verb mask (outcome cells (RmwSum base addend)).values

-- ---- some operations and then others

pub after_append : (cells : CellMap) (xs ys : List Op) → after_ops cells (xs ++ ys) ≡ after_ops (after_ops cells xs) ys
after_append cells [] ys = refl
after_append cells (x ∷ xs) ys = after_append (outcome cells x).cells xs ys

pub turns_append : (cells : CellMap) (xs ys : List Op)
    → turns cells (xs ++ ys) ≡ turns cells xs ++ turns (after_ops cells xs) ys
turns_append cells [] ys = refl
turns_append cells (x ∷ xs) ys = ap (λ (rs : List OpResult). told_turn cells x ∷ rs) (turns_append (outcome cells x).cells xs ys)

pub done_append : (cells : CellMap) (xs ys : List Op) → AreAllDone cells xs → AreAllDone (after_ops cells xs) ys
    → AreAllDone cells (xs ++ ys)
done_append cells [] ys one other = other
done_append cells (x ∷ xs) ys one other = (one.0, done_append (outcome cells x).cells xs ys one.1 other)

-- the operation behind others is done, and what is told of it stands at its place
pub done_behind : (cells : CellMap) (xs ys : List Op) (op : Op) → AreAllDone cells (xs ++ op ∷ ys)
    → (outcome (after_ops cells xs) op).fault ≡ None
done_behind cells [] ys op done = done.0
done_behind cells (x ∷ xs) ys op done = done_behind (outcome cells x).cells xs ys op done.1

pub turn_behind : (cells : CellMap) (xs ys : List Op) (op : Op)
    → slice_get (turns cells (xs ++ op ∷ ys)) (length xs) ≡ Some (told_turn (after_ops cells xs) op)
turn_behind cells [] ys op = refl
turn_behind cells (x ∷ xs) ys op = turn_behind (outcome cells x).cells xs ys op
