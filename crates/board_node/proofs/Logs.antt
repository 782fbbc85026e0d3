-- What an executed control packet adds to the log and to the bus, as the code counts and keeps them.
use Rattle.std.proofs.Common.{zero, drop, ◌≡◌, ℕ, suc, ◌+◌, ◌≤◌, Bool, true, false, cond, List, [], ◌∷◌, ◌++◌, length}
use Rattle.std.proofs.Common.{refl, sym, ap, ◌∙◌, subst, arith}
use Rattle.std.proofs.lemmas.Bool.Decides.{nat_tests}
use Rattle.std.specs.List.{AllByRecursion}
use mir.Val.{bool_byte}
use Rattle.ipb_base.specs.Word.{AreWords}
use Rattle.ipb_base.specs.Numbers.{payload_of}
use Rattle.ipb_base.proofs.AllLemmas.{AllByRecursion-append}
use Rattle.transaction_codec.specs.Answer.{reply_room}
use Rattle.board_bus.specs.Bodies.{replay, run_body}
use Rattle.world_model.specs.declared.heard.LogEntry.{LogEntry}
use Rattle.world_model.specs.Board.{Board, bodies_executed, is_too_long, present_bus}
use Rattle.world_model.proofs.BoardLogs.{executed_grows, last_cells, with_entry}
use Rattle.board_node.specs.Log.{IsLoggable}

-- a test as a number
pub one_if : (b : Bool) → bool_byte b ≡ cond b 1 0
one_if true = refl
one_if false = refl

pub one_most : (b : Bool) → bool_byte b ≤ 1
one_most true = omega arith
one_most false = omega arith

pub bus_grows : (b : Board) (e : LogEntry) → present_bus (with_entry b e) ≡ (run_body (present_bus b) e.body).cells
bus_grows b e = ap (λ (bodies : List (List ℕ)). (replay b.opening bodies).cells) (executed_grows b e)
    ∙ last_cells b.opening (bodies_executed b) e.body

-- ---- the ranges

pub fits : (b : Board) (body : List ℕ) → is_too_long b body ≡ false
    → (length body + 1 ≤ payload_of b.mtu) × (reply_room body + 1 ≤ payload_of b.mtu)
fits b body is = grind (arith, nat_tests)

pub all_past : {A : Type 0} (P : A → Type 0) (n : ℕ) (xs : List A) → AllByRecursion P xs → AllByRecursion P (drop n xs)
all_past P zero xs all = all
all_past P (suc n) [] all = tt
all_past P (suc n) (x ∷ xs) all = all_past P n xs all.1

pub logged_grows : (mtu : ℕ) (log : List LogEntry) (e : LogEntry) (all : List LogEntry) → all ≡ log ++ e ∷ []
    → AllByRecursion (IsLoggable mtu) log
    → AreWords e.body → (length e.body + 1 ≤ payload_of mtu) × (reply_room e.body + 1 ≤ payload_of mtu)
    → AllByRecursion (IsLoggable mtu) all
logged_grows mtu log e all is before fits able =
    subst (AllByRecursion (IsLoggable mtu)) (sym is)
    (AllByRecursion-append (IsLoggable mtu) log (e ∷ []) before
    (record { words = fits; body = able.0; room = able.1 }, tt))
