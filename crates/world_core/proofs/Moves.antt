-- Moves one by one.
use Rattle.std.proofs.Common.{◌≡◌, ℕ, ◌+◌, ◌<◌, ◌≤◌, List, [], ◌∷◌, length, take, drop, get_or, Result, Ok, Err, refl}
use Rattle.std.proofs.Common.{sym, ap, ◌∙◌, subst, arith}
use Rattle.std.specs.List.{AllByRecursion}
use Rattle.std.specs.Prelude.{IfErr, IsErrAnd}
use Rattle.std.proofs.lemmas.List.{drop_all, drop_more, take_all}
use Rattle.std.proofs.lemmas.List.Elements.{All-from_recursion, All-more, recursion_from_All}
use Rattle.reliable_engine.specs.Answers.{body_count}
use Rattle.world_model.specs.declared.datagram.Datagram.{Datagram}
use Rattle.world_model.specs.declared.moves.WorldEnd.{WorldEnd}
use Rattle.world_model.specs.declared.moves.WorldMove.{WorldMove}
use Rattle.std.proofs.Common.{map, min}
use Rattle.packet_ids.specs.Identifier.{IsIdentifier, identifier_at}
use Rattle.status_packet.specs.Range.{IsMtu, IsBufferCount}
use Rattle.board_bus.specs.Cells.{HoldsWords}
use Rattle.world_model.specs.declared.settings.TheConstants.{MAX_WINDOW}
use Rattle.world_model.specs.declared.heard.LogEntry.{LogEntry}
use Rattle.world_model.specs.Board.{Board, body_of, bodies_executed, expected_identifier, numbered_count}
use Rattle.world_model.specs.Hub.{Hub, new_hub, none_handed_out}
use Rattle.world_model.specs.World.{World, moves_on, run_moves, start, step, told_in, with_told}
use Rattle.world_model.specs.Facts.{IsStart}
use Rattle.world_model.specs.History.{IsMove, IsRun}
use Rattle.world_core.specs.Steps.{HasSpellings, IsRunning}

split_at : (moves : List WorldMove) (at : ℕ) (move : WorldMove) → at < length moves → move ≡ get_or moves at move
    → drop at moves ≡ move ∷ drop (at + 1) moves
split_at moves at move within is =
    drop_more moves at move within ∙ ap (λ (m : WorldMove). m ∷ drop (at + 1) moves) (sym is)

-- an end that is handed on tells what it told
pub handed_on : {X : Type 0} (P : WorldEnd → Type 0) (r : Result X WorldEnd) (end : WorldEnd)
    → IsErrAnd r (λ handed. handed ≡ end) → P end → IfErr r P
handed_on P (Ok x) end is told = tt
handed_on P (Err handed) end is told = subst P (sym is) told

pub ends_at : (begin now : World) (moves : List WorldMove) (at : ℕ) (move : WorldMove) (end : WorldEnd)
    → at < length moves → move ≡ get_or moves at move → run_moves at now (drop at moves) ≡ run_moves 0 begin moves
    → step at now move ≡ Err end → run_moves 0 begin moves ≡ Err end
ends_at begin now moves at move end within is same refused =
    sym same ∙ (ap (run_moves at now) (split_at moves at move within is)
    ∙ ap (λ r. moves_on r (λ after. run_moves (at + 1) after (drop (at + 1) moves))) refused)

-- before the first move
pub before_all : (begin now : World) (moves : List WorldMove) → now ≡ begin → HasSpellings now.hub
    → body_count now.hub ≡ 0 → IsRunning begin moves 0 now
before_all begin now moves is spellings none = record {
  same = ap (λ (w : World). run_moves 0 w moves) is;
  sendable = tt;
  spellings = spellings;
  counted = omega (arith, none);
}

-- one move more
pub moved_on : (begin now after : World) (moves : List WorldMove) (at : ℕ) (move : WorldMove) → at < length moves
    → move ≡ get_or moves at move → IsRunning begin moves at now → step at now move ≡ Ok after → IsMove move
    → HasSpellings after.hub → body_count after.hub ≤ body_count now.hub + 1 → IsRunning begin moves (at + 1) after
moved_on begin now after moves at move within is running led sendable spellings counted = record {
  same = ap (λ (r : Result World WorldEnd). moves_on r (λ w. run_moves (at + 1) w (drop (at + 1) moves))) (sym led)
      ∙ (sym (ap (run_moves at now) (split_at moves at move within is)) ∙ running.same);
  sendable = recursion_from_All IsMove (take (at + 1) moves) (All-more IsMove moves at move within
      (All-from_recursion IsMove (take at moves) running.sendable) (subst IsMove is sendable));
  spellings = spellings;
  counted = omega (arith, counted, running.counted);
}

-- after the last move
pub moved_all : (begin now : World) (moves : List WorldMove) (at : ℕ) → length moves ≤ at → IsRunning begin moves at now
    → run_moves 0 begin moves ≡ Ok now
moved_all begin now moves at past is = sym is.same ∙ ap (run_moves at now) (drop_all at moves past)

pub whole_run : (window rounds : ℕ) (board : Board) (moves : List WorldMove) (at : ℕ) (now : World)
    → IsStart window board [] → length moves ≤ at → IsRunning (start window rounds board []) moves at now
    → IsRun window rounds board [] moves now
whole_run window rounds board moves at now begins past is = record {
  begins = begins;
  leads = record {
    sendable = subst (AllByRecursion IsMove) (take_all at moves past) is.sendable;
    at = 0;
    ran = moved_all (start window rounds board []) now moves at past is;
  };
}

nothing_logged : (log : List LogEntry) → map body_of log ≡ [] → log ≡ []
nothing_logged [] none = refl
nothing_logged (entry ∷ log) none = absurd cc

-- a run can begin at a board that has executed nothing
pub begins_there : (window : ℕ) (board : Board) → window ≤ MAX_WINDOW → IsMtu board.mtu → IsBufferCount board.buffers
    → IsIdentifier board.first → HoldsWords board.opening → bodies_executed board ≡ [] → IsStart window board []
begins_there window board few mtu buffers first opening none = record {
  few = few;
  mtu = mtu;
  buffers = buffers;
  first = first;
  opening = opening;
  fresh = nothing_logged board.log none;
  greetings = tt;
}

-- a hub that has sent nothing has spellings of all that it sent, and no bodies
pub new_spellings : (first window rounds : ℕ) (hub : Hub) → hub ≡ new_hub first window rounds → HasSpellings hub
new_spellings first window rounds hub is =
    let none : HasSpellings (new_hub first window rounds) = record { sent = tt; queue = tt } in
    subst HasSpellings (sym is) none

pub new_bodies : (first window rounds : ℕ) (hub : Hub) → hub ≡ new_hub first window rounds → body_count hub ≡ 0
new_bodies first window rounds hub is = ap body_count is

-- the hub of a board that has executed nothing knows the first identifier of it
pub begun_there : (window rounds : ℕ) (old : Board) (next buffers : ℕ) (w : World) → bodies_executed old ≡ []
    → identifier_at old.first 1 ≡ old.first → next ≡ expected_identifier old → buffers ≡ old.buffers → w.board ≡ old
    → w.hub ≡ new_hub next (min window buffers) rounds → w.air ≡ [] → told_in w ≡ none_handed_out
    → w ≡ start window rounds old []
begun_there window rounds old next buffers w none at_first next_is buffers_are board hub air told =
    let first : next ≡ old.first = next_is
    ∙ (ap (λ (log : List LogEntry). identifier_at old.first (numbered_count log + 1)) (nothing_logged old.log none)
    ∙ at_first) in
    let new : w.hub ≡ new_hub old.first (min window old.buffers) rounds = hub
    ∙ (ap (λ (n : ℕ). new_hub n (min window buffers) rounds) first
    ∙ ap (λ (b : ℕ). new_hub old.first (min window b) rounds) buffers_are) in
    let begins = start window rounds old [] in
    ap (λ (b : Board). record w { board = b }) board
    ∙ (ap (λ (h : Hub). record w { board = old; hub = h }) new
    ∙ (ap (λ (a : List Datagram). record w { board = old; hub = begins.hub; air = a }) air
    ∙ ap (with_told begins) told))
