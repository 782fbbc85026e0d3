-- What one datagram does to a board, and what many do.
use Rattle.std.proofs.Common.{◌≡◌, ◌⊎◌, ℕ, ◌+◌, ◌≤◌, ◌==◌, true, false, List, [], ◌∷◌, ◌++◌, map, Option}
use Rattle.std.proofs.Common.{Some, None, refl, sym, ap, ◌∙◌, arith, append_assoc, inl, inr}
use Rattle.std.proofs.lemmas.List.{append-nil, map-append}
use Rattle.std.proofs.lemmas.Bool.{eqb-true}
use Rattle.std.specs.List.{AllByRecursion}
use Rattle.packet_codec.specs.declared.packet.Order.{Order}
use Rattle.packet_codec.specs.declared.packet.Packet.{Packet}
use Rattle.board_bus.specs.Cells.{CellMap}
use Rattle.board_bus.specs.Bodies.{replay, run_body}
use Rattle.world_model.specs.declared.heard.LogEntry.{LogEntry}
use Rattle.world_model.specs.Messages.{ToBoard, StatusRequest, ResendRequest, ControlPacket, to_board}
use Rattle.world_model.specs.Board.{Board, Hearing, body_of, execute, expected_identifier, hear, hear_control, hear_message}
use Rattle.world_model.specs.Board.{held_replies, is_too_long, numbered_count, present_bus, send_again, with_id}
use Rattle.world_model.specs.Hearings.{after, IsQuestion}
use Rattle.world_model.proofs.Lists.{either}

abbrev pub with_log : Board → List LogEntry → Board
with_log b log = record b { log = log }

-- ---- one datagram

-- a control packet that was executed: the expected one, or one of identifier 0
pub record IsExecuting (b : Board) (h : Hearing) : Type 0 where
  pub id : ℕ
  pub entry : LogEntry
  pub is : h ≡ execute b id entry
  pub next : entry.numbered ≡ true → id ≡ expected_identifier b

-- the board is as it was, or executed a control packet
abbrev pub IsStep : Board → Hearing → Type 0
IsStep b h = (h.board ≡ b) ⊎ IsExecuting b h

asked_again : (b : Board) (found : Option Packet) → (send_again b found).board ≡ b
asked_again b None = refl
asked_again b (Some packet) = refl

told : (b : Board) (order : Order) (id : ℕ) (body : List ℕ) → IsStep b (hear_control b order id body)
told b order id body =
    either (IsStep b) (is_too_long b body) _ _ (λ _. inl refl) (λ _.
    either (IsStep b) (id == 0) _ _
    (λ _. inr (record {
      id = id;
      entry = record { numbered = false; order = order; body = body };
      is =
          refl;
      next = λ e. absurd cc;
    })) (λ _.
    either (IsStep b) (id == expected_identifier b) _ _
    (λ e. inr (record {
      id = id;
      entry = record { numbered = true; order = order; body = body };
      is = refl;
      next =
          λ _. eqb-true id (expected_identifier b) e;
    })) (λ _. inl refl)))

said : (b : Board) (m : Option ToBoard) → IsStep b (hear_message b m)
said b None = inl refl
said b (Some StatusRequest) = inl refl
said b (Some (ResendRequest id)) = inl (asked_again b (with_id id (held_replies b)))
said b (Some (ControlPacket order id body)) = told b order id body

pub step : (b : Board) (datagram : List ℕ) → IsStep b (hear b datagram)
step b datagram = said b (to_board datagram)

-- a question changes nothing
pub question : (b : Board) (datagram : List ℕ) → IsQuestion datagram → (hear b datagram).board ≡ b
question b datagram (inl is) = ap (λ (m : Option ToBoard). (hear_message b m).board) is
question b datagram (inr (id, is)) = ap (λ (m : Option ToBoard). (hear_message b m).board) is
    ∙ asked_again b (with_id id (held_replies b))

pub questions : (b : Board) (datagrams : List (List ℕ)) → AllByRecursion IsQuestion datagrams → after b datagrams ≡ b
questions b [] all = refl
questions b (datagram ∷ datagrams) all = ap (λ (x : Board). after x datagrams) (question b datagram all.0)
    ∙ questions b datagrams all.1

-- ---- many datagrams

-- nothing but the log changes, and it grows at its end
abbrev pub Grew : Board → Board → Type 0
Grew b c = (later : List LogEntry) × (c ≡ with_log b (b.log ++ later))

grew_none : (b c : Board) → c ≡ b → Grew b c
grew_none b c same = ([], same ∙ ap (with_log b) (sym (append-nil b.log)))

step_grew : (b : Board) (h : Hearing) → IsStep b h → Grew b h.board
step_grew b h (inl same) = grew_none b h.board same
step_grew b h (inr e) = (e.entry ∷ [], ap (λ (x : Hearing). x.board) e.is)

pub grew_on : (b c d : Board) → Grew b c → Grew c d → Grew b d
grew_on b c d (one, first) (two, second) = (
  one ++ two,
  second ∙ (ap (λ (x : Board). with_log x (x.log ++ two)) first
      ∙ ap (with_log b) (append_assoc b.log one two)),
)

pub grew : (b : Board) (datagrams : List (List ℕ)) → Grew b (after b datagrams)
grew b [] = grew_none b b refl
grew b (datagram ∷ datagrams) =
    grew_on b (hear b datagram).board (after b (datagram ∷ datagrams))
    (step_grew b (hear b datagram) (step b datagram)) (grew (hear b datagram).board datagrams)

pub numbered_more : (one two : List LogEntry) → numbered_count (one ++ two) ≡ numbered_count one + numbered_count two
numbered_more [] two = omega arith
numbered_more (e ∷ one) two = let h = numbered_more one two in omega arith

pub same_first : (b c : Board) → Grew b c → c.first ≡ b.first
same_first b c (later, is) = ap (λ (x : Board). x.first) is

pub same_buffers : (b c : Board) → Grew b c → c.buffers ≡ b.buffers
same_buffers b c (later, is) = ap (λ (x : Board). x.buffers) is

pub same_length : (b c : Board) (body : List ℕ) → Grew b c → is_too_long c body ≡ is_too_long b body
same_length b c body (later, is) = ap (λ (x : Board). is_too_long x body) is

pub more_numbered : (b c : Board) → Grew b c → numbered_count b.log ≤ numbered_count c.log
more_numbered b c (later, is) =
    let same = ap (λ (x : Board). numbered_count x.log) is in
    let sum = numbered_more b.log later in
    omega arith

-- ---- the bus

replay_on : (cells : CellMap) (front back : List (List ℕ))
    → (replay cells (front ++ back)).cells ≡ (replay (replay cells front).cells back).cells
replay_on cells [] back = refl
replay_on cells (body ∷ front) back = replay_on (run_body cells body).cells front back

pub bus_on : (b c : Board) (later : List LogEntry) → c ≡ with_log b (b.log ++ later)
    → present_bus c ≡ (replay (present_bus b) (map body_of later)).cells
bus_on b c later is =
    ap present_bus is ∙ (ap (λ (bodies : List (List ℕ)). (replay b.opening bodies).cells)
    (map-append body_of b.log later) ∙ replay_on b.opening (map body_of b.log) (map body_of later))
