-- The ring in which a board holds its last replies.
use Rattle.std.proofs.Common.{drop, ◌≡◌, ℕ, ◌+◌, ◌-◌, Bool, true, false, List, [], ◌∷◌, ◌++◌, length}
use Rattle.std.proofs.Common.{refl, sym, ap, ◌∙◌, arith, cond, ◌==◌, Some, None}
use Rattle.std.proofs.lemmas.List.{append-nil, drop-append-le, drop-drop, length-append, length-drop}
use Rattle.std.specs.List.{AllByRecursion}
use Rattle.circular_buffer.specs.Buffer.{Buffer, buffer, keep_last}
use Rattle.packet_codec.specs.declared.packet.Packet.{Packet}
use Rattle.ipb_base.proofs.AllLemmas.{AllByRecursion-append}
use Rattle.board_bus.specs.Bodies.{run_body}
use Rattle.world_model.specs.declared.heard.LogEntry.{LogEntry}
use Rattle.world_model.specs.Messages.{control_packet}
use Rattle.world_model.specs.Board.{Board, expected_identifier, held_replies, last_of, numbered_replies, present_bus, replies, with_id}
use Rattle.world_model.specs.Hearings.{if_numbered}
use Rattle.board_node.specs.View.{keeping}
use Rattle.world_model.proofs.BoardLogs.{kept_grows, with_entry}
use Rattle.board_node.proofs.Logs.{all_past}

-- The last items of a list with one item more are the last ones of its last items with that one.
last_again : {A : Type 0} (most : ℕ) (xs : List A) (x : A)
    → last_of most (xs ++ x ∷ []) ≡ keep_last most (last_of most xs ++ x ∷ [])
last_again most xs x =
    let past = length xs - most in
    let all = xs ++ x ∷ [] in
    let front : drop past xs ++ x ∷ [] ≡ drop past all = sym (drop-append-le past xs (x ∷ []) (omega arith)) in
    let size : length all ≡ length xs + 1 = length-append xs (x ∷ []) in
    let rest : length (drop past all) ≡ length all - past = length-drop past all in
    let more : past + (length (drop past all) - most) ≡ length all - most = omega (arith, size, rest) in
    ap (λ (n : ℕ). drop n all) (sym more)
    ∙ sym (drop-drop (length (drop past all) - most) past all)
    ∙ sym (ap (keep_last most) front)

-- A ring that holds the last replies holds them after one reply more, numbered or not.
keeping_last : (n : Bool) (most : ℕ) (all : List Packet) (packet : Packet)
    → keeping (buffer (last_of most all) most) n packet ≡ buffer (last_of most (all ++ if_numbered n packet)) most
keeping_last true most all packet =
    ap (λ (packets : List Packet). buffer packets most) (sym (last_again most all packet))
keeping_last false most all packet =
    ap (λ (packets : List Packet). buffer (last_of most packets) most) (sym (append-nil all))

pub holds_more : (b : Board) (e : LogEntry) (id : ℕ) (ring : Buffer Packet) → ring ≡ buffer (held_replies b) b.buffers
    → (e.numbered ≡ true → id ≡ expected_identifier b)
    → keeping ring e.numbered (control_packet e.order id (run_body (present_bus b) e.body).reply)
    ≡ buffer (held_replies (with_entry b e)) b.buffers
holds_more b e id ring is next =
    let packet = control_packet e.order id (run_body (present_bus b) e.body).reply in
    ap (λ (r : Buffer Packet). keeping r e.numbered packet) is
    ∙ keeping_last e.numbered b.buffers (numbered_replies b.first 1 b.log (replies b)) packet
    ∙ ap (λ (packets : List Packet). buffer (last_of b.buffers packets) b.buffers) (sym (kept_grows b e id next))

-- what is true of the replies of a ring and of one more is true after it was kept
pub keeping_all : (P : Packet → Type 0) (n : Bool) (ring : Buffer Packet) (packet : Packet)
    → AllByRecursion P ring.items
    → P packet → AllByRecursion P (keeping ring n packet).items
keeping_all P true ring packet all here =
    all_past P (length (ring.items ++ packet ∷ []) - ring.capacity) (ring.items ++ packet ∷ [])
    (AllByRecursion-append P ring.items (packet ∷ []) all (here, tt))
keeping_all P false ring packet all here = all

-- looking into two lists, one after the other
pub with_id_first : (id : ℕ) (older newer : List Packet) (packet : Packet) → with_id id older ≡ Some packet
    → with_id id (older ++ newer) ≡ Some packet
with_id_first id [] newer packet is = absurd cc
with_id_first id (p ∷ older) newer packet is =
    elim (p.id == id) as (λ b. cond b (Some p) (with_id id older) ≡ Some packet
    → cond b (Some p) (with_id id (older ++ newer)) ≡ Some packet) [
      | true ↦ λ here. here
      | false ↦ λ later. with_id_first id older newer packet later
    ] is

pub with_id_second : (id : ℕ) (older newer : List Packet) → with_id id older ≡ None
    → with_id id (older ++ newer) ≡ with_id id newer
with_id_second id [] newer is = refl
with_id_second id (p ∷ older) newer is =
    elim (p.id == id) as (λ b. cond b (Some p) (with_id id older) ≡ None
    → cond b (Some p) (with_id id (older ++ newer)) ≡ with_id id newer) [
      | true ↦ λ here. absurd cc
      | false ↦ λ later. with_id_second id older newer later
    ] is

-- the parts of a list of which something is true
pub all_older : {A : Type 0} (P : A → Type 0) (xs ys : List A) → AllByRecursion P (xs ++ ys) → AllByRecursion P xs
all_older P [] ys all = tt
all_older P (x ∷ xs) ys all = (all.0, all_older P xs ys all.1)

pub all_newer : {A : Type 0} (P : A → Type 0) (xs ys : List A) → AllByRecursion P (xs ++ ys) → AllByRecursion P ys
all_newer P [] ys all = all
all_newer P (x ∷ xs) ys all = all_newer P xs ys all.1
