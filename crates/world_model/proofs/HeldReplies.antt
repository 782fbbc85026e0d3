-- Which replies a board holds, and which one a re-send request finds.
use Rattle.std.proofs.Common.{◌<◌, ◌==◌, ◌≡◌, ℕ, zero, suc, ◌+◌, ◌-◌, ◌≤◌, true, false, cond, List, [], ◌∷◌, ◌++◌}
use Rattle.std.proofs.Common.{length, map, drop, Option, Some, None, refl, sym, ap, ◌∙◌, arith, append_assoc}
use Rattle.std.proofs.lemmas.Bool.{eq-eqb}
use Rattle.std.proofs.lemmas.List.{drop-append-le, length-append, map-append}
use Rattle.std.proofs.lemmas.Option.{slice_get_within}
use Rattle.std.specs.List.{slice_get}
use Rattle.packet_codec.specs.declared.packet.Order.{Order}
use Rattle.packet_codec.specs.declared.packet.Packet.{Packet}
use Rattle.packet_ids.specs.Identifier.{identifier_at}
use Rattle.board_bus.specs.Bodies.{replay, run_body}
use Rattle.board_bus.specs.Cells.{CellMap}
use Rattle.world_model.specs.declared.heard.Heard.TheVariants.{Replied, Resent}
use Rattle.world_model.specs.declared.heard.DropCause.TheVariants.{NotHeld}
use Rattle.world_model.specs.declared.heard.LogEntry.{LogEntry}
use Rattle.world_model.specs.Messages.{ToBoard, ControlPacket, ResendRequest, control_packet, to_board}
use Rattle.world_model.specs.Board.{Board, Hearing, body_of, hearing_dropped, expected_identifier, hear, hear_message, held_replies, numbered_count}
use Rattle.world_model.specs.Board.{numbered_replies, present_bus, replies, send_again, with_id}
use Rattle.world_model.specs.Hearings.{after, IsAmongLast}
use Rattle.world_model.proofs.Lists.{differ}
use Rattle.world_model.proofs.BoardLogs.{as_long, joined, kept_count, kept_grows}
use Rattle.world_model.proofs.BoardSteps.{grew, with_log, same_buffers}
use Rattle.world_model.proofs.BoardTurns.{apart, entry_of, numbered_heard, was_expected}

-- the numbered replies of a board
abbrev kept : Board → List Packet
kept b = numbered_replies b.first 1 b.log (replies b)

-- ---- each has the identifier of its place

named_here : (first place k : ℕ) (p q : Packet) (later : List Packet) → q.id ≡ identifier_at first place
    → ((j : ℕ) → slice_get later j ≡ Some p → p.id ≡ identifier_at first (place + 1 + j))
    → slice_get (q ∷ later) k ≡ Some p → p.id ≡ identifier_at first (place + k)
named_here first place zero p q later is rest at =
    let same : q ≡ p = cc in
    let here : place ≡ place + 0 = omega arith in
    ap (λ (x : Packet). x.id) (sym same) ∙ (is ∙ ap (identifier_at first) here)
named_here first place (suc k) p q later is rest at =
    let here : place + 1 + k ≡ place + suc k = omega arith in
    rest k at ∙ ap (identifier_at first) here

named : (first place : ℕ) (log : List LogEntry) (rs : List (List ℕ)) (k : ℕ) (p : Packet)
    → slice_get (numbered_replies first place log rs) k ≡ Some p → p.id ≡ identifier_at first (place + k)
named first place [] rs k p at = absurd cc
named first place (e ∷ log) [] k p at = absurd cc
named first place (e ∷ log) (r ∷ rs) k p at =
    let packet = control_packet e.order (identifier_at first place) r in
    elim e.numbered as (λ b. slice_get
    (cond b (packet ∷ numbered_replies first (place + 1) log rs) (numbered_replies first place log rs)) k ≡ Some p
    → p.id ≡ identifier_at first (place + k)) [
      | true ↦ λ there. named_here first place k p packet (numbered_replies first (place + 1) log rs) refl
          (λ j found. named first (place + 1) log rs j p found) there
      | false ↦ λ there. named first place log rs k p there
    ] at

-- ---- the first one with an identifier

skipped : (id : ℕ) (front : List Packet) (packet : Packet) (more : List Packet)
    → ((k : ℕ) (p : Packet) → slice_get front k ≡ Some p → p.id ≡ id → ⊥) → packet.id ≡ id
    → with_id id (front ++ packet ∷ more) ≡ Some packet
skipped id [] packet more others same = rw (eq-eqb packet.id id same) refl
skipped id (p ∷ front) packet more others same =
    rw (differ p.id id (others 0 p refl)) (skipped id front packet more (λ k q at. others (suc k) q at) same)

missing : (id : ℕ) (packets : List Packet) → ((k : ℕ) (p : Packet) → slice_get packets k ≡ Some p → p.id ≡ id → ⊥)
    → with_id id packets ≡ None
missing id [] others = refl
missing id (p ∷ packets) others =
    rw (differ p.id id (others 0 p refl)) (missing id packets (λ k q at. others (suc k) q at))

dropped_get : {A : Type 0} (n : ℕ) (xs : List A) (k : ℕ) (x : A) → slice_get (drop n xs) k ≡ Some x
    → slice_get xs (n + k) ≡ Some x
dropped_get zero xs k x at = let here : 0 + k ≡ k = omega arith in rw here at
dropped_get (suc n) [] k x at = absurd cc
dropped_get (suc n) (y ∷ xs) k x at = let here : suc n + k ≡ suc (n + k) = omega arith in
    rw here (dropped_get n xs k x at)

-- ---- a reply that is still held

replies_on : (cells : CellMap) (front back : List (List ℕ))
    → (replay cells (front ++ back)).replies ≡ (replay cells front).replies ++
    (replay (replay cells front).cells back).replies
replies_on cells [] back = refl
replies_on cells (body ∷ front) back =
    ap (λ (rs : List (List ℕ)). (run_body cells body).reply ∷ rs) (replies_on (run_body cells body).cells front back)

-- the numbered replies after more was executed
kept_more : (b : Board) (later : List LogEntry)
    → (rest : List Packet) × (kept (with_log b (b.log ++ later)) ≡ kept b ++ rest)
kept_more b later =
    let after_all = replay (present_bus b) (map body_of later) in
    let all : replies (with_log b (b.log ++ later)) ≡ replies b ++ after_all.replies =
    ap (λ (bodies : List (List ℕ)). (replay b.opening bodies).replies) (map-append body_of b.log later)
    ∙ replies_on b.opening (map body_of b.log) (map body_of later) in (
      numbered_replies b.first (1 + numbered_count b.log) later after_all.replies,
      ap (numbered_replies b.first 1 (b.log ++ later)) all
          ∙ joined b.first 1 b.log later (replies b) after_all.replies (as_long b),
    )

-- a reply that was sent is found again, while no more packets were numbered since than there are buffers
found_again : (b c : Board) (packet : Packet) (rest : List Packet) → 1 ≤ b.first → b.buffers ≤ 64
    → c.buffers ≡ b.buffers → kept c ≡ kept b ++ packet ∷ rest → packet.id ≡ expected_identifier b
    → numbered_count c.log ≤ numbered_count b.log + b.buffers → with_id packet.id (held_replies c) ≡ Some packet
found_again b c packet rest from_one few buffers is named_so recent =
    let front = kept b in
    let count : length front ≡ numbered_count b.log = kept_count b in
    let total : length (kept c) ≡ numbered_count c.log = kept_count c in
    let n = length (kept c) - c.buffers in
    let within : n ≤ length front = omega (arith, count, total, buffers, recent) in
    let parts : held_replies c ≡ drop n front ++ packet ∷ rest = ap (λ (ps : List Packet). drop n ps) is
    ∙ drop-append-le n front (packet ∷ rest) within in
    let long = ap (λ (ps : List Packet). length ps) is ∙ length-append front (packet ∷ rest) in
    ap (with_id packet.id) parts ∙ skipped packet.id (drop n front) packet rest (λ k p at same.
    let there = dropped_get n front k p at in
    let inside = slice_get_within front (n + k) p there in
    apart b.first (1 + (n + k)) (numbered_count b.log + 1) from_one (omega arith) (omega (arith, inside, count))
    (omega (arith, long, count, buffers, few))
    (sym (named b.first 1 b.log (replies b) (n + k) p there) ∙ (same ∙ named_so))) refl

pub sent_again : (b : Board) (datagram : List ℕ) (later : List (List ℕ)) (order : Order) (id : ℕ)
    (body request : List ℕ) → 1 ≤ b.first → b.buffers ≤ 64
    → to_board datagram ≡ Some (ControlPacket order id body) → (id ≡ 0 → ⊥) → (hear b datagram).heard ≡ Replied
    → to_board request ≡ Some (ResendRequest id)
    → numbered_count (after (hear b datagram).board later).log ≤ numbered_count b.log + b.buffers
    → hear (after (hear b datagram).board later) request ≡ record {
      heard = Resent;
      answer =
          (hear b datagram).answer;
      board = after (hear b datagram).board later;
    }
sent_again b datagram later order id body request from_one few said not heard asked recent =
    let w = was_expected b datagram order id body said not heard in
    let e = entry_of true order body in
    let first_step = numbered_heard b datagram order id body said w.short w.next in
    let b' = with_log b (b.log ++ e ∷ []) in
    let c = after (hear b datagram).board later in
    let packet = control_packet order id (run_body (present_bus b) body).reply in
    let there : (hear b datagram).board ≡ b' = ap (λ (h : Hearing). h.board) first_step in
    let c_is : c ≡ after b' later = ap (λ (x : Board). after x later) there in
    let more = grew b' later in
    let on = kept_more b' more.0 in
    let now : kept c ≡ kept b ++ packet ∷ on.0 =
    ap kept (c_is ∙ more.1)
    ∙ (on.1 ∙ (ap (λ (ps : List Packet). ps ++ on.0) (kept_grows b e id (λ _. w.next))
    ∙ append_assoc (kept b) (packet ∷ []) on.0)) in
    let buffers : c.buffers ≡ b.buffers = ap (λ (x : Board). x.buffers) c_is ∙ same_buffers b' (after b' later) more in
    let found : with_id id (held_replies c) ≡ Some packet =
    found_again b c packet on.0 from_one few buffers now w.next recent in
    ap (hear_message c) asked ∙ (ap (send_again c) found
    ∙ ap (λ (answer : Option (List ℕ)). record { heard = Resent; answer = answer; board = c })
    (sym (ap (λ (h : Hearing). h.answer) first_step)))

-- ---- and one that is not

-- each packet that is held is that of one of the last places
held_place : (b : Board) (k : ℕ) (p : Packet) → slice_get (held_replies b) k ≡ Some p
    → (place : ℕ) × IsAmongLast b place × (p.id ≡ identifier_at b.first place)
held_place b k p at =
    let total : length (kept b) ≡ numbered_count b.log = kept_count b in
    let n = length (kept b) - b.buffers in
    let there = dropped_get n (kept b) k p at in
    let inside = slice_get_within (kept b) (n + k) p there in (
      1 + (n + k),
      record {
        from_one = omega arith;
        executed = omega (arith, inside, total);
        recent =
            omega (arith, inside, total);
      },
      named b.first 1 b.log (replies b) (n + k) p there,
    )

pub not_held : (b : Board) (request : List ℕ) (id : ℕ) → to_board request ≡ Some (ResendRequest id)
    → ((place : ℕ) → IsAmongLast b place → identifier_at b.first place ≡ id → ⊥)
    → hear b request ≡ hearing_dropped b NotHeld
not_held b request id asked none =
    let nothing : with_id id (held_replies b) ≡ None = missing id (held_replies b) (λ k p at same. let f = held_place b k p at in
    none f.0 f.1 (sym f.2 ∙ same)) in
    ap (hear_message b) asked ∙ ap (send_again b) nothing

there_is : {A : Type 0} (xs : List A) (k : ℕ) → k < length xs → (x : A) × (slice_get xs k ≡ Some x)
there_is [] k within = absurd (omega arith)
there_is (x ∷ xs) zero within = (x, refl)
there_is (x ∷ xs) (suc k) within = there_is xs k (omega arith)

get_dropped : {A : Type 0} (n : ℕ) (xs : List A) (k : ℕ) (x : A) → slice_get xs (n + k) ≡ Some x
    → slice_get (drop n xs) k ≡ Some x
get_dropped zero xs k x at = let here : 0 + k ≡ k = omega arith in rw here at at
get_dropped (suc n) [] k x at = absurd cc
get_dropped (suc n) (y ∷ xs) k x at = let here : suc n + k ≡ suc (n + k) = omega arith in
    get_dropped n xs k x (rw here at at)

some_found : (id : ℕ) (packets : List Packet) (k : ℕ) (p : Packet) → slice_get packets k ≡ Some p → p.id ≡ id
    → (q : Packet) × (with_id id packets ≡ Some q)
some_found id [] k p at same = absurd cc
some_found id (x ∷ packets) zero p at same =
    let is : x ≡ p = cc in
    (x, rw (eq-eqb x.id id (ap (λ (q : Packet). q.id) is ∙ same)) refl)
some_found id (x ∷ packets) (suc k) p at same =
    let rest = some_found id packets k p at same in
    elim (x.id == id) as (λ b. (q : Packet) × (cond b (Some x) (with_id id packets) ≡ Some q)) [
      | true ↦ (x, refl)
      | false ↦ rest
    ]

heard_found : (b : Board) (request : List ℕ) (id : ℕ) (q : Packet) → to_board request ≡ Some (ResendRequest id)
    → with_id id (held_replies b) ≡ Some q → (hear b request).heard ≡ Resent
heard_found b request id q asked found =
    ap (λ (m : Option ToBoard). (hear_message b m).heard) asked
    ∙ ap (λ (r : Option Packet). (send_again b r).heard) found

at_last : (b : Board) (id place k : ℕ) (p : Packet) → slice_get (kept b) k ≡ Some p → 1 + k ≡ place
    → identifier_at b.first place ≡ id → p.id ≡ id
at_last b id place k p at is same = named b.first 1 b.log (replies b) k p at ∙ (ap (identifier_at b.first) is ∙ same)

pub among_last : (b : Board) (request : List ℕ) (id place : ℕ) → to_board request ≡ Some (ResendRequest id)
    → IsAmongLast b place → identifier_at b.first place ≡ id
    → (hear b request).heard ≡ Resent
among_last b request id place asked is same =
    let total : length (kept b) ≡ numbered_count b.log = kept_count b in
    let n = length (kept b) - b.buffers in
    let k = place - 1 - n in
    let here : n + k ≡ place - 1 = omega (arith, total, is.from_one, is.executed, is.recent) in
    let there = there_is (kept b) (n + k) (omega (arith, here, total, is.from_one, is.executed)) in
    let name = at_last b id place (n + k) there.0 there.1 (omega (arith, here, is.from_one)) same in
    let found = some_found id (held_replies b) k there.0 (get_dropped n (kept b) k there.0 there.1) name in
    heard_found b request id found.0 asked found.1
