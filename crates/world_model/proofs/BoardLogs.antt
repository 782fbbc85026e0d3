-- What an executed control packet adds to the log, to the bus and to the replies that are kept.
use Rattle.std.proofs.Common.{◌≡◌, ℕ, suc, ◌+◌, ◌≤◌, Bool, true, false, cond, List, [], ◌∷◌, ◌++◌, length}
use Rattle.std.proofs.Common.{refl, sym, ap, ◌∙◌, arith}
use Rattle.std.proofs.lemmas.List.{length-map, map-append}
use Rattle.packet_ids.specs.Identifier.{identifier_at}
use Rattle.packet_codec.specs.declared.packet.Packet.{Packet}
use Rattle.board_bus.specs.Cells.{CellMap}
use Rattle.board_bus.specs.Bodies.{replay, run_body}
use Rattle.world_model.specs.declared.heard.LogEntry.{LogEntry}
use Rattle.world_model.specs.Messages.{control_packet}
use Rattle.world_model.specs.Board.{Board, body_of, bodies_executed, replies, present_bus, numbered_count, expected_identifier}
use Rattle.world_model.specs.Board.{numbered_replies}
use Rattle.world_model.specs.Hearings.{if_numbered}

-- ---- one body after others

pub last_cells : (cells : CellMap) (bodies : List (List ℕ)) (body : List ℕ)
    → (replay cells (bodies ++ body ∷ [])).cells ≡ (run_body (replay cells bodies).cells body).cells
last_cells cells [] body = refl
last_cells cells (first ∷ bodies) body = last_cells (run_body cells first).cells bodies body

last_reply : (cells : CellMap) (bodies : List (List ℕ)) (body : List ℕ)
    → (replay cells (bodies ++ body ∷ [])).replies ≡ (replay cells bodies).replies ++
    (run_body (replay cells bodies).cells body).reply ∷ []
last_reply cells [] body = refl
last_reply cells (first ∷ bodies) body =
    ap (λ (rs : List (List ℕ)). (run_body cells first).reply ∷ rs)
    (last_reply (run_body cells first).cells bodies body)

one_each : (cells : CellMap) (bodies : List (List ℕ)) → length (replay cells bodies).replies ≡ length bodies
one_each cells [] = refl
one_each cells (first ∷ bodies) = ap (λ n. suc n) (one_each (run_body cells first).cells bodies)

-- ---- the replies to numbered packets

counted : (first place : ℕ) (log : List LogEntry) (rs : List (List ℕ)) → length rs ≡ length log
    → length (numbered_replies first place log rs) ≡ numbered_count log
counted first place [] rs same = refl
counted first place (e ∷ log) [] same = absurd (omega arith)
counted first place (e ∷ log) (r ∷ rs) same =
    let next = counted first (place + 1) log rs (omega arith) in
    let here = counted first place log rs (omega arith) in
    elim e.numbered as (λ b. length
    (cond b (control_packet e.order (identifier_at first place) r ∷ numbered_replies first (place + 1) log rs)
    (numbered_replies first place log rs)) ≡ cond b 1 0 + numbered_count log) [
      | true ↦ omega arith
      | false ↦ omega arith
    ]

pub joined : (first place : ℕ) (one two : List LogEntry) (rs ss : List (List ℕ)) → length rs ≡ length one
    → numbered_replies first place (one ++ two) (rs ++ ss) ≡ numbered_replies first place one rs ++ numbered_replies
    first (place + numbered_count one) two ss
joined first place [] two [] ss same =
    let here : place ≡ place + 0 = omega arith in
    ap (λ (k : ℕ). numbered_replies first k two ss) here
joined first place [] two (r ∷ rs) ss same = absurd (omega arith)
joined first place (e ∷ one) two [] ss same = absurd (omega arith)
joined first place (e ∷ one) two (r ∷ rs) ss same =
    let next : place + 1 + numbered_count one ≡ place + (1 + numbered_count one) = omega arith in
    let here : place + numbered_count one ≡ place + (0 + numbered_count one) = omega arith in
    let packet = control_packet e.order (identifier_at first place) r in
    elim e.numbered as (λ b. cond b (packet ∷ numbered_replies first (place + 1) (one ++ two) (rs ++ ss))
    (numbered_replies first place (one ++ two) (rs ++ ss))
    ≡ cond b (packet ∷ numbered_replies first (place + 1) one rs) (numbered_replies first place one rs) ++
    numbered_replies first (place + (cond b 1 0 + numbered_count one)) two ss) [
      | true ↦ ap (λ (ps : List Packet). packet ∷ ps) (joined first (place + 1) one two rs ss (omega arith)
          ∙ ap (λ (k : ℕ). numbered_replies first (place + 1) one rs ++ numbered_replies first k two ss) next)
      | false ↦ joined first place one two rs ss (omega arith)
          ∙ ap (λ (k : ℕ). numbered_replies first place one rs ++ numbered_replies first k two ss) here
    ]

-- how many are numbered, with one entry more and at most
pub numbered_one_more : (log : List LogEntry) (e : LogEntry)
    → numbered_count (log ++ e ∷ []) ≡ numbered_count log + cond e.numbered 1 0
numbered_one_more [] e = elim e.numbered as (λ b. cond b 1 0 + 0 ≡ 0 + cond b 1 0) [ true ↦ refl | false ↦ refl ]
numbered_one_more (x ∷ log) e = let later = numbered_one_more log e in omega (arith, later)

pub numbered_most : (log : List LogEntry) → numbered_count log ≤ length log
numbered_most [] = omega arith
numbered_most (x ∷ log) =
    let later = numbered_most log in
    elim x.numbered as (λ b. cond b 1 0 + numbered_count log ≤ suc (length log)) [
      | true ↦ omega (arith, later)
      | false ↦ omega (arith, later)
    ]

-- ---- a board

pub as_long : (b : Board) → length (replies b) ≡ length b.log
as_long b = one_each b.opening (bodies_executed b) ∙ length-map b.log body_of

-- so many replies are kept as there are numbered entries
pub kept_count : (b : Board) → length (numbered_replies b.first 1 b.log (replies b)) ≡ numbered_count b.log
kept_count b = counted b.first 1 b.log (replies b) (as_long b)

abbrev pub with_entry : Board → LogEntry → Board
with_entry b e = record b { log = b.log ++ e ∷ [] }

pub executed_grows : (b : Board) (e : LogEntry) → bodies_executed (with_entry b e) ≡ bodies_executed b ++ e.body ∷ []
executed_grows b e = map-append body_of b.log (e ∷ [])

replies_grow : (b : Board) (e : LogEntry)
    → replies (with_entry b e) ≡ replies b ++ (run_body (present_bus b) e.body).reply ∷ []
replies_grow b e = ap (λ (bodies : List (List ℕ)). (replay b.opening bodies).replies) (executed_grows b e)
    ∙ last_reply b.opening (bodies_executed b) e.body

-- the reply to a packet that was executed under an identifier, which is the expected one where it is numbered
same_id : (n : Bool) (e : LogEntry) (id expects : ℕ) (r : List ℕ) → (n ≡ true → id ≡ expects)
    → if_numbered n (control_packet e.order expects r) ≡ if_numbered n (control_packet e.order id r)
same_id true e id expects r same = ap (λ (k : ℕ). control_packet e.order k r ∷ []) (sym (same refl))
same_id false e id expects r same = refl

pub kept_grows : (b : Board) (e : LogEntry) (id : ℕ) → (e.numbered ≡ true → id ≡ expected_identifier b)
    → numbered_replies b.first 1 (with_entry b e).log (replies (with_entry b e))
    ≡ numbered_replies b.first 1 b.log (replies b) ++ if_numbered e.numbered
    (control_packet e.order id (run_body (present_bus b) e.body).reply)
kept_grows b e id is =
    let r = (run_body (present_bus b) e.body).reply in
    let here : 1 + numbered_count b.log ≡ numbered_count b.log + 1 = omega arith in
    ap (numbered_replies b.first 1 (b.log ++ e ∷ [])) (replies_grow b e)
    ∙ (joined b.first 1 b.log (e ∷ []) (replies b) (r ∷ []) (as_long b)
    ∙ ap (λ (ps : List Packet). numbered_replies b.first 1 b.log (replies b) ++ ps)
    (ap (λ (k : ℕ). if_numbered e.numbered (control_packet e.order (identifier_at b.first k) r)) here
    ∙ same_id e.numbered e id (expected_identifier b) r is))
