-- Control packets and their identifiers.
use Rattle.std.proofs.Common.{◌≡◌, ℕ, zero, suc, ◌+◌, ◌<◌, ◌≤◌, ◌==◌, Bool, true, false, cond, List, [], ◌∷◌, ◌++◌}
use Rattle.std.proofs.Common.{length, replicate, Option, Some, refl, sym, ap, ◌∙◌, subst, arith, append_assoc}
use Rattle.std.proofs.lemmas.Bool.{eqb-true, eq-eqb}
use Rattle.std.proofs.lemmas.List.{append-nil, length-append}
use Rattle.packet_codec.specs.declared.packet.Order.{Order}
use Rattle.packet_ids.specs.Identifier.{identifier_at}
use Rattle.packet_ids.specs.declared.places.TheConstants.{IDENTIFIERS}
use Rattle.world_model.specs.declared.heard.Heard.{Heard}
use Rattle.world_model.specs.declared.heard.Heard.TheVariants.{Replied}
use Rattle.world_model.specs.declared.heard.DropCause.TheVariants.{TooLong, OtherId}
use Rattle.world_model.specs.declared.heard.LogEntry.{LogEntry}
use Rattle.world_model.specs.Messages.{ToBoard, ControlPacket, to_board}
use Rattle.world_model.specs.Board.{Board, Hearing, hearing_dropped, execute, expected_identifier, hear, hear_message, is_too_long}
use Rattle.world_model.specs.Board.{numbered_count}
use Rattle.world_model.specs.Hearings.{after, heard_of, AreInTurn}
use Rattle.world_model.proofs.Lists.{differ}
use Rattle.world_model.proofs.BoardSteps.{Grew, grew, with_log, same_first, same_length, more_numbered, numbered_more}

abbrev pub entry_of : Bool → Order → List ℕ → LogEntry
entry_of n order body = record { numbered = n; order = order; body = body }

-- an identifier is never 0
not_zero : (first place : ℕ) → (identifier_at first place == 0) ≡ false
not_zero first place = differ (identifier_at first place) 0 (λ e. omega (arith, e))

-- near places that are not one place have two identifiers
pub apart : (first place other : ℕ) → 1 ≤ first → 1 ≤ place → place < other → other < place + IDENTIFIERS
    → identifier_at first place ≡ identifier_at first other → ⊥
apart first place other from_one one less near same = omega (arith, same)

-- ---- the expected control packet, and one of identifier 0

pub numbered_heard : (b : Board) (datagram : List ℕ) (order : Order) (id : ℕ) (body : List ℕ)
    → to_board datagram ≡ Some (ControlPacket order id body) → is_too_long b body ≡ false → id ≡ expected_identifier b
    → hear b datagram ≡ execute b id (entry_of true order body)
numbered_heard b datagram order id body said short is =
    let other : (id == 0) ≡ false = ap (λ (k : ℕ). k == 0) is ∙ not_zero b.first (numbered_count b.log + 1) in
    ap (hear_message b) said ∙ rw (short, other, eq-eqb id (expected_identifier b) is) refl

pub free_heard : (b : Board) (datagram : List ℕ) (order : Order) (body : List ℕ)
    → to_board datagram ≡ Some (ControlPacket order 0 body) → is_too_long b body ≡ false
    → hear b datagram ≡ execute b 0 (entry_of false order body)
free_heard b datagram order body said short = ap (hear_message b) said ∙ rw short refl

-- ---- a control packet that was executed under a number

pub record WasExpected (b : Board) (order : Order) (id : ℕ) (body : List ℕ) : Type 0 where
  pub short : is_too_long b body ≡ false
  pub next : id ≡ expected_identifier b

was : (b : Board) (order : Order) (id : ℕ) (body : List ℕ) (long zero_id next : Bool) → is_too_long b body ≡ long
    → (id == 0) ≡ zero_id → (id == expected_identifier b) ≡ next → (id ≡ 0 → ⊥)
    → (cond long (hearing_dropped b TooLong)
    (cond zero_id (execute b id (entry_of false order body))
    (cond next (execute b id (entry_of true order body)) (hearing_dropped b OtherId)))).heard ≡ Replied
    → WasExpected b order id body
was b order id body true z n l zi ni not heard = absurd cc
was b order id body false true n l zi ni not heard = absurd (not (eqb-true id 0 zi))
was b order id body false false true l zi ni not heard = record { short = l; next = eqb-true id (expected_identifier b) ni }
was b order id body false false false l zi ni not heard = absurd cc

pub was_expected : (b : Board) (datagram : List ℕ) (order : Order) (id : ℕ) (body : List ℕ)
    → to_board datagram ≡ Some (ControlPacket order id body) → (id ≡ 0 → ⊥) → (hear b datagram).heard ≡ Replied
    → WasExpected b order id body
was_expected b datagram order id body said not heard =
    was b order id body (is_too_long b body) (id == 0) (id == expected_identifier b) refl refl refl not
    (sym (ap (λ (m : Option ToBoard). (hear_message b m).heard) said) ∙ heard)

-- it is dropped when it is heard again, until the identifiers come round
pub repeated : (b : Board) (datagram : List ℕ) (later : List (List ℕ)) (order : Order) (id : ℕ) (body : List ℕ)
    → 1 ≤ b.first → to_board datagram ≡ Some (ControlPacket order id body) → (id ≡ 0 → ⊥)
    → (hear b datagram).heard ≡ Replied
    → numbered_count (after (hear b datagram).board later).log < numbered_count b.log + IDENTIFIERS
    → hear (after (hear b datagram).board later) datagram ≡ hearing_dropped (after (hear b datagram).board later) OtherId
repeated b datagram later order id body from_one said not heard few =
    let w = was_expected b datagram order id body said not heard in
    let c = after (hear b datagram).board later in
    let first_step = numbered_heard b datagram order id body said w.short w.next in
    let from_there : Grew (hear b datagram).board c = grew (hear b datagram).board later in
    let there : Grew b (hear b datagram).board =
    (entry_of true order body ∷ [], ap (λ (h : Hearing). h.board) first_step) in
    let more = more_numbered (hear b datagram).board c from_there in
    let one = numbered_more b.log (entry_of true order body ∷ []) in
    let count : numbered_count (hear b datagram).board.log ≡ numbered_count b.log + 1 =
    ap (λ (h : Hearing). numbered_count h.board.log) first_step ∙ one in
    let first_is : c.first ≡ b.first = same_first (hear b datagram).board c from_there
    ∙ same_first b (hear b datagram).board there in
    let short : is_too_long c body ≡ false = same_length (hear b datagram).board c body from_there
    ∙ (same_length b (hear b datagram).board body there ∙ w.short) in
    let other : (id == expected_identifier c) ≡ false = differ id (expected_identifier c) (λ e.
    apart b.first (numbered_count b.log + 1) (numbered_count c.log + 1) from_one (omega arith) (omega (arith, more, count))
    (omega (arith, few))
    (sym w.next ∙ (e ∙ ap (λ (f : ℕ). identifier_at f (numbered_count c.log + 1)) first_is))) in
    ap (hear_message c) said ∙ rw (short, differ id 0 not, other) refl

-- ---- packets in turn

in_turn_same : (b c : Board) (place : ℕ) (datagrams : List (List ℕ)) → Grew b c → AreInTurn b place datagrams
    → AreInTurn c place datagrams
in_turn_same b c place [] g all = tt
in_turn_same b c place (datagram ∷ datagrams) g ((order, body, said, short), rest) = (
  (
    order,
    body,
    said ∙ ap (λ (f : ℕ). Some (ControlPacket order (identifier_at f place) body))
        (sym (same_first b c g)),
    same_length b c body g ∙ short,
  ),
  in_turn_same b c (place + 1) datagrams g rest,
)

pub record WentOn (b : Board) (datagrams : List (List ℕ)) : Type 0 where
  pub replied : heard_of b datagrams ≡ replicate (length datagrams) Replied
  pub count : numbered_count (after b datagrams).log ≡ numbered_count b.log + length datagrams
  pub executed : length (after b datagrams).log ≡ length b.log + length datagrams

pub went_on : (b : Board) (datagrams : List (List ℕ)) → AreInTurn b (numbered_count b.log + 1) datagrams → WentOn b datagrams
went_on b [] all = record { replied = refl; count = omega arith; executed = omega arith }
went_on b (datagram ∷ datagrams) ((order, body, said, short), rest) =
    let e = entry_of true order body in
    let c = (hear b datagram).board in
    let h = numbered_heard b datagram order (expected_identifier b) body said short refl in
    let there : Grew b c = (e ∷ [], ap (λ (x : Hearing). x.board) h) in
    let count : numbered_count c.log ≡ numbered_count b.log + 1 = ap (λ (x : Hearing). numbered_count x.board.log) h
    ∙ numbered_more b.log (e ∷ []) in
    let long : length c.log ≡ length b.log + 1 = ap (λ (x : Hearing). length x.board.log) h
    ∙ length-append b.log (e ∷ []) in
    let place : numbered_count b.log + 1 + 1 ≡ numbered_count c.log + 1 = omega (arith, count) in
    let later = went_on c datagrams
    (subst (λ (k : ℕ). AreInTurn c k datagrams) place
    (in_turn_same b c (numbered_count b.log + 1 + 1) datagrams there rest)) in
    record {
      replied = ap (λ (x : Hearing). x.heard ∷ heard_of c datagrams) h
          ∙ ap (λ (hs : List Heard). Replied ∷ hs) later.replied;
      count = omega (arith, later.count, count);
      executed = omega (arith, later.executed, long);
    }

-- ---- identifier 0, over and over

pub record CameAgain (b : Board) (datagram : List ℕ) (e : LogEntry) (n : ℕ) : Type 0 where
  pub replied : heard_of b (replicate n datagram) ≡ replicate n Replied
  pub board : after b (replicate n datagram) ≡ with_log b (b.log ++ replicate n e)

pub came_again : (b : Board) (datagram : List ℕ) (order : Order) (body : List ℕ) (n : ℕ)
    → to_board datagram ≡ Some (ControlPacket order 0 body) → is_too_long b body ≡ false
    → CameAgain b datagram (entry_of false order body) n
came_again b datagram order body zero said short =
    record { replied = refl; board = ap (with_log b) (sym (append-nil b.log)) }
came_again b datagram order body (suc n) said short =
    let e = entry_of false order body in
    let c = with_log b (b.log ++ e ∷ []) in
    let h = free_heard b datagram order body said short in
    let there : (hear b datagram).board ≡ c = ap (λ (x : Hearing). x.board) h in
    let later = came_again c datagram order body n said short in
    record {
      replied = ap (λ (x : Hearing). x.heard ∷ heard_of x.board (replicate n datagram)) h
          ∙ ap (λ (hs : List Heard). Replied ∷ hs) later.replied;
      board = ap (λ (x : Board). after x (replicate n datagram)) there
          ∙ (later.board ∙ ap (with_log b) (append_assoc b.log (e ∷ []) (replicate n e)));
    }

free_count : (order : Order) (body : List ℕ) (n : ℕ) → numbered_count (replicate n (entry_of false order body)) ≡ 0
free_count order body zero = refl
free_count order body (suc n) = let h = free_count order body n in omega arith

-- identifier 0 leaves the expected one
pub left_next : (b : Board) (order : Order) (body : List ℕ) (n : ℕ)
    → expected_identifier (with_log b (b.log ++ replicate n (entry_of false order body))) ≡ expected_identifier b
left_next b order body n =
    let later = replicate n (entry_of false order body) in
    let same : numbered_count (b.log ++ later) ≡ numbered_count b.log =
    omega (arith, numbered_more b.log later, free_count order body n) in
    ap (λ (k : ℕ). identifier_at b.first (k + 1)) same
