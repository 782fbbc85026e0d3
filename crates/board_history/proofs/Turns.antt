-- Clients that run one after another.
use Rattle.std.proofs.Common.{◌≡◌, ℕ, suc, ◌+◌, ◌≤◌, List, [], ◌∷◌, ◌++◌, length, map, Some, refl, sym, ap, ◌∙◌, subst}
use Rattle.std.proofs.Common.{arith, append_assoc, length-append}
use Rattle.std.specs.List.{AllByRecursion, slice_get, flat_map}
use Rattle.std.proofs.lemmas.List.{map-append}
use Rattle.board_bus.specs.Cells.{CellMap}
use Rattle.board_bus.specs.Bodies.{run_body, replay}
use Rattle.board_bus.proofs.Bodies.{replay-append-replies, replay-length}
use Rattle.lane_record.specs.Lists.{CountsFrom}
use Rattle.board_history.specs.Order.{Placed, bodies_with_places, all_placed, order, places_of, bodies_in, RisesFrom}
use Rattle.world_model.specs.Places.{at_place}
use Rattle.board_history.specs.Parts.{KeepsScripts, IsReplyOf, IsExecuted, IsReplied, AllReplied}
use Rattle.board_history.specs.InTurn.{outcomes_from, in_turn}
use Rattle.board_history.proofs.Sorting.{sorted_again}

-- the bodies of all clients, client by client
abbrev pub all_of : List (List (List ℕ)) → List (List ℕ)
all_of clients = flat_map (λ client. client) clients

-- ---- shape, and that all are replied to

outcomes_length : (place : ℕ) (cells : CellMap) (bodies : List (List ℕ))
    → length (outcomes_from place cells bodies) ≡ length bodies
outcomes_length place cells [] = refl
outcomes_length place cells (body ∷ bodies) = ap suc (outcomes_length (place + 1) (run_body cells body).cells bodies)

pub same_shape : (place : ℕ) (cells : CellMap) (clients : List (List (List ℕ)))
    → map length (in_turn place cells clients) ≡ map length clients
same_shape place cells [] = refl
same_shape place cells (bodies ∷ later) =
    ap (λ (n : ℕ). n ∷ map length (in_turn (place + length bodies) (replay cells bodies).cells later))
    (outcomes_length place cells bodies)
    ∙ ap (λ (ns : List ℕ). length bodies ∷ ns) (same_shape (place + length bodies) (replay cells bodies).cells later)

client_replied : (place : ℕ) (cells : CellMap) (bodies : List (List ℕ))
    → AllByRecursion IsReplied (outcomes_from place cells bodies)
client_replied place cells [] = tt
client_replied place cells (body ∷ bodies) = (tt, client_replied (place + 1) (run_body cells body).cells bodies)

pub all_replied : (place : ℕ) (cells : CellMap) (clients : List (List (List ℕ)))
    → AllReplied (in_turn place cells clients)
all_replied place cells [] = tt
all_replied place cells (bodies ∷ later) =
    (client_replied place cells bodies, all_replied (place + length bodies) (replay cells bodies).cells later)

-- ---- places

client_counts : (place : ℕ) (cells : CellMap) (bodies : List (List ℕ)) (later : List Placed)
    → CountsFrom (place + length bodies) (places_of later)
    → CountsFrom place (places_of (bodies_with_places bodies (outcomes_from place cells bodies) ++ later))
client_counts place cells [] later c = subst (λ (k : ℕ). CountsFrom k (places_of later)) (omega arith) c
client_counts place cells (body ∷ bodies) later c = (
  refl,
  client_counts (place + 1) (run_body cells body).cells bodies later
      (subst (λ (k : ℕ). CountsFrom k (places_of later)) (omega arith) c),
)

pub places_count : (place : ℕ) (cells : CellMap) (clients : List (List (List ℕ)))
    → CountsFrom place (places_of (all_placed clients (in_turn place cells clients)))
places_count place cells [] = tt
places_count place cells (bodies ∷ later) =
    client_counts place cells bodies
    (all_placed later (in_turn (place + length bodies) (replay cells bodies).cells later))
    (places_count (place + length bodies) (replay cells bodies).cells later)

pub order_is : (place : ℕ) (cells : CellMap) (clients : List (List (List ℕ)))
    → order clients (in_turn place cells clients) ≡ all_placed clients (in_turn place cells clients)
order_is place cells clients =
    sorted_again place (all_placed clients (in_turn place cells clients)) (places_count place cells clients)

client_rises : (low place : ℕ) (cells : CellMap) (bodies : List (List ℕ)) → low ≤ place
    → RisesFrom low (places_of (bodies_with_places bodies (outcomes_from place cells bodies)))
client_rises low place cells [] h = tt
client_rises low place cells (body ∷ bodies) h =
    (h, client_rises (place + 1) (place + 1) (run_body cells body).cells bodies (omega arith))

pub scripts_kept : (place : ℕ) (cells : CellMap) (clients : List (List (List ℕ))) → 1 ≤ place
    → KeepsScripts clients (in_turn place cells clients)
scripts_kept place cells [] h = tt
scripts_kept place cells (bodies ∷ later) h = (
  client_rises 1 place cells bodies h,
  scripts_kept (place + length bodies) (replay cells bodies).cells later
      (omega arith),
)

-- ---- bodies

client_bodies : (place : ℕ) (cells : CellMap) (bodies : List (List ℕ))
    → bodies_in (bodies_with_places bodies (outcomes_from place cells bodies)) ≡ bodies
client_bodies place cells [] = refl
client_bodies place cells (body ∷ bodies) = ap (λ (bs : List (List ℕ)). body ∷ bs)
    (client_bodies (place + 1) (run_body cells body).cells bodies)

placed_bodies : (place : ℕ) (cells : CellMap) (clients : List (List (List ℕ)))
    → bodies_in (all_placed clients (in_turn place cells clients)) ≡ all_of clients
placed_bodies place cells [] = refl
placed_bodies place cells (bodies ∷ later) =
    map-append (λ (p : Placed). p.body) (bodies_with_places bodies (outcomes_from place cells bodies))
    (all_placed later (in_turn (place + length bodies) (replay cells bodies).cells later))
    ∙ ap (λ (bs : List (List ℕ)). bs ++ bodies_in
    (all_placed later (in_turn (place + length bodies) (replay cells bodies).cells later)))
    (client_bodies place cells bodies)
    ∙ ap (λ (bs : List (List ℕ)). bodies ++ bs)
    (placed_bodies (place + length bodies) (replay cells bodies).cells later)

pub order_bodies : (place : ℕ) (cells : CellMap) (clients : List (List (List ℕ)))
    → bodies_in (order clients (in_turn place cells clients)) ≡ all_of clients
order_bodies place cells clients = ap bodies_in (order_is place cells clients) ∙ placed_bodies place cells clients

-- ---- replies

get_append : {A : Type 0} (xs ys : List A) → slice_get (xs ++ ys) (length xs) ≡ slice_get ys 0
get_append [] ys = refl
get_append (x ∷ xs) ys = get_append xs ys

pub reply_at : {A : Type 0} (before after : List A) (x : A)
    → at_place (before ++ (x ∷ after)) (length before + 1) ≡ Some x
reply_at before after x =
    let up : suc (length before) ≡ length before + 1 = omega arith in
    subst (λ (place : ℕ). at_place (before ++ (x ∷ after)) place ≡ Some x) up (get_append before (x ∷ after))

pub one_later : {A : Type 0} (before : List A) (x : A) → length before + 1 + 1 ≡ length (before ++ x ∷ []) + 1
one_later before x = omega (arith, length-append before (x ∷ []))

client_replies : (before after : List (List ℕ)) (cells : CellMap) (bodies : List (List ℕ))
    → AllByRecursion (IsReplyOf (before ++ ((replay cells bodies).replies ++ after)))
    (outcomes_from (length before + 1) cells bodies)
client_replies before after cells [] = tt
client_replies before after cells (body ∷ bodies) =
    let reply = (run_body cells body).reply in
    let next = (run_body cells body).cells in
    let later = client_replies (before ++ reply ∷ []) after next bodies in (
      reply_at before ((replay next bodies).replies ++ after) reply,
      subst (λ (place : ℕ). AllByRecursion (IsReplyOf (before ++ (reply ∷ ((replay next bodies).replies ++ after))))
          (outcomes_from place next bodies))
          (sym (one_later before reply))
          (subst (λ (replies : List (List ℕ)). AllByRecursion (IsReplyOf replies)
          (outcomes_from (length (before ++ reply ∷ []) + 1) next bodies))
          (append_assoc before (reply ∷ []) ((replay next bodies).replies ++ after)) later),
    )

-- the replies before the next client's
pub behind : (before : List (List ℕ)) (cells : CellMap) (bodies : List (List ℕ))
    → length (before ++ (replay cells bodies).replies) + 1 ≡ length before + 1 + length bodies
behind before cells bodies = omega
    (arith, length-append before (replay cells bodies).replies, replay-length cells bodies)

pub replies_on : (before : List (List ℕ)) (cells : CellMap) (bodies more : List (List ℕ))
    → before ++ (replay cells (bodies ++ more)).replies
    ≡ (before ++ (replay cells bodies).replies) ++ (replay (replay cells bodies).cells more).replies
replies_on before cells bodies more =
    ap (λ (replies : List (List ℕ)). before ++ replies) (replay-append-replies cells bodies more)
    ∙ sym (append_assoc before (replay cells bodies).replies (replay (replay cells bodies).cells more).replies)

pub all_replies : (before : List (List ℕ)) (cells : CellMap) (clients : List (List (List ℕ)))
    → AllByRecursion (AllByRecursion (IsReplyOf (before ++ (replay cells (all_of clients)).replies)))
    (in_turn (length before + 1) cells clients)
all_replies before cells [] = tt
all_replies before cells (bodies ∷ later) =
    let next = (replay cells bodies).cells in
    let rest = (replay next (all_of later)).replies in (
      subst (λ (replies : List (List ℕ)). AllByRecursion (IsReplyOf (before ++ replies))
          (outcomes_from (length before + 1) cells bodies))
          (sym (replay-append-replies cells bodies (all_of later))) (client_replies before rest cells bodies),
      subst (λ (place : ℕ). AllByRecursion
          (AllByRecursion (IsReplyOf (before ++ (replay cells (bodies ++ all_of later)).replies)))
          (in_turn place next later))
          (behind before cells bodies)
          (subst (λ (replies : List (List ℕ)). AllByRecursion (AllByRecursion (IsReplyOf replies))
          (in_turn (length (before ++ (replay cells bodies).replies) + 1) next later))
          (sym (replies_on before cells bodies (all_of later)))
          (all_replies (before ++ (replay cells bodies).replies) next later)),
    )

-- ---- what was executed

client_executed : (count place : ℕ) (cells : CellMap) (bodies : List (List ℕ)) → place + length bodies ≤ count + 1
    → AllByRecursion (IsExecuted count) (outcomes_from place cells bodies)
client_executed count place cells [] h = tt
client_executed count place cells (body ∷ bodies) h =
    (omega arith, client_executed count (place + 1) (run_body cells body).cells bodies (omega arith))

pub all_executed : (count place : ℕ) (cells : CellMap) (clients : List (List (List ℕ)))
    → place + length (all_of clients) ≤ count + 1
    → AllByRecursion (AllByRecursion (IsExecuted count)) (in_turn place cells clients)
all_executed count place cells [] h = tt
all_executed count place cells (bodies ∷ later) h =
    let whole = length-append bodies (all_of later) in (
      client_executed count place cells bodies (omega arith),
      all_executed count (place + length bodies) (replay cells bodies).cells later (omega arith),
    )
