-- A history of clients one after another is the only one.
use Rattle.std.proofs.Common.{◌≡◌, ℕ, suc, ◌+◌, List, [], ◌∷◌, ◌++◌, Option, length, map, Some, refl, sym, ap, ◌∙◌}
use Rattle.std.proofs.Common.{subst, arith, append_assoc, length-append}
use Rattle.std.specs.List.{AllByRecursion}
use Rattle.std.proofs.lemmas.List.{map-append}
use Rattle.board_bus.specs.Cells.{CellMap}
use Rattle.board_bus.specs.Bodies.{run_body, replay}
use Rattle.board_bus.proofs.Bodies.{replay-append-replies}
use Rattle.lane_record.specs.declared.outcome.Outcome.{Outcome}
use Rattle.lane_record.specs.declared.outcome.Outcome.TheVariants.{Replied, TimedOut, Unsent, LinkLost}
use Rattle.lane_record.specs.Lists.{CountsFrom}
use Rattle.board_history.specs.Order.{Placed, bodies_with_places, all_placed, order, places_of, bodies_in}
use Rattle.world_model.specs.Places.{at_place}
use Rattle.board_history.specs.Parts.{IsReplyOf, IsReplied, AllReplied}
use Rattle.board_history.specs.InTurn.{outcomes_from, in_turn, AreInTurn}
use Rattle.board_history.specs.History.{IsHistory}
use Rattle.board_history.proofs.Sorting.{sorted_again}
use Rattle.board_history.proofs.Turns.{all_of, reply_at, one_later, behind, replies_on}

-- ---- where all are replied to, the bodies that have a place are all of them

pub client_placed : (bodies : List (List ℕ)) (outcomes : List Outcome) → length outcomes ≡ length bodies
    → AllByRecursion IsReplied outcomes
    → bodies_in (bodies_with_places bodies outcomes) ≡ bodies
client_placed [] outcomes e all = refl
client_placed (b ∷ bs) [] e all = absurd (omega arith)
client_placed (b ∷ bs) (Replied place words ∷ os) e all = ap (λ (xs : List (List ℕ)). b ∷ xs)
    (client_placed bs os (omega arith) all.1)
client_placed (b ∷ bs) (TimedOut place rounds ∷ os) e all = absurd all.0
client_placed (b ∷ bs) (Unsent ∷ os) e all = absurd all.0
client_placed (b ∷ bs) (LinkLost place ∷ os) e all = absurd all.0

-- the lengths of two lists of clients, one by one
pub record SameLengths (bodies : List (List ℕ)) (later : List (List (List ℕ))) (outcomes : List Outcome)
    (others : List (List Outcome)) : Type 0 where
  pub first : length outcomes ≡ length bodies
  pub rest : map length others ≡ map length later

pub one_by_one : (bodies : List (List ℕ)) (later : List (List (List ℕ))) (outcomes : List Outcome)
    (others : List (List Outcome))
    → map length (outcomes ∷ others) ≡ map length (bodies ∷ later) → SameLengths bodies later outcomes others
one_by_one bodies later outcomes others e = record { first = cc; rest = cc }

clients_placed : (clients : List (List (List ℕ))) (outcomes : List (List Outcome))
    → map length outcomes ≡ map length clients → AllReplied outcomes
    → bodies_in (all_placed clients outcomes) ≡ all_of clients
clients_placed [] outcomes e all = refl
clients_placed (bodies ∷ later) [] e all = absurd cc
clients_placed (bodies ∷ later) (outcomes ∷ others) e all =
    let lengths = one_by_one bodies later outcomes others e in
    map-append (λ (p : Placed). p.body) (bodies_with_places bodies outcomes) (all_placed later others)
    ∙ ap (λ (bs : List (List ℕ)). bs ++ bodies_in (all_placed later others))
    (client_placed bodies outcomes lengths.first all.0)
    ∙ ap (λ (bs : List (List ℕ)). bodies ++ bs) (clients_placed later others lengths.rest all.1)

-- ---- one client: its outcomes are those from here on, and the places of the next clients follow

pub record IsNext (before : List (List ℕ)) (cells : CellMap) (bodies : List (List ℕ)) (outcomes : List Outcome)
    (later : List Placed) : Type 0 where
  pub outcomes' : outcomes ≡ outcomes_from (length before + 1) cells bodies
  pub places : CountsFrom (length before + 1 + length bodies) (places_of later)

client_only : (before after : List (List ℕ)) (cells : CellMap) (bodies : List (List ℕ)) (outcomes : List Outcome)
    (later : List Placed)
    → length outcomes ≡ length bodies → AllByRecursion IsReplied outcomes
    → CountsFrom (length before + 1) (places_of (bodies_with_places bodies outcomes ++ later))
    → AllByRecursion (IsReplyOf (before ++ ((replay cells bodies).replies ++ after))) outcomes
    → IsNext before cells bodies outcomes later
client_only before after cells [] [] later e all c r =
    let none : length before + 1 ≡ length before + 1 + 0 = omega arith in
    record { outcomes' = refl; places = subst (λ (k : ℕ). CountsFrom k (places_of later)) none c }
client_only before after cells [] (o ∷ os) later e all c r = absurd (omega arith)
client_only before after cells (b ∷ bs) [] later e all c r = absurd (omega arith)
client_only before after cells (b ∷ bs) (Replied place words ∷ os) later e all c r =
    let reply = (run_body cells b).reply in
    let next = (run_body cells b).cells in
    let there = reply_at before ((replay next bs).replies ++ after) reply in
    let told : at_place (before ++ (reply ∷ ((replay next bs).replies ++ after))) (length before + 1) ≡ Some words =
    subst (λ (k : ℕ). at_place (before ++ (reply ∷ ((replay next bs).replies ++ after))) k ≡ Some words) c.0 r.0 in
    let same : words ≡ reply = let both = sym told ∙ there in cc in
    let counts = subst (λ (k : ℕ). CountsFrom k (places_of (bodies_with_places bs os ++ later))) (one_later before reply) c.1 in
    let replies = subst (λ (rs : List (List ℕ)). AllByRecursion (IsReplyOf rs) os)
    (sym (append_assoc before (reply ∷ []) ((replay next bs).replies ++ after))) r.1 in
    let rest = client_only (before ++ reply ∷ []) after next bs os later (omega arith) all.1 counts replies in
    let moved : length (before ++ reply ∷ []) + 1 + length bs ≡ length before + 1 + suc (length bs) = omega
    (arith, length-append before (reply ∷ [])) in
    record {
      outcomes' =
          ap (λ (k : ℕ). Replied k words ∷ os) c.0
          ∙ ap (λ (ws : List ℕ). Replied (length before + 1) ws ∷ os) same
          ∙ ap (λ (zs : List Outcome). Replied (length before + 1) reply ∷ zs)
          (rest.outcomes' ∙ ap (λ (k : ℕ). outcomes_from k next bs) (sym (one_later before reply)));
      places = subst (λ (k : ℕ). CountsFrom k (places_of later)) moved rest.places;
    }
client_only before after cells (b ∷ bs) (TimedOut place rounds ∷ os) later e all c r = absurd all.0
client_only before after cells (b ∷ bs) (Unsent ∷ os) later e all c r = absurd all.0
client_only before after cells (b ∷ bs) (LinkLost place ∷ os) later e all c r = absurd all.0

-- ---- all clients

clients_only : (before : List (List ℕ)) (cells : CellMap) (clients : List (List (List ℕ)))
    (outcomes : List (List Outcome))
    → map length outcomes ≡ map length clients → AllReplied outcomes
    → CountsFrom (length before + 1) (places_of (all_placed clients outcomes))
    → AllByRecursion (AllByRecursion (IsReplyOf (before ++ (replay cells (all_of clients)).replies))) outcomes
    → outcomes ≡ in_turn (length before + 1) cells clients
clients_only before cells [] [] e all c r = refl
clients_only before cells [] (outcomes ∷ others) e all c r = absurd cc
clients_only before cells (bodies ∷ later) [] e all c r = absurd cc
clients_only before cells (bodies ∷ later) (outcomes ∷ others) e all c r =
    let lengths = one_by_one bodies later outcomes others e in
    let next = (replay cells bodies).cells in
    let mine = subst (λ (rs : List (List ℕ)). AllByRecursion (IsReplyOf (before ++ rs)) outcomes)
    (replay-append-replies cells bodies (all_of later)) r.0 in
    let first = client_only before (replay next (all_of later)).replies cells bodies outcomes
    (all_placed later others) lengths.first all.0 c mine in
    let theirs = subst (λ (rs : List (List ℕ)). AllByRecursion (AllByRecursion (IsReplyOf rs)) others)
    (replies_on before cells bodies (all_of later)) r.1 in
    let counts = subst (λ (k : ℕ). CountsFrom k (places_of (all_placed later others)))
    (sym (behind before cells bodies)) first.places in
    let rest = clients_only (before ++
    (replay cells bodies).replies) next later others lengths.rest all.1 counts theirs in
    ap (λ (os : List Outcome). os ∷ others) first.outcomes'
    ∙ ap (λ (oss : List (List Outcome)). outcomes_from (length before + 1) cells bodies ∷ oss)
    (rest ∙ ap (λ (k : ℕ). in_turn k next later) (behind before cells bodies))

pub only_in_turn : (opening : CellMap) (clients : List (List (List ℕ))) (outcomes : List (List Outcome))
    (lates : List (List (Option (List ℕ)))) → IsHistory opening clients outcomes lates → AllReplied outcomes
    → AreInTurn clients outcomes → outcomes ≡ in_turn 1 opening clients
only_in_turn opening clients outcomes lates is all turn =
    let sorted : order clients outcomes ≡ all_placed clients outcomes = sorted_again 1
    (all_placed clients outcomes) turn in
    let bodies : bodies_in (order clients outcomes) ≡ all_of clients = ap bodies_in sorted
    ∙ clients_placed clients outcomes is.shape all in
    clients_only [] opening clients outcomes is.shape all turn
    (subst (λ (bs : List (List ℕ)). AllByRecursion
    (AllByRecursion (IsReplyOf (replay opening bs).replies)) outcomes) bodies is.replies)
