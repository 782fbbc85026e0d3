-- A seat's passes taken in, from the last board on.
use Rattle.std.proofs.Common.{◌≡◌, ℕ, ◌<◌, zero, suc, List, [], ◌∷◌, ◌++◌, take, drop, length, get_or, set, sym, ap}
use Rattle.std.proofs.Common.{◌∙◌, arith, length-append, subst}
use Rattle.std.specs.List.{AllByRecursion}
use mathlib.Core.Option.{some, some-injective, some-ne-none}
use lib.ListN.{get_elem?}
use Rattle.std.proofs.lemmas.List.{length-map}
use Rattle.turn_pass.specs.Pass.{PassState, TurnId, taking_in}
use Rattle.hub_multiplexer.specs.Seats.{IsIdle, after_join, turns_of}
use Rattle.hub_multiplexer.proofs.Lists.{popped}

abbrev pub joining : PassState → PassState → PassState
joining p q = record p { knows = taking_in p.knows q.knows }

joined_at : (firsts others : List PassState) (n : ℕ) (p q : PassState) → get_elem? firsts n ≡ some p
    → get_elem? others n ≡ some q
    → set (take (suc n) firsts ++ after_join (drop (suc n) firsts) (drop (suc n) others)) n
    (record p { knows = taking_in p.knows q.knows }) ≡ take n firsts ++ after_join (drop n firsts) (drop n others)
joined_at [] others n p q here there = absurd (some-ne-none p (sym here))
joined_at (x ∷ xs) [] n p q here there = absurd (some-ne-none q (sym there))
joined_at (x ∷ xs) (y ∷ ys) zero p q here there = sym (λ i. record (some-injective x p here i)
    { knows = taking_in (some-injective x p here i).knows (some-injective y q there i).knows } ∷ after_join xs ys)
joined_at (x ∷ xs) (y ∷ ys) (suc n) p q here there = ap (λ l. x ∷ l) (joined_at xs ys n p q here there)

-- the first pass of the board is as it was
not_joined : (firsts rest : List PassState) (n : ℕ) (p : PassState) → n < length firsts
    → p ≡ get_or (take (suc n) firsts ++ rest) n p → get_elem? firsts n ≡ some p
not_joined [] rest n p inside read = absurd (omega arith)
not_joined (x ∷ xs) rest zero p inside read = ap some (sym read)
not_joined (x ∷ xs) rest (suc n) p inside read = not_joined xs rest n p (omega arith) read

pub board_joined : (firsts others before now left : List PassState) (board : ℕ) (p q p' : PassState)
    → before ≡ left ++ q ∷ [] → before ≡ take (length before) others
    → now ≡ take (length before) firsts ++ after_join (drop (length before) firsts) (drop (length before) others)
    → length left < length firsts → board ≡ length left → p ≡ get_or now board p → p' ≡ joining p q
    → (left ≡ take (length left) others) × (set now board p' ≡ take (length left) firsts ++ after_join
    (drop (length left) firsts) (drop (length left) others))
board_joined firsts others before now left board p q p' was front state inside at read is =
    let last = popped others left q (sym was ∙ (front ∙ ap (λ l. take (length l) others) was)) in
    let long : length before ≡ suc (length left) = ap length was ∙ omega (arith, length-append left (q ∷ [])) in
    let state' : now ≡ take (suc (length left)) firsts ++ after_join (drop (suc (length left)) firsts)
    (drop (suc (length left)) others) = state
    ∙ ap (λ n. take n firsts ++ after_join (drop n firsts) (drop n others)) long in
    let here : get_elem? firsts (length left) ≡ some p = not_joined firsts _ (length left) p inside
    (read ∙ (λ i. get_or (state' i) (at i) p)) in
    (last.0, (λ i. set (state' i) (at i) (is i)) ∙ joined_at firsts others (length left) p q here last.1)

-- the board of the last of the passes that are left is one of all boards
pub board_inside : (firsts others before left : List PassState) (q : PassState) → before ≡ left ++ q ∷ []
    → before ≡ take (length before) others → length firsts ≡ length others → length left < length firsts
board_inside firsts others before left q was front long =
    let last = popped others left q (sym was ∙ (front ∙ ap (λ l. take (length l) others) was)) in
    let inside = place_inside others (length left) q last.1 in omega (arith, long, inside)
  where
    place_inside : {A : Type 0} (l : List A) (i : ℕ) (a : A) → get_elem? l i ≡ some a → i < length l
    place_inside [] i a e = absurd (some-ne-none a (sym e))
    place_inside (x ∷ xs) zero a e = omega arith
    place_inside (x ∷ xs) (suc i) a e = let h = place_inside xs i a e in omega arith

-- passes of the same turns are as many
pub same_length : (firsts others : List PassState) → turns_of firsts ≡ turns_of others → length firsts ≡ length others
same_length firsts others e = sym (length-map firsts (λ (pass : PassState). pass.turn))
    ∙ (ap length e ∙ length-map others (λ (pass : PassState). pass.turn))

-- the last of the passes that are left is of the client, and holds nothing
pub last_idle : (client : ℕ) (others before left : List PassState) (q : PassState) → before ≡ left ++ q ∷ []
    → before ≡ take (length before) others → AllByRecursion (IsIdle client) others → IsIdle client q
last_idle client others before left q was front all =
    idle_at others (length left) q (popped others left q
    (sym was ∙ (front ∙ ap (λ l. take (length l) others) was))).1 all
  where
    idle_at : (passes : List PassState) (i : ℕ) (pass : PassState) → get_elem? passes i ≡ some pass
        → AllByRecursion (IsIdle client) passes → IsIdle client pass
    idle_at [] i pass e all = absurd (some-ne-none pass (sym e))
    idle_at (x ∷ xs) zero pass e all = subst (IsIdle client) (some-injective x pass e) all.0
    idle_at (x ∷ xs) (suc i) pass e all = idle_at xs i pass e all.1

-- and it is of the turn of its board
pub last_turn : (others before left : List PassState) (q : PassState) (turns : List TurnId) (board : ℕ) (turn : TurnId)
    → before ≡ left ++ q ∷ [] → before ≡ take (length before) others → turns_of others ≡ turns → board ≡ length left
    → turn ≡ get_or turns board turn → q.turn ≡ turn
last_turn others before left q turns board turn was front same at is =
    let last = popped others left q (sym was ∙ (front ∙ ap (λ l. take (length l) others) was)) in
    sym (is ∙ (ap (λ l. get_or l board turn) (sym same) ∙ (ap (λ n. get_or (turns_of others) n turn) at
    ∙ turn_at others (length left) q last.1)))
  where
    turn_at : (passes : List PassState) (i : ℕ) (pass : PassState) → get_elem? passes i ≡ some pass
        → get_or (turns_of passes) i turn ≡ pass.turn
    turn_at [] i pass e = absurd (some-ne-none pass (sym e))
    turn_at (x ∷ xs) zero pass e = ap (λ (p : PassState). p.turn) (some-injective x pass e)
    turn_at (x ∷ xs) (suc i) pass e = turn_at xs i pass e
