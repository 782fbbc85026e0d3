-- What the lines of a generated session add up to.
use Rattle.std.proofs.Common.{◌≡◌, ℕ, zero, suc, ◌+◌, ◌-◌, ◌*◌, ◌^◌, ◌<◌, ◌≤◌, cond, true, false, Bool, List, [], ◌∷◌}
use Rattle.std.proofs.Common.{◌++◌, length, map, Some, None, Option, refl, ap, sym, ◌∙◌, subst, arith, length-append}
use Rattle.std.proofs.Math.Nat.{mul-suc, suc-mul}
use Rattle.std.specs.Prelude.{nat_le}
use Rattle.std.specs.List.{AllByRecursion, flat_map, count_by, sum, sum_by}
use Rattle.std.proofs.lemmas.List.Sums.{sum_by-cons, sum_by-append}
use Rattle.ipb_base.proofs.AllLemmas.{AllByRecursion-append}
use Rattle.world_model.proofs.Lists.{either}
use Rattle.lane_record.specs.declared.outcome.Outcome.{Outcome}
use Rattle.lane_record.specs.declared.outcome.Outcome.TheVariants.{Replied, TimedOut, Unsent, LinkLost}
use Rattle.lane_record.specs.Lists.{CountsFrom}
use Rattle.lane_record.specs.Outcomes.{place_of, is_sent}
use Rattle.script_plans.specs.declared.board_run.ClientPart.{ClientPart}
use Rattle.script_plans.specs.Runs.{outcomes_in}
use Rattle.board_history.specs.Order.{Placed, with_place, bodies_with_places, all_placed, insert, by_place, places_of}
use Rattle.board_history.specs.Order as orders
use Rattle.board_history.specs.Parts.{IsReplied, IsReplyOf}
use Rattle.board_history.proofs.Sorting.{all_sorted}
use Rattle.load_run.specs.Claims.{has_succeeded, is_done, word_in, word_in_reply, word_at_place, sum_below}
use Rattle.load_run.proofs.Plans.{bodies-length, bodies_of, body}
use Rattle.load_run.proofs.Replies.{AreAlike, cells, replied, replies_on, reply}
use Rattle.load_run.proofs.Lines.{AreParts, IsPart, word-replied, words_of}

-- ---- the order has alike bodies

abbrev pub HasBody : Placed → Type 0
HasBody p = p.body ≡ body

abbrev pub all_alike : (n : ℕ) → AreAlike (bodies_of n)
all_alike zero = tt
all_alike (suc n) = (refl, all_alike n)

with-alike : (b : List ℕ) (place : Option ℕ) → b ≡ body → AllByRecursion HasBody (with_place b place)
with-alike b None same = tt
with-alike b (Some place) same = (same, tt)

placed-alike : (bodies : List (List ℕ)) (outcomes : List Outcome) → AreAlike bodies
    → AllByRecursion HasBody (bodies_with_places bodies outcomes)
placed-alike [] outcomes alike = tt
placed-alike (b ∷ bodies) [] alike = tt
placed-alike (b ∷ bodies) (o ∷ outcomes) alike =
    AllByRecursion-append HasBody (with_place b (place_of o)) (bodies_with_places bodies outcomes)
    (with-alike b (place_of o) alike.0) (placed-alike bodies outcomes alike.1)

abbrev pub bodies_by : List ClientPart → List (List (List ℕ))
bodies_by parts = map (λ (part : ClientPart). part.planned.bodies) parts

abbrev pub outcomes_by : List ClientPart → List (List Outcome)
outcomes_by parts = map (λ (part : ClientPart). part.outcomes) parts

parts-alike : (parts : List ClientPart) (ns : List ℕ) → AreParts parts ns
    → AllByRecursion HasBody (all_placed (bodies_by parts) (outcomes_by parts))
parts-alike [] ns is = tt
parts-alike (part ∷ parts) [] is = absurd is
parts-alike (part ∷ parts) (n ∷ ns) is =
    AllByRecursion-append HasBody (bodies_with_places part.planned.bodies part.outcomes)
    (all_placed (bodies_by parts) (outcomes_by parts))
    (placed-alike part.planned.bodies part.outcomes (subst AreAlike (sym is.0.bodies') (all_alike n)))
    (parts-alike parts ns is.1)

alike-bodies : (ps : List Placed) → AllByRecursion HasBody ps → AreAlike (orders.bodies_in ps)
alike-bodies [] all = tt
alike-bodies (p ∷ ps) all = (all.0, alike-bodies ps all.1)

abbrev pub order_of : List ClientPart → List Placed
order_of parts = by_place (all_placed (bodies_by parts) (outcomes_by parts))

pub order-alike : (parts : List ClientPart) (ns : List ℕ) → AreParts parts ns
    → AreAlike (orders.bodies_in (order_of parts))
order-alike parts ns is =
    alike-bodies (order_of parts)
    (all_sorted HasBody (all_placed (bodies_by parts) (outcomes_by parts)) (parts-alike parts ns is))

-- ---- each reply has the number of bodies before it

abbrev pub IsTold : Outcome → Type 0
IsTold (Replied place words) = words ≡ reply (place - 1)
IsTold (TimedOut place rounds) = Unit {0}
IsTold Unsent = Unit {0}
IsTold (LinkLost place) = Unit {0}

told-one : (bodies : List (List ℕ)) → AreAlike bodies → length bodies < 2 ^ 32 → (o : Outcome)
    → IsReplyOf (replies_on (cells 0) bodies) o → IsTold o
told-one bodies alike few (Replied zero words) is = let bad : ⊥ = cc in absurd bad
told-one bodies alike few (Replied (suc k) words) is =
    replied 0 bodies k words alike (omega arith) is ∙ ap reply (omega arith)
told-one bodies alike few (TimedOut place rounds) is = tt
told-one bodies alike few Unsent is = tt
told-one bodies alike few (LinkLost place) is = tt

-- what holds of the outcomes of each client holds of all
pub flat-all : (P : Outcome → Type 0) (parts : List ClientPart) → AllByRecursion (AllByRecursion P) (outcomes_by parts)
    → AllByRecursion P (outcomes_in parts)
flat-all P [] all = tt
flat-all P (part ∷ parts) all =
    AllByRecursion-append P part.outcomes (outcomes_in parts) all.0 (flat-all P parts all.1)

pub told-all : (bodies : List (List ℕ)) → AreAlike bodies → length bodies < 2 ^ 32 → (outcomes : List Outcome)
    → AllByRecursion (IsReplyOf (replies_on (cells 0) bodies)) outcomes → AllByRecursion IsTold outcomes
told-all bodies alike few [] all = tt
told-all bodies alike few (o ∷ os) all = (told-one bodies alike few o all.0, told-all bodies alike few os all.1)

-- ---- the words of outcomes

abbrev pub words_in : List Outcome → List ℕ
words_in outcomes = flat_map words_of outcomes

one-done : (o : Outcome) → IsTold o → length (words_of o) ≡ cond (is_done o) 1 0
one-done (Replied place words) told =
    ap length (word-replied place (place - 1) words told)
    ∙ sym (ap (λ (ws : List ℕ). cond (has_succeeded ws) 1 0) told)
one-done (TimedOut place rounds) told = refl
one-done Unsent told = refl
one-done (LinkLost place) told = refl

pub all-done : (outcomes : List Outcome) → AllByRecursion IsTold outcomes
    → length (words_in outcomes) ≡ count_by is_done outcomes
all-done [] all = refl
all-done (o ∷ os) all =
    omega (
      arith,
      length-append (words_of o) (words_in os),
      one-done o all.0,
      all-done os all.1,
      sum_by-cons (λ (x : Outcome). cond (is_done x) 1 0) o os,
    )

sum-append : (xs ys : List ℕ) → sum (xs ++ ys) ≡ sum xs + sum ys
sum-append xs ys = sum_by-append (λ (x : ℕ). x) xs ys

sum-one : (n : ℕ) → sum (n ∷ []) ≡ n
sum-one n = omega arith

one-word : (replies : List (List ℕ)) (o : Outcome) → IsTold o → IsReplyOf replies o
    → sum (words_of o) ≡ word_at_place replies o
one-word replies (Replied place words) told is =
    ap sum (word-replied place (place - 1) words told)
    ∙ (sum-one (place - 1)
    ∙ (sym (ap word_in told)
    ∙ sym (ap word_in_reply is)))
one-word replies (TimedOut place rounds) told is = refl
one-word replies Unsent told is = refl
one-word replies (LinkLost place) told is = refl

pub all-added : (replies : List (List ℕ)) (outcomes : List Outcome) → AllByRecursion IsTold outcomes
    → AllByRecursion (IsReplyOf replies) outcomes
    → sum (words_in outcomes) ≡ sum_by (word_at_place replies) outcomes
all-added replies [] told all = refl
all-added replies (o ∷ os) told all =
    omega (
      arith,
      sum-append (words_of o) (words_in os),
      one-word replies o told.0 all.0,
      all-added replies os told.1 all.1,
      sum_by-cons (word_at_place replies) o os,
    )

one-at-most : (b : Bool) → cond b 1 0 ≤ 1
one-at-most true = omega arith
one-at-most false = omega arith

pub no-more-words : (outcomes : List Outcome) → AllByRecursion IsTold outcomes
    → length (words_in outcomes) ≤ length outcomes
no-more-words [] all = omega arith
no-more-words (o ∷ os) all =
    omega (
      arith,
      length-append (words_of o) (words_in os),
      one-done o all.0,
      one-at-most (is_done o),
      no-more-words os all.1,
    )

-- ---- where some or all were done

-- how many places stand before one
abbrev before_place : Option ℕ → ℕ
before_place None = 0
before_place (Some place) = place - 1

abbrev pub before_in : Outcome → ℕ
before_in o = before_place (place_of o)

abbrev pub before : Placed → ℕ
before p = p.place - 1

below-one : (o : Outcome) → IsTold o → sum (words_of o) ≤ before_in o
below-one (Replied place words) told =
    omega (arith, ap sum (word-replied place (place - 1) words told), sum-one (place - 1))
below-one (TimedOut place rounds) told = omega arith
below-one Unsent told = omega arith
below-one (LinkLost place) told = omega arith

-- the words of replies are the numbers of places before, and nothing else has a word
pub no-more-total : (outcomes : List Outcome) → AllByRecursion IsTold outcomes
    → sum (words_in outcomes) ≤ sum_by before_in outcomes
no-more-total [] all = omega arith
no-more-total (o ∷ os) all =
    omega (
      arith,
      sum-append (words_of o) (words_in os),
      below-one o all.0,
      no-more-total os all.1,
      sum_by-cons before_in o os,
    )

-- the words are the numbers of places before, and each body has a place and a reply
pub record AreSums (outcomes : List Outcome) : Type 0 where
  pub total : sum (words_in outcomes) ≡ sum_by before_in outcomes
  pub sent : count_by is_sent outcomes ≡ length outcomes
  pub replied' : AllByRecursion IsReplied outcomes

none-less : (o : Outcome) (os : List Outcome) → words_of o ≡ [] → AllByRecursion IsTold os
    → length (words_in (o ∷ os)) ≡ length (o ∷ os) → ⊥
none-less o os none all same =
    let both = length-append (words_of o) (words_in os) in
    omega (arith, both, ap length none, no-more-words os all, same)

pub sums : (outcomes : List Outcome) → AllByRecursion IsTold outcomes → length (words_in outcomes) ≡ length outcomes
    → AreSums outcomes
sums [] all same = record { total = refl; sent = refl; replied' = tt }
sums (Replied place words ∷ os) all same =
    let one = word-replied place (place - 1) words all.0 in
    let size = length-append (words_of (Replied place words)) (words_in os) in
    let later = sums os all.1 (omega (arith, size, ap length one, same)) in
    record {
      total = omega (
        arith,
        sum-append (words_of (Replied place words)) (words_in os),
        ap sum one,
        sum-one (place - 1),
        later.total,
        sum_by-cons before_in (Replied place words) os,
      );
      sent = omega (arith, later.sent, sum_by-cons (λ (x : Outcome). cond (is_sent x) 1 0) (Replied place words) os);
      replied' = (tt, later.replied');
    }
sums (TimedOut place rounds ∷ os) all same = absurd (none-less (TimedOut place rounds) os refl all.1 same)
sums (Unsent ∷ os) all same = absurd (none-less Unsent os refl all.1 same)
sums (LinkLost place ∷ os) all same = absurd (none-less (LinkLost place) os refl all.1 same)

-- ---- the sum over the order

inserted-sum : (x : Placed) (ys : List Placed) → sum_by before (insert x ys) ≡ before x + sum_by before ys
inserted-sum x [] = sum_by-cons before x []
inserted-sum x (y ∷ ys) =
    either (λ (r : List Placed). sum_by before r ≡ before x + sum_by before (y ∷ ys)) (nat_le x.place y.place)
    (x ∷ (y ∷ ys)) (y ∷ insert x ys)
    (λ _. sum_by-cons before x (y ∷ ys))
    (λ _. omega (arith, sum_by-cons before y (insert x ys), inserted-sum x ys, sum_by-cons before y ys))

sorted-sum : (ps : List Placed) → sum_by before (by_place ps) ≡ sum_by before ps
sorted-sum [] = refl
sorted-sum (p ∷ ps) = omega (arith, inserted-sum p (by_place ps), sorted-sum ps, sum_by-cons before p ps)

with-sum : (b : List ℕ) (place : Option ℕ) → sum_by before (with_place b place) ≡ before_place place
with-sum b None = refl
with-sum b (Some place) = omega arith

placed-sum : (bodies : List (List ℕ)) (outcomes : List Outcome) → length outcomes ≡ length bodies
    → sum_by before (bodies_with_places bodies outcomes) ≡ sum_by before_in outcomes
placed-sum [] [] same = refl
placed-sum [] (o ∷ os) same = let bad : ⊥ = omega arith in absurd bad
placed-sum (b ∷ bodies) [] same = let bad : ⊥ = omega arith in absurd bad
placed-sum (b ∷ bodies) (o ∷ os) same =
    omega (
      arith,
      sum_by-append before (with_place b (place_of o)) (bodies_with_places bodies os),
      with-sum b (place_of o),
      placed-sum bodies os (omega arith),
      sum_by-cons before_in o os,
    )

part-size : (part : ClientPart) (n : ℕ) → IsPart part n → length part.outcomes ≡ length part.planned.bodies
part-size part n is = omega (arith, is.outcomes', ap length is.bodies', bodies-length n)

all-placed-sum : (parts : List ClientPart) (ns : List ℕ) → AreParts parts ns
    → sum_by before (all_placed (bodies_by parts) (outcomes_by parts)) ≡ sum_by before_in (outcomes_in parts)
all-placed-sum [] ns is = refl
all-placed-sum (part ∷ parts) [] is = absurd is
all-placed-sum (part ∷ parts) (n ∷ ns) is =
    omega (
      arith,
      sum_by-append before (bodies_with_places part.planned.bodies part.outcomes)
          (all_placed (bodies_by parts) (outcomes_by parts)),
      placed-sum part.planned.bodies part.outcomes (part-size part n is.0),
      all-placed-sum parts ns is.1,
      sum_by-append before_in part.outcomes (outcomes_in parts),
    )

pub order-sum : (parts : List ClientPart) (ns : List ℕ) → AreParts parts ns
    → sum_by before (order_of parts) ≡ sum_by before_in (outcomes_in parts)
order-sum parts ns is = sorted-sum (all_placed (bodies_by parts) (outcomes_by parts)) ∙ all-placed-sum parts ns is

pub outcomes-length : (parts : List ClientPart) (ns : List ℕ) → AreParts parts ns → length (outcomes_in parts) ≡ sum ns
outcomes-length [] [] is = refl
outcomes-length [] (n ∷ ns) is = absurd is
outcomes-length (part ∷ parts) [] is = absurd is
outcomes-length (part ∷ parts) (n ∷ ns) is =
    omega (
      arith,
      length-append part.outcomes (outcomes_in parts),
      is.0.outcomes',
      outcomes-length parts ns is.1,
      sum_by-cons (λ (x : ℕ). x) n ns,
    )

-- ---- 0 + 1 + 2 + ..

abbrev pub below : ℕ → ℕ
below zero = 0
below (suc n) = below n + n

squared : (n : ℕ) → 2 * below n + n ≡ n * n
squared zero = refl
squared (suc n) = omega (arith, squared n, mul-suc (suc n) n, suc-mul n n)

pub below-is : (n : ℕ) → sum_below n ≡ below n
below-is zero = refl
below-is (suc n) =
    let last : suc n - 1 ≡ n = omega arith in
    rw last (omega (arith, squared n, suc-mul n n))

pub below-few : (n : ℕ) → n ≤ 100000 → below n ≤ 100000 * n
below-few zero few = omega arith
below-few (suc n) few = omega (arith, below-few n (omega arith))

pub counted : (m : ℕ) (ps : List Placed) → CountsFrom (suc m) (places_of ps)
    → sum_by before ps + below m ≡ below (m + length ps)
counted m [] counts =
    let same : m + 0 ≡ m = omega arith in
    omega (arith, ap below same)
counted m (p ∷ ps) counts =
    let same : suc m + length ps ≡ m + length (p ∷ ps) = omega arith in
    omega (
      arith,
      sum_by-cons before p ps,
      counts.0,
      counted (suc m) ps (subst (λ (k : ℕ). CountsFrom k (places_of ps)) (omega arith) counts.1),
      ap below same,
    )
