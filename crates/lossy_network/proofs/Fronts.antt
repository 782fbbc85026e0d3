-- The front of the queue, as the code finds it.
use Rattle.std.proofs.Common.{◌≡◌, ◌∙◌, ℕ, ◌<◌, true, false, List, ◌∷◌, length, nat_lt, Option, Some, None}
use Rattle.std.proofs.Common.{refl, sym, ap, subst, drop, arith, ◌≤◌}
use Rattle.std.proofs.lemmas.Bool.{lt-ltb}
use Rattle.std.proofs.lemmas.Bool.Decides.{nat_tests}
use Rattle.ipb_base.specs.Faults.{one_more}
use Rattle.lossy_network.specs.declared.fates.DatagramFate.{DatagramFate}
use Rattle.lossy_network.specs.Fates.{fate_at}
use Rattle.lossy_network.specs.Traffic.{Traffic, put_on}
use Rattle.std.specs.List.{slice_get}
use Rattle.world_model.specs.Links.{Told, heard_by}
use Rattle.lossy_network.specs.Network.{ByBoard, Dropped, Network, Taken, Taking, without_too_old, front, front_of, front_with}
use Rattle.lossy_network.specs.Network.{after_hearing, hub_bytes, put_at, with_queue}
use Rattle.lossy_network.specs.Inside.{stands}

none_stands : (rest : Network) (place : ℕ) (r : Option Told) → stands (front_with rest place None r) ≡ true → ⊥
none_stands rest place None st = absurd cc
none_stands rest place (Some told) st = absurd cc

-- there is a datagram, and the hub may hear it
pub nothing_left : (net : Network) (place : ℕ) (rest : List ℕ) → net.traffic.queue ≡ place ∷ rest
    → hub_bytes net.told (slice_get net.told.air place) ≡ None → stands (front net) ≡ true → ⊥
nothing_left net place rest is none st =
    let r = heard_by net.told (slice_get net.told.air place) in
    none_stands (with_queue net rest) place r (sym (ap (λ (queue : List ℕ). stands (front_of net queue)) is
    ∙ ap (λ (bytes : Option (List ℕ)). stands (front_with (with_queue net rest) place bytes r)) none) ∙ st)

-- with an answer and without
heard_answered : (net : Network) (told : Told) → nat_lt (length net.told.air) (length told.air) ≡ true
    → after_hearing net told ≡ put_at (length net.told.air) (record net { told = told })
heard_answered net told is = rw is refl

heard_unanswered : (net : Network) (told : Told) → nat_lt (length net.told.air) (length told.air) ≡ false
    → after_hearing net told ≡ record net { told = told }
heard_unanswered net told is = rw is refl

ge-ltb : (a b : ℕ) → b ≤ a → nat_lt a b ≡ false
ge-ltb a b is = grind (arith, nat_tests)

-- the board hears it
taken_by_board : (net : Network) (place : ℕ) (rest : List ℕ) (told : Told) → net.traffic.queue ≡ place ∷ rest
    → hub_bytes net.told (slice_get net.told.air place) ≡ None
    → heard_by net.told (slice_get net.told.air place) ≡ Some told
    → front net ≡ Taken (ByBoard place) (after_hearing (with_queue net rest) told)
taken_by_board net place rest told is none by_board =
    let r = heard_by net.told (slice_get net.told.air place) in
    ap (front_of net) is
    ∙ (ap (λ (bytes : Option (List ℕ)). front_with (with_queue net rest) place bytes r) none
    ∙ ap (λ (t : Option Told). front_with (with_queue net rest) place None t) by_board)

-- it is too old
taken_too_old : (net : Network) (place : ℕ) (rest : List ℕ) → net.traffic.queue ≡ place ∷ rest
    → hub_bytes net.told (slice_get net.told.air place) ≡ None
    → heard_by net.told (slice_get net.told.air place) ≡ None
    → front net ≡ Taken (Dropped place) (without_too_old (with_queue net rest))
taken_too_old net place rest is none by_board =
    let r = heard_by net.told (slice_get net.told.air place) in
    ap (front_of net) is
    ∙ (ap (λ (bytes : Option (List ℕ)). front_with (with_queue net rest) place bytes r) none
    ∙ ap (λ (t : Option Told). front_with (with_queue net rest) place None t) by_board)

-- ---- what the code makes of it

record_told : (net : Network) (told : Told) (one two : Traffic) → one ≡ two
    → record net { told = told; traffic = one } ≡ record net { told = told; traffic = two }
record_told net told one two same = ap (λ (t : Traffic). record net { told = told; traffic = t }) same

popped : (net : Network) (place : ℕ) (rest queue : List ℕ) (before : Traffic) → net.traffic.queue ≡ place ∷ rest
    → before ≡ net.traffic → queue ≡ drop 1 before.queue
    → record before { queue = queue } ≡ record net.traffic { queue = rest }
popped net place rest queue before is same pop =
    let left : queue ≡ rest = pop ∙ (ap (λ (t : Traffic). drop 1 t.queue) same
    ∙ ap (λ (xs : List ℕ). drop 1 xs) is) in
    ap (λ (t : Traffic). record t { queue = queue }) same
    ∙ ap (λ (xs : List ℕ). record net.traffic { queue = xs }) left

pub dropped_is : (net : Network) (place : ℕ) (rest queue : List ℕ) (told : Told) (before after : Traffic)
    → net.traffic.queue ≡ place ∷ rest → hub_bytes net.told (slice_get net.told.air place) ≡ None
    → heard_by net.told (slice_get net.told.air place) ≡ None → told ≡ net.told → before ≡ net.traffic
    → queue ≡ drop 1 before.queue → after ≡ record before { queue = queue; held = one_more before.held }
    → (taking : Taking) × (front net ≡ Taken taking (record net { told = told; traffic = after }))
dropped_is net place rest queue told before after is none by_board same_told same pop count =
    let left = popped net place rest queue before is same pop in
    let traffic : record net.traffic { queue = rest; held = one_more net.traffic.held } ≡ after =
    sym (count ∙ ap (λ (t : Traffic). record t { held = one_more t.held }) left) in (
      Dropped place,
      taken_too_old net place rest is none by_board ∙ ap (Taken (Dropped place))
          (record_told net net.told _ after traffic
          ∙ ap (λ (t : Told). record net { told = t; traffic = after }) (sym same_told)),
    )

pub answered_is : (net : Network) (place : ℕ) (rest queue : List ℕ) (told : Told) (before after : Traffic)
    (fate : DatagramFate) (answer : ℕ) → net.traffic.queue ≡ place ∷ rest
    → hub_bytes net.told (slice_get net.told.air place) ≡ None
    → heard_by net.told (slice_get net.told.air place) ≡ Some told → before ≡ net.traffic
    → queue ≡ drop 1 before.queue → answer ≡ length net.told.air → answer < length told.air
    → fate ≡ fate_at net.fates answer → after ≡ put_on fate answer (record before { queue = queue })
    → (taking : Taking) × (front net ≡ Taken taking (record net { told = told; traffic = after }))
answered_is net place rest queue told before after fate answer is none by_board same pop here grows fate_is put =
    let left = popped net place rest queue before is same pop in
    let traffic : put_on (fate_at net.fates (length net.told.air)) (length net.told.air)
    (record net.traffic { queue = rest }) ≡ after =
    sym (put ∙ (ap (λ (t : Traffic). put_on fate answer t) left
    ∙ (ap (λ (f : DatagramFate). put_on f answer (record net.traffic { queue = rest })) fate_is
    ∙ ap (λ (n : ℕ). put_on (fate_at net.fates n) n (record net.traffic { queue = rest })) here))) in (
      ByBoard place,
      taken_by_board net place rest told is none by_board ∙ ap (Taken (ByBoard place))
          (heard_answered (with_queue net rest) told
          (lt-ltb (length net.told.air) (length told.air) (subst (λ (n : ℕ). n < length told.air) here grows))
          ∙ record_told net told _ after traffic),
    )

pub unanswered_is : (net : Network) (place : ℕ) (rest queue : List ℕ) (told : Told) (before : Traffic) (answer : ℕ)
    → net.traffic.queue ≡ place ∷ rest → hub_bytes net.told (slice_get net.told.air place) ≡ None
    → heard_by net.told (slice_get net.told.air place) ≡ Some told → before ≡ net.traffic
    → queue ≡ drop 1 before.queue → answer ≡ length net.told.air → length told.air ≤ answer
    → (taking : Taking)
    × (front net ≡ Taken taking (record net { told = told; traffic = record before { queue = queue } }))
unanswered_is net place rest queue told before answer is none by_board same pop here stays =
    let left = popped net place rest queue before is same pop in (
      ByBoard place,
      taken_by_board net place rest told is none by_board ∙ ap (Taken (ByBoard place))
          (heard_unanswered (with_queue net rest) told
          (ge-ltb (length net.told.air) (length told.air) (subst (λ (n : ℕ). length told.air ≤ n) here stays))
          ∙ record_told net told _ _ (sym left)),
    )
