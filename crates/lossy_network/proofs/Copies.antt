-- How often a datagram is taken, waits or is delayed, and how many were held, as their fates say.
use Rattle.std.proofs.Common.{◌≡◌, ◌⊎◌, inl, inr, ◌∙◌, ℕ, suc, ◌+◌, ◌-◌, ◌^◌, ◌<◌, ◌≤◌, ◌==◌, Bool, true, false, not}
use Rattle.std.proofs.Common.{cond, List, [], ◌∷◌, ◌++◌, length, map, min, nat_lt, nat_eq, refl, sym, ap, arith}
use Rattle.std.proofs.Common.{length-append}
use Rattle.std.specs.List.{filter}
use Rattle.std.proofs.lemmas.List.{map-append}
use Rattle.std.proofs.lemmas.Bool.{cases_lt, lt-ltb}
use Rattle.std.proofs.lemmas.Bool.Decides.{nat_tests}
use Rattle.world_model.specs.History.{times}
use Rattle.world_model.specs.Board.{Board}
use Rattle.world_model.specs.Links.{Told, sent_on}
use Rattle.world_model.proofs.Accounts.{times-append}
use Rattle.board_specs.specs.declared.spec.Fates.{Fates}
use Rattle.lossy_network.specs.declared.fates.DatagramFate.{DatagramFate}
use Rattle.lossy_network.specs.declared.fates.DatagramFate.TheVariants.{Delivered, Lost, Repeated, Delayed}
use Rattle.lossy_network.specs.declared.under_way.Late.{Late}
use Rattle.lossy_network.specs.Fates.{fate_at}
use Rattle.lossy_network.specs.Traffic.{Traffic, due_at, is_due, meets, place_of, put_on, still_late}
use Rattle.lossy_network.specs.Network.{ByBoard, ByHub, Dropped, Taking, new_network}
use Rattle.lossy_network.specs.Calls.{Call, after_calls, all_takings, copies, drops, held_of, holds, place_taken}
use Rattle.lossy_network.specs.Calls.{times_of}
use Rattle.lossy_network.proofs.Takings.{places-push}
use Rattle.lossy_network.proofs.Along.{IsKept, calls_kept}

-- ---- copies

-- how often a datagram is ready to be heard, where so many were sent
abbrev pub copies_below : Fates → ℕ → ℕ → ℕ
copies_below fates count n = cond (nat_lt n count) (copies (fate_at fates n)) 0

abbrev pub if_same : ℕ → ℕ → ℕ → ℕ
if_same place n copies = cond (place == n) copies 0

no_copies : (b : Bool) → ◌≡◌ {A = ℕ} (cond b 0 0) 0
no_copies true = refl
no_copies false = refl

two_copies : (b : Bool) → cond b 2 0 ≡ cond b 1 0 + cond b 1 0
two_copies true = refl
two_copies false = refl

-- under way: in the queue or delayed
abbrev pub times_in : ℕ → Traffic → ℕ
times_in n traffic = times n traffic.queue + times n (map place_of traffic.delayed)

met_times : (n : ℕ) (fate : DatagramFate) (place : ℕ) (traffic : Traffic)
    → times_in n (meets fate place traffic) ≡ times_in n traffic + if_same place n (copies fate)
met_times n Delivered place traffic = omega (arith, times-append n traffic.queue (place ∷ []))
met_times n Lost place traffic = omega (arith, no_copies (place == n))
met_times n Repeated place traffic =
    omega (arith, times-append n traffic.queue (place ∷ place ∷ []), two_copies (place == n))
met_times n (Delayed by) place traffic =
    let late : Late = record { place = place; by = by } in
    omega (
      arith,
      ap (times n) (places-push traffic.delayed late),
      times-append n (map place_of traffic.delayed) (place ∷ []),
    )

times_split : (n : ℕ) (late : Late) (b : Bool) (due still : List Late)
    → times n (map place_of (cond b (late ∷ due) due)) + times n (map place_of (cond (not b) (late ∷ still) still))
    ≡ if_same late.place n 1 + (times n (map place_of due) + times n (map place_of still))
times_split n late true due still = omega arith
times_split n late false due still = omega arith

released_times : (n place : ℕ) (delayed : List Late)
    → times n (due_at place delayed) + times n (map place_of (still_late place delayed))
    ≡ times n (map place_of delayed)
released_times n place [] = refl
released_times n place (late ∷ delayed) = times_split n late (is_due place late)
    (filter (is_due place) delayed) (still_late place delayed)
    ∙ ap (λ (k : ℕ). if_same late.place n 1 + k) (released_times n place delayed)

put_times : (n : ℕ) (fate : DatagramFate) (place : ℕ) (traffic : Traffic)
    → times_in n (put_on fate place traffic) ≡ times_in n traffic + if_same place n (copies fate)
put_times n fate place traffic =
    let met = meets fate place traffic in
    omega (
      arith,
      met_times n fate place traffic,
      released_times n place met.delayed,
      times-append n met.queue (due_at place met.delayed),
    )

-- one more datagram was sent
below_by : (fates : Fates) (count n : ℕ) → (n < count) ⊎ (count ≤ n)
    → copies_below fates (count + 1) n ≡ copies_below fates count n + if_same count n (copies (fate_at fates count))
below_by fates count n (inl earlier) =
    let now : nat_lt n (count + 1) ≡ true = lt-ltb n (count + 1) (omega (arith, earlier)) in
    let before : nat_lt n count ≡ true = lt-ltb n count earlier in
    let other : nat_eq count n ≡ false = grind (arith, nat_tests, earlier) in
    rw (now, before, other) (omega arith)
below_by fates count n (inr later) = elim (cases_lt count n) [
  | inl past ↦ (let now : nat_lt n (count + 1) ≡ false = grind (arith, nat_tests, past) in
      let before : nat_lt n count ≡ false = grind (arith, nat_tests, past) in
      let other : nat_eq count n ≡ false = grind (arith, nat_tests, past) in
      rw (now, before, other) refl)
  | inr here ↦ (let same : count ≡ n = omega (arith, later, here) in
      let now : nat_lt n (n + 1) ≡ true = lt-ltb n (n + 1) (omega arith) in
      let before : nat_lt n n ≡ false = grind (arith, nat_tests) in
      let is : nat_eq n n ≡ true = grind (arith, nat_tests) in
      rw same (rw (now, before, is) (omega arith)))
]

below_more : (fates : Fates) (count n : ℕ)
    → copies_below fates (count + 1) n ≡ copies_below fates count n + if_same count n (copies (fate_at fates count))
below_more fates count n = below_by fates count n (cases_lt n count)

times_taken : (n : ℕ) (ts : List Taking) (taking : Taking)
    → times n (map place_taken (ts ++ taking ∷ [])) ≡ times n (map place_taken ts) + if_same (place_taken taking) n 1
times_taken n ts taking = ap (times n) (map-append place_taken ts (taking ∷ []))
    ∙ (times-append n (map place_taken ts) (place_taken taking ∷ []) ∙ omega arith)

times_queue : (n place : ℕ) (rest queue : List ℕ) → queue ≡ place ∷ rest
    → times n queue ≡ if_same place n 1 + times n rest
times_queue n place rest queue is = ap (times n) is

abbrev pub AreCopies : Fates → Told → Traffic → List Taking → Type 0
AreCopies fates told traffic ts = (n : ℕ)
    → times n (map place_taken ts) + times_in n traffic ≡ copies_below fates (length told.air) n

pub one_longer : (told : Told) (bytes : List ℕ) → length (sent_on told bytes).air ≡ length told.air + 1
one_longer told bytes = length-append told.air _

pub copies_kept : (fates : Fates) → IsKept fates (AreCopies fates)
copies_kept fates = record {
  sends = λ told traffic ts bytes are. λ n.
      let more = ap (λ (k : ℕ). copies_below fates k n) (one_longer told bytes)
      ∙ below_more fates (length told.air) n in
      omega (arith, are n, more, put_times n (fate_at fates (length told.air)) (length told.air) traffic);
  drops = λ told traffic ts place rest queue no_hub no_board are. λ n.
      omega (arith, are n, times_taken n ts (Dropped place), times_queue n place rest traffic.queue queue);
  hears = λ told new traffic ts place rest queue by_board size are. λ n.
      let same = ap (λ (k : ℕ). copies_below fates k n) size in
      omega (arith, are n, same, times_taken n ts (ByBoard place), times_queue n place rest traffic.queue queue);
  answers = λ told new traffic ts place rest queue by_board size are. λ n.
      let more = ap (λ (k : ℕ). copies_below fates k n) size ∙ below_more fates (length told.air) n in
      omega (
        arith,
        are n,
        more,
        times_taken n ts (ByBoard place),
        times_queue n place rest traffic.queue queue,
        put_times n (fate_at fates (length told.air)) (length told.air) (record traffic { queue = rest }),
      );
  hands = λ told traffic ts place rest queue are. λ n.
      omega (arith, are n, times_taken n ts (ByHub place), times_queue n place rest traffic.queue queue);
}

-- ---- held

held_more : (fates : Fates) (count : ℕ) → held_of fates (count + 1) ≡ held_of fates count + holds (fate_at fates count)
held_more fates count = let next : count + 1 ≡ suc count = omega arith in ap (held_of fates) next

put_held : (fate : DatagramFate) (place : ℕ) (traffic : Traffic) (count : ℕ)
    → traffic.held ≡ min count (2 ^ 64 - 1) → (put_on fate place traffic).held ≡ min (count + holds fate) (2 ^ 64 - 1)
put_held Delivered place traffic count is = omega (arith, is)
put_held Lost place traffic count is = omega (arith, is)
put_held Repeated place traffic count is = omega (arith, is)
put_held (Delayed by) place traffic count is = omega (arith, is)

pub drops_more : (ts : List Taking) (taking : Taking) → drops (ts ++ taking ∷ []) ≡ drops ts + drops (taking ∷ [])
drops_more [] taking = omega arith
drops_more (ByBoard place ∷ ts) taking = drops_more ts taking
drops_more (Dropped place ∷ ts) taking = omega (arith, drops_more ts taking)
drops_more (ByHub place ∷ ts) taking = drops_more ts taking

abbrev pub IsHeldCount : Fates → Told → Traffic → List Taking → Type 0
IsHeldCount fates told traffic ts = traffic.held ≡ min (held_of fates (length told.air) + drops ts) (2 ^ 64 - 1)

pub held_kept : (fates : Fates) → IsKept fates (IsHeldCount fates)
held_kept fates = record {
  sends = λ told traffic ts bytes is.
      let place = length told.air in
      let more = ap (held_of fates) (one_longer told bytes) ∙ held_more fates place in
      let put = put_held (fate_at fates place) place traffic (held_of fates place + drops ts) is in
      omega (arith, put, more);
  drops = λ told traffic ts place rest queue no_hub no_board is.
      omega (arith, is, drops_more ts (Dropped place));
  hears = λ told new traffic ts place rest queue by_board size is.
      omega (arith, is, ap (held_of fates) size, drops_more ts (ByBoard place));
  answers = λ told new traffic ts place rest queue by_board size is.
      let answer = length told.air in
      let more = ap (held_of fates) size ∙ held_more fates answer in
      let put = put_held (fate_at fates answer) answer (record traffic { queue = rest })
      (held_of fates answer + drops ts) is in
      omega (arith, put, more, drops_more ts (ByBoard place));
  hands = λ told traffic ts place rest queue is. omega (arith, is, drops_more ts (ByHub place));
}

-- ---- after any calls

none_below : (fates : Fates) (n : ℕ) → 0 ≡ copies_below fates 0 n
none_below fates n =
    let none : nat_lt n 0 ≡ false = grind (arith, nat_tests) in
    sym (ap (λ (b : Bool). cond b (copies (fate_at fates n)) 0) none)

pub sent_copies : (board : Board) (fates : Fates) (fail : List ℕ) (calls : List Call) (place : ℕ)
    → place < length (after_calls (new_network board fates fail) calls).told.air
    → times_of (after_calls (new_network board fates fail) calls)
    (all_takings (new_network board fates fail) calls) place
    ≡ copies (fate_at fates place)
sent_copies board fates fail calls place below =
    let are = calls_kept fates (AreCopies fates) (copies_kept fates) calls (new_network board fates fail) [] refl
    (λ n. none_below fates n) place in
    let count = length (after_calls (new_network board fates fail) calls).told.air in
    let here : copies_below fates count place ≡ copies (fate_at fates place) =
    ap (λ (b : Bool). cond b (copies (fate_at fates place)) 0) (lt-ltb place count below) in
    omega (arith, are, here)

pub unsent_copies : (board : Board) (fates : Fates) (fail : List ℕ) (calls : List Call) (place : ℕ)
    → length (after_calls (new_network board fates fail) calls).told.air ≤ place
    → times_of (after_calls (new_network board fates fail) calls)
    (all_takings (new_network board fates fail) calls) place
    ≡ 0
unsent_copies board fates fail calls place past =
    let are = calls_kept fates (AreCopies fates) (copies_kept fates) calls (new_network board fates fail) [] refl
    (λ n. none_below fates n) place in
    let count = length (after_calls (new_network board fates fail) calls).told.air in
    let none : nat_lt place count ≡ false = grind (arith, nat_tests, past) in
    let here : copies_below fates count place ≡ 0 =
    ap (λ (b : Bool). cond b (copies (fate_at fates place)) 0) none in
    omega (arith, are, here)

pub held_count : (board : Board) (fates : Fates) (fail : List ℕ) (calls : List Call)
    → IsHeldCount fates (after_calls (new_network board fates fail) calls).told
    (after_calls (new_network board fates fail) calls).traffic (all_takings (new_network board fates fail) calls)
held_count board fates fail calls =
    calls_kept fates (IsHeldCount fates) (held_kept fates) calls (new_network board fates fail) [] refl refl
