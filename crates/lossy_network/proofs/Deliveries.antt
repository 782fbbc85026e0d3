-- Where every fate delivers, datagrams are taken in the order of sending, each once.
use Rattle.std.proofs.Common.{◌≡◌, ◌∙◌, ℕ, zero, suc, ◌+◌, ◌<◌, ◌≤◌, ◌==◌, Bool, true, false, cond, List, [], ◌∷◌}
use Rattle.std.proofs.Common.{◌++◌, length, map, Some, None, refl, sym, ap, subst, arith, append_assoc}
use Rattle.std.specs.Prelude.{◌&&◌, Option}
use Rattle.std.specs.List.{AllByRecursion, list_all, range_with_len, slice_get}
use Rattle.std.proofs.lemmas.List.{append-nil, map-append}
use Rattle.std.proofs.lemmas.Bool.Decides.{nat_tests}
use Rattle.ipb_base.proofs.AllLemmas.{back_of_all}
use Rattle.board_specs.specs.declared.spec.Fates.{Fates}
use Rattle.world_model.specs.declared.datagram.Datagram.{Datagram}
use Rattle.world_model.specs.declared.datagram.Direction.{Direction}
use Rattle.world_model.specs.declared.datagram.Direction.TheVariants.{ToBoard, ToHub}
use Rattle.world_model.specs.Air.{LIFETIME, is_alive}
use Rattle.world_model.specs.Board.{Board, hear}
use Rattle.world_model.specs.World.{air_after_answer}
use Rattle.world_model.specs.Links.{IsHeard, Told, first_sends, first_sends_from, heard_by, is_first_send}
use Rattle.world_model.specs.Links.{sent_on, then_told}
use Rattle.lossy_network.specs.declared.fates.DatagramFate.{DatagramFate}
use Rattle.lossy_network.specs.declared.fates.DatagramFate.TheVariants.{Delivered}
use Rattle.lossy_network.specs.declared.under_way.Late.{Late}
use Rattle.lossy_network.specs.Fates.{fate_at, fate_of_letter}
use Rattle.lossy_network.specs.Traffic.{Traffic, due_at, put_on, still_late}
use Rattle.lossy_network.specs.Network.{ByBoard, ByHub, Dropped, Taking, hub_bytes, new_network}
use Rattle.lossy_network.specs.Calls.{Call, after_calls, all_takings, drops, place_taken}
use Rattle.lossy_network.proofs.Hearing.{heard_on_is}
use Rattle.lossy_network.proofs.Along.{IsKept, calls_kept}
use Rattle.lossy_network.proofs.Copies.{drops_more, one_longer}

-- ---- first sends do not fall

sends_append : (first count : ℕ) (xs ys : List Datagram) → first_sends_from first count (xs ++ ys)
    ≡ first_sends_from first (first_sends_from first count xs) ys
sends_append first count [] ys = refl
sends_append first count (x ∷ xs) ys = sends_append first
    (cond (is_first_send first count x.direction x.bytes) (count + 1) count) xs ys

one_or_none : (b : Bool) (count : ℕ) → count ≤ cond b (count + 1) count
one_or_none true count = omega arith
one_or_none false count = omega arith

sends_rise : (first count : ℕ) (xs : List Datagram) → count ≤ first_sends_from first count xs
sends_rise first count [] = omega arith
sends_rise first count (x ∷ xs) =
    let b = is_first_send first count x.direction x.bytes in
    omega (arith, one_or_none b count, sends_rise first (cond b (count + 1) count) xs)

longer_air : (first : ℕ) (air more : List Datagram)
    → first_sends_from first 0 air ≤ first_sends_from first 0 (air ++ more)
longer_air first air more =
    omega (arith, sends_append first 0 air more, sends_rise first (first_sends_from first 0 air) more)

-- a law of `world_model`: the board keeps its first identifier
abbrev pub KeepsFirst : Type 0
KeepsFirst = (old new : Told) → IsHeard old new → record new.board { log = old.board.log } ≡ old.board

heard_sends : (keeps : KeepsFirst) (told new : Told) (place : ℕ) → heard_by told (slice_get told.air place) ≡ Some new
    → first_sends told ≤ first_sends new
heard_sends keeps told new place is =
    let on = heard_on_is told new (slice_get told.air place) is in
    let more = air_after_answer (first_sends told) (hear told.board on.datagram.bytes).answer in
    let one : IsHeard told new = record {
      places = place ∷ [];
      heard = ap (λ (r : Option Told). then_told r (λ after. Some after)) is;
    } in
    let first : new.board.first ≡ told.board.first = ap (λ (b : Board). b.first) (keeps told new one) in
    let air : new.air ≡ told.air ++ more = ap (λ (t : Told). t.air) on.heard in
    subst (λ (f : ℕ). first_sends told ≤ first_sends_from f 0 new.air) (sym first)
    (subst (λ (xs : List Datagram). first_sends told ≤ first_sends_from told.board.first 0 xs) (sym air)
    (longer_air told.board.first told.air more))

sent_sends : (told : Told) (bytes : List ℕ) → first_sends told ≤ first_sends (sent_on told bytes)
sent_sends told bytes = longer_air told.board.first told.air _

-- ---- places in order

range_push : (a n : ℕ) → range_with_len a (suc n) ≡ range_with_len a n ++ (a + n) ∷ []
range_push a zero = let same : a ≡ a + 0 = omega arith in ap (λ (k : ℕ). k ∷ []) same
range_push a (suc n) =
    let same : a + 1 + n ≡ a + suc n = omega arith in
    ap (λ (xs : List ℕ). a ∷ xs) (range_push (a + 1) n
    ∙ ap (λ (k : ℕ). range_with_len (a + 1) n ++ k ∷ []) same)

range_more : (n : ℕ) → range_with_len 0 (n + 1) ≡ range_with_len 0 n ++ n ∷ []
range_more n =
    let next : n + 1 ≡ suc n = omega arith in
    let same : 0 + n ≡ n = omega arith in
    ap (range_with_len 0) next ∙ (range_push 0 n ∙ ap (λ (k : ℕ). range_with_len 0 n ++ k ∷ []) same)

range_below : (a n past : ℕ) → a + n ≤ past → AllByRecursion (λ (p : ℕ). p < past) (range_with_len a n)
range_below a zero past within = tt
range_below a (suc n) past within = (omega (arith, within), range_below (a + 1) n past (omega (arith, within)))

-- one that waits was sent
place_below : (front rest : List ℕ) (place n : ℕ) → front ++ place ∷ rest ≡ range_with_len 0 n → place < n
place_below front rest place n is =
    let all = range_below 0 n n (omega arith) in
    (back_of_all (λ (p : ℕ). p < n) front (place ∷ rest)
    (subst (AllByRecursion (λ (p : ℕ). p < n)) (sym is) all)).0

at_within : {T : Type 0} (xs : List T) (i : ℕ) → i < length xs → (x : T) × (slice_get xs i ≡ Some x)
at_within [] i within = absurd (omega (arith, within))
at_within (x ∷ xs) zero within = (x, refl)
at_within (x ∷ xs) (suc i) within = at_within xs i (omega (arith, within))

-- ---- none is too old

alive_is : (sent : ℕ) (d : Datagram) → sent ≤ LIFETIME → is_alive sent d ≡ true
alive_is sent d few = grind (arith, nat_tests, few)

some_hears : (told : Told) (direction : Direction) (bytes : List ℕ) (birth : ℕ)
    → is_alive (first_sends told) (record { direction = direction; bytes = bytes; birth = birth }) ≡ true
    → hub_bytes told (Some (record { direction = direction; bytes = bytes; birth = birth })) ≡ None
    → heard_by told (Some (record { direction = direction; bytes = bytes; birth = birth })) ≡ None → ⊥
some_hears told ToBoard bytes birth alive no_hub no_board =
    let here = rw alive at no_board in absurd cc
some_hears told ToHub bytes birth alive no_hub no_board =
    let here = rw alive at no_hub in absurd cc

not_dropped : (told : Told) (place : ℕ) → place < length told.air → first_sends told ≤ LIFETIME
    → hub_bytes told (slice_get told.air place) ≡ None → heard_by told (slice_get told.air place) ≡ None → ⊥
not_dropped told place within few no_hub no_board =
    let there = at_within told.air place within in
    let d = there.0 in
    some_hears told d.direction d.bytes d.birth (alive_is (first_sends told) d few)
    (sym (ap (hub_bytes told) there.1) ∙ no_hub) (sym (ap (heard_by told) there.1) ∙ no_board)

-- ---- what is kept

pub record IsInOrder (told : Told) (traffic : Traffic) (ts : List Taking) : Type 0 where
  pub places : map place_taken ts ++ traffic.queue ≡ range_with_len 0 (length told.air)
  pub none_late : traffic.delayed ≡ []
  pub few : first_sends told ≤ LIFETIME → (traffic.held ≡ 0) × (drops ts ≡ 0)

put_delivered : (fate : DatagramFate) (place : ℕ) (traffic : Traffic) → fate ≡ Delivered → traffic.delayed ≡ []
    → put_on fate place traffic ≡ record traffic { queue = traffic.queue ++ place ∷ [] }
put_delivered fate place traffic is none =
    ap (λ (f : DatagramFate). put_on f place traffic) is
    ∙ (ap (λ (late : List Late). record traffic {
      queue = (traffic.queue ++ place ∷ []) ++ due_at place late;
      delayed = still_late place late;
    }) none
    ∙ (ap (λ (xs : List ℕ). record traffic { queue = xs; delayed = [] }) (append-nil (traffic.queue ++ place ∷ []))
    ∙ ap (λ (late : List Late). record traffic { queue = traffic.queue ++ place ∷ []; delayed = late }) (sym none)))

taken_place : (ts : List Taking) (taking : Taking) (rest queue : List ℕ) → queue ≡ place_taken taking ∷ rest
    → map place_taken (ts ++ taking ∷ []) ++ rest ≡ map place_taken ts ++ queue
taken_place ts taking rest queue is = ap (λ (xs : List ℕ). xs ++ rest) (map-append place_taken ts (taking ∷ []))
    ∙ (append_assoc (map place_taken ts) (place_taken taking ∷ []) rest
    ∙ ap (λ (xs : List ℕ). map place_taken ts ++ xs) (sym is))

module _ (fates : Fates) (all : (place : ℕ) → fate_at fates place ≡ Delivered) (keeps : KeepsFirst) where
  -- one more was sent
  put_in_order : (told new : Told) (traffic : Traffic) (ts : List Taking) → length new.air ≡ length told.air + 1
      → map place_taken ts ++ traffic.queue ≡ range_with_len 0 (length told.air) → traffic.delayed ≡ []
      → (first_sends new ≤ LIFETIME → (traffic.held ≡ 0) × (drops ts ≡ 0))
      → IsInOrder new (put_on (fate_at fates (length told.air)) (length told.air) traffic) ts
  put_in_order told new traffic ts size places none few =
      let place = length told.air in
      let put = put_delivered (fate_at fates place) place traffic (all place) none in
      subst (λ (t : Traffic). IsInOrder new t ts) (sym put) (record {
        places = sym (append_assoc (map place_taken ts) traffic.queue (place ∷ []))
            ∙ (ap (λ (xs : List ℕ). xs ++ place ∷ []) places
            ∙ (sym (range_more place) ∙ ap (range_with_len 0) (sym size)));
        none_late = none;
        few = few;
      })

  pub order_kept : IsKept fates IsInOrder
  order_kept = record {
    sends = λ told traffic ts bytes is. put_in_order told (sent_on told bytes) traffic ts (one_longer told bytes)
        is.places is.none_late (λ few. is.few (omega (arith, few, sent_sends told bytes)));
    drops = λ told traffic ts place rest queue no_hub no_board is.
        let within = place_below (map place_taken ts) rest place (length told.air)
        (ap (λ (xs : List ℕ). map place_taken ts ++ xs) (sym queue) ∙ is.places) in
        record {
          places = taken_place ts (Dropped place) rest traffic.queue queue ∙ is.places;
          none_late = is.none_late;
          few = λ few. absurd (not_dropped told place within few no_hub no_board);
        };
    hears = λ told new traffic ts place rest queue by_board size is. record {
      places = taken_place ts (ByBoard place) rest traffic.queue queue
          ∙ (is.places ∙ ap (range_with_len 0) (sym size));
      none_late = is.none_late;
      few = λ few. let old = is.few (omega (arith, few, heard_sends keeps told new place by_board)) in
          (old.0, drops_more ts (ByBoard place) ∙ omega (arith, old.1));
    };
    answers = λ told new traffic ts place rest queue by_board size is.
        put_in_order told new (record traffic { queue = rest }) (ts ++ ByBoard place ∷ []) size
        (taken_place ts (ByBoard place) rest traffic.queue queue ∙ is.places) is.none_late
        (λ few. let old = is.few (omega (arith, few, heard_sends keeps told new place by_board)) in
        (old.0, drops_more ts (ByBoard place) ∙ omega (arith, old.1)));
    hands = λ told traffic ts place rest queue is. record {
      places = taken_place ts (ByHub place) rest traffic.queue queue ∙ is.places;
      none_late = is.none_late;
      few = λ few. let old = is.few few in (old.0, drops_more ts (ByHub place) ∙ omega (arith, old.1));
    };
  }

  pub all_in_order : (board : Board) (fail : List ℕ) (calls : List Call)
      → IsInOrder (after_calls (new_network board fates fail) calls).told
      (after_calls (new_network board fates fail) calls).traffic (all_takings (new_network board fates fail) calls)
  all_in_order board fail calls = calls_kept fates IsInOrder order_kept calls (new_network board fates fail) [] refl
      (record { places = refl; none_late = refl; few = λ few. (refl, refl) })

-- ---- a text of nothing but `d`

head_true : (b c : Bool) → (b && c) ≡ true → b ≡ true
head_true true c is = refl
head_true false c is = absurd cc

tail_true : (b c : Bool) → (b && c) ≡ true → c ≡ true
tail_true true c is = is
tail_true false c is = absurd cc

letter_delivers : (character : ℕ) → (character == 100) ≡ true → fate_of_letter (Some character) ≡ Delivered
letter_delivers character is =
    let same : character ≡ 100 = grind (arith, nat_tests, is) in
    ap (λ (n : ℕ). fate_of_letter (Some n)) same

pub text_delivers : (text : List ℕ) (place : ℕ) → list_all (λ character. character == 100) text ≡ true
    → fate_of_letter (slice_get text place) ≡ Delivered
text_delivers [] place is = refl
text_delivers (character ∷ text) zero is = letter_delivers character (head_true _ _ is)
text_delivers (character ∷ text) (suc place) is = text_delivers text place (tail_true _ _ is)
