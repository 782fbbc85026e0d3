-- Where a run stops, and why.
use Rattle.std.proofs.Common.{◌≡◌, ℕ, zero, suc, ◌+◌, ◌-◌, Bool, true, false, cond, List, [], ◌∷◌}
use Rattle.std.proofs.Common.{length, take, Option, Some, None, Result, Ok, Err, refl, ap, ◌∙◌, subst, arith}
use Rattle.std.specs.List.{slice_get}
use Rattle.std.proofs.lemmas.Bool.{leb-false, lt-leb}
use Rattle.world_model.specs.declared.datagram.Datagram.{Datagram}
use Rattle.world_model.specs.declared.datagram.Direction.{Direction}
use Rattle.world_model.specs.declared.datagram.Direction.TheVariants.{ToBoard, ToHub}
use Rattle.world_model.specs.declared.moves.WorldEnd.{WorldEnd}
use Rattle.world_model.specs.declared.moves.WorldEnd.TheVariants.{NotThere, TooOld}
use Rattle.world_model.specs.declared.moves.WorldMove.{WorldMove}
use Rattle.world_model.specs.declared.moves.WorldMove.TheVariants.{Offer, Quiet, HubHears, BoardHears}
use Rattle.world_model.specs.Hub.{hear_quiet, is_waiting}
use Rattle.world_model.specs.Air.{LIFETIME, goes_to, is_alive}
use Rattle.world_model.specs.World.{World, board_hears, go_on, hub_hears, moves_on, run_moves, step, taken_datagram, when_taken}
use Rattle.lossy_network.proofs.Airs.{goes_self, same_way}
use Rattle.world_core.specs.Runs.{IsNotThere, IsThere, IsTooOld, IsTooOldThere, StopsAt}

-- ---- the move at which a run stops

record IsStop (n : ℕ) (begin : World) (moves : List WorldMove) (k : ℕ) (end : WorldEnd) : Type 0 where
  before : World
  led : run_moves n begin (take k moves) ≡ Ok before
  move : WorldMove
  there : slice_get moves k ≡ Some move
  refused : step (n + k) before move ≡ Err end

record Stop (n : ℕ) (begin : World) (moves : List WorldMove) (end : WorldEnd) : Type 0 where
  at : ℕ
  is : IsStop n begin moves at end

stop_now : (n : ℕ) (begin : World) (move : WorldMove) (moves : List WorldMove) (end : WorldEnd)
    → step n begin move ≡ Err end → Stop n begin (move ∷ moves) end
stop_now n begin move moves end refused = record {
  at = 0;
  is = record {
    before = begin;
    led = refl;
    move = move;
    there = refl;
    refused = subst (λ (m : ℕ). step m begin move ≡ Err end) (omega arith) refused;
  };
}

stop_later : (n : ℕ) (begin after : World) (move : WorldMove) (moves : List WorldMove) (end : WorldEnd)
    → step n begin move ≡ Ok after → Stop (n + 1) after moves end → Stop n begin (move ∷ moves) end
stop_later n begin after move moves end moved stop = record {
  at = suc stop.at;
  is = record {
    before = stop.is.before;
    led = ap (λ (r : Result World WorldEnd). moves_on r (λ w. run_moves (n + 1) w (take stop.at moves))) moved
        ∙ stop.is.led;
    move = stop.is.move;
    there = stop.is.there;
    refused = subst (λ (m : ℕ). step m stop.is.before stop.is.move ≡ Err end) (omega arith) stop.is.refused;
  };
}

stop_by : (n : ℕ) (begin : World) (move : WorldMove) (moves : List WorldMove) (end : WorldEnd)
    (r : Result World WorldEnd) → step n begin move ≡ r
    → moves_on r (λ after. run_moves (n + 1) after moves) ≡ Err end
    → ((after : World) → run_moves (n + 1) after moves ≡ Err end → Stop (n + 1) after moves end)
    → Stop n begin (move ∷ moves) end
stop_by n begin move moves end (Ok after) is ran later = stop_later n begin after move moves end is (later after ran)
stop_by n begin move moves end (Err other) is ran later =
    let same : other ≡ end = cc in
    stop_now n begin move moves end (is ∙ ap (λ (e : WorldEnd). Err e) same)

stop_of : (n : ℕ) (begin : World) (moves : List WorldMove) (end : WorldEnd) → run_moves n begin moves ≡ Err end
    → Stop n begin moves end
stop_of n begin [] end ran = absurd cc
stop_of n begin (move ∷ moves) end ran = stop_by n begin move moves end (step n begin move) refl ran
    (λ after later. stop_of (n + 1) after moves end later)

-- and the other way round
stops_by : (n : ℕ) (begin : World) (move : WorldMove) (moves : List WorldMove) (k : ℕ) (before : World) (end : WorldEnd)
    (r : Result World WorldEnd) → step n begin move ≡ r
    → moves_on r (λ after. run_moves (n + 1) after (take k moves)) ≡ Ok before
    → ((after : World) → run_moves (n + 1) after (take k moves) ≡ Ok before → run_moves (n + 1) after moves ≡ Err end)
    → moves_on r (λ after. run_moves (n + 1) after moves) ≡ Err end
stops_by n begin move moves k before end (Ok after) is led later = later after led
stops_by n begin move moves k before end (Err other) is led later = absurd cc

stops : (n : ℕ) (begin : World) (moves : List WorldMove) (k : ℕ) (end : WorldEnd) → IsStop n begin moves k end
    → run_moves n begin moves ≡ Err end
stops n begin [] k end is = absurd (let there = is.there in cc)
stops n begin (move ∷ moves) zero end is =
    let same : begin ≡ is.before = (let led = is.led in cc) in
    let first : move ≡ is.move = (let there = is.there in cc) in
    ap (λ (r : Result World WorldEnd). moves_on r (λ after. run_moves (n + 1) after moves))
    (ap (λ (w : World). step n w move) same ∙ (ap (step n is.before) first
    ∙ subst (λ (m : ℕ). step m is.before is.move ≡ Err end) (omega arith) is.refused))
stops n begin (move ∷ moves) (suc k) end is =
    stops_by n begin move moves k is.before end (step n begin move) refl is.led
    (λ after later. stops (n + 1) after moves k end (record {
      before = is.before;
      led = later;
      move = is.move;
      there = is.there;
      refused = subst (λ (m : ℕ). step m is.before is.move ≡ Err end) (omega arith) is.refused;
    }))

-- ---- why it is not allowed

-- a datagram that goes the other way is not there
abbrev pub heard_if : ℕ → Bool → Bool → List ℕ → (List ℕ → World) → Result World WorldEnd
heard_if m way alive bytes hears =
    when_taken (cond way (cond alive (Ok bytes) (Err (TooOld m))) (Err (NotThere m))) hears

wrong_way : (m at : ℕ) (way alive : Bool) (bytes : List ℕ) (hears : List ℕ → World)
    → heard_if m way alive bytes hears ≡ Err (NotThere at) → (m ≡ at) × (way ≡ false)
wrong_way m at true true bytes hears is = absurd cc
wrong_way m at true false bytes hears is = absurd cc
wrong_way m at false alive bytes hears is = (cc, refl)

long_ago : (m at : ℕ) (way alive : Bool) (bytes : List ℕ) (hears : List ℕ → World)
    → heard_if m way alive bytes hears ≡ Err (TooOld at) → (m ≡ at) × (way ≡ true) × (alive ≡ false)
long_ago m at true true bytes hears is = absurd cc
long_ago m at true false bytes hears is = (cc, refl, refl)
long_ago m at false alive bytes hears is = absurd cc

not_heard : (m at : ℕ) (hearer : Direction) (w : World) (place : ℕ) (hears : List ℕ → World) (r : Option Datagram)
    → slice_get w.air place ≡ r → when_taken (taken_datagram m (length w.hub.sent) hearer r) hears ≡ Err (NotThere at)
    → (m ≡ at) × (¬ IsThere hearer w place)
not_heard m at hearer w place hears None there is = (cc, λ datagram. absurd (let some = datagram.there in cc))
not_heard m at hearer w place hears (Some d) there is =
    let why = wrong_way m at (goes_to hearer d.direction) (is_alive (length w.hub.sent) d) d.bytes hears is in (
      why.0,
      λ datagram.
          let same : d ≡ record { direction = hearer; bytes = datagram.bytes; birth = datagram.birth } =
          (let some = datagram.there in cc) in
          let way : goes_to hearer d.direction ≡ true = ap (λ (x : Datagram). goes_to hearer x.direction) same
          ∙ goes_self hearer in
          absurd (let other = why.1 in cc),
    )

too_old : (m at : ℕ) (hearer : Direction) (w : World) (place : ℕ) (hears : List ℕ → World) (r : Option Datagram)
    → slice_get w.air place ≡ r → when_taken (taken_datagram m (length w.hub.sent) hearer r) hears ≡ Err (TooOld at)
    → (m ≡ at) × IsTooOldThere hearer w place
too_old m at hearer w place hears None there is = absurd cc
too_old m at hearer w place hears (Some d) there is =
    let why = long_ago m at (goes_to hearer d.direction) (is_alive (length w.hub.sent) d) d.bytes hears is in (
      why.0,
      record {
        datagram = record {
          bytes = d.bytes;
          birth = d.birth;
          there = there ∙ ap (λ (way : Direction). Some (record { direction = way; bytes = d.bytes; birth = d.birth }))
              (same_way hearer d.direction why.1);
        };
        too_old = let late = leb-false (length w.hub.sent - d.birth) LIFETIME why.2 in omega (arith, late);
      },
    )

quiet_unnoticed : (m at : ℕ) (waiting : Bool) (after : World)
    → cond waiting (Ok after) (Err (NotThere m)) ≡ Err (NotThere at) → (m ≡ at) × (waiting ≡ false)
quiet_unnoticed m at true after is = absurd cc
quiet_unnoticed m at false after is = (cc, refl)

quiet_young : (m at : ℕ) (waiting : Bool) (after : World)
    → cond waiting (Ok after) (Err (NotThere m)) ≡ Err (TooOld at) → ⊥
quiet_young m at true after is = cc
quiet_young m at false after is = cc

why_not_there : (m at : ℕ) (w : World) (move : WorldMove) → step m w move ≡ Err (NotThere at)
    → (m ≡ at) × IsNotThere w move
why_not_there m at w (Offer tag body) is = absurd cc
why_not_there m at w Quiet is = quiet_unnoticed m at (is_waiting w.hub) (go_on w (hear_quiet w.hub)) is
why_not_there m at w (HubHears place) is =
    not_heard m at ToHub w place (hub_hears w) (slice_get w.air place) refl is
why_not_there m at w (BoardHears place) is =
    not_heard m at ToBoard w place (board_hears w) (slice_get w.air place) refl is

why_too_old : (m at : ℕ) (w : World) (move : WorldMove) → step m w move ≡ Err (TooOld at)
    → (m ≡ at) × IsTooOld w move
why_too_old m at w (Offer tag body) is = absurd cc
why_too_old m at w Quiet is = absurd (quiet_young m at (is_waiting w.hub) (go_on w (hear_quiet w.hub)) is)
why_too_old m at w (HubHears place) is = too_old m at ToHub w place (hub_hears w) (slice_get w.air place) refl is
why_too_old m at w (BoardHears place) is = too_old m at ToBoard w place (board_hears w) (slice_get w.air place) refl is

-- ---- and the other way round

other_way : (hearer : Direction) (w : World) (place : ℕ) (d : Datagram) (way : Bool) → goes_to hearer d.direction ≡ way
    → slice_get w.air place ≡ Some d → (¬ IsThere hearer w place) → goes_to hearer d.direction ≡ false
other_way hearer w place d true is there none = absurd (none (record {
  bytes = d.bytes;
  birth = d.birth;
  there = there ∙ ap (λ (way : Direction). Some (record { direction = way; bytes = d.bytes; birth = d.birth }))
      (same_way hearer d.direction is);
}))
other_way hearer w place d false is there none = is

none_there : (m : ℕ) (hearer : Direction) (w : World) (place : ℕ) (hears : List ℕ → World) (r : Option Datagram)
    → slice_get w.air place ≡ r → (¬ IsThere hearer w place)
    → when_taken (taken_datagram m (length w.hub.sent) hearer r) hears ≡ Err (NotThere m)
none_there m hearer w place hears None there none = refl
none_there m hearer w place hears (Some d) there none =
    ap (λ (way : Bool). heard_if m way (is_alive (length w.hub.sent) d) d.bytes hears)
    (other_way hearer w place d (goes_to hearer d.direction) refl there none)

old_there : (m : ℕ) (hearer : Direction) (w : World) (place : ℕ) (hears : List ℕ → World)
    → IsTooOldThere hearer w place
    → when_taken (taken_datagram m (length w.hub.sent) hearer (slice_get w.air place)) hears ≡ Err (TooOld m)
old_there m hearer w place hears old =
    let sent = length w.hub.sent in
    let d : Datagram = record { direction = hearer; bytes = old.datagram.bytes; birth = old.datagram.birth } in
    let late : is_alive sent d ≡ false = lt-leb (sent - d.birth) LIFETIME (omega (arith, old.too_old)) in
    ap (λ (r : Option Datagram). when_taken (taken_datagram m sent hearer r) hears) old.datagram.there
    ∙ (ap (λ (way : Bool). heard_if m way (is_alive sent d) d.bytes hears) (goes_self hearer)
    ∙ ap (λ (alive : Bool). heard_if m true alive d.bytes hears) late)

not_there_then : (m : ℕ) (w : World) (move : WorldMove) → IsNotThere w move → step m w move ≡ Err (NotThere m)
not_there_then m w (Offer tag body) why = absurd why
not_there_then m w Quiet why = ap (λ (b : Bool). cond b (Ok (go_on w (hear_quiet w.hub))) (Err (NotThere m))) why
not_there_then m w (HubHears place) why = none_there m ToHub w place (hub_hears w) (slice_get w.air place) refl why
not_there_then m w (BoardHears place) why =
    none_there m ToBoard w place (board_hears w) (slice_get w.air place) refl why

too_old_then : (m : ℕ) (w : World) (move : WorldMove) → IsTooOld w move → step m w move ≡ Err (TooOld m)
too_old_then m w (Offer tag body) why = absurd why
too_old_then m w Quiet why = absurd why
too_old_then m w (HubHears place) why = old_there m ToHub w place (hub_hears w) why
too_old_then m w (BoardHears place) why = old_there m ToBoard w place (board_hears w) why

-- ---- together

-- what a stop at this number says of the reason
stops_at : (begin : World) (moves : List WorldMove) (at : ℕ) (end : WorldEnd) (reason : World → WorldMove → Type 0)
    → ((m : ℕ) (w : World) (move : WorldMove) → step m w move ≡ Err end → (m ≡ at) × reason w move)
    → run_moves 0 begin moves ≡ Err end → StopsAt begin moves at reason
stops_at begin moves at end reason why ran =
    let stop = stop_of 0 begin moves end ran in
    let because = why (0 + stop.at) stop.is.before stop.is.move stop.is.refused in
    let here : stop.at ≡ at = omega (arith, because.0) in
    record {
      before = stop.is.before;
      led = subst (λ (k : ℕ). run_moves 0 begin (take k moves) ≡ Ok stop.is.before) here stop.is.led;
      move = stop.is.move;
      there = subst (λ (k : ℕ). slice_get moves k ≡ Some stop.is.move) here stop.is.there;
      why = because.1;
    }

pub stops_not_there : (begin : World) (moves : List WorldMove) (at : ℕ) → run_moves 0 begin moves ≡ Err (NotThere at)
    → StopsAt begin moves at IsNotThere
stops_not_there begin moves at =
    stops_at begin moves at (NotThere at) IsNotThere (λ m w move. why_not_there m at w move)

pub stops_too_old : (begin : World) (moves : List WorldMove) (at : ℕ) → run_moves 0 begin moves ≡ Err (TooOld at)
    → StopsAt begin moves at IsTooOld
stops_too_old begin moves at = stops_at begin moves at (TooOld at) IsTooOld (λ m w move. why_too_old m at w move)

stopped : (begin : World) (moves : List WorldMove) (at : ℕ) (end : WorldEnd) (reason : World → WorldMove → Type 0)
    → (stop : StopsAt begin moves at reason) → step at stop.before stop.move ≡ Err end
    → run_moves 0 begin moves ≡ Err end
stopped begin moves at end reason stop refused = stops 0 begin moves at end (record {
  before = stop.before;
  led = stop.led;
  move = stop.move;
  there = stop.there;
  refused = subst (λ (m : ℕ). step m stop.before stop.move ≡ Err end) (omega arith) refused;
})

pub stopped_not_there : (begin : World) (moves : List WorldMove) (at : ℕ) → StopsAt begin moves at IsNotThere
    → run_moves 0 begin moves ≡ Err (NotThere at)
stopped_not_there begin moves at stop = stopped begin moves at (NotThere at) IsNotThere stop
    (not_there_then at stop.before stop.move stop.why)

pub stopped_too_old : (begin : World) (moves : List WorldMove) (at : ℕ) → StopsAt begin moves at IsTooOld
    → run_moves 0 begin moves ≡ Err (TooOld at)
stopped_too_old begin moves at stop = stopped begin moves at (TooOld at) IsTooOld stop
    (too_old_then at stop.before stop.move stop.why)
