-- The passes of seats and of the master.
use Rattle.std.proofs.Common.{◌≡◌, ◌+◌, ℕ, suc, List, [], ◌∷◌, length, map, refl, sym, ap, ◌∙◌, subst}
use Rattle.std.specs.List.{AllByRecursion}
use Rattle.std.proofs.lemmas.List.{length-map}
use Rattle.turn_pass.specs.Pass.{Knowledge, PassState, newcomer, one_more_made, taking_in}
use Rattle.hub_multiplexer.specs.Ends.{HasAllJoined, IsLast, IsMaster, IsRoomPass}
use Rattle.hub_multiplexer.specs.Seats.{IsFirst, IsIdle, after_join, after_split, knows_after_join, knows_of, split_off}
use Rattle.hub_multiplexer.specs.Seats.{turns_of}

-- passes that were split off have the next number
pub idle_split : (made : ℕ) (passes : List PassState) → AllByRecursion (IsFirst made) passes
    → AllByRecursion (IsIdle made) (map split_off passes)
idle_split made [] a = tt
idle_split made (p ∷ ps) a = (
  record { holds_nothing = a.0.idle.holds_nothing; has_number = a.0.has_made },
  idle_split
      made ps a.1,
)

first_split : (made : ℕ) (passes : List PassState) → AllByRecursion (IsFirst made) passes
    → AllByRecursion (IsFirst (made + 1)) (map after_split passes)
first_split made [] a = tt
first_split made (p ∷ ps) a = (
  record {
    idle = record {
      holds_nothing = a.0.idle.holds_nothing;
      has_number = a.0.idle.has_number;
    };
    has_made = ap (λ n. n + 1) a.0.has_made;
  },
  first_split made ps a.1,
)

none_split : (passes : List PassState) → AllByRecursion (λ (p : PassState). p.knows.mine ≡ []) passes
    → AllByRecursion (λ (p : PassState). p.knows.mine ≡ []) (map after_split passes)
none_split [] a = tt
none_split (p ∷ ps) a = (a.0, none_split ps a.1)

pub master_split : (seats : ℕ) (passes : List PassState) (room : PassState) → IsMaster seats passes room
    → IsMaster (seats + 1) (map after_split passes) room
master_split seats passes room m = record {
  firsts = first_split (seats + 1) passes m.firsts;
  no_entries = none_split passes m.no_entries;
  room_fits = subst (λ n. IsRoomPass n room)
      (sym (length-map passes after_split)) m.room_fits;
}

pub turns_split_off : (passes : List PassState) → turns_of (map split_off passes) ≡ turns_of passes
turns_split_off [] = refl
turns_split_off (p ∷ ps) = ap (λ l. p.turn ∷ l) (turns_split_off ps)

pub turns_after_split : (passes : List PassState) → turns_of (map after_split passes) ≡ turns_of passes
turns_after_split [] = refl
turns_after_split (p ∷ ps) = ap (λ l. p.turn ∷ l) (turns_after_split ps)

pub knows_split_off : (passes : List PassState) → knows_of (map split_off passes) ≡ map newcomer (knows_of passes)
knows_split_off [] = refl
knows_split_off (p ∷ ps) = ap (λ l. newcomer p.knows ∷ l) (knows_split_off ps)

pub knows_after_split : (passes : List PassState)
    → knows_of (map after_split passes) ≡ map one_more_made (knows_of passes)
knows_after_split [] = refl
knows_after_split (p ∷ ps) = ap (λ l. one_more_made p.knows ∷ l) (knows_after_split ps)

-- after a seat was taken in
first_joined : (made : ℕ) (passes others : List PassState) → AllByRecursion (IsFirst made) passes
    → AllByRecursion (IsFirst made) (after_join passes others)
first_joined made [] others a = tt
first_joined made (p ∷ ps) [] a = a
first_joined made (p ∷ ps) (q ∷ qs) a = (
  record {
    idle = record { holds_nothing = a.0.idle.holds_nothing; has_number = a.0.idle.has_number };
    has_made = a.0.has_made;
  },
  first_joined made ps qs a.1,
)

none_joined : (passes others : List PassState) → AllByRecursion (λ (p : PassState). p.knows.mine ≡ []) passes
    → AllByRecursion (λ (p : PassState). p.knows.mine ≡ []) (after_join passes others)
none_joined [] others a = tt
none_joined (p ∷ ps) [] a = a
none_joined (p ∷ ps) (q ∷ qs) a = (a.0, none_joined ps qs a.1)

length_joined : (passes others : List PassState) → length (after_join passes others) ≡ length passes
length_joined [] others = refl
length_joined (p ∷ ps) [] = refl
length_joined (p ∷ ps) (q ∷ qs) = ap suc (length_joined ps qs)

pub master_joined : (seats : ℕ) (passes others : List PassState) (room : PassState) → IsMaster seats passes room
    → IsMaster seats (after_join passes others) room
master_joined seats passes others room m = record {
  firsts = first_joined (seats + 1) passes others m.firsts;
  no_entries = none_joined passes others m.no_entries;
  room_fits = subst (λ n. IsRoomPass n room)
      (sym (length_joined passes others)) m.room_fits;
}

pub turns_after_join : (passes others : List PassState) → turns_of (after_join passes others) ≡ turns_of passes
turns_after_join [] others = refl
turns_after_join (p ∷ ps) [] = refl
turns_after_join (p ∷ ps) (q ∷ qs) = ap (λ l. p.turn ∷ l) (turns_after_join ps qs)

pub knows_joined : (passes others : List PassState)
    → knows_of (after_join passes others) ≡ knows_after_join (knows_of passes) (knows_of others)
knows_joined [] others = refl
knows_joined (p ∷ ps) [] = refl
knows_joined (p ∷ ps) (q ∷ qs) = ap (λ l. taking_in p.knows q.knows ∷ l) (knows_joined ps qs)

-- what the passes of a client know has its number, and there is something known of each turn
pub numbers_idle : (client : ℕ) (passes : List PassState) → AllByRecursion (IsIdle client) passes
    → AllByRecursion (λ (k : Knowledge). k.number ≡ client) (knows_of passes)
numbers_idle client [] a = tt
numbers_idle client (p ∷ ps) a = (a.0.has_number, numbers_idle client ps a.1)

pub as_many_known : (passes : List PassState) → length (knows_of passes) ≡ length (turns_of passes)
as_many_known passes = length-map passes (λ (p : PassState). p.knows)
    ∙ sym (length-map passes (λ (p : PassState). p.turn))

-- at the end
pub last_of : (made : ℕ) (passes : List PassState) → AllByRecursion (IsFirst made) passes
    → AllByRecursion (λ (p : PassState). p.knows.mine ≡ []) passes → AllByRecursion HasAllJoined (knows_of passes)
    → AllByRecursion IsLast passes
last_of made [] a b c = tt
last_of made (p ∷ ps) a b c = (
  record { idle = a.0.idle; no_entry = b.0; all_joined = c.0 },
  last_of made ps a.1 b.1
      c.1,
)
