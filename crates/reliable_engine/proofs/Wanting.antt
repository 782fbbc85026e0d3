-- What is wanted of the open places in slots.
use Rattle.std.proofs.Common.{◌≡◌, ◌≤◌, ◌<◌, ℕ, ◌+◌, ◌-◌, true, false, List, [], ◌∷◌, ◌++◌, Option, Some, None, refl}
use Rattle.std.proofs.Common.{sym, ap}
use Rattle.std.proofs.Common.{◌∙◌, arith}
use Rattle.std.proofs.lemmas.List.{append-nil}
use Rattle.packet_ids.specs.Identifier.{identifier_at}
use Rattle.world_model.specs.declared.offered.OpenPlace.{OpenPlace}
use Rattle.world_model.specs.declared.sending.Sending.{Sending}
use Rattle.world_model.specs.declared.sending.Sending.TheVariants as sends
use Rattle.world_model.specs.Hub.{places}
use Rattle.world_model.specs.Sends.{Wanted, first_wanted}
use Rattle.world_model.proofs.Hubs.{IsWantedOr, wanted_is}
use Rattle.reliable_engine.specs.declared.slots.Flags.{Flags}
use Rattle.reliable_engine.specs.declared.slots.TheConstants.{SLOTS}
use Rattle.reliable_engine.specs.Slots.{EndsAt, IsPut, open_at, open_from, put_before}
use Rattle.reliable_engine.specs.Steps.{places_wanted, prepend}
use Rattle.reliable_engine.proofs.InSlots.{end_from, none_behind, place_at, put_again, rest_is, up_to_next}
use Rattle.reliable_engine.proofs.Steps.{IsQuietUpTo, quiet_all, quiet_control, quiet_next, quiet_resend}

-- nothing is wanted of the places below one
abbrev pub IsQuietTo : ℕ → ℕ → ℕ → List (Option Flags) → Type 0
IsQuietTo first low place slots = IsQuietUpTo first (open_from slots low SLOTS) (open_from slots low (place - low))
    (open_from slots place (low + SLOTS - place))

pub quiet_start : (first low : ℕ) (slots : List (Option Flags)) → IsQuietTo first low low slots
quiet_start first low slots =
    let all : low + 16 - low ≡ 16 = omega arith in
    let none = end_from slots low low (omega arith) in
    rw (none, all) refl

pub quiet_at : (first low place : ℕ) (slots : List (Option Flags)) (o : Option OpenPlace) → place < low + SLOTS
    → open_at slots place ≡ o → IsQuietTo first low place slots
    → IsQuietUpTo first (open_from slots low SLOTS) (open_from slots low (place - low))
    (put_before o (open_from slots (place + 1) (low + SLOTS - (place + 1))))
quiet_at first low place slots o below e past =
    past
    ∙ ap (λ (rest : List OpenPlace). prepend (open_from slots low (place - low)) (first_wanted first rest))
    (rest_is slots place (low + SLOTS) o below e)

front_is : (slots : List (Option Flags)) (low place : ℕ) (o : Option OpenPlace) → low ≤ place → open_at slots place ≡ o
    → open_from slots low (place + 1 - low) ≡ open_from slots low (place - low) ++ put_before o []
front_is slots low place o from e =
    up_to_next slots low place from
    ∙ ap (λ (x : Option OpenPlace). open_from slots low (place - low) ++ put_before x []) e

pub quiet_closed : (first low place : ℕ) (slots : List (Option Flags)) → low ≤ place → place < low + SLOTS
    → open_at slots place ≡ None → IsQuietTo first low place slots → IsQuietTo first low (place + 1) slots
quiet_closed first low place slots from below none past =
    let front = open_from slots low (place - low) in
    let rest = open_from slots (place + 1) (low + SLOTS - (place + 1)) in
    quiet_at first low place slots None below none past
    ∙ ap (λ (xs : List OpenPlace). prepend xs (first_wanted first rest))
    (sym (front_is slots low place None from none ∙ append-nil front))

pub quiet_open : (first low place : ℕ) (slots : List (Option Flags)) (o : OpenPlace) → low ≤ place → place < low + SLOTS
    → open_at slots place ≡ Some o → o.resend ≡ false → o.control ≡ false → IsQuietTo first low place slots
    → IsQuietTo first low (place + 1) slots
quiet_open first low place slots o from below there no_resend no_control past =
    let front = open_from slots low (place - low) in
    let rest = open_from slots (place + 1) (low + SLOTS - (place + 1)) in
    quiet_next first (open_from slots low SLOTS) front rest o no_resend no_control
    (quiet_at first low place slots (Some o) below there past)
    ∙ ap (λ (xs : List OpenPlace). prepend xs (first_wanted first rest)) (sym (front_is slots low place (Some o) from there))

-- what is wanted of a place is taken
pub record IsTaken (first low : ℕ) (old new : List (Option Flags)) (send : Sending) : Type 0 where
  pub open_places : List OpenPlace
  pub is : first_wanted first (open_from old low SLOTS) ≡ Some (record { send = send; open_places = open_places })
  pub after : open_from new low SLOTS ≡ open_places

pub take_resend : (first low place : ℕ) (old new : List (Option Flags)) (o : OpenPlace) → low ≤ place
    → place < low + SLOTS → open_at old place ≡ Some o → o.resend ≡ true → IsQuietTo first low place old
    → IsPut o.place (Some (record o { resend = false })) old new
    → IsTaken first low old new (sends.Resend (identifier_at first place))
take_resend first low place old new o from below there wants past put =
    let front = open_from old low (place - low) in
    let rest = open_from old (place + 1) (low + SLOTS - (place + 1)) in
    record {
      open_places = front ++ record o { resend = false } ∷ rest;
      is = quiet_resend first place (open_from old low SLOTS) front rest o (place_at old place o there) wants
          (quiet_at first low place old (Some o) below there past);
      after = put_again old new low place o (record o { resend = false }) from below there put;
    }

pub take_control : (first low place : ℕ) (old new : List (Option Flags)) (o : OpenPlace) → low ≤ place
    → place < low + SLOTS → open_at old place ≡ Some o → o.resend ≡ false → o.control ≡ true
    → IsQuietTo first low place old → IsPut o.place (Some (record o { control = false })) old new
    → IsTaken first low old new (sends.Control place (identifier_at first place))
take_control first low place old new o from below there no_resend wants past put =
    let front = open_from old low (place - low) in
    let rest = open_from old (place + 1) (low + SLOTS - (place + 1)) in
    record {
      open_places = front ++ record o { control = false } ∷ rest;
      is = quiet_control first place (open_from old low SLOTS) front rest o (place_at old place o there) no_resend
          wants (quiet_at first low place old (Some o) below there past);
      after = put_again old new low place o (record o { control = false }) from below there put;
    }

pub take_none : (first low end place : ℕ) (slots : List (Option Flags)) → EndsAt low end (open_from slots low SLOTS)
    → end ≤ place → IsQuietTo first low place slots → first_wanted first (open_from slots low SLOTS) ≡ None
take_none first low end place slots ends behind past =
    let front = open_from slots low (place - low) in
    quiet_all first (open_from slots low SLOTS) front
    (past
    ∙ ap (λ (rest : List OpenPlace). prepend front (first_wanted first rest)) (none_behind slots low end place ends behind))

same_places : (first : ℕ) (os : List OpenPlace) (r : Option Wanted) → IsWantedOr first os r
    → places (places_wanted os r) ≡ places os
same_places first os None w = refl
same_places first os (Some x) w = w.same

pub wanted_places : (first : ℕ) (os : List OpenPlace) → places (places_wanted os (first_wanted first os)) ≡ places os
wanted_places first os = same_places first os (first_wanted first os) (wanted_is first os)
