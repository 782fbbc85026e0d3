-- What is wanted of open places, one after another.
use Rattle.std.proofs.Common.{◌≡◌, ℕ, true, false, List, [], ◌∷◌, ◌++◌, Option}
use Rattle.std.proofs.Common.{Some, None}
use Rattle.std.proofs.Common.{refl, sym, ap, ◌∙◌}
use Rattle.packet_ids.specs.Identifier.{identifier_at}
use Rattle.world_model.specs.declared.offered.OpenPlace.{OpenPlace}
use Rattle.world_model.specs.declared.sending.Sending.TheVariants as sends
use Rattle.world_model.specs.Sends.{Wanted, after_open, first_wanted}
use Rattle.reliable_engine.specs.Steps.{prepend}

-- ---- what is wanted

prepend_some : (front : List OpenPlace) (w : Wanted)
    → prepend front (Some w) ≡ Some (record { send = w.send; open_places = front ++ w.open_places })
prepend_some [] w = refl
prepend_some (o ∷ os) w = ap (after_open o) (prepend_some os w)

prepend_none : (front : List OpenPlace) → prepend front None ≡ None
prepend_none [] = refl
prepend_none (o ∷ os) = ap (after_open o) (prepend_none os)

prepend_push : (front : List OpenPlace) (o : OpenPlace) (r : Option Wanted)
    → prepend (front ++ o ∷ []) r ≡ prepend front (after_open o r)
prepend_push [] o r = refl
prepend_push (x ∷ xs) o r = ap (after_open x) (prepend_push xs o r)

-- a re-send request, and a control packet, of the place at the front
abbrev pub resend_of : ℕ → OpenPlace → List OpenPlace → Wanted
resend_of first o os = record {
  send = sends.Resend (identifier_at first o.place);
  open_places = record o { resend = false } ∷ os;
}

abbrev pub control_of : ℕ → OpenPlace → List OpenPlace → Wanted
control_of first o os = record {
  send = sends.Control o.place (identifier_at first o.place);
  open_places = record o { control = false } ∷ os;
}

pub here_resend : (first : ℕ) (o : OpenPlace) (os : List OpenPlace) → o.resend ≡ true
    → first_wanted first (o ∷ os) ≡ Some (resend_of first o os)
here_resend first o os e = rw e refl

pub here_control : (first : ℕ) (o : OpenPlace) (os : List OpenPlace) → o.resend ≡ false → o.control ≡ true
    → first_wanted first (o ∷ os) ≡ Some (control_of first o os)
here_control first o os e f = rw (e, f) refl

pub here_none : (first : ℕ) (o : OpenPlace) (os : List OpenPlace) → o.resend ≡ false → o.control ≡ false
    → first_wanted first (o ∷ os) ≡ after_open o (first_wanted first os)
here_none first o os e f = rw (e, f) refl

-- nothing is wanted of the places at the front, so what is wanted is wanted of the rest
abbrev pub IsQuietUpTo : ℕ → List OpenPlace → List OpenPlace → List OpenPlace → Type 0
IsQuietUpTo first os front rest = first_wanted first os ≡ prepend front (first_wanted first rest)

pub quiet_resend : (first place : ℕ) (os front rest : List OpenPlace) (o : OpenPlace) → o.place ≡ place
    → o.resend ≡ true → IsQuietUpTo first os front (o ∷ rest)
    → first_wanted first os ≡ Some (record {
      send = sends.Resend (identifier_at first place);
      open_places = front ++ record o { resend = false } ∷ rest;
    })
quiet_resend first place os front rest o here e past =
    past
    ∙ (ap (prepend front) (here_resend first o rest e)
    ∙ (prepend_some front (resend_of first o rest)
    ∙ ap (λ (n : ℕ). Some (record {
      send = sends.Resend (identifier_at first n);
      open_places = front ++ record o { resend = false } ∷ rest;
    })) here))

pub quiet_control : (first place : ℕ) (os front rest : List OpenPlace) (o : OpenPlace) → o.place ≡ place
    → o.resend ≡ false → o.control ≡ true → IsQuietUpTo first os front (o ∷ rest)
    → first_wanted first os ≡ Some (record {
      send = sends.Control place (identifier_at first place);
      open_places = front ++ record o { control = false } ∷ rest;
    })
quiet_control first place os front rest o here e f past =
    past
    ∙ (ap (prepend front) (here_control first o rest e f)
    ∙ (prepend_some front (control_of first o rest)
    ∙ ap (λ (n : ℕ). Some (record {
      send = sends.Control n (identifier_at first n);
      open_places = front ++ record o { control = false } ∷ rest;
    })) here))

pub quiet_next : (first : ℕ) (os front rest : List OpenPlace) (o : OpenPlace) → o.resend ≡ false → o.control ≡ false
    → IsQuietUpTo first os front (o ∷ rest) → IsQuietUpTo first os (front ++ o ∷ []) rest
quiet_next first os front rest o e f past =
    past
    ∙ (ap (prepend front) (here_none first o rest e f)
    ∙ sym (prepend_push front o (first_wanted first rest)))

pub quiet_all : (first : ℕ) (os front : List OpenPlace) → IsQuietUpTo first os front [] → first_wanted first os ≡ None
quiet_all first os front past = past ∙ prepend_none front
