-- What a datagram at the front of the queue is: one for the hub, or one that the board hears, or neither.
use Rattle.std.proofs.Common.{◌≡◌, ℕ, zero, suc, ◌+◌, ◌≤◌, Bool, true, false, cond, List, [], ◌∷◌, length}
use Rattle.std.proofs.Common.{Option, Some, None, refl, sym, ap, subst, arith, length-append}
use Rattle.std.specs.Prelude.{is_some, IfNone}
use Rattle.std.specs.List.{AllByRecursion, slice_get}
use Rattle.ipb_base.proofs.AllLemmas.{AllByRecursion-append}
use Rattle.board_node.specs.Answers.{answer_bytes}
use Rattle.world_model.specs.declared.datagram.Datagram.{Datagram}
use Rattle.world_model.specs.declared.datagram.Direction.{Direction}
use Rattle.world_model.specs.declared.datagram.Direction.TheVariants.{ToBoard, ToHub}
use Rattle.world_model.specs.Air.{goes_to, is_alive}
use Rattle.world_model.specs.Board.{hear}
use Rattle.world_model.specs.World.{air_after_answer}
use Rattle.world_model.specs.Links.{IsHandedAt, Told, first_sends, heard_by, heard_on}
use Rattle.links.specs.declared.link.TheConstants.{MAX_DATAGRAM}
use Rattle.lossy_network.specs.Network.{hub_bytes}
use Rattle.lossy_network.specs.Inside.{IsShort}

-- ---- tests

pub some_if : {A : Type 0} (b : Bool) (r : Option A) (x : A) → cond b r None ≡ Some x → (b ≡ true) × (r ≡ Some x)
some_if true r x e = (refl, e)
some_if false r x e = absurd cc

pub when_none : {A : Type 0} (r : Option A) (P : Type 0) → is_some r ≡ false → IfNone r P → P
when_none None P none is = is
when_none (Some x) P none is = absurd cc

pub all_at : {T : Type 0} (P : T → Type 0) (xs : List T) (i : ℕ) (x : T) → AllByRecursion P xs
    → slice_get xs i ≡ Some x → P x
all_at P [] i x all e = absurd cc
all_at P (y ∷ ys) zero x all e = let same : y ≡ x = cc in subst P same all.0
all_at P (y ∷ ys) (suc i) x all e = all_at P ys i x all.1 e

-- ---- one for the hub

pub hub_bytes_some : (told : Told) (bytes : List ℕ) (place : ℕ) → IsHandedAt told bytes place
    → hub_bytes told (slice_get told.air place) ≡ Some bytes
hub_bytes_some told bytes place is = rw is.there (rw is.alive refl)

alive_or_none : (told : Told) (bytes : List ℕ) (birth : ℕ) (b : Bool)
    → is_alive (first_sends told) (record { direction = ToHub; bytes = bytes; birth = birth }) ≡ b
    → (b ≡ true → ⊥) → cond b (Some bytes) None ≡ None
alive_or_none told bytes birth true is none = absurd (none refl)
alive_or_none told bytes birth false is none = refl

none_at : (told : Told) (place : ℕ) (direction : Direction) (bytes : List ℕ) (birth : ℕ)
    → slice_get told.air place ≡ Some (record { direction = direction; bytes = bytes; birth = birth })
    → ((other : List ℕ) → ¬ IsHandedAt told other place)
    → hub_bytes told (Some (record { direction = direction; bytes = bytes; birth = birth })) ≡ None
none_at told place ToBoard bytes birth there none = refl
none_at told place ToHub bytes birth there none = alive_or_none told bytes birth _ refl
    (λ alive. none bytes (record { birth = birth; there = there; alive = alive }))

none_for : (told : Told) (place : ℕ) (r : Option Datagram) → slice_get told.air place ≡ r
    → ((other : List ℕ) → ¬ IsHandedAt told other place) → hub_bytes told r ≡ None
none_for told place None there none = refl
none_for told place (Some d) there none = none_at told place d.direction d.bytes d.birth there none

pub hub_bytes_none : (told : Told) (place : ℕ) → ((bytes : List ℕ) → ¬ IsHandedAt told bytes place)
    → hub_bytes told (slice_get told.air place) ≡ None
hub_bytes_none told place none = none_for told place (slice_get told.air place) refl none

-- ---- one that the board hears

pub record IsHeardOn (told new : Told) (r : Option Datagram) : Type 0 where
  pub datagram : Datagram
  pub there : r ≡ Some datagram
  pub for_board : goes_to ToBoard datagram.direction ≡ true
  pub alive : is_alive (first_sends told) datagram ≡ true
  pub heard : new ≡ heard_on told datagram.bytes

pub heard_on_is : (told new : Told) (r : Option Datagram) → heard_by told r ≡ Some new → IsHeardOn told new r
heard_on_is told new None e = absurd cc
heard_on_is told new (Some d) e =
    let one = some_if (goes_to ToBoard d.direction) (cond (is_alive (first_sends told) d) (Some (heard_on told d.bytes))
    None) new e in
    let two = some_if (is_alive (first_sends told) d) (Some (heard_on told d.bytes)) new one.1 in
    record { datagram = d; there = refl; for_board = one.0; alive = two.0; heard = (let same = two.1 in cc) }

answer_grows : (birth : ℕ) (r : Option (List ℕ)) → length (air_after_answer birth r) ≤ 1
answer_grows birth None = omega arith
answer_grows birth (Some bytes) = omega arith

answer_short : (birth : ℕ) (r : Option (List ℕ)) → length (answer_bytes r) ≤ MAX_DATAGRAM
    → AllByRecursion IsShort (air_after_answer birth r)
answer_short birth None short = tt
answer_short birth (Some bytes) short = (short, tt)

pub air_grows : (told new : Told) (r : Option Datagram) → heard_by told r ≡ Some new
    → length new.air ≤ length told.air + 1
air_grows told new r e =
    let on = heard_on_is told new r e in
    let more = air_after_answer (first_sends told) (hear told.board on.datagram.bytes).answer in
    let size = ap (λ (t : Told). length t.air) on.heard in
    omega (
      arith,
      size,
      length-append told.air more,
      answer_grows (first_sends told) (hear told.board on.datagram.bytes).answer,
    )

pub air_longer : (told new : Told) (r : Option Datagram) → heard_by told r ≡ Some new
    → length told.air ≤ length new.air
air_longer told new r e =
    let on = heard_on_is told new r e in
    let more = air_after_answer (first_sends told) (hear told.board on.datagram.bytes).answer in
    let size = ap (λ (t : Told). length t.air) on.heard in
    omega (arith, size, length-append told.air more)

pub air_short : (told new : Told) (r : Option Datagram)
    → ((datagram : List ℕ) → length (answer_bytes (hear told.board datagram).answer) ≤ MAX_DATAGRAM)
    → AllByRecursion IsShort told.air → heard_by told r ≡ Some new → AllByRecursion IsShort new.air
air_short told new r fits short e =
    let on = heard_on_is told new r e in
    let answer = (hear told.board on.datagram.bytes).answer in
    subst (λ (t : Told). AllByRecursion IsShort t.air) (sym on.heard)
    (AllByRecursion-append IsShort told.air (air_after_answer (first_sends told) answer) short
    (answer_short (first_sends told) answer (fits on.datagram.bytes)))
