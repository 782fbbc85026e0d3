-- What a board heard of the air in one receive.
use Rattle.std.proofs.Common.{◌≡◌, ℕ, zero, suc, ◌<◌, true, List, [], ◌∷◌, length}
use Rattle.std.proofs.Common.{Option, Some, None}
use Rattle.std.proofs.Common.{refl, sym, ap, ◌∙◌, arith, if◌then◌else◌}
use Rattle.std.specs.List.{Contains, slice_get, slice_index_or}
use Rattle.ipb_base.specs.Lists.{IsPrefix}
use Rattle.world_model.specs.declared.datagram.Datagram.{Datagram}
use Rattle.world_model.specs.declared.datagram.Direction.{Direction}
use Rattle.world_model.specs.declared.datagram.Direction.TheVariants as goes
use Rattle.world_model.specs.Air.{goes_to, is_alive}
use Rattle.world_model.specs.Links.{IsHeard, Told, first_sends, heard_by, heard_on, hears_all, then_told}
use Rattle.world_model.proofs.Lists.{either, get_front}

abbrev pub AirGrows : Type 0
AirGrows = (old new : Told) → IsHeard old new → IsPrefix {T = Datagram} old.air new.air

-- the board heard a datagram of the air, and then the others
pub record HeardFirst (t u : Told) (k : ℕ) (ks : List ℕ) : Type 0 where
  pub d : Datagram
  pub there : slice_get t.air k ≡ Some d
  pub to_board : d.direction ≡ goes.ToBoard
  pub here : heard_by t (slice_get t.air k) ≡ Some (heard_on t d.bytes)
  pub later : hears_all (heard_on t d.bytes) ks ≡ Some u

same_direction : (d : Direction) → goes_to goes.ToBoard d ≡ true → d ≡ goes.ToBoard
same_direction goes.ToBoard e = refl
same_direction goes.ToHub e = absurd (cc)

heard_at : (t u : Told) (k : ℕ) (ks : List ℕ) (r : Option Datagram) → slice_get t.air k ≡ r
    → then_told (heard_by t r) (λ after. hears_all after ks) ≡ Some u → HeardFirst t u k ks
heard_at t u k ks None there e = absurd (cc)
heard_at t u k ks (Some d) there e =
    let heard = Some (heard_on t d.bytes) in
    let alive_or = if is_alive (first_sends t) d then heard else None in
    either (λ (x : Option Told). heard_by t (Some d) ≡ x → then_told x (λ after. hears_all after ks) ≡ Some u
    → HeardFirst t u k ks) (goes_to goes.ToBoard d.direction) alive_or None
    (λ way. either (λ (x : Option Told). heard_by t (Some d) ≡ x
    → then_told x (λ after. hears_all after ks) ≡ Some u
    → HeardFirst t u k ks) (is_alive (first_sends t) d) heard None
    (λ alive h e. record {
      d = d;
      there = there;
      to_board = same_direction d.direction way;
      here = ap (heard_by t)
          there ∙ h;
      later = e;
    })
    (λ dead h e. absurd (cc)))
    (λ other h e. absurd (cc))
    refl e

pub heard_first : (t u : Told) (k : ℕ) (ks : List ℕ) → hears_all t (k ∷ ks) ≡ Some u → HeardFirst t u k ks
heard_first t u k ks e = heard_at t u k ks (slice_get t.air k) refl e

-- a datagram of the air that goes one way
pub record GoesThere (way : Direction) (air : List Datagram) (place : ℕ) : Type 0 where
  pub d : Datagram
  pub there : slice_get air place ≡ Some d
  pub direction : d.direction ≡ way

pub front_goes : (way : Direction) (front all : List Datagram) (place : ℕ) → IsPrefix front all
    → GoesThere way front place → GoesThere way all place
front_goes way front all place is at = record {
  d = at.d;
  there = ap (λ (l : List Datagram). slice_get l place) is.1 ∙ get_front front is.0 place at.d at.there;
  direction = at.direction;
}

-- what the board heard goes to the board
pub heard_goes : AirGrows → (t u : Told) (ks : List ℕ) (place j : ℕ) → hears_all t ks ≡ Some u
    → slice_get ks j ≡ Some place → GoesThere goes.ToBoard u.air place
heard_goes grows t u [] place j e at = absurd (cc)
heard_goes grows t u (k ∷ ks) place zero e at =
    let h = heard_first t u k ks e in
    let k_is : k ≡ place = cc in
    front_goes goes.ToBoard t.air u.air place (grows t u (record { places = k ∷ ks; heard = e }))
    (record { d = h.d; there = ap (slice_get t.air) (sym k_is) ∙ h.there; direction = h.to_board })
heard_goes grows t u (k ∷ ks) place (suc j) e at =
    let h = heard_first t u k ks e in heard_goes grows (heard_on t h.d.bytes) u ks place j h.later at

pub one_way : (air : List Datagram) (place : ℕ) → GoesThere goes.ToBoard air place → GoesThere goes.ToHub air place → ⊥
one_way air place a b =
    let same : Some a.d ≡ Some b.d = sym a.there ∙ b.there in
    let d_is : a.d ≡ b.d = cc in
    let way : goes.ToBoard ≡ goes.ToHub = sym a.direction ∙ (ap (λ (d : Datagram). d.direction) d_is ∙ b.direction) in
    absurd (cc)

-- ---- lists of places

pub nothing_due : (due : List ℕ) (place : ℕ) → due ≡ [] → Contains due place → ⊥
nothing_due due place e is = let few = is.1 in let none : length due ≡ 0 = ap length e in omega (arith, few, none)

get_there : (xs : List ℕ) (j x : ℕ) → j < length xs → slice_index_or xs j x ≡ x → slice_get xs j ≡ Some x
get_there [] j x lt e = absurd (omega (arith, lt))
get_there (y ∷ xs) zero x lt e = ap (λ (z : ℕ). Some z) e
get_there (y ∷ xs) (suc j) x lt e = get_there xs j x (omega (arith, lt)) e

pub contains_get : (xs : List ℕ) (x : ℕ) (is : Contains xs x) → slice_get xs is.0 ≡ Some x
contains_get xs x is = get_there xs is.0 x is.1 is.2
