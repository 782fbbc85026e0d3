-- Settling events: lowering each that asks to those that were put before and that it meets.
use Rattle.std.proofs.Common.{◌≡◌, ◌⊎◌, inl, inr, ℕ, zero, suc, ◌+◌, ◌-◌, ◌*◌, ◌^◌, ◌<◌, ◌≤◌, List, [], length, take}
use Rattle.std.proofs.Common.{get_or, Bool, true, false, not, ◌&&◌, ◌||◌, min, bit_and, Option, Some, None, slice_index, refl, ap, sym, ◌∙◌}
use Rattle.std.proofs.Common.{subst, arith}
use Rattle.std.specs.List.{Contains}
use Rattle.std.specs.Int.{bit_at, trailing_zeros, w32}
use Rattle.std.proofs.Math.Nat.{one-le-pow}
use Rattle.std.proofs.lemmas.Bool.{false≢true, cases_lt}
use Rattle.std.proofs.lemmas.Nat.Bits.{and_pow, bit_at-lt, bit_at_ones, bit_at-trailing_zeros}
use Rattle.node_tree.specs.declared.overlapping.events.Event.{Event}
use Rattle.node_tree.specs.declared.overlapping.settling.Test.{Test}
use Rattle.node_tree.specs.declared.overlapping.settling.Test.TheVariants.{Each, Covers, HasBit}
use Rattle.node_tree.specs.Overlaps.{overlap_at}
use Rattle.node_tree.specs.OverlapSearch.{Lowers, with_lowered, lowered_to, lesser_of, Asks, Has, Meet, HasBits, AreEvents}
use Rattle.node_tree.specs.OverlapSearch.{AreSettled, Settles, Passes, AsksWhere, SettlesWhere, GoesOn, IsPart}
use Rattle.node_tree.specs.OverlapSearch.{HasNoneToSettle}
use Rattle.node_tree.proofs.CycleLemmas.{either}
use Rattle.node_tree.proofs.NotingLemmas.{Registers, lowers-same, lowers-more, lowers-lowered, lowered-value}
use Rattle.node_tree.proofs.NotingLemmas.{lowered-falls, length-lowered}
use Rattle.node_tree.proofs.EventLemmas.{before-one, before-other, none_there, take-there, take-now}
use Rattle.node_tree.proofs.EventLemmas.{take-there_cases, take-before, take-last, take-before_cases}

-- the least place of the events that were put so far and pass a test
pub record IsLeast (put : Test) (events : List Event) (least : Option ℕ) : Type 0 where
  pub found : (n : ℕ) → least ≡ Some n
      → (x : Event) × Contains events x × (x.asks ≡ false) × Passes put x × (x.place ≡ n)
  pub below : (x : Event) → Contains events x → x.asks ≡ false → Passes put x
      → (n : ℕ) × (least ≡ Some n) × (n ≤ x.place)

-- a pass over the events on its way
pub record IsPass (put asking : Test) (events : List Event) (old firsts : List ℕ) (least : Option ℕ) : Type 0 where
  pub each : length firsts ≡ length old
  pub settles : SettlesWhere events put asking old firsts
  pub least_put : IsLeast put events least

pub pass-none : (put asking : Test) (f : List ℕ) → IsPass put asking [] f f None
pass-none put asking f = record {
  each = refl;
  settles =
      record {
        lowers = λ es sound. lowers-same es f;
        falls = λ k. omega arith;
        settled = λ x y asks. absurd asks.asks.before;
      };
  least_put = record { found = λ n is. cc; below = λ x there put_x passes_x. absurd (none_there x there) };
}

least_of : (o : Option ℕ) (n : ℕ)
    → ((m : ℕ) × (o ≡ Some m) × (lesser_of o n ≡ min m n)) ⊎ ((o ≡ None) × (lesser_of o n ≡ n))
least_of (Some m) n = inl (m, refl, refl)
least_of None n = inr (refl, refl)

either_min : (m n : ℕ) → ((min m n ≡ m) × (m ≤ n)) ⊎ ((min m n ≡ n) × (n ≤ m))
either_min m n = either (cases_lt m n) (λ less. inl (omega arith, omega arith)) (λ more. inr (omega arith, omega arith))

module _ (put asking : Test) (events : List Event) (i : ℕ) (e : Event) (within : i < length events)
    (here : e ≡ get_or events i e) where
  asks_more : (x y : Event) → AsksWhere (take i events) put asking x y → AsksWhere (take (i + 1) events) put asking x y
  asks_more x y a = record {
    asks =
        record {
          before = take-before events i e within here x y a.asks.before;
          put = a.asks.put;
          asking = a.asks.asking;
        };
    one = a.one;
    other = a.other;
  }

  asks_cases : (x y : Event) → AsksWhere (take (i + 1) events) put asking x y
      → AsksWhere (take i events) put asking x y
      ⊎ (Contains (take i events) x × (e ≡ y) × (x.asks ≡ false) × Passes put x × (y.asks ≡ true) × Passes asking y)
  asks_cases x y a =
      either (take-before_cases events i e within here x y a.asks.before)
      (λ before. inl (record {
        asks = record { before = before; put = a.asks.put; asking = a.asks.asking };
        one = a.one;
        other = a.other;
      }))
      (λ (there, same). inr (there, same, a.asks.put, a.one, a.asks.asking, a.other))

  least_kept : (least : Option ℕ) → (e.asks ≡ false → Passes put e → ⊥) → IsLeast put (take i events) least
      → IsLeast put (take (i + 1) events) least
  least_kept least not_put l = record {
    found =
        λ n is. let (x, there, put_x, passes_x, place) =
        l.found n is in (x, take-there events i e within here x there, put_x, passes_x, place);
    below = λ x there put_x passes_x. either (take-there_cases events i e within here x there)
        (λ before. l.below x before put_x passes_x)
        (λ same. absurd (not_put (subst (λ z. z.asks ≡ false) (sym same) put_x)
        (subst (Passes put) (sym same) passes_x)));
  }

  -- one that does not ask where it is lowered
  pub pass-kept : (old f : List ℕ) (least : Option ℕ) → (e.asks ≡ true → Passes asking e → ⊥)
      → (e.asks ≡ false → Passes put e → ⊥)
      → IsPass put asking (take i events) old f least → IsPass put asking (take (i + 1) events) old f least
  pass-kept old f least not_asking not_put p = record {
    each = p.each;
    settles = record {
      lowers = λ es sound. p.settles.lowers es (λ x y a. sound x y (asks_more x y a));
      falls = p.settles.falls;
      settled = λ x y a. either (asks_cases x y a) (p.settles.settled x y)
          (λ (there, same, put_x, passes_x, asking_y, passes_y). absurd
          (not_asking (subst (λ z. z.asks ≡ true) (sym same) asking_y)
          (subst (Passes asking) (sym same) passes_y)));
    };
    least_put = least_kept least not_put p.least_put;
  }

  -- one that is put
  pub pass-put : (old f : List ℕ) (least : Option ℕ) → e.asks ≡ false → Passes put e
      → IsPass put asking (take i events) old f least
      → IsPass put asking (take (i + 1) events) old f (Some (lesser_of least e.place))
  pass-put old f least own passes_e p = record {
    each = p.each;
    settles = record {
      lowers = λ es sound. p.settles.lowers es (λ x y a. sound x y (asks_more x y a));
      falls = p.settles.falls;
      settled = λ x y a. either (asks_cases x y a) (p.settles.settled x y)
          (λ (there, same, put_x, passes_x, asking_y, passes_y). absurd
          (false≢true (sym own ∙ subst (λ z. z.asks ≡ true) (sym same) asking_y)));
    };
    least_put = record {
      found = λ n is. let now : lesser_of least e.place ≡ n = cc in either (least_of least e.place)
          (λ (m, some, is_min). either (either_min m e.place)
          (λ (first, _). let (x, there, put_x, passes_x, place) = p.least_put.found m some in
          (x, take-there events i e within here x there, put_x, passes_x, omega (arith, place, now, is_min, first)))
          (λ (second, _). (e, take-now events i e within here, own, passes_e, omega (arith, now, is_min, second))))
          (λ (none, is_place). (e, take-now events i e within here, own, passes_e, sym is_place ∙ now));
      below = λ x there put_x passes_x. either (take-there_cases events i e within here x there)
          (λ before. let (m, some, under) = p.least_put.below x before put_x passes_x in
          let value : lesser_of least e.place ≡ min m e.place = ap (λ o. lesser_of o e.place) some in
          (lesser_of least e.place, refl, omega (arith, value, under)))
          (λ same. let place : e.place ≡ x.place = ap (λ z. z.place) same in either (least_of least e.place)
          (λ (m, some, is_min). (lesser_of least e.place, refl, omega (arith, is_min, place)))
          (λ (none, is_place). (lesser_of least e.place, refl, omega (arith, is_place, place))));
    };
  }

  -- one that asks and is lowered
  lowers_to : (es : Registers) (f : List ℕ) (o : Option ℕ) → ((n : ℕ) → o ≡ Some n → overlap_at es n e.place ≡ true)
      → Lowers es f (lowered_to f e.place o)
  lowers_to es f None meets = lowers-same es f
  lowers_to es f (Some n) meets = lowers-lowered es f e.place n (λ less. meets n refl)

  falls_to : (f : List ℕ) (o : Option ℕ) (k : ℕ) → slice_index (lowered_to f e.place o) k ≤ slice_index f k
  falls_to f None k = omega arith
  falls_to f (Some n) k = lowered-falls f e.place n k

  length_to : (f : List ℕ) (o : Option ℕ) → length (lowered_to f e.place o) ≡ length f
  length_to f None = refl
  length_to f (Some n) = length-lowered f e.place n

  pub pass-asks : (old f : List ℕ) (least : Option ℕ) → e.asks ≡ true → Passes asking e → e.place < length old
      → IsPass put asking (take i events) old f least
      → IsPass put asking (take (i + 1) events) old (lowered_to f e.place least) least
  pass-asks old f least own passes_e inside p = record {
    each = length_to f least ∙ p.each;
    settles = record {
      lowers =
          λ es sound. lowers-more es old f (lowered_to f e.place least)
          (p.settles.lowers es (λ x y a. sound x y (asks_more x y a)))
          (lowers_to es f least (λ n is.
          let (x, there, put_x, passes_x, place) = p.least_put.found n is in
          let meets =
          sound x e (record {
            asks = record {
              before = take-last events i e within here x there;
              put = put_x;
              asking = own;
            };
            one = passes_x;
            other = passes_e;
          }) in
          subst (λ m. overlap_at es m e.place ≡ true) place meets.1));
      falls = λ k. let now = falls_to f least k in omega (arith, now, p.settles.falls k);
      settled = λ x y a. either (asks_cases x y a)
          (λ before. let falls = falls_to f least y.place in omega (arith, falls, p.settles.settled x y before))
          (λ (there, same, put_x, passes_x, asking_y, passes_y).
          let (n, is, under) = p.least_put.below x there put_x passes_x in
          let value : slice_index (with_lowered f e.place n) e.place ≤ n =
          lowered-value f e.place n (omega (arith, p.each)) in
          let now : slice_index (lowered_to f e.place least) y.place ≡ slice_index (with_lowered f e.place n) e.place =
          ap (λ o. slice_index (lowered_to f e.place o) y.place) is
          ∙ ap (λ z. slice_index (with_lowered f e.place n) z.place) (sym same) in
          omega (arith, value, now, under));
    };
    least_put = least_kept least (λ put_e _. false≢true (sym put_e ∙ own)) p.least_put;
  }

-- a bit that is in both masks
pub bit_passes : (mask k : ℕ) → 0 < bit_and mask (2 ^ k) → bit_at mask k ≡ 1
bit_passes mask k h =
    let value : bit_and mask (2 ^ k) ≡ bit_at mask k * 2 ^ k = and_pow mask k in
    let small : bit_at mask k < 2 = bit_at-lt mask k in
    either (cases_lt 0 (bit_at mask k)) (λ one. omega arith)
    (λ none.
    let no_bit : bit_at mask k ≡ 0 = omega arith in
    let is_zero : bit_and mask (2 ^ k) ≡ 0 * 2 ^ k = value ∙ ap (λ b. b * 2 ^ k) no_bit in
    absurd (omega (arith, is_zero)))

pub some_power : (k : ℕ) → 0 < 2 ^ k
some_power k = one-le-pow k 2 (omega arith)

pub passes_bit : (mask k : ℕ) → bit_at mask k ≡ 1 → 0 < bit_and mask (2 ^ k)
passes_bit mask k h =
    let value : bit_and mask (2 ^ k) ≡ bit_at mask k * 2 ^ k = and_pow mask k in
    let whole : bit_and mask (2 ^ k) ≡ 1 * 2 ^ k = value ∙ ap (λ b. b * 2 ^ k) h in
    let some : 0 < 2 ^ k = some_power k in
    omega arith

-- the bits below a number, at one address
pub record AreBits (events : List Event) (old firsts : List ℕ) (bits : ℕ) : Type 0 where
  pub each : length firsts ≡ length old
  pub lowers : (first : ℕ) (es : Registers) → AreEvents es events first (first + 1) → Lowers es old firsts
  pub settled : (x y : Event) → Asks events x y → (k : ℕ) → k < bits → bit_at x.mask k ≡ 1 → bit_at y.mask k ≡ 1
      → slice_index firsts y.place ≤ x.place

pub bits-none : (events : List Event) (f : List ℕ) → AreBits events f f 0
bits-none events f =
    record { each = refl; lowers = λ first es are. lowers-same es f; settled = λ x y asks k less. absurd (omega arith) }

at_one : (es : Registers) (events : List Event) (first : ℕ) → AreEvents es events first (first + 1) → (e : Event)
    → Contains events e → Has e first
at_one es events first are e there = let near = are.near e there in (omega (arith, near.0), near.1)

sound_bit : (es : Registers) (events : List Event) (first k : ℕ) → k < 32 → AreEvents es events first (first + 1)
    → (x y : Event)
    → AsksWhere events (HasBit (2 ^ k)) (HasBit (2 ^ k)) x y
    → (x.place < y.place) × (overlap_at es x.place y.place ≡ true)
sound_bit es events first k small are x y a = are.sound x y a.asks (record {
  address = first;
  in_one = at_one es events first are x (before-one events x y a.asks.before);
  in_other = at_one es events first are y (before-other events x y a.asks.before);
  bit = k;
  small = small;
  of_one = bit_passes x.mask k a.one;
  of_other = bit_passes y.mask k a.other;
})

at_or_below : (j k : ℕ) → j < k + 1 → (j ≡ k) ⊎ (j < k)
at_or_below j k h = either (cases_lt j k) inr (λ more. inl (omega arith))

pub bits-more : (events : List Event) (old f g : List ℕ) (k bit : ℕ) → k < 32 → bit ≡ 2 ^ k → length g ≡ length f
    → SettlesWhere events (HasBit bit) (HasBit bit) f g → AreBits events old f k → AreBits events old g (k + 1)
bits-more events old f g k bit small is each where_bit bits =
    let now = subst (λ b. SettlesWhere events (HasBit b) (HasBit b) f g) is where_bit in
    record {
      each = each ∙ bits.each;
      lowers =
          λ first es are. lowers-more es old f g (bits.lowers first es are)
          (now.lowers es (sound_bit es events first k small are));
      settled = λ x y asks j less one other. either (at_or_below j k less)
          (λ same. now.settled x y
          (record {
            asks = asks;
            one = passes_bit x.mask k (subst (λ i. bit_at x.mask i ≡ 1) same one);
            other = passes_bit y.mask k (subst (λ i. bit_at y.mask i ≡ 1) same other);
          }))
          (λ below. let before = bits.settled x y asks j below one other in omega (arith, before, now.falls y.place));
    }

pub bits-all : (events : List Event) (old f : List ℕ) (bits first : ℕ) → 32 ≤ bits → AreBits events old f bits
    → Settles events first (first + 1) old f
bits-all events old f bits first whole are_bits es are = (
  are_bits.lowers first es are,
  λ x y asks m from until. are_bits.settled x y asks m.bit (omega (arith, m.small)) m.of_one m.of_other,
)

-- events that cover more than one address have all bits
module _ (es : Registers) (events : List Event) (first half : ℕ) (some : 1 ≤ half)
    (are : AreEvents es events first (first + half + half)) where
  abbrev covers : Test
  covers = Covers first (first + half + half)

  bit-whole : (mask k : ℕ) → mask ≡ 0xffffffff → k < 32 → bit_at mask k ≡ 1
  bit-whole mask k is small = ap (λ m. bit_at m k) is ∙ bit_at_ones 32 k small

  some_bit : (e : Event) → HasBits e → (k : ℕ) × (k < 32) × (bit_at e.mask k ≡ 1)
  some_bit e bits =
      let (small, one, lower) = bit_at-trailing_zeros w32 e.mask bits.masked bits.word in
      (trailing_zeros w32 e.mask, small, one)

  covered_whole : (e : Event) → Contains events e → Passes covers e → e.mask ≡ 0xffffffff
  covered_whole e there passes = (are.bits e there).whole (omega (arith, passes.0, passes.1))

  -- an address of an event that it is near
  near_address : (e : Event) → Contains events e → (x : ℕ) × (first ≤ x) × (x < first + half + half) × Has e x
  near_address e there =
      let near = are.near e there in
      either (cases_lt first e.first)
      (λ less. (e.first, omega arith, near.0, (omega arith, (are.bits e there).some)))
      (λ more. (first, omega arith, omega arith, (more, near.1)))

  covers_or_not : (e : Event) → Passes covers e ⊎ (Passes covers e → ⊥)
  covers_or_not e =
      either (cases_lt first e.first)
      (λ late. inr (λ passes. absurd (omega (arith, late, passes.0))))
      (λ early. either (cases_lt e.«end» (first + half + half))
      (λ short. inr (λ passes. absurd (omega (arith, short, passes.1)))) (λ long. inl (early, long)))

  -- one covers all addresses, and the other is near
  sound_one : (x y : Event) → AsksWhere events covers Each x y
      → (x.place < y.place) × (overlap_at es x.place y.place ≡ true)
  sound_one x y a =
      let there = before-one events x y a.asks.before in
      let beside = before-other events x y a.asks.before in
      let (address, from, until, has) = near_address y beside in
      let (k, small, one) = some_bit y (are.bits y beside) in
      are.sound x y a.asks (record {
        address = address;
        in_one = (omega (arith, a.one.0), omega (arith, a.one.1));
        in_other = has;
        bit = k;
        small = small;
        of_one = bit-whole x.mask k (covered_whole x there a.one) small;
        of_other = one;
      })

  sound_other : (x y : Event) → AsksWhere events Each covers x y
      → (x.place < y.place) × (overlap_at es x.place y.place ≡ true)
  sound_other x y a =
      let there = before-one events x y a.asks.before in
      let beside = before-other events x y a.asks.before in
      let (address, from, until, has) = near_address x there in
      let (k, small, one) = some_bit x (are.bits x there) in
      are.sound x y a.asks (record {
        address = address;
        in_one = has;
        in_other = (omega (arith, a.other.0), omega (arith, a.other.1));
        bit = k;
        small = small;
        of_one = one;
        of_other = bit-whole y.mask k (covered_whole y beside a.other) small;
      })

  -- the events of a part
  part_events : (some_events : List Event) (from until : ℕ) → IsPart (GoesOn covers from until) events some_events
      → AreEvents es some_events from until
  part_events some_events from until part = record {
    bits = λ e there. are.bits e (part.only e there).0;
    near = λ e there. (part.only e there).1.near;
    sound =
        λ x y asks meet. are.sound x y
        (record { before = part.in_order x y asks.before; put = asks.put; asking = asks.asking }) meet;
  }

  goes_on : (e : Event) (address from until : ℕ) → (Passes covers e → ⊥) → Has e address → from ≤ address
      → address < until → GoesOn covers from until e
  goes_on e address from until outside has after before =
      record { outside = outside; near = (omega (arith, has.0), omega (arith, has.1)) }

  in_part : (x y : Event) (m : Meet x y) (some_events : List Event) (from until : ℕ)
      → IsPart (GoesOn covers from until) events some_events
      → (Passes covers x → ⊥) → (Passes covers y → ⊥) → from ≤ m.address → m.address < until → Asks events x y
      → Asks some_events x y
  in_part x y m some_events from until part outside_x outside_y after before asks = record {
    before =
        part.all x y asks.before (goes_on x m.address from until outside_x m.in_one after before)
        (goes_on y m.address from until outside_y m.in_other after before);
    put = asks.put;
    asking = asks.asking;
  }

  pub halves : (f0 f1 f2 f3 f4 : List ℕ) (lo up : List Event)
      → SettlesWhere events covers Each f0 f1 → SettlesWhere events Each covers f1 f2
      → IsPart (GoesOn covers first (first + half)) events lo
      → IsPart (GoesOn covers (first + half) (first + half + half)) events up
      → Settles lo first (first + half) f2 f3 → Settles up (first + half) (first + half + half) f3 f4
      → Lowers es f0 f4 × AreSettled events f4 first (first + half + half)
  halves f0 f1 f2 f3 f4 lo up one other part_lo part_up settles_lo settles_up =
      let (lowers_lo, settled_lo) = settles_lo es (part_events lo first (first + half) part_lo) in
      let (lowers_up, settled_up) = settles_up es (part_events up (first + half) (first + half + half) part_up) in (
        lowers-more es f0 f1 f4 (one.lowers es sound_one)
            (lowers-more es f1 f2 f4 (other.lowers es sound_other) (lowers-more es f2 f3 f4 lowers_lo lowers_up)),
        λ x y asks m from until. either (covers_or_not x)
            (λ covers_x. let now = one.settled x y (record { asks = asks; one = covers_x; other = tt }) in
            omega (arith, now, other.falls y.place, lowers_lo.falls y.place, lowers_up.falls y.place))
            (λ outside_x. either (covers_or_not y)
            (λ covers_y. let now = other.settled x y (record { asks = asks; one = tt; other = covers_y }) in
            omega (arith, now, lowers_lo.falls y.place, lowers_up.falls y.place))
            (λ outside_y. either (cases_lt m.address (first + half))
            (λ below. let now = settled_lo x y
            (in_part x y m lo first (first + half) part_lo outside_x outside_y from below asks) m from below in
            omega (arith, now, lowers_up.falls y.place))
            (λ above. settled_up x y
            (in_part x y m up (first + half) (first + half + half) part_up outside_x outside_y above until asks) m
            above until))),
      )

-- with less than two events there is nothing to settle
pub settles-none : (events : List Event) (first «end» : ℕ) (f : List ℕ) → HasNoneToSettle events
    → Settles events first «end» f f
settles-none events first «end» f none es are = (lowers-same es f, λ x y asks m from until. absurd (none x y asks))

-- the events so far, of which none asks after another was put
pub record IsQuiet (events : List Event) (is_put : Bool) : Type 0 where
  pub none : HasNoneToSettle events
  pub asking : is_put ≡ false → (x : Event) → Contains events x → x.asks ≡ false → ⊥

pub quiet-none : IsQuiet [] false
quiet-none = record {
  none = λ x y asks. absurd asks.before;
  asking = λ _ x there put. absurd (none_there x there);
}

or_false : (a b : Bool) → (a || not b) ≡ false → (a ≡ false) × (b ≡ true)
or_false true b h = absurd (false≢true (sym h))
or_false false true h = (refl, refl)
or_false false false h = absurd (false≢true (sym h))

and_false : (a b : Bool) → (a && b) ≡ false → a ≡ true → b ≡ false
and_false true b h is = h
and_false false b h is = absurd (false≢true is)

pub and_no_one : (a b : Bool) → a ≡ false → (a && b) ≡ false
and_no_one true b h = absurd (false≢true (sym h))
and_no_one false b h = refl

pub and_no_other : (a b : Bool) → b ≡ false → (a && b) ≡ false
and_no_other true b h = h
and_no_other false b h = refl

pub or_one : (a b : Bool) → a ≡ true → a ≡ (a || b)
or_one true b h = refl
or_one false b h = absurd (false≢true h)

pub or_other : (a b : Bool) → a ≡ false → b ≡ (a || b)
or_other true b h = absurd (false≢true (sym h))
or_other false b h = refl

module _ (events : List Event) (i : ℕ) (e : Event) (within : i < length events) (here : e ≡ get_or events i e)
    (is_put : Bool) (quiet : IsQuiet (take i events) is_put) (goes_on : (e.asks && is_put) ≡ false) where
  pub quiet-more : IsQuiet (take (i + 1) events) (is_put || not e.asks)
  quiet-more = record {
    none = λ x y asks. either (take-before_cases events i e within here x y asks.before)
        (λ before. quiet.none x y (record { before = before; put = asks.put; asking = asks.asking }))
        (λ (there, same).
        quiet.asking (and_false e.asks is_put goes_on (ap (λ z. z.asks) same ∙ asks.asking)) x there asks.put);
    asking = λ h x there put.
        let parts = or_false is_put e.asks h in
        either (take-there_cases events i e within here x there)
        (λ before. quiet.asking parts.0 x before put)
        (λ same. false≢true (sym put ∙ (ap (λ z. z.asks) (sym same) ∙ parts.1)));
  }

pub pow_half : (level : ℕ) → 1 ≤ level → 2 ^ level ≡ 2 ^ (level - 1) + 2 ^ (level - 1)
pow_half zero h = absurd (omega arith)
pow_half (suc level) h = let same : suc level - 1 ≡ level = omega arith in rw same (omega arith)

pub settles-halves : (events lo up : List Event) (first half whole : ℕ) (f0 f1 f2 f3 f4 : List ℕ) → 1 ≤ half
    → first + half + half ≡ whole
    → SettlesWhere events (Covers first (first + half + half)) Each f0 f1
    → SettlesWhere events Each (Covers first (first + half + half)) f1 f2
    → IsPart (GoesOn (Covers first (first + half + half)) first (first + half)) events lo
    → IsPart (GoesOn (Covers first (first + half + half)) (first + half) (first + half + half)) events up
    → Settles lo first (first + half) f2 f3 → Settles up (first + half) (first + half + half) f3 f4
    → Settles events first whole f0 f4
settles-halves events lo up first half whole f0 f1 f2 f3 f4 some same one other part_lo part_up settles_lo settles_up =
    subst (λ n. Settles events first n f0 f4) same
    (λ es are. halves es events first half some are f0 f1 f2 f3 f4 lo up one other part_lo part_up settles_lo
    settles_up)
