-- No more datagrams are delayed at once than the longest delay.
use Rattle.std.proofs.Common.{◌≡◌, ℕ, ◌+◌, ◌-◌, ◌%◌, ◌<◌, ◌≤◌, ◌==◌, Bool, true, false, not, cond, List}
use Rattle.std.proofs.Common.{[], ◌∷◌, ◌++◌, length, nat_lt, Option, Some, None, refl, sym, subst, arith}
use Rattle.std.specs.Prelude.{nat_le, ◌&&◌}
use Rattle.std.specs.List.{slice_get}
use Rattle.std.proofs.lemmas.Bool.Decides.{nat_tests}
use Rattle.board_specs.specs.declared.spec.Fates.{Fates}
use Rattle.board_specs.specs.declared.spec.Fates.TheVariants.{Text, Noise}
use Rattle.world_model.specs.Board.{Board}
use Rattle.world_model.specs.Links.{Told}
use Rattle.lossy_network.specs.declared.fates.DatagramFate.{DatagramFate}
use Rattle.lossy_network.specs.declared.fates.DatagramFate.TheVariants.{Delivered, Lost, Repeated, Delayed}
use Rattle.lossy_network.specs.declared.under_way.Late.{Late}
use Rattle.lossy_network.specs.Fates.{fate_at, fate_of_bits, fate_of_character, fate_of_letter, fate_of_word, words_of}
use Rattle.lossy_network.specs.Traffic.{Traffic, is_due, put_on, still_late}
use Rattle.lossy_network.specs.Network.{Taking, new_network}
use Rattle.lossy_network.specs.Calls.{Call, after_calls}
use Rattle.lossy_network.proofs.Along.{IsKept, calls_kept}
use Rattle.lossy_network.proofs.Copies.{one_longer}

-- ---- delays are short

abbrev pub IsShortDelay : DatagramFate → Type 0
IsShortDelay Delivered = Unit {0}
IsShortDelay Lost = Unit {0}
IsShortDelay Repeated = Unit {0}
IsShortDelay (Delayed by) = by ≤ 9

short_or : (b : Bool) (f g : DatagramFate) → (b ≡ true → IsShortDelay f) → IsShortDelay g → IsShortDelay (cond b f g)
short_or true f g one other = one refl
short_or false f g one other = other

digit_is : (character : ℕ) → (nat_le 49 character && nat_le character 57) ≡ true → character - 48 ≤ 9
digit_is character is = grind (arith, nat_tests, is)

short_character : (character : ℕ) → IsShortDelay (fate_of_character character)
short_character character = short_or (character == 108) Lost _ (λ _. tt)
    (short_or (character == 114) Repeated _ (λ _. tt)
    (short_or (nat_le 49 character && nat_le character 57) (Delayed (character - 48)) Delivered
    (digit_is character) tt))

short_letter : (r : Option ℕ) → IsShortDelay (fate_of_letter r)
short_letter None = tt
short_letter (Some character) = short_character character

short_bits : (bits : ℕ) → IsShortDelay (fate_of_bits bits)
short_bits bits = short_or (nat_lt bits 10) Delivered _ (λ _. tt) (short_or (nat_lt bits 12) Lost _ (λ _. tt)
    (short_or (nat_lt bits 14) Repeated _ (λ _. tt)
    (short_or (bits == 14) (Delayed 2) (Delayed 5) (λ _. omega arith) (omega arith))))

short_word : (r : Option ℕ) → IsShortDelay (fate_of_word r)
short_word None = tt
short_word (Some word) = short_bits (word % 16)

short_fate : (fates : Fates) (place : ℕ) → IsShortDelay (fate_at fates place)
short_fate (Text text) place = short_letter (slice_get text place)
short_fate (Noise noise) place = short_word (slice_get (words_of noise (place + 1)) place)

-- ---- what is delayed was sent lately

-- In order of sending, and each is still to come where so many were sent: it is delayed to that place or further, and
-- by nine at most. `from` is the least place that the first one may have.
abbrev pub AreLately : ℕ → ℕ → List Late → Type 0
AreLately count from [] = Unit {0}
AreLately count from (late ∷ more) =
    (from ≤ late.place) × (late.place < count) × (count ≤ late.place + late.by) × (late.by ≤ 9)
    × AreLately count (late.place + 1) more

lately_few : (count from : ℕ) (delayed : List Late) → AreLately count from delayed → from ≤ count
    → from + length delayed ≤ count
lately_few count from [] are within = omega (arith, within)
lately_few count from (late ∷ more) are within =
    omega (arith, are.0, lately_few count (late.place + 1) more are.4 (omega (arith, are.1)))

few_of : (count from : ℕ) (delayed : List Late) → AreLately count from delayed → length delayed ≤ 9
few_of count from [] are = omega arith
few_of count from (late ∷ more) are =
    omega (arith, are.2, are.3, lately_few count (late.place + 1) more are.4 (omega (arith, are.1)))

lately_from : (count from least : ℕ) (delayed : List Late) → least ≤ from → AreLately count from delayed
    → AreLately count least delayed
lately_from count from least [] below are = tt
lately_from count from least (late ∷ more) below are = (omega (arith, below, are.0), are.1, are.2, are.3, are.4)

later : (late : Late) (count : ℕ) → is_due count late ≡ false → count ≤ late.place + late.by
    → count < late.place + late.by
later late count due here = grind (arith, nat_tests, due, here)

-- one more datagram was sent, and those due then are released
kept_by : (count from : ℕ) (late : Late) (more : List Late) (b : Bool) → is_due count late ≡ b
    → (from ≤ late.place) × (late.place < count) × (count ≤ late.place + late.by) × (late.by ≤ 9)
    → AreLately (count + 1) (late.place + 1) more → AreLately (count + 1) from (cond (not b) (late ∷ more) more)
kept_by count from late more true due is are =
    lately_from (count + 1) (late.place + 1) from more (omega (arith, is.0)) are
kept_by count from late more false due is are =
    let past : count < late.place + late.by = later late count due is.2 in
    (is.0, omega (arith, is.1), omega (arith, past), is.3, are)

lately_kept : (count from : ℕ) (delayed : List Late) → AreLately count from delayed
    → AreLately (count + 1) from (still_late count delayed)
lately_kept count from [] are = tt
lately_kept count from (late ∷ more) are = kept_by count from late (still_late count more) (is_due count late) refl
    (are.0, are.1, are.2, are.3) (lately_kept count (late.place + 1) more are.4)

-- the last one sent is behind them, and may be released at once
pushed_by : (count by : ℕ) (b : Bool) → is_due count (record { place = count; by = by }) ≡ b → by ≤ 9
    → AreLately (count + 1) count (cond (not b) (record { place = count; by = by } ∷ []) [])
pushed_by count by true due short = tt
pushed_by count by false due short =
    let late : Late = record { place = count; by = by } in
    let past : count < count + by = later late count due (omega arith) in
    (omega arith, omega arith, omega (arith, past), short, tt)

lately_push : (count from by : ℕ) (delayed : List Late) → from ≤ count → by ≤ 9 → AreLately count from delayed
    → AreLately (count + 1) from (still_late count (delayed ++ record { place = count; by = by } ∷ []))
lately_push count from by [] within short are = lately_from (count + 1) count from _ within
    (pushed_by count by (is_due count (record { place = count; by = by })) refl short)
lately_push count from by (late ∷ more) within short are =
    kept_by count from late (still_late count (more ++ record { place = count; by = by } ∷ [])) (is_due count late) refl
    (are.0, are.1, are.2, are.3) (lately_push count (late.place + 1) by more (omega (arith, are.1)) short are.4)

put_lately : (fate : DatagramFate) (place : ℕ) (traffic : Traffic) → IsShortDelay fate
    → AreLately place 0 traffic.delayed → AreLately (place + 1) 0 (put_on fate place traffic).delayed
put_lately Delivered place traffic short are = lately_kept place 0 traffic.delayed are
put_lately Lost place traffic short are = lately_kept place 0 traffic.delayed are
put_lately Repeated place traffic short are = lately_kept place 0 traffic.delayed are
put_lately (Delayed by) place traffic short are = lately_push place 0 by traffic.delayed (omega arith) short are

-- ---- after any calls

abbrev pub IsLately : Told → Traffic → List Taking → Type 0
IsLately told traffic ts = AreLately (length told.air) 0 traffic.delayed

delays_kept : (fates : Fates) → IsKept fates IsLately
delays_kept fates = record {
  sends = λ told traffic ts bytes are.
      let place = length told.air in
      subst (λ (n : ℕ). AreLately n 0 (put_on (fate_at fates place) place traffic).delayed)
      (sym (one_longer told bytes))
      (put_lately (fate_at fates place) place traffic (short_fate fates place) are);
  drops = λ told traffic ts place rest queue no_hub no_board are. are;
  hears = λ told new traffic ts place rest queue by_board size are.
      subst (λ (n : ℕ). AreLately n 0 traffic.delayed) (sym size) are;
  answers = λ told new traffic ts place rest queue by_board size are.
      let answer = length told.air in
      let left : Traffic = record traffic { queue = rest } in
      subst (λ (n : ℕ). AreLately n 0 (put_on (fate_at fates answer) answer left).delayed) (sym size)
      (put_lately (fate_at fates answer) answer left (short_fate fates answer) are);
  hands = λ told traffic ts place rest queue are. are;
}

pub few_delayed : (board : Board) (fates : Fates) (fail : List ℕ) (calls : List Call)
    → length (after_calls (new_network board fates fail) calls).traffic.delayed ≤ 9
few_delayed board fates fail calls =
    let link = new_network board fates fail in
    few_of (length (after_calls link calls).told.air) 0 (after_calls link calls).traffic.delayed
    (calls_kept fates IsLately (delays_kept fates) calls link [] refl tt)
