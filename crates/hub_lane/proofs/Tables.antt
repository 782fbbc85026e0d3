-- Lists of outcomes as the code keeps them.
use Rattle.std.proofs.Common.{◌≡◌, ℕ, ◌+◌, ◌≤◌, Bool, true, false, List, get_or, take}
use Rattle.std.proofs.Common.{Option, Some, refl, sym, ap, ◌∙◌, arith}
use Rattle.std.specs.Prelude.{count_by}
use Rattle.std.specs.List.{slice_get}
use Rattle.std.proofs.lemmas.List.Sums.{count_by_more_no, count_by_more_yes}
use Rattle.std.proofs.lemmas.List.Recursion.{is_count_by}
use Rattle.std.proofs.lemmas.Option.{get_or_from_slice_get, slice_get_within}
use mir.Val.{bool_byte}
use Rattle.lane_record.specs.declared.outcome.Outcome.{Outcome}
use Rattle.lane_record.specs.Bounds.{has_timed_out, timeouts}

-- ---- counted one after the other

pub counted : (kind : Option Outcome → Bool) (outcomes : List (Option Outcome)) (ask : ℕ) (o : Option Outcome)
    (byte : ℕ) (told : Bool) → slice_get outcomes ask ≡ Some o → told ≡ kind o → byte ≡ bool_byte told
    → (count_by kind (take ask outcomes) + byte ≡ count_by kind (take (ask + 1) outcomes)) × (byte ≤ 1)
counted kind outcomes ask o byte true there same is =
    let here : kind (get_or outcomes ask o) ≡ true =
    ap kind (get_or_from_slice_get outcomes ask o o there) ∙ sym same in
    let more = count_by_more_yes kind outcomes ask o (slice_get_within outcomes ask o there) here in
    (omega (arith, is, more), omega (arith, is))
counted kind outcomes ask o byte false there same is =
    let here : kind (get_or outcomes ask o) ≡ false =
    ap kind (get_or_from_slice_get outcomes ask o o there) ∙ sym same in
    let more = count_by_more_no kind outcomes ask o (slice_get_within outcomes ask o there) here in
    (omega (arith, is, more), omega (arith, is))

pub timeouts_counted : (outcomes : List (Option Outcome)) → timeouts outcomes ≡ count_by has_timed_out outcomes
timeouts_counted outcomes = is_count_by timeouts has_timed_out refl (λ o os. refl) outcomes
