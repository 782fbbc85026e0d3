-- The status of a text that was made is 0 or 1.
use Rattle.std.proofs.Common.{◌≡◌, ℕ, Bool, true, false, inl, inr, arith}
use Rattle.command_terms.specs.Numbers.{IsDoneStatus, refused_status, told_status}

pub told_is_done : (all : Bool) (status : ℕ) → status ≡ told_status all → IsDoneStatus status
told_is_done true status told = inl told
told_is_done false status told = inr told

pub done_is_no_refusal : (status : ℕ) → IsDoneStatus status → status ≡ refused_status → ⊥
done_is_no_refusal status (inl zero) refused = omega (arith, zero, refused)
done_is_no_refusal status (inr one) refused = omega (arith, one, refused)
