-- Calls are counted, and those that fail are those whose numbers are named.
use Rattle.std.proofs.Common.{◌≡◌, ◌∙◌, inl, inr, ℕ, ◌+◌, ◌-◌, ◌^◌, ◌<◌, ◌==◌, Bool, true, false, cond, List, []}
use Rattle.std.proofs.Common.{◌∷◌, length, min, refl, ap, arith}
use Rattle.std.specs.List.{list_any}
use Rattle.ipb_base.specs.Faults.{one_more}
use Rattle.board_specs.specs.declared.spec.Fates.{Fates}
use Rattle.world_model.specs.Board.{Board}
use Rattle.lossy_network.specs.Network.{Network, Receipt, with_call_counted, with_fault, fails, most_takings, new_network}
use Rattle.lossy_network.specs.Calls.{Call, Receive, RefusedReceive, RefusedSend, Send, after_call, after_calls, network_after}
use Rattle.lossy_network.specs.Calls.{failures}
use Rattle.lossy_network.proofs.Calls.{takes_keep}
use Rattle.lossy_network.proofs.Receipts.{receipt_cases}
use Rattle.lossy_network.proofs.Along.{constants_stay}

-- ---- counts

done_counts : (net : Network) (call : Call) → ((network_after net call).calls ≡ one_more net.calls)
    × ((network_after net call).faults ≡ net.faults)
done_counts net (Send bytes) = (refl, refl)
done_counts net Receive =
    let keep = takes_keep (most_takings (with_call_counted net)) (with_call_counted net) in
    elim (receipt_cases net) [
      | inl quiet ↦ (
        ap (λ (r : Receipt). r.after.calls) quiet.is ∙ ap (λ (n : Network). n.calls) keep,
        ap (λ (r : Receipt). r.after.faults) quiet.is ∙ ap (λ (n : Network). n.faults) keep,
      )
      | inr got ↦ (
        ap (λ (r : Receipt). r.after.calls) got.is ∙ ap (λ (n : Network). n.calls) keep,
        ap (λ (r : Receipt). r.after.faults) got.is ∙ ap (λ (n : Network). n.faults) keep,
      )
    ]
done_counts net RefusedSend = (refl, refl)
done_counts net (RefusedReceive taken) =
    let keep = takes_keep taken (with_call_counted net) in
    (ap (λ (n : Network). n.calls) keep, ap (λ (n : Network). n.faults) keep)

counts_by : (net : Network) (call : Call) (b : Bool)
    → ((cond b (with_fault net) (network_after net call)).calls ≡ one_more net.calls)
    × ((cond b (with_fault net) (network_after net call)).faults ≡ cond b (one_more net.faults) net.faults)
counts_by net call true = (refl, refl)
counts_by net call false = done_counts net call

call_count : (net : Network) (call : Call) → (after_call net call).calls ≡ one_more net.calls
call_count net call = (counts_by net call (fails net)).0

call_faults : (net : Network) (call : Call)
    → (after_call net call).faults ≡ cond (fails net) (one_more net.faults) net.faults
call_faults net call = (counts_by net call (fails net)).1

pub calls_count : (calls : List Call) (net : Network) → net.calls + length calls < 2 ^ 64
    → (after_calls net calls).calls ≡ net.calls + length calls
calls_count [] net few = omega arith
calls_count (call ∷ calls) net few =
    let one = call_count net call in
    omega (arith, one, calls_count calls (after_call net call) (omega (arith, few, one)))

-- ---- those that fail

fail_stays : (calls : List Call) (net : Network) → (after_calls net calls).fail ≡ net.fail
fail_stays [] net = refl
fail_stays (call ∷ calls) net = fail_stays calls (after_call net call)
    ∙ ap (λ (p : Fates × List ℕ). p.1) (constants_stay net call)

pub named_calls_fail : (board : Board) (fates : Fates) (fail : List ℕ) (calls : List Call) → length calls + 1 < 2 ^ 64
    → fails (after_calls (new_network board fates fail) calls)
    ≡ list_any (λ number. number == length calls + 1) fail
named_calls_fail board fates fail calls few =
    let link = new_network board fates fail in
    let number : one_more (after_calls link calls).calls ≡ length calls + 1 =
    omega (arith, calls_count calls link (omega (arith, few)), few) in
    ap (λ (n : ℕ). list_any (λ k. k == n) (after_calls link calls).fail) number
    ∙ ap (λ (ns : List ℕ). list_any (λ k. k == length calls + 1) ns) (fail_stays calls link)

-- ---- and no others are counted

faults_by : (b : Bool) (faults more : ℕ) → faults ≡ min more (2 ^ 64 - 1)
    → cond b (one_more faults) faults ≡ min (cond b (more + 1) more) (2 ^ 64 - 1)
faults_by true faults more is = omega (arith, is)
faults_by false faults more is = is

by_one : (b : Bool) (count more : ℕ) → cond b (count + 1) count + more ≡ count + (cond b 1 0 + more)
by_one true count more = omega arith
by_one false count more = omega arith

failures_from : (calls : List Call) (net : Network) (count : ℕ) → net.faults ≡ min count (2 ^ 64 - 1)
    → (after_calls net calls).faults ≡ min (count + failures net calls) (2 ^ 64 - 1)
failures_from [] net count is = omega (arith, is)
failures_from (call ∷ calls) net count is =
    let b = fails net in
    let one = call_faults net call ∙ faults_by b net.faults count is in
    failures_from calls (after_call net call) (cond b (count + 1) count) one
    ∙ ap (λ (n : ℕ). min n (2 ^ 64 - 1)) (by_one b count (failures (after_call net call) calls))

from_none : (n : ℕ) → 0 + n ≡ n
from_none n = omega arith

pub faults_are_failures : (board : Board) (fates : Fates) (fail : List ℕ) (calls : List Call)
    → (after_calls (new_network board fates fail) calls).faults
    ≡ min (failures (new_network board fates fail) calls) (2 ^ 64 - 1)
faults_are_failures board fates fail calls =
    let link = new_network board fates fail in
    failures_from calls link 0 refl ∙ ap (λ (n : ℕ). min n (2 ^ 64 - 1)) (from_none (failures link calls))
