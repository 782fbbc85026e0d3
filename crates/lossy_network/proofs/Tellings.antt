-- What a send and a receive of a simulated link do to what it tells.
use Rattle.std.proofs.Common.{◌≡◌, ◌⊎◌, inl, inr, ◌∙◌, ℕ, zero, suc, ◌<◌, ◌≤◌, Bool, true, false, cond, List, []}
use Rattle.std.proofs.Common.{◌∷◌, ◌++◌, length, nat_lt, Option, Some, None, Result, Ok, Err, refl, sym, ap, subst}
use Rattle.std.proofs.Common.{arith, ◌^◌, ◌≢◌}
use Rattle.std.specs.Prelude.{IfOk, OnOk, OnErr}
use Rattle.std.specs.List.{Contains, slice_get}
use Rattle.std.proofs.lemmas.List.Elements.{Contains-append_left, Contains-append_right, Contains-append_cases}
use Rattle.std.proofs.lemmas.List.Elements.{Contains-push, Contains-push_cases}
use Rattle.std.proofs.lemmas.Bool.{lt-ltb}
use Rattle.ipb_base.specs.Faults.{Rose, one_more}
use Rattle.world_model.specs.Links.{IsHandedAt, Told, heard_by}
use Rattle.links.specs.declared.link.TheConstants.{MAX_DATAGRAM}
use Rattle.links.specs.declared.link.LinkFault.{LinkFault}
use Rattle.links.specs.declared.link.LinkFault.TheVariants.{Failed, NoMemory}
use Rattle.links.specs.declared.link.Received.{Received}
use Rattle.links.specs.declared.link.Received.TheVariants.{Got, Quiet}
use Rattle.links.specs.Telling.{IsCarried, IsGot, IsQuiet, IsReceived, IsSent, KeepsBut, Receives, Telling}
use Rattle.links.specs.Traffic.{received_after, sent_after}
use Rattle.reliable_engine.specs.Traffic as passes
use Rattle.links.specs.Telling.{gots_after, quiets_after}
use Rattle.lossy_network.specs.declared.fates.DatagramFate.{DatagramFate}
use Rattle.lossy_network.specs.declared.fates.DatagramFate.TheVariants.{Delivered, Lost, Repeated, Delayed}
use Rattle.lossy_network.specs.Fates.{fate_at}
use Rattle.lossy_network.specs.Traffic.{Traffic, due_at, meets, put_on}
use Rattle.lossy_network.specs.Network.{ForHub, Front, Network, Nothing, Taken, Taking, all_taken, with_call_counted, without_too_old}
use Rattle.lossy_network.specs.Network.{with_fault}
use Rattle.lossy_network.specs.Network.{front, front_of, front_with, handed_out, hub_bytes, put_at, network_receipt}
use Rattle.lossy_network.specs.Network.{Receipt, most_takings, network_with_send, takes, telling_of, with_queue}
use Rattle.lossy_network.proofs.Takings.{still, takes_one}
use Rattle.lossy_network.proofs.Calls.{takes_keep, with_carried}
use Rattle.lossy_network.specs.Receipts.{GotReceipt, QuietReceipt}
use Rattle.lossy_network.proofs.Receipts.{the_got, the_quiet}

-- ---- the steps of a receive, a law of `links`

pub record ReceiveSteps : Type 0 where
  pub nothing : (held : ℕ) (telling : Telling) → IsReceived [] held held telling telling
  pub one_heard : (held place : ℕ) (old new : Telling)
      → heard_by old.told (slice_get old.told.air place) ≡ Some new.told → new.handed ≡ old.handed
      → KeepsBut place old.due new.due
      → (length old.told.air < length new.told.air → Contains new.due (length old.told.air))
      → IsReceived [] held held old new
  pub given_up : (before now place : ℕ) (old new : Telling) → new.told ≡ old.told → new.handed ≡ old.handed
      → KeepsBut place old.due new.due → Rose before now → IsReceived [] before now old new
  pub handed : (held place : ℕ) (bytes : List ℕ) (old new : Telling) → new.told ≡ old.told
      → new.handed ≡ old.handed ++ place ∷ [] → KeepsBut place old.due new.due
      → IsHandedAt new.told bytes place → IsGot bytes held held old new
  pub one_then : (by_hub : List ℕ) (first mid last : ℕ) (old between new : Telling) → first ≤ mid → mid ≤ last
      → IsReceived [] first mid old between → IsReceived by_hub mid last between new
      → IsReceived by_hub first last old new

-- ---- lists of places

no_item : (x : ℕ) → Contains {X = ℕ} [] x → ⊥
no_item x is = omega (arith, is.1)

-- what stands behind the first one
front_cases : (place : ℕ) (places : List ℕ) (other : ℕ) → Contains (place ∷ places) other
    → (place ≡ other) ⊎ Contains places other
front_cases place places other is = elim (Contains-append_cases (place ∷ []) places other is) [
  | inl here ↦ elim (Contains-push_cases [] place other here) [
    | inl none ↦ absurd (no_item other none)
    | inr same ↦ inl same
  ]
  | inr later ↦ inr later
]

-- ---- fates

-- a datagram that meets its fate is ready to be heard, or it counts as held
abbrev pub IsPut : ℕ → Traffic → Traffic → Type 0
IsPut place old new = (Contains new.queue place × (new.held ≡ old.held)) ⊎ Rose old.held new.held

put_cases : (fate : DatagramFate) (place : ℕ) (traffic : Traffic) → IsPut place traffic (put_on fate place traffic)
put_cases Delivered place traffic = inl (
  Contains-append_left (traffic.queue ++ place ∷ []) _ place (Contains-push traffic.queue place),
  refl,
)
put_cases Lost place traffic = inr (omega arith)
put_cases Repeated place traffic = inl (
  Contains-append_left (traffic.queue ++ place ∷ place ∷ []) _ place
      (Contains-append_right traffic.queue (place ∷ place ∷ []) place (Contains-append_left (place ∷ []) (place ∷ [])
      place (Contains-push [] place))),
  refl,
)
put_cases (Delayed by) place traffic = inr (omega arith)

-- those in the queue stay there
met_keeps : (fate : DatagramFate) (place : ℕ) (traffic : Traffic) (other : ℕ) → Contains traffic.queue other
    → Contains (meets fate place traffic).queue other
met_keeps Delivered place traffic other is = Contains-append_left traffic.queue (place ∷ []) other is
met_keeps Lost place traffic other is = is
met_keeps Repeated place traffic other is = Contains-append_left traffic.queue (place ∷ place ∷ []) other is
met_keeps (Delayed by) place traffic other is = is

put_keeps : (fate : DatagramFate) (place : ℕ) (traffic : Traffic) (other : ℕ) → Contains traffic.queue other
    → Contains (put_on fate place traffic).queue other
put_keeps fate place traffic other is = Contains-append_left (meets fate place traffic).queue
    (due_at place (meets fate place traffic).delayed) other (met_keeps fate place traffic other is)

-- a count of 64 bits
abbrev pub IsCount : ℕ → Type 0
IsCount n = n < 2 ^ 64

put_holds : (fate : DatagramFate) (place : ℕ) (traffic : Traffic) → IsCount traffic.held
    → traffic.held ≤ (put_on fate place traffic).held
put_holds Delivered place traffic small = omega arith
put_holds Lost place traffic small = omega arith
put_holds Repeated place traffic small = omega arith
put_holds (Delayed by) place traffic small = omega arith

put_count : (fate : DatagramFate) (place : ℕ) (traffic : Traffic) → IsCount traffic.held
    → IsCount (put_on fate place traffic).held
put_count Delivered place traffic small = small
put_count Lost place traffic small = omega arith
put_count Repeated place traffic small = small
put_count (Delayed by) place traffic small = omega arith

-- ---- one datagram from the front

pub record IsStep (net after : Network) : Type 0 where
  pub receives : IsReceived [] net.traffic.held after.traffic.held (telling_of net) (telling_of after)
  pub rises : net.traffic.held ≤ after.traffic.held
  pub count : IsCount after.traffic.held

abbrev pub IsStepTo : Network → Front → Type 0
IsStepTo net Nothing = Unit {0}
IsStepTo net (ForHub place bytes) = Unit {0}
IsStepTo net (Taken taking after) = IsStep net after

-- the board heard it, and an answer met its fate
answered_step : (steps : ReceiveSteps) (net : Network) (place : ℕ) (queue : List ℕ) (told : Told)
    → heard_by net.told (slice_get net.told.air place) ≡ Some told → IsCount net.traffic.held
    → IsPut (length net.told.air) (with_queue net queue).traffic
    (put_at (length net.told.air) (record (with_queue net queue) { told = told })).traffic
    → IsStep (with_queue net (place ∷ queue))
    (put_at (length net.told.air) (record (with_queue net queue) { told = told }))
answered_step steps net place queue told is small (inl put) =
    let answer = length net.told.air in
    let fate = fate_at net.fates answer in
    let old = with_queue net (place ∷ queue) in
    let new = put_at answer (record (with_queue net queue) { told = told }) in
    let held = net.traffic.held in
    let keeps : KeepsBut place (place ∷ queue) new.traffic.queue =
    (λ other inside. elim (front_cases place queue other inside) [
      | inl same ↦ inl same
      | inr later ↦ inr (put_keeps fate answer (with_queue net queue).traffic other later)
    ]) in
    record {
      receives = subst (λ (n : ℕ). IsReceived [] held n (telling_of old) (telling_of new)) (sym put.1)
          (steps.one_heard held place (telling_of old) (telling_of new) is refl keeps (λ _. put.0));
      rises = put_holds fate answer (with_queue net queue).traffic small;
      count = put_count fate answer (with_queue net queue).traffic small;
    }
answered_step steps net place queue told is small (inr rose) =
    let answer = length net.told.air in
    let fate = fate_at net.fates answer in
    let old = with_queue net (place ∷ queue) in
    let new = put_at answer (record (with_queue net queue) { told = told }) in
    let held = net.traffic.held in
    let between : Telling = record { told = told; due = queue ++ answer ∷ []; handed = net.handed } in
    let rises = put_holds fate answer (with_queue net queue).traffic small in
    let hears : KeepsBut place (place ∷ queue) (queue ++ answer ∷ []) =
    (λ other inside. elim (front_cases place queue other inside) [
      | inl same ↦ inl same
      | inr later ↦ inr (Contains-append_left queue (answer ∷ []) other later)
    ]) in
    let gives_up : KeepsBut answer (queue ++ answer ∷ []) new.traffic.queue =
    (λ other inside. elim (Contains-push_cases queue answer other inside) [
      | inl later ↦ inr (put_keeps fate answer (with_queue net queue).traffic other later)
      | inr same ↦ inl same
    ]) in
    record {
      receives = steps.one_then [] held held new.traffic.held (telling_of old) between (telling_of new) (omega arith)
          rises
          (steps.one_heard held place (telling_of old) between is refl hears (λ _. Contains-push queue answer))
          (steps.given_up held new.traffic.held answer between (telling_of new) refl refl gives_up rose);
      rises = rises;
      count = put_count fate answer (with_queue net queue).traffic small;
    }

heard_step : (steps : ReceiveSteps) (net : Network) (place : ℕ) (queue : List ℕ) (told : Told) (b : Bool)
    → heard_by net.told (slice_get net.told.air place) ≡ Some told → IsCount net.traffic.held
    → nat_lt (length net.told.air) (length told.air) ≡ b
    → IsStep (with_queue net (place ∷ queue))
    (cond b (put_at (length net.told.air) (record (with_queue net queue) { told = told }))
    (record (with_queue net queue) { told = told }))
heard_step steps net place queue told true is small b_is = answered_step steps net place queue told is small
    (put_cases (fate_at net.fates (length net.told.air)) (length net.told.air) (with_queue net queue).traffic)
heard_step steps net place queue told false is small b_is = record {
  receives = steps.one_heard net.traffic.held place (telling_of (with_queue net (place ∷ queue)))
      (telling_of (record (with_queue net queue) { told = told })) is refl
      (λ other inside. front_cases place queue other inside)
      (λ grows. absurd (let longer = lt-ltb (length net.told.air) (length told.air) grows in cc));
  rises = omega arith;
  count = small;
}

step_with : (steps : ReceiveSteps) (net : Network) (place : ℕ) (queue : List ℕ) (bytes : Option (List ℕ))
    (r : Option Told) → heard_by net.told (slice_get net.told.air place) ≡ r → IsCount net.traffic.held
    → IsStepTo (with_queue net (place ∷ queue)) (front_with (with_queue net queue) place bytes r)
step_with steps net place queue (Some bytes) r is small = tt
step_with steps net place queue None (Some told) is small = heard_step steps net place queue told
    (nat_lt (length net.told.air) (length told.air)) is small refl
step_with steps net place queue None None is small = record {
  receives = steps.given_up net.traffic.held (one_more net.traffic.held) place
      (telling_of (with_queue net (place ∷ queue))) (telling_of (without_too_old (with_queue net queue))) refl refl
      (λ other inside. front_cases place queue other inside) (omega arith);
  rises = omega arith;
  count = omega arith;
}

step_of : (steps : ReceiveSteps) (net : Network) (queue : List ℕ) → IsCount net.traffic.held
    → IsStepTo (with_queue net queue) (front_of net queue)
step_of steps net [] small = tt
step_of steps net (place ∷ queue) small = step_with steps net place queue
    (hub_bytes net.told (slice_get net.told.air place)) (heard_by net.told (slice_get net.told.air place)) refl small

taken_step : (steps : ReceiveSteps) (net after : Network) (taking : Taking) → front net ≡ Taken taking after
    → IsCount net.traffic.held → IsStep net after
taken_step steps net after taking is small = subst (IsStepTo net) is (step_of steps net net.traffic.queue small)

-- ---- so many datagrams

no_step : (steps : ReceiveSteps) (net : Network) → IsCount net.traffic.held → IsStep net net
no_step steps net small = record {
  receives = steps.nothing net.traffic.held (telling_of net);
  rises = omega arith;
  count = small;
}

two_steps : (steps : ReceiveSteps) (net mid after : Network) → IsStep net mid → IsStep mid after → IsStep net after
two_steps steps net mid after one two = record {
  receives = steps.one_then [] net.traffic.held mid.traffic.held after.traffic.held (telling_of net) (telling_of mid)
      (telling_of after) one.rises two.rises one.receives two.receives;
  rises = omega (arith, one.rises, two.rises);
  count = two.count;
}

steps_by : (steps : ReceiveSteps) (k : ℕ) (net : Network) (f : Front) → front net ≡ f → IsCount net.traffic.held
    → ((after : Network) → IsCount after.traffic.held → IsStep after (takes k after))
    → IsStep net (takes (suc k) net)
steps_by steps k net Nothing is small later =
    subst (IsStep net) (sym (still (suc k) net Nothing is refl)) (no_step steps net small)
steps_by steps k net (ForHub place bytes) is small later =
    subst (IsStep net) (sym (still (suc k) net (ForHub place bytes) is refl)) (no_step steps net small)
steps_by steps k net (Taken taking after) is small later =
    let one = taken_step steps net after taking is small in
    subst (IsStep net) (sym (takes_one k net after taking is))
    (two_steps steps net after (takes k after) one (later after one.count))

pub takes_step : (steps : ReceiveSteps) (k : ℕ) (net : Network) → IsCount net.traffic.held → IsStep net (takes k net)
takes_step steps zero net small = no_step steps net small
takes_step steps (suc k) net small = steps_by steps k net (front net) refl small (takes_step steps k)

-- ---- a receive

pub received_step : (steps : ReceiveSteps) (old : Network) → IsCount old.traffic.held
    → IsStep old (all_taken (with_call_counted old))
received_step steps old small =
    let one = takes_step steps (most_takings (with_call_counted old)) (with_call_counted old) small in
    record { receives = one.receives; rises = one.rises; count = one.count }

is_got : (steps : ReceiveSteps) (old new : Network) (bytes : List ℕ) → IsCount old.traffic.held
    → new ≡ (network_receipt old).after → bytes ≡ (network_receipt old).bytes → GotReceipt old
    → IsGot bytes old.traffic.held new.traffic.held (telling_of old) (telling_of new)
is_got steps old new bytes small after_is bytes_is got =
    let mid = all_taken (with_call_counted old) in
    let one = received_step steps old small in
    let end = handed_out (with_queue mid got.rest) got.place got.bytes in
    let there : IsHandedAt mid.told bytes got.place =
    subst (λ (xs : List ℕ). IsHandedAt mid.told xs got.place)
    (sym (bytes_is ∙ ap (λ (r : Receipt). r.bytes) got.is)) got.there in
    let keeps : KeepsBut got.place mid.traffic.queue got.rest = (λ other inside. front_cases got.place got.rest other
    (subst (λ (xs : List ℕ). Contains xs other) got.queue inside)) in
    let last = steps.handed mid.traffic.held got.place bytes (telling_of mid) (telling_of end) refl refl keeps there in
    subst (λ (n : Network). IsGot bytes old.traffic.held n.traffic.held (telling_of old) (telling_of n))
    (sym (after_is ∙ ap (λ (r : Receipt). r.after) got.is))
    (record {
      place = last.place;
      there = last.there;
      received = steps.one_then (last.place ∷ []) old.traffic.held mid.traffic.held mid.traffic.held (telling_of old)
          (telling_of mid) (telling_of end) one.rises (omega arith) one.receives last.received;
    })

is_quiet : (steps : ReceiveSteps) (old new : Network) → IsCount old.traffic.held → new ≡ (network_receipt old).after
    → QuietReceipt old → IsQuiet old.traffic.held new.traffic.held (telling_of old) (telling_of new)
is_quiet steps old new small after_is quiet =
    let one = received_step steps old small in
    subst (λ (n : Network). IsQuiet old.traffic.held n.traffic.held (telling_of old) (telling_of n))
    (sym (after_is ∙ ap (λ (r : Receipt). r.after) quiet.is))
    (record { received = one.receives; none_due = quiet.none })

-- what a receive of the code says
pub record IsReceipt (result : Result Received LinkFault) (bytes : List ℕ) (old new : Network) : Type 0 where
  pub after : OnOk result (new ≡ (network_receipt old).after)
  pub answer : IfOk result (λ answer. answer ≡ (network_receipt old).answer)
  pub bytes_are : OnOk result (bytes ≡ (network_receipt old).bytes)
  pub fault : result ≡ Err Failed → new ≡ with_fault old
  pub no_memory : result ≡ Err NoMemory → (taken : ℕ) × (new ≡ takes taken (with_call_counted old))

pub receives : (steps : ReceiveSteps) (result : Result Received LinkFault) (bytes : List ℕ) (old new : Network)
    → IsCount old.traffic.held → IsReceipt result bytes old new
    → Receives result bytes old.traffic.held new.traffic.held (telling_of old) (telling_of new)
receives steps (Ok Got) bytes old new small is =
    is_got steps old new bytes small is.after is.bytes_are (the_got old is.answer)
receives steps (Ok Quiet) bytes old new small is = is_quiet steps old new small is.after (the_quiet old is.answer)
receives steps (Err Failed) bytes old new small is = ap telling_of (is.fault refl)
receives steps (Err NoMemory) bytes old new small is =
    let some = is.no_memory refl in
    let one = takes_step steps some.0 (with_call_counted old) small in
    subst (λ (n : Network). IsReceived [] old.traffic.held n.traffic.held (telling_of old) (telling_of n))
    (sym some.1) one.receives

pub carried : (result : Result Received LinkFault) (bytes : List ℕ) (old new : Network)
    → IsReceipt result bytes old new → length bytes ≤ MAX_DATAGRAM → OnErr result (bytes ≡ [])
    → IsCarried result bytes
carried (Ok Got) bytes old new is short none = short
carried (Ok Quiet) bytes old new is short none =
    is.bytes_are ∙ ap (λ (r : Receipt). r.bytes) (the_quiet old is.answer).is
carried (Err fault) bytes old new is short none = none

-- ---- the counts

-- but for its own counts, a receive leaves all counts but those of datagrams held, and its number; and it joins the
-- traffic
pub record AreCounts (result : Result Received LinkFault) (bytes : List ℕ) (old new : Network) : Type 0 where
  pub quiets : new.quiets ≡ quiets_after result old.quiets
  pub gots : new.gots ≡ gots_after result old.gots
  pub passed : new.passed ≡ received_after result bytes old.passed
  pub number : new.number ≡ old.number
  pub faults : (new.faults ≡ old.faults) ⊎ (new.faults ≡ one_more old.faults)
  pub unfaulted : result ≢ Err Failed → new.faults ≡ old.faults

counts_after : (old : Network) → with_carried (with_call_counted old) (all_taken (with_call_counted old)) ≡ all_taken (with_call_counted old)
counts_after old = sym (takes_keep (most_takings (with_call_counted old)) (with_call_counted old))

counts_quiet : (old new : Network) (bytes : List ℕ) → new ≡ (network_receipt old).after → QuietReceipt old
    → AreCounts (Ok Quiet) bytes old new
counts_quiet old new bytes after_is quiet =
    let same = counts_after old in
    let end = after_is ∙ ap (λ (r : Receipt). r.after) quiet.is in
    record {
      quiets = ap (λ (n : Network). n.quiets) end ∙ sym (ap (λ (n : Network). one_more n.quiets) same);
      gots = ap (λ (n : Network). n.gots) end ∙ sym (ap (λ (n : Network). n.gots) same);
      passed =
          ap (λ (n : Network). n.passed) end ∙ sym (ap (λ (n : Network). n.passed ++ passes.Quiet ∷ []) same);
      number = ap (λ (n : Network). n.number) end ∙ sym (ap (λ (n : Network). n.number) same);
      faults = inl (ap (λ (n : Network). n.faults) end ∙ sym (ap (λ (n : Network). n.faults) same));
      unfaulted = λ _. ap (λ (n : Network). n.faults) end ∙ sym (ap (λ (n : Network). n.faults) same);
    }

counts_got : (old new : Network) (bytes : List ℕ) → new ≡ (network_receipt old).after → bytes ≡ (network_receipt old).bytes
    → GotReceipt old → AreCounts (Ok Got) bytes old new
counts_got old new bytes after_is bytes_is got =
    let same = counts_after old in
    let end = after_is ∙ ap (λ (r : Receipt). r.after) got.is in
    record {
      quiets = ap (λ (n : Network). n.quiets) end ∙ sym (ap (λ (n : Network). n.quiets) same);
      gots = ap (λ (n : Network). n.gots) end ∙ sym (ap (λ (n : Network). one_more n.gots) same);
      passed =
          ap (λ (n : Network). n.passed) end
          ∙ (sym (ap (λ (n : Network). n.passed ++ passes.Got got.bytes ∷ []) same)
          ∙ ap (λ (xs : List ℕ). old.passed ++ passes.Got xs ∷ [])
          (sym (bytes_is ∙ ap (λ (r : Receipt). r.bytes) got.is)));
      number = ap (λ (n : Network). n.number) end ∙ sym (ap (λ (n : Network). n.number) same);
      faults = inl (ap (λ (n : Network). n.faults) end ∙ sym (ap (λ (n : Network). n.faults) same));
      unfaulted = λ _. ap (λ (n : Network). n.faults) end ∙ sym (ap (λ (n : Network). n.faults) same);
    }

pub counts : (result : Result Received LinkFault) (bytes : List ℕ) (old new : Network)
    → IsReceipt result bytes old new → AreCounts result bytes old new
counts (Ok Got) bytes old new is = counts_got old new bytes is.after is.bytes_are (the_got old is.answer)
counts (Ok Quiet) bytes old new is = counts_quiet old new bytes is.after (the_quiet old is.answer)
counts (Err Failed) bytes old new is =
    let same = is.fault refl in
    record {
      quiets = ap (λ (n : Network). n.quiets) same;
      gots = ap (λ (n : Network). n.gots) same;
      passed = ap (λ (n : Network). n.passed) same;
      number = ap (λ (n : Network). n.number) same;
      faults = inr (ap (λ (n : Network). n.faults) same);
      unfaulted = λ other. absurd (other refl);
    }
counts (Err NoMemory) bytes old new is =
    let some = is.no_memory refl in
    let same = some.1 ∙ takes_keep some.0 (with_call_counted old) in
    record {
      quiets = ap (λ (n : Network). n.quiets) same;
      gots = ap (λ (n : Network). n.gots) same;
      passed = ap (λ (n : Network). n.passed) same;
      number = ap (λ (n : Network). n.number) same;
      faults = inl (ap (λ (n : Network). n.faults) same);
      unfaulted = λ _. ap (λ (n : Network). n.faults) same;
    }

pub held_rises : (steps : ReceiveSteps) (result : Result Received LinkFault) (bytes : List ℕ) (old new : Network)
    → IsCount old.traffic.held → IsReceipt result bytes old new → old.traffic.held ≤ new.traffic.held
held_rises steps (Ok Got) bytes old new small is =
    let end = is.after ∙ ap (λ (r : Receipt). r.after) (the_got old is.answer).is in
    subst (λ (n : Network). old.traffic.held ≤ n.traffic.held) (sym end) (received_step steps old small).rises
held_rises steps (Ok Quiet) bytes old new small is =
    let end = is.after ∙ ap (λ (r : Receipt). r.after) (the_quiet old is.answer).is in
    subst (λ (n : Network). old.traffic.held ≤ n.traffic.held) (sym end) (received_step steps old small).rises
held_rises steps (Err Failed) bytes old new small is =
    subst (λ (n : Network). old.traffic.held ≤ n.traffic.held) (sym (is.fault refl)) (omega arith)
held_rises steps (Err NoMemory) bytes old new small is =
    let some = is.no_memory refl in
    subst (λ (n : Network). old.traffic.held ≤ n.traffic.held) (sym some.1)
    (takes_step steps some.0 (with_call_counted old) small).rises

-- ---- a send

is_sent : (old : Network) (bytes : List ℕ)
    → IsSent bytes old.traffic.held (network_with_send old bytes).traffic.held (telling_of old) (telling_of (network_with_send old bytes))
is_sent old bytes =
    let place = length old.told.air in
    let fate = fate_at old.fates place in
    record {
      told = refl;
      joins = elim (put_cases fate place old.traffic) [
        | inl put ↦ inl put.0
        | inr rose ↦ inr rose
      ];
      stays = λ other inside. inl (put_keeps fate place old.traffic other inside);
      handed = refl;
    }

sent_holds : (old : Network) (bytes : List ℕ) → IsCount old.traffic.held
    → old.traffic.held ≤ (network_with_send old bytes).traffic.held
sent_holds old bytes small = put_holds (fate_at old.fates (length old.told.air)) (length old.told.air) old.traffic small

-- ---- counts of 64 bits rise

pub rises_by : (old new : ℕ) → IsCount old → (new ≡ old) ⊎ (new ≡ one_more old) → old ≤ new
rises_by old new small (inl same) = omega arith
rises_by old new small (inr more) = omega arith

pub quiets_rise : (result : Result Received LinkFault) (count : ℕ) → IsCount count → count ≤ quiets_after result count
quiets_rise (Ok Got) count small = omega arith
quiets_rise (Ok Quiet) count small = omega arith
quiets_rise (Err fault) count small = omega arith

pub gots_rise : (result : Result Received LinkFault) (count : ℕ) → IsCount count → count ≤ gots_after result count
gots_rise (Ok Got) count small = omega arith
gots_rise (Ok Quiet) count small = omega arith
gots_rise (Err fault) count small = omega arith

pub sends : (result : Result (Unit {0}) LinkFault) (bytes : List ℕ) (old new : Network)
    → OnOk result (new ≡ network_with_send old bytes)
    → OnOk result (IsSent bytes old.traffic.held new.traffic.held (telling_of old) (telling_of new))
sends (Ok unit) bytes old new is = subst
    (λ (n : Network). IsSent bytes old.traffic.held n.traffic.held (telling_of old) (telling_of n)) (sym is)
    (is_sent old bytes)
sends (Err fault) bytes old new is = tt

-- what a send of the code says
pub record IsSending (result : Result (Unit {0}) LinkFault) (bytes : List ℕ) (old new : Network) : Type 0 where
  pub after : OnOk result (new ≡ network_with_send old bytes)
  pub fault : result ≡ Err Failed → new ≡ with_fault old
  pub no_memory : result ≡ Err NoMemory → new ≡ with_call_counted old

pub send_faults : (result : Result (Unit {0}) LinkFault) (bytes : List ℕ) (old new : Network)
    → IsSending result bytes old new → (new.faults ≡ old.faults) ⊎ (new.faults ≡ one_more old.faults)
send_faults (Ok unit) bytes old new is = inl (ap (λ (n : Network). n.faults) is.after)
send_faults (Err Failed) bytes old new is = inr (ap (λ (n : Network). n.faults) (is.fault refl))
send_faults (Err NoMemory) bytes old new is = inl (ap (λ (n : Network). n.faults) (is.no_memory refl))

-- a send that does not fail counts no fault
pub send_unfaulted : (result : Result (Unit {0}) LinkFault) (bytes : List ℕ) (old new : Network)
    → IsSending result bytes old new → result ≢ Err Failed → new.faults ≡ old.faults
send_unfaulted (Ok unit) bytes old new is other = ap (λ (n : Network). n.faults) is.after
send_unfaulted (Err Failed) bytes old new is other = absurd (other refl)
send_unfaulted (Err NoMemory) bytes old new is other = ap (λ (n : Network). n.faults) (is.no_memory refl)

pub send_holds : (result : Result (Unit {0}) LinkFault) (bytes : List ℕ) (old new : Network) → IsCount old.traffic.held
    → IsSending result bytes old new → old.traffic.held ≤ new.traffic.held
send_holds (Ok unit) bytes old new small is =
    subst (λ (n : Network). old.traffic.held ≤ n.traffic.held) (sym is.after) (sent_holds old bytes small)
send_holds (Err Failed) bytes old new small is =
    subst (λ (n : Network). old.traffic.held ≤ n.traffic.held) (sym (is.fault refl)) (omega arith)
send_holds (Err NoMemory) bytes old new small is =
    subst (λ (n : Network). old.traffic.held ≤ n.traffic.held) (sym (is.no_memory refl)) (omega arith)

pub send_passes : (result : Result (Unit {0}) LinkFault) (bytes : List ℕ) (old new : Network)
    → IsSending result bytes old new → new.passed ≡ sent_after result bytes old.passed
send_passes (Ok unit) bytes old new is = ap (λ (n : Network). n.passed) is.after
send_passes (Err Failed) bytes old new is = ap (λ (n : Network). n.passed) (is.fault refl)
send_passes (Err NoMemory) bytes old new is = ap (λ (n : Network). n.passed) (is.no_memory refl)

pub send_keeps_number : (result : Result (Unit {0}) LinkFault) (bytes : List ℕ) (old new : Network)
    → IsSending result bytes old new → new.number ≡ old.number
send_keeps_number (Ok unit) bytes old new is = ap (λ (n : Network). n.number) is.after
send_keeps_number (Err Failed) bytes old new is = ap (λ (n : Network). n.number) (is.fault refl)
send_keeps_number (Err NoMemory) bytes old new is = ap (λ (n : Network). n.number) (is.no_memory refl)
