-- What is kept along every list of calls: by each send, by each datagram that is taken from the front, and by each that
-- is handed out.
use Rattle.std.proofs.Common.{◌≡◌, ◌⊎◌, inl, inr, ◌∙◌, ℕ, zero, suc, ◌+◌, ◌≤◌, Bool, true, false, cond, List, []}
use Rattle.std.proofs.Common.{◌∷◌, ◌++◌, length, nat_lt, Option, Some, None, refl, ap, subst, arith, append_assoc}
use Rattle.std.specs.List.{slice_get}
use Rattle.std.proofs.lemmas.Bool.{ltb-true}
use Rattle.std.proofs.lemmas.Bool.Decides.{nat_tests}
use Rattle.std.proofs.lemmas.List.{append-nil}
use Rattle.ipb_base.specs.Faults.{one_more}
use Rattle.board_specs.specs.declared.spec.Fates.{Fates}
use Rattle.world_model.specs.Links.{Told, heard_by, sent_on}
use Rattle.lossy_network.specs.Fates.{fate_at}
use Rattle.lossy_network.specs.Traffic.{Traffic, put_on}
use Rattle.lossy_network.specs.Network.{ByBoard, ByHub, Dropped, ForHub, Front, Network, Nothing, Receipt, Taken}
use Rattle.lossy_network.specs.Network.{Taking}
use Rattle.lossy_network.specs.Network.{all_taken, with_call_counted, with_fault, fails, front, front_of, front_with, hub_bytes}
use Rattle.lossy_network.specs.Network.{most_takings, put_at, network_receipt, takes, with_queue}
use Rattle.lossy_network.specs.Receipts.{GotReceipt, QuietReceipt}
use Rattle.lossy_network.specs.Calls.{Call, Receive, RefusedReceive, RefusedSend, Send, after_call, after_calls}
use Rattle.lossy_network.specs.Calls.{all_takings}
use Rattle.lossy_network.specs.Calls.{network_after, handing_out, taken_by, taken_in, takings}
use Rattle.lossy_network.proofs.Hearing.{air_grows, air_longer, hub_bytes_some}
use Rattle.lossy_network.proofs.Calls.{taken_keeps, takes_keep}
use Rattle.lossy_network.proofs.Receipts.{receipt_cases}

-- ---- what a taking was

pub record WasDropped (net after : Network) (taking : Taking) : Type 0 where
  pub place : ℕ
  pub rest : List ℕ
  pub queue : net.traffic.queue ≡ place ∷ rest
  pub taking_is : taking ≡ Dropped place
  pub no_hub : hub_bytes net.told (slice_get net.told.air place) ≡ None
  pub no_board : heard_by net.told (slice_get net.told.air place) ≡ None
  pub told : after.told ≡ net.told
  pub traffic : after.traffic ≡ record net.traffic { queue = rest; held = one_more net.traffic.held }

pub record IsUnanswered (net after : Network) (rest : List ℕ) : Type 0 where
  pub size : length after.told.air ≡ length net.told.air
  pub traffic : after.traffic ≡ record net.traffic { queue = rest }

pub record IsAnswered (net after : Network) (rest : List ℕ) : Type 0 where
  pub size : length after.told.air ≡ length net.told.air + 1
  pub traffic : after.traffic ≡ put_on (fate_at net.fates (length net.told.air)) (length net.told.air)
      (record net.traffic { queue = rest })

pub record WasHeard (net after : Network) (taking : Taking) : Type 0 where
  pub place : ℕ
  pub rest : List ℕ
  pub queue : net.traffic.queue ≡ place ∷ rest
  pub taking_is : taking ≡ ByBoard place
  pub by_board : heard_by net.told (slice_get net.told.air place) ≡ Some after.told
  pub carried : IsUnanswered net after rest ⊎ IsAnswered net after rest

abbrev pub WasTaken : Network → Front → Type 0
WasTaken net Nothing = Unit {0}
WasTaken net (ForHub place bytes) = Unit {0}
WasTaken net (Taken taking after) = WasDropped net after taking ⊎ WasHeard net after taking

same_size : (m n : ℕ) → m ≤ n → nat_lt m n ≡ false → n ≡ m
same_size m n longer is = grind (arith, nat_tests)

heard_was : (net : Network) (place : ℕ) (rest : List ℕ) (told : Told) (b : Bool)
    → heard_by net.told (slice_get net.told.air place) ≡ Some told
    → nat_lt (length net.told.air) (length told.air) ≡ b
    → WasHeard (with_queue net (place ∷ rest))
    (cond b (put_at (length net.told.air) (record (with_queue net rest) { told = told }))
    (record (with_queue net rest) { told = told })) (ByBoard place)
heard_was net place rest told true is b_is = record {
  place = place;
  rest = rest;
  queue = refl;
  taking_is = refl;
  by_board = is;
  carried = inr (record {
    size = (let grows = air_grows net.told told (slice_get net.told.air place) is in
        let more = ltb-true (length net.told.air) (length told.air) b_is in omega (arith, grows, more));
    traffic = refl;
  });
}
heard_was net place rest told false is b_is = record {
  place = place;
  rest = rest;
  queue = refl;
  taking_is = refl;
  by_board = is;
  carried = inl (record {
    size = (let longer = air_longer net.told told (slice_get net.told.air place) is in
        same_size (length net.told.air) (length told.air) longer b_is);
    traffic = refl;
  });
}

was_with : (net : Network) (place : ℕ) (rest : List ℕ) (bytes : Option (List ℕ)) (r : Option Told)
    → hub_bytes net.told (slice_get net.told.air place) ≡ bytes
    → heard_by net.told (slice_get net.told.air place) ≡ r
    → WasTaken (with_queue net (place ∷ rest)) (front_with (with_queue net rest) place bytes r)
was_with net place rest (Some bytes) r hub board = tt
was_with net place rest None (Some told) hub board = inr (heard_was net place rest told
    (nat_lt (length net.told.air) (length told.air)) board refl)
was_with net place rest None None hub board = inl (record {
  place = place;
  rest = rest;
  queue = refl;
  taking_is = refl;
  no_hub = hub;
  no_board = board;
  told = refl;
  traffic = refl;
})

was_of : (net : Network) (queue : List ℕ) → WasTaken (with_queue net queue) (front_of net queue)
was_of net [] = tt
was_of net (place ∷ rest) = was_with net place rest (hub_bytes net.told (slice_get net.told.air place))
    (heard_by net.told (slice_get net.told.air place)) refl refl

pub was_taken : (net after : Network) (taking : Taking) → front net ≡ Taken taking after
    → WasDropped net after taking ⊎ WasHeard net after taking
was_taken net after taking is = subst (WasTaken net) is (was_of net net.traffic.queue)

-- ---- what is kept

-- of the board, the air, what is under way and what was taken, under these fates
pub record IsKept (fates : Fates) (P : Told → Traffic → List Taking → Type 0) : Type 0 where
  pub sends : (told : Told) (traffic : Traffic) (ts : List Taking) (bytes : List ℕ) → P told traffic ts
      → P (sent_on told bytes) (put_on (fate_at fates (length told.air)) (length told.air) traffic) ts
  pub drops : (told : Told) (traffic : Traffic) (ts : List Taking) (place : ℕ) (rest : List ℕ)
      → traffic.queue ≡ place ∷ rest → hub_bytes told (slice_get told.air place) ≡ None
      → heard_by told (slice_get told.air place) ≡ None → P told traffic ts
      → P told (record traffic { queue = rest; held = one_more traffic.held }) (ts ++ Dropped place ∷ [])
  pub hears : (told new : Told) (traffic : Traffic) (ts : List Taking) (place : ℕ) (rest : List ℕ)
      → traffic.queue ≡ place ∷ rest → heard_by told (slice_get told.air place) ≡ Some new
      → length new.air ≡ length told.air → P told traffic ts
      → P new (record traffic { queue = rest }) (ts ++ ByBoard place ∷ [])
  pub answers : (told new : Told) (traffic : Traffic) (ts : List Taking) (place : ℕ) (rest : List ℕ)
      → traffic.queue ≡ place ∷ rest → heard_by told (slice_get told.air place) ≡ Some new
      → length new.air ≡ length told.air + 1 → P told traffic ts
      → P new (put_on (fate_at fates (length told.air)) (length told.air) (record traffic { queue = rest }))
      (ts ++ ByBoard place ∷ [])
  pub hands : (told : Told) (traffic : Traffic) (ts : List Taking) (place : ℕ) (rest : List ℕ)
      → traffic.queue ≡ place ∷ rest → P told traffic ts
      → P told (record traffic { queue = rest }) (ts ++ ByHub place ∷ [])

-- of a link
abbrev pub AtLink : (Told → Traffic → List Taking → Type 0) → Network → List Taking → Type 0
AtLink P net ts = P net.told net.traffic ts

front_is_nothing : (net : Network) → QuietReceipt net → front (all_taken (with_call_counted net)) ≡ Nothing
front_is_nothing net quiet = ap (front_of (all_taken (with_call_counted net))) quiet.none

front_is_for_hub : (net : Network) → (got : GotReceipt net)
    → front (all_taken (with_call_counted net)) ≡ ForHub got.place got.bytes
front_is_for_hub net got =
    let mid = all_taken (with_call_counted net) in
    let told = heard_by mid.told (slice_get mid.told.air got.place) in
    ap (front_of mid) got.queue
    ∙ ap (λ (bytes : Option (List ℕ)). front_with (with_queue mid got.rest) got.place bytes told)
    (hub_bytes_some mid.told got.bytes got.place got.there)

-- ---- what no call changes

abbrev pub constants : Network → Fates × List ℕ
constants net = (net.fates, net.fail)

done_constants : (net : Network) (call : Call) → constants (network_after net call) ≡ constants net
done_constants net (Send bytes) = refl
done_constants net Receive = elim (receipt_cases net) [
  | inl quiet ↦ ap (λ (r : Receipt). constants r.after) quiet.is
      ∙ ap constants (takes_keep (most_takings (with_call_counted net)) (with_call_counted net))
  | inr got ↦ ap (λ (r : Receipt). constants r.after) got.is
      ∙ ap constants (takes_keep (most_takings (with_call_counted net)) (with_call_counted net))
]
done_constants net RefusedSend = refl
done_constants net (RefusedReceive taken) = ap constants (takes_keep taken (with_call_counted net))

constants_by : (net : Network) (call : Call) (b : Bool)
    → constants (cond b (with_fault net) (network_after net call)) ≡ constants net
constants_by net call true = refl
constants_by net call false = done_constants net call

pub constants_stay : (net : Network) (call : Call) → constants (after_call net call) ≡ constants net
constants_stay net call = constants_by net call (fails net)

fates_stay : (net : Network) (call : Call) → (after_call net call).fates ≡ net.fates
fates_stay net call = ap (λ (p : Fates × List ℕ). p.0) (constants_stay net call)

module _ (fates : Fates) (P : Told → Traffic → List Taking → Type 0) (kept : IsKept fates P) where
  one_kept : (net after : Network) (taking : Taking) (ts : List Taking) → net.fates ≡ fates
      → WasDropped net after taking ⊎ WasHeard net after taking → AtLink P net ts
      → AtLink P after (ts ++ taking ∷ [])
  one_kept net after taking ts same (inl was) is =
      let moved = kept.drops net.told net.traffic ts was.place was.rest was.queue was.no_hub was.no_board is in
      rw (was.told, was.traffic, was.taking_is) moved
  one_kept net after taking ts same (inr was) is = elim was.carried [
    | inl un ↦ (let moved = kept.hears net.told after.told net.traffic ts was.place was.rest was.queue was.by_board
        un.size is in rw (un.traffic, was.taking_is) moved)
    | inr an ↦ (let moved = kept.answers net.told after.told net.traffic ts was.place was.rest was.queue was.by_board
        an.size is in rw (an.traffic, was.taking_is, same) moved)
  ]

  takes_by : (k : ℕ) (net : Network) (ts : List Taking) (f : Front) → front net ≡ f → net.fates ≡ fates
      → AtLink P net ts
      → ((after : Network) (later : List Taking) → after.fates ≡ fates → AtLink P after later
      → AtLink P (takes k after) (later ++ takings k after))
      → AtLink P (takes (suc k) net) (ts ++ takings (suc k) net)
  takes_by k net ts Nothing is same here more = rw (is, append-nil ts) here
  takes_by k net ts (ForHub place bytes) is same here more = rw (is, append-nil ts) here
  takes_by k net ts (Taken taking after) is same here more =
      let stay : after.fates ≡ fates = ap (λ (n : Network). n.fates) (taken_keeps net after taking is) ∙ same in
      let moved = more after (ts ++ taking ∷ []) stay (one_kept net after taking ts same (was_taken net after taking is)
      here) in
      rw is (subst (AtLink P (takes k after)) (append_assoc ts (taking ∷ []) (takings k after)) moved)

  takes_kept : (k : ℕ) (net : Network) (ts : List Taking) → net.fates ≡ fates → AtLink P net ts
      → AtLink P (takes k net) (ts ++ takings k net)
  takes_kept zero net ts same here = rw (append-nil ts) here
  takes_kept (suc k) net ts same here = takes_by k net ts (front net) refl same here (takes_kept k)

  -- a receive, where it was quiet and where it handed out one
  quiet_kept : (net : Network) (ts : List Taking) → net.fates ≡ fates → AtLink P net ts → QuietReceipt net
      → AtLink P (network_receipt net).after (ts ++ taken_by net Receive)
  quiet_kept net ts same here quiet =
      let mid = all_taken (with_call_counted net) in
      let some = takings (most_takings (with_call_counted net)) (with_call_counted net) in
      let moved = takes_kept (most_takings (with_call_counted net)) (with_call_counted net) ts same here in
      let none : handing_out (front mid) ≡ [] = ap handing_out (front_is_nothing net quiet) in
      rw (quiet.is, none, append-nil some) moved

  got_kept : (net : Network) (ts : List Taking) → net.fates ≡ fates → AtLink P net ts → GotReceipt net
      → AtLink P (network_receipt net).after (ts ++ taken_by net Receive)
  got_kept net ts same here got =
      let mid = all_taken (with_call_counted net) in
      let some = takings (most_takings (with_call_counted net)) (with_call_counted net) in
      let moved = takes_kept (most_takings (with_call_counted net)) (with_call_counted net) ts same here in
      let last = kept.hands mid.told mid.traffic (ts ++ some) got.place got.rest got.queue moved in
      let one : handing_out (front mid) ≡ ByHub got.place ∷ [] = ap handing_out (front_is_for_hub net got) in
      rw (got.is, one) (subst (P mid.told (record mid.traffic { queue = got.rest }))
      (append_assoc ts some (ByHub got.place ∷ [])) last)

  done_kept : (net : Network) (call : Call) (ts : List Taking) → net.fates ≡ fates → AtLink P net ts
      → AtLink P (network_after net call) (ts ++ taken_by net call)
  done_kept net (Send bytes) ts same here =
      rw (append-nil ts) (rw same (kept.sends net.told net.traffic ts bytes here))
  done_kept net Receive ts same here = elim (receipt_cases net) [
    | inl quiet ↦ quiet_kept net ts same here quiet
    | inr got ↦ got_kept net ts same here got
  ]
  done_kept net RefusedSend ts same here = rw (append-nil ts) here
  done_kept net (RefusedReceive taken) ts same here = takes_kept taken (with_call_counted net) ts same here

  call_by : (net : Network) (call : Call) (ts : List Taking) (b : Bool) → net.fates ≡ fates → AtLink P net ts
      → AtLink P (cond b (with_fault net) (network_after net call)) (ts ++ cond b [] (taken_by net call))
  call_by net call ts true same here = rw (append-nil ts) here
  call_by net call ts false same here = done_kept net call ts same here

  pub calls_kept : (calls : List Call) (net : Network) (ts : List Taking) → net.fates ≡ fates → AtLink P net ts
      → AtLink P (after_calls net calls) (ts ++ all_takings net calls)
  calls_kept [] net ts same here = rw (append-nil ts) here
  calls_kept (call ∷ calls) net ts same here =
      let moved = calls_kept calls (after_call net call) (ts ++ taken_in net call) (fates_stay net call ∙ same)
      (call_by net call ts (fails net) same here) in
      subst (AtLink P (after_calls net (call ∷ calls))) (append_assoc ts (taken_in net call)
      (all_takings (after_call net call) calls)) moved
