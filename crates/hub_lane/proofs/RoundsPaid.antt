-- A round, event by event.
use Rattle.std.proofs.Common.{◌≡◌, ℕ, zero, suc, ◌+◌, ◌*◌, ◌-◌, ◌≤◌, Bool, true, false, cond, ◌||◌}
use Rattle.std.proofs.Common.{List, [], ◌∷◌, ◌++◌, length, map}
use Rattle.std.proofs.Common.{Option, Some, None, refl, sym, ap, ◌∙◌, subst, arith, inl, inr, ◌⊎◌, length-append}
use Rattle.std.proofs.Common.{if◌then◌else◌}
use Rattle.std.proofs.lemmas.List.{length-map}
use Rattle.std.proofs.lemmas.Bool.{le-leb}
use Rattle.std.proofs.Math.Nat.{mul-add}
use Rattle.std.proofs.lemmas.Option.{none-some}
use Rattle.std.specs.Prelude.{IfSome, nat_le, nat_lt}
use Rattle.std.specs.List.{AllByRecursion, slice_get}
use Rattle.ipb_base.specs.Faults.{Rose}
use Rattle.packet_ids.specs.Identifier.{identifier_at}
use Rattle.world_model.specs.declared.datagram.Datagram.{Datagram}
use Rattle.world_model.specs.declared.datagram.Direction.TheVariants as goes
use Rattle.world_model.specs.declared.offered.Offered.{Offered}
use Rattle.world_model.specs.declared.offered.OpenPlace.{OpenPlace}
use Rattle.world_model.specs.declared.sending.Sending.TheVariants as sends
use Rattle.world_model.specs.Messages.{ToHub, to_hub}
use Rattle.world_model.specs.Board.{Board, is_too_long}
use Rattle.world_model.specs.Hub.{Hub, give_up, is_waiting, least, low, offer}
use Rattle.world_model.specs.Hub.{place_of, places, recover, after_recovery}
use Rattle.world_model.specs.Hub.{some_queued, some_waited, take_message, want_control, want_status}
use Rattle.world_model.specs.Sends.{Next, Wanted, bytes_to_send, first_send, next_send, opened_place, first_wanted, wanted_or_first}
use Rattle.world_model.specs.Facts.{has}
use Rattle.world_model.proofs.Flushing.{message_cases, send_cases}
use Rattle.world_model.proofs.Hubs.{IsWantedOr, places_map, recover_place, wanted_is}
use Rattle.world_model.proofs.Lists.{either}
use Rattle.links.specs.Telling.{IsGot, IsQuiet, IsReceived, IsSent, Telling}
use Rattle.lane_record.specs.Bounds.{HasReached}
use Rattle.hub_lane.specs.RecoveryBelow.{RecoveryLaws}
use Rattle.hub_lane.specs.PaidRounds.{IsPaid}
use Rattle.hub_lane.specs.UnderWay.{CanRecover, CanTake, IsUnderWay, IsUseful, TellsHub}
use Rattle.hub_lane.specs.UnderWay.{WantsMore, count_executed}
use Rattle.hub_lane.proofs.RoundHeard.{contains_get, nothing_due}
use Rattle.hub_lane.proofs.RoundReceives.{IsHandedUseful, received}
use Rattle.hub_lane.proofs.RoundSends.{HasAll, WantsOr, due_more, sends_on, wants_sent}
use Rattle.ipb_base.specs.Numbers.{payload_of}
use Rattle.ipb_base.proofs.AllLemmas.{all-map}
use Rattle.transaction_codec.specs.Answer.{reply_room}
use Rattle.hub_lane.proofs.LowestPlace.{GoesOn, useful_taken}

-- ---- what stays under way

recover_wants : (executed e : ℕ) (os : List OpenPlace) → WantsMore executed os → WantsMore executed (map (recover e) os)
recover_wants executed e [] is = absurd is
recover_wants executed e (o ∷ os) is =
    let later = map (recover e) os in
    elim is [
      | inl here ↦ inl (either (λ (x : OpenPlace). (x.resend ≡ true) × (1 ≤ x.place) × (x.place ≤ executed)) (nat_lt
          o.place e) (record o { resend = true }) (record o { control = true })
          (λ _. (refl, here.1, here.2)) (λ _. here))
      | inr rest ↦ elim rest [
        | inl next ↦ inr (inl (either (λ (x : OpenPlace). (x.control ≡ true) × (x.place ≡ executed + 1)) (nat_lt
            o.place e) (record o { resend = true }) (record o { control = true })
            (λ _. next) (λ _. (refl, next.1))))
        | inr more ↦ inr (inr (recover_wants executed e os more))
      ]
    ]

control_wants : (executed : ℕ) (os : List OpenPlace) → WantsMore executed os → WantsMore executed (map want_control os)
control_wants executed [] is = absurd is
control_wants executed (o ∷ os) is = elim is [
  | inl here ↦ inl here
  | inr rest ↦ elim rest [ inl next ↦ inr (inl (refl, next.1)) | inr more ↦ inr (inr (control_wants executed os more)) ]
]

same_has : (ps qs : List ℕ) → qs ≡ ps → HasAll ps qs
same_has ps qs e place there = subst (λ (l : List ℕ). has place l ≡ true) (sym e) there

-- the round is over, or it goes on as it was
pub record IsSameRound (hub after : Hub) (t : Telling) : Type 0 where
  pub requests : after.status_requests ≡ hub.status_requests
  pub open_as : length after.open_places ≡ length hub.open_places
  pub way : IsUnderWay hub t → IsUnderWay after t

abbrev pub OverOr : Hub → Telling → Hub → Type 0
OverOr hub t after = (after.status_requests ≡ 0) ⊎ IsSameRound hub after t

recovered_round : (hub : Hub) (t : Telling) (e : ℕ) → IsSameRound hub (after_recovery hub (Some e)) t
recovered_round hub t e = record {
  requests = refl;
  open_as = length-map hub.open_places (recover e);
  way = λ way. elim way [
    | inl status ↦ inl status
    | inr rest ↦ elim rest [
      | inl wants ↦ inr (inl (recover_wants (count_executed t.told.board) e hub.open_places wants))
      | inr due ↦ inr (inr (due_more hub.first (places hub.open_places) (places (map (recover e) hub.open_places)) t
          (same_has (places hub.open_places) (places (map (recover e) hub.open_places)) (places_map (recover e)
          hub.open_places (recover_place e))) due))
    ]
  ];
}

message_round : (hub : Hub) (t : Telling) (m : Option ToHub) → OverOr hub t (take_message hub m)
message_round hub t m = message_cases (OverOr hub t) hub m
    (inr (record { requests = refl; open_as = refl; way = λ way. way }))
    (λ told. inr (recovered_round hub t told))
    (λ id words o found. inl refl)

-- ---- what is paid

reached_less : (m n count : ℕ) → m ≤ n → HasReached n count → HasReached m count
reached_less m n count le is = omega (arith, le, is)

pub reached_later : (n before now : ℕ) → before ≤ now → HasReached n before → HasReached n now
reached_later n before now le is = omega (arith, le, is)

reached_rose : (n before now : ℕ) → HasReached n before → Rose before now → HasReached (n + 1) now
reached_rose n before now is rose = omega (arith, is, rose)

one_back : (base c : ℕ) → 1 ≤ c → base + (c - 1) + 1 ≡ base + c
one_back base c some = omega (arith, some)

-- the round is over
over_paid : (rounds g : ℕ) (hub after : Hub) (held : ℕ) (t : Telling) → after.status_requests ≡ 0
    → HasReached (rounds * g + (hub.status_requests - 1)) held → IsPaid rounds g after held t
over_paid rounds g hub after held t over paid =
    let base = rounds * g in
    record {
      paid = reached_less (base + (after.status_requests - 1)) (base + (hub.status_requests - 1)) held (omega (
        arith,
        over,
      )) paid;
      some_open = λ asked. absurd (omega (arith, asked, over));
      under_way = λ asked. absurd (omega (arith, asked, over));
    }

-- it goes on
same_paid : (rounds g : ℕ) (hub after : Hub) (held : ℕ) (t : Telling) → IsSameRound hub after t
    → 1 ≤ length hub.open_places → HasReached (rounds * g + (hub.status_requests - 1)) held
    → IsUnderWay after t ⊎ HasReached (rounds * g + hub.status_requests) held → IsPaid rounds g after held t
same_paid rounds g hub after held t same some paid way = record {
  paid = subst (λ (c : ℕ). HasReached (rounds * g + (c - 1)) held) (sym same.requests) paid;
  some_open = λ asked. (let e = same.open_as in omega (arith, e, some));
  under_way = λ asked. subst (λ (c : ℕ). IsUnderWay after t ⊎ HasReached (rounds * g + c) held) (sym same.requests) way;
}

asked_or_not : (n : ℕ) → (n ≡ 0) ⊎ (1 ≤ n)
asked_or_not zero = inl refl
asked_or_not (suc n) = inr (omega arith)

-- no round is under way
idle_paid : (rounds g : ℕ) (hub after : Hub) (before held : ℕ) (old t : Telling) → before ≤ held
    → hub.status_requests ≡ 0 → OverOr hub t after → IsPaid rounds g hub before old → IsPaid rounds g after held t
idle_paid rounds g hub after before held old t le none over is =
    let requests : after.status_requests ≡ 0 = elim over [ inl e ↦ e | inr same ↦ same.requests ∙ none ] in
    over_paid rounds g hub after held t requests (reached_later (rounds * g + (hub.status_requests - 1)) before held
    le is.paid)

too_long_same : (old new : Board) (body : List ℕ) → new.mtu ≡ old.mtu → is_too_long new body ≡ is_too_long old body
too_long_same old new body e = ap (λ (mtu : ℕ). nat_lt (payload_of mtu) (length body + 1) || nat_lt (payload_of mtu)
    (reply_room body + 1)) e

pub fits_on : (old new : Board) (sent : List Offered) → new.mtu ≡ old.mtu → AllByRecursion (CanTake old) sent
    → AllByRecursion (CanTake new) sent
fits_on old new sent e is = all-map (CanTake old) (CanTake new) sent (λ o fits. too_long_same old new o.body e ∙
    fits) is

only_one : (x y j : ℕ) → slice_get (x ∷ []) j ≡ Some y → x ≡ y
only_one x y zero e = cc
only_one x y (suc j) e = absurd (cc)

pub mul_more : (r g : ℕ) → r * (g + 1) ≡ r * g + r
mul_more r g = let a : r * 1 ≡ r = omega arith in mul-add r g 1 ∙ ap (λ (z : ℕ). r * g + z) a

same_count : (os ps : List OpenPlace) → places ps ≡ places os → length os ≤ length ps
same_count os ps e = let a = length-map os place_of in let b = length-map ps place_of in let c = ap length e in omega
    (arith, a, b, c)

-- a send changes neither the round nor takes an open place away
abbrev pub SentRound : Hub → Next → Type 0
SentRound hub next = (next.hub.status_requests ≡ hub.status_requests) × (length hub.open_places ≤ length
    next.hub.open_places)

sent_round : (hub : Hub) (next : Next) → next_send hub ≡ Some next → SentRound hub next
sent_round hub next e = subst (λ (r : Option Next). IfSome r (SentRound hub)) e
    (send_cases (SentRound hub) hub (refl, omega arith)
    (λ w wants. (
      refl,
      same_count hub.open_places w.open_places (subst (IsWantedOr hub.first hub.open_places) wants
          (wanted_is hub.first hub.open_places)).same,
    ))
    (λ o later queue room. (
      refl,
      (let e = length-append hub.open_places (opened_place (length hub.sent + 1) ∷ []) in omega
          (arith, e)),
    )))

no_wish_by : (hub : Hub) (r : Option Wanted) → wanted_or_first hub r ≡ None → r ≡ None
no_wish_by hub None e = refl
no_wish_by hub (Some w) e = absurd (cc)

no_first : (hub : Hub) → hub.status_wanted ≡ false → first_wanted hub.first hub.open_places ≡ None
    → next_send hub ≡ first_send hub hub.queue
no_first hub quiet none =
    ap (λ (b : Bool). if b then Some (record { send = sends.Status; hub = record hub { status_wanted = false } }) else
    wanted_or_first hub (first_wanted hub.first hub.open_places)) quiet
    ∙ ap (wanted_or_first hub) none

-- nothing is wanted, and nothing is due
no_wish : (hub : Hub) → next_send hub ≡ None → (hub.status_wanted ≡ false) × (first_wanted hub.first hub.open_places ≡ None)
no_wish hub none =
    either (λ (r : Option Next). r ≡ None
    → (hub.status_wanted ≡ false) × (first_wanted hub.first hub.open_places ≡ None)) hub.status_wanted
    (Some (record { send = sends.Status; hub = record hub { status_wanted = false } })) (wanted_or_first hub (first_wanted
    hub.first hub.open_places))
    (λ status e. absurd (cc))
    (λ quiet e. (quiet, no_wish_by hub (first_wanted hub.first hub.open_places) e))
    none

nothing_wanted : (hub : Hub) (t : Telling) → next_send hub ≡ None → t.due ≡ [] → IsUnderWay hub t → ⊥
nothing_wanted hub t none empty way =
    let no = no_wish hub none in
    elim way [
      | inl status ↦ absurd (let a = no.0 in cc)
      | inr rest ↦ elim rest [
        | inl wants ↦ subst (WantsOr hub.first (count_executed t.told.board) hub.open_places) no.1 (wants_sent hub.first (count_executed
            t.told.board) hub.open_places wants)
        | inr due ↦ nothing_due t.due due.place empty due.due
      ]
    ]

-- where somebody waits and nothing can be sent, a place is open
first_none : (hub : Hub) (queue : List Offered) → hub.open_places ≡ [] → 1 ≤ hub.window
    → first_send hub queue ≡ None → some_queued queue ≡ false
first_none hub [] empty window e = refl
first_none hub (o ∷ later) empty window e =
    let place = length hub.sent + 1 in
    let low_is : low hub ≡ length hub.sent + 1 = ap (λ (os : List OpenPlace). least (places os) (length hub.sent + 1))
    empty in
    let room : nat_le (place + 1) (hub.window + low hub) ≡ true = le-leb (place + 1) (hub.window + low hub) (omega
    (arith, low_is, window)) in
    let next : Next = record {
      send = sends.Control place (identifier_at hub.first place);
      hub = record hub { sent = hub.sent ++ o ∷ []; queue = later; open_places = hub.open_places ++ opened_place place ∷ [] };
    } in
    let sent : first_send hub (o ∷ later) ≡ Some next = ap (λ (b : Bool). if b then Some next else None) room in
    absurd (none-some next (sym e ∙ sent))

waiting_open : (hub : Hub) (os : List OpenPlace) → hub.open_places ≡ os → next_send hub ≡ None
    → is_waiting hub ≡ true → 1 ≤ hub.window → 1 ≤ length hub.open_places
waiting_open hub (o ∷ os) e none waits window = let l = ap length e in omega (arith, l)
waiting_open hub [] e none waits window =
    let no = no_wish hub none in
    let first : first_send hub hub.queue ≡ None = sym (no_first hub no.0 no.1) ∙ none in
    let unqueued = first_none hub hub.queue e window first in
    let unwaited : some_waited hub.open_places ≡ false = ap some_waited e in
    absurd (let f : is_waiting hub ≡ false = ap (λ (b : Bool). b || some_waited hub.open_places) unqueued ∙ unwaited
    in cc)

module _ (below : RecoveryLaws) where
  can_on : (hub : Hub) (old new : Telling) (by_hub : List ℕ) (before now : ℕ) → CanRecover hub old
      → IsReceived by_hub before now old new → CanRecover hub new
  can_on hub old new by_hub before now can is =
      let board = below.board old.told new.told is.by_board in
      record {
        joined = below.heard hub old.told new.told can.joined is.by_board;
        held = subst (λ (n : ℕ). hub.window ≤ n) (sym (ap (λ (b : Board). b.buffers) board)) can.held;
        fits = fits_on old.told.board new.told.board hub.sent (ap (λ (b : Board). b.mtu) board) can.fits;
      }

  -- a datagram was handed out
  handed_at : (hub : Hub) (bytes : List ℕ) (before now : ℕ) (old new : Telling) → CanRecover hub new
      → (is : IsGot bytes before now old new) → IsHandedUseful below hub (is.place ∷ []) new
      → 1 ≤ hub.status_requests → 1 ≤ length hub.open_places
      → GoesOn (count_executed new.told.board) (take_message hub (to_hub bytes))
  handed_at hub bytes before now old new can is useful asked some =
      let place_is = only_one is.place useful.place useful.handed.0 (contains_get (is.place ∷ []) useful.place
      useful.handed) in
      let both : Some useful.at.d ≡ Some (record { direction = goes.ToHub; bytes = bytes; birth = is.there.birth }) =
      sym useful.at.there ∙ (ap (slice_get new.told.air) (sym place_is) ∙ is.there.there) in
      let d_is : useful.at.d ≡ record { direction = goes.ToHub; bytes = bytes; birth = is.there.birth } = cc in
      let tells : TellsHub hub.first (places hub.open_places) new.told.board (to_hub bytes) =
      subst (λ (d : Datagram). IsUseful hub.first (places hub.open_places) new.told.board d.direction d.bytes) d_is
      useful.at.useful in
      useful_taken hub new (to_hub bytes) can asked some tells

  round_got : (rounds g : ℕ) (hub : Hub) (bytes : List ℕ) (before now : ℕ) (old new : Telling) → CanRecover hub old
      → before ≤ now → IsGot bytes before now old new → 1 ≤ hub.status_requests → IsPaid rounds g hub before old
      → IsPaid rounds g (take_message hub (to_hub bytes)) now new
  round_got rounds g hub bytes before now old new can le is asked paid =
      let after = take_message hub (to_hub bytes) in
      let base = rounds * g in
      let some = paid.some_open asked in
      let early = reached_later (base + (hub.status_requests - 1)) before now le paid.paid in
      elim (message_round hub new (to_hub bytes)) [
        | inl over ↦ over_paid rounds g hub after now new over early
        | inr same ↦ elim (paid.under_way asked) [
          | inr late ↦ same_paid rounds g hub after now new same some early (inr (reached_later (base +
              hub.status_requests) before now le late))
          | inl way ↦ elim (received below hub (is.place ∷ []) before now old new (record {
            joined = can.joined;
            most
                = can.held;
          }) way is.received) [
            | inl rose ↦ same_paid rounds g hub after now new same some early
                (inr (subst (λ (n : ℕ). HasReached n now) (one_back base hub.status_requests asked) (reached_rose
                (base + (hub.status_requests - 1)) before now paid.paid rose)))
            | inr rest ↦ elim rest [
              | inl on ↦ same_paid rounds g hub after now new same some early (inl (same.way on))
              | inr useful ↦ elim (handed_at hub bytes before now old new (can_on hub old new (is.place ∷ []) before
                  now can is.received) is useful asked some) [
                    | inl over ↦ over_paid rounds g hub after now new over early
                    | inr wants ↦ same_paid rounds g hub after now new same some early (inl (inr (inl wants)))
                  ]
            ]
          ]
        ]
      ]

  pub paid_got : (rounds g : ℕ) (hub : Hub) (bytes : List ℕ) (before now : ℕ) (old new : Telling)
      → CanRecover hub old → before ≤ now → IsGot bytes before now old new → IsPaid rounds g hub before old
      → IsPaid rounds g (take_message hub (to_hub bytes)) now new
  paid_got rounds g hub bytes before now old new can le is paid = elim (asked_or_not hub.status_requests) [
    | inl none ↦ idle_paid rounds g hub (take_message hub (to_hub bytes)) before now old new le none (message_round
        hub new (to_hub bytes)) paid
    | inr asked ↦ round_got rounds g hub bytes before now old new can le is asked paid
  ]

  -- a receive that hands nothing out
  pub paid_heard : (rounds g : ℕ) (hub : Hub) (before now : ℕ) (old new : Telling) → CanRecover hub old
      → before ≤ now → IsReceived [] before now old new → IsPaid rounds g hub before old → IsPaid rounds g hub now new
  paid_heard rounds g hub before now old new can le is paid = record {
    paid = reached_later (rounds * g + (hub.status_requests - 1)) before now le paid.paid;
    some_open = paid.some_open;
    under_way = λ asked. elim (paid.under_way asked) [
      | inr late ↦ inr (reached_later (rounds * g + hub.status_requests) before now le late)
      | inl way ↦ elim (received below hub [] before now old new (record { joined = can.joined; most = can.held }) way
          is) [
            | inl rose ↦ inr (subst (λ (n : ℕ). HasReached n now) (one_back (rounds * g) hub.status_requests asked)
                (reached_rose (rounds * g + (hub.status_requests - 1)) before now paid.paid rose))
            | inr rest ↦ elim rest [
              | inl on ↦ inl on
              | inr useful ↦ absurd (nothing_due [] useful.place refl
                  useful.handed)
            ]
          ]
    ];
  }

  -- a send
  pub paid_sent : (rounds g : ℕ) (hub : Hub) (next : Next) (before now : ℕ) (old new : Telling) → CanRecover hub old
      → before ≤ now → next_send hub ≡ Some next → IsSent (bytes_to_send next.hub next.send) before now old new
      → IsPaid rounds g hub before old → IsPaid rounds g next.hub now new
  paid_sent rounds g hub next before now old new can le e is paid =
      let same = sent_round hub next e in
      record {
        paid = subst (λ (c : ℕ). HasReached (rounds * g + (c - 1)) now) (sym same.0) (reached_later (rounds * g +
            (hub.status_requests - 1)) before now le paid.paid);
        some_open = λ asked. (let s = paid.some_open (omega (arith, asked, same.0)) in let longer = same.1 in omega
            (arith, s, longer));
        under_way = λ asked.
            let asked_before : 1 ≤ hub.status_requests = omega (arith, asked, same.0) in
            subst (λ (c : ℕ). IsUnderWay next.hub new ⊎ HasReached (rounds * g + c) now) (sym same.0)
            (elim (paid.under_way asked_before) [
              | inr late ↦ inr (reached_later (rounds * g + hub.status_requests) before now le late)
              | inl way ↦ elim (sends_on below hub next before now old new can e way is) [
                | inl on ↦ inl on
                | inr rose ↦ inr (subst (λ (n : ℕ). HasReached n now) (one_back (rounds * g) hub.status_requests
                    asked_before) (reached_rose (rounds * g + (hub.status_requests - 1)) before now paid.paid rose))
              ]
            ]);
      }

  -- a quiet receive: the round is paid
  quiet_late : (rounds g : ℕ) (hub : Hub) (before now : ℕ) (old new : Telling) → CanRecover hub old → before ≤ now
      → next_send hub ≡ None → IsQuiet before now old new → IsPaid rounds g hub before old
      → HasReached (rounds * g + hub.status_requests) now
  quiet_late rounds g hub before now old new can le none is paid =
      let heard = paid_heard rounds g hub before now old new can le is.received paid in
      elim (asked_or_not hub.status_requests) [
        | inl zero_is ↦ reached_less (rounds * g + hub.status_requests) (rounds * g + (hub.status_requests - 1)) now
            (omega (arith, zero_is)) heard.paid
        | inr asked ↦ elim (heard.under_way asked) [
          | inr late ↦ late
          | inl way ↦ absurd (nothing_wanted hub new none is.none_due way)
        ]
      ]

  pub paid_quiet : (rounds g : ℕ) (hub : Hub) (before now : ℕ) (old new : Telling) → CanRecover hub old
      → before ≤ now → next_send hub ≡ None → is_waiting hub ≡ true → 1 ≤ hub.window → IsQuiet before now old new
      → IsPaid rounds g hub before old → IsPaid rounds g (want_status hub) now new
  paid_quiet rounds g hub before now old new can le none waits window is paid =
      let late = quiet_late rounds g hub before now old new can le none is paid in
      let some = waiting_open hub hub.open_places refl none waits window in
      record {
        paid = reached_less (rounds * g + (hub.status_requests + 1 - 1)) (rounds * g + hub.status_requests) now (omega
            arith) late;
        some_open = λ asked. some;
        under_way = λ asked. inl (inl refl);
      }

  pub paid_gave_up : (rounds g : ℕ) (hub : Hub) (before now : ℕ) (old new : Telling) → CanRecover hub old
      → before ≤ now → next_send hub ≡ None → rounds ≤ hub.status_requests → IsQuiet before now old new
      → IsPaid rounds g hub before old → IsPaid rounds (g + 1) (give_up hub) now new
  paid_gave_up rounds g hub before now old new can le none last is paid =
      let late = quiet_late rounds g hub before now old new can le none is paid in
      let more = mul_more rounds g in
      record {
        paid = reached_less (rounds * (g + 1) + (0 - 1)) (rounds * g + hub.status_requests) now (omega (
          arith,
          more,
          last,
        )) late;
        some_open = λ asked. absurd (omega (arith, asked));
        under_way = λ asked. absurd (omega (arith, asked));
      }

-- ---- an offer, and the beginning

offer_by : (rounds g : ℕ) (hub : Hub) (held : ℕ) (t : Telling) (offered : Offered) (b : Bool) → hub.gave_up ≡ b
    → IsPaid rounds g hub held t
    → IsPaid rounds g (record hub {
      queue = hub.queue ++ offered ∷ [];
      open_places = cond b (map want_control
          hub.open_places) hub.open_places;
      gave_up = false;
    }) held t
offer_by rounds g hub held t offered true e is = record {
  paid = is.paid;
  some_open = λ asked. (let s = is.some_open asked in let l = length-map hub.open_places want_control in omega (
    arith,
    s,
    l,
  ));
  under_way = λ asked. elim (is.under_way asked) [
    | inr late ↦ inr late
    | inl way ↦ inl (elim way [
      | inl status ↦ inl status
      | inr rest ↦ elim rest [
        | inl wants ↦ inr (inl (control_wants (count_executed t.told.board) hub.open_places wants))
        | inr due ↦ inr (inr (due_more hub.first (places hub.open_places) (places (map want_control hub.open_places)) t
            (same_has (places hub.open_places) (places (map want_control hub.open_places)) (places_map want_control
            hub.open_places (λ o. refl))) due))
      ]
    ])
  ];
}
offer_by rounds g hub held t offered false e is = record {
  paid = is.paid;
  some_open = is.some_open;
  under_way =
      is.under_way;
}

pub paid_offered : (rounds g : ℕ) (hub : Hub) (held : ℕ) (t : Telling) (offered : Offered)
    → IsPaid rounds g hub held t → IsPaid rounds g (offer hub offered) held t
paid_offered rounds g hub held t offered is = offer_by rounds g hub held t offered hub.gave_up refl is

pub paid_begins : (rounds : ℕ) (hub : Hub) (held : ℕ) (t : Telling) → hub.status_requests ≡ 0
    → IsPaid rounds 0 hub held t
paid_begins rounds hub held t none = record {
  paid = omega (arith, none);
  some_open = λ asked. absurd (omega (arith, asked, none));
  under_way = λ asked. absurd (omega (arith, asked, none));
}

pub paid_give_ups : (rounds g : ℕ) (hub : Hub) (held : ℕ) (t : Telling) → IsPaid rounds g hub held t
    → HasReached (rounds * g) held
paid_give_ups rounds g hub held t is = reached_less (rounds * g) (rounds * g + (hub.status_requests - 1)) held (omega
    arith) is.paid

-- ---- what is under way

module _ (below : RecoveryLaws) where
  pub way_got : (hub : Hub) (bytes : List ℕ) (before now : ℕ) (old new : Telling) → CanRecover hub old
      → 1 ≤ hub.status_requests → 1 ≤ length hub.open_places → IsGot bytes before now old new → IsUnderWay hub old
      → Rose before now ⊎ ((take_message hub (to_hub bytes)).status_requests ≡ 0) ⊎ IsUnderWay (take_message hub
      (to_hub bytes)) new
  way_got hub bytes before now old new can asked some is way =
      elim (received below hub (is.place ∷ []) before now old new (record { joined = can.joined; most = can.held })
      way is.received) [
        | inl rose ↦ inl rose
        | inr rest ↦ elim rest [
          | inl on ↦ elim (message_round hub new (to_hub bytes)) [
            | inl over ↦ inr (inl over)
            | inr same ↦ inr (inr
                (same.way on))
          ]
          | inr useful ↦ elim (handed_at below hub bytes before now old new (can_on below hub old new (is.place ∷ [])
              before now can is.received) is useful asked some) [
                | inl over ↦ inr (inl over)
                | inr wants ↦ inr (inr (inr (inl wants)))
              ]
        ]
      ]

  pub way_quiet : (hub : Hub) (before now : ℕ) (old new : Telling) → CanRecover hub old → next_send hub ≡ None
      → IsQuiet before now old new → IsUnderWay hub old → Rose before now
  way_quiet hub before now old new can none is way =
      elim (received below hub [] before now old new (record { joined = can.joined; most = can.held }) way
      is.received) [
        | inl rose ↦ rose
        | inr rest ↦ elim rest [
          | inl on ↦ absurd (nothing_wanted hub new none is.none_due on)
          | inr useful ↦ absurd (nothing_due [] useful.place refl useful.handed)
        ]
      ]
