-- The rounds of a hub over a link that tells, call by call.
use Rattle.std.proofs.Common.{◌≡◌, ℕ, ◌+◌, ◌*◌, ◌≤◌, Bool, true, false, cond, List, [], ◌∷◌, length}
use Rattle.std.proofs.Common.{map, Option, Some, None, refl, sym, ap, ◌∙◌, subst, arith, ◌||◌}
use Rattle.std.specs.Prelude.{IfSome, min, nat_lt}
use Rattle.std.proofs.lemmas.Bool.{ltb-true}
use Rattle.std.specs.List.{AllByRecursion}
use Rattle.ipb_base.specs.Numbers.{payload_of}
use Rattle.ipb_base.proofs.AllLemmas.{AllByRecursion-append}
use Rattle.transaction_codec.specs.Answer.{reply_room}
use Rattle.world_model.specs.declared.offered.Offered.{Offered}
use Rattle.world_model.specs.declared.offered.OpenPlace.{OpenPlace}
use Rattle.world_model.specs.Messages.{ToHub, to_hub}
use Rattle.world_model.specs.Board.{Board}
use Rattle.world_model.specs.Hub.{Hub, abandoned_place, after_handing_out, give_up, hear_quiet, is_waiting, new_hub, offer, some_waited}
use Rattle.world_model.specs.Hub.{take_message, want_status}
use Rattle.world_model.specs.Links.{IsJoined, Told}
use Rattle.world_model.specs.Sends.{Next, bytes_to_send, next_send}
use Rattle.world_model.proofs.Flushing.{message_cases, quiet_cases, send_cases}
use Rattle.status_packet.specs.Range.{IsBufferCount}
use Rattle.world_model.specs.Settings.{AreLimits, Limits}
use Rattle.links.specs.Telling.{IfTelling, IsGot, IsQuiet, IsSent, Telling}
use Rattle.lane_record.specs.declared.outcome.Outcome.{Outcome}
use Rattle.lane_record.specs.Bounds.{HasReached}
use Rattle.hub_lane.specs.PaidRounds.{IsPaid}
use Rattle.hub_lane.specs.UnderWay.{CanRecover, CanTake}
use Rattle.hub_lane.proofs.RoundsPaid.{fits_on, reached_later}
use Rattle.hub_lane.specs.declared.answers.Pumped.{Pumped}
use Rattle.hub_lane.specs.declared.answers.Pumped.TheVariants.{Reply, Status, Stray, Quiet, Idle, LinkDown}
use Rattle.hub_lane.specs.Hearing.{IsHeardAs, give_ups_after, give_ups_of}
use Rattle.hub_lane.specs.Below.{RoundLaws}
use Rattle.hub_lane.specs.Lanes.{BoardStatus, FitsBoard, IsGreeted, board_of}
use Rattle.hub_lane.specs.Rounds.{HasPaid, PaysFor, PaysOn, PaysRounds}
use Rattle.hub_lane.specs.Standing.{GoesOn, IsRunning, IsStanding}
use Rattle.hub_lane.proofs.Standing.{SameBoard, after_call, if_told}

pub can_recover : (mtu rounds g : ℕ) (hub : Hub) (held : ℕ) (t : Telling) → IsJoined hub t.told
    → PaysRounds mtu rounds g hub held t → CanRecover hub t
can_recover mtu rounds g hub held t joined is = record { joined = joined; held = is.holds; fits = is.sent }

-- the hub has other bodies, and the board is the same one
pays_with : (mtu rounds g g_now : ℕ) (old new : Hub) (before now : ℕ) (t u : Telling) → new.window ≡ old.window
    → u.told.board.mtu ≡ t.told.board.mtu → u.told.board.buffers ≡ t.told.board.buffers
    → AllByRecursion (CanTake t.told.board) new.sent → AllByRecursion (CanTake t.told.board) new.queue
    → IsPaid rounds g_now new now u → PaysRounds mtu rounds g old before t → PaysRounds mtu rounds g_now new now u
pays_with mtu rounds g g_now old new before now t u window same holds sent queued paid is = record {
  board = same ∙ is.board;
  some_window = (let w = is.some_window in omega (arith, w, window));
  holds = (let h = is.holds in omega (arith, h, holds, window));
  sent = fits_on t.told.board u.told.board new.sent same sent;
  queued = fits_on t.told.board u.told.board new.queue same queued;
  paid = paid;
}

-- ---- a send

record Moves (P : Offered → Type 0) (hub : Hub) (next : Next) : Type 0 where
  window : next.hub.window ≡ hub.window
  sent : AllByRecursion P next.hub.sent
  queued : AllByRecursion P next.hub.queue

moved : (P : Offered → Type 0) (hub : Hub) (next : Next) → next_send hub ≡ Some next → AllByRecursion P hub.sent
    → AllByRecursion P hub.queue → Moves P hub next
moved P hub next e sent queued = subst (λ (r : Option Next). IfSome r (Moves P hub)) e
    (send_cases (Moves P hub) hub
    (record { window = refl; sent = sent; queued = queued })
    (λ w wants. record { window = refl; sent = sent; queued = queued })
    (λ o later queue room. let all = subst (AllByRecursion P) queue queued in
    record { window = refl; sent = AllByRecursion-append P hub.sent (o ∷ []) sent (all.0, tt); queued = all.1 }))

sent_pays : RoundLaws → (mtu rounds g : ℕ) (hub : Hub) (next : Next) (before now : ℕ) (t u : Telling)
    → next_send hub ≡ Some next → before ≤ now → IsJoined hub t.told
    → IsSent (bytes_to_send next.hub next.send) before now t u → PaysRounds mtu rounds g hub before t
    → PaysRounds mtu rounds g next.hub now u
sent_pays laws mtu rounds g hub next before now t u e le joined sent is =
    let moves = moved (CanTake t.told.board) hub next e is.sent is.queued in
    pays_with mtu rounds g g hub next.hub before now t u moves.window
    (ap (λ (told : Told). told.board.mtu) sent.told) (ap (λ (told : Told). told.board.buffers) sent.told)
    moves.sent moves.queued
    (laws.sent rounds g hub next before now t u (can_recover mtu rounds g hub before t joined is) le e sent is.paid) is

pub both_told : (P Q : Telling → Type 0) (telling : Option Telling) → IfSome telling P → IfSome telling Q
    → IfSome telling (λ t. P t × Q t)
both_told P Q None p q = tt
both_told P Q (Some t) p q = (p, q)

pub pays_sent : RoundLaws → (begin old : Hub) (next : Next) (first_held before now : ℕ)
    (first telling after : Option Telling) → next_send old ≡ Some next → before ≤ now
    → GoesOn first begin telling old
    → IfTelling telling after (IsSent (bytes_to_send next.hub next.send) before now)
    → PaysOn first begin first_held telling old before → PaysOn first begin first_held after next.hub now
pays_sent laws begin old next first_held before now first telling after e le running call pays =
    λ limits outcomes lates mtu rounds g start paid.
    after_call (λ t. IsRunning limits old outcomes lates t × PaysRounds mtu rounds g old before t)
    (PaysRounds mtu rounds g next.hub now) (IsSent (bytes_to_send next.hub next.send) before now) telling after
    (both_told (IsRunning limits old outcomes lates) (PaysRounds mtu rounds g old before) telling
    (running limits outcomes lates start) (pays limits outcomes lates mtu rounds g start paid)) call
    (λ t u is sent. sent_pays laws mtu rounds g old next before now t u e le is.0.reached.joined sent is.1)

-- ---- a receive

record Same (hub after : Hub) : Type 0 where
  window : after.window ≡ hub.window
  sent : after.sent ≡ hub.sent
  queue : after.queue ≡ hub.queue

message_same : (hub : Hub) (message : Option ToHub) → Same hub (take_message hub message)
message_same hub message = message_cases (Same hub) hub message
    (record { window = refl; sent = refl; queue = refl })
    (λ told. record { window = refl; sent = refl; queue = refl })
    (λ id words o found. record { window = refl; sent = refl; queue = refl })

-- once the hub gave up nobody waits
pub none_wait : (os : List OpenPlace) → some_waited (map abandoned_place os) ≡ false
none_wait [] = refl
none_wait (o ∷ os) = none_wait os

same_give_ups : (pumped : Pumped) (hub after : Hub) (message : Option ToHub) (g : ℕ) → IsHeardAs hub message pumped
    → give_ups_of pumped after g ≡ g
same_give_ups (Reply place) hub after message g is = refl
same_give_ups Status hub after message g is = refl
same_give_ups Stray hub after message g is = refl
same_give_ups Quiet hub after message g is = absurd is
same_give_ups Idle hub after message g is = absurd is
same_give_ups LinkDown hub after message g is = absurd is

module _ (laws : RoundLaws) (board : SameBoard) where
  got_pays : (mtu rounds g : ℕ) (hub : Hub) (bytes : List ℕ) (before now : ℕ) (t u : Telling) → before ≤ now
      → IsJoined hub t.told → IsGot bytes before now t u → PaysRounds mtu rounds g hub before t
      → PaysRounds mtu rounds g (take_message hub (to_hub bytes)) now u
  got_pays mtu rounds g hub bytes before now t u le joined got is =
      let same = message_same hub (to_hub bytes) in
      let stays = board t.told u.told got.received.by_board in
      pays_with mtu rounds g g hub (take_message hub (to_hub bytes)) before now t u same.window
      (ap (λ (b : Board). b.mtu) stays) (ap (λ (b : Board). b.buffers) stays)
      (subst (AllByRecursion (CanTake t.told.board)) (sym same.sent) is.sent)
      (subst (AllByRecursion (CanTake t.told.board)) (sym same.queue) is.queued)
      (laws.got rounds g hub bytes before now t u (can_recover mtu rounds g hub before t joined is) le got is.paid) is

  pub got_for : (pumped : Pumped) (hub : Hub) (bytes : List ℕ) (before now : ℕ) (old new : Option Telling)
      → before ≤ now → IsHeardAs hub (to_hub bytes) pumped → IfTelling old new (IsGot bytes before now)
      → PaysFor pumped old hub before new (take_message hub (to_hub bytes)) now
  got_for pumped hub bytes before now old new le heard call = λ limits outcomes lates mtu g start paid.
      subst (λ (n : ℕ). IfSome new (PaysRounds mtu hub.rounds n (take_message hub (to_hub bytes)) now))
      (sym (same_give_ups pumped hub (take_message hub (to_hub bytes)) (to_hub bytes) g heard))
      (after_call (λ t. IsRunning limits hub outcomes lates t × PaysRounds mtu hub.rounds g hub before t)
      (PaysRounds mtu hub.rounds g (take_message hub (to_hub bytes)) now) (IsGot bytes before now) old new
      (both_told (IsRunning limits hub outcomes lates) (PaysRounds mtu hub.rounds g hub before) old start paid) call
      (λ t u is got. got_pays mtu hub.rounds g hub bytes before now t u le is.0.reached.joined got is.1))

  quiet_pays : (mtu g : ℕ) (hub : Hub) (before now : ℕ) (t u : Telling) → before ≤ now → next_send hub ≡ None
      → is_waiting hub ≡ true → IsJoined hub t.told → IsQuiet before now t u
      → PaysRounds mtu hub.rounds g hub before t
      → PaysRounds mtu hub.rounds (give_ups_after (hear_quiet hub) g) (hear_quiet hub) now u
  quiet_pays mtu g hub before now t u le none waits joined quiet is =
      let stays = board t.told u.told quiet.received.by_board in
      let same = ap (λ (b : Board). b.mtu) stays in
      let holds = ap (λ (b : Board). b.buffers) stays in
      let can = can_recover mtu hub.rounds g hub before t joined is in
      quiet_cases (λ (h : Hub). PaysRounds mtu hub.rounds (give_ups_after h g) h now u) hub
      (λ more. subst (λ (n : ℕ). PaysRounds mtu hub.rounds n (want_status hub) now u)
      (sym (ap (λ (b : Bool). cond b g (g + 1)) waits))
      (pays_with mtu hub.rounds g g hub (want_status hub) before now t u refl same holds is.sent is.queued
      (laws.quiet hub.rounds g hub before now t u can le none waits is.some_window quiet is.paid) is))
      (λ last. subst (λ (n : ℕ). PaysRounds mtu hub.rounds n (give_up hub) now u)
      (sym (ap (λ (b : Bool). cond b g (g + 1)) (none_wait hub.open_places)))
      (pays_with mtu hub.rounds g (g + 1) hub (give_up hub) before now t u refl same holds is.sent tt
      (laws.gave_up hub.rounds g hub before now t u can le none last quiet is.paid) is))

  pub quiet_for : (hub : Hub) (before now : ℕ) (old new : Option Telling) → before ≤ now → next_send hub ≡ None
      → is_waiting hub ≡ true → IfTelling old new (IsQuiet before now)
      → PaysFor Quiet old hub before new (hear_quiet hub) now
  quiet_for hub before now old new le none waits call = λ limits outcomes lates mtu g start paid.
      after_call (λ t. IsRunning limits hub outcomes lates t × PaysRounds mtu hub.rounds g hub before t)
      (PaysRounds mtu hub.rounds (give_ups_after (hear_quiet hub) g) (hear_quiet hub) now) (IsQuiet before now) old new
      (both_told (IsRunning limits hub outcomes lates) (PaysRounds mtu hub.rounds g hub before) old start paid) call
      (λ t u is quiet. quiet_pays mtu g hub before now t u le none waits is.0.reached.joined quiet is.1)

-- ---- an exchange

out_pays : (mtu rounds g : ℕ) (hub : Hub) (held : ℕ) (t : Telling) → PaysRounds mtu rounds g hub held t
    → PaysRounds mtu rounds g (after_handing_out hub) held t
out_pays mtu rounds g hub held t is = record {
  board = is.board;
  some_window = is.some_window;
  holds = is.holds;
  sent = is.sent;
  queued = is.queued;
  paid = record { paid = is.paid.paid; some_open = is.paid.some_open; under_way = is.paid.under_way };
}

pub exchanged_pays : (pumped : Pumped) (old mid event hub : Hub) (outcomes : List (Option Outcome))
    (lates : List (Option (List ℕ))) (before between after : Option Telling) (held held_then held_now g g_now : ℕ)
    → mid.rounds ≡ old.rounds
    → hub ≡ after_handing_out event → g_now ≡ give_ups_of pumped event g → GoesOn before old between mid
    → PaysOn before old held between mid held_then → PaysFor pumped between mid held_then after event held_now
    → (limits : Limits) (mtu : ℕ) → IfSome before (IsRunning limits old outcomes lates)
    → IfSome before (PaysRounds mtu old.rounds g old held) → IfSome after (PaysRounds mtu old.rounds g_now hub held_now)
exchanged_pays pumped old mid event hub outcomes lates before between after held held_then held_now g g_now rounds
    hub_is
    g_is running on for limits mtu start paid =
    let then = subst (λ (r : ℕ). IfSome between (PaysRounds mtu r g mid held_then)) (sym rounds)
    (on limits outcomes lates mtu old.rounds g start paid) in
    let now = for limits outcomes lates mtu g (running limits outcomes lates start) then in
    let out = if_told (PaysRounds mtu mid.rounds (give_ups_of pumped event g) event held_now)
    (PaysRounds mtu mid.rounds (give_ups_of pumped event g) (after_handing_out event) held_now) after now
    (λ t is. out_pays mtu mid.rounds (give_ups_of pumped event g) event held_now t is) in
    subst (λ (h : Hub). IfSome after (PaysRounds mtu old.rounds g_now h held_now)) (sym hub_is)
    (subst (λ (n : ℕ). IfSome after (PaysRounds mtu old.rounds n (after_handing_out event) held_now)) (sym g_is)
    (subst (λ (r : ℕ). IfSome after (PaysRounds mtu r (give_ups_of pumped event g) (after_handing_out event) held_now)) rounds
    out))

-- ---- a lane begins, is asked, and stops

pub pays_begun : RoundLaws → (settings : Limits) (status : BoardStatus) (hub : Hub) (telling : Option Telling) (held :
    ℕ)
    → AreLimits settings → IsBufferCount status.buffers
    → hub ≡ new_hub status.next (min settings.window status.buffers) settings.rounds
    → IfSome telling (IsGreeted settings status)
    → IfSome telling (PaysRounds status.mtu settings.rounds 0 hub held)
pays_begun laws settings status hub telling held limits buffers hub_is greeted =
    let begun = new_hub status.next (min settings.window status.buffers) settings.rounds in
    subst (λ (h : Hub). IfSome telling (PaysRounds status.mtu settings.rounds 0 h held)) (sym hub_is)
    (if_told (IsGreeted settings status) (PaysRounds status.mtu settings.rounds 0 begun held) telling greeted
    (λ t is. record {
      board = sym is.told.mtu;
      some_window = (let one = limits.some_window in let some = buffers.0 in omega (arith, one, some));
      holds = (let same = is.told.buffers in omega (arith, same));
      sent = tt;
      queued = tt;
      paid = laws.begins settings.rounds begun held t refl;
    }))

not_less : (m n : ℕ) → n ≤ m → nat_lt m n ≡ false
not_less m n le = elim (nat_lt m n) as (λ b. nat_lt m n ≡ b → b ≡ false) [
  | true ↦ λ e. (let less = ltb-true m n e in absurd (omega (arith, less, le)))
  | false ↦ λ e. refl
] refl

fits_taken : (mtu tag : ℕ) (board : Board) (body : List ℕ) → board.mtu ≡ mtu → FitsBoard (payload_of mtu) body
    → CanTake board (record { tag = tag; body = body })
fits_taken mtu tag board body same fits =
    let payload : payload_of board.mtu ≡ payload_of mtu = ap payload_of same in
    let body_fits : length body + 1 ≤ payload_of board.mtu = (let f = fits.short in rw payload f) in
    let reply_fits : reply_room body + 1 ≤ payload_of board.mtu = (let f = fits.reply_short in rw payload f) in
    ap (λ (b : Bool). b || nat_lt (payload_of board.mtu) (reply_room body + 1))
    (not_less (payload_of board.mtu) (length body + 1) body_fits)
    ∙ not_less (payload_of board.mtu) (reply_room body + 1) reply_fits

offered_pays : RoundLaws → (mtu rounds g : ℕ) (hub : Hub) (tag : ℕ) (body : List ℕ) (held : ℕ) (t : Telling)
    → FitsBoard (payload_of mtu) body → PaysRounds mtu rounds g hub held t
    → PaysRounds mtu rounds g (offer hub (record { tag = tag; body = body })) held t
offered_pays laws mtu rounds g hub tag body held t fits is =
    let o : Offered = record { tag = tag; body = body } in
    record {
      board = is.board;
      some_window = is.some_window;
      holds = is.holds;
      sent = is.sent;
      queued = AllByRecursion-append (CanTake t.told.board) hub.queue (o ∷ []) is.queued
          (fits_taken mtu tag t.told.board body is.board fits, tt);
      paid = laws.offered rounds g hub held t o is.paid;
    }

-- a lane that is not spent, and may be down
pub pays_asked : RoundLaws → (down spent : Bool) (mtu rounds g : ℕ) (hub new : Hub) (tag : ℕ) (body : List ℕ) (held : ℕ)
    (telling : Option Telling) → spent ≡ false → FitsBoard (payload_of mtu) body
    → new ≡ cond down hub (offer hub (record { tag = tag; body = body }))
    → IfSome telling (HasPaid (down || spent) mtu rounds g hub held)
    → IfSome telling (HasPaid (down || spent) mtu rounds g new held)
pays_asked laws true spent mtu rounds g hub new tag body held telling up fits new_is is = is
pays_asked laws false spent mtu rounds g hub new tag body held telling up fits new_is is =
    subst (λ (b : Bool). IfSome telling (HasPaid b mtu rounds g new held)) (sym up)
    (subst (λ (h : Hub). IfSome telling (PaysRounds mtu rounds g h held)) (sym new_is)
    (if_told (PaysRounds mtu rounds g hub held)
    (PaysRounds mtu rounds g (offer hub (record { tag = tag; body = body })) held) telling
    (subst (λ (b : Bool). IfSome telling (HasPaid b mtu rounds g hub held)) up is)
    (λ t paid. offered_pays laws mtu rounds g hub tag body held t fits paid)))

pub neither : (down spent : Bool) → down ≡ false → spent ≡ false → (down || spent) ≡ false
neither down spent d s = ap (λ (b : Bool). b || spent) d ∙ s

-- give-ups stay paid, whatever became of the hub
still_paid : RoundLaws → (stopped : Bool) (mtu rounds g : ℕ) (hub : Hub) (held now : ℕ) (t : Telling) → held ≤ now
    → HasPaid stopped mtu rounds g hub held t → HasReached (rounds * g) now
still_paid laws true mtu rounds g hub held now t le is = reached_later (rounds * g) held now le is
still_paid laws false mtu rounds g hub held now t le is =
    reached_later (rounds * g) held now le (laws.give_ups rounds g hub held t is.paid)

-- ---- a pump

pub still_up : (down spent : Bool) (settings : Limits) (hub : Hub) (outcomes : List (Option Outcome))
    (lates : List (Option (List ℕ))) (telling : Option Telling) → down ≡ false → spent ≡ false
    → IfSome telling (IsStanding (down || spent) settings hub outcomes lates)
    → IfSome telling (IsRunning settings hub outcomes lates)
still_up down spent settings hub outcomes lates telling d s is =
    subst (λ (b : Bool). IfSome telling (IsStanding b settings hub outcomes lates)) (neither down spent d s) is

pub pays_pumped : (down spent : Bool) (mtu rounds g g_now : ℕ) (hub new : Hub) (held now : ℕ)
    (telling after : Option Telling) → down ≡ false → spent ≡ false → hub.rounds ≡ rounds
    → (IfSome telling (PaysRounds mtu hub.rounds g hub held) → IfSome after (PaysRounds mtu hub.rounds g_now new now))
    → IfSome telling (HasPaid (down || spent) mtu rounds g hub held)
    → IfSome after (HasPaid (down || spent) mtu rounds g_now new now)
pays_pumped down spent mtu rounds g g_now hub new held now telling after d s rounds_is goes is =
    let up = neither down spent d s in
    subst (λ (b : Bool). IfSome after (HasPaid b mtu rounds g_now new now)) (sym up)
    (subst (λ (r : ℕ). IfSome after (PaysRounds mtu r g_now new now)) rounds_is
    (goes (subst (λ (r : ℕ). IfSome telling (PaysRounds mtu r g hub held)) (sym rounds_is)
    (subst (λ (b : Bool). IfSome telling (HasPaid b mtu rounds g hub held)) up is))))

-- the link failed, or memory ran out
pub pays_stopped : RoundLaws → (stopped : Bool) (mtu rounds g g_now : ℕ) (hub new : Hub) (held now : ℕ)
    (telling after : Option Telling) → board_of after ≡ board_of telling → g_now ≡ g → held ≤ now
    → IfSome telling (HasPaid stopped mtu rounds g hub held) → IfSome after (HasPaid true mtu rounds g_now new now)
pays_stopped laws stopped mtu rounds g g_now hub new held now telling None same g_is le is = tt
pays_stopped laws stopped mtu rounds g g_now hub new held now None (Some u) same g_is le is = absurd cc
pays_stopped laws stopped mtu rounds g g_now hub new held now (Some t) (Some u) same g_is le is =
    subst (λ (n : ℕ). HasReached (rounds * n) now) (sym g_is) (still_paid laws stopped mtu rounds g hub held now t le
    is)
