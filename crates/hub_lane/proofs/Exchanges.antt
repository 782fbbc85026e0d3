-- Lemmas on what an exchange keeps of a lane, but how its hub stands to the link.
use Rattle.std.proofs.Common.{◌≡◌, ℕ, ◌+◌, ◌*◌, ◌<◌, ◌≤◌, Bool, true, false, cond, List, [], ◌∷◌}
use Rattle.std.proofs.Common.{length, map, Option, Some, refl, sym, ap, ◌∙◌, subst, arith, inl, inr, ◌||◌}
use Rattle.std.specs.Prelude.{◌==◌, nat_lt}
use Rattle.std.specs.List.{Contains}
use Rattle.ipb_base.specs.Faults.{one_more}
use Rattle.world_model.specs.declared.offered.Fate.{Fate}
use Rattle.world_model.specs.declared.offered.OpenPlace.{OpenPlace}
use Rattle.packet_codec.specs.declared.packet.TheConstants.{MAX_BODY_WORDS}
use Rattle.world_model.specs.LateAnswers.{AreOfTimedOut}
use Rattle.world_model.specs.Messages.{ToHub, Reply as ReplyTo, to_hub}
use Rattle.world_model.specs.Hub.{HandedOut, Hub, after_handing_out, give_up, hear_quiet, is_waiting, recover}
use Rattle.world_model.specs.Hub.{some_queued, some_waited, take_message, want_status, without}
use Rattle.world_model.specs.Facts.{HasBodies}
use Rattle.world_model.proofs.Lists.{either}
use Rattle.world_model.proofs.Flushing.{message_cases, quiet_cases}
use Rattle.world_model.specs.Settings.{Limits}
use Rattle.links.specs.Telling.{Telling}
use Rattle.lane_record.specs.declared.outcome.Outcome.{Outcome}
use Rattle.lane_record.specs.declared.outcome.Outcome.TheVariants as became
use Rattle.lane_record.specs.declared.item.Item.{Item}
use Rattle.lane_record.specs.Claims.{Claim, claims}
use Rattle.lane_record.specs.Bounds.{AreLostOnlyIf, HasReached, HasWaited, IsKept, TellRounds}
use Rattle.lane_record.specs.Outcomes.{AreShort, is_given_up, is_lost, is_replied}
use Rattle.lane_record.specs.Lates.{put_lates}
use Rattle.lane_record.specs.Offers.{AddsOnly, AgreesWith, KeepsOutcomes, Settles, put_all}
use Rattle.lane_record.proofs.Rounds.{give_up_tells, message_tells}
use Rattle.lane_record.proofs.Lengths.{give_up_short, message_short}
use Rattle.hub_lane.proofs.RoundsPaid.{mul_more}
use Rattle.hub_lane.specs.Below.{LateLaws}
use Rattle.hub_lane.specs.declared.answers.Pumped.{Pumped}
use Rattle.hub_lane.specs.declared.answers.Pumped.TheVariants.{Reply, Status, Stray, Quiet, Idle, LinkDown}
use Rattle.hub_lane.specs.Hearing.{IsEventAs, give_ups_of, hub_after, quiets_of}
use Rattle.hub_lane.specs.LateAnswers.{AreLateAnswers}
use Rattle.hub_lane.specs.Lanes.{BoardStatus, IsLane, IsReady, KnowsBoard, waits}
use Rattle.hub_lane.specs.Sends.{HasSent}
use Rattle.hub_lane.specs.PumpLaws.{GaveUpLaw, MessageSettles, QuietSettles, RepliedLaw, SendAgrees, SendKeepsBodies, SendLeaves}
use Rattle.hub_lane.proofs.Heard.{reply_short}
use Rattle.hub_lane.proofs.LateAnswers.{HandsOver, account_sent, handed_over, message_lates_short}
use Rattle.hub_lane.proofs.LateAnswers.{quiet_lates_short}
use Rattle.hub_lane.proofs.Ready.{ready_sent, same_sent}
use Rattle.hub_lane.proofs.Sends.{one_sent, sent_keeps}
use Rattle.hub_lane.proofs.Rounds.{none_wait}
use Rattle.hub_lane.proofs.Windows.{IsSameBut, IsWindowed, message_windowed, quiet_windowed}

-- ---- sends

pub record IsMid (asks : ℕ) (cs : List Claim) (os : List (Option Outcome)) (old mid : Hub) : Type 0 where
  pub ready : IsReady asks mid
  pub same : IsSameBut old mid
  pub agrees : AgreesWith mid cs os
  pub account : (out : HandedOut) → AreOfTimedOut out old → AreOfTimedOut out mid

record Both (asks : ℕ) (cs : List Claim) (os : List (Option Outcome)) (hub : Hub) : Type 0 where
  ready : IsReady asks hub
  agrees : AgreesWith hub cs os

pub mid_sent : SendLeaves → SendKeepsBodies → SendAgrees → LateLaws → (asks : ℕ) (cs : List Claim)
    (os : List (Option Outcome)) (old mid : Hub) → HasSent old mid → IsReady asks old → AgreesWith old cs os
    → IsMid asks cs os old mid
mid_sent fates bodies agree late asks cs os old mid sent ready agrees =
    let both = sent_keeps (Both asks cs os)
    (λ hub next e is. record {
      ready = ready_sent fates bodies asks hub next.hub (one_sent hub next e) is.ready;
      agrees = agree hub cs os next is.ready.window is.agrees e;
    }) old mid sent (record { ready = ready; agrees = agrees }) in
    record {
      ready = both.ready;
      same = same_sent old mid sent;
      agrees = both.agrees;
      account = account_sent late old mid sent;
    }

-- ---- what an event leaves

pub record Leaves (old new : Hub) : Type 0 where
  pub first : new.first ≡ old.first
  pub window : new.window ≡ old.window
  pub rounds : new.rounds ≡ old.rounds
  pub fewer : waits new ≤ waits old
  pub requests : new.status_requests ≤ old.status_requests

some_less : (place : ℕ) (os : List OpenPlace) → some_waited (without place os) ≡ true → some_waited os ≡ true
some_less place [] e = e
some_less place (o ∷ os) e = elim o.waited as (λ b. o.waited ≡ b → (b || some_waited os) ≡ true) [
  | true ↦ λ w. refl
  | false ↦ λ w. either (λ (l : List OpenPlace). some_waited l ≡ true → some_waited os ≡ true) (o.place == place) _ _
      (λ _ h. h)
      (λ _ h. some_less place os (sym (ap (λ (b : Bool). b || some_waited (without place os)) w) ∙ h)) e
] refl

count_less : (q a b : Bool) → (a ≡ true → b ≡ true) → cond (q || a) 1 0 ≤ cond (q || b) 1 0
count_less true a b h = omega arith
count_less false false b h = omega arith
count_less false true b h = rw (h refl) (omega arith)

map_waits : (f : OpenPlace → OpenPlace) (os : List OpenPlace) → ((o : OpenPlace) → (f o).waited ≡ o.waited)
    → some_waited (map f os) ≡ some_waited os
map_waits f [] h = refl
map_waits f (o ∷ os) h = rw (h o) (ap (λ (b : Bool). o.waited || b) (map_waits f os h))

recover_waits : (told : ℕ) (o : OpenPlace) → (recover told o).waited ≡ o.waited
recover_waits told o = either (λ (x : OpenPlace). x.waited ≡ o.waited) (nat_lt o.place told) _ _ (λ _. refl) (λ _. refl)

pub message_leaves : (hub : Hub) (message : Option ToHub) → Leaves hub (take_message hub message)
message_leaves hub message = message_cases (Leaves hub) hub message
    (record { first = refl; window = refl; rounds = refl; fewer = omega arith; requests = omega arith })
    (λ told. record {
      first = refl;
      window = refl;
      rounds = refl;
      fewer = (let h = map_waits (recover told) hub.open_places (recover_waits told) in
          rw h (omega arith));
      requests = omega arith;
    })
    (λ id words o is. record {
      first = refl;
      window = refl;
      rounds = refl;
      fewer = count_less (some_queued hub.queue) (some_waited (without o.place hub.open_places))
          (some_waited hub.open_places) (some_less o.place hub.open_places);
      requests = omega arith;
    })

-- ---- an exchange

calm : (o : Outcome) → is_replied o ≡ true → is_lost o ≡ true → ⊥
calm (became.Replied place words) r l = absurd cc
calm (became.TimedOut place rounds) r l = absurd cc
calm became.Unsent r l = absurd cc
calm (became.LinkLost place) r l = absurd cc

ended : (o : Outcome) → is_given_up o ≡ true → is_lost o ≡ true → ⊥
ended (became.Replied place words) r l = absurd cc
ended (became.TimedOut place rounds) r l = absurd cc
ended became.Unsent r l = absurd cc
ended (became.LinkLost place) r l = absurd cc

still_lost : (P : Type 0) (kind : Outcome → Bool) (old new : List (Option Outcome))
    → ((o : Outcome) → kind o ≡ true → is_lost o ≡ true → ⊥) → AddsOnly kind old new → AreLostOnlyIf P old
    → AreLostOnlyIf P new
still_lost P kind old new apart adds are = λ k o e lost. elim (adds k o e) [
  | inl before ↦ are k o before lost
  | inr new_kind ↦ absurd (apart o new_kind lost)
]

pub same_length : (cs : List Claim) (old new : List (Option Outcome)) → length old ≡ length cs → length new ≡ length cs
    → length new ≡ length old
same_length cs old new a b = b ∙ sym a

ready_after : (asks asks_now : ℕ) (event : Hub) → asks_now ≡ asks → IsWindowed event → HasBodies asks event
    → IsReady asks_now (after_handing_out event)
ready_after asks asks_now event same window bodies = record {
  drained = record { fates = refl; lates = refl };
  window = window;
  bodies = record {
    few = (let h = bodies.few in omega (arith, h, same));
    sent = bodies.sent;
    queue = bodies.queue;
  };
}

-- all that holds but how the hub stands to the link, and late answers
pub record IsAfter (settings : Limits) (status : BoardStatus) (hub : Hub) (items : List Item)
    (old outcomes : List (Option Outcome)) (give_ups : ℕ) (quiets : ℕ) : Type 0 where
  pub knows : KnowsBoard settings status hub
  pub ready : IsReady (length outcomes) hub
  pub agrees : AgreesWith hub (claims items) outcomes
  pub kept : IsKept items outcomes hub.window give_ups
  pub waited : HasWaited hub.rounds give_ups hub.status_requests quiets
  pub fewer : give_ups + waits hub ≤ length outcomes
  pub lost : AreLostOnlyIf (false ≡ true) outcomes
  pub tells : TellRounds settings.rounds outcomes
  pub short : AreShort outcomes
  pub keeps : KeepsOutcomes old outcomes

knows_still : (settings : Limits) (status : BoardStatus) (old new : Hub) → new.first ≡ old.first
    → new.window ≡ old.window → new.rounds ≡ old.rounds → KnowsBoard settings status old
    → KnowsBoard settings status new
knows_still settings status old new first window rounds is = record {
  limits = is.limits;
  mtu = is.mtu;
  buffers = is.buffers;
  identifier = is.identifier;
  first = first ∙ is.first;
  window = window ∙ is.window;
  rounds = rounds ∙ is.rounds;
}

-- what holds of a lane whose sends went out
pub mid_after : (settings : Limits) (status : BoardStatus) (hub mid : Hub) (items : List Item)
    (outcomes : List (Option Outcome)) (lates : List (Option (List ℕ))) (give_ups : ℕ) (telling : Option Telling)
    (faults quiets : ℕ) → IsMid (length outcomes) (claims items) outcomes hub mid
    → IsLane settings status hub items outcomes lates give_ups false false telling faults quiets
    → IsAfter settings status mid items outcomes outcomes give_ups quiets
mid_after settings status hub mid items outcomes lates give_ups telling faults quiets at is = record {
  knows = knows_still settings status hub mid at.same.first at.same.window at.same.rounds is.knows;
  ready = at.ready;
  agrees = at.agrees;
  kept = subst (λ (w : ℕ). IsKept items outcomes w give_ups) (sym at.same.window) is.kept;
  waited = (let r = at.same.rounds in let q = at.same.status_requests in rw (r, q) is.waited);
  fewer = (let h = is.fewer in let same : waits mid ≡ waits hub =
      ap (λ (b : Bool). cond b 1 0) at.same.waits in omega (arith, h, same));
  lost = is.lost;
  tells = is.tells;
  short = is.short;
  keeps = λ k o e. e;
}

waited_less : (paid less more quiets : ℕ) → less ≤ more → HasReached (paid + more) quiets
    → HasReached (paid + less) quiets
waited_less paid less more quiets le is = omega (arith, le, is)

asked_after : (settings : Limits) (status : BoardStatus) (mid : Hub) (items : List Item)
    (outcomes : List (Option Outcome)) (give_ups quiets quiets_now : ℕ) → is_waiting mid ≡ true
    → quiets_now ≡ one_more quiets → mid.status_requests < mid.rounds → HasBodies (length outcomes) (want_status mid)
    → IsWindowed (want_status mid) → IsAfter settings status mid items outcomes outcomes give_ups quiets
    → IsAfter settings status (after_handing_out (want_status mid)) items outcomes (put_all (want_status mid).fates outcomes)
    (give_ups_of Quiet (want_status mid) give_ups) quiets_now
asked_after settings status mid items outcomes give_ups quiets quiets_now waiting rose less bodies window is =
    let none = is.ready.drained.fates in
    let outs : put_all mid.fates outcomes ≡ outcomes = ap (λ (fs : List (ℕ × Fate)). put_all fs outcomes) none in
    let count : ◌≡◌ {A = ℕ} (cond (is_waiting mid) give_ups (give_ups + 1)) give_ups =
    ap (λ (b : Bool). cond b give_ups (give_ups + 1)) waiting in
    subst (λ (os : List (Option Outcome)). IsAfter settings status (after_handing_out (want_status mid)) items outcomes os
    (cond (is_waiting mid) give_ups (give_ups + 1)) quiets_now) (sym outs)
    (subst (λ (g : ℕ). IsAfter settings status (after_handing_out (want_status mid)) items outcomes outcomes g quiets_now)
    (sym count) (record {
      knows = knows_still settings status mid (after_handing_out (want_status mid)) refl refl refl is.knows;
      ready = ready_after (length outcomes) (length outcomes) (want_status mid) refl window bodies;
      agrees = is.agrees;
      kept = is.kept;
      waited = (let w = is.waited in omega (arith, w, rose));
      fewer = is.fewer;
      lost = is.lost;
      tells = is.tells;
      short = is.short;
      keeps = λ k o e. e;
    }))

given_up_after : GaveUpLaw → (settings : Limits) (status : BoardStatus) (mid : Hub) (items : List Item)
    (outcomes : List (Option Outcome)) (give_ups quiets quiets_now : ℕ) → is_waiting mid ≡ true
    → quiets_now ≡ one_more quiets → mid.rounds ≤ mid.status_requests → HasBodies (length outcomes) (give_up mid)
    → IsWindowed (give_up mid) → Settles (give_up mid) (claims items) outcomes is_given_up mid.window
    → IsAfter settings status mid items outcomes outcomes give_ups quiets
    → IsAfter settings status (after_handing_out (give_up mid)) items outcomes (put_all (give_up mid).fates outcomes)
    (give_ups_of Quiet (give_up mid) give_ups) quiets_now
given_up_after gave_up settings status mid items outcomes give_ups quiets quiets_now waiting rose more bodies window s
    is =
    let event = give_up mid in
    let new = put_all event.fates outcomes in
    let off = none_wait mid.open_places in
    let count : ◌≡◌ {A = ℕ} (cond (is_waiting event) give_ups (give_ups + 1)) (give_ups + 1) =
    ap (λ (b : Bool). cond b give_ups (give_ups + 1)) off in
    let same = same_length (claims items) outcomes new is.agrees.counts.each s.agrees.counts.each in
    let one : ◌≡◌ {A = ℕ} (waits mid) 1 = ap (λ (b : Bool). cond b 1 0) waiting in
    let none : ◌≡◌ {A = ℕ} (waits event) 0 = ap (λ (b : Bool). cond b 1 0) off in
    let paid = mul_more (mid.rounds + 1) give_ups in
    subst (λ (g : ℕ). IsAfter settings status (after_handing_out event) items outcomes new g quiets_now)
    (sym count) (record {
      knows = knows_still settings status mid (after_handing_out event) refl refl refl is.knows;
      ready = ready_after (length outcomes) (length new) event same window bodies;
      agrees = s.agrees;
      kept = gave_up items outcomes new mid.window give_ups is.kept s.keeps s.few s.agrees.counts;
      waited = (let w = is.waited in omega (arith, w, rose, paid, more));
      fewer = (let h = is.fewer in omega (arith, h, one, none, same));
      lost = still_lost (false ≡ true) is_given_up outcomes new ended s.adds is.lost;
      tells = subst (λ (rounds : ℕ). TellRounds rounds new) is.knows.rounds (give_up_tells mid outcomes
          is.ready.drained.fates
          (subst (λ (rounds : ℕ). TellRounds rounds outcomes) (sym is.knows.rounds) is.tells));
      short = give_up_short mid outcomes is.ready.drained.fates is.short;
      keeps = s.keeps;
    })

message_after : MessageSettles → RepliedLaw → (settings : Limits) (status : BoardStatus) (mid : Hub)
    (message : Option ToHub) (items : List Item) (outcomes : List (Option Outcome)) (give_ups quiets : ℕ)
    → ((id : ℕ) (words : List ℕ) → message ≡ Some (ReplyTo id words) → length words ≤ MAX_BODY_WORDS)
    → HasBodies (length outcomes) (take_message mid message)
    → IsAfter settings status mid items outcomes outcomes give_ups quiets
    → IsAfter settings status (after_handing_out (take_message mid message)) items outcomes
    (put_all (take_message mid message).fates outcomes) give_ups quiets
message_after settles replied settings status mid message items outcomes give_ups quiets short bodies is =
    let event = take_message mid message in
    let new = put_all event.fates outcomes in
    let s = settles mid message (claims items) outcomes is.ready.window is.ready.drained.fates is.agrees in
    let same = same_length (claims items) outcomes new is.agrees.counts.each s.agrees.counts.each in
    let l = message_leaves mid message in
    record {
      knows = knows_still settings status mid (after_handing_out event) l.first l.window l.rounds is.knows;
      ready = ready_after (length outcomes) (length new) event same (message_windowed mid message is.ready.window)
          bodies;
      agrees = s.agrees;
      kept = subst (λ (w : ℕ). IsKept items new w give_ups) (sym l.window)
          (replied items outcomes new mid.window give_ups is.kept s.keeps s.adds s.agrees.counts);
      waited = (let r = l.rounds in let q = l.requests in let w = is.waited in
          rw r (waited_less ((mid.rounds + 1) * give_ups) event.status_requests mid.status_requests quiets q w));
      fewer = (let h = is.fewer in let f = l.fewer in omega (arith, h, f, same));
      lost = still_lost (false ≡ true) is_replied outcomes new calm s.adds is.lost;
      tells = message_tells settings.rounds mid message outcomes is.ready.drained.fates is.tells;
      short = message_short mid message outcomes short is.ready.drained.fates is.short;
      keeps = s.keeps;
    }

quiet_after : QuietSettles → GaveUpLaw → (settings : Limits) (status : BoardStatus) (mid : Hub)
    (items : List Item) (outcomes : List (Option Outcome)) (give_ups quiets quiets_now : ℕ)
    → is_waiting mid ≡ true → quiets_now ≡ one_more quiets
    → HasBodies (length outcomes) (hear_quiet mid)
    → IsAfter settings status mid items outcomes outcomes give_ups quiets
    → IsAfter settings status (after_handing_out (hear_quiet mid)) items outcomes
    (put_all (hear_quiet mid).fates outcomes) (give_ups_of Quiet (hear_quiet mid) give_ups) quiets_now
quiet_after settles gave_up settings status mid items outcomes give_ups quiets quiets_now waiting rose bodies is =
    let s = settles mid (claims items) outcomes is.ready.window is.ready.drained.fates is.agrees in
    let w = quiet_windowed mid is.ready.window in
    quiet_cases (λ (event : Hub). HasBodies (length outcomes) event → IsWindowed event
    → Settles event (claims items) outcomes is_given_up mid.window
    → IsAfter settings status (after_handing_out event) items outcomes (put_all event.fates outcomes)
    (give_ups_of Quiet event give_ups) quiets_now) mid
    (λ less bodies_now window settled. asked_after settings status mid items outcomes give_ups quiets quiets_now waiting
    rose less bodies_now window is)
    (λ more bodies_now window settled. given_up_after gave_up settings status mid items outcomes give_ups quiets
    quiets_now waiting rose more bodies_now window settled is)
    bodies w s

pub event_after : MessageSettles → RepliedLaw → QuietSettles → GaveUpLaw
    → (settings : Limits) (status : BoardStatus) (mid : Hub) (bytes : List ℕ) (pumped : Pumped)
    (items : List Item) (outcomes : List (Option Outcome)) (give_ups quiets : ℕ)
    → ((message : Option ToHub) → HasBodies (length outcomes) (take_message mid message))
    → HasBodies (length outcomes) (hear_quiet mid)
    → is_waiting mid ≡ true → IsEventAs mid bytes pumped
    → IsAfter settings status mid items outcomes outcomes give_ups quiets
    → IsAfter settings status (after_handing_out (hub_after pumped bytes mid)) items outcomes
    (put_all (hub_after pumped bytes mid).fates outcomes) (give_ups_of pumped (hub_after pumped bytes mid) give_ups)
    (quiets_of pumped quiets)
event_after settles replied quiet gave_up settings status mid bytes (Reply place) items outcomes give_ups quiets bodies
    quiet_bodies waiting event is =
    message_after settles replied settings status mid (to_hub bytes) items outcomes give_ups quiets (reply_short bytes)
    (bodies (to_hub bytes)) is
event_after settles replied quiet gave_up settings status mid bytes Status items outcomes give_ups quiets bodies
    quiet_bodies waiting event is =
    message_after settles replied settings status mid (to_hub bytes) items outcomes give_ups quiets (reply_short bytes)
    (bodies (to_hub bytes)) is
event_after settles replied quiet gave_up settings status mid bytes Stray items outcomes give_ups quiets bodies
    quiet_bodies waiting event is =
    message_after settles replied settings status mid (to_hub bytes) items outcomes give_ups quiets (reply_short bytes)
    (bodies (to_hub bytes)) is
event_after settles replied quiet gave_up settings status mid bytes Quiet items outcomes give_ups quiets bodies
    quiet_bodies waiting event is =
    quiet_after quiet gave_up settings status mid items outcomes give_ups quiets (one_more quiets) waiting refl
    quiet_bodies is
event_after settles replied quiet gave_up settings status mid bytes Idle items outcomes give_ups quiets bodies
    quiet_bodies waiting event is = absurd event
event_after settles replied quiet gave_up settings status mid bytes LinkDown items outcomes give_ups quiets bodies
    quiet_bodies waiting event is = absurd event

more_after : (b : Bool) (n : ℕ) → n ≤ cond b n (n + 1)
more_after true n = omega arith
more_after false n = omega arith

pub more_give_ups : (pumped : Pumped) (event : Hub) (n : ℕ) → n ≤ give_ups_of pumped event n
more_give_ups (Reply place) event n = omega arith
more_give_ups Status event n = omega arith
more_give_ups Stray event n = omega arith
more_give_ups Quiet event n = more_after (is_waiting event) n
more_give_ups Idle event n = omega arith
more_give_ups LinkDown event n = omega arith

-- ---- late answers

-- an event that the hub makes known, over any link
event_hands_over : LateLaws → (mid event : Hub) (items : List Item) (outcomes : List (Option Outcome))
    (lates : List (Option (List ℕ))) (kind : Outcome → Bool) (most : ℕ)
    → ((out : HandedOut) → AreOfTimedOut out mid → AreOfTimedOut out event)
    → ((place : ℕ) (words : List ℕ) → Contains event.lates (place, words) → length words ≤ MAX_BODY_WORDS)
    → HasBodies (length outcomes) event → AgreesWith mid (claims items) outcomes
    → Settles event (claims items) outcomes kind most → AreLateAnswers mid outcomes lates
    → HandsOver event (put_all event.fates outcomes) lates (put_lates event.lates lates) (after_handing_out event)
event_hands_over laws mid event items outcomes lates kind most account short bodies agrees settles late =
    let few = bodies.few in
    let count = late.count in
    handed_over laws mid event (claims items) outcomes lates kind most account short (omega (arith, few, count))
    (same_length (claims items) outcomes (put_all event.fates outcomes) agrees.counts.each settles.agrees.counts.each)
    settles late

pub event_late : LateLaws → MessageSettles → QuietSettles → (mid : Hub) (bytes : List ℕ) (pumped : Pumped)
    (items : List Item) (outcomes : List (Option Outcome)) (lates : List (Option (List ℕ)))
    → ((message : Option ToHub) → HasBodies (length outcomes) (take_message mid message))
    → HasBodies (length outcomes) (hear_quiet mid) → IsEventAs mid bytes pumped → IsReady (length outcomes) mid
    → AgreesWith mid (claims items) outcomes → AreLateAnswers mid outcomes lates
    → HandsOver (hub_after pumped bytes mid) (put_all (hub_after pumped bytes mid).fates outcomes) lates
    (put_lates (hub_after pumped bytes mid).lates lates) (after_handing_out (hub_after pumped bytes mid))
event_late laws message quiet mid bytes pumped items outcomes lates bodies quiet_bodies event ready agrees late =
    by pumped event
  where
    heard : HandsOver (take_message mid (to_hub bytes)) (put_all (take_message mid (to_hub bytes)).fates outcomes) lates
        (put_lates (take_message mid (to_hub bytes)).lates lates) (after_handing_out (take_message mid (to_hub bytes)))
    heard = event_hands_over laws mid (take_message mid (to_hub bytes)) items outcomes lates is_replied 0
        (λ out account. laws.heard out mid (to_hub bytes) account)
        (message_lates_short mid (to_hub bytes) ready.drained (reply_short bytes)) (bodies (to_hub bytes)) agrees
        (message mid (to_hub bytes) (claims items) outcomes ready.window ready.drained.fates agrees) late

    by : (pumped : Pumped) → IsEventAs mid bytes pumped
        → HandsOver (hub_after pumped bytes mid) (put_all (hub_after pumped bytes mid).fates outcomes) lates
        (put_lates (hub_after pumped bytes mid).lates lates) (after_handing_out (hub_after pumped bytes mid))
    by (Reply place) event = heard
    by Status event = heard
    by Stray event = heard
    by Quiet event = event_hands_over laws mid (hear_quiet mid) items outcomes lates is_given_up mid.window
        (λ out account. laws.quiet out mid account) (quiet_lates_short mid ready.drained) quiet_bodies agrees
        (quiet mid (claims items) outcomes ready.window ready.drained.fates agrees) late
    by Idle event = absurd event
    by LinkDown event = absurd event

-- ---- outcomes

-- an event settles Asks, of some kind, at most so many of them by a give-up
pub record SettlesSome (event : Hub) (cs : List Claim) (outcomes : List (Option Outcome)) : Type 0 where
  pub kind : Outcome → Bool
  pub most : ℕ
  pub settles : Settles event cs outcomes kind most

pub event_settles : MessageSettles → QuietSettles → (mid : Hub) (bytes : List ℕ) (pumped : Pumped) (cs : List Claim)
    (outcomes : List (Option Outcome)) → IsEventAs mid bytes pumped → IsReady (length outcomes) mid
    → AgreesWith mid cs outcomes → SettlesSome (hub_after pumped bytes mid) cs outcomes
event_settles message quiet mid bytes pumped cs outcomes event ready agrees = by pumped event
  where
    heard : SettlesSome (take_message mid (to_hub bytes)) cs outcomes
    heard = record {
      kind = is_replied;
      most = 0;
      settles = message mid (to_hub bytes) cs outcomes ready.window ready.drained.fates agrees;
    }

    by : (pumped : Pumped) → IsEventAs mid bytes pumped → SettlesSome (hub_after pumped bytes mid) cs outcomes
    by (Reply place) event = heard
    by Status event = heard
    by Stray event = heard
    by Quiet event = record {
      kind = is_given_up;
      most = mid.window;
      settles = quiet mid cs outcomes ready.window ready.drained.fates agrees;
    }
    by Idle event = absurd event
    by LinkDown event = absurd event
