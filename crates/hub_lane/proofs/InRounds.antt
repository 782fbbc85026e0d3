-- What each call makes of the round that is under way, over a link that tells.
use Rattle.std.proofs.Common.{◌≡◌, ◌⊎◌, ℕ, zero, suc, ◌≤◌, ◌||◌, Bool, true, false, cond, List, [], ◌∷◌, length}
use Rattle.std.proofs.Common.{◌++◌, map, Option, Some, None, refl, sym, ap, ◌∙◌, subst, arith, inl, inr}
use Rattle.std.specs.Prelude.{IfSome}
use Rattle.ipb_base.specs.Faults.{Rose}
use Rattle.packet_ids.specs.Identifier.{identifier_at}
use Rattle.world_model.specs.declared.offered.Offered.{Offered}
use Rattle.world_model.specs.declared.offered.OpenPlace.{OpenPlace}
use Rattle.world_model.specs.Messages.{ToHub, StatusReply, Reply as ReplyTo, to_hub}
use Rattle.world_model.specs.Hub.{Hub, after_handing_out, hear_quiet, offer, open_with, settle, take_message}
use Rattle.world_model.specs.Hub.{want_control}
use Rattle.world_model.specs.Sends.{Next, bytes_to_send, next_send}
use Rattle.world_model.proofs.Flushing.{quiet_cases, status_cases}
use Rattle.world_model.proofs.OpenPlaces.{named, none_named}
use Rattle.reliable_engine.specs.Answers.{IsOpen}
use Rattle.reliable_engine.specs.Events.{IsAtRest}
use Rattle.world_model.specs.Settings.{Limits}
use Rattle.links.specs.declared.link.Link.{Ghosts}
use Rattle.links.specs.Telling.{IfTelling, IsGot, IsQuiet, IsSent, Telling}
use Rattle.lane_record.specs.declared.outcome.Outcome.{Outcome}
use Rattle.hub_lane.specs.UnderWay.{CanRecover, IsUnderWay}
use Rattle.hub_lane.specs.declared.answers.Pumped.{Pumped}
use Rattle.hub_lane.specs.declared.answers.Pumped.TheVariants.{Reply, Status, Stray, Quiet, Idle, LinkDown}
use Rattle.hub_lane.specs.Below.{WayLaws}
use Rattle.hub_lane.specs.Calls.{SendsAs}
use Rattle.hub_lane.specs.Hearing.{EndsRound, IsHeardAs, IsStray, SettlesPlace}
use Rattle.hub_lane.specs.Lanes.{LaneState}
use Rattle.hub_lane.specs.Rounds.{AreCalls, EndsInSilence, HasPaid, IsCall, KeepsRound, LaneCall, LaneRound, PaysOn}
use Rattle.hub_lane.specs.Rounds.{PaysRounds, Pumps, RoundAfter, RoundFor, RoundState, Sends, SettlesOne, in_round}
use Rattle.hub_lane.specs.Rounds.{round_of}
use Rattle.hub_lane.specs.Standing.{GoesOn, IsRunning, IsStanding}
use Rattle.hub_lane.proofs.Rounds.{both_told, can_recover, neither, still_up}
use Rattle.hub_lane.proofs.Windows.{send_same}

-- ---- what a link tells before a call and after it

called : (P : Telling → Type 0) (R S : Telling → Telling → Type 0) (old new : Option Telling) → IfSome old P
    → IfTelling old new R → ((t u : Telling) → P t → R t u → S t u) → IfTelling old new S
called P R S None None before call leads = tt
called P R S None (Some u) before call leads = absurd call
called P R S (Some t) None before call leads = absurd call
called P R S (Some t) (Some u) before call leads = leads t u before call

called_twice : (R S T : Telling → Telling → Type 0) (first middle last : Option Telling) → IfTelling first middle R
    → IfTelling middle last S → ((s t u : Telling) → R s t → S t u → T s u) → IfTelling first last T
called_twice R S T None None None one other leads = tt
called_twice R S T None None (Some u) one other leads = absurd other
called_twice R S T None (Some t) last one other leads = absurd one
called_twice R S T (Some s) None last one other leads = absurd one
called_twice R S T (Some s) (Some t) None one other leads = absurd other
called_twice R S T (Some s) (Some t) (Some u) one other leads = leads s t u one other

pub same_link : (S : Telling → Telling → Type 0) (telling : Option Telling) → ((t : Telling) → S t t)
    → IfTelling telling telling S
same_link S None leads = tt
same_link S (Some t) leads = leads t

-- ---- two calls, one after the other

rose_on : (before mid now : ℕ) → mid ≤ now → Rose before mid → Rose before now
rose_on before mid now le rose = omega (arith, le, rose)

rose_from : (before mid now : ℕ) → before ≤ mid → Rose mid now → Rose before now
rose_from before mid now le rose = omega (arith, le, rose)

asked_or_not : (n : ℕ) → (n ≡ 0) ⊎ (1 ≤ n)
asked_or_not zero = inl refl
asked_or_not (suc n) = inr (omega arith)

pub same_round : (state : RoundState) → KeepsRound state state
same_round state = record { same = refl; way = λ way. inl way }

-- it is enough to look at a round that is under way
keeps_by : (a b : RoundState) → b.hub.status_requests ≡ a.hub.status_requests
    → (1 ≤ a.hub.status_requests → IsUnderWay a.hub a.told → IsUnderWay b.hub b.told ⊎ Rose a.held b.held)
    → KeepsRound a b
keeps_by a b same leads = record {
  same = same;
  way = λ way. elim (asked_or_not a.hub.status_requests) [
    | inl none ↦ inl (λ some. absurd (omega (arith, some, same, none)))
    | inr some ↦ elim (leads some (way some)) [
      | inl on ↦ inl (λ _. on)
      | inr rose ↦ inr rose
    ]
  ];
}

keeps_after : (a b c : RoundState) → a.held ≤ b.held → b.held ≤ c.held → KeepsRound a b → KeepsRound b c
    → KeepsRound a c
keeps_after a b c le more first later = record {
  same = later.same ∙ first.same;
  way = λ way. elim (first.way way) [
    | inl on ↦ elim (later.way on) [
      | inl still ↦ inl still
      | inr rose ↦ inr (rose_from a.held b.held c.held le rose)
    ]
    | inr rose ↦ inr (rose_on a.held b.held c.held more rose)
  ];
}

round_after : (call : LaneCall) (a b c : RoundState) → a.held ≤ b.held → b.held ≤ c.held → KeepsRound a b
    → RoundAfter call b c → RoundAfter call a c
round_after Sends a b c le more first later = λ up. keeps_after a b c le more first (later up)
round_after (Pumps (Reply place)) a b c le more first later = later
round_after (Pumps Status) a b c le more first later = keeps_after a b c le more first later
round_after (Pumps Stray) a b c le more first later = keeps_after a b c le more first later
round_after (Pumps Quiet) a b c le more first later = record {
  held = λ some way. elim (first.way (λ _. way)) [
    | inl on ↦ (let still : 1 ≤ b.hub.status_requests = (let same = first.same in omega (arith, same, some)) in
        rose_from a.held b.held c.held le (later.held still (on still)))
    | inr rose ↦ rose_on a.held b.held c.held more rose
  ];
  wanted = later.wanted;
}
round_after (Pumps Idle) a b c le more first later = keeps_after a b c le more first later
round_after (Pumps LinkDown) a b c le more first later = later

-- ---- sends

sent_keeps_round : WayLaws → (hub : Hub) (next : Next) (before now : ℕ) (t u : Telling) → next_send hub ≡ Some next
    → CanRecover hub t → IsSent (bytes_to_send next.hub next.send) before now t u
    → KeepsRound (in_round hub before t) (in_round next.hub now u)
sent_keeps_round laws hub next before now t u e can sent =
    keeps_by (in_round hub before t) (in_round next.hub now u) (send_same hub next e).status_requests
    (λ some way. laws.sent hub next before now t u can e sent way)

pub none_sent : (hub : Hub) (held : ℕ) (telling : Option Telling) → RoundFor Sends telling hub held telling hub held
none_sent hub held telling = λ limits outcomes lates mtu rounds g start paid.
    same_link (λ t u. RoundAfter Sends (in_round hub held t) (in_round hub held u)) telling
    (λ t up. same_round (in_round hub held t))

pub round_sent : WayLaws → (begin old : Hub) (next : Next) (first_held before now : ℕ)
    (first telling after : Option Telling) → next_send old ≡ Some next → first_held ≤ before → before ≤ now
    → GoesOn first begin telling old
    → IfTelling telling after (IsSent (bytes_to_send next.hub next.send) before now)
    → PaysOn first begin first_held telling old before → RoundFor Sends first begin first_held telling old before
    → RoundFor Sends first begin first_held after next.hub now
round_sent laws begin old next first_held before now first telling after e since le running call pays keeps =
    λ limits outcomes lates mtu rounds g start paid.
    let Ready : Telling → Type 0 = λ t. IsRunning limits old outcomes lates t × PaysRounds mtu rounds g old before t in
    let One : Telling → Telling → Type 0 = λ t u. KeepsRound (in_round old before t) (in_round next.hub now u) in
    let one : IfTelling telling after One = called Ready (IsSent (bytes_to_send next.hub next.send) before now) One
    telling after (both_told (IsRunning limits old outcomes lates) (PaysRounds mtu rounds g old before) telling
    (running limits outcomes lates start) (pays limits outcomes lates mtu rounds g start paid)) call
    (λ t u is sent. sent_keeps_round laws old next before now t u e
    (can_recover mtu rounds g old before t is.0.reached.joined is.1) sent) in
    called_twice (λ s t. RoundAfter Sends (in_round begin first_held s) (in_round old before t)) One
    (λ s u. RoundAfter Sends (in_round begin first_held s) (in_round next.hub now u)) first telling after
    (keeps limits outcomes lates mtu rounds g start paid) one
    (λ s t u is last up. keeps_after (in_round begin first_held s) (in_round old before t) (in_round next.hub now u)
    since le (is refl) last)

-- ---- a receive

settle_ends : (hub : Hub) (words : List ℕ) (id place : ℕ) (r : Option OpenPlace)
    → open_with hub.first id hub.open_places ≡ r → IsOpen hub place → identifier_at hub.first place ≡ id
    → (settle hub words r).status_requests ≡ 0
settle_ends hub words id place None none there same =
    absurd (none_named hub.first id hub.open_places place none there same)
settle_ends hub words id place (Some o) some there same = refl

-- a reply of an open place ends the round
reply_ends : (hub : Hub) (message : Option ToHub) (place : ℕ) → SettlesPlace hub message place
    → (take_message hub message).status_requests ≡ 0
reply_ends hub message place is = subst (λ (m : Option ToHub). (take_message hub m).status_requests ≡ 0) (sym is.reply)
    (settle_ends hub is.words is.id place (open_with hub.first is.id hub.open_places) refl is.open_there is.identifier)

-- and nothing else does
abbrev SameRequests : Hub → Hub → Type 0
SameRequests hub after = after.status_requests ≡ hub.status_requests

status_stays : (hub : Hub) (message : Option ToHub) → EndsRound hub message
    → SameRequests hub (take_message hub message)
status_stays hub message is = subst (λ (m : Option ToHub). SameRequests hub (take_message hub m)) (sym is.status)
    (status_cases (SameRequests hub) hub is.next refl (λ told. refl))

settled_strays : (hub : Hub) (words : List ℕ) (id : ℕ) (r : Option OpenPlace)
    → open_with hub.first id hub.open_places ≡ r → IsStray hub (Some (ReplyTo id words))
    → SameRequests hub (settle hub words r)
settled_strays hub words id None none is = refl
settled_strays hub words id (Some o) some is =
    let found = named hub.first id hub.open_places o some in
    absurd (is.no_reply o.place (record {
      id = id;
      words = words;
      reply = refl;
      open_there = found.there;
      identifier = found.identifier;
    }))

stray_stays : (hub : Hub) (message : Option ToHub) → IsStray hub message → SameRequests hub (take_message hub message)
stray_stays hub None is = refl
stray_stays hub (Some (StatusReply mtu buffers next)) is =
    status_cases (SameRequests hub) hub next refl (λ told. refl)
stray_stays hub (Some (ReplyTo id words)) is =
    settled_strays hub words id (open_with hub.first id hub.open_places) refl is

got_way : WayLaws → (hub : Hub) (bytes : List ℕ) (before now : ℕ) (t u : Telling)
    → SameRequests hub (take_message hub (to_hub bytes)) → CanRecover hub t
    → (1 ≤ hub.status_requests → 1 ≤ length hub.open_places) → IsGot bytes before now t u
    → KeepsRound (in_round hub before t) (in_round (take_message hub (to_hub bytes)) now u)
got_way laws hub bytes before now t u same can some_open got =
    let after = take_message hub (to_hub bytes) in
    keeps_by (in_round hub before t) (in_round after now u) same
    (λ some way. elim (laws.got hub bytes before now t u can some (some_open some) got way) [
      | inl rose ↦ inr rose
      | inr rest ↦ elim rest [
        | inl over ↦ absurd (omega (arith, over, same, some))
        | inr on ↦ inl on
      ]
    ])

got_round : WayLaws → (pumped : Pumped) (hub : Hub) (bytes : List ℕ) (before now : ℕ) (t u : Telling)
    → IsHeardAs hub (to_hub bytes) pumped → CanRecover hub t
    → (1 ≤ hub.status_requests → 1 ≤ length hub.open_places) → IsGot bytes before now t u
    → RoundAfter (Pumps pumped) (in_round hub before t) (in_round (take_message hub (to_hub bytes)) now u)
got_round laws (Reply place) hub bytes before now t u heard can some_open got =
    reply_ends hub (to_hub bytes) place heard
got_round laws Status hub bytes before now t u heard can some_open got =
    got_way laws hub bytes before now t u (status_stays hub (to_hub bytes) heard) can some_open got
got_round laws Stray hub bytes before now t u heard can some_open got =
    got_way laws hub bytes before now t u (stray_stays hub (to_hub bytes) heard) can some_open got
got_round laws Quiet hub bytes before now t u heard can some_open got = absurd heard
got_round laws Idle hub bytes before now t u heard can some_open got = absurd heard
got_round laws LinkDown hub bytes before now t u heard can some_open got = absurd heard

pub round_got : WayLaws → (pumped : Pumped) (hub : Hub) (bytes : List ℕ) (before now : ℕ) (old new : Option Telling)
    → IsHeardAs hub (to_hub bytes) pumped → IfTelling old new (IsGot bytes before now)
    → RoundFor (Pumps pumped) old hub before new (take_message hub (to_hub bytes)) now
round_got laws pumped hub bytes before now old new heard call = λ limits outcomes lates mtu rounds g start paid.
    called (λ t. IsRunning limits hub outcomes lates t × PaysRounds mtu rounds g hub before t) (IsGot bytes before now)
    (λ t u. RoundAfter (Pumps pumped) (in_round hub before t) (in_round (take_message hub (to_hub bytes)) now u))
    old new (both_told (IsRunning limits hub outcomes lates) (PaysRounds mtu rounds g hub before) old start paid) call
    (λ t u is got. got_round laws pumped hub bytes before now t u heard
    (can_recover mtu rounds g hub before t is.0.reached.joined is.1) is.1.paid.some_open got)

quiet_round : WayLaws → (hub : Hub) (before now : ℕ) (t u : Telling) → CanRecover hub t → next_send hub ≡ None
    → IsQuiet before now t u → EndsInSilence (in_round hub before t) (in_round (hear_quiet hub) now u)
quiet_round laws hub before now t u can none quiet = record {
  held = λ some way. laws.quiet hub before now t u can none quiet way;
  wanted = quiet_cases (λ (h : Hub). 1 ≤ h.status_requests → h.status_wanted ≡ true) hub (λ _ some. refl)
      (λ _ some. absurd (omega (arith, some)));
}

pub round_quiet : WayLaws → (hub : Hub) (before now : ℕ) (old new : Option Telling) → next_send hub ≡ None
    → IfTelling old new (IsQuiet before now) → RoundFor (Pumps Quiet) old hub before new (hear_quiet hub) now
round_quiet laws hub before now old new none call = λ limits outcomes lates mtu rounds g start paid.
    called (λ t. IsRunning limits hub outcomes lates t × PaysRounds mtu rounds g hub before t) (IsQuiet before now)
    (λ t u. EndsInSilence (in_round hub before t) (in_round (hear_quiet hub) now u)) old new
    (both_told (IsRunning limits hub outcomes lates) (PaysRounds mtu rounds g hub before) old start paid) call
    (λ t u is quiet. quiet_round laws hub before now t u
    (can_recover mtu rounds g hub before t is.0.reached.joined is.1) none quiet)

-- ---- an exchange

-- what was handed out changes no round
out_round : (pumped : Pumped) (a : RoundState) (event : Hub) (held : ℕ) (u : Telling)
    → RoundAfter (Pumps pumped) a (in_round event held u)
    → RoundAfter (Pumps pumped) a (in_round (after_handing_out event) held u)
out_round (Reply place) a event held u is = is
out_round Status a event held u is = record { same = is.same; way = is.way }
out_round Stray a event held u is = record { same = is.same; way = is.way }
out_round Quiet a event held u is = record { held = is.held; wanted = is.wanted }
out_round Idle a event held u is = record { same = is.same; way = is.way }
out_round LinkDown a event held u is = is

pub round_exchanged : (pumped : Pumped) (old mid event hub : Hub) (before between after : Option Telling)
    (held held_then held_now : ℕ) → hub ≡ after_handing_out event → held ≤ held_then → held_then ≤ held_now
    → GoesOn before old between mid → PaysOn before old held between mid held_then
    → RoundFor Sends before old held between mid held_then
    → RoundFor (Pumps pumped) between mid held_then after event held_now
    → RoundFor (Pumps pumped) before old held after hub held_now
round_exchanged pumped old mid event hub before between after held held_then held_now hub_is le more running pays sends
    receives = λ limits outcomes lates mtu rounds g start paid.
    subst (λ (h : Hub). IfTelling before after
    (λ s u. RoundAfter (Pumps pumped) (in_round old held s) (in_round h held_now u))) (sym hub_is)
    (called_twice (λ s t. RoundAfter Sends (in_round old held s) (in_round mid held_then t))
    (λ t u. RoundAfter (Pumps pumped) (in_round mid held_then t) (in_round event held_now u))
    (λ s u. RoundAfter (Pumps pumped) (in_round old held s) (in_round (after_handing_out event) held_now u))
    before between after (sends limits outcomes lates mtu rounds g start paid)
    (receives limits outcomes lates mtu rounds g (running limits outcomes lates start)
    (pays limits outcomes lates mtu rounds g start paid))
    (λ s t u first later. out_round pumped (in_round old held s) event held_now u
    (round_after (Pumps pumped) (in_round old held s) (in_round mid held_then t) (in_round event held_now u) le more
    (first refl) later)))

-- ---- a lane

-- one that is neither down nor spent, before the call and after it
pub lane_round : (call : LaneCall) (down spent : Bool) (settings : Limits) (outcomes : List (Option Outcome))
    (lates : List (Option (List ℕ))) (mtu g : ℕ) (hub new : Hub) (held now : ℕ) (telling after : Option Telling)
    → down ≡ false → spent ≡ false
    → RoundFor call telling hub held after new now
    → IfSome telling (IsStanding (down || spent) settings hub outcomes lates)
    → IfSome telling (HasPaid (down || spent) mtu settings.rounds g hub held)
    → IfTelling telling after (λ t u. RoundAfter call
    (record { hub = hub; stopped = down || spent; told = t; held = held })
    (record { hub = new; stopped = down || spent; told = u; held = now }))
lane_round call down spent settings outcomes lates mtu g hub new held now telling after d s rounds standing paid =
    let up = neither down spent d s in
    subst (λ (b : Bool). IfTelling telling after (λ t u. RoundAfter call
    (record { hub = hub; stopped = b; told = t; held = held })
    (record { hub = new; stopped = b; told = u; held = now }))) (sym up)
    (rounds settings outcomes lates mtu settings.rounds g
    (still_up down spent settings hub outcomes lates telling d s standing)
    (subst (λ (b : Bool). IfSome telling (HasPaid b mtu settings.rounds g hub held)) up paid))

-- an offer
offered_way : (hub : Hub) (o : Offered) (t : Telling) → (hub.gave_up ≡ true → IsAtRest hub) → 1 ≤ hub.status_requests
    → IsUnderWay hub t → IsUnderWay (offer hub o) t
offered_way hub o t rest some way =
    elim (hub.gave_up) as (λ b. hub.gave_up ≡ b → IsUnderWay (record hub {
      queue = hub.queue ++ o ∷ [];
      open_places = cond b (map want_control hub.open_places) hub.open_places;
      gave_up = false;
    }) t) [
      | true ↦ λ e. absurd (let over = (rest e).round in omega (arith, over, some))
      | false ↦ λ e. way
    ] refl

told_alike : (P : Telling → Type 0) (S : Telling → Telling → Type 0) (telling : Option Telling) → IfSome telling P
    → ((t : Telling) → P t → S t t) → IfTelling telling telling S
told_alike P S None is leads = tt
told_alike P S (Some t) is leads = leads t is

pub offered_round : (down spent : Bool) (settings : Limits) (outcomes : List (Option Outcome))
    (lates : List (Option (List ℕ))) (hub new : Hub) (o : Offered) (held : ℕ) (telling : Option Telling)
    → new ≡ cond down hub (offer hub o)
    → IfSome telling (IsStanding (down || spent) settings hub outcomes lates)
    → IfTelling telling telling (λ t u. RoundAfter Sends
    (record { hub = hub; stopped = down || spent; told = t; held = held })
    (record { hub = new; stopped = down || spent; told = u; held = held }))
offered_round true spent settings outcomes lates hub new o held telling new_is standing =
    same_link (λ t u. RoundAfter Sends (record { hub = hub; stopped = true; told = t; held = held })
    (record { hub = new; stopped = true; told = u; held = held })) telling (λ t up. absurd cc)
offered_round false true settings outcomes lates hub new o held telling new_is standing =
    same_link (λ t u. RoundAfter Sends (record { hub = hub; stopped = true; told = t; held = held })
    (record { hub = new; stopped = true; told = u; held = held })) telling (λ t up. absurd cc)
offered_round false false settings outcomes lates hub new o held telling new_is standing =
    told_alike (IsRunning settings hub outcomes lates)
    (λ t u. RoundAfter Sends (in_round hub held t) (in_round new held u)) telling standing
    (λ t is up. subst (λ (h : Hub). KeepsRound (in_round hub held t) (in_round h held t)) (sym new_is)
    (keeps_by (in_round hub held t) (in_round (offer hub o) held t) refl
    (λ some way. inl (offered_way hub o t is.reached.rest some way))))

-- who sends and is up afterwards was up before
pub sends_up : {L : Type 0} (old new : LaneState L) → SendsAs old new → (new.down || new.spent) ≡ false
    → (old.down || old.spent) ≡ false
sends_up {L} old new sends up = elim sends [
  | inl same ↦ sym (ap (λ (l : LaneState L). l.down || l.spent) same.1) ∙ up
  | inr went ↦ went.0
]

pub asked_round : {L : Type 0} (seen : Ghosts L) (old mid new : LaneState L)
    → seen.held old.link ≤ seen.held mid.link → seen.held mid.link ≤ seen.held new.link → SendsAs mid new
    → LaneRound seen Sends old mid → LaneRound seen Sends mid new
    → LaneRound seen Sends old new
asked_round seen old mid new le more sends first later =
    called_twice
    (λ s t. RoundAfter Sends (round_of old (seen.held old.link) s) (round_of mid (seen.held mid.link) t))
    (λ t u. RoundAfter Sends (round_of mid (seen.held mid.link) t) (round_of new (seen.held new.link) u))
    (λ s u. RoundAfter Sends (round_of old (seen.held old.link) s) (round_of new (seen.held new.link) u))
    (seen.telling old.link) (seen.telling mid.link) (seen.telling new.link) first later
    (λ s t u one other up. keeps_after (round_of old (seen.held old.link) s) (round_of mid (seen.held mid.link) t)
    (round_of new (seen.held new.link) u) le more (one (sends_up mid new sends up)) (other up))

-- a lane that stayed as it was
pub same_lane_sends : {L : Type 0} (seen : Ghosts L) (old new : LaneState L) → new ≡ old
    → LaneRound seen Sends old new
same_lane_sends {L} seen old new e = subst (λ (lane : LaneState L). LaneRound seen Sends old lane)
    (sym e) (same_link
    (λ t u. RoundAfter Sends (round_of old (seen.held old.link) t) (round_of old (seen.held old.link) u))
    (seen.telling old.link) (λ t up. same_round (round_of old (seen.held old.link) t)))

pub same_lane_idle : {L : Type 0} (seen : Ghosts L) (old new : LaneState L) → new ≡ old
    → LaneRound seen (Pumps Idle) old new
same_lane_idle {L} seen old new e =
    subst (λ (lane : LaneState L). LaneRound seen (Pumps Idle) old lane) (sym e)
    (same_link (λ t u. KeepsRound (round_of old (seen.held old.link) t) (round_of old (seen.held old.link) u))
    (seen.telling old.link) (λ t. same_round (round_of old (seen.held old.link) t)))

-- ---- calls of a lane, one after another

held_on : (first last : RoundState) (calls : List (LaneCall × RoundState)) → AreCalls first calls last
    → first.held ≤ last.held
held_on first last [] are = (let e = ap (λ (r : RoundState). r.held) are in omega (arith, e))
held_on first last ((call, after) ∷ later) are =
    (let one = are.0.held in let more = held_on after last later are.1 in omega (arith, one, more))

settles_later : (call : LaneCall × RoundState) (later : List (LaneCall × RoundState)) → SettlesOne later
    → SettlesOne (call ∷ later)
settles_later call later is =
    record { number = suc is.number; place = is.place; after = is.after; there = is.there }

abbrev Ends : RoundState → List (LaneCall × RoundState) → RoundState → Type 0
Ends first calls after = SettlesOne calls ⊎ Rose first.held after.held

-- from one call on
abbrev Leads : RoundState → List (LaneCall × RoundState) → RoundState → Type 0
Leads first later after = 1 ≤ first.hub.status_requests → IsUnderWay first.hub first.told → Ends first later after

kept_ends : (call : LaneCall) (first behind after : RoundState) (later : List (LaneCall × RoundState))
    → 1 ≤ first.hub.status_requests → IsUnderWay first.hub first.told → first.held ≤ behind.held
    → behind.held ≤ after.held → KeepsRound first behind → Leads behind later after
    → Ends first ((call, behind) ∷ later) after
kept_ends call first behind after later some way le more keeps leads = elim (keeps.way (λ _. way)) [
  | inl on ↦ (let still : 1 ≤ behind.hub.status_requests = (let same = keeps.same in omega (arith, same, some)) in
      elim (leads still (on still)) [
        | inl settles ↦ inl (settles_later (call, behind) later settles)
        | inr rose ↦ inr (rose_from first.held behind.held after.held le rose)
      ])
  | inr rose ↦ inr (rose_on first.held behind.held after.held more rose)
]

one_call : (call : LaneCall) (first behind after : RoundState) (later : List (LaneCall × RoundState))
    → 1 ≤ first.hub.status_requests → IsUnderWay first.hub first.told → behind.held ≤ after.held
    → IsCall call first behind → Leads behind later after → Ends first ((call, behind) ∷ later) after
one_call Sends first behind after later some way more is leads =
    kept_ends Sends first behind after later some way is.held more (is.round is.up) leads
one_call (Pumps (Reply place)) first behind after later some way more is leads =
    inl (record { number = 0; place = place; after = behind; there = refl })
one_call (Pumps Status) first behind after later some way more is leads =
    kept_ends (Pumps Status) first behind after later some way is.held more is.round leads
one_call (Pumps Stray) first behind after later some way more is leads =
    kept_ends (Pumps Stray) first behind after later some way is.held more is.round leads
one_call (Pumps Quiet) first behind after later some way more is leads =
    inr (rose_on first.held behind.held after.held more (is.round.held some way))
one_call (Pumps Idle) first behind after later some way more is leads =
    kept_ends (Pumps Idle) first behind after later some way is.held more is.round leads
one_call (Pumps LinkDown) first behind after later some way more is leads =
    absurd (let bad : true ≡ false = sym is.round ∙ is.up in cc)

pub round_ends : (first last after : RoundState) (calls : List (LaneCall × RoundState))
    → 1 ≤ first.hub.status_requests → IsUnderWay first.hub first.told → AreCalls first calls last
    → IsCall (Pumps Quiet) last after → Ends first calls after
round_ends first last after [] some way are quiet = inr
    ((subst (λ (r : RoundState). IsCall (Pumps Quiet) r after) are quiet).round.held some way)
round_ends first last after ((call, behind) ∷ later) some way are quiet =
    one_call call first behind after later some way
    (let on = held_on behind last later are.1 in let one = quiet.held in omega (arith, on, one)) are.0
    (λ still on. round_ends behind last after later still on are.1 quiet)
