-- How a hub stands to a link that tells: what each call keeps of it.
use Rattle.std.proofs.Common.{◌≡◌, ℕ, zero, suc, ◌+◌, true, false, cond, List, [], ◌∷◌, ◌++◌, length, map}
use Rattle.std.proofs.Common.{Option, Some, None, refl, sym, ap, ◌∙◌, subst, inl, inr, ◌⊎◌, append_assoc}
use Rattle.std.specs.Prelude.{IfSome, min, nat_lt}
use Rattle.std.specs.List.{AllByRecursion, Contains, slice_get}
use Rattle.std.proofs.lemmas.List.{append-nil}
use Rattle.std.proofs.lemmas.List.Elements.{Contains-append_left}
use Rattle.ipb_base.proofs.AllLemmas.{AllByRecursion-append}
use Rattle.packet_ids.specs.Identifier.{identifier_at}
use Rattle.world_model.specs.declared.datagram.Datagram.{Datagram}
use Rattle.world_model.specs.declared.offered.Fate.{Fate}
use Rattle.world_model.specs.declared.offered.Fate.TheVariants as fate
use Rattle.world_model.specs.declared.offered.Offered.{Offered}
use Rattle.world_model.specs.declared.offered.OpenPlace.{OpenPlace}
use Rattle.world_model.specs.Places.{at_place}
use Rattle.world_model.specs.Messages.{ToHub, StatusReply, Reply, to_hub}
use Rattle.world_model.specs.Board.{Board}
use Rattle.world_model.specs.Hub.{HandedOut, Hub, IsDrained, after_handing_out, hands_out, hear_quiet, insert_fate, insert_late}
use Rattle.world_model.specs.Hub.{is_waiting, new_hub, none_handed_out, offer, open_with, recover, settle, tag_of}
use Rattle.world_model.specs.Hub.{take_message, time_out, to_hand_out}
use Rattle.world_model.specs.Sends.{Next, bytes_to_send, next_send}
use Rattle.world_model.specs.World.{World, start}
use Rattle.world_model.specs.Facts.{IsSendable, IsStart}
use Rattle.world_model.specs.Links.{IsHanded, IsHeard, IsJoined, Told, sent_on}
use Rattle.world_model.proofs.Lists.{either, get_front, get_seam}
use Rattle.world_model.proofs.Hubs.{all_inserted, all_late, all_unsent}
use Rattle.world_model.proofs.OpenPlaces.{named}
use Rattle.world_model.proofs.Flushing.{quiet_cases, reply_cases, status_cases}
use Rattle.reliable_engine.specs.Answers.{IsOpen, hub_next}
use Rattle.world_model.specs.Settings.{Limits}
use Rattle.links.specs.States.{IsReached}
use Rattle.links.specs.Telling.{IfTelling, IsGot, IsQuiet, IsReceived, IsSent, Telling}
use Rattle.lane_record.specs.declared.outcome.Outcome.{Outcome}
use Rattle.lane_record.specs.declared.outcome.Outcome.TheVariants as became
use Rattle.lane_record.specs.Lates.{put_lates}
use Rattle.lane_record.specs.Offers.{AreToldBy, IsToldBy, all_lost, lost_after, outcome_of, put, put_all}
use Rattle.lane_record.specs.Outcomes.{is_sent}
use Rattle.hub_lane.proofs.RoundHeard.{AirGrows}
use Rattle.lane_record.proofs.Lates.{no_lates, told_lates_added, told_lates_more}
use Rattle.hub_lane.specs.Standing.{AreHanded, IsHandedFate, IsHandedLate, IsRunning, IsStopped, WasHanded}
use Rattle.hub_lane.specs.PumpLaws.{SendLeaves}
use Rattle.hub_lane.proofs.Handed.{heard_handed}

-- ---- the laws of world_core and world_model that these rest on

abbrev pub BeginLaw : Type 0
BeginLaw = (window rounds : ℕ) (board : Board) (air : List Datagram) → IsStart window board air
    → IsReached (start window rounds board air) none_handed_out (new_hub board.first (min window board.buffers) rounds)
    (record { board = board; air = air })

abbrev pub OfferLaw : Type 0
OfferLaw = (begin : World) (out : HandedOut) (hub : Hub) (told : Told) (offered : Offered)
    → IsReached begin out hub told → IsSendable offered.body → IsDrained hub
    → IsReached begin out (offer hub offered) told

abbrev pub SendLaw : Type 0
SendLaw = (begin : World) (out : HandedOut) (hub : Hub) (told : Told) (next : Next)
    → IsReached begin out hub told → next_send hub ≡ Some next
    → IsReached begin out next.hub (sent_on told (bytes_to_send next.hub next.send))

-- what a send leaves as it was
abbrev pub HeardLaw : Type 0
HeardLaw = (begin : World) (out : HandedOut) (hub : Hub) (old new : Told)
    → IsReached begin out hub old → next_send hub ≡ None → IsDrained hub → IsHeard old new
    → IsReached begin out hub new

abbrev pub HandedLaw : Type 0
HandedLaw = (begin : World) (out : HandedOut) (hub : Hub) (told : Told) (bytes : List ℕ)
    → IsReached begin out hub told → next_send hub ≡ None → IsDrained hub → IsHanded told bytes
    → IsReached begin out (take_message hub (to_hub bytes)) told

abbrev pub QuietLaw : Type 0
QuietLaw = (begin : World) (out : HandedOut) (hub : Hub) (told : Told)
    → IsReached begin out hub told → next_send hub ≡ None → IsDrained hub → is_waiting hub ≡ true
    → IsReached begin out (hear_quiet hub) told

abbrev pub OutLaw : Type 0
OutLaw = (begin : World) (out : HandedOut) (hub : Hub) (told : Told) → IsReached begin out hub told
    → IsReached begin (hands_out out hub) (after_handing_out hub) told

abbrev pub SameBoard : Type 0
SameBoard = (old new : Told) → IsHeard old new → record new.board { log = old.board.log } ≡ old.board

-- ---- one call, where the link tells

pub after_call : (P Q : Telling → Type 0) (R : Telling → Telling → Type 0) (old new : Option Telling) → IfSome old P
    → IfTelling old new R → ((t u : Telling) → P t → R t u → Q u) → IfSome new Q
after_call P Q R None None before call leads = tt
after_call P Q R None (Some u) before call leads = absurd call
after_call P Q R (Some t) None before call leads = absurd call
after_call P Q R (Some t) (Some u) before call leads = leads t u before call

pub if_told : (P Q : Telling → Type 0) (telling : Option Telling) → IfSome telling P → ((t : Telling) → P t → Q t)
    → IfSome telling Q
if_told P Q None is leads = tt
if_told P Q (Some t) is leads = leads t is

-- ---- what was handed out stays so

record Grows (t u : Telling) : Type 0 where
  more : List Datagram
  air : u.told.air ≡ t.told.air ++ more
  first : u.told.board.first ≡ t.told.board.first
  handed : (number : ℕ) → Contains t.handed number → Contains u.handed number

was_grows : (t u : Telling) → Grows t u → (place : ℕ) (words : List ℕ) → WasHanded t place words
    → WasHanded u place words
was_grows t u grows place words is = record {
  number = is.number;
  birth = is.birth;
  bytes = is.bytes;
  handed = grows.handed is.number is.handed;
  there = ap (λ (air : List Datagram). slice_get air is.number) grows.air
      ∙ get_front t.told.air grows.more is.number _ is.there;
  reply = is.reply ∙ ap (λ (first : ℕ). Some (Reply (identifier_at first place) words)) (sym grows.first);
  sent = is.sent;
  recent = is.recent;
}

fate_grows : (t u : Telling) → Grows t u → (f : ℕ × Fate) → IsHandedFate t f → IsHandedFate u f
fate_grows t u grows (tag, fate.Replied place words) is = was_grows t u grows place words is
fate_grows t u grows (tag, fate.TimedOut place rounds) is = tt
fate_grows t u grows (tag, fate.Unsent) is = tt

fates_grow : (t u : Telling) → Grows t u → (fates : List (ℕ × Fate)) → AllByRecursion (IsHandedFate t) fates
    → AllByRecursion (IsHandedFate u) fates
fates_grow t u grows [] are = tt
fates_grow t u grows (f ∷ fs) are = (fate_grows t u grows f are.0, fates_grow t u grows fs are.1)

lates_grow : (t u : Telling) → Grows t u → (lates : List (ℕ × List ℕ)) → AllByRecursion (IsHandedLate t) lates
    → AllByRecursion (IsHandedLate u) lates
lates_grow t u grows [] are = tt
lates_grow t u grows (l ∷ ls) are = (was_grows t u grows l.0 l.1 are.0, lates_grow t u grows ls are.1)

handed_grows : (t u : Telling) → Grows t u → (out : HandedOut) → AreHanded t out → AreHanded u out
handed_grows t u grows out are = record {
  fates = fates_grow t u grows out.fates are.fates;
  lates = lates_grow t u grows out.lates are.lates;
}

sent_grows : (bytes : List ℕ) (before now : ℕ) (t u : Telling) → IsSent bytes before now t u → Grows t u
sent_grows bytes before now t u is = record {
  more = _;
  air = ap (λ (told : Told). told.air) is.told;
  first = ap (λ (told : Told). told.board.first) is.told;
  handed = λ number there. subst (λ (xs : List ℕ). Contains xs number) (sym is.handed) there;
}

received_grows : AirGrows → SameBoard → (by_hub : List ℕ) (before now : ℕ) (t u : Telling)
    → IsReceived by_hub before now t u → Grows t u
received_grows air_law board_law by_hub before now t u is =
    let longer = air_law t.told u.told is.by_board in
    record {
      more = longer.0;
      air = longer.1;
      first = ap (λ (board : Board). board.first) (board_law t.told u.told is.by_board);
      handed = λ number there. subst (λ (xs : List ℕ). Contains xs number) (sym is.handed)
          (Contains-append_left t.handed by_hub number there);
    }

-- ---- what a message or a quiet receive brings

-- a fate is that of the reply in the message, which an open place waits for
abbrev pub IsOfReply : Hub → Option ToHub → ℕ × Fate → Type 0
IsOfReply hub message (tag, fate.Replied place words) =
    IsOpen hub place × (message ≡ Some (Reply (identifier_at hub.first place) words))
IsOfReply hub message (tag, fate.TimedOut place rounds) = Unit {0}
IsOfReply hub message (tag, fate.Unsent) = Unit {0}

-- a late answer is the reply in the message, to an open place
abbrev pub IsLateOfReply : Hub → Option ToHub → ℕ × List ℕ → Type 0
IsLateOfReply hub message late =
    IsOpen hub late.0 × (message ≡ Some (Reply (identifier_at hub.first late.0) late.1))

pub record AreOfReply (hub : Hub) (message : Option ToHub) (out : HandedOut) : Type 0 where
  pub fates : AllByRecursion (IsOfReply hub message) out.fates
  pub lates : AllByRecursion (IsLateOfReply hub message) out.lates

none_of : {A : Type 0} (P : A → Type 0) (xs : List A) → xs ≡ [] → AllByRecursion P xs
none_of P xs none = subst (AllByRecursion P) (sym none) tt

none_brought : (hub : Hub) (message : Option ToHub) (after : Hub) → IsDrained after
    → AreOfReply hub message (to_hand_out after)
none_brought hub message after none =
    record { fates = none_of _ after.fates none.fates; lates = none_of _ after.lates none.lates }

reply_brings : (hub : Hub) (id : ℕ) (words : List ℕ) → IsDrained hub → (o : OpenPlace)
    → open_with hub.first id hub.open_places ≡ Some o
    → AreOfReply hub (Some (Reply id words)) (to_hand_out (settle hub words (Some o)))
reply_brings hub id words none o is =
    let message : Option ToHub = Some (Reply id words) in
    let found = named hub.first id hub.open_places o is in
    let said = ap (λ (n : ℕ). Some (Reply n words)) (sym found.identifier) in
    let new : ℕ × Fate = (tag_of (at_place hub.sent o.place), fate.Replied o.place words) in
    record {
      fates = either (AllByRecursion (IsOfReply hub message)) o.waited (insert_fate o.place new hub.fates) hub.fates
          (λ _. all_inserted (IsOfReply hub message) o.place new hub.fates (found.there, said)
          (none_of _ hub.fates none.fates))
          (λ _. none_of _ hub.fates none.fates);
      lates = either (AllByRecursion (IsLateOfReply hub message)) o.waited hub.lates
          (insert_late (o.place, words) hub.lates)
          (λ _. none_of _ hub.lates none.lates)
          (λ _. all_late (IsLateOfReply hub message) (o.place, words) hub.lates (found.there, said)
          (none_of _ hub.lates none.lates));
    }

pub message_brings : (hub : Hub) (message : Option ToHub) → IsDrained hub
    → AreOfReply hub message (to_hand_out (take_message hub message))
message_brings hub None none = none_brought hub None hub none
message_brings hub (Some (StatusReply mtu buffers next)) none =
    status_cases (λ (h : Hub). AreOfReply hub (Some (StatusReply mtu buffers next)) (to_hand_out h)) hub next
    (none_brought hub _ hub none)
    (λ told. none_brought hub _ (record hub { open_places = map (recover told) hub.open_places })
    (record { fates = none.fates; lates = none.lates }))
message_brings hub (Some (Reply id words)) none =
    reply_cases (λ (h : Hub). AreOfReply hub (Some (Reply id words)) (to_hand_out h)) hub id words
    (none_brought hub _ hub none) (λ o is. reply_brings hub id words none o is)

time_outs_are : (P : ℕ × Fate → Type 0) → ((tag place rounds : ℕ) → P (tag, fate.TimedOut place rounds))
    → (rounds : ℕ) (sent : List Offered) (os : List OpenPlace) (fates : List (ℕ × Fate)) → AllByRecursion P fates
    → AllByRecursion P (time_out rounds sent os fates)
time_outs_are P late rounds sent [] fates all = all
time_outs_are P late rounds sent (o ∷ os) fates all =
    let new : ℕ × Fate = (tag_of (at_place sent o.place), fate.TimedOut o.place rounds) in
    time_outs_are P late rounds sent os (cond o.waited (insert_fate o.place new fates) fates)
    (either (AllByRecursion P) o.waited (insert_fate o.place new fates) fates
    (λ _. all_inserted P o.place new fates (late _ _ _) all) (λ _. all))

-- a quiet receive brings no reply
pub quiet_are : (P : ℕ × Fate → Type 0) → ((tag place rounds : ℕ) → P (tag, fate.TimedOut place rounds))
    → ((tag : ℕ) → P (tag, fate.Unsent)) → (hub : Hub) → hub.fates ≡ [] → AllByRecursion P (hear_quiet hub).fates
quiet_are P timed_out unsent hub none = quiet_cases (λ (h : Hub). AllByRecursion P h.fates) hub
    (λ _. none_of _ hub.fates none)
    (λ _. AllByRecursion-append P _ _
    (time_outs_are P timed_out hub.rounds hub.sent hub.open_places hub.fates (none_of _ hub.fates none))
    (all_unsent P hub.queue unsent))

quiet_fates : (t : Telling) (hub : Hub) → hub.fates ≡ [] → AllByRecursion (IsHandedFate t) (hear_quiet hub).fates
quiet_fates t hub none = quiet_are (IsHandedFate t) (λ tag place rounds. tt) (λ tag. tt) hub none

-- no late answer comes of it
pub quiet_lates : (hub : Hub) → (hear_quiet hub).lates ≡ hub.lates
quiet_lates hub = quiet_cases (λ (h : Hub). h.lates ≡ hub.lates) hub (λ _. refl) (λ _. refl)

all_front : {A : Type 0} (P : A → Type 0) (xs ys : List A) → AllByRecursion P (xs ++ ys) → AllByRecursion P xs
all_front P [] ys all = tt
all_front P (x ∷ xs) ys all = (all.0, all_front P xs ys all.1)

-- what was handed out before, and what a hub brings now
handed_with : (t : Telling) (out : HandedOut) (old new : Hub) → AreHanded t (hands_out out old)
    → AreHanded t (to_hand_out new) → AreHanded t (hands_out out new)
handed_with t out old new before now = record {
  fates = AllByRecursion-append (IsHandedFate t) out.fates new.fates
      (all_front (IsHandedFate t) out.fates old.fates before.fates) now.fates;
  lates = AllByRecursion-append (IsHandedLate t) out.lates new.lates
      (all_front (IsHandedLate t) out.lates old.lates before.lates) now.lates;
}

-- ---- each call

pub begins_running : BeginLaw → (limits : Limits) (t : Telling) → IsStart limits.window t.told.board t.told.air
    → IsRunning limits (new_hub t.told.board.first (min limits.window t.told.board.buffers) limits.rounds) [] [] t
begins_running law limits t begins = record {
  board = t.told.board;
  air = t.told.air;
  begins = begins;
  out = none_handed_out;
  reached = law limits.window limits.rounds t.told.board t.told.air begins;
  told = λ k o e. absurd cc;
  late = no_lates.came;
  handed = record { fates = tt; lates = tt };
}

pub sent_running : SendLaw → SendLeaves → (limits : Limits) (outcomes : List (Option Outcome))
    (lates : List (Option (List ℕ))) (hub : Hub) (next : Next)
    (before now : ℕ) (t u : Telling) → next_send hub ≡ Some next
    → IsRunning limits hub outcomes lates t → IsSent (bytes_to_send next.hub next.send) before now t u
    → IsRunning limits next.hub outcomes lates u
sent_running law same limits outcomes lates hub next before now t u send is sent = record {
  board = is.board;
  air = is.air;
  begins = is.begins;
  out = is.out;
  reached = subst (IsReached (start limits.window limits.rounds is.board is.air) is.out next.hub) (sym sent.told)
      (law (start limits.window limits.rounds is.board is.air) is.out hub t.told next is.reached send);
  told = is.told;
  late = is.late;
  handed = handed_grows t u (sent_grows _ before now t u sent) (hands_out is.out next.hub) (record {
    fates = subst (λ (xs : List (ℕ × Fate)). AllByRecursion (IsHandedFate t) (is.out.fates ++ xs))
        (sym (same.fates hub next send)) is.handed.fates;
    lates = subst (λ (xs : List (ℕ × List ℕ)). AllByRecursion (IsHandedLate t) (is.out.lates ++ xs))
        (sym (same.lates hub next send)) is.handed.lates;
  });
}

pub refused_stopped : (limits : Limits) (outcomes : List (Option Outcome)) (lates : List (Option (List ℕ)))
    (hub : Hub) (next : Next) (t : Telling)
    → next_send hub ≡ Some next → IsRunning limits hub outcomes lates t → IsStopped limits next.hub outcomes lates t
refused_stopped limits outcomes lates hub next t send is = record {
  before = hub;
  running = is;
  refused = inr (ap (hub_next hub) (sym send));
}

pub stopped_there : (limits : Limits) (outcomes : List (Option Outcome)) (lates : List (Option (List ℕ)))
    (hub : Hub) (t : Telling) → IsRunning limits hub outcomes lates t → IsStopped limits hub outcomes lates t
stopped_there limits outcomes lates hub t is = record { before = hub; running = is; refused = inl refl }

module _ (heard : HeardLaw) (longer : AirGrows) (board : SameBoard) where
  pub other_running : (limits : Limits) (outcomes : List (Option Outcome)) (lates : List (Option (List ℕ)))
      (hub : Hub) (by_hub : List ℕ) (before now : ℕ) (t u : Telling) → next_send hub ≡ None → IsDrained hub
      → IsRunning limits hub outcomes lates t → IsReceived by_hub before now t u
      → IsRunning limits hub outcomes lates u
  other_running limits outcomes lates hub by_hub before now t u send none is received = record {
    board = is.board;
    air = is.air;
    begins = is.begins;
    out = is.out;
    reached = heard _ is.out hub t.told u.told is.reached send none received.by_board;
    told = is.told;
    late = is.late;
    handed = handed_grows t u (received_grows longer board by_hub before now t u received) _ is.handed;
  }

  fates_handed : (hub : Hub) (bytes : List ℕ) (before now : ℕ) (t u : Telling) → IsJoined hub u.told
      → IsGot bytes before now t u → (fates : List (ℕ × Fate)) → AllByRecursion (IsOfReply hub (to_hub bytes)) fates
      → AllByRecursion (IsHandedFate u) fates
  fates_handed hub bytes before now t u joined got [] are = tt
  fates_handed hub bytes before now t u joined got ((tag, fate.Replied place words) ∷ fs) are = (
    heard_handed hub bytes before now t u place words joined got are.0.0 are.0.1,
    fates_handed hub bytes before now t u joined got fs are.1,
  )
  fates_handed hub bytes before now t u joined got ((tag, fate.TimedOut place rounds) ∷ fs) are =
      (tt, fates_handed hub bytes before now t u joined got fs are.1)
  fates_handed hub bytes before now t u joined got ((tag, fate.Unsent) ∷ fs) are =
      (tt, fates_handed hub bytes before now t u joined got fs are.1)

  lates_handed : (hub : Hub) (bytes : List ℕ) (before now : ℕ) (t u : Telling) → IsJoined hub u.told
      → IsGot bytes before now t u → (lates : List (ℕ × List ℕ))
      → AllByRecursion (IsLateOfReply hub (to_hub bytes)) lates → AllByRecursion (IsHandedLate u) lates
  lates_handed hub bytes before now t u joined got [] are = tt
  lates_handed hub bytes before now t u joined got (l ∷ ls) are = (
    heard_handed hub bytes before now t u l.0 l.1 joined got are.0.0 are.0.1,
    lates_handed hub bytes before now t u joined got ls are.1,
  )

  pub got_running : HandedLaw → (limits : Limits) (outcomes : List (Option Outcome))
      (lates : List (Option (List ℕ))) (hub : Hub) (bytes : List ℕ)
      (before now : ℕ) (t u : Telling) → next_send hub ≡ None → IsDrained hub
      → IsRunning limits hub outcomes lates t → IsGot bytes before now t u
      → IsRunning limits (take_message hub (to_hub bytes)) outcomes lates u
  got_running law limits outcomes lates hub bytes before now t u send none is got =
      let here = other_running limits outcomes lates hub (got.place ∷ []) before now t u send none is got.received in
      let brings = message_brings hub (to_hub bytes) none in
      let joined = here.reached.joined in
      record {
        board = here.board;
        air = here.air;
        begins = here.begins;
        out = here.out;
        reached = law _ here.out hub u.told bytes here.reached send none
            (record { place = got.place; at = got.there });
        told = here.told;
        late = here.late;
        handed = handed_with u here.out hub (take_message hub (to_hub bytes)) here.handed (record {
          fates = fates_handed hub bytes before now t u joined got _ brings.fates;
          lates = lates_handed hub bytes before now t u joined got _ brings.lates;
        });
      }

  pub quiet_running : QuietLaw → (limits : Limits) (outcomes : List (Option Outcome))
      (lates : List (Option (List ℕ))) (hub : Hub)
      (before now : ℕ) (t u : Telling) → next_send hub ≡ None → IsDrained hub → is_waiting hub ≡ true
      → IsRunning limits hub outcomes lates t → IsQuiet before now t u
      → IsRunning limits (hear_quiet hub) outcomes lates u
  quiet_running law limits outcomes lates hub before now t u send none waits is quiet =
      let here = other_running limits outcomes lates hub [] before now t u send none is quiet.received in
      record {
        board = here.board;
        air = here.air;
        begins = here.begins;
        out = here.out;
        reached = law _ here.out hub u.told here.reached send none waits;
        told = here.told;
        late = here.late;
        handed = handed_with u here.out hub (hear_quiet hub) here.handed (record {
          fates = quiet_fates u hub none.fates;
          lates = none_of _ (hear_quiet hub).lates (quiet_lates hub ∙ none.lates);
        });
      }

pub offered_running : OfferLaw → (limits : Limits) (outcomes : List (Option Outcome)) (lates : List (Option (List ℕ)))
    (hub : Hub) (offered : Offered) (t : Telling) → IsSendable offered.body → IsDrained hub
    → IsRunning limits hub outcomes lates t → IsRunning limits (offer hub offered) outcomes lates t
offered_running law limits outcomes lates hub offered t can none is = record {
  board = is.board;
  air = is.air;
  begins = is.begins;
  out = is.out;
  reached = law _ is.out hub t.told offered is.reached can none;
  told = is.told;
  late = is.late;
  handed = record { fates = is.handed.fates; lates = is.handed.lates };
}

-- ---- fates are handed out, and become outcomes

told_more : (fates more : List (ℕ × Fate)) (k : ℕ) (o : Outcome) → IsToldBy fates k o → IsToldBy (fates ++ more) k o
told_more fates more k (became.Replied place words) is =
    record { number = is.number; there = get_front fates more is.number _ is.there }
told_more fates more k (became.TimedOut place rounds) is =
    record { number = is.number; there = get_front fates more is.number _ is.there }
told_more fates more k became.Unsent is =
    record { number = is.number; there = get_front fates more is.number _ is.there }
told_more fates more k (became.LinkLost place) is = tt

told_last : (fates : List (ℕ × Fate)) (k : ℕ) (f : Fate) → IsToldBy (fates ++ (k, f) ∷ []) k (outcome_of f)
told_last fates k (fate.Replied place words) = record { number = length fates; there = get_seam fates [] _ }
told_last fates k (fate.TimedOut place rounds) = record { number = length fates; there = get_seam fates [] _ }
told_last fates k fate.Unsent = record { number = length fates; there = get_seam fates [] _ }

put_get : (at : ℕ) (new : Outcome) (outcomes : List (Option Outcome)) (k : ℕ) (o : Outcome)
    → slice_get (put at new outcomes) k ≡ Some (Some o)
    → ((at ≡ k) × (new ≡ o)) ⊎ (slice_get outcomes k ≡ Some (Some o))
put_get at new [] k o is = absurd cc
put_get zero new (x ∷ xs) zero o is = inl (refl, cc)
put_get zero new (x ∷ xs) (suc k) o is = inr is
put_get (suc at) new (x ∷ xs) zero o is = inr is
put_get (suc at) new (x ∷ xs) (suc k) o is = elim (put_get at new xs k o is) [
  | inl same ↦ inl (ap suc same.0, same.1)
  | inr old ↦ inr old
]

told_one : (fates : List (ℕ × Fate)) (outcomes : List (Option Outcome)) (f : ℕ × Fate) → AreToldBy fates outcomes
    → AreToldBy (fates ++ f ∷ []) (put f.0 (outcome_of f.1) outcomes)
told_one fates outcomes f are = λ k o is. elim (put_get f.0 (outcome_of f.1) outcomes k o is) [
  | inl same ↦ subst (λ (n : ℕ). IsToldBy (fates ++ f ∷ []) n o) same.0
      (subst (IsToldBy (fates ++ f ∷ []) f.0) same.1 (told_last fates f.0 f.1))
  | inr old ↦ told_more fates (f ∷ []) k o (are k o old)
]

told_all : (fates new : List (ℕ × Fate)) (outcomes : List (Option Outcome)) → AreToldBy fates outcomes
    → AreToldBy (fates ++ new) (put_all new outcomes)
told_all fates [] outcomes are = subst (λ (fs : List (ℕ × Fate)). AreToldBy fs outcomes) (sym (append-nil fates)) are
told_all fates (f ∷ fs) outcomes are =
    subst (λ (all : List (ℕ × Fate)). AreToldBy all (put_all (f ∷ fs) outcomes)) (append_assoc fates (f ∷ []) fs)
    (told_all (fates ++ f ∷ []) fs (put f.0 (outcome_of f.1) outcomes) (told_one fates outcomes f are))

pub drained_running : OutLaw → (limits : Limits) (outcomes : List (Option Outcome)) (lates : List (Option (List ℕ)))
    (hub : Hub) (t : Telling) → IsRunning limits hub outcomes lates t
    → IsRunning limits (after_handing_out hub) (put_all hub.fates outcomes) (put_lates hub.lates lates) t
drained_running law limits outcomes lates hub t is = record {
  board = is.board;
  air = is.air;
  begins = is.begins;
  out = hands_out is.out hub;
  reached = law _ is.out hub t.told is.reached;
  told = told_all is.out.fates hub.fates outcomes is.told;
  late = told_lates_more is.out.lates hub.lates lates is.late;
  handed = record {
    fates = subst (AllByRecursion (IsHandedFate t)) (sym (append-nil (is.out.fates ++ hub.fates))) is.handed.fates;
    lates = subst (AllByRecursion (IsHandedLate t)) (sym (append-nil (is.out.lates ++ hub.lates))) is.handed.lates;
  };
}

-- ---- outcomes that no fate tells

lost_or_later : (lost : Outcome) (place : Option ℕ) (others sent : ℕ) (xs : List (Option Outcome)) (k : ℕ) (o : Outcome)
    → lost ≡ became.LinkLost place
    → slice_get (Some lost ∷ lost_after others sent xs) k ≡ Some (Some o)
    → ((j : ℕ) → slice_get (lost_after others sent xs) j ≡ Some (Some o)
    → ((p : Option ℕ) × (o ≡ became.LinkLost p)) ⊎ (slice_get xs j ≡ Some (Some o)))
    → ((p : Option ℕ) × (o ≡ became.LinkLost p)) ⊎ (slice_get (None ∷ xs) k ≡ Some (Some o))
lost_or_later lost place others sent xs zero o is e later = inl (place, cc)
lost_or_later lost place others sent xs (suc j) o is e later = later j e

lost_get : (others sent : ℕ) (outcomes : List (Option Outcome)) (k : ℕ) (o : Outcome)
    → slice_get (lost_after others sent outcomes) k ≡ Some (Some o)
    → ((place : Option ℕ) × (o ≡ became.LinkLost place)) ⊎ (slice_get outcomes k ≡ Some (Some o))
lost_get others sent [] k o is = absurd cc
lost_get others sent (Some x ∷ xs) zero o is = inr is
lost_get others sent (Some x ∷ xs) (suc k) o is =
    lost_get (cond (is_sent x) (others + 1) others) sent xs k o is
lost_get others sent (None ∷ xs) k o is = elim (nat_lt others sent)
    as (λ b. slice_get (cond b (Some (became.LinkLost (Some (others + 1))) ∷ lost_after (others + 1) sent xs)
    (Some (became.LinkLost None) ∷ lost_after others sent xs)) k ≡ Some (Some o)
    → ((place : Option ℕ) × (o ≡ became.LinkLost place)) ⊎ (slice_get (None ∷ xs) k ≡ Some (Some o))) [
      | true ↦ λ e. lost_or_later (became.LinkLost (Some (others + 1))) (Some (others + 1)) (others + 1) sent xs k o
          refl e
          (λ j later. lost_get (others + 1) sent xs j o later)
      | false ↦ λ e. lost_or_later (became.LinkLost None) None others sent xs k o refl e
          (λ j later. lost_get others sent xs j o later)
    ] is

told_lost : (fates : List (ℕ × Fate)) (k : ℕ) (o : Outcome) (place : Option ℕ) → o ≡ became.LinkLost place
    → IsToldBy fates k o
told_lost fates k o place is = subst (IsToldBy fates k) (sym is) tt

pub lost_running : (limits : Limits) (outcomes : List (Option Outcome)) (lates : List (Option (List ℕ))) (hub : Hub)
    (sent : ℕ) (t : Telling) → IsRunning limits hub outcomes lates t
    → IsRunning limits hub (all_lost sent outcomes) lates t
lost_running limits outcomes lates hub sent t is = record {
  board = is.board;
  air = is.air;
  begins = is.begins;
  out = is.out;
  reached = is.reached;
  told = λ k o e. elim (lost_get 0 sent outcomes k o e) [
    | inl lost ↦ told_lost is.out.fates k o lost.0 lost.1
    | inr old ↦ is.told k o old
  ];
  late = is.late;
  handed = is.handed;
}

pub lost_stopped : (limits : Limits) (outcomes : List (Option Outcome)) (lates : List (Option (List ℕ))) (hub : Hub)
    (sent : ℕ) (t : Telling) → IsStopped limits hub outcomes lates t
    → IsStopped limits hub (all_lost sent outcomes) lates t
lost_stopped limits outcomes lates hub sent t is = record {
  before = is.before;
  running = lost_running limits outcomes lates is.before sent t is.running;
  refused = is.refused;
}

-- one more outcome, or none yet
pub pushed_get : (outcomes : List (Option Outcome)) (new : Option Outcome) (k : ℕ) (o : Outcome)
    → slice_get (outcomes ++ new ∷ []) k ≡ Some (Some o)
    → (new ≡ Some o) ⊎ (slice_get outcomes k ≡ Some (Some o))
pushed_get [] new zero o is = inl cc
pushed_get [] new (suc k) o is = absurd cc
pushed_get (x ∷ xs) new zero o is = inr is
pushed_get (x ∷ xs) new (suc k) o is = pushed_get xs new k o is

told_pushed : (fates : List (ℕ × Fate)) (outcomes : List (Option Outcome)) (new : Option Outcome)
    → ((k : ℕ) (o : Outcome) → new ≡ Some o → IsToldBy fates k o)
    → AreToldBy fates outcomes → AreToldBy fates (outcomes ++ new ∷ [])
told_pushed fates outcomes new last are = λ k o e. elim (pushed_get outcomes new k o e) [
  | inl is ↦ last k o is
  | inr old ↦ are k o old
]

-- one more Ask, and room for what may come late
asked_with : (new : Option Outcome) (limits : Limits) (outcomes : List (Option Outcome))
    (lates : List (Option (List ℕ))) (hub : Hub) (t : Telling)
    → ((fates : List (ℕ × Fate)) (k : ℕ) (o : Outcome) → new ≡ Some o → IsToldBy fates k o)
    → IsRunning limits hub outcomes lates t
    → IsRunning limits hub (outcomes ++ new ∷ []) (lates ++ None ∷ []) t
asked_with new limits outcomes lates hub t told is = record {
  board = is.board;
  air = is.air;
  begins = is.begins;
  out = is.out;
  reached = is.reached;
  told = told_pushed is.out.fates outcomes new (told is.out.fates) is.told;
  late = told_lates_added is.out.lates lates is.late;
  handed = is.handed;
}

pub asked_running : (limits : Limits) (outcomes : List (Option Outcome)) (lates : List (Option (List ℕ))) (hub : Hub)
    (t : Telling) → IsRunning limits hub outcomes lates t
    → IsRunning limits hub (outcomes ++ None ∷ []) (lates ++ None ∷ []) t
asked_running limits outcomes lates hub t is =
    asked_with None limits outcomes lates hub t (λ fates k o e. absurd cc) is

pub asked_lost : (limits : Limits) (outcomes : List (Option Outcome)) (lates : List (Option (List ℕ))) (hub : Hub)
    (t : Telling) → IsStopped limits hub outcomes lates t
    → IsStopped limits hub (outcomes ++ Some (became.LinkLost None) ∷ []) (lates ++ None ∷ []) t
asked_lost limits outcomes lates hub t is = record {
  before = is.before;
  running = asked_with (Some (became.LinkLost None)) limits outcomes lates is.before t
      (λ fates k o e. told_lost fates k o None cc) is.running;
  refused = is.refused;
}
