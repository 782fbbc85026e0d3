-- A hub over a link, call by call.
use Rattle.std.proofs.Common.{◌≡◌, ℕ, ◌+◌, ◌≤◌, true, false, List, [], ◌∷◌, length}
use Rattle.std.proofs.Common.{Option, Some, None, refl, sym, ap, subst, arith, ◌∙◌, inl}
use Rattle.std.specs.Prelude.{IfSome}
use Rattle.std.specs.Prelude.{Result, Ok, Err}
use Rattle.world_model.specs.Messages.{to_hub}
use Rattle.world_model.specs.Hub.{Hub, IsDrained, hear_quiet, is_waiting, take_message}
use Rattle.world_model.specs.Links.{IsHanded, Told}
use Rattle.world_model.specs.Sends.{Next, bytes_to_send, next_send}
use Rattle.world_model.specs.Facts.{AreSendable}
use Rattle.reliable_engine.specs.Answers.{hub_next}
use Rattle.world_model.specs.Board.{Board}
use Rattle.world_model.specs.Settings.{Limits}
use Rattle.lane_record.specs.declared.outcome.Outcome.{Outcome}
use Rattle.links.specs.declared.link.Received.{Received}
use Rattle.links.specs.declared.link.Received.TheVariants.{Got, Quiet as received_quiet}
use Rattle.hub_lane.proofs.RoundHeard.{AirGrows}
use Rattle.hub_lane.specs.Lanes.{board_of}
use Rattle.links.specs.declared.link.LinkFault.{LinkFault}
use Rattle.links.specs.declared.link.LinkFault.TheVariants.{Failed, NoMemory}
use Rattle.reliable_engine.specs.MachineRuns.{RunEvent}
use Rattle.reliable_engine.specs.Traffic.{Passed}
use Rattle.links.specs.Receives.{receives_in}
use Rattle.links.specs.Telling.{IfTelling, IsGot, IsQuiet, IsReceived, IsSent, Receives, Telling}
use Rattle.hub_lane.specs.declared.answers.Pumped.{Pumped}
use Rattle.hub_lane.specs.declared.answers.Pumped.TheVariants.{Reply, Status, Stray, Quiet, Idle, LinkDown}
use Rattle.hub_lane.specs.Carrying.{HasPut}
use Rattle.hub_lane.specs.Hearing.{IsHeardAs, WasReceived}
use Rattle.hub_lane.specs.Rounds.{PaysOn, RoundFor, Sends}
use Rattle.hub_lane.specs.Run as ends
use Rattle.hub_lane.specs.Run.{RunsTo}
use Rattle.hub_lane.specs.Sends.{HasSent, all_sent}
use Rattle.hub_lane.specs.Standing.{GoesOn, IsRunning, IsStopped, NoneOpenHanded, StaysUnanswered, Stops}
use Rattle.hub_lane.specs.PumpLaws.{SendKeepsBodies, SendLeaves}
use Rattle.hub_lane.proofs.Closed.{got_closed, quiet_closed, refused_closed, sent_closed}
use Rattle.hub_lane.proofs.Standing.{HandedLaw, HeardLaw, QuietLaw, SameBoard, SendLaw}
use Rattle.hub_lane.proofs.Standing.{after_call, got_running, if_told, other_running, quiet_running, refused_stopped}
use Rattle.hub_lane.proofs.Standing.{sent_running}

-- so far sends went out
pub record IsSending (before : Option Telling) (old : Hub) (telling : Option Telling) (now : Hub)
    (faults faults_now quiets quiets_now gots gots_now number number_now held held_now : ℕ)
    (run run_now : List RunEvent) (passed passed_now : List Passed) : Type 0 where
  pub sent : AreSendable now.sent
  pub queue : AreSendable now.queue
  pub all : all_sent now ≡ all_sent old
  pub some : HasSent old now
  pub running : GoesOn before old telling now
  pub unanswered : StaysUnanswered before old telling now
  pub fault : faults ≤ faults_now
  pub unfaulted : IfSome before (λ _. faults_now ≡ faults)
  pub quiet : quiets_now ≡ quiets
  pub got : gots_now ≡ gots
  pub receive : receives_in passed_now ≡ receives_in passed
  pub same : number_now ≡ number
  pub hold : held ≤ held_now
  pub pays : PaysOn before old held telling now held_now
  pub round : RoundFor Sends before old held telling now held_now
  pub board : board_of telling ≡ board_of before
  pub put : IfTelling before telling (HasPut old now)
  pub ran : RunsTo ends.GoesOn [] old now run run_now passed passed_now

-- the bodies of the hub after a send
spelled_by : SendKeepsBodies → (old new : Hub) (r : Option Next) → next_send old ≡ r → new ≡ hub_next old r
    → AreSendable old.sent → AreSendable old.queue → AreSendable new.sent × AreSendable new.queue
spelled_by law old new None is after sent queue =
    subst (λ (h : Hub). AreSendable h.sent × AreSendable h.queue) (sym after) (sent, queue)
spelled_by law old new (Some next) is after sent queue =
    let kept = law (length old.sent + length old.queue) old next is
    (record { few = omega arith; sent = sent; queue = queue }) in
    subst (λ (h : Hub). AreSendable h.sent × AreSendable h.queue) (sym after) (kept.sent, kept.queue)

pub still_spelled : SendKeepsBodies → (old new : Hub) → new ≡ hub_next old (next_send old)
    → AreSendable old.sent → AreSendable old.queue → AreSendable new.sent × AreSendable new.queue
still_spelled law old new after sent queue = spelled_by law old new (next_send old) refl after sent queue

-- a send that the link took
pub sent_on : SendLaw → SendLeaves → (begin old : Hub) (next : Next) (held now : ℕ)
    (first telling after : Option Telling) → next_send old ≡ Some next
    → GoesOn first begin telling old
    → IfTelling telling after (IsSent (bytes_to_send next.hub next.send) held now)
    → GoesOn first begin after next.hub
sent_on law same begin old next held now first telling after is running call = λ limits outcomes lates start.
    after_call (IsRunning limits old outcomes lates) (IsRunning limits next.hub outcomes lates)
    (IsSent (bytes_to_send next.hub next.send) held now) telling after
    (running limits outcomes lates start) call
    (λ t u is_running sent. sent_running law same limits outcomes lates old next held now t u is is_running sent)

-- a send that it did not take
pub refused_on : (begin old : Hub) (next : Next) (first telling after : Option Telling) → next_send old ≡ Some next
    → GoesOn first begin telling old → after ≡ telling → Stops first begin after next.hub
refused_on begin old next first telling after is running same = λ limits outcomes lates start.
    subst (λ (t : Option Telling). IfSome t (IsStopped limits next.hub outcomes lates)) (sym same)
    (if_told (IsRunning limits old outcomes lates) (IsStopped limits next.hub outcomes lates) telling
    (running limits outcomes lates start)
    (λ t is_running. refused_stopped limits outcomes lates old next t is is_running))

-- ---- no reply of an open place was handed out

-- what holds of a hub and its link, and that none was
abbrev pub IsClosedOver : Limits → List (Option Outcome) → List (Option (List ℕ)) → Hub → Telling → Type 0
IsClosedOver limits outcomes lates hub t = IsRunning limits hub outcomes lates t × NoneOpenHanded hub t

both_before : (P Q : Telling → Type 0) (telling : Option Telling) → IfSome telling P → IfSome telling Q
    → IfSome telling (λ t. P t × Q t)
both_before P Q None p q = tt
both_before P Q (Some t) p q = (p, q)

-- a call after such ones
stays_after : (R : Telling → Telling → Type 0) (begin old new : Hub) (first telling after : Option Telling)
    → GoesOn first begin telling old → StaysUnanswered first begin telling old → IfTelling telling after R
    → ((limits : Limits) (outcomes : List (Option Outcome)) (lates : List (Option (List ℕ))) (t u : Telling)
    → IsRunning limits old outcomes lates t → NoneOpenHanded old t → R t u → NoneOpenHanded new u)
    → StaysUnanswered first begin after new
stays_after R begin old new first telling after running stays call leads = λ limits outcomes lates start none.
    after_call (IsClosedOver limits outcomes lates old) (NoneOpenHanded new) R telling after
    (both_before (IsRunning limits old outcomes lates) (NoneOpenHanded old) telling
    (running limits outcomes lates start) (stays limits outcomes lates start none)) call
    (λ t u is called. leads limits outcomes lates t u is.0 is.1 called)

-- nothing was called yet
pub stays_here : (hub : Hub) (telling : Option Telling) → StaysUnanswered telling hub telling hub
stays_here hub telling = λ limits outcomes lates start none. none

pub sent_stays : (begin old : Hub) (next : Next) (held now : ℕ) (first telling after : Option Telling)
    → next_send old ≡ Some next → GoesOn first begin telling old → StaysUnanswered first begin telling old
    → IfTelling telling after (IsSent (bytes_to_send next.hub next.send) held now)
    → StaysUnanswered first begin after next.hub
sent_stays begin old next held now first telling after is running stays call =
    stays_after (IsSent (bytes_to_send next.hub next.send) held now) begin old next.hub first telling after running
    stays call
    (λ limits outcomes lates t u run none sent. sent_closed old next held now t u is run.reached.joined sent none)

pub refused_stays : (begin old : Hub) (next : Next) (first telling after : Option Telling) → next_send old ≡ Some next
    → GoesOn first begin telling old → StaysUnanswered first begin telling old → after ≡ telling
    → StaysUnanswered first begin after next.hub
refused_stays begin old next first telling after is running stays same = λ limits outcomes lates start none.
    subst (λ (t : Option Telling). IfSome t (NoneOpenHanded next.hub)) (sym same)
    (if_told (IsClosedOver limits outcomes lates old) (NoneOpenHanded next.hub) telling
    (both_before (IsRunning limits old outcomes lates) (NoneOpenHanded old) telling
    (running limits outcomes lates start) (stays limits outcomes lates start none))
    (λ t both. refused_closed old next t is both.0.reached.joined both.1))

-- ---- a receive

module _ (heard : HeardLaw) (longer : AirGrows) (board : SameBoard) where
  -- one that brings the hub nothing
  pub other_on : (hub : Hub) (by_hub : List ℕ) (held now : ℕ) (old new : Option Telling) → next_send hub ≡ None
      → IsDrained hub → IfTelling old new (IsReceived by_hub held now) → GoesOn old hub new hub
  other_on hub by_hub held now old new send none call = λ limits outcomes lates start.
      after_call (IsRunning limits hub outcomes lates) (IsRunning limits hub outcomes lates) (IsReceived by_hub held
      now) old new
      start call (λ t u is received. other_running heard longer board limits outcomes lates hub by_hub held now t u
      send none
      is received)

  pub fault_on : (hub : Hub) (fault : LinkFault) (bytes : List ℕ) (held now : ℕ) (old new : Option Telling)
      → next_send hub ≡ None → IsDrained hub → IfTelling old new (Receives (Err fault) bytes held now)
      → GoesOn old hub new hub
  fault_on hub Failed bytes held now old new send none call = λ limits outcomes lates start.
      after_call (IsRunning limits hub outcomes lates) (IsRunning limits hub outcomes lates)
      (Receives (Err Failed) bytes held now) old new start call
      (λ t u is same. subst (IsRunning limits hub outcomes lates) (sym same) is)
  fault_on hub NoMemory bytes held now old new send none call = other_on hub [] held now old new send none call

  -- one whose datagram the hub did not hear
  pub unheard_on : (hub : Hub) (bytes : List ℕ) (held now : ℕ) (old new : Option Telling) → next_send hub ≡ None
      → IsDrained hub → IfTelling old new (IsGot bytes held now) → GoesOn old hub new hub
  unheard_on hub bytes held now old new send none call = λ limits outcomes lates start.
      after_call (IsRunning limits hub outcomes lates) (IsRunning limits hub outcomes lates) (IsGot bytes held now)
      old new
      start call (λ t u is got. other_running heard longer board limits outcomes lates hub (got.place ∷ []) held now t
      u send
      none is got.received)

  -- where the link failed, or the hub heard what came, no open place has a reply that was handed out
  stays_by : (R : Telling → Telling → Type 0) (hub new : Hub) (old after : Option Telling) → IfTelling old after R
      → ((limits : Limits) (outcomes : List (Option Outcome)) (lates : List (Option (List ℕ))) (t u : Telling)
      → IsRunning limits hub outcomes lates t → NoneOpenHanded hub t → R t u → NoneOpenHanded new u)
      → StaysUnanswered old hub after new
  stays_by R hub new old after call leads =
      stays_after R hub hub new old old after (λ limits outcomes lates start. start) (stays_here hub old) call leads

  pub failed_stays : (hub : Hub) (bytes : List ℕ) (held now : ℕ) (old new : Option Telling)
      → IfTelling old new (Receives (Err Failed) bytes held now) → StaysUnanswered old hub new hub
  failed_stays hub bytes held now old new call = stays_by (Receives (Err Failed) bytes held now) hub hub old new call
      (λ limits outcomes lates t u run none same. subst (NoneOpenHanded hub) (sym same) none)

  pub got_stays : (hub : Hub) (bytes : List ℕ) (held now : ℕ) (old new : Option Telling)
      → next_send hub ≡ None → IsDrained hub → IfTelling old new (IsGot bytes held now)
      → StaysUnanswered old hub new (take_message hub (to_hub bytes))
  got_stays hub bytes held now old new send drained call =
      stays_by (IsGot bytes held now) hub (take_message hub (to_hub bytes)) old new call
      (λ limits outcomes lates t u run none got.
      let here = other_running heard longer board limits outcomes lates hub (got.place ∷ []) held now t u send drained
      run got.received in
      got_closed longer board hub bytes held now t u here.reached.joined got none)

  pub quiet_stays : (hub : Hub) (held now : ℕ) (old new : Option Telling) → IfTelling old new (IsQuiet held now)
      → StaysUnanswered old hub new (hear_quiet hub)
  quiet_stays hub held now old new call = stays_by (IsQuiet held now) hub (hear_quiet hub) old new call
      (λ limits outcomes lates t u run none quiet. quiet_closed longer board hub held now t u quiet none)

  pub got_on : HandedLaw → (hub : Hub) (bytes : List ℕ) (held now : ℕ) (old new : Option Telling)
      → next_send hub ≡ None → IsDrained hub → IfTelling old new (IsGot bytes held now)
      → GoesOn old hub new (take_message hub (to_hub bytes))
  got_on law hub bytes held now old new send none call = λ limits outcomes lates start.
      after_call (IsRunning limits hub outcomes lates) (IsRunning limits (take_message hub (to_hub bytes)) outcomes
      lates)
      (IsGot bytes held now) old new start call
      (λ t u is got. got_running heard longer board law limits outcomes lates hub bytes held now t u send none is got)

  pub quiet_on : QuietLaw → (hub : Hub) (held now : ℕ) (old new : Option Telling)
      → next_send hub ≡ None → IsDrained hub → is_waiting hub ≡ true → IfTelling old new (IsQuiet held now)
      → GoesOn old hub new (hear_quiet hub)
  quiet_on law hub held now old new send none waits call = λ limits outcomes lates start.
      after_call (IsRunning limits hub outcomes lates) (IsRunning limits (hear_quiet hub) outcomes lates) (IsQuiet
      held now) old new
      start call (λ t u is quiet. quiet_running heard longer board law limits outcomes lates hub held now t u send
      none waits
      is quiet)

-- the datagram of a receive was handed out
handed_of : (t : Telling) (bytes : List ℕ) (pumped : Pumped) (hub : Hub) → IsHeardAs hub (to_hub bytes) pumped
    → IsHanded t.told bytes → WasReceived pumped bytes t
handed_of t bytes (Reply place) hub is handed = handed
handed_of t bytes Status hub is handed = handed
handed_of t bytes Stray hub is handed = handed
handed_of t bytes Quiet hub is handed = absurd is
handed_of t bytes Idle hub is handed = tt
handed_of t bytes LinkDown hub is handed = tt

pub was_received : (bytes : List ℕ) (pumped : Pumped) (hub : Hub) (held now : ℕ) (old new : Option Telling)
    → IsHeardAs hub (to_hub bytes) pumped → IfTelling old new (IsGot bytes held now)
    → IfSome new (WasReceived pumped bytes)
was_received bytes pumped hub held now None None is call = tt
was_received bytes pumped hub held now None (Some u) is call = absurd call
was_received bytes pumped hub held now (Some t) None is call = absurd call
was_received bytes pumped hub held now (Some t) (Some u) is call =
    handed_of u bytes pumped hub is (record { place = call.place; at = call.there })

-- ---- the board, whatever it executed

abbrev bare : Telling → Board
bare t = record t.told.board { log = [] }

same_board : (R : Telling → Telling → Type 0) (old new : Option Telling) → IfTelling old new R
    → ((t u : Telling) → R t u → bare u ≡ bare t) → board_of new ≡ board_of old
same_board R None None call same = refl
same_board R None (Some u) call same = absurd call
same_board R (Some t) None call same = absurd call
same_board R (Some t) (Some u) call same = ap (λ (b : Board). Some b) (same t u call)

pub sent_board : (bytes : List ℕ) (held now : ℕ) (old new : Option Telling)
    → IfTelling old new (IsSent bytes held now)
    → board_of new ≡ board_of old
sent_board bytes held now old new call = same_board (IsSent bytes held now) old new call
    (λ t u is. ap (λ (told : Told). record told.board { log = [] }) is.told)

heard_board : SameBoard → (by_hub : List ℕ) (held now : ℕ) (t u : Telling) → IsReceived by_hub held now t u
    → bare u ≡ bare t
heard_board law by_hub held now t u is = ap (λ (b : Board). record b { log = [] }) (law t.told u.told is.by_board)

receives_board : SameBoard → (result : Result Received LinkFault) (bytes : List ℕ) (held now : ℕ) (t u : Telling)
    → Receives result bytes held now t u → bare u ≡ bare t
receives_board law (Ok Got) bytes held now t u is = heard_board law _ held now t u is.received
receives_board law (Ok received_quiet) bytes held now t u is = heard_board law [] held now t u is.received
receives_board law (Err Failed) bytes held now t u is = ap (λ (x : Telling). bare x) is
receives_board law (Err NoMemory) bytes held now t u is = heard_board law [] held now t u is

pub received_board : SameBoard → (result : Result Received LinkFault) (bytes : List ℕ) (held now : ℕ)
    (old new : Option Telling) → IfTelling old new (Receives result bytes held now) → board_of new ≡ board_of old
received_board law result bytes held now old new call =
    same_board (Receives result bytes held now) old new call (receives_board law result bytes held now)

-- ---- faults of a link that tells

pub none_counted : (a : Option Telling) (n : ℕ) → IfSome a (λ _. n ≡ n)
none_counted None n = tt
none_counted (Some t) n = refl

-- no fault is counted in a call that does not fail
pub uncounted : (P : Type 0) (a b : Option Telling) (first before now : ℕ) → board_of b ≡ board_of a
    → IfSome a (λ _. before ≡ first) → IfSome b (λ _. P → now ≡ before) → IfSome a (λ _. P → now ≡ first)
uncounted P None b first before now board is more = tt
uncounted P (Some t) None first before now board is more = absurd cc
uncounted P (Some t) (Some u) first before now board is more = λ p. more p ∙ is

pub still_uncounted : (P : Type 0) (a b : Option Telling) (first before now : ℕ) → board_of b ≡ board_of a
    → IfSome a (λ _. before ≡ first) → IfSome b (λ _. P → now ≡ before) → P → IfSome a (λ _. now ≡ first)
still_uncounted P None b first before now board is more p = tt
still_uncounted P (Some t) None first before now board is more p = absurd cc
still_uncounted P (Some t) (Some u) first before now board is more p = more p ∙ is

-- all was sent, and no receive brought the hub anything
pub stopped_after : (before mid after : Option Telling) (old sent new : Hub) → GoesOn before old mid sent
    → GoesOn mid sent after new → Stops before old after new
stopped_after before mid after old sent new first second = λ limits outcomes lates start.
    if_told (IsRunning limits new outcomes lates) (IsStopped limits new outcomes lates) after
    (second limits outcomes lates (first limits outcomes lates start))
    (λ t is. record { before = new; running = is; refused = inl refl })
