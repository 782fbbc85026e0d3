-- What a receive of a link went past so far, and what it comes to behind that.
use Rattle.std.proofs.Common.{◌≡◌, ◌≢◌, ℕ, ◌+◌, ◌<◌, ◌≤◌, Bool, true, false, List, [], ◌∷◌, ◌++◌, length, map, take, Option, option_map, Result, Ok, Err, IfOk, IsOkAnd, refl, sym, ap, subst, ◌∙◌, append-nil, length-append, arith, inl, inr}
use Rattle.std.proofs.lemmas.List.{map-append}
use Rattle.std.proofs.Math.Seq.{take-append_seam}
use Rattle.std.specs.List.{AllByRecursion}
use Rattle.std.specs.declared.io.Error.{Error}
use Rattle.std.specs.declared.net.socket_addr.SocketAddr.{SocketAddr}
use Rattle.ipb_base.proofs.AllLemmas.{AllByRecursion-append}
use Rattle.links.specs.declared.link.LinkFault.{LinkFault}
use Rattle.links.specs.declared.link.LinkFault.TheVariants.{Failed, NoMemory}
use Rattle.links.specs.declared.link.Received.{Received}
use Rattle.links.specs.declared.link.Received.TheVariants.{Got, Quiet}
use Rattle.links.specs.declared.waiter.TheConstants.{MOST_FROM_ELSEWHERE}
use Rattle.links.specs.Sockets.{AreCalls, Came, From, Place, Receive, Refused, Socket, SocketCall}
use Rattle.links.proofs.Sockets.{calls_joined, no_calls}
use Rattle.std_edges.specs.declared.heard.Heard.{Heard}
use Rattle.std_edges.specs.declared.heard.Heard.TheVariants.{Board, Elsewhere, Nothing, Fault}
use Rattle.std_edges.specs.Heard.{Hears, IsAnswerBehind, IsHeardAs, IsHeardBehind, IsLast, IsPassedOver, IsPast, IsUnheardAs, ReceivesOver, datagram_in, heard_by, passes, told_of, with_heard_counted}
use Rattle.std_edges.specs.States.{SocketState, UdpState, socket_after}

pub record GonePast (board : Place) (old new : SocketState) (count : ℕ) : Type 0 where
  pub past : List Came
  pub called : new ≡ socket_after (map Receive past) old
  pub gone_past : AllByRecursion (IsPast board) past
  pub counted : length past ≡ count

more_after : (xs ys : List SocketCall) (old mid new : SocketState) → mid ≡ socket_after xs old → new ≡ socket_after ys mid
    → new ≡ socket_after (xs ++ ys) old
more_after xs ys old mid new first then' =
    then' ∙ ap (socket_after ys) first
    ∙ ap (λ (told : Option Socket). record old { told = told }) (calls_joined xs ys old.told)

pub none_past : (board : Place) (socket : SocketState) → GonePast board socket socket 0
none_past board socket = record {
  past = [];
  called = ap (λ (told : Option Socket). record socket { told = told }) (no_calls socket.told);
  gone_past = tt;
  counted = refl;
}

past_by_error : (error : Error) (heard : Heard) → IsUnheardAs error heard → IsPassedOver heard
    → IsPassedOver (heard_by error)
past_by_error error (Board count) is over = absurd is
past_by_error error Elsewhere is over = subst IsPassedOver (sym is) tt
past_by_error error Nothing is over = absurd over
past_by_error error (Fault other) is over =
    subst IsPassedOver (sym is.1) (subst (λ (e : Error). passes e ≡ true) is.0 over)

past_by : (board : Place) (came : Came) (heard : Heard) (buffer : List ℕ) → IsHeardAs board came heard buffer
    → IsPassedOver heard → IsPast board came
past_by board (From place bytes) (Board count) buffer is over = absurd over
past_by board (From place bytes) Elsewhere buffer is over = is
past_by board (From place bytes) Nothing buffer is over = absurd is
past_by board (From place bytes) (Fault error) buffer is over = absurd is
past_by board (Refused error) heard buffer is over = past_by_error error heard is over

pub one_past : (board : Place) (old mid new : SocketState) (count : ℕ) → GonePast board old mid count → (came : Came)
    → (heard : Heard) (buffer : List ℕ) → IsHeardAs board came heard buffer → IsPassedOver heard
    → new ≡ socket_after (Receive came ∷ []) mid → GonePast board old new (count + 1)
one_past board old mid new count before came heard buffer is over called = record {
  past = before.past ++ came ∷ [];
  called = subst (λ (calls : List SocketCall). new ≡ socket_after calls old)
      (sym (map-append Receive before.past (came ∷ [])))
      (more_after (map Receive before.past) (Receive came ∷ []) old mid new before.called called);
  gone_past = AllByRecursion-append (IsPast board) before.past (came ∷ []) before.gone_past
      (past_by board came heard buffer is over, tt);
  counted = omega (arith, length-append before.past (came ∷ []), before.counted);
}

pub heard_last : (board : Place) (old mid new : SocketState) (count : ℕ) → GonePast board old mid count
    → count < MOST_FROM_ELSEWHERE → (came : Came) (heard : Heard) (buffer : List ℕ) → IsHeardAs board came heard buffer
    → IsLast heard → new ≡ socket_after (Receive came ∷ []) mid → Hears board old new heard buffer
heard_last board old mid new count before low came heard buffer is ends called = record {
  past = before.past;
  last = came ∷ [];
  called = subst (λ (calls : List SocketCall). new ≡ socket_after calls old)
      (sym (map-append Receive before.past (came ∷ [])))
      (more_after (map Receive before.past) (Receive came ∷ []) old mid new before.called called);
  gone_past = before.gone_past;
  behind = (refl, is, ends, omega (arith, low, before.counted));
}

pub heard_none : (board : Place) (old new : SocketState) (buffer : List ℕ) (count : ℕ) → GonePast board old new count
    → count ≡ MOST_FROM_ELSEWHERE → Hears board old new Elsewhere buffer
heard_none board old new buffer count before all = record {
  past = before.past;
  last = [];
  called = subst (λ (comes : List Came). new ≡ socket_after (map Receive comes) old)
      (sym (append-nil before.past)) before.called;
  gone_past = before.gone_past;
  behind = (refl, before.counted ∙ all);
}

-- ---- a receive of a link

answer_by_error : (board : Place) (is_watched : Bool) (past : ℕ) (error : Error) (more : List Came) (heard : Heard)
    (buffer : List ℕ) → more ≡ [] → IsUnheardAs error heard → IsLast heard → past < MOST_FROM_ELSEWHERE
    → IsAnswerBehind board is_watched past (Refused error ∷ more) (told_of heard) (datagram_in heard buffer)
answer_by_error board is_watched past error more (Board count) buffer one is ends low = absurd is
answer_by_error board is_watched past error more Elsewhere buffer one is ends low = absurd ends
answer_by_error board is_watched past error more Nothing buffer one is ends low = (one, is, low)
answer_by_error board is_watched past error more (Fault other) buffer one is ends low =
    (one, is.1, subst (λ (e : Error). passes e ≡ false) is.0 ends, low)

answer_by : (board : Place) (is_watched : Bool) (past : ℕ) (last : List Came) (heard : Heard) (buffer : List ℕ)
    → IsHeardBehind board past last heard buffer
    → IsAnswerBehind board is_watched past last (told_of heard) (datagram_in heard buffer)
answer_by board is_watched past [] heard buffer behind =
    subst (λ (h : Heard). IsAnswerBehind board is_watched past [] (told_of h) (datagram_in h buffer)) (sym behind.0)
    (inr behind.1)
answer_by board is_watched past (From place bytes ∷ more) (Board count) buffer behind =
    (cc (behind.0, behind.1.0, behind.1.1), behind.3)
answer_by board is_watched past (From place bytes ∷ more) Elsewhere buffer behind = absurd behind.2
answer_by board is_watched past (From place bytes ∷ more) Nothing buffer behind = absurd behind.1
answer_by board is_watched past (From place bytes ∷ more) (Fault error) buffer behind = absurd behind.1
answer_by board is_watched past (Refused error ∷ more) heard buffer behind =
    answer_by_error board is_watched past error more heard buffer behind.0 behind.1 behind.2 behind.3

at_most : (board : Place) (past : ℕ) (last : List Came) (heard : Heard) (buffer : List ℕ)
    → IsHeardBehind board past last heard buffer → past + length last ≤ MOST_FROM_ELSEWHERE
at_most board past [] heard buffer behind = omega (arith, behind.1)
at_most board past (came ∷ more) heard buffer behind = omega (arith, behind.3, ap length behind.0)

-- what is heard is answered
pub answered : (board : Place) (is_watched : Bool) (old new : SocketState) (heard : Heard) (buffer : List ℕ)
    → Hears board old new heard buffer
    → ReceivesOver board is_watched old.told new.told (told_of heard) (datagram_in heard buffer)
answered board is_watched old new heard buffer hears = record {
  past = hears.past;
  last = hears.last;
  called = ap (λ (socket : SocketState). socket.told) hears.called;
  gone_past = hears.gone_past;
  behind = answer_by board is_watched (length hears.past) hears.last heard buffer hears.behind;
}

-- there was no memory for what was heard
pub not_kept : (board : Place) (is_watched : Bool) (old new : SocketState) (heard : Heard) (buffer bytes : List ℕ)
    → Hears board old new heard buffer
    → ReceivesOver board is_watched old.told new.told (Err NoMemory) bytes
not_kept board is_watched old new heard buffer bytes hears = record {
  past = hears.past;
  last = hears.last;
  called = ap (λ (socket : SocketState). socket.told) hears.called;
  gone_past = hears.gone_past;
  behind = at_most board (length hears.past) hears.last heard buffer hears.behind;
}

-- there was no memory for any
pub not_received : (board : Place) (is_watched : Bool) (told : Option Socket) (bytes : List ℕ)
    → ReceivesOver board is_watched told told (Err NoMemory) bytes
not_received board is_watched told bytes =
    record { past = []; last = []; called = no_calls told; gone_past = tt; behind = omega arith }

-- what waits beside the link found a silence
pub silent_at_once : (board : Place) (is_watched : Bool) (told : Option Socket) (bytes : List ℕ) → is_watched ≡ true
    → ReceivesOver board is_watched told told (Ok Quiet) bytes
silent_at_once board is_watched told bytes watched =
    record { past = []; last = []; called = no_calls told; gone_past = tt; behind = inl (watched, refl) }

pub count_within : (answer : Result (ℕ × SocketAddr) Error) (count room : ℕ) → IsOkAnd answer (λ got. count ≡ got.0)
    → IfOk answer (λ got. got.0 ≤ room) → count ≤ room
count_within (Ok got) count room is within = omega arith
count_within (Err error) count room is within = absurd is

-- ---- by what a link shows

told_still : (heard : Heard) (link : UdpState) → (with_heard_counted heard link).told ≡ link.told
told_still (Board count) link = refl
told_still Elsewhere link = refl
told_still Nothing link = refl
told_still (Fault error) link = refl

pub no_memory : (view link : UdpState) → view ≡ link → (result : Result Received LinkFault) → result ≡ Err NoMemory
    → (bytes : List ℕ) → ReceivesOver link.board link.is_watched link.told view.told result bytes
no_memory view link same result is bytes =
    subst (λ (r : Result Received LinkFault). ReceivesOver link.board link.is_watched link.told view.told r bytes) (sym is)
    (subst (λ (l : UdpState). ReceivesOver l.board l.is_watched l.told view.told (Err NoMemory) bytes) same
    (not_received view.board view.is_watched view.told bytes))

pub silent : (view link new : UdpState) → view ≡ link → view.is_watched ≡ true → new.told ≡ view.told
    → (received : Received) → received ≡ Quiet → (bytes : List ℕ)
    → ReceivesOver link.board link.is_watched link.told new.told (Ok received) bytes
silent view link new same watched still received is bytes =
    subst (λ (r : Received). ReceivesOver link.board link.is_watched link.told new.told (Ok r) bytes) (sym is)
    (subst (λ (told : Option Socket). ReceivesOver link.board link.is_watched link.told told (Ok Quiet) bytes) (sym still)
    (subst (λ (l : UdpState). ReceivesOver l.board l.is_watched l.told view.told (Ok Quiet) bytes) same
    (silent_at_once view.board view.is_watched view.told bytes watched)))

pub no_memory_behind : (view link : UdpState) (old new : SocketState) → view ≡ link → old.told ≡ view.told
    → (heard : Heard) (buffer : List ℕ) → Hears view.board old new heard buffer → (result : Result Received LinkFault)
    → result ≡ Err NoMemory → (bytes : List ℕ)
    → ReceivesOver link.board link.is_watched link.told new.told result bytes
no_memory_behind view link old new same socket heard buffer hears result is bytes =
    subst (λ (r : Result Received LinkFault). ReceivesOver link.board link.is_watched link.told new.told r bytes) (sym is)
    (subst (λ (l : UdpState). ReceivesOver l.board l.is_watched l.told new.told (Err NoMemory) bytes) same
    (subst (λ (told : Option Socket). ReceivesOver view.board view.is_watched told new.told (Err NoMemory) bytes) socket
    (not_kept view.board view.is_watched old new heard buffer bytes hears)))

pub answered_behind : (view link counted now : UdpState) (old new : SocketState) → view ≡ link → old.told ≡ view.told
    → counted.told ≡ new.told → (heard : Heard) (buffer : List ℕ) → Hears view.board old new heard buffer
    → now ≡ with_heard_counted heard counted → (result : Result Received LinkFault) → result ≡ told_of heard
    → (bytes : List ℕ) → bytes ≡ datagram_in heard buffer
    → ReceivesOver link.board link.is_watched link.told now.told result bytes
answered_behind view link counted now old new same socket still heard buffer hears is_now result is bytes copied =
    let told : new.told ≡ now.told =
    sym still ∙ sym (told_still heard counted) ∙ ap (λ (l : UdpState). l.told) (sym is_now) in
    subst (λ (r : Result Received LinkFault). ReceivesOver link.board link.is_watched link.told now.told r bytes) (sym is)
    (subst (λ (b : List ℕ). ReceivesOver link.board link.is_watched link.told now.told (told_of heard) b) (sym copied)
    (subst (λ (l : UdpState).
    ReceivesOver l.board l.is_watched l.told now.told (told_of heard) (datagram_in heard buffer)) same
    (subst (λ (t : Option Socket).
    ReceivesOver view.board view.is_watched t now.told (told_of heard) (datagram_in heard buffer)) socket
    (subst (λ (t : Option Socket).
    ReceivesOver view.board view.is_watched old.told t (told_of heard) (datagram_in heard buffer)) told
    (answered view.board view.is_watched old new heard buffer hears)))))

-- a buffer that was lent whole is what was written to it
pub written_back : (read written rest : List ℕ) (long : ℕ) → read ≡ take long (written ++ rest) → long ≡ length written
    → read ≡ written
written_back read written rest long is all =
    is ∙ ap (λ (n : ℕ). take n (written ++ rest)) all ∙ take-append_seam written rest
