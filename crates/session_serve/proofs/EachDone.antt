-- Connections that were served under seats.
use Rattle.std.proofs.Common.{◌≡◌, ◌∙◌, ℕ, ◌+◌, List, [], ◌∷◌, ◌++◌, map, length, Some, refl, sym, ap, subst, suc}
use Rattle.std.proofs.Common.{Option, Bool, false, is_err, arith, length-append}
use Rattle.std.specs.List.{AllByRecursion, AllZip, slice_get}
use Rattle.std.specs.Prelude.{IfOk, OnOk, Result, Ok, Err}
use Rattle.std.specs.Vec.Iter.{into_iter_items}
use Rattle.turn_pass.specs.Pass.{Knowledge, TurnId}
use Rattle.ipb_base.proofs.AllLemmas.{front_of_all, back_of_all}
use Rattle.ipb_outside.specs.Doors.{Opens}
use Rattle.ipb_outside.specs.Pairs.{Came, PairReport, Went}
use Rattle.board_history.proofs.Lists.{all_at}
use Rattle.hub_lane.specs.declared.answers.BoardState.{BoardState}
use Rattle.hub_multiplexer.specs.Ends.{HasTakenIn}
use Rattle.hub_multiplexer.specs.Seats.{MasterState, SeatState}
use Rattle.hub_session.specs.declared.served.Served.{Served}
use Rattle.session_serve.specs.Connections.{WereServed}
use Rattle.session_serve.specs.Hubs.{AllBack, served_of, pairs_of, seats_of}
use Rattle.session_serve.specs.declared.serving.Ended.{Ended}
use Rattle.session_serve.specs.Seats.{AreOfClientsFrom, AreTakenIn, Begun, EachDone, HasServed, IsBack, IsDone}
use Rattle.session_serve.specs.Seats.{IsDoneOf, IsFresh}
use Rattle.session_serve.specs.declared.connection.Done.{Done}
use Rattle.session_serve.proofs.Lists.{came_none, there, went_none}
use Rattle.session_serve.proofs.Seating.{both_taken, clients_front}

pub each_done : {I O : Type 0} (shows : I × O → PairReport) (boards : List BoardState) (begun : List (Begun I O))
    (dones : List (Done I O)) → AllZip (IsDoneOf shows) begun dones
    → AllByRecursion (λ (r : Begun I O). r.boards ≡ boards) begun
    → EachDone shows boards (map (λ (r : Begun I O). r.seat) begun) (map (λ (r : Begun I O). r.pair) begun) dones
each_done shows boards [] [] zip stand = tt
each_done shows boards [] (d ∷ dones) zip stand = absurd zip
each_done shows boards (b ∷ begun) [] zip stand = absurd zip
each_done shows boards (b ∷ begun) (d ∷ dones) zip stand = (
  subst (λ (bs : List BoardState). IsDone bs b.seat d.seat (shows b.pair) (shows (d.src, d.sink)) d.served) stand.0
      zip.0,
  each_done shows boards begun dones zip.1 stand.1,
)

all_from_get : {A : Type 0} (P : A → Type 0) (xs : List A) → ((i : ℕ) (x : A) → slice_get xs i ≡ Some x → P x)
    → AllByRecursion P xs
all_from_get P [] each = tt
all_from_get P (x ∷ xs) each = (each 0 x refl, all_from_get P xs (λ i y e. each (suc i) y e))

pub fresh_back : (turns : List TurnId) (seat : SeatState) → IsFresh turns seat → IsBack turns seat
fresh_back turns seat fresh = record { turns' = fresh.turns'; alone = fresh.alone; known = fresh.known }

pub fresh_all_back : (turns : List TurnId) (seats : List SeatState) → AllByRecursion (IsFresh turns) seats
    → AllByRecursion (IsBack turns) seats
fresh_all_back turns [] fresh = tt
fresh_all_back turns (s ∷ seats) fresh = (fresh_back turns s fresh.0, fresh_all_back turns seats fresh.1)

done_back : (turns : List TurnId) (boards : List BoardState) (before after : SeatState) (came back : PairReport)
    (served : Served) → IsFresh turns before → IsDone boards before after came back served → IsBack turns after
done_back turns boards before after came back served fresh done =
    let same : after.turns ≡ turns = done.under.same_turns ∙ fresh.turns' in
    let known : length after.knows ≡ length turns = done.known ∙ ap (λ (l : List TurnId). length l) same in
    record {
      turns' = same;
      alone = all_from_get (λ (k : Knowledge). k.joined ≡ []) after.knows
          (λ i x e. (let was = there after.knows before.knows i x (fresh.known ∙ sym known) e in
          ap (λ (k : Knowledge). k.joined) (done.under.as_served.on_lanes i was.0 x was.1 e).rest_same
          ∙ all_at (λ (k : Knowledge). k.joined ≡ []) before.knows i was.0 fresh.alone was.1));
      known = known;
    }

module _ {I O : Type 0} (shows : I × O → PairReport) (boards : List BoardState) where
  pub each_back : (turns : List TurnId) (befores : List SeatState) (came : List (I × O)) (dones : List (Done I O))
      → EachDone shows boards befores came dones → AllByRecursion (IsFresh turns) befores
      → AllByRecursion (λ (d : Done I O). IsBack turns d.seat) dones
  each_back turns [] [] [] each fresh = tt
  each_back turns [] [] (d ∷ dones) each fresh = absurd each
  each_back turns [] (c ∷ came) dones each fresh = absurd each
  each_back turns (b ∷ befores) [] dones each fresh = absurd each
  each_back turns (b ∷ befores) (c ∷ came) [] each fresh = absurd each
  each_back turns (b ∷ befores) (c ∷ came) (d ∷ dones) each fresh = (
    done_back turns boards b d.seat (shows c) (shows (d.src, d.sink)) d.served fresh.0 each.0,
    each_back turns befores came dones each.1 fresh.1,
  )

  pub each_long : (befores : List SeatState) (came : List (I × O)) (dones : List (Done I O))
      → EachDone shows boards befores came dones → length dones ≡ length befores
  each_long [] [] [] each = refl
  each_long [] [] (d ∷ dones) each = absurd each
  each_long [] (c ∷ came) dones each = absurd each
  each_long (b ∷ befores) [] dones each = absurd each
  each_long (b ∷ befores) (c ∷ came) [] each = absurd each
  each_long (b ∷ befores) (c ∷ came) (d ∷ dones) each = ap suc (each_long befores came dones each.1)

  -- the seats are of the same clients still
  pub each_clients : (client : ℕ) (befores : List SeatState) (came : List (I × O)) (dones : List (Done I O))
      → EachDone shows boards befores came dones → AreOfClientsFrom client befores
      → AreOfClientsFrom client (seats_of dones)
  each_clients client [] [] [] each of = tt
  each_clients client [] [] (d ∷ dones) each of = absurd each
  each_clients client [] (c ∷ came) dones each of = absurd each
  each_clients client (b ∷ befores) [] dones each of = absurd each
  each_clients client (b ∷ befores) (c ∷ came) [] each of = absurd each
  each_clients client (b ∷ befores) (c ∷ came) (d ∷ dones) each of =
      (each.0.under.same_client ∙ of.0, each_clients (client + 1) befores came dones each.1 of.1)

  -- what contracts see of them
  pub each_served : (client : ℕ) (befores : List SeatState) (came : List (I × O)) (dones : List (Done I O))
      → EachDone shows boards befores came dones → AreOfClientsFrom client befores
      → WereServed boards client (map shows came) (map shows (pairs_of dones)) (served_of dones)
  each_served client [] [] [] each of = tt
  each_served client [] [] (d ∷ dones) each of = absurd each
  each_served client [] (c ∷ came) dones each of = absurd each
  each_served client (b ∷ befores) [] dones each of = absurd each
  each_served client (b ∷ befores) (c ∷ came) [] each of = absurd each
  each_served client (b ∷ befores) (c ∷ came) (d ∷ dones) each of = (
    record { before = b; after = d.seat; client' = of.0; under = each.0.under },
    each_served (client + 1) befores came dones each.1 of.1,
  )

-- nothing came and nothing went
pub none_back : {I O : Type 0} (shows : I × O → PairReport) (boards : List BoardState) (turns : List TurnId)
    (seats : List SeatState) (start end' : MasterState) (coming coming_now kept kept_now : Option (List (I × O)))
    → coming_now ≡ coming → kept_now ≡ kept → AllByRecursion (IsFresh turns) seats → AreOfClientsFrom 1 seats
    → AreTakenIn start end' seats → AllBack shows boards turns seats start end' coming coming_now kept kept_now
none_back {I} {O} shows boards turns seats start end' coming coming_now kept kept_now same_coming same_kept fresh of
    taken =
    record {
      came = [];
      dones = [];
      came' = subst (λ (c : Option (List (I × O))). Came coming c []) (sym same_coming) (came_none coming);
      went = subst (λ (k : Option (List (I × O))). Went kept k []) (sym same_kept) (went_none kept);
      befores = [];
      others = seats;
      each = tt;
      all = refl;
      fresh = fresh;
      clients = of;
      taken_in = taken;
    }

-- the seats of those that came, and the others: so many, and each can be taken in
pub seats_long : {I O : Type 0} {shows : I × O → PairReport} {boards : List BoardState} {seats : List SeatState}
    {coming coming_now : Option (List (I × O))} {ended : Ended I O}
    → HasServed shows boards seats coming coming_now ended
    → length seats ≡ length ended.done.items + length (into_iter_items ended.seats)
seats_long {shows = shows} {boards = boards} {ended = ended} h =
    let all = ap (λ (l : List SeatState). length l) h.seats' in
    let both = length-append h.befores (into_iter_items ended.seats) in
    let long = each_long shows boards h.befores h.came ended.done.items h.each in omega (arith, all, both, long)

pub seats_back : {I O : Type 0} {shows : I × O → PairReport} {boards : List BoardState} {seats : List SeatState}
    {coming coming_now : Option (List (I × O))} {ended : Ended I O} (turns : List TurnId)
    → HasServed shows boards seats coming coming_now ended → AllByRecursion (IsFresh turns) seats
    → AllByRecursion (λ (d : Done I O). IsBack turns d.seat) ended.done.items
    × AllByRecursion (IsBack turns) (into_iter_items ended.seats)
seats_back {shows = shows} {boards = boards} {ended = ended} turns h fresh =
    let others = into_iter_items ended.seats in
    let both = subst (AllByRecursion (IsFresh turns)) h.seats' fresh in (
      each_back shows boards turns h.befores h.came ended.done.items h.each
          (front_of_all (IsFresh turns) h.befores others both),
      fresh_all_back turns others (back_of_all (IsFresh turns) h.befores others both),
    )

-- what came, and went back
abbrev pub all_back : {I O : Type 0} {shows : I × O → PairReport} {boards : List BoardState} {taken seats : List SeatState}
    {ended : Ended I O} {start mid end' : MasterState} {coming between coming_served coming_now : Option (List (I × O))}
    {kept kept_mid kept_served : Option (List (I × O))} (turns : List TurnId) (kept_now : Option (List (I × O)))
    → HasServed shows boards taken between coming_served ended → taken ≡ seats
    → between ≡ coming → coming_now ≡ coming_served → kept_mid ≡ kept → kept_served ≡ kept_mid
    → Went kept_served kept_now (pairs_of ended.done.items) → AllByRecursion (IsFresh turns) seats
    → AreOfClientsFrom 1 seats → AreTakenIn start mid (seats_of ended.done.items)
    → AreTakenIn mid end' (into_iter_items ended.seats)
    → AllBack shows boards turns seats start end' coming coming_now kept kept_now
all_back {I} {O} {ended = ended} {start = start} {mid = mid} {end' = end'} {between = between} {coming_now = coming_now}
    turns kept_now h same listened gave listened_kept served_kept went fresh of one two = record {
      came = h.came;
      dones = ended.done.items;
      came' = subst (λ (c : Option (List (I × O))). Came c coming_now h.came) listened
          (subst (λ (c : Option (List (I × O))). Came between c h.came) (sym gave) h.came');
      went = subst (λ (k : Option (List (I × O))). Went k kept_now (pairs_of ended.done.items)) (served_kept ∙
          listened_kept)
          went;
      befores = h.befores;
      others = into_iter_items ended.seats;
      each = h.each;
      all = sym h.seats' ∙ same;
      fresh = fresh;
      clients = of;
      taken_in = both_taken start mid end' (seats_of ended.done.items) (into_iter_items ended.seats) one two;
    }

-- all seats are taken in, in the order of their clients
pub all_in_turn : {I O : Type 0} {shows : I × O → PairReport} {boards : List BoardState} {taken seats : List SeatState}
    {ended : Ended I O} {coming coming_now : Option (List (I × O))} (start mid end' : MasterState)
    → HasServed shows boards taken coming coming_now ended → taken ≡ seats → AreOfClientsFrom 1 seats
    → ((c : ℕ) → AreOfClientsFrom c (seats_of ended.done.items) → HasTakenIn c start
    → HasTakenIn (c + length ended.done.items) mid)
    → ((c : ℕ) → AreOfClientsFrom c (into_iter_items ended.seats) → HasTakenIn c mid
    → HasTakenIn (c + length (into_iter_items ended.seats)) end')
    → HasTakenIn 1 start → HasTakenIn (length seats + 1) end'
all_in_turn {shows = shows} {boards = boards} {ended = ended} start mid end' h same of one two from =
    let dones = ended.done.items in
    let rest = into_iter_items ended.seats in
    let parts = clients_front 1 h.befores rest (subst (AreOfClientsFrom 1) (sym same ∙ h.seats') of) in
    let long = each_long shows boards h.befores h.came dones h.each in
    let all = seats_long h in
    let many = ap (λ (l : List SeatState). length l) same in
    let there' = one 1 (each_clients shows boards 1 h.befores h.came dones h.each parts.0) from in
    subst (λ n. HasTakenIn n end') (omega (arith, all, many)) (two (1 + length dones)
    (subst (λ n. AreOfClientsFrom n rest) (omega (arith, long)) parts.1) there')

-- what is so of a result in two ways
pub both_then : {A E : Type 0} (P Q R : A → Type 0) (r : Result A E) → ((x : A) → P x → Q x → R x) → IfOk r P
    → IfOk r Q → IfOk r R
both_then P Q R (Ok x) leads p q = leads x p q
both_then P Q R (Err e) leads p q = tt

pub with_ok : {A E : Type 0} (P : A → Type 0) (Q : Type 0) (r : Result A E) → IfOk r P → OnOk r Q → IfOk r (λ x. P x ×
    Q)
with_ok P Q (Ok x) p q = (p, q)
with_ok P Q (Err e) p q = tt

-- what is told of memory, of the rack and of the door by one answer or another
pub ok_not_err : {A E : Type 0} {x : A} {fault : E} → Ok x ≡ Err fault → ⊥
ok_not_err same = absurd cc

pub err_same : {A E : Type 0} {fault other : E} (r : Result A E) → r ≡ Err fault → r ≡ Err other → fault ≡ other
err_same (Ok x) one two = absurd cc
err_same (Err e) one two = cc

-- the port that was opened where a listen went well
pub opened_of : {A E : Type 0} {b : Bool} (port : ℕ) (old new : List ℕ) (r : Result A E) → Opens port old new r
    → b ≡ is_err r → b ≡ false → new ≡ old ++ port ∷ []
opened_of port old new (Ok x) opened is no_error = opened
opened_of port old new (Err e) opened is no_error = absurd cc
