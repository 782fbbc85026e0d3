-- A client from its seat's making to its joining.
use Rattle.std.proofs.Common.{◌≡◌, ℕ, ◌+◌, ◌<◌, ◌≤◌, zero, suc, Bool, true, false, List, [], ◌∷◌, ◌++◌, map, length}
use Rattle.std.proofs.Common.{take, drop, get_or, sum, Some, Result, Ok, Err, is_ok, OnOk, refl, sym, ap, ◌∙◌, subst}
use Rattle.std.proofs.Common.{arith, append-nil, append_assoc, length-append}
use Rattle.std.proofs.lemmas.List.{map-append, length-map, take_more}
use Rattle.std.proofs.lemmas.Option.{none-some, same_Some}
use Rattle.std.specs.List.{AllByRecursion, slice_get}
use Rattle.turn_pass.specs.Record.{Recorded, made_by}
use Rattle.turn_pass.specs.Pass.{Joined, Knowledge, TurnId, kept_of, newcomer, one_more_made, taking_in}
use Rattle.lane_record.specs.declared.outcome.Outcome.{Outcome}
use Rattle.lane_record.specs.Coding.{as_recorded}
use Rattle.lane_record.specs.Dispatches.{dispatches_from}
use Rattle.hub_multiplexer.specs.Ends.{HasTakenIn}
use Rattle.hub_multiplexer.specs.Seats.{MasterState, SeatState, knows_after_join}
use Rattle.client_threads.specs.declared.plan.ClientPlan.{ClientPlan}
use Rattle.client_threads.specs.declared.result.ClientResult.{ClientResult}
use Rattle.client_threads.specs.declared.job.Job.{Job}
use Rattle.client_threads.specs.Clients.{AreOfClientsFrom, AreResultsFor, AwaitClients, DidPlan, DidPlans, HasNoPlan}
use Rattle.client_threads.specs.Clients.{HoldsPlans, IsPlanFor, OnLanesFrom, counts_on}
use Rattle.client_threads.specs.Running.{AddNoPlans, AtEach, HasRun, IsSameSeat}
use Rattle.client_threads.specs.Jobs.{AreJoined, HasEnded, IsOwn, IsSeated, TookThemIn, made_more, plans_of}
use Rattle.client_threads.proofs.Each.{all_at, take_whole, there}

-- ---- lists

pub all_push : {A : Type 0} (P : A → Type 0) (xs : List A) (x : A) → AllByRecursion P xs → P x
    → AllByRecursion P (xs ++ x ∷ [])
all_push P [] x a p = (p, tt)
all_push P (y ∷ ys) x a p = (a.0, all_push P ys x a.1 p)

pub all_get : {A : Type 0} (P : A → Type 0) (xs : List A) (i : ℕ) (x : A) → AllByRecursion P xs
    → slice_get xs i ≡ Some x → P x
all_get P [] i x a e = absurd (none-some x e)
all_get P (y ∷ ys) zero x a e = subst P (same_Some y x e) a.0
all_get P (y ∷ ys) (suc i) x a e = all_get P ys i x a.1 e

pub map_get : {A B : Type 0} (f : A → B) (xs : List A) (i : ℕ) (y : B) → slice_get (map f xs) i ≡ Some y
    → (x : A) × (slice_get xs i ≡ Some x) × (f x ≡ y)
map_get f [] i y e = absurd (none-some y e)
map_get f (x ∷ xs) zero y e = (x, refl, same_Some (f x) y e)
map_get f (x ∷ xs) (suc i) y e = map_get f xs i y e

lanes_get : {A : Type 0} (P : ℕ → A → Type 0) (lane : ℕ) (xs : List A) (i : ℕ) (x : A) → OnLanesFrom lane P xs
    → slice_get xs i ≡ Some x → P (lane + i) x
lanes_get P lane [] i x o e = absurd (none-some x e)
lanes_get P lane (y ∷ ys) zero x o e =
    let n : lane ≡ lane + 0 = omega arith in subst (λ (m : ℕ). P m x) n (subst (P lane) (same_Some y x e) o.0)
lanes_get P lane (y ∷ ys) (suc i) x o e =
    let n : lane + 1 + i ≡ lane + suc i = omega arith in subst (λ (m : ℕ). P m x) n
    (lanes_get P (lane + 1) ys i x o.1 e)

client_at : (first : ℕ) (plans : List ClientPlan) (i : ℕ) (p : ClientPlan) → AreOfClientsFrom first plans
    → i < length plans → p ≡ get_or plans i p → p.client ≡ first + i
client_at first [] i p a low is = absurd (omega arith)
client_at first (q ∷ qs) zero p a low is = let n : first ≡ first + 0 = omega arith in
    ap (λ (z : ClientPlan). z.client) is ∙ (a.0 ∙ n)
client_at first (q ∷ qs) (suc i) p a low is = let n : first + 1 + i ≡ first + suc i = omega arith in
    client_at (first + 1) qs i p a.1 (omega arith) is ∙ n

-- ---- seats

pub made_none : (ks : List Knowledge) → map (made_more 0) ks ≡ ks
made_none [] = refl
made_none (k ∷ ks) = let n : k.made + 0 ≡ k.made = omega arith in (λ i. record k { made = n i } ∷ made_none ks i)

pub made_one_more : (n : ℕ) (ks : List Knowledge) → map one_more_made (map (made_more n) ks) ≡ map
    (made_more (n + 1)) ks
made_one_more n [] = refl
made_one_more n (k ∷ ks) = let m : k.made + n + 1 ≡ k.made + (n + 1) = omega arith in
    (λ i. record k { made = m i } ∷ made_one_more n ks i)

abbrev pub after_seats : MasterState → ℕ → MasterState
after_seats m n = record m { seats = m.seats + n; knows = map (made_more n) m.knows }

pub no_seats : (m : MasterState) → m ≡ after_seats m 0
no_seats m = let n : m.seats ≡ m.seats + 0 = omega arith in
    (λ i. record m { seats = n i; knows = sym (made_none m.knows) i })

pub one_more_seat : (m now new : MasterState) (n : ℕ) → now ≡ after_seats m n
    → new ≡ record now { seats = now.seats + 1; knows = map one_more_made now.knows } → new ≡ after_seats m (n + 1)
one_more_seat m now new n was is =
    let e : m.seats + n + 1 ≡ m.seats + (n + 1) = omega arith in
    is ∙ (ap (λ (z : MasterState). record z { seats = z.seats + 1; knows = map one_more_made z.knows }) was
    ∙ (λ i. record m { seats = e i; knows = made_one_more n m.knows i }))

-- what is known of a lane when the seat is made
first_there : (client planned : ℕ) (k : Knowledge) (n : ℕ) (have : List Outcome) (x : Knowledge)
    → HoldsPlans client planned k → newcomer (made_more n k) ≡ x → x.number ≡ client → have ≡ []
    → HasRun client planned [] x have
first_there client planned k n have x plans is number none = record {
  done = [];
  cut = refl;
  outcomes = none;
  stands = record {
    number = number;
    plans = record {
      bodies = plans.bodies;
      enough = plans.enough;
      entries = ap (λ (z : Knowledge). made_by client z.opening.entries) (sym is) ∙ plans.entries;
    };
    items = [];
    coded = ap (λ (z : Knowledge). z.mine) (sym is);
    makers = tt;
    actions = refl;
  };
}

pub seated : (turns : List TurnId) (m now : MasterState) (plans : List ClientPlan) (n : ℕ) (job : Job)
    → now ≡ after_seats m n → m.turns ≡ turns → AreOfClientsFrom (m.seats + 1) plans
    → AllByRecursion (IsPlanFor (length turns)) plans → AwaitClients plans m.knows
    → n < length plans → job.plan.now ≡ get_or plans n job.plan.now
    → job.seat ≡ record { client = now.seats + 1; turns = turns; knows = map newcomer now.knows }
    → AllByRecursion (λ (k : Knowledge). k.number ≡ job.seat.client) job.seat.knows
    → length job.seat.knows ≡ length job.seat.turns
    → length job.lanes.items ≡ length turns → AllByRecursion (λ (o : List Outcome). o ≡ []) job.lanes.items
    → job.ran ≡ false → IsSeated turns job
seated turns m now plans n job was hub clients fit awaited low is seat numbers boards long none idle =
    let p = job.plan.now in
    let client_is : p.client ≡ m.seats + 1 + n = client_at (m.seats + 1) plans n p clients low is in
    let seats_are : now.seats ≡ m.seats + n = ap (λ (z : MasterState). z.seats) was in
    let mine : job.seat.client ≡ now.seats + 1 = ap (λ (s : SeatState). s.client) seat in
    let same : job.seat.client ≡ p.client = omega arith in
    let turns_are : job.seat.turns ≡ turns = ap (λ (s : SeatState). s.turns) seat in
    let known : job.seat.knows ≡ map newcomer (map (made_more n) m.knows) = ap (λ (s : SeatState). s.knows) seat
    ∙ ap (λ (z : MasterState). map newcomer z.knows) was in
    let from : (on : ℕ) (x : Knowledge) → slice_get job.seat.knows on ≡ Some x
    → (k : Knowledge) × (slice_get m.knows on ≡ Some k) × (newcomer (made_more n k) ≡ x)
    = λ on x ex. let a = map_get newcomer (map (made_more n) m.knows) on x
    (sym (ap (λ (l : List Knowledge). slice_get l on) known) ∙ ex) in
    let b = map_get (made_more n) m.knows on a.0 a.1 in (b.0, b.1, ap newcomer b.2 ∙ a.2) in
    let waits = all_at (λ (q : ClientPlan). OnLanesFrom 0 (λ lane. HoldsPlans q.client (sum (counts_on lane q)))
    m.knows) plans n p awaited low is in record {
      plan_fits = all_at (IsPlanFor (length turns)) plans n p fit low is;
      client = same;
      same_turns = turns_are;
      boards = long;
      fresh = λ on x ex. let k = from on x ex in record {
        number = all_get (λ (z : Knowledge). z.number ≡ job.seat.client) job.seat.knows on x numbers ex ∙ same;
        no_entry = ap (λ (z : Knowledge). z.mine) (sym k.2);
        alone = ap (λ (z : Knowledge). z.joined) (sym k.2);
      };
      first = record {
        long = long ∙ sym (boards ∙ ap length turns_are);
        each = λ on x o ex eo.
            let k = from on x ex in
            let e : 0 + on ≡ on = omega arith in
            let holds = subst (λ (lane : ℕ). HoldsPlans p.client (sum (counts_on lane p)) k.0) e
            (lanes_get (λ lane. HoldsPlans p.client (sum (counts_on lane p))) 0 m.knows on k.0 waits k.1) in
            first_there p.client (sum (counts_on on p)) k.0 n o x holds k.2
            (all_get (λ (z : Knowledge). z.number ≡ job.seat.client) job.seat.knows on x numbers ex ∙ same)
            (all_get (λ (l : List Outcome). l ≡ []) job.lanes.items on o none eo);
      };
      not_run = idle;
    }

pub plans_push : (jobs : List Job) (job : Job) (plans : List ClientPlan) (n : ℕ) → plans_of jobs ≡ take n plans
    → n < length plans → job.plan.now ≡ get_or plans n job.plan.now → plans_of (jobs ++ job ∷ []) ≡ take (n + 1) plans
plans_push jobs job plans n was low is =
    map-append (λ (j : Job). j.plan.now) jobs (job ∷ [])
    ∙ ((λ i. was i ++ is i ∷ []) ∙ sym (take_more plans n job.plan.now low))

-- a job more
pub seat_pushed : (turns : List TurnId) (m now new : MasterState) (plans : List ClientPlan) (n : ℕ)
    (jobs more : List Job) (job : Job) → more ≡ jobs ++ job ∷ [] → now ≡ after_seats m n → m.turns ≡ turns
    → AreOfClientsFrom (m.seats + 1) plans → AllByRecursion (IsPlanFor (length turns)) plans
    → AwaitClients plans m.knows
    → n < length plans → job.plan.now ≡ get_or plans n job.plan.now
    → job.seat ≡ record { client = now.seats + 1; turns = turns; knows = map newcomer now.knows }
    → AllByRecursion (λ (k : Knowledge). k.number ≡ job.seat.client) job.seat.knows
    → length job.seat.knows ≡ length job.seat.turns
    → length job.lanes.items ≡ length turns → AllByRecursion (λ (o : List Outcome). o ≡ []) job.lanes.items
    → job.ran ≡ false
    → new ≡ record now { seats = now.seats + 1; knows = map one_more_made now.knows } → length jobs ≡ n
    → plans_of jobs ≡ take n plans → AllByRecursion (IsSeated turns) jobs
    → (length more ≡ n + 1) × (plans_of more ≡ take (n + 1) plans) × AllByRecursion
    (IsSeated turns) more × (new ≡ after_seats m (n + 1))
seat_pushed turns m now new plans n jobs more job push was hub clients fit awaited low is seat numbers boards long none
    idle made many plans_are seats = (
      ap length push ∙ omega (arith, length-append jobs (job ∷ [])),
      ap plans_of push ∙ plans_push jobs job plans n plans_are low is,
      subst (AllByRecursion (IsSeated turns)) (sym push) (all_push (IsSeated turns) jobs job seats
          (seated turns m now plans n job was hub clients fit awaited low is seat numbers boards long none idle)),
      one_more_seat m now new n was made,
    )

-- ---- after a run

drop_whole : {A : Type 0} (xs : List A) (n : ℕ) → length xs ≤ n → drop n xs ≡ []
drop_whole [] zero le = refl
drop_whole [] (suc n) le = refl
drop_whole (x ∷ xs) zero le = absurd (omega arith)
drop_whole (x ∷ xs) (suc n) le = drop_whole xs n (omega arith)

-- a vector whose elements were written over is the list that was written
pub written_back : {A : Type 0} (xs ys : List A) (n : ℕ) → length ys ≡ length xs → n ≡ length xs
    → take n (ys ++ drop (length ys) xs) ≡ ys
written_back xs ys n long len =
    ap (λ (l : List _). take n (ys ++ l)) (drop_whole xs (length ys) (omega arith))
    ∙ (ap (take n) (append-nil ys) ∙ take_whole ys n (omega arith))

pub on_ok : {A E : Type 0} (r : Result A E) (P : Type 0) → is_ok r ≡ true → OnOk r P → P
on_ok (Ok x) P e p = p
on_ok (Err x) P e p = absurd (cc)

pub ended : (turns : List TurnId) (old new : Job) → IsSeated turns old → new.plan ≡ old.plan
    → IsSameSeat old.seat new.seat → length new.lanes.items ≡ length old.lanes.items
    → AddNoPlans old.seat.knows new.seat.knows
    → (new.ran ≡ true → AtEach new.seat.knows new.lanes.items
    (λ on. HasRun old.plan.now.client (sum (counts_on on old.plan.now)) (counts_on on old.plan.now)))
    → HasEnded turns new
ended turns old new s plan seat long no_plan ran =
    let client_is : new.plan.now.client ≡ old.plan.now.client = ap (λ p. p.now.client) plan in record {
      client = seat.0 ∙ (s.client ∙ sym client_is);
      same_turns = seat.1 ∙ s.same_turns;
      boards = long ∙ s.boards;
      known = long ∙ (s.first.long ∙ sym no_plan.long);
      own = λ on y ey.
          let x = there new.seat.knows old.seat.knows on y (sym no_plan.long) ey in
          let f = s.fresh on x.0 x.1 in
          let a = no_plan.each on x.0 y x.1 ey in record {
            number = a.same_number ∙ (f.number ∙ sym client_is);
            alone = a.same_joined ∙ f.alone;
            items = a.added;
            coded = a.grew ∙ ap (λ (l : List Recorded). l ++ map as_recorded a.added) f.no_entry;
            none = a.none;
          };
      ran_all = λ e. subst (λ p. AtEach new.seat.knows new.lanes.items
          (λ on. HasRun p.now.client (sum (counts_on on p.now)) (counts_on on p.now))) (sym plan) (ran e);
    }

pub ended_idle : (turns : List TurnId) (job : Job) → IsSeated turns job → HasEnded turns job
ended_idle turns job s = record {
  client = s.client;
  same_turns = s.same_turns;
  boards = s.boards;
  known = s.first.long;
  own = λ on x ex. let f = s.fresh on x ex in record {
    number = f.number;
    alone = f.alone;
    items = [];
    coded = f.no_entry;
    none = tt;
  };
  ran_all = λ e. absurd (let f : false ≡ true = sym s.not_run ∙ e in cc);
}

pub ended_idle_all : (turns : List TurnId) (jobs : List Job) → AllByRecursion (IsSeated turns) jobs
    → AllByRecursion (HasEnded turns) jobs
ended_idle_all turns [] a = tt
ended_idle_all turns (j ∷ js) a = (ended_idle turns j a.0, ended_idle_all turns js a.1)

-- ---- joining

after_join_at : (ks others : List Knowledge) (i : ℕ) (x : Knowledge) → length others ≡ length ks
    → slice_get (knows_after_join ks others) i ≡ Some x
    → (k : Knowledge) × (o : Knowledge) × (slice_get ks i ≡ Some k) × (slice_get others i ≡ Some o)
    × (taking_in k o ≡ x)
after_join_at [] others i x long e = absurd (none-some x e)
after_join_at (k ∷ ks) [] i x long e = absurd (omega arith)
after_join_at (k ∷ ks) (o ∷ os) zero x long e = (k, o, refl, refl, same_Some (taking_in k o) x e)
after_join_at (k ∷ ks) (o ∷ os) (suc i) x long e = after_join_at ks os i x (omega arith) e

length_after_join : (ks others : List Knowledge) → length (knows_after_join ks others) ≡ length ks
length_after_join [] others = refl
length_after_join (k ∷ ks) [] = refl
length_after_join (k ∷ ks) (o ∷ os) = ap suc (length_after_join ks os)

did_push : (lane : ℕ) (plans : List ClientPlan) (results : List ClientResult) (passes : List Joined) (p : ClientPlan)
    (r : ClientResult) (j : Joined) → DidPlans lane plans results passes → DidPlan lane p r j
    → DidPlans lane (plans ++ p ∷ []) (results ++ r ∷ []) (passes ++ j ∷ [])
did_push lane [] [] [] p r j a d = (d, tt)
did_push lane [] [] (k ∷ ks) p r j a d = absurd a
did_push lane [] (s ∷ ss) ks p r j a d = absurd a
did_push lane (q ∷ qs) [] ks p r j a d = absurd a
did_push lane (q ∷ qs) (s ∷ ss) [] p r j a d = absurd a
did_push lane (q ∷ qs) (s ∷ ss) (k ∷ ks) p r j a d = (a.0, did_push lane qs ss ks p r j a.1 d)

results_push : (lanes : ℕ) (plans : List ClientPlan) (results : List ClientResult) (p : ClientPlan) (r : ClientResult)
    → AreResultsFor lanes plans results → (r.client ≡ p.client) × (length r.lanes ≡ lanes)
    → AreResultsFor lanes (plans ++ p ∷ []) (results ++ r ∷ [])
results_push lanes [] [] p r a d = (d, tt)
results_push lanes [] (s ∷ ss) p r a d = absurd a
results_push lanes (q ∷ qs) [] p r a d = absurd a
results_push lanes (q ∷ qs) (s ∷ ss) p r a d = (a.0, results_push lanes qs ss p r a.1 d)

clients_front : (first : ℕ) (plans : List ClientPlan) (p : ClientPlan) → AreOfClientsFrom first (plans ++ p ∷ [])
    → AreOfClientsFrom first plans × (p.client ≡ first + length plans)
clients_front first [] p a = let n : first ≡ first + 0 = omega arith in (tt, a.0 ∙ n)
clients_front first (q ∷ qs) p a =
    let rest = clients_front (first + 1) qs p a.1 in
    let n : first + 1 + length qs ≡ first + length (q ∷ qs) = omega arith in
    ((a.0, rest.0), rest.1 ∙ n)

-- what a client did is told by its pass
did_plan : (lane : ℕ) (p : ClientPlan) (r : ClientResult) (k : Knowledge) (have : List Outcome)
    → HasRun p.client (sum (counts_on lane p)) (counts_on lane p) k have → r.client ≡ p.client
    → slice_get r.lanes lane ≡ Some have
    → DidPlan lane p r (kept_of k)
did_plan lane p r k have h client there = let i = h.stands in record {
  number = i.number;
  client = client;
  dispatches = h.done;
  cut = h.cut;
  outcomes = there ∙ ap Some h.outcomes;
  items = i.items;
  makers = i.makers;
  coded = i.coded;
  actions = i.actions ∙ append-nil (dispatches_from 0 h.done);
}

-- one pass more is taken in
took_one_in : (lane : ℕ) (plans : List ClientPlan) (results : List ClientResult) (all now ran : Bool) (p : ClientPlan)
    (r : ClientResult) (first k other after : Knowledge) → TookThemIn plans results all lane first k
    → taking_in k other ≡ after
    → IsOwn p.client other → (now ≡ true → (all ≡ true) × (ran ≡ true))
    → (ran ≡ true → DidPlan lane p r (kept_of other))
    → TookThemIn (plans ++ p ∷ []) (results ++ r ∷ []) now lane first after
took_one_in lane plans results all now ran p r first k other after t is own both did =
    let back = sym is in record {
      passes = t.passes ++ kept_of other ∷ [];
      same_number = ap (λ (z : Knowledge). z.number) back ∙ t.same_number;
      same_opening = ap (λ (z : Knowledge). z.opening) back ∙ t.same_opening;
      same_mine = ap (λ (z : Knowledge). z.mine) back ∙ t.same_mine;
      same_made = ap (λ (z : Knowledge). z.made) back ∙ t.same_made;
      more_joined = ap (λ (z : Knowledge). z.joined) back
          ∙ ((λ i. (t.more_joined i ++ own.alone i) ++ kept_of other ∷ [])
          ∙ (ap (λ (l : List Joined). l ++ kept_of other ∷ []) (append-nil (first.joined ++ t.passes))
          ∙ append_assoc first.joined t.passes (kept_of other ∷ [])));
      numbers = map-append (λ (j : Joined). j.number) t.passes (kept_of other ∷ [])
          ∙ ((λ i. t.numbers i ++ own.number i ∷ []) ∙ sym (map-append (λ (q : ClientPlan). q.client) plans (p ∷ [])));
      no_plan = all_push HasNoPlan t.passes (kept_of other) t.no_plan
          (record { items = own.items; coded = own.coded; none = own.none });
      did_all = λ e. let b = both e in did_push lane plans results t.passes p r (kept_of other) (t.did_all b.0)
          (did b.1);
    }

pub joined_one : (turns : List TurnId) (old now new : MasterState) (jobs : List Job) (job : Job)
    (results : List ClientResult) (r : ClientResult) (all next : Bool) → AreJoined turns old now jobs results all
    → HasEnded turns job → length old.knows ≡ length turns
    → new ≡ record now { knows = knows_after_join now.knows job.seat.knows }
    → (HasTakenIn job.seat.client now → HasTakenIn (job.seat.client + 1) new)
    → r.client ≡ job.plan.now.client → r.lanes ≡ job.lanes.items → (next ≡ true → (all ≡ true) × (job.ran ≡ true))
    → AreJoined turns old new (jobs ++ job ∷ []) (results ++ r ∷ []) next
joined_one turns old now new jobs job results r all next j h known is taken client lanes both =
    let plan_of = λ (z : Job). z.plan.now in
    let p = job.plan.now in
    let plans_are : plans_of (jobs ++ job ∷ []) ≡ plans_of jobs ++ p ∷ [] = map-append plan_of jobs (job ∷ []) in
    let knows_are : new.knows ≡ knows_after_join now.knows job.seat.knows = ap (λ (z : MasterState). z.knows) is in
    let seat_long : length job.seat.knows ≡ length now.knows = sym h.known
    ∙ (h.boards ∙ (sym known ∙ sym j.lanes.long)) in record {
      rest_same = is ∙ ((λ i. record (j.rest_same i) { knows = knows_after_join now.knows job.seat.knows })
          ∙ ap (λ (l : List Knowledge). record old { knows = l }) (sym knows_are));
      lanes = record {
        long = ap length knows_are ∙ (length_after_join now.knows job.seat.knows ∙ j.lanes.long);
        each = λ lane k after ek ea.
            let a = after_join_at now.knows job.seat.knows lane after seat_long
            (sym (ap (λ (l : List Knowledge). slice_get l lane) knows_are) ∙ ea) in
            subst (λ (l : List ClientPlan). TookThemIn l (results ++ r ∷ []) next lane k after) (sym plans_are)
            (took_one_in lane (plans_of jobs) results all next job.ran p r k a.0 a.1 after
            (j.lanes.each lane k a.0 ek a.2) a.4 (h.own lane a.1 a.3) both
            (λ e. let o = there job.seat.knows job.lanes.items lane a.1 h.known a.3 in
            did_plan lane p r a.1 o.0 ((h.ran_all e).each lane a.1 o.0 a.3 o.1) client
            (ap (λ (l : List (List Outcome)). slice_get l lane) lanes ∙ o.1)));
      };
      results_fit = subst (λ (l : List ClientPlan). AreResultsFor (length turns) l (results ++ r ∷ [])) (sym plans_are)
          (results_push (length turns) (plans_of jobs) results p r j.results_fit (client, ap length lanes ∙ h.boards));
      taken_in = λ first of h0.
          let parts = clients_front first (plans_of jobs) p (subst (AreOfClientsFrom first) plans_are of) in
          let number : job.seat.client ≡ first + length jobs = h.client
          ∙ (parts.1 ∙ ap (λ (n : ℕ). first + n) (length-map jobs plan_of)) in
          let more : first + length jobs + 1 ≡ first + length (jobs ++ job ∷ []) =
          omega (arith, length-append jobs (job ∷ [])) in
          subst (λ (n : ℕ). HasTakenIn n new) more (subst (λ (n : ℕ). HasTakenIn (n + 1) new) number
          (taken (subst (λ (n : ℕ). HasTakenIn n now) (sym number) (j.taken_in first parts.0 h0))));
    }

-- the same, in the words of the loop
pub joined_pushed : (turns : List TurnId) (old now new : MasterState) (jobs : List Job) (job : Job)
    (results more : List ClientResult) (r : ClientResult) (all next : Bool) → more ≡ results ++ r ∷ []
    → AreJoined turns old now jobs results all → HasEnded turns job → length old.knows ≡ length turns
    → new ≡ record now { knows = knows_after_join now.knows job.seat.knows }
    → (HasTakenIn job.seat.client now → HasTakenIn (job.seat.client + 1) new)
    → r.client ≡ job.plan.now.client → r.lanes ≡ job.lanes.items → (next ≡ true → (all ≡ true) × (job.ran ≡ true))
    → AreJoined turns old new (jobs ++ job ∷ []) more next
joined_pushed turns old now new jobs job results more r all next push j h known is taken client lanes both =
    subst (λ (l : List ClientResult). AreJoined turns old new (jobs ++ job ∷ []) l next) (sym push)
    (joined_one turns old now new jobs job results r all next j h known is taken client lanes both)

pub all_middle : {A : Type 0} (P : A → Type 0) (xs : List A) (x : A) (ys zs : List A) → AllByRecursion P zs
    → xs ++ x ∷ ys ≡ zs → P x
all_middle P [] x ys zs a e = (subst (AllByRecursion P) (sym e) a).0
all_middle P (w ∷ ws) x ys [] a e = absurd (cc)
all_middle P (w ∷ ws) x ys (z ∷ zs) a e = let rest : ws ++ x ∷ ys ≡ zs = cc in all_middle P ws x ys zs a.1 rest

pub plans_same : (old new : List Job) → length new ≡ length old
    → ((i : ℕ) (d : Job) → i < length old → (get_or new i d).plan ≡ (get_or old i d).plan) → plans_of new ≡ plans_of old
plans_same [] [] long same = refl
plans_same [] (y ∷ ys) long same = absurd (omega arith)
plans_same (x ∷ xs) [] long same = absurd (omega arith)
plans_same (x ∷ xs) (y ∷ ys) long same =
    let first : y.plan ≡ x.plan = same 0 x (omega arith) in
    let rest = plans_same xs ys (omega arith) (λ i d low. same (suc i) d (omega arith)) in
    (λ i. (first i).now ∷ rest i)

pub as_long : {A B : Type 0} (xs ys : List A) (x : A) (zs : List B) (z : B) → ys ≡ xs ++ x ∷ [] → length xs ≡ length zs
    → length ys ≡ length (zs ++ z ∷ [])
as_long xs ys x zs z push long = ap length push ∙ (length-append xs (x ∷ [])
    ∙ (let e : length xs + length (x ∷ []) ≡ length zs + length (z ∷ []) = omega arith in
    e ∙ sym (length-append zs (z ∷ []))))
