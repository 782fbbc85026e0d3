-- A master after all clients were taken in.
use Rattle.std.proofs.Common.{◌≡◌, ℕ, ◌+◌, ◌≤◌, zero, suc, Bool, true, List, [], ◌∷◌, ◌++◌, map, length, take, drop}
use Rattle.std.proofs.Common.{Some, refl, sym, ap, ◌∙◌, subst, arith, append-nil}
use Rattle.std.proofs.lemmas.List.{map-append, length-map}
use Rattle.std.proofs.lemmas.Option.{same_Some}
use Rattle.std.specs.List.{slice_get}
use Rattle.turn_pass.specs.Pass.{Joined, Knowledge, TurnId}
use Rattle.hub_multiplexer.specs.Ends.{HasTakenIn}
use Rattle.hub_multiplexer.specs.Seats.{MasterState}
use Rattle.client_threads.specs.declared.plan.ClientPlan.{ClientPlan}
use Rattle.client_threads.specs.declared.result.ClientResult.{ClientResult}
use Rattle.client_threads.specs.declared.job.Job.{Job}
use Rattle.client_threads.specs.Clients.{AreOfClientsFrom, DidPlans, HaveGoneOn, HaveRun, HaveRunOn, OnEachLane, TookIn}
use Rattle.client_threads.specs.Clients.{WereTakenIn}
use Rattle.client_threads.specs.Jobs.{AreJoined, TookThemIn, made_more, plans_of}
use Rattle.client_threads.proofs.Each.{take_whole, there}
use Rattle.client_threads.proofs.Jobs.{after_seats, map_get}

on_each : (holds : ℕ → Knowledge → Knowledge → Type 0) (lane : ℕ) (xs ys : List Knowledge) → length ys ≡ length xs
    → ((i : ℕ) (x y : Knowledge) → slice_get xs i ≡ Some x → slice_get ys i ≡ Some y → holds (lane + i) x y)
    → OnEachLane lane holds xs ys
on_each holds lane [] [] long f = tt
on_each holds lane [] (y ∷ ys) long f = absurd (omega arith)
on_each holds lane (x ∷ xs) [] long f = absurd (omega arith)
on_each holds lane (x ∷ xs) (y ∷ ys) long f =
    let here : lane + 0 ≡ lane = omega arith in (
      subst (λ (n : ℕ). holds n x y) here (f 0 x y refl refl),
      on_each holds (lane + 1) xs ys (omega arith) (λ i u v eu ev. let next : lane + suc i ≡ lane + 1 + i =
          omega arith in subst (λ (n : ℕ). holds n u v) next (f (suc i) u v eu ev)),
    )

cut_at : {A : Type 0} (xs : List A) (n : ℕ) → xs ≡ take n xs ++ drop n xs
cut_at [] zero = refl
cut_at [] (suc n) = refl
cut_at (x ∷ xs) zero = refl
cut_at (x ∷ xs) (suc n) = ap (◌∷◌ x) (cut_at xs n)

abbrev client_of : ClientPlan → ℕ
client_of p = p.client

abbrev number_of : Joined → ℕ
number_of j = j.number

-- where the passes have the clients' numbers there are as many
as_many : (passes : List Joined) (plans : List ClientPlan) → map number_of passes ≡ map client_of plans
    → length passes ≡ length plans
as_many passes plans e = sym (length-map passes number_of) ∙ (ap length e ∙ length-map plans client_of)

-- what the seats' making and joining did on a lane
took_in_at : (plans : List ClientPlan) (results : List ClientResult) (ran : Bool) (lane n : ℕ)
    (before k after : Knowledge) → made_more n before ≡ k → (t : TookThemIn plans results ran lane k after)
    → length plans ≡ n → TookIn t.passes before after
took_in_at plans results ran lane n before k after is t many =
    let long = as_many t.passes plans t.numbers in
    let back = sym is in
    let made : before.made + n ≡ before.made + length t.passes = omega arith in record {
      number = t.same_number ∙ ap (λ (z : Knowledge). z.number) back;
      opening = t.same_opening ∙ ap (λ (z : Knowledge). z.opening) back;
      mine = t.same_mine ∙ ap (λ (z : Knowledge). z.mine) back;
      made = t.same_made ∙ (ap (λ (z : Knowledge). z.made) back ∙ made);
      joined' = t.more_joined ∙ ap (λ (z : Knowledge). z.joined ++ t.passes) back;
    }

-- what the master knew of a lane in between
between_at : (m mid : MasterState) (n i : ℕ) (x : Knowledge) → mid ≡ after_seats m n → slice_get m.knows i ≡ Some x
    → (k : Knowledge) × (slice_get mid.knows i ≡ Some k) × (made_more n x ≡ k)
between_at m mid n i x is ex =
    let knows : mid.knows ≡ map (made_more n) m.knows = ap (λ (z : MasterState). z.knows) is in
    let k = there m.knows mid.knows i x (ap length knows ∙ length-map m.knows (made_more n)) ex in
    let y = map_get (made_more n) m.knows i k.0 (sym (ap (λ (l : List Knowledge). slice_get l i) knows) ∙ k.1) in
    (k.0, k.1, ap (made_more n) (same_Some x y.0 (sym ex ∙ y.1)) ∙ y.2)

clients_take : (first : ℕ) (plans : List ClientPlan) (n : ℕ) → AreOfClientsFrom first plans
    → AreOfClientsFrom first (take n plans)
clients_take first [] zero a = tt
clients_take first [] (suc n) a = tt
clients_take first (p ∷ ps) zero a = tt
clients_take first (p ∷ ps) (suc n) a = (a.0, clients_take (first + 1) ps n a.1)

-- jobs were seated for the first of the plans, and joined
module _ {turns : List TurnId} (plans : List ClientPlan) (m : MasterState) {mid new : MasterState} {jobs : List Job}
    {results : List ClientResult} {ran : Bool} (are : plans_of jobs ≡ take (length jobs) plans)
    (is : mid ≡ after_seats m (length jobs)) (j : AreJoined turns mid new jobs results ran) where
  long_after : length new.knows ≡ length m.knows
  long_after = j.lanes.long
      ∙ (ap (λ (z : MasterState). length z.knows) is ∙ length-map m.knows (made_more (length jobs)))

  seats_after : new.seats ≡ m.seats + length jobs
  seats_after = ap (λ (z : MasterState). z.seats) j.rest_same ∙ ap (λ (z : MasterState). z.seats) is

  pub were_taken_in : length jobs ≤ length plans → WereTakenIn plans m new
  were_taken_in few = record {
    made = length jobs;
    few = few;
    seats = seats_after;
    same_turns = ap (λ (z : MasterState). z.turns) j.rest_same ∙ ap (λ (z : MasterState). z.turns) is;
    same_room = ap (λ (z : MasterState). z.room) j.rest_same ∙ ap (λ (z : MasterState). z.room) is;
    lanes = on_each (λ lane. HaveGoneOn plans (length jobs)) 0 m.knows new.knows long_after
        (λ i x y ex ey.
        let k = between_at m mid (length jobs) i x is ex in
        let t = j.lanes.each i k.0 y k.1 ey in
        let many = length-map jobs (λ (z : Job). z.plan.now) in
        let long : length t.passes ≡ length jobs = as_many t.passes (plans_of jobs) t.numbers ∙ many in record {
          passes = t.passes;
          took_in = took_in_at (plans_of jobs) results ran i (length jobs) x k.0 y k.2 t many;
          seats' = long;
          clients = (
            map client_of (drop (length jobs) plans),
            ap (map client_of) (cut_at plans (length jobs))
                ∙ (map-append client_of (take (length jobs) plans) (drop (length jobs) plans)
                ∙ ap (λ (l : List ℕ). l ++ map client_of (drop (length jobs) plans))
                (sym (t.numbers ∙ ap (map client_of) are))),
          );
          no_plan = t.no_plan;
        });
  }

  pub have_run : length jobs ≡ length plans → ran ≡ true → HaveRun plans results m new
  have_run all did =
      let whole : plans_of jobs ≡ plans = are ∙ take_whole plans (length jobs) (omega arith) in
      let seats = seats_after in record {
        seats = omega arith;
        lanes = on_each (HaveRunOn plans results) 0 m.knows new.knows long_after
            (λ i x y ex ey.
            let k = between_at m mid (length jobs) i x is ex in
            let t = j.lanes.each i k.0 y k.1 ey in
            let lane : 0 + i ≡ i = omega arith in record {
              passes = t.passes;
              took_in = took_in_at (plans_of jobs) results ran i (length jobs) x k.0 y k.2 t
                  (length-map jobs (λ (z : Job). z.plan.now));
              each = subst (λ (n : ℕ). DidPlans n plans results t.passes) (sym lane)
                  (subst (λ (l : List ClientPlan). DidPlans i l results t.passes) whole (t.did_all did));
            });
      }

  pub all_joined : AreOfClientsFrom (m.seats + 1) plans → HasTakenIn (m.seats + 1) mid
      → HasTakenIn (new.seats + 1) new
  all_joined clients taken =
      let seats = seats_after in
      let e : m.seats + 1 + length jobs ≡ new.seats + 1 = omega arith in
      subst (λ (n : ℕ). HasTakenIn n new) e (j.taken_in (m.seats + 1)
      (subst (AreOfClientsFrom (m.seats + 1)) (sym are) (clients_take (m.seats + 1) plans (length jobs) clients))
      taken)

pub none_taken_in : (plans : List ClientPlan) (m : MasterState) → WereTakenIn plans m m
none_taken_in plans m = record {
  made = 0;
  few = omega arith;
  seats = omega arith;
  same_turns = refl;
  same_room = refl;
  lanes = on_each (λ lane. HaveGoneOn plans 0) 0 m.knows m.knows refl (λ i x y ex ey.
      let same = same_Some y x (sym ey ∙ ex) in
      let made : x.made ≡ x.made + 0 = omega arith in record {
        passes = [];
        took_in = record {
          number = ap (λ (z : Knowledge). z.number) same;
          opening = ap (λ (z : Knowledge). z.opening) same;
          mine = ap (λ (z : Knowledge). z.mine) same;
          made = ap (λ (z : Knowledge). z.made) same ∙ made;
          joined' = ap (λ (z : Knowledge). z.joined) same ∙ sym (append-nil x.joined);
        };
        seats' = refl;
        clients = (map client_of plans, refl);
        no_plan = tt;
      });
}
