-- Seats that are made, and taken in, one more.
use Rattle.std.proofs.Common.{◌≡◌, ◌∙◌, ℕ, ◌+◌, List, [], ◌∷◌, ◌++◌, map, length, Some, refl, sym, ap, subst, suc, zero}
use Rattle.std.proofs.Common.{arith, append_assoc, append-nil, length-append}
use Rattle.std.specs.List.{AllByRecursion, slice_get}
use Rattle.std.proofs.lemmas.Option.{none-some, same_Some}
use Rattle.turn_pass.specs.Pass.{Joined, Knowledge, TurnId, kept_of, newcomer, one_more_made, taking_in}
use Rattle.hub_multiplexer.specs.Ends.{HasTakenIn}
use Rattle.hub_multiplexer.specs.Seats.{MasterState, SeatState, knows_after_join}
use Rattle.client_threads.specs.Jobs.{made_more}
use Rattle.board_history.proofs.Lists.{all_at}
use Rattle.hub_session.specs.Serving.{IsUnused}
use Rattle.session_serve.specs.Seats.{AreOfClientsFrom, ArePassesOn, AreTakenIn, IsBack, IsFresh, IsOpen, TookSeats}
use Rattle.session_serve.specs.Seats.{with_seats}
use Rattle.session_serve.proofs.Lists.{all_map, there}

-- ---- made

made_none : (ks : List Knowledge) → map (made_more 0) ks ≡ ks
made_none [] = refl
made_none (k ∷ ks) = let n : k.made + 0 ≡ k.made = omega arith in (λ i. record k { made = n i } ∷ made_none ks i)

made_one_more : (n : ℕ) (ks : List Knowledge)
    → map one_more_made (map (made_more n) ks) ≡ map (made_more (n + 1)) ks
made_one_more n [] = refl
made_one_more n (k ∷ ks) = let m : k.made + n + 1 ≡ k.made + (n + 1) = omega arith in
    (λ i. record k { made = m i } ∷ made_one_more n ks i)

pub no_seats : (m : MasterState) → m ≡ with_seats m 0
no_seats m = let n : m.seats ≡ m.seats + 0 = omega arith in
    (λ i. record m { seats = n i; knows = sym (made_none m.knows) i })

pub one_more_seat : (m now new : MasterState) (n : ℕ) → now ≡ with_seats m n
    → new ≡ record now { seats = now.seats + 1; knows = map one_more_made now.knows } → new ≡ with_seats m (n + 1)
one_more_seat m now new n was is =
    let e : m.seats + n + 1 ≡ m.seats + (n + 1) = omega arith in
    is ∙ (ap (λ (z : MasterState). record z { seats = z.seats + 1; knows = map one_more_made z.knows }) was
    ∙ (λ i. record m { seats = e i; knows = made_one_more n m.knows i }))

unused_here : (n : ℕ) (k : Knowledge) → IsOpen k → IsUnused (newcomer (made_more n k))
unused_here n k opens = subst (λ (z : Knowledge). IsUnused (newcomer (made_more n z))) (sym opens.knows)
    (record { no_call = refl; no_entry = refl })

unused_all : (n : ℕ) (ks : List Knowledge) → AllByRecursion IsOpen ks
    → AllByRecursion IsUnused (map newcomer (map (made_more n) ks))
unused_all n [] opens = tt
unused_all n (k ∷ ks) opens = (unused_here n k opens.0, unused_all n ks opens.1)

pub fresh_seat : (turns : List TurnId) (m now : MasterState) (n : ℕ) (seat : SeatState)
    → now ≡ with_seats m n → m.seats ≡ 0 → AllByRecursion IsOpen m.knows
    → seat ≡ record { client = now.seats + 1; turns = turns; knows = map newcomer now.knows }
    → AllByRecursion (λ (k : Knowledge). k.number ≡ seat.client) seat.knows
    → length seat.knows ≡ length seat.turns → IsFresh turns seat × (seat.client ≡ n + 1)
fresh_seat turns m now n seat was none opens is numbers long =
    let turns_are : seat.turns ≡ turns = ap (λ (s : SeatState). s.turns) is in
    let knows_are : seat.knows ≡ map newcomer (map (made_more n) m.knows) = ap (λ (s : SeatState). s.knows) is
    ∙ ap (λ (z : MasterState). map newcomer z.knows) was in
    let seats_are : now.seats ≡ m.seats + n = ap (λ (z : MasterState). z.seats) was in
    let client_is : seat.client ≡ now.seats + 1 = ap (λ (s : SeatState). s.client) is in (
      record {
        turns' = turns_are;
        numbers = numbers;
        alone = subst (AllByRecursion (λ (k : Knowledge). k.joined ≡ [])) (sym knows_are)
            (all_map newcomer (λ (k : Knowledge). k.joined ≡ []) (map (made_more n) m.knows) (λ k. refl));
        unused = subst (AllByRecursion IsUnused) (sym knows_are) (unused_all n m.knows opens);
        known = long ∙ ap (λ (l : List TurnId). length l) turns_are;
      },
      omega (arith, client_is, seats_are, none),
    )

pub clients_push : (client : ℕ) (seats : List SeatState) (seat : SeatState) → AreOfClientsFrom client seats
    → seat.client ≡ client + length seats → AreOfClientsFrom client (seats ++ seat ∷ [])
clients_push client [] seat of is = (omega (arith, is), tt)
clients_push client (s ∷ seats) seat of is = (of.0, clients_push (client + 1) seats seat of.1 (omega (arith, is)))

pub clients_front : (client : ℕ) (xs ys : List SeatState) → AreOfClientsFrom client (xs ++ ys)
    → AreOfClientsFrom client xs × AreOfClientsFrom (client + length xs) ys
clients_front client [] ys of = (tt, subst (λ n. AreOfClientsFrom n ys) (omega arith) of)
clients_front client (x ∷ xs) ys of =
    let rest = clients_front (client + 1) xs ys of.1 in
    ((of.0, rest.0), subst (λ n. AreOfClientsFrom n ys) (omega arith) rest.1)

-- ---- taken in

after_join_at : (ks others : List Knowledge) (i : ℕ) (x : Knowledge) → length others ≡ length ks
    → slice_get (knows_after_join ks others) i ≡ Some x
    → (k : Knowledge) × (o : Knowledge) × (slice_get ks i ≡ Some k) × (slice_get others i ≡ Some o)
    × (taking_in k o ≡ x)
after_join_at [] others i x long e = absurd (none-some x e)
after_join_at (k ∷ ks) [] i x long e = absurd (omega (arith, long))
after_join_at (k ∷ ks) (o ∷ os) zero x long e = (k, o, refl, refl, same_Some (taking_in k o) x e)
after_join_at (k ∷ ks) (o ∷ os) (suc i) x long e = after_join_at ks os i x (omega (arith, long)) e

length_after_join : (ks others : List Knowledge) → length (knows_after_join ks others) ≡ length ks
length_after_join [] others = refl
length_after_join (k ∷ ks) [] = refl
length_after_join (k ∷ ks) (o ∷ os) = ap suc (length_after_join ks os)

passes_push : (lane : ℕ) (seats : List SeatState) (passes : List Joined) (seat : SeatState) (k : Knowledge)
    → ArePassesOn lane seats passes → slice_get seat.knows lane ≡ Some k
    → ArePassesOn lane (seats ++ seat ∷ []) (passes ++ kept_of k ∷ [])
passes_push lane [] [] seat k are at = ((k, at, refl), tt)
passes_push lane [] (p ∷ passes) seat k are at = absurd are
passes_push lane (s ∷ seats) [] seat k are at = absurd are
passes_push lane (s ∷ seats) (p ∷ passes) seat k are at = (are.0, passes_push lane seats passes seat k are.1 at)

-- one seat more
took_one : (lane : ℕ) (seats : List SeatState) (seat : SeatState) (first k other after : Knowledge)
    → TookSeats lane seats first k → slice_get seat.knows lane ≡ Some other → other.joined ≡ [] → taking_in k other ≡
    after
    → TookSeats lane (seats ++ seat ∷ []) first after
took_one lane seats seat first k other after t at alone is =
    let back = sym is in record {
      passes = t.passes ++ kept_of other ∷ [];
      same_number = ap (λ (z : Knowledge). z.number) back ∙ t.same_number;
      same_opening = ap (λ (z : Knowledge). z.opening) back ∙ t.same_opening;
      same_mine = ap (λ (z : Knowledge). z.mine) back ∙ t.same_mine;
      same_made = ap (λ (z : Knowledge). z.made) back ∙ t.same_made;
      more_joined = ap (λ (z : Knowledge). z.joined) back
          ∙ ((λ i. (t.more_joined i ++ alone i) ++ kept_of other ∷ [])
          ∙ (ap (λ (l : List Joined). l ++ kept_of other ∷ []) (append-nil (first.joined ++ t.passes))
          ∙ append_assoc first.joined t.passes (kept_of other ∷ [])));
      of_seats = passes_push lane seats t.passes seat other t.of_seats at;
    }

pub none_taken : (m : MasterState) → AreTakenIn m m []
none_taken m = record {
  rest_same = refl;
  lanes = record {
    long = refl;
    each = λ lane k after ek ea. let same = same_Some k after (sym ek ∙ ea) in record {
      passes = [];
      same_number = ap (λ (z : Knowledge). z.number) (sym same);
      same_opening = ap (λ (z : Knowledge). z.opening) (sym same);
      same_mine = ap (λ (z : Knowledge). z.mine) (sym same);
      same_made = ap (λ (z : Knowledge). z.made) (sym same);
      more_joined = ap (λ (z : Knowledge). z.joined) (sym same) ∙ sym (append-nil k.joined);
      of_seats = tt;
    };
  };
}

pub one_taken : (turns : List TurnId) (old now new : MasterState) (seats : List SeatState) (seat : SeatState)
    → AreTakenIn old now seats → IsBack turns seat → length old.knows ≡ length turns
    → new ≡ record now { knows = knows_after_join now.knows seat.knows } → AreTakenIn old new (seats ++ seat ∷ [])
one_taken turns old now new seats seat j back known is =
    let knows_are : new.knows ≡ knows_after_join now.knows seat.knows = ap (λ (z : MasterState). z.knows) is in
    let seat_long : length seat.knows ≡ length now.knows = back.known ∙ (sym known ∙ sym j.lanes.long) in record {
      rest_same = is ∙ ((λ i. record (j.rest_same i) { knows = knows_after_join now.knows seat.knows })
          ∙ ap (λ (l : List Knowledge). record old { knows = l }) (sym knows_are));
      lanes = record {
        long = ap (λ (l : List Knowledge). length l) knows_are ∙ (length_after_join now.knows seat.knows
            ∙ j.lanes.long);
        each = λ lane k after ek ea.
            let a = after_join_at now.knows seat.knows lane after seat_long
            (sym (ap (λ (l : List Knowledge). slice_get l lane) knows_are) ∙ ea) in
            took_one lane seats seat k a.0 a.1 after (j.lanes.each lane k a.0 ek a.2) a.3
            (all_at (λ (z : Knowledge). z.joined ≡ []) seat.knows lane a.1 back.alone a.3) a.4;
      };
    }

passes_both : (lane : ℕ) (xs ys : List SeatState) (ps qs : List Joined) → ArePassesOn lane xs ps
    → ArePassesOn lane ys qs → ArePassesOn lane (xs ++ ys) (ps ++ qs)
passes_both lane [] ys [] qs a b = b
passes_both lane [] ys (p ∷ ps) qs a b = absurd a
passes_both lane (x ∷ xs) ys [] qs a b = absurd a
passes_both lane (x ∷ xs) ys (p ∷ ps) qs a b = (a.0, passes_both lane xs ys ps qs a.1 b)

-- seats taken in one list after the other
pub both_taken : (old mid new : MasterState) (xs ys : List SeatState) → AreTakenIn old mid xs → AreTakenIn mid new ys
    → AreTakenIn old new (xs ++ ys)
both_taken old mid new xs ys a b = record {
  rest_same = b.rest_same ∙ (λ i. record (a.rest_same i) { knows = new.knows });
  lanes = record {
    long = b.lanes.long ∙ a.lanes.long;
    each = λ lane k after ek ea.
        let m = there old.knows mid.knows lane k a.lanes.long ek in
        let t = a.lanes.each lane k m.0 ek m.1 in
        let u = b.lanes.each lane m.0 after m.1 ea in record {
          passes = t.passes ++ u.passes;
          same_number = u.same_number ∙ t.same_number;
          same_opening = u.same_opening ∙ t.same_opening;
          same_mine = u.same_mine ∙ t.same_mine;
          same_made = u.same_made ∙ t.same_made;
          more_joined = u.more_joined ∙ (ap (λ (l : List Joined). l ++ u.passes) t.more_joined
              ∙ append_assoc k.joined t.passes u.passes);
          of_seats = passes_both lane xs ys t.passes u.passes t.of_seats u.of_seats;
        };
  };
}

-- taken in by the order of their clients
pub taken_more : (client : ℕ) (seats : List SeatState) (seat : SeatState) (old now new : MasterState)
    → ((c : ℕ) → AreOfClientsFrom c seats → HasTakenIn c old → HasTakenIn (c + length seats) now)
    → (HasTakenIn seat.client now → HasTakenIn (seat.client + 1) new)
    → AreOfClientsFrom client (seats ++ seat ∷ []) → HasTakenIn client old
    → HasTakenIn (client + length (seats ++ seat ∷ [])) new
taken_more client seats seat old now new so_far one of from =
    let parts = clients_front client seats (seat ∷ []) of in
    let more : client + length seats + 1 ≡ client + length (seats ++ seat ∷ []) =
    omega (arith, length-append seats (seat ∷ [])) in
    subst (λ (n : ℕ). HasTakenIn n new) more (subst (λ (n : ℕ). HasTakenIn (n + 1) new) parts.1.0
    (one (subst (λ (n : ℕ). HasTakenIn n now) (sym parts.1.0) (so_far client parts.0 from))))
