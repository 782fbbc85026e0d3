-- What stays true of a turn where one pass changes.
use Rattle.std.proofs.Common.{◌≡◌, ◌≢◌, ⊎_elim, ℕ, ◌<◌, ◌≤◌, zero, suc, true, false, List, [], ◌∷◌, length, set, Option}
use Rattle.std.proofs.Common.{refl, sym, ap, subst, ◌∙◌, arith, length-set, true≢false}
use Rattle.std.specs.List.{AllByRecursion}
use mathlib.Core.Option.{none, some, some-injective, some-ne-none}
use mathlib.Core.Option as maybe
use mathlib.Core.Logic.{dite}
use native.Mathlib.Decide.{ℕ_discrete}
use lib.ListN.{get_elem?}
use Rattle.ipb_base.proofs.AllLemmas.{all-map}
use Rattle.atomic_table.specs.Table.{State}
use Rattle.atomic_table.proofs.Lists.{at_set, set_here, set_else}
use Rattle.turn_pass.specs.Record.{Record, Begins, made_by, past}
use Rattle.turn_pass.specs.Pass.{Joined, Knowledge, Stands, Told}
use Rattle.turn_pass.specs.Rule.{Stage, View, IsPass, SlotHas, words_at, OneHolds, AllBegin, StaysJoined, Owns}
use Rattle.turn_pass.specs.Rule.{OwnEntries, Turning}
use Rattle.turn_pass.specs.Rule.Stage.{Idle}
use Rattle.turn_pass.proofs.Records.{begins_on}

pub place_inside : {A : Type 0} (l : List A) (i : ℕ) (a : A) → get_elem? l i ≡ some a → i < length l
place_inside [] i a e = absurd (some-ne-none a (sym e))
place_inside (x ∷ xs) zero a e = omega arith
place_inside (x ∷ xs) (suc i) a e = let h = place_inside xs i a e in omega arith

-- one place has one view
pub same_view : (views : List View) (n m : ℕ) (v w : View) → get_elem? views n ≡ some v → get_elem? views m ≡ some w
    → n ≡ m → v ≡ w
same_view views n m v w there here is = some-injective v w (sym there ∙ (ap (get_elem? views) is ∙ here))

-- spent views stay spent, and the entries of their numbers stay
abbrev pub SpentStay : Record → Record → List View → List View → Record → Type 0
SpentStay start before views after history =
    (n : ℕ) (u : View) → get_elem? views n ≡ some u → u.spent ≡ true
    → (w : View) × (get_elem? after n ≡ some w) × (w.spent ≡ true)
    × (made_by n (past start history) ≡ made_by n (past start before))

-- a pass that is not spent changes: the spent ones stay
pub spent_stay_set : (start before history : Record) (views : List View) (id : ℕ) (v w : View) → IsPass views id v
    → ((n : ℕ) → n ≢ id → made_by n (past start history) ≡ made_by n (past start before))
    → SpentStay start before views (set views id w) history
spent_stay_set start before history views id v w here same n u there gone = dite (ℕ_discrete n id)
    (λ (e : n ≡ id). absurd
    (true≢false (sym gone ∙ (ap (λ (z : View). z.spent) (same_view views n id u v there here.0 e) ∙ here.1))))
    (λ (other : n ≢ id). (u, set_else views id n w other ∙ there, gone, same n other))

-- so those that were joined stay as they were
pub joined_stay_on : (start before history : Record) (views after : List View) (js : List Joined)
    → Begins before history → SpentStay start before views after history
    → AllByRecursion (StaysJoined start before views) js → AllByRecursion (StaysJoined start history after) js
joined_stay_on start before history views after js grow stay a =
    all-map (StaysJoined start before views) (StaysJoined start history after) js
    (λ j p. let s = stay j.number p.left p.at_number p.is_spent in record {
      stands = record { seen = begins_on j.seen before history p.stands.seen grow; mine = p.stands.mine ∙ sym s.3 };
      left = s.0;
      at_number = s.1;
      is_spent = s.2;
    }) a

-- what another pass calls its own
pub others_own : (start before history : Record) (views after : List View) (n : ℕ) (k : Knowledge)
    → Begins before history → length after ≡ length views
    → SpentStay start before views after history → made_by n (past start history) ≡ made_by n (past start before)
    → Owns start before views n k → Owns start history after n k
others_own start before history views after n k grow long stay same o = record {
  number_is = o.number_is;
  mine_are = o.mine_are ∙ sym same;
  made_are = λ e. o.made_are e ∙ sym long;
  joined_stay = joined_stay_on start before history views after k.joined grow stay o.joined_stay;
}

-- what changes where the pass id does, from v to w, and the record goes on from `before` to `history`
pub record Changes (start before history : Record) (id : ℕ) (v w : View) : Type 0 where
  pub not_spent : w.spent ≡ false
  pub same_opening : w.knows.opening ≡ v.knows.opening
  pub same_number : w.knows.number ≡ v.knows.number
  pub same_made : w.knows.made ≡ v.knows.made
  pub same_joined : w.knows.joined ≡ v.knows.joined
  pub goes_on : Begins before history
  pub sees : Begins w.knows.seen history
  pub own : w.knows.mine ≡ made_by id (past start history)
  pub others_same : (n : ℕ) → n ≢ id → made_by n (past start history) ≡ made_by n (past start before)

module _ {V : Type 0} (entries : V → Record) (start : Record) (s : State (Option V) View) (id : ℕ) (v w : View) where
  -- cases on which pass is meant, after one has changed
  pub either_pass : (P : ℕ → View → Type 0) → P id w → ((n : ℕ) (u : View) → n ≢ id → IsPass s.views n u → P n u)
      → (n : ℕ) (u : View) → IsPass (set s.views id w) n u → P n u
  either_pass P one other n u there = ⊎_elim
      (λ (x : (n ≡ id) × (w ≡ u)). subst (λ (z : View). P n z) x.1 (subst (λ (m : ℕ). P m w) (sym x.0) one))
      (λ (x : (n ≢ id) × (get_elem? s.views n ≡ some u)). other n u x.0 (x.1, there.1))
      (at_set s.views id n w u there.0)

  pub begin_on : (before history : Record) → IsPass s.views id v → AllBegin start before s
      → Changes start before history id v w
      → (words : List ℕ) (homes : List (maybe.Option (Option V)))
      → AllBegin start history (record { words = words; homes = homes; views = set s.views id w })
  begin_on before history here b c words homes = record {
    opening_begins = begins_on start before history b.opening_begins c.goes_on;
    opening_known =
        either_pass (λ _ u. u.knows.opening ≡ start) (c.same_opening ∙ b.opening_known id v here)
        (λ n u _ there. b.opening_known n u there);
    seen_begins =
        either_pass (λ _ u. Begins u.knows.seen history) c.sees
        (λ n u _ there. begins_on u.knows.seen before history (b.seen_begins n u there) c.goes_on);
  }

  pub own_on : (before history : Record) → IsPass s.views id v → OwnEntries start before s
      → Changes start before history id v w
      → (words : List ℕ) (homes : List (maybe.Option (Option V)))
      → OwnEntries start history (record { words = words; homes = homes; views = set s.views id w })
  own_on before history here o c words homes =
      let k = o.each id v here in
      let long : length (set s.views id w) ≡ length s.views = length-set s.views id w in
      let stay = spent_stay_set start before history s.views id v w here c.others_same in record {
        each = either_pass (λ n u. Owns start history (set s.views id w) n u.knows)
            (record {
              number_is = c.same_number ∙ k.number_is;
              mine_are = c.own;
              made_are = λ e. c.same_made ∙ (k.made_are e ∙ sym long);
              joined_stay =
                  joined_stay_on start before history s.views (set s.views id w) w.knows.joined c.goes_on stay
                  (subst (AllByRecursion (StaysJoined start before s.views)) (sym c.same_joined) k.joined_stay);
            })
            (λ n u other there. others_own start before history s.views (set s.views id w) n u.knows c.goes_on long stay
            (c.others_same n other) (o.each n u there));
        unmade = λ n up.
            let up' : length s.views ≤ n = subst (λ (m : ℕ). m ≤ n) long up in
            let inside : id < length s.views = place_inside s.views id v here.0 in
            c.others_same n (λ e. omega arith) ∙ o.unmade n up';
      }

  -- the pass that changes is the holder, or nobody holds: then it alone holds, or nobody
  pub holds_on : (before history : Record) (stage : Stage) → IsPass s.views id v → (t : Turning entries start s)
      → (t.stage ≢ Idle → t.holder ≡ id) → w.spent ≡ false → w.stage ≡ stage
      → (words : List ℕ) (homes : List (maybe.Option (Option V))) → SlotHas entries history stage homes
      → OneHolds entries history id stage (record { words = words; homes = homes; views = set s.views id w })
  holds_on before history stage here t quiet live is words homes slot = record {
    slot = slot;
    no_other = either_pass (λ n u. u.stage ≢ Idle → (n ≡ id) × (u.stage ≡ stage)) (λ _. (refl, is))
        (λ n u other there busy. let h = t.one_holds.no_other n u there busy in absurd
        (other (h.0 ∙ quiet (λ none. busy (h.1 ∙ none)))));
    there = λ _. (w, (set_here s.views id w (place_inside s.views id v here.0), live), is);
  }

  -- a step of the pass that holds, or that takes where nobody holds
  pub moves : (t : Turning entries start s) → IsPass s.views id v → (t.stage ≢ Idle → t.holder ≡ id)
      → (history : Record) (stage : Stage) → Changes start t.history history id v w → w.stage ≡ stage
      → (words : List ℕ) (homes : List (maybe.Option (Option V))) → SlotHas entries history stage homes
      → words ≡ words_at history stage
      → Turning entries start (record { words = words; homes = homes; views = set s.views id w })
  moves t here quiet history stage c is words homes slot count = record {
    history = history;
    holder = id;
    stage = stage;
    one_holds = holds_on t.history history stage here t quiet c.not_spent is words homes slot;
    word_counts = count;
    all_begin = begin_on t.history history here t.all_begin c words homes;
    own_entries = own_on t.history history here t.own_entries c words homes;
  }

  -- the stage of a pass that holds is that of the turn
  pub is_holder : (t : Turning entries start s) → IsPass s.views id v → v.stage ≢ Idle
      → (t.holder ≡ id) × SlotHas entries t.history v.stage s.homes × (s.words ≡ words_at t.history v.stage)
  is_holder t here busy = let o = t.one_holds.no_other id v here busy in (
    sym o.0,
    subst (λ z. SlotHas entries t.history z s.homes) (sym o.1) t.one_holds.slot,
    subst (λ z. s.words ≡ words_at t.history z) (sym o.1) t.word_counts,
  )

  -- a pass that holds nothing is not the holder
  pub not_holder : (t : Turning entries start s) → IsPass s.views id v → v.stage ≡ Idle → t.stage ≢ Idle → t.holder ≢ id
  not_holder t here idle busy e = let h = t.one_holds.there busy in
      busy (sym h.2 ∙ (ap (λ (z : View). z.stage) (same_view s.views t.holder id h.0 v h.1.0 here.0 e) ∙ idle))

-- what the rule tells a pass
pub told_of : {V : Type 0} (entries : V → Record) (start : Record) (s : State (Option V) View)
    (t : Turning entries start s) (id : ℕ) (v : View) → IsPass s.views id v → Told v.knows t.history
told_of entries start s t id v here =
    let known : v.knows.opening ≡ start = t.all_begin.opening_known id v here in
    let k = t.own_entries.each id v here in record {
      opening_begins = subst (λ (o : Record). Begins o t.history) (sym known) t.all_begin.opening_begins;
      seen_begins = t.all_begin.seen_begins id v here;
      own = k.mine_are ∙ (λ i. made_by (sym k.number_is i) (past (sym known i) t.history));
      joined_stand =
          subst (λ (o : Record). AllByRecursion (Stands o t.history) v.knows.joined) (sym known)
          (all-map (StaysJoined start t.history s.views) (Stands start t.history) v.knows.joined
          (λ j p. p.stands) k.joined_stay);
      unmade = λ first n up. subst (λ (o : Record). made_by n (past o t.history) ≡ []) (sym known)
          (t.own_entries.unmade n
          (let m : v.knows.made ≡ length s.views = k.made_are (sym k.number_is ∙ first) in omega arith));
    }
