-- Each kind of step keeps the rule.
use Rattle.std.proofs.Common.{◌≡◌, ◌≢◌, ◌⊎◌, ⊎_elim, ℕ, ◌<◌, ◌≤◌, ◌+◌, zero, suc, nat_lt, Bool, true, false}
use Rattle.std.proofs.Common.{if◌then◌else◌, List, [], ◌∷◌, ◌++◌, length, set, slice_index, drop, Option, Some, None}
use Rattle.std.proofs.Common.{inl, inr, refl, sym, ap, subst, ◌∙◌, arith, length-set, length-append, true≢false}
use Rattle.std.proofs.Math.Seq.{drop-append_seam}
use mathlib.Core.Option.{none, some, some-injective, some-ne-none}
use lib.ListN.{get_elem?}
use Rattle.ipb_base.proofs.AllLemmas.{AllByRecursion-append}
use Rattle.atomic_table.specs.Table.{State, Me, Step, Allows, Splits, Joins, Act, Valid, rest, stepped, carried_after}
use Rattle.atomic_table.specs.Table.Act.{keeps, takes, gives}
use Rattle.atomic_table.proofs.Lists.{at_longer, at_set, set_else, set_here}
use Rattle.turn_pass.specs.Record.{Record, AreMadeBy, Begins, GrowsBy, made_by, past}
use Rattle.turn_pass.specs.Pass.{Knowledge, Told, first_knowledge, having_given, having_seen, in_vain, kept_of, longer}
use Rattle.turn_pass.specs.Pass.{newcomer, one_more_made, taking_in}
use Rattle.turn_pass.specs.Rule.{Stage, View, IsPass, SlotHas, words_at, StaysJoined, Owns, Turning}
use Rattle.turn_pass.specs.Rule.Stage.{Idle, Took, Has, Stores}
use Rattle.turn_pass.specs.Steps.{record_taken, view_at, spent_view, Takes, Loads, StoresNumber, Gives}
use Rattle.turn_pass.specs.Steps.{first_after_split, pass_made, view_joined}
use Rattle.turn_pass.proofs.Records.{begins_self, grown_begins, others_as_before, own_grow, past_self}
use Rattle.turn_pass.proofs.Moves.{Changes, SpentStay, begin_on, either_pass, is_holder, joined_stay_on, moves}
use Rattle.turn_pass.proofs.Moves.{not_holder, others_own, own_on, place_inside, spent_stay_set, told_of}

took_not_idle : (r : Record) → Took r ≡ Idle → ⊥
took_not_idle r e = cc

has_not_idle : (r : Record) → Has r ≡ Idle → ⊥
has_not_idle r e = cc

stores_not_idle : (r : Record) (n : ℕ) → Stores r n ≡ Idle → ⊥
stores_not_idle r n e = cc

-- the pass knows as much as before, at another stage
same_knowledge : {V : Type 0} (entries : V → Record) (start : Record) (s : State (Option V) View)
    (t : Turning entries start s) (id : ℕ) (v : View) (stage : Stage) → IsPass s.views id v
    → Changes start t.history t.history id v (view_at stage v.knows)
same_knowledge entries start s t id v stage here = record {
  not_spent = refl;
  same_opening = refl;
  same_number = refl;
  same_made = refl;
  same_joined = refl;
  goes_on = begins_self t.history;
  sees = t.all_begin.seen_begins id v here;
  own = (t.own_entries.each id v here).mine_are;
  others_same = λ n _. refl;
}

Exchanged : {V : Type 0} → (V → Record) → Record → State (Option V) View → ℕ → Knowledge → Step (Option V) → Type 0
Exchanged {V} entries start s id k st =
    (w : View) × (a : Act (Option V)) × Valid s.homes [] a × Turning entries start (stepped s 0 1 id [] w a)
    × Takes entries st (view_at Idle k, []) (slice_index s.words 0) (w, carried_after [] a)

-- an exchange that finds a holder changes the count of exchanges in vain, and nothing else
vain : {V : Type 0} (entries : V → Record) (start : Record) (s : State (Option V) View) (t : Turning entries start s)
    (id : ℕ) (k : Knowledge) (st : Step (Option V)) → IsPass s.views id (view_at Idle k)
    → t.stage ≢ Idle → (n : ℕ) → s.words ≡ 1 ∷ n ∷ [] → Exchanged entries start s id k st
unfolding Exchanged
vain entries start s t id k st here busy n is =
    let v : View = view_at Idle k in
    let w : View = view_at Idle (in_vain k) in
    let same : set s.words 0 1 ≡ s.words = ap (λ l. set l 0 1) is ∙ sym is in
    let o = t.own_entries.each id v here in
    let c : Changes start t.history t.history id v w = record {
      not_spent = refl;
      same_opening = refl;
      same_number = refl;
      same_made = refl;
      same_joined = refl;
      goes_on = begins_self t.history;
      sees = t.all_begin.seen_begins id v here;
      own = o.mine_are;
      others_same = λ m _. refl;
    } in
    let apart : t.holder ≢ id = not_holder entries start s id v w t here refl busy in
    let h = t.one_holds.there busy in (
      w,
      keeps,
      tt,
      record {
        history = t.history;
        holder = t.holder;
        stage = t.stage;
        one_holds = record {
          slot = t.one_holds.slot;
          no_other =
              either_pass entries start s id v w (λ m u. u.stage ≢ Idle → (m ≡ t.holder) × (u.stage ≡ t.stage))
              (λ ne. absurd (ne refl)) (λ m u _ there. t.one_holds.no_other m u there);
          there = λ _. (h.0, (set_else s.views id t.holder w apart ∙ h.1.0, h.1.1), h.2);
        };
        word_counts = same ∙ t.word_counts;
        all_begin = begin_on entries start s id v w t.history t.history here t.all_begin c _ _;
        own_entries = own_on entries start s id v w t.history t.history here t.own_entries c _ _;
      },
      (
        (λ found. let one : slice_index s.words 0 ≡ 1 = ap (λ l. slice_index l 0) is in absurd (omega arith)),
        (λ _. refl),
        (λ first only.
            let zero_id : id ≡ 0 = sym o.number_is ∙ first in
            let few : k.made ≡ length s.views = o.made_are zero_id in
            let inside = place_inside s.views t.holder h.0 h.1.0 in
            absurd (apart (omega (arith, zero_id, few, only, inside)))),
      ),
    )

exchange_at : {V : Type 0} (entries : V → Record) (start : Record) (s : State (Option V) View)
    (t : Turning entries start s) (id : ℕ) (k : Knowledge) (st : Step (Option V)) → IsPass s.views id (view_at Idle k)
    → (stage : Stage) → t.stage ≡ stage → SlotHas entries t.history stage s.homes → s.words ≡ words_at t.history stage
    → Exchanged entries start s id k st
unfolding Exchanged
exchange_at {V} entries start s t id k st here Idle is (value, at_home, recorded) count =
    let v : View = view_at Idle k in
    let told : Told k (entries value) = subst (Told k) (sym recorded) (told_of entries start s t id v here) in
    let w : View = view_at (Took (entries value)) k in (
      w,
      takes 0 (Some value),
      ap (λ l. get_elem? l 0) at_home,
      moves entries start s id v w t here (λ busy. absurd (busy is)) t.history (Took (entries value))
          (same_knowledge entries start s t id v (Took (entries value)) here) refl _ _
          (ap (λ l. set l 0 none) at_home, recorded) (ap (λ l. set l 0 1) count),
      (
        (λ _. (value, refl, told)),
        (λ found. absurd (found (ap (λ l. slice_index l 0) count))),
        (λ _ _. ap (λ l. slice_index l 0) count),
      ),
    )
exchange_at entries start s t id k st here (Took r) is slot count =
    vain entries start s t id k st here (λ e. took_not_idle r (sym is ∙ e)) _ count
exchange_at entries start s t id k st here (Has r) is slot count =
    vain entries start s t id k st here (λ e. has_not_idle r (sym is ∙ e)) _ count
exchange_at entries start s t id k st here (Stores r n) is slot count =
    vain entries start s t id k st here (λ e. stores_not_idle r n (sym is ∙ e)) _ count

pub exchange_step : {V : Type 0} (entries : V → Record) (start : Record) (slots id : ℕ) (k : Knowledge)
    (st : Step (Option V))
    → Allows (Turning entries start) slots id (view_at Idle k, []) 0 (λ _. 1) (Takes entries st (view_at Idle k, []))
unfolding Exchanged
exchange_step entries start slots id k st s t len here fits =
    exchange_at entries start s t id k st (here, refl) t.stage refl t.one_holds.slot t.word_counts

pub load_step : {V : Type 0} (entries : V → Record) (start : Record) (slots id : ℕ) (k : Knowledge)
    (st : Step (Option V)) (r : Record)
    → Allows (Turning entries start) slots id (view_at (Took r) k, (0, None) ∷ []) 1 (λ n. n)
    (Loads st (view_at (Took r) k, (0, None) ∷ []))
load_step entries start slots id k st r s t len here fits =
    let v : View = view_at (Took r) k in
    let pass : IsPass s.views id v = (here, refl) in
    let o = is_holder entries start s id v v t pass (took_not_idle r) in
    let w : View = view_at (Has r) (having_seen k r) in (
      w,
      gives,
      tt,
      moves entries start s id v w t pass (λ _. o.0) t.history (Has r)
          (record {
            not_spent = refl;
            same_opening = refl;
            same_number = refl;
            same_made = refl;
            same_joined = refl;
            goes_on = begins_self t.history;
            sees = subst (λ (z : Record). Begins z t.history) (sym o.1.1) (begins_self t.history);
            own = (t.own_entries.each id v pass).mine_are;
            others_same = λ n _. refl;
          }) refl _ _
          (ap (λ l. set l 0 (some None)) o.1.0, o.1.1) (ap (λ l. set l 1 (slice_index l 1)) o.2),
      (refl, ap (λ l. slice_index l 1) o.2 ∙ ap (λ (z : Record). length z.entries) (sym o.1.1)),
    )

pub store_step : {V : Type 0} (entries : V → Record) (start : Record) (slots id : ℕ) (k : Knowledge)
    (st : Step (Option V)) (r : Record) (n : ℕ)
    → Allows (Turning entries start) slots id (view_at (Has r) k, []) 1 (λ _. n)
    (λ _. StoresNumber st (view_at (Has r) k, []) n)
store_step entries start slots id k st r n s t len here fits =
    let v : View = view_at (Has r) k in
    let pass : IsPass s.views id v = (here, refl) in
    let o = is_holder entries start s id v v t pass (has_not_idle r) in
    let w : View = view_at (Stores r n) k in (
      w,
      takes 0 None,
      ap (λ l. get_elem? l 0) o.1.0,
      moves entries start s id v w t pass (λ _. o.0) t.history (Stores r n)
          (same_knowledge entries start s t id v (Stores r n) pass) refl _ _
          (ap (λ l. set l 0 none) o.1.0, o.1.1) (ap (λ l. set l 1 n) o.2),
      refl,
    )

pub give_step : {V : Type 0} (entries : V → Record) (start : Record) (slots id : ℕ) (k : Knowledge)
    (st : Step (Option V)) (n : ℕ) (value : V) → GrowsBy k.number k.seen (entries value)
    → n ≡ length (entries value).entries
    → Allows (Turning entries start) slots id (view_at (Stores k.seen n) k, (0, Some value) ∷ []) 0 (λ _. 0)
    (Gives entries st (view_at (Stores k.seen n) k, (0, Some value) ∷ []))
give_step entries start slots id k st n value grows count s t len here fits =
    let v : View = view_at (Stores k.seen n) k in
    let pass : IsPass s.views id v = (here, refl) in
    let o = is_holder entries start s id v v t pass (stores_not_idle k.seen n) in
    let own = t.own_entries.each id v pass in
    let history : Record = entries value in
    let on_history : GrowsBy id t.history history = record {
      head = grows.head ∙ ap (λ (z : Record). z.head) o.1.1;
      added = grows.added;
      entries = grows.entries ∙ ap (λ (z : Record). z.entries ++ grows.added) o.1.1;
      makers = subst (λ (m : ℕ). AreMadeBy m grows.added) own.number_is grows.makers;
    } in
    let added : drop (length k.seen.entries) history.entries ≡ grows.added =
    ap (drop (length k.seen.entries)) grows.entries ∙ drop-append_seam k.seen.entries grows.added in
    let w : View = view_at Idle (having_given k history) in (
      w,
      gives,
      tt,
      moves entries start s id v w t pass (λ _. o.0) history Idle
          (record {
            not_spent = refl;
            same_opening = refl;
            same_number = refl;
            same_made = refl;
            same_joined = refl;
            goes_on = grown_begins id t.history history on_history;
            sees = begins_self history;
            own =
                (λ i. own.mine_are i ++ added i)
                ∙ sym (own_grow start t.history history id t.all_begin.opening_begins on_history);
            others_same =
                λ m other. others_as_before start t.history history id m t.all_begin.opening_begins on_history other;
          }) refl _ _
          (value, ap (λ l. set l 0 (some (Some value))) o.1.0, refl)
          (ap (λ l. set l 0 0) o.2 ∙ ap (λ (m : ℕ). 0 ∷ m ∷ []) count),
      refl,
    )

at_last_or_before : {A : Type 0} (l : List A) (a b : A) (n : ℕ) → get_elem? (l ++ a ∷ []) n ≡ some b
    → (get_elem? l n ≡ some b) ⊎ ((n ≡ length l) × (a ≡ b))
at_last_or_before [] a b zero e = inr (refl, some-injective a b e)
at_last_or_before [] a b (suc n) e = absurd (some-ne-none b (sym e))
at_last_or_before (x ∷ xs) a b zero e = inl e
at_last_or_before (x ∷ xs) a b (suc n) e =
    ⊎_elim (λ h. inl h) (λ (h : (n ≡ length xs) × (a ≡ b)). inr (omega (arith, h.0), h.1))
    (at_last_or_before xs a b n e)

pub split_step : {V : Type 0} (entries : V → Record) (start : Record) (id : ℕ) (k : Knowledge) → k.number ≡ 0
    → Splits (Turning entries start) id (view_at Idle k) (view_at Idle (one_more_made k)) (view_at Idle (newcomer k))
split_step {V} entries start id k first s t there =
    let v : View = view_at Idle k in
    let here : IsPass s.views id v = (there, refl) in
    let w : View = view_at Idle (one_more_made k) in
    let u0 : View = view_at Idle (newcomer k) in
    let one : List View = set s.views id w in
    let views : List View = one ++ u0 ∷ [] in
    let own = t.own_entries.each id v here in
    let zero_id : id ≡ 0 = sym own.number_is ∙ first in
    let made : k.made ≡ length s.views = own.made_are zero_id in
    let long : length one ≡ length s.views = length-set s.views id w in
    let one_longer : length views ≡ length s.views + 1 = omega (arith, length-append one (u0 ∷ []), long) in
    let grow = begins_self t.history in
    let stay : SpentStay start t.history s.views views t.history = λ n u at_n gone.
    let st = spent_stay_set start t.history t.history s.views id v w here (λ m _. refl) n u at_n gone in
    (st.0, at_longer one (u0 ∷ []) n st.0 st.1, st.2, st.3) in
    let each : (P : ℕ → View → Type 0) → P id w → ((n : ℕ) → n ≡ length s.views → P n u0)
    → ((n : ℕ) (u : View) → n ≢ id → IsPass s.views n u → P n u) → (n : ℕ) (u : View) → IsPass views n u → P n u =
    λ P at_first at_new other n u there'. ⊎_elim
    (λ (o : get_elem? one n ≡ some u). either_pass entries start s id v w P at_first other n u (o, there'.1))
    (λ (o : (n ≡ length one) × (u0 ≡ u)). subst (λ (z : View). P n z) o.1 (at_new n (o.0 ∙ long)))
    (at_last_or_before one u0 u n there'.0) in
    let same_there : (n : ℕ) (u : View) → n ≢ id → get_elem? s.views n ≡ some u → get_elem? views n ≡ some u =
    λ n u other at_n. at_longer one (u0 ∷ []) n u (set_else s.views id n w other ∙ at_n) in
    record {
      history = t.history;
      holder = t.holder;
      stage = t.stage;
      one_holds = record {
        slot = t.one_holds.slot;
        no_other =
            each (λ n u. u.stage ≢ Idle → (n ≡ t.holder) × (u.stage ≡ t.stage)) (λ ne. absurd (ne refl))
            (λ n _ ne. absurd (ne refl)) (λ n u _ at_n. t.one_holds.no_other n u at_n);
        there =
            λ busy. let h =
            t.one_holds.there busy in (
              h.0,
              (same_there t.holder h.0 (not_holder entries start s id v w t here refl busy) h.1.0, h.1.1),
              h.2,
            );
      };
      word_counts = t.word_counts;
      all_begin = record {
        opening_begins = t.all_begin.opening_begins;
        opening_known =
            each (λ _ u. u.knows.opening ≡ start) (t.all_begin.opening_known id v here)
            (λ _ _. t.all_begin.opening_known id v here) (λ n u _ at_n. t.all_begin.opening_known n u at_n);
        seen_begins =
            each (λ _ u. Begins u.knows.seen t.history) (t.all_begin.seen_begins id v here)
            (λ _ _. t.all_begin.seen_begins id v here) (λ n u _ at_n. t.all_begin.seen_begins n u at_n);
      };
      own_entries = record {
        each = each (λ n u. Owns start t.history views n u.knows)
            (record {
              number_is = own.number_is;
              mine_are = own.mine_are;
              made_are = λ _. omega (arith, made, one_longer);
              joined_stay = joined_stay_on start t.history t.history s.views views k.joined grow stay own.joined_stay;
            })
            (λ n is. record {
              number_is = made ∙ sym is;
              mine_are = sym (t.own_entries.unmade n (omega (arith, is)));
              made_are = λ e. absurd (let inside = place_inside s.views id v there in omega arith);
              joined_stay = tt;
            })
            (λ n u other at_n. let o = t.own_entries.each n u at_n in record {
              number_is = o.number_is;
              mine_are = o.mine_are;
              made_are = λ e. absurd (other (e ∙ sym zero_id));
              joined_stay =
                  joined_stay_on start t.history t.history s.views views u.knows.joined grow stay o.joined_stay;
            });
        unmade = λ n up. t.own_entries.unmade n (omega (arith, one_longer));
      };
    }

longer_begins : (a b history : Record) → Begins a history → Begins b history → Begins (longer a b) history
longer_begins a b history p q = cases (nat_lt (length a.entries) (length b.entries))
  where
    cases : (c : Bool) → Begins (if c then b else a) history
    cases true = q
    cases false = p

pub join_step : {V : Type 0} (entries : V → Record) (start : Record) (id : ℕ) (k : Knowledge) (other : ℕ)
    (l : Knowledge)
    → Joins (Turning entries start) id (view_at Idle k) other (view_at Idle l) (view_at Idle (taking_in k l)) spent_view
join_step {V} entries start id k other l s t there apart there' =
    let v : View = view_at Idle k in
    let u : View = view_at Idle l in
    let w : View = view_at Idle (taking_in k l) in
    let one : List View = set s.views id w in
    let views : List View = set one other spent_view in
    let here : IsPass s.views id v = (there, refl) in
    let there_before : IsPass s.views other u = (sym (set_else s.views id other w apart) ∙ there', refl) in
    let own = t.own_entries.each id v here in
    let others = t.own_entries.each other u there_before in
    let inside : other < length one = place_inside one other u there' in
    let long : length views ≡ length s.views = length-set one other spent_view ∙ length-set s.views id w in
    let grow = begins_self t.history in
    let stay : SpentStay start t.history s.views views t.history = λ n z at_n gone.
    let st = spent_stay_set start t.history t.history s.views id v w here (λ m _. refl) n z at_n gone in
    spent_stay_set start t.history t.history one other u spent_view (there', refl) (λ m _. refl) n st.0 st.1 st.2 in
    let taken : StaysJoined start t.history views (kept_of l) = record {
      stands =
          record {
            seen = t.all_begin.seen_begins other u there_before;
            mine = others.mine_are ∙ (λ i. made_by (sym others.number_is i) (past start t.history));
          };
      left = spent_view;
      at_number =
          subst (λ (n : ℕ). get_elem? views n ≡ some spent_view) (sym others.number_is)
          (set_here one other spent_view inside);
      is_spent = refl;
    } in
    let each : (P : ℕ → View → Type 0) → P id w → ((n : ℕ) (z : View) → n ≢ id → IsPass s.views n z → P n z)
    → (n : ℕ) (z : View) → IsPass views n z → P n z =
    λ P at_taker at_rest n z at_n. ⊎_elim
    (λ (x : (n ≡ other) × (spent_view ≡ z)). absurd (true≢false (ap (λ (y : View). y.spent) x.1 ∙ at_n.1)))
    (λ (x : (n ≢ other) × (get_elem? one n ≡ some z)). either_pass entries start s id v w P at_taker at_rest n z
    (x.1, at_n.1))
    (at_set one other n spent_view z at_n.0) in
    record {
      history = t.history;
      holder = t.holder;
      stage = t.stage;
      one_holds = record {
        slot = t.one_holds.slot;
        no_other =
            each (λ n z. z.stage ≢ Idle → (n ≡ t.holder) × (z.stage ≡ t.stage)) (λ ne. absurd (ne refl))
            (λ n z _ at_n. t.one_holds.no_other n z at_n);
        there = λ busy. let h = t.one_holds.there busy in (
          h.0,
          (
            set_else one other t.holder spent_view (not_holder entries start s other u u t there_before refl busy)
                ∙ (set_else s.views id t.holder w (not_holder entries start s id v w t here refl busy) ∙ h.1.0),
            h.1.1,
          ),
          h.2,
        );
      };
      word_counts = t.word_counts;
      all_begin = record {
        opening_begins = t.all_begin.opening_begins;
        opening_known =
            each (λ _ z. z.knows.opening ≡ start) (t.all_begin.opening_known id v here)
            (λ n z _ at_n. t.all_begin.opening_known n z at_n);
        seen_begins = each (λ _ z. Begins z.knows.seen t.history)
            (longer_begins k.seen l.seen t.history (t.all_begin.seen_begins id v here)
            (t.all_begin.seen_begins other u there_before))
            (λ n z _ at_n. t.all_begin.seen_begins n z at_n);
      };
      own_entries = record {
        each = each (λ n z. Owns start t.history views n z.knows)
            (record {
              number_is = own.number_is;
              mine_are = own.mine_are;
              made_are = λ e. own.made_are e ∙ sym long;
              joined_stay =
                  AllByRecursion-append (StaysJoined start t.history views) (k.joined ++ l.joined) (kept_of l ∷ [])
                  (AllByRecursion-append (StaysJoined start t.history views) k.joined l.joined
                  (joined_stay_on start t.history t.history s.views views k.joined grow stay own.joined_stay)
                  (joined_stay_on start t.history t.history s.views views l.joined grow stay others.joined_stay))
                  (taken, tt);
            })
            (λ n z _ at_n. others_own start t.history t.history s.views views n z.knows grow long stay refl
            (t.own_entries.each n z at_n));
        unmade = λ n up. t.own_entries.unmade n (subst (λ (m : ℕ). m ≤ n) long up);
      };
    }

-- the rule holds when a turn is made
pub opens : {V : Type 0} (entries : V → Record) (value : V) (n : ℕ) → n ≡ length (entries value).entries
    → Turning entries (entries value)
    (record {
      words = 0 ∷ n ∷ [];
      homes = some (Some value) ∷ [];
      views = view_at Idle (first_knowledge (entries value)) ∷ [];
    })
opens {V} entries value n count =
    let start : Record = entries value in
    let first : View = view_at Idle (first_knowledge start) in
    let only : (P : ℕ → View → Type 0) → P 0 first → (m : ℕ) (u : View) → IsPass (first ∷ []) m u → P m u =
    λ P at_first m u there. only_place P first at_first m u there.0 in
    record {
      history = start;
      holder = 0;
      stage = Idle;
      one_holds = record {
        slot = (value, refl, refl);
        no_other = only (λ m u. u.stage ≢ Idle → (m ≡ 0) × (u.stage ≡ Idle)) (λ ne. absurd (ne refl));
        there = λ ne. absurd (ne refl);
      };
      word_counts = ap (λ (m : ℕ). 0 ∷ m ∷ []) count;
      all_begin = record {
        opening_begins = begins_self start;
        opening_known = only (λ _ u. u.knows.opening ≡ start) refl;
        seen_begins = only (λ _ u. Begins u.knows.seen start) (begins_self start);
      };
      own_entries = record {
        each = only (λ m u. Owns start start (first ∷ []) m u.knows)
            (record {
              number_is = refl;
              mine_are = sym (ap (made_by 0) (past_self start));
              made_are = λ _. refl;
              joined_stay = tt;
            });
        unmade = λ m up. ap (made_by m) (past_self start);
      };
    }
  where
    only_place : (P : ℕ → View → Type 0) (v : View) → P 0 v → (m : ℕ) (u : View) → get_elem? (v ∷ []) m ≡ some u → P m u
    only_place P v at_first zero u e = subst (λ (z : View). P 0 z) (some-injective v u e) at_first
    only_place P v at_first (suc m) u e = absurd (some-ne-none u (sym e))

-- while a pass has the value, the slot is at home and empty
pub empty_slot : {V : Type 0} (entries : V → Record) (start : Record) (s : State (Option V) View) (id : ℕ) (v : View)
    (r : Record) → v ≡ view_at (Has r) v.knows
    → Turning entries start s → get_elem? s.views id ≡ some v → get_elem? s.homes 0 ≡ some (some None)
empty_slot entries start s id v r is t there =
    let w : View = view_at (Has r) v.knows in
    let o = is_holder entries start s id w w t (there ∙ ap some is, refl) (has_not_idle r) in
    ap (λ l. get_elem? l 0) o.1.0

-- The same of a seat whose view and slots are known. The step is one at which no number is looked at.
module _ {V : Type 0} (entries : V → Record) (start : Record) (slots id : ℕ) (m : Me (Option V) View)
    (st : Step (Option V)) where
  pub exchanges : (k : Knowledge) → m ≡ (view_at Idle k, [])
      → Allows (Turning entries start) slots id m 0 (λ _. 1) (Takes entries st m)
  exchanges k is =
      subst (λ z. Allows (Turning entries start) slots id z 0 (λ _. 1) (Takes entries st z)) (sym is)
      (exchange_step entries start slots id k st)

  pub loads : (k : Knowledge) (r : Record) → m ≡ (view_at (Took r) k, (0, None) ∷ [])
      → Allows (Turning entries start) slots id m 1 (λ n. n) (Loads st m)
  loads k r is =
      subst (λ z. Allows (Turning entries start) slots id z 1 (λ n. n) (Loads st z)) (sym is)
      (load_step entries start slots id k st r)

  pub stores : (k : Knowledge) (n : ℕ) → m ≡ (view_at (Has k.seen) k, [])
      → Allows (Turning entries start) slots id m 1 (λ _. n) (λ _. StoresNumber st m n)
  stores k n is =
      subst (λ z. Allows (Turning entries start) slots id z 1 (λ _. n) (λ _. StoresNumber st z n)) (sym is)
      (store_step entries start slots id k st k.seen n)

  pub gives_back : (k : Knowledge) (n : ℕ) (value : V) → m ≡ (view_at (Stores k.seen n) k, (0, Some value) ∷ [])
      → GrowsBy k.number k.seen (entries value) → n ≡ length (entries value).entries
      → Allows (Turning entries start) slots id m 0 (λ _. 0) (Gives entries st m)
  gives_back k n value is grows count =
      subst (λ z. Allows (Turning entries start) slots id z 0 (λ _. 0) (Gives entries st z)) (sym is)
      (give_step entries start slots id k st n value grows count)

pub splits : {V : Type 0} (entries : V → Record) (start : Record) (id : ℕ) (v : View) → v ≡ view_at Idle v.knows
    → v.knows.number ≡ 0
    → Splits (Turning entries start) id v (first_after_split v) (pass_made v)
splits entries start id v is first =
    subst (λ z. Splits (Turning entries start) id z (first_after_split v) (pass_made v)) (sym is)
    (split_step entries start id v.knows first)

pub joins : {V : Type 0} (entries : V → Record) (start : Record) (id : ℕ) (v : View) (other : ℕ) (u : View)
    → v ≡ view_at Idle v.knows → u ≡ view_at Idle u.knows
    → Joins (Turning entries start) id v other u (view_joined v u) spent_view
joins entries start id v other u is is' =
    subst (λ z. Joins (Turning entries start) id z other u (view_joined v u) spent_view) (sym is)
    (subst (λ z. Joins (Turning entries start) id (view_at Idle v.knows) other z (view_joined v u) spent_view) (sym is')
    (join_step entries start id v.knows other u.knows))

-- a seat that put something else into the slot that it took
pub exchanged_slot : {V : Type 0} (before after : Me (Option V) View) (w : View) (old new : Option V)
    → after ≡ (before.0, (0, new) ∷ rest before.1) → before ≡ (w, (0, old) ∷ []) → after ≡ (w, (0, new) ∷ [])
exchanged_slot before after w old new is was = is ∙ ap (λ m. (m.0, (0, new) ∷ rest m.1)) was

-- a seat that stored the number of entries
pub stored_number : {V : Type 0} (before after : Me (Option V) View) (k : Knowledge) (r : Record) (n : ℕ)
    → after ≡ (view_at (Stores (record_taken before.0.stage) n) before.0.knows, (0, None) ∷ [])
    → before ≡ (view_at (Has r) k, []) → after ≡ (view_at (Stores r n) k, (0, None) ∷ [])
stored_number before after k r n is was =
    is ∙ ap (λ m. (view_at (Stores (record_taken m.0.stage) n) m.0.knows, (0, None) ∷ [])) was
