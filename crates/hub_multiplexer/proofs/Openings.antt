-- Turns that are made from the last value on, and values taken back.
use Rattle.std.proofs.Common.{◌≡◌, ◌≢◌, ◌≤◌, ℕ, zero, suc, inl, List, [], ◌∷◌, ◌++◌, map, reverse, length, drop, refl}
use Rattle.std.proofs.Common.{get_or, sym, ap, subst, ◌∙◌, arith, append-nil, append_assoc}
use Rattle.std.specs.List.{AllByRecursion}
use Rattle.std.proofs.lemmas.List.{length-map, map-append, reverse-append}
use Rattle.std.proofs.Math.Seq.{drop-append_seam}
use mathlib.Core.Logic.{dite}
use native.Mathlib.Decide.{ℕ_discrete}
use Rattle.ipb_base.proofs.AllLemmas.{AllByRecursion-append, back_of_all, front_of_all}
use Rattle.turn_pass.specs.Record.{Record, Recorded, made_by, past}
use Rattle.turn_pass.specs.Pass.{Knowledge, PassState, Told, TurnId, first_knowledge}
use Rattle.hub_multiplexer.specs.Openings.{AreFresh, AreOpened, IsFresh, IsOpening, openings_of}
use Rattle.hub_multiplexer.specs.Seats.{IsFirst, knows_of, turns_of}
use Rattle.hub_multiplexer.specs.Ends.{IsMaster, IsRoomPass}
use Rattle.hub_multiplexer.proofs.Ends.{each_maker}

map_reverse : {A B : Type 0} (f : A → B) (xs : List A) → map f (reverse xs) ≡ reverse (map f xs)
map_reverse f [] = refl
map_reverse f (x ∷ xs) = ap (map f) (reverse-append (x ∷ []) xs)
    ∙ (map-append f (reverse xs) (x ∷ []) ∙ (ap (λ l. l ++ f x ∷ []) (map_reverse f xs)
    ∙ sym (reverse-append (f x ∷ []) (map f xs))))

all_reverse : {A : Type 0} (P : A → Type 0) (xs : List A) → AllByRecursion P xs → AllByRecursion P (reverse xs)
all_reverse P [] a = tt
all_reverse P (x ∷ xs) a = subst (AllByRecursion P) (sym (reverse-append (x ∷ []) xs))
    (AllByRecursion-append P (reverse xs) (x ∷ []) (all_reverse P xs a.1) (a.0, tt))

-- all turns, in order
pub opened_all : (all left : List Record) (turns turns' : List TurnId) (passes passes' : List PassState)
    → IsOpening all left turns passes → left ≡ [] → turns' ≡ reverse turns → passes' ≡ reverse passes
    → AreOpened all turns' passes'
opened_all all left turns turns' passes passes' o none turned passed = record {
  are_fresh = record {
    same_turns = ap turns_of passed ∙ (map_reverse (λ (p : PassState). p.turn) passes
        ∙ (ap reverse o.are_fresh.same_turns ∙ sym turned));
    fresh = subst (AllByRecursion IsFresh) (sym passed) (all_reverse IsFresh passes o.are_fresh.fresh);
  };
  openings = ap openings_of passed ∙ (map_reverse (λ (p : PassState). p.knows.opening) passes
      ∙ sym (o.split ∙ ap (λ l. l ++ reverse (openings_of passes)) none));
}

-- a value whose turn nobody took from has the record with which the turn opened
nothing_past : (xs : List Recorded) → ((n : ℕ) → made_by n xs ≡ []) → xs ≡ []
nothing_past xs none = empty xs (each_maker (λ _. ⊥) xs (λ n. inl (none n)))
  where
    empty : (ys : List Recorded) → AllByRecursion (λ _. ⊥) ys → ys ≡ []
    empty [] a = refl
    empty (y ∷ ys) a = absurd a.0

pub told_opening : (k : Knowledge) (r : Record) → k ≡ first_knowledge k.opening → Told k r → r ≡ k.opening
told_opening k r fresh told =
    let o : Record = k.opening in
    let t : Told (first_knowledge o) r = subst (λ z. Told z r) fresh told in
    let rest = t.opening_begins.entries in
    let later : past o r ≡ rest.0 = ap (drop (length o.entries)) rest.1 ∙ drop-append_seam o.entries rest.0 in
    let none : past o r ≡ [] = nothing_past (past o r) (λ n. dite (ℕ_discrete n 0)
    (λ (e : n ≡ 0). ap (λ m. made_by m (past o r)) e ∙ sym t.own)
    (λ (ne : n ≢ 0). t.unmade refl n (one_at_least n ne))) in
    let same : r.entries ≡ o.entries = rest.1 ∙ (ap (λ l. o.entries ++ l) (sym later ∙ none) ∙ append-nil o.entries) in
    (λ i. record { head = t.opening_begins.head i; entries = same i })
  where
    one_at_least : (n : ℕ) → n ≢ 0 → 1 ≤ n
    one_at_least zero ne = absurd (ne refl)
    one_at_least (suc n) ne = omega arith

last_same : {A : Type 0} (xs ys : List A) (x y : A) → xs ++ x ∷ [] ≡ ys ++ y ∷ [] → (xs ≡ ys) × (x ≡ y)
last_same [] [] x y e = (refl, first_same x y [] [] e)
  where
    first_same : {A : Type 0} (a b : A) (as' bs : List A) → a ∷ as' ≡ b ∷ bs → a ≡ b
    first_same a b as' bs e = cc
last_same [] (z ∷ []) x y e = cc
last_same [] (z ∷ z' ∷ zs) x y e = cc
last_same (z ∷ []) [] x y e = cc
last_same (z ∷ z' ∷ zs) [] x y e = cc
last_same (z ∷ zs) (w ∷ ws) x y e = let t = last_same zs ws x y (rest_same z w (zs ++ x ∷ []) (ws ++ y ∷ []) e) in
    ((λ i. first_same z w (zs ++ x ∷ []) (ws ++ y ∷ []) e i ∷ t.0 i), t.1)
  where
    first_same : {A : Type 0} (a b : A) (as' bs : List A) → a ∷ as' ≡ b ∷ bs → a ≡ b
    first_same a b as' bs e = cc

    rest_same : {A : Type 0} (a b : A) (as' bs : List A) → a ∷ as' ≡ b ∷ bs → as' ≡ bs
    rest_same a b as' bs e = cc

-- the last pass is a fresh one of the last turn
pub last_fresh : (turns ts : List TurnId) (t : TurnId) (passes ps : List PassState) (p : PassState)
    → AreFresh turns passes → turns ≡ ts ++ t ∷ [] → passes ≡ ps ++ p ∷ [] → (p.turn ≡ t) × IsFresh p
last_fresh turns ts t passes ps p f turns_are passes_are =
    let turned : turns_of ps ++ p.turn ∷ [] ≡ ts ++ t ∷ [] = sym (map-append (λ (z : PassState). z.turn) ps (p ∷ []))
    ∙ (ap turns_of (sym passes_are) ∙ (f.same_turns ∙ turns_are)) in (
      (last_same (turns_of ps) ts p.turn t turned).1,
      (back_of_all IsFresh ps (p ∷ []) (subst (AllByRecursion IsFresh) passes_are f.fresh)).0,
    )

-- the last turn was taken back
pub one_back : (turns ts : List TurnId) (t : TurnId) (passes ps : List PassState) (p : PassState)
    (records : List Record) (r : Record) → AreFresh turns passes → turns ≡ ts ++ t ∷ [] → passes ≡ ps ++ p ∷ []
    → Told p.knows r
    → AreFresh ts ps × ((records ++ r ∷ []) ++ reverse (openings_of ps) ≡ records ++ reverse (openings_of passes))
one_back turns ts t passes ps p records r f turns_are passes_are told =
    let fresh = subst (AllByRecursion IsFresh) passes_are f.fresh in
    let last : IsFresh p = (back_of_all IsFresh ps (p ∷ []) fresh).0 in
    let opened : r ≡ p.knows.opening = told_opening p.knows r last.knows_opening told in
    let turned : turns_of ps ++ p.turn ∷ [] ≡ ts ++ t ∷ [] = sym (map-append (λ (z : PassState). z.turn) ps (p ∷ []))
    ∙ (ap turns_of (sym passes_are) ∙ (f.same_turns ∙ turns_are)) in
    let openings : reverse (openings_of passes) ≡ p.knows.opening ∷ reverse (openings_of ps) =
    ap (λ l. reverse (openings_of l)) passes_are
    ∙ (ap reverse (map-append (λ (z : PassState). z.knows.opening) ps (p ∷ []))
    ∙ reverse-append (openings_of ps) (p.knows.opening ∷ [])) in (
      record {
        same_turns = (last_same (turns_of ps) ts p.turn t turned).0;
        fresh = front_of_all IsFresh ps
            (p ∷ []) fresh;
      },
      append_assoc records (r ∷ []) (reverse (openings_of ps))
          ∙ ap (λ l. records ++ l) ((λ i. opened i ∷ reverse (openings_of ps)) ∙ sym openings),
    )

-- what the first passes of all turns know
pub knows_opened : (records : List Record) (turns : List TurnId) (passes : List PassState)
    → AreOpened records turns passes → knows_of passes ≡ map first_knowledge records
knows_opened records turns passes o = all_know passes o.are_fresh.fresh ∙ ap (map first_knowledge) o.openings
  where
    all_know : (ps : List PassState) → AllByRecursion IsFresh ps → knows_of ps ≡ map first_knowledge (openings_of ps)
    all_know [] a = refl
    all_know (p ∷ ps) a = (λ i. a.0.knows_opening i ∷ all_know ps a.1 i)

-- the master of turns that were just made
pub master_opened : (records : List Record) (turns : List TurnId) (passes : List PassState) (room : PassState)
    (count : ℕ) → AreOpened records turns passes → IsRoomPass count room → count ≡ length records
    → IsMaster 0 passes room
master_opened records turns passes room count o fits long = record {
  firsts = all_first passes o.are_fresh.fresh;
  no_entries = all_none passes o.are_fresh.fresh;
  room_fits = subst (λ n. IsRoomPass n room) (long
      ∙ (ap length (sym o.openings) ∙ length-map passes (λ (p : PassState). p.knows.opening))) fits;
}
  where
    all_first : (ps : List PassState) → AllByRecursion IsFresh ps → AllByRecursion (IsFirst 1) ps
    all_first [] a = tt
    all_first (p ∷ ps) a = (
      record {
        idle = record {
          holds_nothing = a.0.holds_nothing;
          has_number = ap
              (λ (k : Knowledge). k.number) a.0.knows_opening;
        };
        has_made = ap (λ (k : Knowledge). k.made) a.0.knows_opening;
      },
      all_first ps a.1,
    )

    all_none : (ps : List PassState) → AllByRecursion IsFresh ps
        → AllByRecursion (λ (p : PassState). p.knows.mine ≡ []) ps
    all_none [] a = tt
    all_none (p ∷ ps) a = (ap (λ (k : Knowledge). k.mine) a.0.knows_opening, all_none ps a.1)

-- as many turns as values
pub turns_opened : (records : List Record) (turns : List TurnId) (passes : List PassState)
    → AreOpened records turns passes → length turns ≡ length records
turns_opened records turns passes opened =
    ap length (sym opened.are_fresh.same_turns)
    ∙ (length-map passes (λ (p : PassState). p.turn)
    ∙ (sym (length-map passes (λ (p : PassState). p.knows.opening)) ∙ ap length opened.openings))

-- ---- the room at the end

-- the room that is taken at the end is that for so many lanes
pub room_enough : (count : ℕ) (pass : PassState) (final : Record) (found : ℕ) → IsRoomPass count pass
    → Told pass.knows final → final.head ≡ found ∷ [] → count ≤ found
room_enough count pass final found room told is =
    let same : found ∷ [] ≡ room.capacity ∷ [] = sym is ∙ (told.opening_begins.head ∙ room.opening_is) in
    let there : found ≡ room.capacity = ap (λ (l : List ℕ). get_or l 0 0) same in
    let enough = room.enough in omega (arith, there, enough)
