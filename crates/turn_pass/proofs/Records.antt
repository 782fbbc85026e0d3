-- Records that begin others, and the entries of one maker.
use Rattle.std.proofs.Common.{◌≡◌, ◌≢◌, ⊎_elim, ℕ, ◌≤◌, true, false, List, [], ◌∷◌, ◌++◌, length, drop, eqb, refl, sym}
use Rattle.std.proofs.Common.{ap, subst, ◌∙◌, arith, length-append, append_assoc, append-nil}
use Rattle.std.proofs.Math.Seq.{drop-length}
use Rattle.std.proofs.lemmas.List.{drop-append-le}
use Rattle.std.proofs.lemmas.Bool.Decides.{eqb_tells}
use Rattle.std.proofs.lemmas.List.Elements.{filter-append}
use Rattle.turn_pass.specs.Record.{Recorded, Record, Begins, GrowsBy, AreMadeBy, made_by, past}

pub made_by_append : (n : ℕ) (xs ys : List Recorded) → made_by n (xs ++ ys) ≡ made_by n xs ++ made_by n ys
made_by_append n xs ys = filter-append (λ (x : Recorded). eqb x.entry.maker n) xs ys

pub made_by_maker : (n : ℕ) (xs : List Recorded) → AreMadeBy n xs → made_by n xs ≡ xs
made_by_maker n [] a = refl
made_by_maker n (x ∷ xs) a = ⊎_elim
    (λ (t : (eqb x.entry.maker n ≡ true) × (x.entry.maker ≡ n)). rw t.0 (ap (λ l. x ∷ l) (made_by_maker n xs a.1)))
    (λ (t : (eqb x.entry.maker n ≡ false) × (x.entry.maker ≢ n)). absurd (t.1 a.0))
    (eqb_tells x.entry.maker n)

pub made_by_another : (m n : ℕ) (xs : List Recorded) → AreMadeBy m xs → n ≢ m → made_by n xs ≡ []
made_by_another m n [] a other = refl
made_by_another m n (x ∷ xs) a other = ⊎_elim
    (λ (t : (eqb x.entry.maker n ≡ true) × (x.entry.maker ≡ n)). absurd (other (sym t.1 ∙ a.0)))
    (λ (t : (eqb x.entry.maker n ≡ false) × (x.entry.maker ≢ n)). rw t.0 (made_by_another m n xs a.1 other))
    (eqb_tells x.entry.maker n)

pub begins_self : (r : Record) → Begins r r
begins_self r = record { head = refl; entries = ([], sym (append-nil r.entries)) }

pub begins_on : (a b c : Record) → Begins a b → Begins b c → Begins a c
begins_on a b c p q = record {
  head = q.head ∙ p.head;
  entries = (
    p.entries.0 ++ q.entries.0,
    q.entries.1
        ∙ (ap (λ l. l ++ q.entries.0) p.entries.1 ∙ append_assoc a.entries p.entries.0 q.entries.0),
  );
}

pub begins_length : (a b : Record) → Begins a b → length a.entries ≤ length b.entries
begins_length a b p =
    subst (λ l. length a.entries ≤ length l) (sym p.entries.1) (omega (arith, length-append a.entries p.entries.0))

-- a record that grew begins with the record before
pub grown_begins : (n : ℕ) (a b : Record) → GrowsBy n a b → Begins a b
grown_begins n a b g = record { head = g.head; entries = (g.added, g.entries) }

pub past_more : (start a b : Record) (added : List Recorded) → Begins start a → b.entries ≡ a.entries ++ added
    → past start b ≡ past start a ++ added
past_more start a b added p e =
    ap (λ l. drop (length start.entries) l) e
    ∙ drop-append-le (length start.entries) a.entries added (begins_length start a p)

pub past_self : (start : Record) → past start start ≡ []
past_self start = drop-length start.entries

-- the entries of another maker are as before
pub others_as_before : (start a b : Record) (m n : ℕ) → Begins start a → GrowsBy m a b → n ≢ m
    → made_by n (past start b) ≡ made_by n (past start a)
others_as_before start a b m n p g other =
    ap (made_by n) (past_more start a b g.added p g.entries)
    ∙ (made_by_append n (past start a) g.added
    ∙ (ap (λ l. made_by n (past start a) ++ l) (made_by_another m n g.added g.makers other) ∙ append-nil _))

-- the entries of the maker grew by those added
pub own_grow : (start a b : Record) (n : ℕ) → Begins start a → (g : GrowsBy n a b)
    → made_by n (past start b) ≡ made_by n (past start a) ++ g.added
own_grow start a b n p g =
    ap (made_by n) (past_more start a b g.added p g.entries)
    ∙ (made_by_append n (past start a) g.added
    ∙ ap (λ l. made_by n (past start a) ++ l) (made_by_maker n g.added g.makers))
