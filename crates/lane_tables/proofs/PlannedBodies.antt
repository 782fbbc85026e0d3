-- The bodies of a client, by number.
use Rattle.std.proofs.Common.{◌≡◌, ℕ, zero, suc, ◌<◌, ◌≤◌, ◌+◌, true, false, List, [], ◌∷◌, ◌++◌, length, set}
use Rattle.std.proofs.Common.{Some, ◌⊎◌, inl, inr, refl, sym, ap, ◌∙◌, arith, get_or}
use Rattle.std.proofs.Common.{length-append}
use Rattle.std.specs.List.{slice_get}
use Rattle.std.proofs.lemmas.Bool.{cases_lt}
use Rattle.lane_tables.specs.declared.rows.PlannedBody.{PlannedBody}
use Rattle.lane_tables.specs.Books.{IsFirstUntaken, as_asked, as_taken, ask_at, is_marked, just_planned, with_changed_body}

pub length-replaced : (k : ℕ) (change : PlannedBody → PlannedBody) (bodies : List PlannedBody)
    → length (with_changed_body k change bodies) ≡ length bodies
length-replaced k change [] = refl
length-replaced zero change (b ∷ bs) = refl
length-replaced (suc k) change (b ∷ bs) = ap suc (length-replaced k change bs)

pub set_replaced : (k : ℕ) (change : PlannedBody → PlannedBody) (bodies : List PlannedBody) (body : PlannedBody)
    → k < length bodies → body ≡ get_or bodies k body → set bodies k (change body) ≡ with_changed_body k change bodies
set_replaced k change [] body within is = absurd (omega arith)
set_replaced zero change (b ∷ bs) body within is = ap (λ (x : PlannedBody). change x ∷ bs) is
set_replaced (suc k) change (b ∷ bs) body within is =
    ap (λ (l : List PlannedBody). b ∷ l) (set_replaced k change bs body (omega arith) is)

-- a body after another was replaced was there before, or is the one that was
pub record WasBody (k : ℕ) (change : PlannedBody → PlannedBody) (bodies : List PlannedBody) (seq : ℕ)
    (body : PlannedBody) : Type 0 where
  pub old : PlannedBody
  pub there : slice_get bodies seq ≡ Some old
  pub is : ((seq ≡ k) × (body ≡ change old)) ⊎ ((seq ≡ k → ⊥) × (body ≡ old))

pub was_body : (k : ℕ) (change : PlannedBody → PlannedBody) (bodies : List PlannedBody) (seq : ℕ) (body : PlannedBody)
    → slice_get (with_changed_body k change bodies) seq ≡ Some body → WasBody k change bodies seq body
was_body k change [] seq body e = absurd cc
was_body zero change (b ∷ bs) zero body e = record { old = b; there = refl; is = inl (refl, cc) }
was_body zero change (b ∷ bs) (suc n) body e = record { old = body; there = e; is = inr (λ z. omega (arith, z), refl) }
was_body (suc k) change (b ∷ bs) zero body e = record { old = b; there = refl; is = inr (λ z. omega (arith, z), cc) }
was_body (suc k) change (b ∷ bs) (suc n) body e =
    let w = was_body k change bs n body e in
    record {
      old = w.old;
      there = w.there;
      is = elim w.is [
        | inl here ↦ inl (ap suc here.0, here.1)
        | inr apart ↦ inr (λ z. apart.0 (omega (arith, z)), apart.1)
      ];
    }

-- ---- marks

pub marked_at : (bodies : List PlannedBody) (n : ℕ) (body : PlannedBody) → n < length bodies
    → body ≡ get_or bodies n body → is_marked bodies n ≡ body.is_taken
marked_at [] n body within is = absurd (omega arith)
marked_at (b ∷ bs) zero body within is = ap (λ (x : PlannedBody). x.is_taken) (sym is)
marked_at (b ∷ bs) (suc n) body within is = marked_at bs n body (omega arith) is

-- a body that was planned is not marked
pub marked_push : (bodies : List PlannedBody) (words : List ℕ) (n : ℕ)
    → is_marked (bodies ++ just_planned words ∷ []) n ≡ is_marked bodies n
marked_push [] words zero = refl
marked_push [] words (suc n) = refl
marked_push (b ∷ bs) words zero = refl
marked_push (b ∷ bs) words (suc n) = marked_push bs words n

pub marked_other : (k : ℕ) (change : PlannedBody → PlannedBody) (bodies : List PlannedBody) (n : ℕ) → (n ≡ k → ⊥)
    → is_marked (with_changed_body k change bodies) n ≡ is_marked bodies n
marked_other k change [] n apart = refl
marked_other zero change (b ∷ bs) zero apart = absurd (apart refl)
marked_other zero change (b ∷ bs) (suc n) apart = refl
marked_other (suc k) change (b ∷ bs) zero apart = refl
marked_other (suc k) change (b ∷ bs) (suc n) apart = marked_other k change bs n (λ e. apart (ap suc e))

pub marked_taken : (k : ℕ) (bodies : List PlannedBody) → k < length bodies
    → is_marked (with_changed_body k as_taken bodies) k ≡ true
marked_taken k [] within = absurd (omega arith)
marked_taken zero (b ∷ bs) within = refl
marked_taken (suc k) (b ∷ bs) within = marked_taken k bs (omega arith)

-- a change that takes nothing changes no mark
pub marked_kept : (k : ℕ) (change : PlannedBody → PlannedBody) → ((b : PlannedBody) → (change b).is_taken ≡ b.is_taken)
    → (bodies : List PlannedBody) (n : ℕ) → is_marked (with_changed_body k change bodies) n ≡ is_marked bodies n
marked_kept k change keeps [] n = refl
marked_kept zero change keeps (b ∷ bs) zero = keeps b
marked_kept zero change keeps (b ∷ bs) (suc n) = refl
marked_kept (suc k) change keeps (b ∷ bs) zero = refl
marked_kept (suc k) change keeps (b ∷ bs) (suc n) = marked_kept k change keeps bs n

-- a mark stays
pub still_marked : (k : ℕ) (bodies : List PlannedBody) (n : ℕ) → is_marked bodies n ≡ true
    → is_marked (with_changed_body k as_taken bodies) n ≡ true
still_marked k [] n is = is
still_marked zero (b ∷ bs) zero is = refl
still_marked zero (b ∷ bs) (suc n) is = is
still_marked (suc k) (b ∷ bs) zero is = is
still_marked (suc k) (b ∷ bs) (suc n) is = still_marked k bs n is

-- ---- the numbers of Asks

pub ask_push : (bodies : List PlannedBody) (words : List ℕ) (n : ℕ)
    → ask_at (bodies ++ just_planned words ∷ []) n ≡ ask_at bodies n
ask_push [] words zero = refl
ask_push [] words (suc n) = refl
ask_push (b ∷ bs) words zero = refl
ask_push (b ∷ bs) words (suc n) = ask_push bs words n

pub ask_taken : (k : ℕ) (bodies : List PlannedBody) (n : ℕ)
    → ask_at (with_changed_body k as_taken bodies) n ≡ ask_at bodies n
ask_taken k [] n = refl
ask_taken zero (b ∷ bs) zero = refl
ask_taken zero (b ∷ bs) (suc n) = refl
ask_taken (suc k) (b ∷ bs) zero = refl
ask_taken (suc k) (b ∷ bs) (suc n) = ask_taken k bs n

pub ask_here : (k ask : ℕ) (bodies : List PlannedBody) → k < length bodies
    → ask_at (with_changed_body k (as_asked ask) bodies) k ≡ Some ask
ask_here k ask [] within = absurd (omega arith)
ask_here zero ask (b ∷ bs) within = refl
ask_here (suc k) ask (b ∷ bs) within = ask_here k ask bs (omega arith)

pub ask_other : (k ask : ℕ) (bodies : List PlannedBody) (n : ℕ) → (n ≡ k → ⊥)
    → ask_at (with_changed_body k (as_asked ask) bodies) n ≡ ask_at bodies n
ask_other k ask [] n apart = refl
ask_other zero ask (b ∷ bs) zero apart = absurd (apart refl)
ask_other zero ask (b ∷ bs) (suc n) apart = refl
ask_other (suc k) ask (b ∷ bs) zero apart = refl
ask_other (suc k) ask (b ∷ bs) (suc n) apart = ask_other k ask bs n (λ e. apart (ap suc e))

-- ---- the first one that was not taken

pub first_planned : (bodies : List PlannedBody) (asked taken : ℕ) (words : List ℕ) → IsFirstUntaken bodies asked taken
    → IsFirstUntaken (bodies ++ just_planned words ∷ []) asked taken
first_planned bodies asked taken words is = record {
  few = (let h = is.few in let longer = length-append bodies (just_planned words ∷ []) in omega (arith, h, longer));
  within = is.within;
  below = λ n less. marked_push bodies words n ∙ is.below n less;
  stops = λ less. marked_push bodies words taken ∙ is.stops less;
  later = λ n most. marked_push bodies words n ∙ is.later n most;
}

pub first_asked : (bodies : List PlannedBody) (asked taken ask : ℕ) → asked < length bodies
    → IsFirstUntaken bodies asked taken
    → IsFirstUntaken (with_changed_body asked (as_asked ask) bodies) (asked + 1) taken
first_asked bodies asked taken ask left is =
    let same = marked_kept asked (as_asked ask) (λ b. refl) bodies in
    record {
      few = (let long = length-replaced asked (as_asked ask) bodies in omega (arith, left, long));
      within = (let w = is.within in omega (arith, w));
      below = λ n less. same n ∙ is.below n less;
      stops = λ less. same taken ∙ elim (cases_lt taken asked) [
        | inl lower ↦ is.stops lower
        | inr most ↦ is.later taken most
      ];
      later = λ n most. same n ∙ is.later n (omega (arith, most));
    }

pub first_taken : (bodies : List PlannedBody) (asked taken seq after : ℕ) → seq < asked
    → IsFirstUntaken bodies asked taken → taken ≤ after → after ≤ asked
    → ((n : ℕ) → taken ≤ n → n < after → is_marked (with_changed_body seq as_taken bodies) n ≡ true)
    → (after < asked → is_marked (with_changed_body seq as_taken bodies) after ≡ false)
    → IsFirstUntaken (with_changed_body seq as_taken bodies) asked after
first_taken bodies asked taken seq after was is from within marked stops = record {
  few = (let h = is.few in let same = length-replaced seq as_taken bodies in omega (arith, h, same));
  within = within;
  below = λ n less. elim (cases_lt n taken) [
    | inl lower ↦ still_marked seq bodies n (is.below n lower)
    | inr most ↦ marked n most less
  ];
  stops = stops;
  later = λ n most. marked_other seq as_taken bodies n (λ e. omega (arith, e, most, was)) ∙ is.later n most;
}
