-- Lemmas on the Asks of a record: each client and number stands once among them.
use Rattle.std.proofs.Common.{◌≡◌, ℕ, zero, suc, ◌<◌, true, List, [], ◌∷◌, ◌++◌, length, Some, None}
use Rattle.std.proofs.Common.{refl, sym, ap, ◌∙◌, subst, arith, length-append, append_assoc, inl, inr, ◌⊎◌}
use Rattle.std.proofs.lemmas.List.{append-nil}
use Rattle.std.specs.Prelude.{is_some}
use Rattle.std.specs.List.{slice_get}
use Rattle.std.specs.Option.{unwrap_or}
use Rattle.world_model.proofs.Lists.{get_front}
use Rattle.lane_record.specs.declared.item.Item.{Item}
use Rattle.lane_record.specs.Items.{numbers, told_by_first, plan_in, ask_in, asked_count}
use Rattle.lane_record.specs.Claims.{Claim, claims, claims_behind, claim_in, IsAskOf}
use Rattle.lane_record.proofs.Lookups.{Count, IsNext, count_front, count_last, numbers_append, claims_front, own_number}

-- ---- a list and one more

pub get_split : {A : Type 0} (xs : List A) (y : A) (k : ℕ) (x : A) → slice_get (xs ++ y ∷ []) k ≡ Some x
    → (slice_get xs k ≡ Some x) ⊎ ((k ≡ length xs) × (x ≡ y))
get_split [] y zero x e = inr (refl, cc)
get_split [] y (suc k) x e = absurd (cc)
get_split (z ∷ xs) y zero x e = inl e
get_split (z ∷ xs) y (suc k) x e = elim (get_split xs y k x e) [ inl h ↦ inl h | inr h ↦ inr (ap suc h.0, h.1) ]

-- the Ask of a front is that of the whole
pub ask_front : (xs ys : List Item) (k client seq : ℕ) (claim : Claim) → IsAskOf xs k client seq claim
    → IsAskOf (xs ++ ys) k client seq claim
ask_front xs ys k client seq claim is = record {
  there = subst (λ (l : List Claim). slice_get l k ≡ Some claim) (sym (claims_front xs ys))
      (get_front (claims xs) (claims_behind xs ys) k claim is.there);
  same_client = is.same_client;
  same_seq = is.same_seq;
}

-- ---- each is there once

-- the Asks among these claims have numbers that their clients have asked in this front, each pair once
pub record AreApart (front : List Item) (cs : List Claim) : Type 0 where
  pub below : (k : ℕ) (c : Claim) → slice_get cs k ≡ Some c → c.seq < asked_count c.client front
  pub apart : (j k : ℕ) (c d : Claim) → slice_get cs j ≡ Some c → slice_get cs k ≡ Some d → c.client ≡ d.client
      → c.seq ≡ d.seq → j ≡ k

asked_more : (front : List Item) (x : Item) (client seq : ℕ) → seq < asked_count client front
    → seq < asked_count client (front ++ x ∷ [])
asked_more front x client seq lt =
    let e = ap length (numbers_append ask_in client front (x ∷ []))
    ∙ length-append (numbers ask_in client front) (numbers ask_in client (x ∷ [])) in
    omega (arith, lt, e)

apart_other : (front : List Item) (x : Item) (cs : List Claim) → AreApart front cs
    → AreApart (front ++ x ∷ []) (cs ++ [])
apart_other front x cs is = rw (append-nil cs) (record {
  below = λ k c e. asked_more front x c.client c.seq
      (is.below k c e);
  apart = is.apart;
})

abbrev pub new_claim : List Item → Item → ℕ → Claim
new_claim front x g = record {
  client = x.client;
  seq = x.seq;
  give_ups = g;
  body = unwrap_or
      (told_by_first plan_in x.client x.seq front) [];
}

clash : (front : List Item) (x : Item) (a b : ℕ) → a < asked_count x.client front → a ≡ b → b ≡ x.seq
    → x.seq ≡ asked_count x.client front → ⊥
clash front x a b lt e f g = omega (arith, lt, e, f, g)

apart_new : (front : List Item) (x : Item) (cs : List Claim) (new : Claim) → new.client ≡ x.client → new.seq ≡ x.seq
    → x.seq ≡ asked_count x.client front → x.seq < asked_count x.client (front ++ x ∷ [])
    → AreApart front cs → AreApart (front ++ x ∷ []) (cs ++ new ∷ [])
apart_new front x cs new same_client same_seq next one is =
    let below_old = λ (k : ℕ) (c : Claim) (h : slice_get cs k ≡ Some c) (p : c.client ≡ new.client)
    (q : c.seq ≡ new.seq).
    clash front x c.seq new.seq (subst (λ (z : ℕ). c.seq < asked_count z front) (p ∙ same_client) (is.below k c h)) q
    same_seq next in
    record {
      below = λ k c e. elim (get_split cs new k c e) [
        | inl h ↦ asked_more front x c.client c.seq (is.below k c h)
        | inr h ↦ subst (λ (d : Claim). d.seq < asked_count d.client (front ++ x ∷ [])) (sym h.1)
            (rw (same_client, same_seq) one)
      ];
      apart = λ j k c d e f p q. elim (get_split cs new j c e) [
        | inl h ↦ elim (get_split cs new k d f) [
          | inl i ↦ is.apart j k c d h i p q
          | inr i ↦ absurd (below_old j c h (p ∙ ap (λ (z : Claim). z.client) i.1) (q ∙ ap (λ (z : Claim). z.seq) i.1))
        ]
        | inr h ↦ elim (get_split cs new k d f) [
          | inl i ↦ absurd (below_old k d i (sym p ∙ ap (λ (z : Claim). z.client) h.1)
              (sym q ∙ ap (λ (z : Claim). z.seq) h.1))
          | inr i ↦ h.0 ∙ sym i.0
        ]
      ];
    }

one_more_asked : (front : List Item) (x : Item) → is_some (ask_in x.what) ≡ true → x.seq ≡ asked_count x.client front
    → x.seq < asked_count x.client (front ++ x ∷ [])
one_more_asked front x some next =
    let e = ap length (numbers_append ask_in x.client front (x ∷ [])
    ∙ ap (λ (l : List ℕ). numbers ask_in x.client front ++ l) (own_number ask_in x some))
    ∙ length-append (numbers ask_in x.client front) (x.seq ∷ []) in
    omega (arith, e, next)

-- one more entry whose number is next
apart_push : (front : List Item) (x : Item) (cs : List Claim) → Count ask_in (front ++ x ∷ []) → AreApart front cs
    → AreApart (front ++ x ∷ []) (cs ++ claim_in front x (ask_in x.what))
apart_push front x cs count is =
    let next : IsNext ask_in front x = count_last ask_in front x count in
    elim (ask_in x.what) as (λ o. ask_in x.what ≡ o → AreApart (front ++ x ∷ []) (cs ++ claim_in front x o)) [
      | None ↦ λ e. apart_other front x cs is
      | Some g ↦ λ e.
          let some : is_some (ask_in x.what) ≡ true = ap is_some e in
          let n = next some in
          apart_new front x cs (new_claim front x g) refl refl n (one_more_asked front x some n) is
    ] refl

apart_from : (front items : List Item) (cs : List Claim) → Count ask_in (front ++ items) → AreApart front cs
    → AreApart (front ++ items) (cs ++ claims_behind front items)
apart_from front [] cs count is = rw (append-nil front, append-nil cs) is
apart_from front (x ∷ items) cs count is =
    let whole : Count ask_in ((front ++ x ∷ []) ++ items) = subst (Count ask_in)
    (sym (append_assoc front (x ∷ []) items)) count in
    let one = apart_push front x cs (count_front ask_in (front ++ x ∷ []) items whole) is in
    let all = apart_from (front ++ x ∷ []) items (cs ++ claim_in front x (ask_in x.what)) whole one in
    subst (λ (l : List Item). AreApart l (cs ++ (claim_in front x (ask_in x.what) ++ claims_behind
    (front ++ x ∷ []) items))) (append_assoc front (x ∷ []) items)
    (subst (λ (l : List Claim). AreApart ((front ++ x ∷ []) ++ items) l)
    (append_assoc cs (claim_in front x (ask_in x.what)) (claims_behind (front ++ x ∷ []) items)) all)

pub apart : (items : List Item) → Count ask_in items → AreApart items (claims items)
apart items count = apart_from [] items [] count (record {
  below = λ k c e. absurd
      (cc);
  apart = λ j k c d e f. absurd (cc);
})

pub one_ask : (items : List Item) (j k client seq : ℕ) (c d : Claim) → Count ask_in items
    → IsAskOf items j client seq c → IsAskOf items k client seq d → j ≡ k
one_ask items j k client seq c d count is js =
    (apart items count).apart j k c d is.there js.there (is.same_client ∙ sym js.same_client)
    (is.same_seq ∙ sym js.same_seq)
