-- Events in their order.
use Rattle.std.proofs.Common.{◌≡◌, ◌⊎◌, inl, inr, ℕ, zero, suc, ◌+◌, ◌<◌, List, [], ◌∷◌, ◌++◌, length, take}
use Rattle.std.proofs.Common.{get_or, false, ap, sym, ◌∙◌, subst, arith}
use Rattle.std.specs.List.{All, Contains}
use Rattle.std.proofs.lemmas.List.{take_more, get_or_default}
use Rattle.std.proofs.lemmas.List.Elements.{All-contains, Contains-get_or, Contains-push, Contains-push_cases}
use Rattle.std.proofs.lemmas.List.Elements.{Contains-append_left, Contains-append_right, Contains-append_cases}
use Rattle.node_tree.specs.declared.overlapping.events.Event.{Event}
use Rattle.node_tree.specs.OverlapSearch.{Before, IsPart}
use Rattle.node_tree.proofs.CycleLemmas.{either}

pub none_there : {X : Type 0} (x : X) → Contains [] x → ⊥
none_there x (k, within, is) = omega arith

one_contained : (e x : Event) → Contains (e ∷ []) x → e ≡ x
one_contained e x (zero, within, is) = is
one_contained e x (suc k, within, is) = absurd (omega arith)

head_there : (e x : Event) (es : List Event) → e ≡ x → Contains (e ∷ es) x
head_there e x es same = (0, omega arith, same)

tail_there : (e x : Event) (es : List Event) → Contains es x → Contains (e ∷ es) x
tail_there e x es there = Contains-append_right (e ∷ []) es x there

pub before-one : (es : List Event) (x y : Event) → Before es x y → Contains es x
before-one [] x y h = absurd h
before-one (e ∷ es) x y (inl h) = head_there e x es h.0
before-one (e ∷ es) x y (inr h) = tail_there e x es (before-one es x y h)

pub before-other : (es : List Event) (x y : Event) → Before es x y → Contains es y
before-other [] x y h = absurd h
before-other (e ∷ es) x y (inl h) = tail_there e y es h.1
before-other (e ∷ es) x y (inr h) = tail_there e y es (before-other es x y h)

pub before-push : (es : List Event) (z x y : Event) → Before es x y → Before (es ++ z ∷ []) x y
before-push [] z x y h = absurd h
before-push (e ∷ es) z x y (inl h) = inl (h.0, Contains-append_left es (z ∷ []) y h.1)
before-push (e ∷ es) z x y (inr h) = inr (before-push es z x y h)

pub before-last : (es : List Event) (z x : Event) → Contains es x → Before (es ++ z ∷ []) x z
before-last [] z x there = absurd (none_there x there)
before-last (e ∷ es) z x there =
    either (Contains-append_cases (e ∷ []) es x there)
    (λ here. inl (one_contained e x here, Contains-push es z))
    (λ later. inr (before-last es z x later))

pub before-push_cases : (es : List Event) (z x y : Event) → Before (es ++ z ∷ []) x y
    → Before es x y ⊎ (Contains es x × (z ≡ y))
before-push_cases [] z x y (inl h) = absurd (none_there y h.1)
before-push_cases [] z x y (inr h) = absurd h
before-push_cases (e ∷ es) z x y (inl h) =
    either (Contains-push_cases es z y h.1) (λ there. inl (inl (h.0, there)))
    (λ same. inr (head_there e x es h.0, same))
before-push_cases (e ∷ es) z x y (inr h) =
    either (before-push_cases es z x y h) (λ before. inl (inr before))
    (λ (there, same). inr (tail_there e x es there, same))

module _ (es : List Event) (i : ℕ) (e : Event) (within : i < length es) (here : e ≡ get_or es i e) where
  pub take-is : take (i + 1) es ≡ take i es ++ e ∷ []
  take-is = take_more es i e within ∙ ap (λ x. take i es ++ x ∷ []) (sym here)

  pub take-there : (x : Event) → Contains (take i es) x → Contains (take (i + 1) es) x
  take-there x there = subst (λ xs. Contains xs x) (sym take-is) (Contains-append_left (take i es) (e ∷ []) x there)

  pub take-now : Contains (take (i + 1) es) e
  take-now = subst (λ xs. Contains xs e) (sym take-is) (Contains-push (take i es) e)

  pub take-there_cases : (x : Event) → Contains (take (i + 1) es) x → Contains (take i es) x ⊎ (e ≡ x)
  take-there_cases x there = Contains-push_cases (take i es) e x (subst (λ xs. Contains xs x) take-is there)

  pub take-before : (x y : Event) → Before (take i es) x y → Before (take (i + 1) es) x y
  take-before x y before = subst (λ xs. Before xs x y) (sym take-is) (before-push (take i es) e x y before)

  pub take-last : (x : Event) → Contains (take i es) x → Before (take (i + 1) es) x e
  take-last x there = subst (λ xs. Before xs x e) (sym take-is) (before-last (take i es) e x there)

  pub take-before_cases : (x y : Event) → Before (take (i + 1) es) x y
      → Before (take i es) x y ⊎ (Contains (take i es) x × (e ≡ y))
  take-before_cases x y before = before-push_cases (take i es) e x y (subst (λ xs. Before xs x y) take-is before)

  -- a part of the events so far, with the next one or without it
  pub part-with : (P : Event → Type 0) (some : List Event) → P e → IsPart P (take i es) some
      → IsPart P (take (i + 1) es) (some ++ e ∷ [])
  part-with P some own part = record {
    only = λ x there. either (Contains-push_cases some e x there)
        (λ before. let (in_all, holds) = part.only x before in (take-there x in_all, holds))
        (λ same. subst (λ y. Contains (take (i + 1) es) y × P y) same (take-now, own));
    each = λ x there p. either (take-there_cases x there)
        (λ before. Contains-append_left some (e ∷ []) x (part.each x before p))
        (λ same. subst (λ y. Contains (some ++ e ∷ []) y) same (Contains-push some e));
    in_order = λ x y before. either (before-push_cases some e x y before)
        (λ earlier. take-before x y (part.in_order x y earlier))
        (λ (there, same). subst (λ z. Before (take (i + 1) es) x z) same (take-last x (part.only x there).0));
    all = λ x y before p q. either (take-before_cases x y before)
        (λ earlier. before-push some e x y (part.all x y earlier p q))
        (λ (there, same). subst (λ z. Before (some ++ e ∷ []) x z) same (before-last some e x (part.each x there p)));
  }

  pub part-without : (P : Event → Type 0) (some : List Event) → (P e → ⊥) → IsPart P (take i es) some
      → IsPart P (take (i + 1) es) some
  part-without P some not_own part = record {
    only = λ x there. let (in_all, holds) = part.only x there in (take-there x in_all, holds);
    each = λ x there p. either (take-there_cases x there)
        (λ before. part.each x before p)
        (λ same. absurd (not_own (subst P (sym same) p)));
    in_order = λ x y before. take-before x y (part.in_order x y before);
    all = λ x y before p q. either (take-before_cases x y before)
        (λ earlier. part.all x y earlier p q)
        (λ (there, same). absurd (not_own (subst P (sym same) q)));
  }

-- an event that is read
pub read-event : (es : List Event) (i : ℕ) (d : Event) → i < length es → get_or es i d ≡ get_or es i (get_or es i d)
read-event es i d within = get_or_default es i d (get_or es i d) within

-- the value of an event before it is read
abbrev pub nothing : Event
nothing = record { asks = false; place = 0; first = 0; «end» = 0; mask = 0 }

pub part-none : (P : Event → Type 0) → IsPart P [] []
part-none P = record {
  only = λ x there. absurd (none_there x there);
  each = λ x there p. there;
  in_order = λ x y before. before;
  all = λ x y before p q. before;
}

-- what holds of the places of all events holds of those of a part
pub part-places : (P : Event → Type 0) (events some : List Event) (n m : ℕ) → n ≡ m → IsPart P events some
    → All (λ e. e.place < n) events → All (λ e. e.place < m) some
part-places P events some n m same part all k d less =
    let here =
    All-contains (λ e. e.place < n) events (get_or some k d) all
    (part.only (get_or some k d) (Contains-get_or some k d less)).0 in
    omega (arith, here)
