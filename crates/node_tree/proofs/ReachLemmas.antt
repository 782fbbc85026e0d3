-- The search for what a table leads to, by a list of tables whose modules were not gone through yet.
use Rattle.std.proofs.Common.{◌≡◌, ◌⊎◌, inl, inr, ℕ, suc, List, [], ◌∷◌, ◌++◌, length, false, refl, sym, ap, subst}
use Rattle.std.proofs.Common.{arith, length-append}
use Rattle.std.specs.List.{Contains}
use Rattle.std.specs.Borrow.{Bor}
use Rattle.std.specs.FinMap.{contains_key, insert, empty}
use Rattle.std.proofs.lemmas.List.Elements.{Contains-push, Contains-push_cases, Contains-append_left}
use Rattle.node_tree.specs.Maps.{Name, TableMap, nodes_of}
use Rattle.node_tree.specs.Modules.{Mentions, Reaches, direct, IsIn, HasAll}
use Rattle.node_tree.specs.CycleSearch.{NameSet, Opens, OpensAll, names_of}
use Rattle.node_tree.proofs.SetLemmas.{not_in_empty, in-kept, in-added, in-only}
use Rattle.node_tree.proofs.CycleLemmas.{either, reach-in, reach-more, missing-less}

pub names-push : (texts : List (Bor (List ℕ))) (text : Bor (List ℕ))
    → names_of (texts ++ text ∷ []) ≡ names_of texts ++ text.now ∷ []
names-push [] text = refl
names-push (t ∷ ts) text = ap (λ names. t.now ∷ names) (names-push ts text)

pub length-names : (texts : List (Bor (List ℕ))) → length (names_of texts) ≡ length texts
length-names [] = refl
length-names (t ∷ ts) = ap (λ n. suc n) (length-names ts)

pub opens-none : (set : NameSet) (names : List Name) (P : Name → Type 0) → Opens set set names names P
opens-none set names P = record {
  kept = λ m h. h;
  only = λ m h. inl h;
  opened = λ m h. inl h;
  open_kept = λ m h. h;
  open_only = λ m h. inl h;
  fewer = λ tables known. omega arith;
}

pub opens-weaker : (old new : NameSet) (before after : List Name) (P Q : Name → Type 0) → ((m : Name) → P m → Q m)
    → Opens old new before after P → Opens old new before after Q
opens-weaker old new before after P Q weaker o = record {
  kept = o.kept;
  only = λ m h. either (o.only m h) inl (λ p. inr (weaker m p));
  opened = o.opened;
  open_kept = o.open_kept;
  open_only = o.open_only;
  fewer = λ tables known. o.fewer tables (λ m p. known m (weaker m p));
}

pub opens-then : (a b c : NameSet) (xs ys zs : List Name) (P : Name → Type 0) → Opens a b xs ys P → Opens b c ys zs P
    → Opens a c xs zs P
opens-then a b c xs ys zs P o p = record {
  kept = λ m h. p.kept m (o.kept m h);
  only = λ m h. either (p.only m h) (o.only m) inr;
  opened = λ m h. either (p.opened m h) (λ old. either (o.opened m old) inl (λ there. inr (p.open_kept m there))) inr;
  open_kept = λ m h. p.open_kept m (o.open_kept m h);
  open_only =
      λ m h. either (p.open_only m h) (λ there. either (o.open_only m there) inl (λ inside. inr (p.kept m inside))) inr;
  fewer =
      λ tables known. let first =
      o.fewer tables known in let second = p.fewer tables known in omega (arith, first, second);
}

-- names that are in the set already
pub opens-same : (set : NameSet) (names : List Name) (P : Name → Type 0) → ((m : Name) → P m → IsIn set m)
    → OpensAll set set names names P
opens-same set names P inside = record { opens = opens-none set names P; added = inside }

pub opens-as : (old new : NameSet) (before after : List Name) (P Q : Name → Type 0) → ((m : Name) → P m → Q m)
    → ((m : Name) → Q m → P m) → OpensAll old new before after P → OpensAll old new before after Q
opens-as old new before after P Q there back o =
    record { opens = opens-weaker old new before after P Q there o.opens; added = λ m h. o.added m (back m h) }

-- one more name in the set and in the list
pub opens-one : (set : NameSet) (k : Name) (names : List Name) → contains_key set k ≡ false
    → OpensAll set (insert set k tt) names (names ++ k ∷ []) (λ m. k ≡ m)
opens-one set k names new = record {
  opens = record {
    kept = λ m h. in-kept set k tt m h;
    only = λ m h. either (in-only set k tt m h) inl (λ same. inr (sym same));
    opened =
        λ m h. either (in-only set k tt m h) inl
        (λ same. inr (subst (Contains (names ++ k ∷ [])) (sym same) (Contains-push names k)));
    open_kept = λ m h. Contains-append_left names (k ∷ []) m h;
    open_only =
        λ m h. either (Contains-push_cases names k m h) inl
        (λ same. inr (subst (IsIn (insert set k tt)) same (in-added set k tt)));
    fewer = λ tables known. let (t, is) = known k refl in
        let less =
        missing-less tables set (insert set k tt) k t (λ m h. in-kept set k tt m h) new (in-added set k tt) is in
        let longer = length-append names (k ∷ []) in
        omega (arith, less, longer);
  };
  added = λ m same. subst (IsIn (insert set k tt)) same (in-added set k tt);
}

-- the search on its way: each name that was reached is still in the list, or its modules were reached too
pub record Searches (tables : TableMap) (name : Name) (reached : NameSet) (pending : List Name) : Type 0 where
  pub sound : (m : Name) → IsIn reached m → Reaches tables name m
  pub seeded : HasAll reached (nodes_of tables name)
  pub gone : (a : Name) → IsIn reached a → Contains pending a ⊎ HasAll reached (nodes_of tables a)
  pub inside : (a : Name) → Contains pending a → IsIn reached a

none_contained : (m : Name) → Contains [] m → ⊥
none_contained m (k, within, is) = omega arith

pub searches-first : (tables : TableMap) (name : Name) (reached : NameSet) (pending : List Name)
    → OpensAll empty reached [] pending (Mentions (nodes_of tables name)) → Searches tables name reached pending
searches-first tables name reached pending o = record {
  sound =
      λ m h. either (o.opens.only m h) (λ old. absurd (not_in_empty (Unit {0}) m old))
      (λ mention. direct name m mention);
  seeded = o.added;
  gone = λ a h. either (o.opens.opened a h) (λ old. absurd (not_in_empty (Unit {0}) a old)) inl;
  inside = λ a h. either (o.opens.open_only a h) (λ old. absurd (none_contained a old)) (λ i. i);
}

-- the modules of one more name of the list were reached
pub searches-more : (tables : TableMap) (name : Name) (old new : NameSet) (rest : List Name) (x : Name)
    (after : List Name)
    → Searches tables name old (rest ++ x ∷ []) → OpensAll old new rest after (Mentions (nodes_of tables x))
    → Searches tables name new after
searches-more tables name old new rest x after s o = record {
  sound =
      λ m h. either (o.opens.only m h) (s.sound m)
      (λ mention. reach-more tables name x m (s.sound x (s.inside x (Contains-push rest x))) mention);
  seeded = λ m h. o.opens.kept m (s.seeded m h);
  gone = λ a h. either (o.opens.opened a h)
      (λ was. either (s.gone a was)
      (λ there. either (Contains-push_cases rest x a there) (λ still. inl (o.opens.open_kept a still))
      (λ same. inr (subst (λ n. HasAll new (nodes_of tables n)) same o.added)))
      (λ all. inr (λ m mention. o.opens.kept m (all m mention))))
      inl;
  inside =
      λ a h. either (o.opens.open_only a h)
      (λ still. o.opens.kept a (s.inside a (Contains-append_left rest (x ∷ []) a still))) (λ i. i);
}

pub searches-all : (tables : TableMap) (name : Name) (reached : NameSet) (pending : List Name) (m : Name)
    → length pending ≡ 0 → Searches tables name reached pending → Reaches tables name m → IsIn reached m
searches-all tables name reached pending m none s reach =
    reach-in tables reached name m
    (λ b h. either (s.gone b h) (λ (k, within, is). absurd (omega arith)) (λ all. all)) s.seeded reach
