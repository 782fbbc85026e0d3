-- Answers that wait to be written, and where writing them was cut short.
use Rattle.std.proofs.Common.{◌≡◌, ℕ, ◌+◌, ◌-◌, ◌<◌, ◌≤◌, List, [], ◌∷◌, ◌++◌, length, map, take, inl, inr, refl, sym}
use Rattle.std.proofs.Common.{ap, ◌∙◌, subst, arith, append-nil, append_assoc, length-append}
use Rattle.std.proofs.lemmas.List.{length-map, map-append, take-append-le}
use Rattle.std.proofs.lemmas.Grind.{flat_map-append}
use Rattle.std.proofs.Math.Seq.{take-append-add}
use Rattle.ipb_base.specs.Lists.{IsProperPrefix}
use Rattle.hub_lane.specs.declared.answers.BoardState.{BoardState}
use Rattle.hub_session.specs.declared.progress.Replies.{Replies}
use Rattle.hub_session.specs.Answers.{answer}
use Rattle.hub_session.specs.Exchanges.{Exchange, answers}
use Rattle.hub_session.specs.Inside.{AreWaiting, AreWholeIn}

abbrev size : List BoardState → Exchange → ℕ
size boards e = length (answer boards e.frame e.got)

pub answers_append : (boards : List BoardState) (es others : List Exchange)
    → answers boards (es ++ others) ≡ answers boards es ++ answers boards others
answers_append boards es others = flat_map-append (λ (e : Exchange). answer boards e.frame e.got) es others

pub waiting_count : (boards : List BoardState) (replies : Replies) (waiting : List Exchange)
    → AreWaiting boards replies waiting → length replies.lengths.items ≡ length waiting
waiting_count boards replies waiting are =
    ap (λ (l : List ℕ). length l) are.lengths_are ∙ length-map waiting (size boards)

empty : (es : List Exchange) → length es ≡ 0 → es ≡ []
empty [] e = refl
empty (x ∷ es) e = absurd (omega (arith, e))

pub none_waiting : (boards : List BoardState) (replies : Replies) (waiting : List Exchange)
    → AreWaiting boards replies waiting → replies.lengths.items ≡ [] → waiting ≡ []
none_waiting boards replies waiting are none =
    empty waiting (sym (waiting_count boards replies waiting are) ∙ ap (λ (l : List ℕ). length l) none)

pub one_more_waits : (boards : List BoardState) (before after : Replies) (waiting : List Exchange) (e : Exchange)
    → AreWaiting boards before waiting → after.bytes.items ≡ before.bytes.items ++ answer boards e.frame e.got
    → after.lengths.items ≡ before.lengths.items ++ length (answer boards e.frame e.got) ∷ []
    → AreWaiting boards after (waiting ++ e ∷ [])
one_more_waits boards before after waiting e are bytes lengths = record {
  bytes_are = bytes ∙ (ap (λ (l : List ℕ). l ++ answer boards e.frame e.got) are.bytes_are
      ∙ (ap (λ (l : List ℕ). answers boards waiting ++ l) (sym (append-nil (answer boards e.frame e.got)))
      ∙ sym (answers_append boards waiting (e ∷ []))));
  lengths_are = lengths ∙ (ap (λ (l : List ℕ). l ++ size boards e ∷ []) are.lengths_are
      ∙ sym (map-append (size boards) waiting (e ∷ [])));
}

-- ---- so many bytes of them

pub record Cut (boards : List BoardState) (es : List Exchange) (done count : ℕ) : Type 0 where
  pub whole : List Exchange
  pub next : Exchange
  pub later : List Exchange
  pub part : List ℕ
  pub all : es ≡ whole ++ next ∷ later
  pub count_is : count ≡ length whole
  pub bytes : take done (answers boards es) ≡ answers boards whole ++ part
  pub is_part : IsProperPrefix part (answer boards next.frame next.got)

-- bytes past the front
past : (front more : List ℕ) (done : ℕ) → length front ≤ done
    → take done (front ++ more) ≡ front ++ take (done - length front) more
past front more done long =
    let e : done ≡ length front + (done - length front) = omega (arith, long) in
    ap (λ n. take n (front ++ more)) e ∙ take-append-add front more (done - length front)

cut : (boards : List BoardState) (es : List Exchange) (done count : ℕ) → done < length (answers boards es)
    → AreWholeIn (map (size boards) es) done count → Cut boards es done count
cut boards [] done count below whole = absurd (omega (arith, below))
cut boards (e ∷ es) done count below (inl short) = record {
  whole = [];
  next = e;
  later = es;
  part = take done (answer boards e.frame e.got);
  all = refl;
  count_is = short.1;
  bytes = take-append-le done (answer boards e.frame e.got) (answers boards es) (omega (arith, short.0));
  is_part = (done, short.0, refl);
}
cut boards (e ∷ es) done count below (inr long) =
    let a = answer boards e.frame e.got in
    let left : done - length a < length (answers boards es) =
    omega (arith, below, long.0, length-append a (answers boards es)) in
    let c = cut boards es (done - length a) long.1 left long.3 in
    let n = long.2 in
    let m = c.count_is in record {
      whole = e ∷ c.whole;
      next = c.next;
      later = c.later;
      part = c.part;
      all = ap (λ (l : List Exchange). e ∷ l) c.all;
      count_is = omega (arith, n, m);
      bytes = past a (answers boards es) done long.0 ∙ (ap (λ (l : List ℕ). a ++ l) c.bytes
          ∙ sym (append_assoc a (answers boards c.whole) c.part));
      is_part = c.is_part;
    }

pub cut_at : (boards : List BoardState) (replies : Replies) (waiting : List Exchange) (done count : ℕ)
    → AreWaiting boards replies waiting → done < length replies.bytes.items
    → AreWholeIn replies.lengths.items done count → Cut boards waiting done count
cut_at boards replies waiting done count are below whole = cut boards waiting done count
    (subst (λ (l : List ℕ). done < length l) are.bytes_are below)
    (subst (λ (l : List ℕ). AreWholeIn l done count) are.lengths_are whole)
