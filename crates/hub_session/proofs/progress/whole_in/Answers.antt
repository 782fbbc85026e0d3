use Rattle.std.proofs.Common.{◌≡◌, ◌<◌, ◌≤◌, ◌+◌, ◌-◌, ℕ, List, ◌∷◌, length, drop, slice_index_or, inl, inr, refl, sym}
use Rattle.std.proofs.Common.{◌∙◌, subst, arith, drop-cons, add-one}
use Rattle.std.proofs.lemmas.List.{drop_all}
use Rattle.hub_session.specs.Inside.{AreWholeIn}
use Rattle.hub_session.proofs.progress.whole_in.Goals as goal

at_front : (lengths : List ℕ) (whole : ℕ) → whole < length lengths
    → drop whole lengths ≡ slice_index_or lengths whole 0 ∷ drop (whole + 1) lengths
at_front lengths whole within = drop-cons lengths whole 0 within ∙ rw add-one refl

one_more : (lengths : List ℕ) (whole rest more : ℕ) → whole < length lengths
    → slice_index_or lengths whole 0 ≤ rest
    → AreWholeIn (drop (whole + 1) lengths) (rest - slice_index_or lengths whole 0) more
    → AreWholeIn (drop whole lengths) rest (more + 1)
one_more lengths whole rest more within fits are =
    subst (λ (l : List ℕ). AreWholeIn l rest (more + 1)) (sym (at_front lengths whole within))
    (inr (fits, more, refl, are))

none_more : (lengths : List ℕ) (whole rest count : ℕ)
    → ((more : ℕ) → AreWholeIn (drop whole lengths) rest more → AreWholeIn lengths count (whole + more))
    → AreWholeIn (drop whole lengths) rest 0 → AreWholeIn lengths count whole
none_more lengths whole rest count on none =
    let e : whole + 0 ≡ whole = omega arith in subst (AreWholeIn lengths count) e (on 0 none)

pub counting-preserved : goal.counting-preserved
counting-preserved c = record {
  within = omega (arith, c.counting-test.true);
  so_far = λ more are.
      let e : c.counting.whole + (more + 1) ≡ c.counting.whole + 1 + more = omega arith in
      subst (AreWholeIn c.args.lengths.now c.args.count) e
      (c.counting.invariant.so_far (more + 1) (one_more c.args.lengths.now c.counting.whole c.counting.rest more
      (omega (arith, c.counting-test.true)) (omega (arith, c.if-lengths-whole.true)) are));
}

pub returns-else-lengths-whole : goal.returns-else-lengths-whole
returns-else-lengths-whole c =
    none_more c.args.lengths.now c.counting.whole c.counting.rest c.args.count c.counting.invariant.so_far
    (subst (λ (l : List ℕ). AreWholeIn l c.counting.rest 0)
    (sym (at_front c.args.lengths.now c.counting.whole (omega (arith, c.counting-test.true))))
    (inl (omega (arith, c.if-lengths-whole.false), refl)))

pub returns-after-counting : goal.returns-after-counting
returns-after-counting c =
    none_more c.args.lengths.now c.counting.whole c.counting.rest c.args.count c.counting.invariant.so_far
    (subst (λ (l : List ℕ). AreWholeIn l c.counting.rest 0)
    (sym (drop_all c.counting.whole c.args.lengths.now (omega (arith, c.counting-test.false)))) refl)
