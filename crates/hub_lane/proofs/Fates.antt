-- What a lane shows of each Ask is its fate in the run of its engine, call by call, and so is what came late.
use Rattle.std.proofs.Common.{◌≡◌, ◌⊎◌, ◌∙◌, inl, inr, ap, arith, refl, sym, subst, ℕ, zero, suc, ◌++◌, List, [], ◌∷◌}
use Rattle.std.proofs.Common.{Bool, true, Option, Some, None}
use Rattle.std.specs.List.{AllByRecursion, Contains, slice_get}
use Rattle.world_model.proofs.Lists.{get_front}
use Rattle.world_model.specs.declared.offered.Fate.{Fate}
use Rattle.world_model.specs.declared.offered.Fate.TheVariants as fate
use Rattle.world_model.specs.Hub.{Hub}
use Rattle.reliable_engine.specs.Events.{IsAmong}
use Rattle.reliable_engine.specs.MachineRuns.{HasLate}
use Rattle.lane_record.specs.declared.outcome.Outcome.{Outcome}
use Rattle.lane_record.specs.declared.outcome.Outcome.TheVariants.{Replied, TimedOut, Unsent, LinkLost}
use Rattle.lane_record.specs.Claims.{Claim}
use Rattle.lane_record.specs.Lates.{KeepsLates, late_in, put_lates}
use Rattle.lane_record.specs.Offers.{AddsOnly, AreOutcomes, KeepsOutcomes, Settles, all_lost, outcome_of, put, put_all}
use Rattle.lane_record.specs.Outcomes.{is_lost}
use Rattle.lane_record.proofs.Lates.{came, none_added, none_late}
use Rattle.hub_lane.specs.Fates.{AreFatesAt, AreLatesAt, IsFateAt, IsLostAt}
use Rattle.hub_lane.proofs.Joined.{Joined}
use Rattle.hub_lane.proofs.LostPlaces.{AreLostAt}
use Rattle.hub_lane.proofs.Standing.{pushed_get}

-- ---- what a call tells

-- what became of an Ask stood there, or it is one of these fates, or it was lost with the link
abbrev CameOf : List (ℕ × Fate) → List (Option Outcome) → ℕ → Outcome → Type 0
CameOf fates outcomes tag o = (slice_get outcomes tag ≡ Some (Some o))
    ⊎ ((f : Fate) × (outcome_of f ≡ o) × IsAmong (tag, f) fates)
    ⊎ ((place : Option ℕ) × (o ≡ LinkLost place))

-- from one table of a lane to the next: what stood there stays, and these fates and late answers come
pub record Told (fates : List (ℕ × Fate)) (new : List (ℕ × List ℕ)) (outcomes outcomes_now : List (Option Outcome))
    (lates lates_now : List (Option (List ℕ))) : Type 0 where
  keeps : KeepsOutcomes outcomes outcomes_now
  each_fate : (tag : ℕ) (f : Fate) → IsAmong (tag, f) fates → slice_get outcomes_now tag ≡ Some (Some (outcome_of f))
  each_outcome : (tag : ℕ) (o : Outcome) → slice_get outcomes_now tag ≡ Some (Some o) → CameOf fates outcomes tag o
  keeps_lates : KeepsLates lates lates_now
  kept : (place : ℕ) (words : List ℕ) → HasLate place words new → late_in lates_now place ≡ Some words
  late : (place : ℕ) (words : List ℕ) → late_in lates_now place ≡ Some words
      → (late_in lates place ≡ Some words) ⊎ HasLate place words new

told_here : (outcomes : List (Option Outcome)) (lates : List (Option (List ℕ)))
    → Told [] [] outcomes outcomes lates lates
told_here outcomes lates = record {
  keeps = λ tag o there. there;
  each_fate = λ tag f is. absurd is;
  each_outcome = λ tag o there. inl there;
  keeps_lates = λ place words there. there;
  kept = λ place words is. absurd is;
  late = λ place words there. inl there;
}

-- nothing came
pub told_none : {fates : List (ℕ × Fate)} {new : List (ℕ × List ℕ)} {outcomes outcomes_now : List (Option Outcome)}
    {lates lates_now : List (Option (List ℕ))} → fates ≡ [] → new ≡ [] → outcomes_now ≡ outcomes → lates_now ≡ lates
    → Told fates new outcomes outcomes_now lates lates_now
told_none {outcomes = outcomes} {lates = lates} no_fates no_lates same same_lates =
    rw (no_fates, no_lates, same, same_lates) (told_here outcomes lates)

-- the link failed
lost_is : (o : Outcome) → is_lost o ≡ true → (place : Option ℕ) × (o ≡ LinkLost place)
lost_is (Replied place words) is = absurd cc
lost_is (TimedOut place rounds) is = absurd cc
lost_is Unsent is = absurd cc
lost_is (LinkLost place) is = (place, refl)

told_lost_here : (outcomes lost : List (Option Outcome)) (lates : List (Option (List ℕ))) → KeepsOutcomes outcomes lost
    → AddsOnly is_lost outcomes lost → Told [] [] outcomes lost lates lates
told_lost_here outcomes lost lates keeps adds = record {
  keeps = keeps;
  each_fate = λ tag f is. absurd is;
  each_outcome = λ tag o there. elim (adds tag o there) [
    | inl old ↦ inl old
    | inr is ↦ inr (inr (lost_is o is))
  ];
  keeps_lates = λ place words there. there;
  kept = λ place words is. absurd is;
  late = λ place words there. inl there;
}

pub told_lost : ((sent : ℕ) (outs : List (Option Outcome)) → KeepsOutcomes outs (all_lost sent outs))
    → ((sent : ℕ) (outs : List (Option Outcome)) → AddsOnly is_lost outs (all_lost sent outs)) → (sent : ℕ)
    {fates : List (ℕ × Fate)} {new : List (ℕ × List ℕ)} {outcomes before outcomes_now : List (Option Outcome)}
    {lates lates_now : List (Option (List ℕ))} → fates ≡ [] → new ≡ [] → before ≡ outcomes
    → outcomes_now ≡ all_lost sent before → lates_now ≡ lates → Told fates new outcomes outcomes_now lates lates_now
told_lost keeps adds sent {outcomes = outcomes} {lates = lates} no_fates no_lates same lost same_lates =
    rw (no_fates, no_lates, lost ∙ ap (all_lost sent) same, same_lates)
    (told_lost_here outcomes (all_lost sent outcomes) lates (keeps sent outcomes) (adds sent outcomes))

-- one more Ask, which nothing became of so far, or which was lost with the link
abbrev pub IsNoneOrLost : Option Outcome → Type 0
IsNoneOrLost new = (o : Outcome) → new ≡ Some o → (place : Option ℕ) × (o ≡ LinkLost place)

pub none_yet : IsNoneOrLost None
none_yet o is = absurd cc

pub lost_unsent : IsNoneOrLost (Some (LinkLost None))
lost_unsent o is = (None, (let same : LinkLost None ≡ o = cc in sym same))

told_pushed : (new : Option Outcome) (outcomes : List (Option Outcome)) (lates : List (Option (List ℕ)))
    → IsNoneOrLost new → Told [] [] outcomes (outcomes ++ new ∷ []) lates (lates ++ None ∷ [])
told_pushed new outcomes lates lost = record {
  keeps = λ tag o there. get_front outcomes (new ∷ []) tag (Some o) there;
  each_fate = λ tag f is. absurd is;
  each_outcome = λ tag o there. elim (pushed_get outcomes new tag o there) [
    | inl last ↦ inr (inr (lost o last))
    | inr old ↦ inl old
  ];
  keeps_lates = λ place words there. none_added lates place ∙ there;
  kept = λ place words is. absurd is;
  late = λ place words there. inl (sym (none_added lates place) ∙ there);
}

pub told_asked : (new : Option Outcome) {fates : List (ℕ × Fate)} {late : List (ℕ × List ℕ)}
    {outcomes outcomes_now : List (Option Outcome)} {lates lates_now : List (Option (List ℕ))} → IsNoneOrLost new
    → fates ≡ [] → late ≡ [] → outcomes_now ≡ outcomes ++ new ∷ [] → lates_now ≡ lates ++ None ∷ []
    → Told fates late outcomes outcomes_now lates lates_now
told_asked new {outcomes = outcomes} {lates = lates} lost no_fates no_lates more more_lates =
    rw (no_fates, no_lates, more, more_lates) (told_pushed new outcomes lates lost)

-- ---- an event, after which the hub hands out what it has

put_or : (k : ℕ) (o : Outcome) (outcomes : List (Option Outcome)) (tag : ℕ) (x : Outcome)
    → slice_get (put k o outcomes) tag ≡ Some (Some x)
    → (slice_get outcomes tag ≡ Some (Some x)) ⊎ ((tag ≡ k) × (o ≡ x))
put_or zero o [] tag x there = inl there
put_or (suc k) o [] tag x there = inl there
put_or zero o (y ∷ outcomes) zero x there = inr (refl, cc)
put_or zero o (y ∷ outcomes) (suc tag) x there = inl there
put_or (suc k) o (y ∷ outcomes) zero x there = inl there
put_or (suc k) o (y ∷ outcomes) (suc tag) x there = elim (put_or k o outcomes tag x there) [
  | inl old ↦ inl old
  | inr new ↦ inr (ap suc new.0, new.1)
]

put_all_or : (fates : List (ℕ × Fate)) (outcomes : List (Option Outcome)) (tag : ℕ) (o : Outcome)
    → slice_get (put_all fates outcomes) tag ≡ Some (Some o)
    → (slice_get outcomes tag ≡ Some (Some o)) ⊎ ((f : Fate) × (outcome_of f ≡ o) × IsAmong (tag, f) fates)
put_all_or [] outcomes tag o there = inl there
put_all_or (x ∷ fates) outcomes tag o there =
    elim (put_all_or fates (put x.0 (outcome_of x.1) outcomes) tag o there) [
      | inl put ↦ elim (put_or x.0 (outcome_of x.1) outcomes tag o put) [
        | inl old ↦ inl old
        | inr new ↦ inr (x.1, new.1, inl (ap (λ (n : ℕ). (n, x.1)) new.0))
      ]
      | inr later ↦ inr (later.0, later.1, inr later.2)
    ]

all_among : (P : ℕ × Fate → Type 0) (fates : List (ℕ × Fate)) (f : ℕ × Fate) → AllByRecursion P fates
    → IsAmong f fates → P f
all_among P [] f all is = absurd is
all_among P (x ∷ fates) f all (inl same) = subst P (sym same) all.0
all_among P (x ∷ fates) f all (inr later) = all_among P fates f all.1 later

late_contains : (lates : List (ℕ × List ℕ)) (place : ℕ) (words : List ℕ) → HasLate place words lates
    → Contains lates (place, words)
late_contains [] place words is = absurd is
late_contains (x ∷ lates) place words (inl same) = (0, omega arith, sym same)
late_contains (x ∷ lates) place words (inr later) =
    let at = late_contains lates place words later in
    (suc at.0, (let few = at.1 in omega (arith, few)), at.2)

contains_late : (lates : List (ℕ × List ℕ)) (place : ℕ) (words : List ℕ) → Contains lates (place, words)
    → HasLate place words lates
contains_late [] place words (k, few, is) = absurd (omega (arith, few))
contains_late (x ∷ lates) place words (zero, few, is) = inl (sym is)
contains_late (x ∷ lates) place words (suc k, few, is) =
    inr (contains_late lates place words (k, omega (arith, few), is))

told_settled_here : (event : Hub) (claims : List Claim) (outcomes : List (Option Outcome))
    (lates : List (Option (List ℕ))) (kind : Outcome → Bool) (most : ℕ) → Settles event claims outcomes kind most
    → KeepsLates lates (put_lates event.lates lates)
    → ((place : ℕ) (words : List ℕ) → Contains event.lates (place, words)
    → late_in (put_lates event.lates lates) place ≡ Some words)
    → Told event.fates event.lates outcomes (put_all event.fates outcomes) lates (put_lates event.lates lates)
told_settled_here event claims outcomes lates kind most settles keeps there = record {
  keeps = settles.keeps;
  each_fate = λ tag f is. all_among
      (λ (x : ℕ × Fate). slice_get (put_all event.fates outcomes) x.0 ≡ Some (Some (outcome_of x.1))) event.fates
      (tag, f) settles.told is;
  each_outcome = λ tag o is. elim (put_all_or event.fates outcomes tag o is) [
    | inl old ↦ inl old
    | inr new ↦ inr (inl new)
  ];
  keeps_lates = keeps;
  kept = λ place words is. there place words (late_contains event.lates place words is);
  late = λ place words is. elim (came event.lates lates place words is) [
    | inl new ↦ inr (contains_late event.lates place words new)
    | inr old ↦ inl old
  ];
}

pub told_settled : (event : Hub) (claims : List Claim) {outcomes outcomes_now : List (Option Outcome)}
    {lates lates_now : List (Option (List ℕ))} (kind : Outcome → Bool) (most : ℕ)
    → Settles event claims outcomes kind most → KeepsLates lates (put_lates event.lates lates)
    → ((place : ℕ) (words : List ℕ) → Contains event.lates (place, words)
    → late_in (put_lates event.lates lates) place ≡ Some words)
    → outcomes_now ≡ put_all event.fates outcomes → lates_now ≡ put_lates event.lates lates
    → Told event.fates event.lates outcomes outcomes_now lates lates_now
told_settled event claims {outcomes = outcomes} {lates = lates} kind most settles keeps there outcomes_are lates_are =
    rw (outcomes_are, lates_are) (told_settled_here event claims outcomes lates kind most settles keeps there)

-- ---- the fates of a run

fate_at : (end : Hub) (tag : ℕ) (f : Fate) → IsAmong (tag, f) end.fates → IsFateAt end tag (outcome_of f)
fate_at end tag (fate.Replied place words) is = is
fate_at end tag (fate.TimedOut place rounds) is = is
fate_at end tag fate.Unsent is = is

fate_stays : (old end : Hub) (tag : ℕ) (o : Outcome)
    → ((f : Fate) → IsAmong (tag, f) old.fates → IsAmong (tag, f) end.fates)
    → ((place : Option ℕ) → o ≡ LinkLost place → IsLostAt end.sent tag place) → IsFateAt old tag o → IsFateAt end tag o
fate_stays old end tag (Replied place words) stays lost is = stays (fate.Replied place words) is
fate_stays old end tag (TimedOut place rounds) stays lost is = stays (fate.TimedOut place rounds) is
fate_stays old end tag Unsent stays lost is = stays fate.Unsent is
fate_stays old end tag (LinkLost place) stays lost is = lost place refl

module _ {fates : List (ℕ × Fate)} {new : List (ℕ × List ℕ)} {outcomes outcomes_now : List (Option Outcome)}
    {lates lates_now : List (Option (List ℕ))} (told : Told fates new outcomes outcomes_now lates lates_now)
    (old end : Hub) (joined : Joined old end fates new) where
  pub fates_now : AreLostAt end.sent outcomes_now → AreFatesAt old outcomes → AreFatesAt end outcomes_now
  fates_now lost are = record {
    each_fate = λ tag f is. elim ((joined.fates_are tag f).0 is) [
      | inl before ↦ told.keeps tag (outcome_of f) (are.each_fate tag f before)
      | inr comes ↦ told.each_fate tag f comes
    ];
    each_outcome = λ tag o there.
        let lost_here : (place : Option ℕ) → o ≡ LinkLost place → IsLostAt end.sent tag place =
        λ place is. lost tag place (there ∙ ap (λ (x : Outcome). Some (Some x)) is) in
        elim (told.each_outcome tag o there) [
          | inl before ↦ fate_stays old end tag o (λ f is. (joined.fates_are tag f).1 (inl is)) lost_here
              (are.each_outcome tag o before)
          | inr comes ↦ elim comes [
            | inl settled ↦ subst (IsFateAt end tag) settled.1
                (fate_at end tag settled.0 ((joined.fates_are tag settled.0).1 (inr settled.2)))
            | inr gone ↦ subst (IsFateAt end tag) (sym gone.1) (lost_here gone.0 gone.1)
          ]
        ];
  }

  pub lates_now_are : AreLatesAt old lates → AreLatesAt end lates_now
  lates_now_are are = record {
    came = λ place words there. elim (told.late place words there) [
      | inl before ↦ (joined.lates_are place words).1 (inl (are.came place words before))
      | inr comes ↦ (joined.lates_are place words).1 (inr comes)
    ];
    kept = λ place words is. elim ((joined.lates_are place words).0 is) [
      | inl before ↦ told.keeps_lates place words (are.kept place words before)
      | inr comes ↦ told.kept place words comes
    ];
  }

-- before the first Ask
pub no_fates : (end : Hub) → end.fates ≡ [] → AreFatesAt end []
no_fates end none = record {
  each_fate = λ tag f is. absurd (subst (IsAmong (tag, f)) none is);
  each_outcome = λ tag o there. absurd cc;
}

pub no_lates : (end : Hub) → end.lates ≡ [] → AreLatesAt end []
no_lates end none = record {
  came = λ place words there. absurd (let h : None ≡ Some words = sym (none_late place) ∙ there in cc);
  kept = λ place words is. absurd (subst (HasLate place words) none is);
}
