-- Each place that a hub sent is open, or its reply was taken.
use Rattle.std.proofs.Common.{◌≡◌, ◌⊎◌, ℕ, zero, suc, ◌≤◌, true, cond, List, [], ◌∷◌, length, Some, inl, inr}
use Rattle.std.proofs.Common.{refl, ap, ◌∙◌, arith}
use Rattle.std.proofs.lemmas.Bool.Decides.{eqb_tells, nat_tests}
use Rattle.world_model.specs.declared.offered.Fate.{Fate}
use Rattle.world_model.specs.declared.offered.Fate.TheVariants.{Replied, TimedOut, Unsent}
use Rattle.world_model.specs.Hub.{HandedOut, Hub, hands_out, places}
use Rattle.world_model.specs.Facts.{has}
use Rattle.world_model.specs.History.{times}
use Rattle.world_model.specs.LateAnswers.{AreOfTimedOut, is_sent_place, late_places, replied_places}
use Rattle.world_model.specs.Answered.{AreAllAnswered, HasLateAnswer, HasReply}

some_or_none : (n : ℕ) → (n ≡ 0) ⊎ (1 ≤ n)
some_or_none zero = inl refl
some_or_none (suc n) = inr (omega arith)

-- what stands there at least once stands at some number

there : (place : ℕ) (ps : List ℕ) → 1 ≤ times place ps → has place ps ≡ true
there place [] some = absurd (omega (arith, some))
there place (p ∷ ps) some = elim (eqb_tells p place) [
  | inl same ↦ rw same.0 refl
  | inr other ↦ rw other.0 (there place ps (let more = rw other.0 at some in omega (arith, more)))
]

reply_later : (f : ℕ × Fate) (fates : List (ℕ × Fate)) (place : ℕ) → HasReply fates place → HasReply (f ∷ fates) place
reply_later f fates place is =
    record { tag = is.tag; words = is.words; number = suc is.number; there = is.there }

reply_there : (place : ℕ) (fates : List (ℕ × Fate)) → 1 ≤ times place (replied_places fates) → HasReply fates place
reply_there place [] some = absurd (omega (arith, some))
reply_there place ((tag, Replied other words) ∷ fates) some = elim (eqb_tells other place) [
  | inl same ↦ record {
    tag = tag;
    words = words;
    number = 0;
    there = ap (λ (p : ℕ). Some (tag, Replied p words)) same.1;
  }
  | inr apart ↦ (let more = rw apart.0 at some in
      reply_later (tag, Replied other words) fates place (reply_there place fates (omega (arith, more))))
]
reply_there place ((tag, TimedOut other rounds) ∷ fates) some =
    reply_later (tag, TimedOut other rounds) fates place (reply_there place fates some)
reply_there place ((tag, Unsent) ∷ fates) some = reply_later (tag, Unsent) fates place (reply_there place fates some)

late_there : (place : ℕ) (lates : List (ℕ × List ℕ)) → 1 ≤ times place (late_places lates) → HasLateAnswer lates place
late_there place [] some = absurd (omega (arith, some))
late_there place ((other, words) ∷ lates) some = elim (eqb_tells other place) [
  | inl same ↦ record { words = words; number = 0; there = ap (λ (p : ℕ). Some (p, words)) same.1 }
  | inr apart ↦ (let more = rw apart.0 at some in
      let later = late_there place lates (omega (arith, more)) in
      record { words = later.words; number = suc later.number; there = later.there })
]

sent_once : (sent place : ℕ) → 1 ≤ place → place ≤ sent → cond (is_sent_place sent place) 1 0 ≡ suc zero
sent_once sent place from_one up_to_last = grind (arith, nat_tests)

pub all_answered : (before : HandedOut) (hub : Hub) → AreOfTimedOut before hub → AreAllAnswered before hub
all_answered before hub is = record {
  each = λ place from_one up_to_last.
      let out = hands_out before hub in
      let once = is.each_place place ∙ sent_once (length hub.sent) place from_one up_to_last in
      elim (some_or_none (times place (places hub.open_places))) [
        | inl none ↦ elim (some_or_none (times place (replied_places out.fates))) [
          | inl none_replied ↦ inr (inr (late_there place out.lates (omega (arith, once, none, none_replied))))
          | inr some ↦ inr (inl (reply_there place out.fates some))
        ]
        | inr some ↦ inl (there place (places hub.open_places) some)
      ];
}
