-- Fates and late answers of runs, one behind the other, where those of the first were handed out in between.
use Rattle.std.proofs.Common.{◌≡◌, ◌⊎◌, ◌∙◌, inl, inr, ap, sym, subst, ℕ, List, [], ◌∷◌}
use Rattle.std.specs.Prelude.{◌↔◌}
use Rattle.world_model.specs.declared.offered.Fate.{Fate}
use Rattle.world_model.specs.Hub.{Hub, IsDrained, after_handing_out}
use Rattle.reliable_engine.specs.Events.{IsAmong}
use Rattle.reliable_engine.specs.MachineRuns.{HasLate, RunEvent, run_event, run_events}
use Rattle.hub_lane.specs.RunLaws.{HandingOutLaws}

-- a hub that has handed out all is the one that hands out nothing
drained_is : (h : Hub) → IsDrained h → after_handing_out h ≡ h
drained_is h is =
    ap (λ (fs : List (ℕ × Fate)). record h { fates = fs; lates = [] }) (sym is.fates)
    ∙ ap (λ (ls : List (ℕ × List ℕ)). record h { lates = ls }) (sym is.lates)

-- what waits at the end of a run waited at its beginning, or comes in the run of the hub that handed that out
module _ (laws : HandingOutLaws) (P : Hub → Type 0) (none : (h : Hub) → P (after_handing_out h) → ⊥)
    (one : (h : Hub) (event : RunEvent) → P (run_event h event) ↔ (P h ⊎ P (run_event (after_handing_out h) event)))
  where
    joins : (events : List RunEvent) (h : Hub)
        → P (run_events h events) ↔ (P h ⊎ P (run_events (after_handing_out h) events))
    joins [] h = (λ is. inl is, λ is. elim is [ inl old ↦ old | inr new ↦ absurd (none h new) ])
    joins (event ∷ events) h =
        let drained = run_event (after_handing_out h) event in
        let same : after_handing_out drained ≡ after_handing_out (run_event h event) = laws.same h event in
        let first = one h event in
        let here = joins events (run_event h event) in
        let there = joins events drained in (
          λ is. elim (here.0 is) [
            | inl early ↦ elim (first.0 early) [
              | inl old ↦ inl old
              | inr new ↦ inr (there.1 (inl new))
            ]
            | inr late ↦ inr (there.1 (inr (subst (λ (x : Hub). P (run_events x events)) (sym same) late)))
          ],
          λ is. elim is [
            | inl old ↦ here.1 (inl (first.1 (inl old)))
            | inr new ↦ elim (there.0 new) [
              | inl early ↦ here.1 (inl (first.1 (inr early)))
              | inr late ↦ here.1 (inr (subst (λ (x : Hub). P (run_events x events)) same late))
            ]
          ],
        )

    -- and where that hub stands by itself
    joins_after : (first drained : Hub) → after_handing_out first ≡ after_handing_out drained → IsDrained drained
        → (events : List RunEvent) → P (run_events first events) ↔ (P first ⊎ P (run_events drained events))
    joins_after first drained alike is events =
        subst (λ (x : Hub). P (run_events first events) ↔ (P first ⊎ P (run_events x events)))
        (alike ∙ drained_is drained is) (joins events first)

-- at the end are those that were there, and these
pub record Joined (old end : Hub) (fates : List (ℕ × Fate)) (lates : List (ℕ × List ℕ)) : Type 0 where
  pub fates_are : (tag : ℕ) (fate : Fate)
      → IsAmong (tag, fate) end.fates ↔ (IsAmong (tag, fate) old.fates ⊎ IsAmong (tag, fate) fates)
  pub lates_are : (place : ℕ) (words : List ℕ)
      → HasLate place words end.lates ↔ (HasLate place words old.lates ⊎ HasLate place words lates)

pub joined_none : (h : Hub) → Joined h h [] []
joined_none h = record {
  fates_are = λ tag fate. (λ is. inl is, λ is. elim is [ inl old ↦ old | inr new ↦ absurd new ]);
  lates_are = λ place words. (λ is. inl is, λ is. elim is [ inl old ↦ old | inr new ↦ absurd new ]);
}

pub joined : HandingOutLaws → (first drained last end : Hub) → after_handing_out first ≡ after_handing_out drained
    → IsDrained drained → (events : List RunEvent) → run_events drained events ≡ last → end ≡ run_events first events
    → Joined first end last.fates last.lates
joined laws first drained last end alike is events last_is end_is =
    subst (λ (x : Hub). Joined first x last.fates last.lates) (sym end_is)
    (subst (λ (x : Hub). Joined first (run_events first events) x.fates x.lates) last_is (record {
      fates_are = λ tag fate. joins_after laws (λ (h : Hub). IsAmong (tag, fate) h.fates) (λ h is. is)
          (λ h event. laws.fates h event tag fate) first drained alike is events;
      lates_are = λ place words. joins_after laws (λ (h : Hub). HasLate place words h.lates) (λ h is. is)
          (λ h event. laws.lates h event place words) first drained alike is events;
    }))
