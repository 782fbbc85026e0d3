use Rattle.std.proofs.Common.{◌≡◌, ℕ, List, [], ◌∷◌, inl, inr, ap, subst, arith}
use Rattle.std.specs.Prelude.{sum}
use Rattle.world_model.specs.declared.offered.Fate.{Fate}
use Rattle.world_model.specs.declared.offered.Fate.TheVariants.{Replied, TimedOut, Unsent}
use Rattle.world_model.specs.Hub.{new_hub}
use Rattle.reliable_engine.specs.Events.{IsAmong}
use Rattle.reliable_engine.specs.Examples.{two_bodies_settled}
use Rattle.reliable_engine.specs.MachineRuns.{IsFreshRun, offers_in}
use Rattle.reliable_engine.proofs.MachineRuns.{begins_at_work, stands_short}
use Rattle.reliable_engine.proofs.RunFates.{each_is_there}
use Rattle.reliable_engine.proofs.laws.machine_runs.wrong_runs_are_refused.Goals as goal

-- the sum of the words of a reply
abbrev words_in : ℕ × Fate → ℕ
words_in (tag, Replied place words) = sum words
words_in (tag, TimedOut place rounds) = 0
words_in (tag, Unsent) = 0

other_words : IsAmong (7, Replied 1 (0x88 ∷ [])) ((7, Replied 1 (0x77 ∷ [])) ∷ (8, Replied 2 (0x88 ∷ [])) ∷ []) → ⊥
other_words (inl same) = absurd (let e : 0x88 ≡ 0x77 = ap words_in same in omega (arith, e))
other_words (inr (inl same)) =
    absurd (let e : 7 ≡ 8 = ap (λ (fate : ℕ × Fate). fate.0) same in omega (arith, e))
other_words (inr (inr none)) = absurd none

pub returns-clause-by_arrival : goal.returns-clause-by_arrival
returns-clause-by_arrival c = λ brought.
    let start = new_hub 65535 2 8 in
    let fresh : IsFreshRun 65535 2 two_bodies_settled = record {
      identifier = record { from_one = omega arith; up_to_end = omega arith };
      some_window = omega arith;
      window_in_range = omega arith;
      sendable = (
        record { words = (omega arith, tt); short = omega arith },
        (record { words = (omega arith, tt); short = omega arith }, tt),
      );
    } in
    other_words (subst (λ (fates : List (ℕ × Fate)). IsAmong (7, Replied 1 (0x88 ∷ [])) fates)
    c.a_run_past_the_last_identifier.ensures.fates
    (each_is_there start two_bodies_settled (7, Replied 1 (0x88 ∷ []))
    (begins_at_work 65535 2 8 two_bodies_settled fresh) fresh.sendable brought))

pub returns-clause-sent_twice : goal.returns-clause-sent_twice
returns-clause-sent_twice c = λ first window rounds events traffic end fates is.
    stands_short end.sent (offers_in events)
    (c.nothing_else_is_sent.ensures.offered first window rounds events traffic end fates is)
