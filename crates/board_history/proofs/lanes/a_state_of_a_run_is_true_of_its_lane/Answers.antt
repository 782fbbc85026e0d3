use Rattle.std.proofs.Common.{◌≡◌, ℕ, ◌++◌, List, length, map, Some, refl, sym, ap, ◌∙◌, subst}
use Rattle.std.specs.List.{Contains, slice_get}
use Rattle.std.proofs.lemmas.Option.{slice_get_read}
use Rattle.std.proofs.lemmas.List.{map-append}
use Rattle.ipb_base.specs.Lists.{IsPrefix}
use Rattle.board_bus.specs.Bodies.{replay}
use Rattle.world_model.specs.declared.offered.Offered.{Offered}
use Rattle.world_model.specs.declared.offered.Fate.{Fate}
use Rattle.world_model.specs.declared.offered.Fate.TheVariants as fate
use Rattle.world_model.specs.Places.{at_place}
use Rattle.world_model.specs.Board.{Board, bodies_executed}
use Rattle.world_model.specs.Facts.{bodies_of}
use Rattle.world_model.specs.History.{IsTrueHistory}
use Rattle.world_model.specs.Lanes.{caught_up}
use Rattle.world_model.specs.World.{World}
use Rattle.world_model.proofs.Lists.{get_front, front_more}
use Rattle.links.specs.States.{world_of_both}
use Rattle.lane_record.specs.declared.outcome.Outcome.{Outcome}
use Rattle.lane_record.specs.declared.outcome.Outcome.TheVariants.{Replied, TimedOut, Unsent, LinkLost}
use Rattle.lane_record.specs.Offers.{IsToldBy}
use Rattle.board_history.specs.Parts.{IsReplyOf}
use Rattle.board_history.specs.Lanes.{bodies_offered}
use Rattle.board_history.proofs.lanes.a_state_of_a_run_is_true_of_its_lane.Goals as goal

-- an outcome that was handed out as a fate is right
right_reply : (w : World) (fates more : List (ℕ × Fate)) (board : Board) (k : ℕ) (o : Outcome)
    → w.fates ≡ fates ++ more → w.board ≡ board → IsTrueHistory w → IsToldBy fates k o
    → IsReplyOf (replay board.opening (bodies_executed board)).replies o
right_reply w fates more board k (Replied place words) all same true' told =
    let there : slice_get w.fates told.number ≡ Some (k, fate.Replied place words) =
    ap (λ (fs : List (ℕ × Fate)). slice_get fs told.number) all
    ∙ get_front fates more told.number (k, fate.Replied place words) told.there in
    subst (λ (b : Board). at_place (replay b.opening (bodies_executed b)).replies place ≡ Some words) same
    (true'.replied k place words (record { number = told.number; there = there }))
right_reply w fates more board k (TimedOut place rounds) all same true' told = tt
right_reply w fates more board k Unsent all same true' told = tt
right_reply w fates more board k (LinkLost place) all same true' told = tt

-- and so is a late answer
right_late : (w : World) (lates more : List (ℕ × List ℕ)) (board : Board) (place : ℕ) (words : List ℕ)
    → w.lates ≡ lates ++ more → w.board ≡ board → IsTrueHistory w → Contains lates (place, words)
    → at_place (replay board.opening (bodies_executed board)).replies place ≡ Some words
right_late w lates more board place words all same true' told =
    let found : slice_get lates told.0 ≡ Some (place, words) =
    slice_get_read lates (length lates) told.0 (place, words) refl told.1 (sym told.2) in
    let there : slice_get w.lates told.0 ≡ Some (place, words) =
    ap (λ (ls : List (ℕ × List ℕ)). slice_get ls told.0) all ∙ get_front lates more told.0 (place, words) found in
    subst (λ (b : Board). at_place (replay b.opening (bodies_executed b)).replies place ≡ Some words) same
    (true'.late place words (record { number = told.0; there = there }))

pub returns : goal.returns
returns c = λ window rounds board air out hub told claims outcomes lates begins reached offered told_by late_by.
    let truth = c.a_state_of_a_run_tells_the_truth.ensures in
    let history = truth.history window rounds board air out hub told begins reached in
    let whole = caught_up (world_of_both hub told out) in
    let bodies : bodies_offered claims outcomes ≡ bodies_of hub.sent ++ bodies_of hub.queue =
    ap (map (λ (o : Offered). o.body)) (sym offered) ∙ map-append (λ (o : Offered). o.body) hub.sent hub.queue in
    record {
      front = subst (IsPrefix (bodies_executed told.board)) (sym bodies)
          (front_more (bodies_executed told.board) (bodies_of hub.sent) (bodies_of hub.queue)
          (truth.executed _ out hub told reached));
      replies = λ k o there. right_reply whole out.fates hub.fates told.board k o (truth.all_fates hub told out)
          (truth.same_board hub told out) history (told_by k o there);
      late = λ place words there. right_late whole out.lates hub.lates told.board place words
          (truth.all_lates hub told out) (truth.same_board hub told out) history (late_by place words there);
    }
