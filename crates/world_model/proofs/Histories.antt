-- What follows from the facts.
use Rattle.std.proofs.Common.{◌≡◌, ℕ, ◌+◌, ◌<◌, ◌≤◌, List, length, Some}
use Rattle.std.proofs.Common.{Result, sym, ap, ◌∙◌, subst, arith, inl, inr}
use Rattle.std.specs.Prelude.{IfOk, ◌⊎◌}
use Rattle.std.proofs.lemmas.Bool.{cases_lt}
use Rattle.std.proofs.lemmas.List.{length-map}
use Rattle.world_model.specs.declared.datagram.Datagram.{Datagram}
use Rattle.world_model.specs.declared.moves.WorldMove.{WorldMove}
use Rattle.world_model.specs.declared.offered.Offered.{Offered}
use Rattle.world_model.specs.declared.offered.Fate.{Fate}
use Rattle.world_model.specs.declared.offered.Fate.TheVariants.{Replied, TimedOut}
use Rattle.world_model.specs.declared.datagram.Direction.TheVariants as goes
use Rattle.world_model.specs.Places.{at_place}
use Rattle.world_model.specs.Messages.{Reply, to_hub}
use Rattle.world_model.proofs.Places.{one_place}
use Rattle.world_model.specs.Board.{Board, bodies_executed, replies}
use Rattle.world_model.specs.Hub.{low}
use Rattle.world_model.specs.World.{World, start}
use Rattle.world_model.specs.Facts.{IsLateReply, IsSound, IsTagged, IsRightFate, IsReplyOf, IsSaidToHub, bodies_of}
use Rattle.world_model.specs.Facts.{offered_body}
use Rattle.world_model.specs.History.{IsRun, IsHandedOut, IsAliveInAir, IsTrueHistory, IsExecutedThere}
use Rattle.world_model.specs.History.{IsExecutedAtMostOnce, IsLateAnswer}
use Rattle.world_model.proofs.Lists.{at_front, at_from_one, at_within, at_exists, at_map, front_length, all_get}
use Rattle.world_model.proofs.Boards.{replies_length}
use Rattle.world_model.proofs.Worlds.{run_holds, start_holds}
use Rattle.world_model.specs.Below.{Below}

module _ (below : Below) where
  pub facts : (window rounds : ℕ) (board : Board) (air : List Datagram) (moves : List WorldMove) (w : World)
      → IsRun window rounds board air moves w → IsSound w
  facts window rounds board air moves w is =
      subst (λ (r : Result World _). IfOk r IsSound) is.leads.ran
      (run_holds below is.leads.at (start window rounds board air) moves is.leads.sendable
      (start_holds below window rounds board air is.begins))

  right_fate : (w : World) (tag : ℕ) (fate : Fate) → IsSound w → IsHandedOut w tag fate
      → IsRightFate w.hub.sent (replies w.board) (tag, fate)
  right_fate w tag fate is told = all_get (IsRightFate w.hub.sent (replies w.board)) w.fates told.number
      (tag, fate) is.told_fates told.there

  late_reply : (w : World) (place : ℕ) (words : List ℕ) → IsSound w → IsLateAnswer w place words
      → at_place (replies w.board) place ≡ Some words
  late_reply w place words is told = all_get (IsLateReply (replies w.board)) w.lates told.number (place, words)
      is.told_lates told.there

  pub history : (w : World) → IsSound w → IsTrueHistory w
  history w is = record {
    in_order = is.log.front;
    replied = λ tag place words told. (right_fate w tag (Replied place words) is told).1;
    late = λ place words told. late_reply w place words is told;
  }

  pub in_order : (w : World) (place : ℕ) (body : List ℕ) → IsSound w → at_place (bodies_executed w.board) place ≡ Some body
      → at_place (bodies_of w.hub.sent) place ≡ Some body
  in_order w place body is at = subst (λ (all : List (List ℕ)). at_place all place ≡ Some body) (sym is.log.front.1)
      (at_front (bodies_executed w.board) is.log.front.0 place body at)

  pub no_more : (w : World) → IsSound w → length (bodies_executed w.board) ≤ length w.hub.sent
  no_more w is = omega (
    arith,
    front_length (bodies_executed w.board) (bodies_of w.hub.sent) is.log.front,
    length-map w.hub.sent offered_body,
  )

  -- what was executed at a place is the body of the offer that was sent there
  executed_body : (w : World) (place : ℕ) (o : Offered) → IsSound w → at_place w.hub.sent place ≡ Some o → 1 ≤ place
      → place ≤ length (bodies_executed w.board) → at_place (bodies_executed w.board) place ≡ Some o.body
  executed_body w place o is at one within =
      let x = at_exists (bodies_executed w.board) place one within in
      let mine = in_order w place x.0 is x.1 in
      let other = at_map offered_body w.hub.sent place o at in
      let same : Some x.0 ≡ Some o.body = sym mine ∙ other in
      x.1 ∙ same

  pub replied_there : (w : World) (tag place : ℕ) (words : List ℕ) → IsSound w → IsHandedOut w tag (Replied place words)
      → IsExecutedThere w tag place
  replied_there w tag place words is told =
      let r = right_fate w tag (Replied place words) is told in
      let within = at_within (replies w.board) place words r.1 in
      record {
        body = r.0.offered;
        sent = r.0.at;
        tag_is = r.0.tag_is;
        there = executed_body w place r.0.offered is r.0.at (at_from_one w.hub.sent place r.0.offered r.0.at)
            (omega (arith, replies_length below w.board));
      }

  -- a body that timed out and has a late answer
  pub late_there : (w : World) (tag place rounds : ℕ) (words : List ℕ) → IsSound w
      → IsHandedOut w tag (TimedOut place rounds) → IsLateAnswer w place words → IsExecutedThere w tag place
  late_there w tag place rounds words is timed_out told =
      let r : IsTagged w.hub.sent tag place = right_fate w tag (TimedOut place rounds) is timed_out in
      let within = at_within (replies w.board) place words (late_reply w place words is told) in
      record {
        body = r.offered;
        sent = r.at;
        tag_is = r.tag_is;
        there = executed_body w place r.offered is r.at (at_from_one w.hub.sent place r.offered r.at)
            (omega (arith, replies_length below w.board));
      }

  there_or_nowhere : (w : World) (place : ℕ) (o : Offered) → IsSound w → at_place w.hub.sent place ≡ Some o
      → (length (bodies_executed w.board) < place) ⊎ (at_place (bodies_executed w.board) place ≡ Some o.body)
  there_or_nowhere w place o is at = elim (cases_lt (length (bodies_executed w.board)) place) [
    | inl later ↦ inl later
    | inr within ↦ inr (executed_body w place o is at (at_from_one w.hub.sent place o at) (omega arith))
  ]

  pub at_most_once : (w : World) (tag place rounds : ℕ) → IsSound w → IsHandedOut w tag (TimedOut place rounds)
      → IsExecutedAtMostOnce w tag place
  at_most_once w tag place rounds is told =
      let r : IsTagged w.hub.sent tag place = right_fate w tag (TimedOut place rounds) is told in
      record { body = r.offered; sent = r.at; tag_is = r.tag_is; there = there_or_nowhere w place r.offered is r.at }

  pub one_reply : (w : World) (tag other place : ℕ) (words again : List ℕ) → IsSound w
      → IsHandedOut w tag (Replied place words) → IsHandedOut w other (Replied place again) → words ≡ again
  one_reply w tag other place words again is told told_again =
      let mine = (right_fate w tag (Replied place words) is told).1 in
      let yours = (right_fate w other (Replied place again) is told_again).1 in
      let same : Some words ≡ Some again = sym mine ∙ yours in cc

  pub one_late_reply : (w : World) (place : ℕ) (words again : List ℕ) → IsSound w
      → IsLateAnswer w place words → IsLateAnswer w place again → words ≡ again
  one_late_reply w place words again is told told_again =
      let same : Some words ≡ Some again =
      sym (late_reply w place words is told) ∙ late_reply w place again is told_again in cc

  -- ---- what may still be heard

  reply_in_air : (w : World) (one words : List ℕ) (id : ℕ) → IsSound w → (alive : IsAliveInAir w one)
      → to_hub one ≡ Some (Reply id words)
      → IsReplyOf w.hub.first (replies w.board) alive.birth id words
  reply_in_air w one words id is alive reads =
      let fact = all_get _ w.air alive.number (record { direction = goes.ToHub; bytes = one; birth = alive.birth })
      is.said alive.there in
      subst (IsSaidToHub w.hub.first (replies w.board) alive.birth) reads fact.said

  pub one_reply_in_air : (w : World) (id : ℕ) (one other words again : List ℕ) → IsSound w → IsAliveInAir w one
      → IsAliveInAir w other
      → to_hub one ≡ Some (Reply id words) → to_hub other ≡ Some (Reply id again) → words ≡ again
  one_reply_in_air w id one other words again is mine yours reads reads_again =
      let a = reply_in_air w one words id is mine reads in
      let b = reply_in_air w other again id is yours reads_again in
      let few = no_more w is in
      let same_log = replies_length below w.board in
      let a_in = at_within (replies w.board) a.place words a.at in
      let b_in = at_within (replies w.board) b.place again b.at in
      let same : a.place ≡ b.place =
      one_place w.hub.first a.place b.place is.node.identifier (at_from_one (replies w.board) a.place words a.at)
      (at_from_one (replies w.board) b.place again b.at)
      (omega (arith, b.recent, yours.alive)) (omega (arith, a.recent, mine.alive))
      (sym a.identifier ∙ b.identifier) in
      let both : Some words ≡ Some again = sym a.at ∙ (ap (at_place (replies w.board)) same ∙ b.at) in cc

  pub in_window : (w : World) → IsSound w → length w.hub.sent < low w.hub + w.hub.window
  in_window w is = omega (arith, is.hub.within)
