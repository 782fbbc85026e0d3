use Rattle.std.proofs.Common.{ℕ, ◌≤◌, length, arith, inl, inr, ◌⊎◌, ◌≡◌}
use Rattle.world_model.specs.Board.{bodies_executed}
use Rattle.world_model.specs.World.{start}
use Rattle.world_model.specs.declared.offered.Fate.TheVariants.{Replied}
use Rattle.world_model.proofs.Lists.{all_get}
use Rattle.capture_reader.specs.Proved.{HasProof}
use Rattle.record_command.specs.Captures.{items_of}
use Rattle.record_command.proofs.Joint.{Laws}
use Rattle.record_command.proofs.OneMore.{IsProvedFate}
use Rattle.record_command.proofs.Runs.{shows_run}
use Rattle.record_command.proofs.capture_laws.a_capture_proves_what_was_executed.Goals as goal

laws : goal.After-what_a_hub_reads → Laws
laws c = record {
  below = c.laws_below.ensures;
  begins = c.a_greeting_joins.ensures;
  offered = c.each_event_keeps_them_joined.ensures.offered;
  sent = c.each_event_keeps_them_joined.ensures.sent;
  heard = c.each_event_keeps_them_joined.ensures.heard;
  handed = c.each_event_keeps_them_joined.ensures.handed;
  quiet = c.each_event_keeps_them_joined.ensures.quiet;
  handed_out = c.each_event_keeps_them_joined.ensures.handed_out;
  late = c.each_event_keeps_them_joined.ensures.late;
  log = c.a_link_forgets_nothing.ensures.log;
  says_status = c.what_a_hub_reads.ensures.status;
  says_reply = c.what_a_hub_reads.ensures.reply;
}

pub returns-clause-sent : goal.returns-clause-sent
returns-clause-sent c = λ window rounds board air moves w is can ran.
    (shows_run (laws c) window rounds board air moves w is can ran).bodies

pub returns-clause-replied : goal.returns-clause-replied
returns-clause-replied c = λ window rounds board air moves w proved tag place words is can ran p out.
    let items = items_of 0 (start window rounds board air) moves in
    let s = shows_run (laws c) window rounds board air moves w is can ran in
    p.greatest place (all_get (IsProvedFate board.first items) w.fates out.number (tag, Replied place words) s.told
    out.there)

by_proof : (proved most : ℕ) (Shown : ℕ → Type 0) → ((place : ℕ) → Shown place → place ≤ most)
    → (proved ≡ 0) ⊎ Shown proved → proved ≤ most
by_proof proved most Shown all (inl none) = omega arith
by_proof proved most Shown all (inr shown) = all proved shown

pub returns-clause-executed : goal.returns-clause-executed
returns-clause-executed c = λ window rounds board air moves w proved is can ran p.
    let items = items_of 0 (start window rounds board air) moves in
    let s = shows_run (laws c) window rounds board air moves w is can ran in
    by_proof proved (length (bodies_executed w.board)) (HasProof board.first 0 items) s.shown p.shown
