use Rattle.std.proofs.Common.{ℕ, ◌≤◌, length, arith, inl, inr, ◌⊎◌, ◌≡◌}
use Rattle.world_model.specs.Board.{bodies_executed}
use Rattle.capture_reader.specs.Proved.{HasProof}
use Rattle.record_command.proofs.Joint.{Laws}
use Rattle.record_command.proofs.Lanes.{lane_shows}
use Rattle.record_command.proofs.capture_laws.a_capture_of_a_lane_proves_what_was_executed.Goals as goal

laws : goal.After-what_a_hub_reads → Laws
laws c = record {
  below = c.laws_below.ensures;
  begins = c.a_greeting_joins.ensures;
  offered = c.each_event_keeps_them_joined.ensures.offered;
  sent = c.each_event_keeps_them_joined.ensures.sent;
  heard = c.each_event_keeps_them_joined.ensures.heard;
  handed = c.each_event_keeps_them_joined.ensures.handed;
  quiet = c.each_event_keeps_them_joined.ensures.quiet;
  handed_out = c.each_event_keeps_them_joined.ensures.handed_out;
  late = c.each_event_keeps_them_joined.ensures.late;
  log = c.a_link_forgets_nothing.ensures.log;
  says_status = c.what_a_hub_reads.ensures.status;
  says_reply = c.what_a_hub_reads.ensures.reply;
}

pub returns-clause-sent : goal.returns-clause-sent
returns-clause-sent c = λ stopped limits hub outcomes lates t items is traffic.
    (lane_shows (laws c) stopped limits hub outcomes lates t items is traffic).sent

pub returns-clause-executed : goal.returns-clause-executed
returns-clause-executed c = λ stopped limits hub outcomes lates t items is traffic.
    (lane_shows (laws c) stopped limits hub outcomes lates t items is traffic).executed'

by_proof : (proved most : ℕ) (Shown : ℕ → Type 0) → ((place : ℕ) → Shown place → place ≤ most)
    → (proved ≡ 0) ⊎ Shown proved → proved ≤ most
by_proof proved most Shown all (inl none) = omega arith
by_proof proved most Shown all (inr shown) = all proved shown

pub returns-clause-proved : goal.returns-clause-proved
returns-clause-proved c = λ stopped limits hub outcomes lates t items proved is traffic fits p.
    let s = lane_shows (laws c) stopped limits hub outcomes lates t items is traffic in
    by_proof proved (length (bodies_executed t.told.board)) (HasProof t.told.board.first 0 items) (s.shown fits) p.shown
