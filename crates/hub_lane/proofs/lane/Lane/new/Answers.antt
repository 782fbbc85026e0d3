use Rattle.std.proofs.Common.{ap}
use Rattle.world_model.specs.Hub.{Hub}
use Rattle.links.specs.Receives.{receives_in}
use Rattle.hub_lane.specs.Lanes.{status_of}
use Rattle.hub_lane.proofs.Datagrams.{heard_first}
use Rattle.hub_lane.proofs.Lanes.{lane_begun}
use Rattle.hub_lane.proofs.Listened.{listened_first}
use Rattle.hub_lane.proofs.Rounds.{pays_begun}
use Rattle.hub_lane.proofs.LaneRuns.{run_begun}
use Rattle.hub_lane.proofs.lane.Lane.new.Goals as goal

pub invariant_of-result : goal.invariant_of-result
invariant_of-result g c = (
  lane_begun c.each_event_leads_to_a_state_of_a_run.ensures.begins c.laws_of_late_answers.ensures c.args.settings
      (status_of c.args.status) c.in-Ok-new.engine c.in-Ok.book.items c.new-4.result.items c.new-4.result.lates
      (g.L.Link.telling c.args.link)
      (g.L.Link.faults c.args.link) (g.L.Link.quiets c.args.link) c.an_ask_is_an_offer.ensures.begins
      c.entries_go_into_the_book.ensures.begins c.window-window.ensures.range c.args.status.mtu_in_range
      c.args.status.buffers_in_range c.get-first.ensures.range c.requires.greeted c.in-Ok-new.ensures c.in-Ok.ensures
      c.new-4.ensures.items c.new-4.ensures.lates,
  pays_begun c.laws_of_rounds.ensures c.args.settings (status_of c.args.status) c.in-Ok-new.engine
      (g.L.Link.telling c.args.link) (g.L.Link.held c.args.link) c.window-window.ensures.range
      c.args.status.buffers_in_range
      c.in-Ok-new.ensures c.requires.greeted,
  heard_first c.new-4.result.items (g.L.Link.gots c.args.link) c.new-4.ensures.items c.requires.heard,
  listened_first (status_of c.args.status) c.in-Ok-new.engine c.new-4.result.items c.new-4.result.lates
      (receives_in (g.L.Link.traffic c.args.link)) (ap (λ (h : Hub). h.status_requests) c.in-Ok-new.ensures) c.new-4.ensures.items
      c.new-4.ensures.lates c.requires.first,
  run_begun c.in-Ok-new.ensures c.in-Ok.ensures c.new-4.ensures.items c.new-4.ensures.lates c.new-5.ensures
      c.get-first.ensures.range c.window-window.ensures.range c.args.status.buffers_in_range c.requires.passed,
)
