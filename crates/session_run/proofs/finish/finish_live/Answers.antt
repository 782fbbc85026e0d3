use Rattle.std.proofs.Common.{[], ◌||◌, cond, subst, sym}
use Rattle.std.specs.Prelude.{IfSome}
use Rattle.std.proofs.lemmas.Result.{IfOk-weaker}
use Rattle.ipb_base.specs.Numbers.{payload_of}
use Rattle.script_plans.specs.declared.board_run.BoardRun.{BoardRun}
use Rattle.script_plans.specs.declared.greeting.Greeting.TheVariants.{Live}
use Rattle.board_history.specs.LinkRuns.{IsRunOver}
use Rattle.board_history.proofs.LaneShown.{some_then}
use Rattle.hub_lane.specs.Standing.{IsStanding}
use Rattle.board_greeting.specs.Reports.{shown_by}
use Rattle.session_run.specs.Boards.{IsNamed}
use Rattle.session_run.specs.Links.{HasStood}
use Rattle.session_run.proofs.BoardRuns.{runs_live, stopped_at}
use Rattle.session_run.proofs.finish.finish_live.Goals as goal

pub returns-clause-ran : goal.returns-clause-ran
returns-clause-ran g c =
    let link = g.L.Link in
    let lane = c.args.lane in
    let shown = shown_by link c.close_lane.result in
    let spec = c.args.spec.now in
    let scripts = c.args.scripts.now in
    let ended = c.close_lane.ensures.ended c.args.settings spec (stopped_at c.args.settings scripts c.args.position spec
    lane (link.telling lane.link) c.requires.stopped) in
    let whole = c.with_late_answers-whole.result in
    IfOk-weaker c.named-run.result (IsNamed spec (Live c.payload-payload.result) whole)
    (λ (run : BoardRun). IsRunOver c.args.settings spec c.args.position scripts run shown)
    (λ run named. (let live = runs_live spec c.args.position c.payload-payload.result scripts lane c.args.parts whole
    run c.payload-payload.ensures c.requires.ran c.with_late_answers-whole.ensures named in
    c.a_finished_lane_is_a_live_run.ensures c.args.settings spec c.args.position scripts run shown
    (payload_of lane.status.mtu) lane.items lane.outcomes lane.lates lane.give_ups live.scripts' ended.board'
    live.greeting' ended.payload live.ran.left live.lates' ended.sound))
    c.named-run.ensures

pub returns-clause-left : goal.returns-clause-left
returns-clause-left g c =
    let link = g.L.Link in
    let lane = c.args.lane in
    let spec = c.args.spec.now in
    let scripts = c.args.scripts.now in
    let ended = c.close_lane.ensures.ended c.args.settings spec (stopped_at c.args.settings scripts c.args.position spec
    lane (link.telling lane.link) c.requires.stopped) in
    let sound = c.is_sound.ensures in
    let asked = c.a_lane_sends_a_merge_at_any_moment.ensures.sent spec c.args.position scripts
    (payload_of lane.status.mtu) lane.items lane.outcomes lane.hub.sent (cond lane.down [] lane.hub.queue)
    ended.payload c.requires.stopped.some sound.kept.legal sound.agrees.offered in
    record {
      board' = ended.board';
      stood = some_then (IsStanding (lane.down || lane.spent) lane.settings lane.hub lane.outcomes lane.lates)
          (HasStood spec c.args.position scripts) (link.telling c.close_lane.result)
          (λ t standing. record {
            stopped = lane.down || lane.spent;
            limits = lane.settings;
            hub = lane.hub;
            outcomes = lane.outcomes;
            lates = lane.lates;
            standing = standing;
            sent = asked;
          })
          (subst (λ l. IfSome (link.telling l) (IsStanding (lane.down || lane.spent) lane.settings lane.hub
          lane.outcomes lane.lates)) (sym c.close_lane.ensures.link) sound.standing);
    }
