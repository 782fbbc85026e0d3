use Rattle.std.proofs.Common.{◌≤◌, ◌*◌, ◌∙◌, ℕ, ap, subst, sym}
use Rattle.std.proofs.lemmas.Result.{IfOk-from_err}
use Rattle.links.specs.Receives.{first_status}
use Rattle.links.proofs.Passing.{none_sent}
use Rattle.hub_lane.proofs.Greetings.{fresh_begins, request_fresh}
use Rattle.hub_lane.proofs.GreetingRounds.{asking_ends, asking_told, counts_asked, counts_sent, fresh_then}
use Rattle.hub_lane.proofs.GreetingRounds.{refused_asks, refused_fresh, request_asks}
use Rattle.hub_lane.proofs.Listening.{on_err, rose_later}
use Rattle.hub_lane.proofs.GreetingPasses.{asked_then, asked_then_cut_off, refused_round}
use Rattle.hub_lane.proofs.greeting.ask_once.Goals as goal

pub listen-requires-clause-few_quiets : goal.listen-requires-clause-few_quiets
listen-requires-clause-few_quiets g c =
    subst (λ (n : ℕ). n ≤ 255) (sym c.send.ensures.quiets) c.requires.few_quiets

pub listen-requires-clause-few_gots : goal.listen-requires-clause-few_gots
listen-requires-clause-few_gots g c =
    subst (λ (n : ℕ). n ≤ 64 * 255) (sym c.send.ensures.gots) c.requires.few_gots

pub listen-requires-clause-untold : goal.listen-requires-clause-untold
listen-requires-clause-untold g c =
    ap first_status (none_sent c.send.result _ (g.L.Link.traffic c.args.link.now) c.send.ensures.traffic)
    ∙ c.requires.untold

pub listen-requires-clause-begins : goal.listen-requires-clause-begins
listen-requires-clause-begins g c =
    fresh_begins g.L.Link c.args.settings c.args.link.now c.send.new.self
    (request_fresh g.L.Link c.a_greeting_goes_on.ensures.sent c.args.settings c.args.link.now c.send.new.self
    c.write_status_request-request.ensures c.requires.begins c.in_ok-send.ensures.sent)

pub returns-in_err-send-clause-fresh : goal.returns-in_err-send-clause-fresh
returns-in_err-send-clause-fresh g c =
    refused_fresh c.args.settings c.requires.begins c.in_err-send.ensures.refused

pub returns-in_err-send-clause-asked : goal.returns-in_err-send-clause-asked
returns-in_err-send-clause-asked g c =
    refused_asks c.in_err-send.ensures.refused

pub returns-in_err-send-clause-told : goal.returns-in_err-send-clause-told
returns-in_err-send-clause-told g c =
    IfOk-from_err c.from_residual.result _ c.from_residual.ensures.0

pub returns-in_err-send-clause-ended : goal.returns-in_err-send-clause-ended
returns-in_err-send-clause-ended g c =
    IfOk-from_err c.from_residual.result _ c.from_residual.ensures.0

pub returns-in_err-send-clause-none_told : goal.returns-in_err-send-clause-none_told
returns-in_err-send-clause-none_told g c =
    on_err c.from_residual.result _ (ap first_status
    (none_sent c.send.result _ (g.L.Link.traffic c.args.link.now) c.send.ensures.traffic) ∙ c.requires.untold)

pub returns-in_err-send-clause-counts : goal.returns-in_err-send-clause-counts
returns-in_err-send-clause-counts g c =
    counts_sent g.L.Link c.args.link.now c.send.new.self c.send.ensures.faults c.send.ensures.quiets
    c.send.ensures.gots c.send.ensures.number c.send.ensures.held

pub returns-clause-fresh : goal.returns-clause-fresh
returns-clause-fresh g c =
    fresh_then g.L.Link c.args.settings c.args.link.now c.send.new.self c.listen.new.link
    (request_fresh g.L.Link c.a_greeting_goes_on.ensures.sent c.args.settings c.args.link.now c.send.new.self
    c.write_status_request-request.ensures c.requires.begins c.in_ok-send.ensures.sent)
    c.listen.ensures.fresh

pub returns-clause-asked : goal.returns-clause-asked
returns-clause-asked g c =
    request_asks g.L.Link c.write_status_request-request.result c.args.link.now c.send.new.self c.listen.new.link
    c.in_ok-send.ensures.sent c.listen.ensures.asked

pub returns-clause-told : goal.returns-clause-told
returns-clause-told g c =
    asking_told g.L.Link c.args.settings c.write_status_request-request.result c.listen.result c.args.link.now
    c.send.new.self c.listen.new.link c.send.ensures.quiets c.send.ensures.held c.listen.ensures.counts.held
    c.in_ok-send.ensures.sent c.listen.ensures.told

pub returns-clause-ended : goal.returns-clause-ended
returns-clause-ended g c =
    asking_ends g.L.Link c.write_status_request-request.result c.listen.result c.args.link.now c.send.new.self
    c.listen.new.link c.send.ensures.quiets c.send.ensures.gots c.in_ok-send.ensures.sent c.listen.ensures.ended

pub returns-clause-none_told : goal.returns-clause-none_told
returns-clause-none_told g c =
    c.listen.ensures.none_told

pub returns-clause-counts : goal.returns-clause-counts
returns-clause-counts g c =
    counts_asked g.L.Link c.args.link.now c.send.new.self c.listen.new.link c.send.ensures.faults
    c.send.ensures.quiets c.send.ensures.gots c.send.ensures.number c.send.ensures.held c.listen.ensures.counts

pub returns-clause-failed : goal.returns-clause-failed
returns-clause-failed g c =
    let faults = g.L.Link.faults in
    λ e. rose_later (faults c.args.link.now) (faults c.send.new.self) (faults c.listen.new.link) c.send.ensures.faults
    (c.listen.ensures.failed e)

pub returns-in_err-send-clause-passed : goal.returns-in_err-send-clause-passed
returns-in_err-send-clause-passed g c =
    IfOk-from_err c.from_residual.result _ c.from_residual.ensures.0

pub returns-clause-passed : goal.returns-clause-passed
returns-clause-passed g c =
    asked_then c.listen.result (g.L.Link.traffic c.args.link.now) (g.L.Link.traffic c.send.new.self)
    (g.L.Link.traffic c.listen.new.link)
    c.write_status_request-request.ensures c.in_ok-send.ensures.traffic c.listen.ensures.passed

pub returns-in_err-send-clause-cut_off : goal.returns-in_err-send-clause-cut_off
returns-in_err-send-clause-cut_off g c =
    on_err c.from_residual.result _ (refused_round c.in_err-send.ensures.traffic)

pub returns-clause-cut_off : goal.returns-clause-cut_off
returns-clause-cut_off g c =
    asked_then_cut_off c.listen.result (g.L.Link.traffic c.args.link.now) (g.L.Link.traffic c.send.new.self)
    (g.L.Link.traffic c.listen.new.link)
    c.write_status_request-request.ensures c.in_ok-send.ensures.traffic c.listen.ensures.cut_off
