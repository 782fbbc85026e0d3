use Rattle.std.proofs.Common.{List, Ok, subst, ℕ}
use Rattle.std.proofs.lemmas.Result.{IfOk-from_err}
use Rattle.links.specs.Receives.{receives_in}
use Rattle.links.specs.Telling.{IfTelling}
use Rattle.links.proofs.Passing.{one_received}
use Rattle.world_model.specs.Messages.{to_hub}
use Rattle.hub_lane.specs.Greeting.{HasAskedNothing, IsSaid, StaysFresh}
use Rattle.hub_lane.proofs.Listened.{got_end, quiet_end}
use Rattle.hub_lane.proofs.Requests.{receive_asks_none}
use Rattle.hub_lane.proofs.Greetings.{fresh_on, got_told, handed_quiet, quiet_told, TellsAll}
use Rattle.hub_lane.proofs.GreetingPasses.{got_answer, quiet_answer}
use Rattle.hub_lane.proofs.greeting.hear_once.Given.{Over}
use Rattle.hub_lane.proofs.greeting.hear_once.Goals.{After-receive}
use Rattle.hub_lane.proofs.greeting.hear_once.Goals as goal

-- ---- whatever the receive came to

stays_fresh : (g : Over) (c : After-receive g)
    → IfTelling (g.L.Link.telling c.args.link.now) (g.L.Link.telling c.receive.new.self) (StaysFresh c.args.settings)
stays_fresh g c =
    fresh_on g.L.Link c.a_greeting_goes_on.ensures.heard c.a_link_forgets_nothing.ensures.air c.args.settings
    c.receive.result c.receive.new.into.items c.args.link.now c.receive.new.self c.requires.begins
    c.receive.ensures.received

none_asked : (g : Over) (c : After-receive g)
    → IfTelling (g.L.Link.telling c.args.link.now) (g.L.Link.telling c.receive.new.self) HasAskedNothing
none_asked g c =
    receive_asks_none g.L.Link c.receive.result c.receive.new.into.items c.args.link.now c.receive.new.self
    c.receive.ensures.received

-- ---- the clauses

pub returns-in_err-receive-clause-fresh : goal.returns-in_err-receive-clause-fresh
returns-in_err-receive-clause-fresh g c =
    stays_fresh g (goal.at.returns-in_err-receive-clause-fresh g c).After-receive

pub returns-in-Quiet-clause-fresh : goal.returns-in-Quiet-clause-fresh
returns-in-Quiet-clause-fresh g c =
    stays_fresh g (goal.at.returns-in-Quiet-clause-fresh g c).After-receive

pub returns-in-Got-clause-fresh : goal.returns-in-Got-clause-fresh
returns-in-Got-clause-fresh g c =
    stays_fresh g (goal.at.returns-in-Got-clause-fresh g c).After-receive

pub returns-in-Quiet-clause-told : goal.returns-in-Quiet-clause-told
returns-in-Quiet-clause-told g c =
    quiet_told g.L.Link c.a_greeting_goes_on.ensures.heard c.a_link_forgets_nothing.ensures.air c.args.settings
    c.receive.new.into.items c.args.link.now c.receive.new.self c.in-Quiet.is c.requires.begins
    c.in_ok-receive.ensures.received

pub returns-in-Got-clause-told : goal.returns-in-Got-clause-told
returns-in-Got-clause-told g c =
    got_told g.L.Link c.a_greeting_goes_on.ensures.heard c.a_link_forgets_nothing.ensures.air
    c.what_is_written_is_known.ensures.reply c.args.settings c.receive.new.into.items c.tell.result c.args.link.now
    c.receive.new.self
    (subst (λ (bytes : List ℕ). TellsAll bytes c.tell.result) c.deref.ensures.value c.tell.ensures.only)
    c.in-Got.is c.requires.begins c.in_ok-receive.ensures.received

pub returns-in-Quiet-clause-handed : goal.returns-in-Quiet-clause-handed
returns-in-Quiet-clause-handed g c =
    handed_quiet g.L.Link c.receive.new.into.items c.args.link.now c.receive.new.self c.in-Quiet.is
    c.in_ok-receive.ensures.received

pub returns-in-Quiet-clause-receives : goal.returns-in-Quiet-clause-receives
returns-in-Quiet-clause-receives g c =
    quiet_end c.receive.new.into.items (receives_in (g.L.Link.traffic c.args.link.now)) c.in-Quiet.is c.requires.untold
    (one_received (Ok c.in_ok-receive.field-0) c.receive.new.into.items (g.L.Link.traffic c.args.link.now) c.in_ok-receive.ensures.traffic)

pub returns-in-Got-clause-receives : goal.returns-in-Got-clause-receives
returns-in-Got-clause-receives g c =
    got_end c.receive.new.into.items c.tell.result (receives_in (g.L.Link.traffic c.args.link.now)) c.in-Got.is c.requires.untold
    (subst (λ (bytes : List ℕ). IsSaid (to_hub bytes) c.tell.result) c.deref.ensures.value c.tell.ensures.said)
    (one_received (Ok c.in_ok-receive.field-0) c.receive.new.into.items (g.L.Link.traffic c.args.link.now) c.in_ok-receive.ensures.traffic)

pub returns-in_err-receive-clause-asked : goal.returns-in_err-receive-clause-asked
returns-in_err-receive-clause-asked g c =
    none_asked g (goal.at.returns-in_err-receive-clause-asked g c).After-receive

pub returns-in-Quiet-clause-asked : goal.returns-in-Quiet-clause-asked
returns-in-Quiet-clause-asked g c =
    none_asked g (goal.at.returns-in-Quiet-clause-asked g c).After-receive

pub returns-in-Got-clause-asked : goal.returns-in-Got-clause-asked
returns-in-Got-clause-asked g c =
    none_asked g (goal.at.returns-in-Got-clause-asked g c).After-receive

pub returns-in_err-receive-clause-receives : goal.returns-in_err-receive-clause-receives
returns-in_err-receive-clause-receives g c =
    IfOk-from_err c.from_residual.result _ c.from_residual.ensures.0

pub returns-in_err-receive-clause-told : goal.returns-in_err-receive-clause-told
returns-in_err-receive-clause-told g c =
    IfOk-from_err c.from_residual.result _ c.from_residual.ensures.0

pub returns-in_err-receive-clause-counted : goal.returns-in_err-receive-clause-counted
returns-in_err-receive-clause-counted g c =
    IfOk-from_err c.from_residual.result _ c.from_residual.ensures.0

pub returns-in_err-receive-clause-handed : goal.returns-in_err-receive-clause-handed
returns-in_err-receive-clause-handed g c =
    IfOk-from_err c.from_residual.result _ c.from_residual.ensures.0

pub returns-in_err-receive-clause-faults : goal.returns-in_err-receive-clause-faults
returns-in_err-receive-clause-faults g c =
    c.receive.ensures.faults

pub returns-in-Quiet-clause-faults : goal.returns-in-Quiet-clause-faults
returns-in-Quiet-clause-faults g c =
    c.receive.ensures.faults

pub returns-in-Got-clause-faults : goal.returns-in-Got-clause-faults
returns-in-Got-clause-faults g c =
    c.receive.ensures.faults

pub returns-in_err-receive-clause-held : goal.returns-in_err-receive-clause-held
returns-in_err-receive-clause-held g c =
    c.receive.ensures.held

pub returns-in-Quiet-clause-held : goal.returns-in-Quiet-clause-held
returns-in-Quiet-clause-held g c =
    c.receive.ensures.held

pub returns-in-Got-clause-held : goal.returns-in-Got-clause-held
returns-in-Got-clause-held g c =
    c.receive.ensures.held

pub returns-in-Quiet-clause-passed : goal.returns-in-Quiet-clause-passed
returns-in-Quiet-clause-passed g c =
    quiet_answer c.in_ok-receive.field-0 c.receive.new.into.items (g.L.Link.traffic c.args.link.now) c.in-Quiet.is
    c.in_ok-receive.ensures.traffic

pub returns-in-Got-clause-passed : goal.returns-in-Got-clause-passed
returns-in-Got-clause-passed g c =
    got_answer c.tell.result c.in_ok-receive.field-0 c.receive.new.into.items (g.L.Link.traffic c.args.link.now)
    c.in-Got.is
    (subst (λ (bytes : List ℕ). IsSaid (to_hub bytes) c.tell.result) c.deref.ensures.value c.tell.ensures.said)
    c.in_ok-receive.ensures.traffic

pub returns-in_err-receive-clause-passed : goal.returns-in_err-receive-clause-passed
returns-in_err-receive-clause-passed g c =
    IfOk-from_err c.from_residual.result _ c.from_residual.ensures.0
