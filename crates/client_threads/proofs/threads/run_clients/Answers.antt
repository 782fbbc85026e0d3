use Rattle.std.proofs.Common.{◌+◌, arith}
use Rattle.std.proofs.lemmas.Grind.{common_steps}
use Rattle.hub_multiplexer.specs.Ends.{HasTakenIn}
use Rattle.client_threads.specs.Clients.{WereTakenIn}
use Rattle.client_threads.proofs.Ran.{all_joined, have_run, none_taken_in, were_taken_in}
use Rattle.client_threads.proofs.threads.run_clients.Given.{Over}
use Rattle.client_threads.proofs.threads.run_clients.Goals.{After-join_all-ran}
use Rattle.client_threads.proofs.threads.run_clients.Goals as goal

-- ---- once all jobs were joined, whatever they came to

took_in : (g : Over) (c : After-join_all-ran g)
    → WereTakenIn c.args.plans.now c.args.master.now c.join_all-ran.new.master
took_in g c =
    let seated = c.seat_and_run-seated.ensures in
    were_taken_in c.args.plans.now c.args.master.now seated.plans seated.master c.join_all-ran.ensures seated.few

joined_all : (g : Over) (c : After-join_all-ran g) → HasTakenIn (c.args.master.now.seats + 1) c.args.master.now
    → HasTakenIn (c.join_all-ran.new.master.seats + 1) c.join_all-ran.new.master
joined_all g c joined =
    let seated = c.seat_and_run-seated.ensures in
    all_joined c.args.plans.now c.args.master.now seated.plans seated.master c.join_all-ran.ensures
    c.requires.clients (seated.taken_in (c.args.master.now.seats + 1) joined)

-- ---- the clauses

pub returns-in_err-results-clause-taken_in : goal.returns-in_err-results-clause-taken_in
returns-in_err-results-clause-taken_in g c = none_taken_in c.args.plans.now c.args.master.now

pub returns-in_err-jobs-clause-taken_in : goal.returns-in_err-jobs-clause-taken_in
returns-in_err-jobs-clause-taken_in g c = none_taken_in c.args.plans.now c.args.master.now

pub returns-in_err-seated-clause-taken_in : goal.returns-in_err-seated-clause-taken_in
returns-in_err-seated-clause-taken_in g c =
    took_in g (goal.at.returns-in_err-seated-clause-taken_in g c).After-join_all-ran

pub returns-in_err-seated-clause-all_joined : goal.returns-in_err-seated-clause-all_joined
returns-in_err-seated-clause-all_joined g c =
    joined_all g (goal.at.returns-in_err-seated-clause-all_joined g c).After-join_all-ran

pub returns-then-ran-clause-taken_in : goal.returns-then-ran-clause-taken_in
returns-then-ran-clause-taken_in g c =
    took_in g (goal.at.returns-then-ran-clause-taken_in g c).After-join_all-ran

pub returns-then-ran-clause-all_joined : goal.returns-then-ran-clause-all_joined
returns-then-ran-clause-all_joined g c =
    joined_all g (goal.at.returns-then-ran-clause-all_joined g c).After-join_all-ran

pub returns-else-ran-clause-taken_in : goal.returns-else-ran-clause-taken_in
returns-else-ran-clause-taken_in g c =
    took_in g (goal.at.returns-else-ran-clause-taken_in g c).After-join_all-ran

pub returns-else-ran-clause-all_joined : goal.returns-else-ran-clause-all_joined
returns-else-ran-clause-all_joined g c =
    joined_all g (goal.at.returns-else-ran-clause-all_joined g c).After-join_all-ran

pub returns-then-ran-clause-ran : goal.returns-then-ran-clause-ran
returns-then-ran-clause-ran g c =
    let seated = c.seat_and_run-seated.ensures in
    have_run c.args.plans.now c.args.master.now seated.plans seated.master c.join_all-ran.ensures
    c.in_ok-seated.ensures.all c.if-ran.true

pub returns-else-ran-clause-ran : goal.returns-else-ran-clause-ran
returns-else-ran-clause-ran g c = grind (arith, common_steps)

pub returns-else-ran-clause-results : goal.returns-else-ran-clause-results
returns-else-ran-clause-results g c = grind (arith, common_steps)
