use Rattle.std.proofs.Common.{◌≡◌, None, inr, is_some, true, false, subst, sym, ◌∙◌}
use Rattle.session_input.specs.Deserved.{AreSteps, Deserves, BreaksInRun, BreaksInServe, StandsForSession}
use Rattle.session_input.proofs.Served.{as_in_run, no_policy, not_served}
use Rattle.session_input.proofs.Told.{weaker}
use Rattle.session_input.proofs.reading.read_for_serve.Goals as goal

pub returns-then-is_some-clause-refused : goal.returns-then-is_some-clause-refused
returns-then-is_some-clause-refused c =
    let served = c.in_ok-served.served in
    let has : is_some served.policy ≡ true = sym c.is_some.ensures ∙ c.if-is_some.true in
    inr (record {
      fits = c.in_ok-served.ensures.fits;
      session = served.session;
      policy = served.policy;
      stands = c.in_ok-served.ensures.stands;
      broken = not_served served.session served.policy has;
    })

pub returns-clause-refused : goal.returns-clause-refused
returns-clause-refused c =
    let served = c.in_ok-served.served in
    let lacks : is_some served.policy ≡ false = sym c.is_some.ensures ∙ c.if-is_some.false in
    weaker (BreaksInRun served.session served.policy) (Deserves BreaksInServe c.args.bytes.now)
    (λ r broken. inr (record {
      fits = c.in_ok-served.ensures.fits;
      session = served.session;
      policy = served.policy;
      stands = c.in_ok-served.ensures.stands;
      broken = as_in_run served.session served.policy r lacks broken;
    }))
    c.in-Err.unread c.in-Err.ensures.refused

pub returns-in-Ok-clause-servable : goal.returns-in-Ok-clause-servable
returns-in-Ok-clause-servable c =
    let served = c.in_ok-served.served in
    let read = c.in-Ok.field-0 in
    let none = no_policy served.policy (sym c.is_some.ensures ∙ c.if-is_some.false) in
    let same = sym c.in-Ok.ensures.session in record {
      fits = c.in_ok-served.ensures.fits;
      stands = subst (λ session. StandsForSession c.args.bytes.now session None) same
          (subst (StandsForSession c.args.bytes.now served.session) none c.in_ok-served.ensures.stands);
      steps = read.steps.items;
      runs = subst (λ session. AreSteps session None read.steps.items) same
          (subst (λ policy. AreSteps served.session policy read.steps.items) none c.in-Ok.ensures.runs);
    }
