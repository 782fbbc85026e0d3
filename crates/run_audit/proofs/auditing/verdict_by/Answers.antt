use Rattle.run_audit.specs.declared.verdict.AuditWhy.TheVariants.{Count, Partial, Place, Result}
use Rattle.run_audit.proofs.Verdicts.{Whole, breaks_count, breaks_partial, breaks_place, breaks_result, fits, made_are}
use Rattle.run_audit.proofs.Verdicts.{whole_of}
use Rattle.run_audit.proofs.auditing.verdict_by.Goals.{After-first_miscounted, After-first_misplaced}
use Rattle.run_audit.proofs.auditing.verdict_by.Goals as goal

-- ---- what was found so far, for all that comes after it

no_partial : (c : After-first_misplaced) → Whole c.args.session.now c.args.scripts.now c.args.shown.now Partial
no_partial c =
    whole_of c.args.session.now c.args.scripts.now c.args.shown.now Partial
    (c.first_partial.ensures c.args.session.now.boards c.args.scripts.now c.args.shown.now
    (made_are c.as_slice-made.ensures.value c.requires.asked)) c.in_default.is

no_place : (c : After-first_miscounted) → Whole c.args.session.now c.args.scripts.now c.args.shown.now Place
no_place c =
    whole_of c.args.session.now c.args.scripts.now c.args.shown.now Place
    (c.in_ok-line.ensures c.args.session.now.boards c.args.scripts.now
    (made_are c.as_slice-made.ensures.value c.requires.asked)) c.in_default-2.is

-- ---- the verdicts

pub returns-in-Some : goal.returns-in-Some
returns-in-Some c =
    λ text is.
    breaks_partial c.args.session.now c.args.scripts.now c.args.shown.now text is
    (c.first_partial.ensures c.args.session.now.boards c.args.scripts.now c.args.shown.now
    (made_are c.as_slice-made.ensures.value c.requires.asked)) c.in-Some.is

pub returns-in-Some-2 : goal.returns-in-Some-2
returns-in-Some-2 c =
    λ text is.
    breaks_place c.args.session.now c.args.scripts.now c.args.shown.now text is
    (no_partial (goal.at.returns-in-Some-2 c).After-first_misplaced)
    (c.in_ok-line.ensures c.args.session.now.boards c.args.scripts.now
    (made_are c.as_slice-made.ensures.value c.requires.asked)) c.in-Some-2.is

pub returns-in-Some-3 : goal.returns-in-Some-3
returns-in-Some-3 c =
    λ text is.
    let past = goal.at.returns-in-Some-3 c in
    breaks_result c.args.session.now c.args.scripts.now c.args.shown.now text is (no_partial past.After-first_misplaced)
    (no_place past.After-first_miscounted) (c.in_ok-line-2.ensures text c.args.shown.now is c.requires.asked)
    c.in-Some-3.is

pub returns-in-Some-miscounted : goal.returns-in-Some-miscounted
returns-in-Some-miscounted c =
    λ text is.
    let past = goal.at.returns-in-Some-miscounted c in
    let no_wrong = whole_of c.args.session.now c.args.scripts.now c.args.shown.now Result
    (c.in_ok-line-2.ensures text c.args.shown.now is c.requires.asked) c.in_default-3.is in
    breaks_count c.args.session.now c.args.scripts.now c.args.shown.now text is (no_partial past.After-first_misplaced)
    (no_place past.After-first_miscounted) no_wrong
    (c.in_ok-miscounted.ensures c.args.session.now.boards (made_are c.as_slice-made.ensures.value c.requires.asked))
    c.in-Some-miscounted.is

pub returns-in-None : goal.returns-in-None
returns-in-None c =
    λ text is.
    let past = goal.at.returns-in-None c in
    let no_wrong = whole_of c.args.session.now c.args.scripts.now c.args.shown.now Result
    (c.in_ok-line-2.ensures text c.args.shown.now is c.requires.asked) c.in_default-3.is in
    fits c.args.session.now c.args.scripts.now c.args.shown.now text is (no_partial past.After-first_misplaced)
    (no_place past.After-first_miscounted) no_wrong
    (whole_of c.args.session.now c.args.scripts.now c.args.shown.now Count
    (c.in_ok-miscounted.ensures c.args.session.now.boards (made_are c.as_slice-made.ensures.value c.requires.asked))
    c.in-None.is)
