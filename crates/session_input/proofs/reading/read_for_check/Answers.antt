use Rattle.std.proofs.Common.{inr}
use Rattle.session_input.specs.Deserved.{Deserves, BreaksInCheck, TellsCompile}
use Rattle.session_input.proofs.Listed.{listed}
use Rattle.session_input.proofs.Told.{told_by}
use Rattle.session_input.proofs.reading.read_for_check.Goals as goal

pub returns-clause-refused : goal.returns-clause-refused
returns-clause-refused c =
    let listed = c.in_ok-listed.listed in
    let session = listed.session in
    let root = c.args.table.now in
    told_by c.index_of.result (TellsCompile session.tables root) (Deserves (BreaksInCheck root) c.args.bytes.now)
    (λ r broken. inr (record {
      fits = c.in_ok-listed.ensures.fits;
      session = session;
      policy = listed.policy;
      stands = c.in_ok-listed.ensures.stands;
      broken = broken;
    }))
    c.index_of.ensures.refused

pub returns-clause-listed : goal.returns-clause-listed
returns-clause-listed c =
    let read = c.in_ok-listed in
    listed c.args.bytes.now c.args.table.now read.listed.session read.listed.policy c.index_of.result read.ensures.fits
    read.ensures.stands c.index_of.ensures.index c.index_of.ensures.kept
