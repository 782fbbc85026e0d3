use Rattle.std.proofs.Common.{[], rules}
use Rattle.session_input.specs.Deserved.{Deserves, BreaksInCheck, IsListed}
use Rattle.command_terms.specs.Outside.{no_pairs}
use Rattle.ipbus_program.proofs.Listings.{refused_answer, listed_answer}
use Rattle.ipbus_program.proofs.check.check_document.Goals as goal

pub returns-in-Ok : goal.returns-in-Ok
returns-in-Ok c =
    let listed : IsListed c.args.bytes.now c.args.table.now c.in-Ok.index = search rules in
    record {
      owed = listed_answer c.args.bytes.now c.args.table.now (no_pairs []) c.in-Ok.index c.listing.result listed
          c.listing.ensures.text c.listing.ensures.status;
    }

pub returns-in-Err-Refused : goal.returns-in-Err-Refused
returns-in-Err-Refused c =
    let deserved : Deserves (BreaksInCheck c.args.table.now) c.args.bytes.now c.in-Err-Refused.refusal = search rules in
    record {
      owed = refused_answer c.args.bytes.now c.args.table.now (no_pairs []) c.in-Err-Refused.refusal c.refused.result
          deserved c.refused.ensures.status c.refused.ensures.text;
    }
