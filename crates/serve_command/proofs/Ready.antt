-- A session that can be served is one whose boards can be reached.
use Rattle.std.proofs.Common.{ℕ, List, arith}
use Rattle.script_lang.specs.declared.session.Session.{Session}
use Rattle.script_lang.specs.Limits.{IsWithin}
use Rattle.session_input.specs.Deserved.{IsServable, session_part}
use Rattle.run_laws.proofs.Buses.{all_made, all_reached}
use Rattle.serve_command.specs.Below.{RangesNameWords}
use Rattle.serve_command.specs.Steps.{MayServe}

pub may_serve : RangesNameWords → (bytes : List ℕ) (session : Session)
    → IsServable bytes session → IsWithin session → MayServe session
may_serve words bytes session can within = record {
  few_boards = let few_boards = within.few_boards in omega arith;
  reached = all_reached session.boards
      (all_made session.boards within.boards can.runs.boards.buses)
      (words (session_part can.stands.document) session can.stands.is_session);
}
