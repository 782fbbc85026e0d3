use Rattle.std.proofs.Common.{arith}
use Rattle.run_laws.proofs.Buses.{all_made, all_reached}
use Rattle.run_laws.proofs.laws.steps_that_fit_may_be_run.Goals as goal

pub returns : goal.returns
returns c = λ session steps can few_clients packed few limits short.
    let within = c.a_session_keeps_its_limits.ensures can.document session can.is_session in record {
      few_boards = let few_boards = within.few_boards in omega arith;
      reached = all_reached session.boards (all_made session.boards within.boards can.buses)
          (c.the_ranges_of_a_session_name_words.ensures can.document session can.is_session);
      can = record {
        few_clients = few_clients;
        packed = packed;
        few = few;
        executable = can.executable;
        limits = limits;
      };
      short = short;
    }
