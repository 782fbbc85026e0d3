use Rattle.board_bus.proofs.Writes.{port_done, port_written, port_refused}
use Rattle.board_bus.proofs.laws.a_port_write_leaves_its_last_word.Goals as goal

pub returns-clause-done : goal.returns-clause-done
returns-clause-done c = λ cells base last words allowed. port_done words cells base last allowed

pub returns-clause-last : goal.returns-clause-last
returns-clause-last c =
    λ cells base last words cell there allowed. (port_written words cells base last cell there allowed).holds

pub returns-clause-refused : goal.returns-clause-refused
returns-clause-refused c = port_refused
