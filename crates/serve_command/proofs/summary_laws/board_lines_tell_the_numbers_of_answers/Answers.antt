use Rattle.std.proofs.Common.{◌≡◌, ℕ, ◌+◌, Some, sym, subst, arith}
use Rattle.std.specs.List.{slice_get}
use Rattle.session_serve.specs.Boards.{states_of}
use Rattle.serve_command.specs.Answers.{AllTellAnswers}
use Rattle.serve_command.proofs.Asked.{all_asked}
use Rattle.serve_command.proofs.BoardLines.{all_tell}
use Rattle.serve_command.proofs.Whole.{all_whole}
use Rattle.serve_command.proofs.summary_laws.board_lines_tell_the_numbers_of_answers.Goals as goal

pub returns : goal.returns
returns c = λ settings specs links came back connections lines is memory written.
    let whole = all_whole (states_of is.boards) 1 is.conversations came back connections is.exchanged memory written in
    let asked = all_asked (states_of is.boards) 1 is.conversations came back connections is.exchanged in
    subst (AllTellAnswers (states_of is.boards) is.conversations 0) (sym is.lines')
    (all_tell c.a_board_line_counts_the_bodies_of_its_connections.ensures.live is.boards is.conversations whole
    asked is.asked 0 specs is.boards
    (λ i b there. let same : i ≡ 0 + i = omega arith in subst (λ (n : ℕ). slice_get is.boards n ≡ Some b) same there))
