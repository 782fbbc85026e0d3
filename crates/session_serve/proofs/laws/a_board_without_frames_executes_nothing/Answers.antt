use Rattle.session_serve.proofs.Executing.{without_frames}
use Rattle.session_serve.proofs.laws.a_board_without_frames_executes_nothing.Goals as goal

pub returns : goal.returns
returns c = without_frames
