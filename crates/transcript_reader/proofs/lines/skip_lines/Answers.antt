use Rattle.std.proofs.Common.{ℕ, List, ap, ◌∙◌, drop}
use Rattle.transcript_reader.specs.Entries.{lines_of}
use Rattle.transcript_reader.proofs.LineCuts.{one_fewer}
use Rattle.transcript_reader.proofs.lines.skip_lines.Goals as goal

pub loop-i-preserved : goal.loop-i-preserved
loop-i-preserved c =
    c.behind_line-rest.ensures ∙ (ap (λ (lines : List (List ℕ)). drop 1 lines) c.loop-i.invariant
    ∙ one_fewer (lines_of c.args.text.now) c.loop-i._i)
