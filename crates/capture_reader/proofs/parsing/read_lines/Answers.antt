use Rattle.std.proofs.Common.{◌++◌, ◌∷◌, List, ℕ, ap, sym, ◌∙◌}
use Rattle.capture_reader.specs.Parsing.{line_at}
use Rattle.ipb_base.proofs.Fronts.{all_step}
use Rattle.capture_reader.proofs.LineLaws.{lines_shorten, lines_more}
use Rattle.capture_reader.proofs.parsing.read_lines.Goals as goal

pub lines-smaller : goal.lines-smaller
lines-smaller c =
    let first = c.in-Some.first in
    lines_shorten c.args.sent c.lines.rest.now first.rest.now (first.header ∷ c.next_line.new.words.items)
    (rw c.in-Some.is at c.in_ok-first.ensures)

pub lines-preserved : goal.lines-preserved
lines-preserved c =
    let first = c.in-Some.first in
    let e = rw c.in-Some.is at c.in_ok-first.ensures in
    record {
      words = lines_more c.args.sent _ c.lines.out.items _ _ first.header c.next_line.new.words.items c.lines.rest.now first.rest.now e
          c.in_ok-push.ensures.items
          (c.in_ok-extend_from_slice.ensures.items ∙ ap (λ (words : List ℕ). c.push.new.self.items ++ words) c.as_slice.ensures.value)
          c.lines.invariant.words;
      behind = ap (λ (read : List (List ℕ) × List ℕ). read.1)
          (sym (all_step (line_at c.args.sent) (lines_shorten c.args.sent) c.lines.rest.now first.rest.now
          (first.header ∷ c.next_line.new.words.items) e))
          ∙ c.lines.invariant.behind;
    }
