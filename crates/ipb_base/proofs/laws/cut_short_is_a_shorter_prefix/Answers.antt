use Rattle.std.proofs.Common.{◌++◌, length, take, drop, sym, ◌∙◌, ap, take-append-drop}
use Rattle.std.proofs.Math.Seq.{take-append_seam}
use Rattle.ipb_base.proofs.laws.cut_short_is_a_shorter_prefix.Goals as goal

-- the rest is what was cut off
pub returns-clause-prefix : goal.returns-clause-prefix
returns-clause-prefix c front whole cut = (
  drop cut.0 whole,
  sym (take-append-drop cut.0 whole)
      ∙ ap (λ xs. xs ++ drop cut.0 whole) (sym cut.2),
)

pub returns-clause-only : goal.returns-clause-only
returns-clause-only c front whole prefix shorter =
    (length front, shorter, sym (ap (take (length front)) prefix.1 ∙ take-append_seam front prefix.0))
