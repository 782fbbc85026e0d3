use Rattle.std.proofs.Common.{◌≡◌, true, false, take, subst, sym, ◌∙◌}
use Rattle.std.specs.List.{list_any}
use Rattle.std.specs.Str.{bytes_eq}
use Rattle.script_lang.specs.Document.{TellsFault}
use Rattle.script_lang.proofs.BoardNames.{past_board, first_board}
use Rattle.script_lang.proofs.document.check_names.Goals as goal

pub returns-then-has_name_of-clause-first : goal.returns-then-has_name_of-clause-first
returns-then-has_name_of-clause-first c =
    let old : list_any (λ other. bytes_eq other.name c.index-boards-i.result.name) (take c.loop-i.i c.args.boards.now)
    ≡ true = sym c.has_name_of.ensures ∙ c.if-has_name_of.true in
    subst (λ faults. TellsFault faults c.refused_name.result) c.loop-i.invariant
    (first_board c.args.boards.now c.loop-i.i c.index-boards-i.result c.refused_name.result c.loop-i-test.true
    c.index-boards-i.is old c.refused_name.ensures)

pub loop-i-preserved : goal.loop-i-preserved
loop-i-preserved c =
    let new : list_any (λ other. bytes_eq other.name c.index-boards-i.result.name) (take c.loop-i.i c.args.boards.now)
    ≡ false = sym c.has_name_of.ensures ∙ c.if-has_name_of.false in
    sym (past_board c.args.boards.now c.loop-i.i c.index-boards-i.result c.loop-i-test.true c.index-boards-i.is new)
    ∙ c.loop-i.invariant
