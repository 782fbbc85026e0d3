use Rattle.std.proofs.Common.{◌≡◌, [], subst, ◌∙◌}
use Rattle.toml.specs.View.{table_view}
use Rattle.script_lang.specs.Document.{TellsFault, duplicates, misfits, size_faults}
use Rattle.script_lang.specs.Sessions.{boards_of}
use Rattle.script_lang.proofs.HandedOn.{handed_on}
use Rattle.script_lang.proofs.InOrder.{all_faultless, at_counts, at_names, at_shape, at_tables}
use Rattle.script_lang.proofs.document.tables_and_boards.Goals as goal

pub returns-in_err-check_shape-clause-first : goal.returns-in_err-check_shape-clause-first
returns-in_err-check_shape-clause-first c =
    let document = table_view c.args.document.now in
    at_shape document c.from_residual.result
    (handed_on (TellsFault (misfits document)) c.from_residual.result c.in_err-check_shape.field-0.0
    c.from_residual.ensures.1 c.in_err-check_shape.ensures.first)

pub returns-in_err-check_counts-clause-first : goal.returns-in_err-check_counts-clause-first
returns-in_err-check_counts-clause-first c =
    let document = table_view c.args.document.now in
    let handed = c.from_residual-in_err-check_counts in
    at_counts document c.in_ok-check_shape.ensures.none handed.result
    (handed_on (TellsFault (size_faults document)) handed.result c.in_err-check_counts.field-0.0 handed.ensures.1
    c.in_err-check_counts.ensures.first)

pub returns-in_err-check_names-clause-first : goal.returns-in_err-check_names-clause-first
returns-in_err-check_names-clause-first c =
    let document = table_view c.args.document.now in
    let handed = c.from_residual-in_err-check_names in
    let same : c.as_slice.result.now ≡ boards_of document = c.as_slice.ensures ∙ c.in_ok-boards.ensures in
    at_names document c.in_ok-check_shape.ensures.none c.in_ok-check_counts.ensures.none handed.result
    (handed_on (TellsFault (duplicates [] 0 (boards_of document))) handed.result c.in_err-check_names.field-0.0
    handed.ensures.1
    (subst (λ boards. TellsFault (duplicates [] 0 boards) c.in_err-check_names.field-0.0) same
    c.in_err-check_names.ensures.first))

pub returns-in-Err-clause-first : goal.returns-in-Err-clause-first
returns-in-Err-clause-first c =
    let same : c.as_slice.result.now ≡ boards_of (table_view c.args.document.now) =
    c.as_slice.ensures ∙ c.in_ok-boards.ensures in
    at_tables (table_view c.args.document.now) c.in_ok-check_shape.ensures.none c.in_ok-check_counts.ensures.none
    (subst (λ boards. duplicates [] 0 boards ≡ []) same c.in_ok-check_names.ensures.none)
    c.in-Err.refusal c.in-Err.ensures.first

pub returns-in-Ok-clause-none : goal.returns-in-Ok-clause-none
returns-in-Ok-clause-none c =
    let same : c.as_slice.result.now ≡ boards_of (table_view c.args.document.now) =
    c.as_slice.ensures ∙ c.in_ok-boards.ensures in
    all_faultless (table_view c.args.document.now) c.in_ok-check_shape.ensures.none c.in_ok-check_counts.ensures.none
    (subst (λ boards. duplicates [] 0 boards ≡ []) same c.in_ok-check_names.ensures.none)
    c.in-Ok.ensures.none
