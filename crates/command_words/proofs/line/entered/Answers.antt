use Rattle.std.proofs.Common.{rules, ◌≡◌, ◌∙◌, sym, ap, ap₂, codes}
use Rattle.clap.specs.Words.{first_of}
use Rattle.command_words.specs.Forms.{check, serve, load}
use Rattle.command_words.specs.App.{name_of, rows_of_form}
use Rattle.command_words.proofs.Walks.{table_is, port_is, count_is, load_is}
use Rattle.command_words.proofs.Strays.{is_check, is_serve, is_load}
use Rattle.command_words.proofs.line.entered.Goals as goal

pub returns-in-check : goal.returns-in-check
returns-in-check c = λ s one named rows.
    let name_is : codes "check" ≡ name_of s = search (rules, named) in
    let found = is_check s one name_is in
    let word_is =
    c.word.ensures found.0 (ap (first_of (codes "table")) (rows ∙ ap rows_of_form found.1) ∙ table_is found.0) in
    ap check word_is ∙ sym found.1

pub returns-in-serve : goal.returns-in-serve
returns-in-serve c = λ s one named rows.
    let name_is : codes "serve" ≡ name_of s = search (rules, named) in
    let found = is_serve s one name_is in
    let rows_are = rows ∙ ap rows_of_form found.2 in
    let port = c.word-in-serve.ensures found.0 (ap (first_of (codes "port")) rows_are ∙ port_is found.0 found.1) in
    let count = c.word-in-serve-2.ensures found.1 (ap (first_of (codes "count")) rows_are ∙ count_is found.0 found.1) in
    ap₂ serve port count ∙ sym found.2

pub returns-in-load : goal.returns-in-load
returns-in-load c = λ s one named rows.
    let name_is : codes "load" ≡ name_of s = search (rules, named) in
    let found = is_load s one name_is in
    let word_is =
    c.word-in-load.ensures found.0
    (ap (first_of (codes "count")) (rows ∙ ap rows_of_form found.1) ∙ load_is found.0) in
    ap load word_is ∙ sym found.1
